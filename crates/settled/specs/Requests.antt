-- What requests of document 02 say over several crates.
pub mod Written
pub mod Driven
pub mod Courses
pub mod Tables
pub mod Rejections
