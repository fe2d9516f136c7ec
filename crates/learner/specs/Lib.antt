-- What the learners share.
pub mod Ranges
pub mod Confidence
pub mod Course
pub mod CourseLaws
