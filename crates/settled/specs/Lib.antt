-- Document 01's settled cases, the letter's three demands, the wrong filters that document 01 names, and what requests say over several crates: each stated and proved of the definitions that the code is proved equal to.
pub mod Cases
pub mod Demands
pub mod Wrong
pub mod Requests
