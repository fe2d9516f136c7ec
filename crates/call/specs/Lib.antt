-- What a call is, what it says, and what holds of every call.
pub mod Refusal
pub mod Said
pub mod Once
pub mod Port
pub mod PortLaws
pub mod Edition
