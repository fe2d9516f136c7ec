-- The listing of a log: its text, its room, and what writing it into a buffer leaves there; and the text of a summary.
pub mod Text
pub mod TextLaws
pub mod Listing
pub mod ListingLaws
pub mod Lines
pub mod Room
pub mod Listed
pub mod Once
pub mod SummaryText
pub mod SummaryLaws
