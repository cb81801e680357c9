-- What a list of entries says, read with no rule and no station.
pub mod Book
pub mod Reading
pub mod ReadingLaws
pub mod LineWords
pub mod Repeated
pub mod BeingCalled
