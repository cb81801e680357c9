pub mod Finding
pub mod Statement
-- bytes of two receivers, worked out by hand: cases
pub mod Cases
