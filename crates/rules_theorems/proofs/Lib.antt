-- What is claimed of every run beside stops, charges, tenths and soundness; each file begins with what it says.

-- every entry of a run; what an event does to any one slot; what the reading means
pub mod Entries
pub mod Course
pub mod Laws
-- order and counts, the numbers of a charge, the words of a line, no channel idle
pub mod Stopped
pub mod Orderly
pub mod Charged
pub mod Numbers
pub mod Literal
pub mod Idle
-- calls from ashore: the ringing, the line, the ship that is called
pub mod Ringing
pub mod Released
pub mod Offered
-- what is repeated
pub mod Calm
pub mod Repeats
