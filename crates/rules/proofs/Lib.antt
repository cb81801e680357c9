-- The laws of document 01's definitions, from what they rest on to what they claim; each file begins with what it says.

-- places, what stands twice, kinds of sequences, what is heard
pub mod PlaceLaws
pub mod Occurs
pub mod KindLaws
pub mod Readable
-- what an event does, said once: to a slot (Outcome), by rules b and c (Ruling), at all (Effect)
pub mod Base
pub mod Outcome
pub mod Ruling
pub mod Pieces
pub mod OneSlot
pub mod Asked
pub mod Accepted
pub mod Spoken
pub mod Effect
-- time: the order of waits, the moment of an event
pub mod Order
pub mod Moments
-- the run and the list: stops and charges, who talks, the tenths
pub mod Run
pub mod Hears
pub mod Talked
pub mod Tenths
-- what every event keeps: soundness
pub mod Once
pub mod Walk
pub mod Whole
pub mod WholeLater
pub mod Stored
pub mod Kept
-- the claims on what is sent: payloads, eight actions, answers; the others stand in `rules_theorems`
pub mod Payloads
pub mod SentLaws
pub mod Eight
pub mod Answered
-- the tables, computed
pub mod Tested
pub mod Computed
