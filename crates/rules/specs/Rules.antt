-- The words of document 01, and its rules.

-- the words, and what symbols mean
pub mod Places
pub mod Words
pub mod Waits
pub mod Heard
pub mod Kinds
pub mod Actions
-- the rules: time and the slots, what each event does, actions handed out, answer numbers
pub mod Station
pub mod Sound
pub mod Requests
pub mod Ashore
pub mod Calls
pub mod Bytes
pub mod Verdict
pub mod Printed
