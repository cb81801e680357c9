-- Document 01 as definitions, in the order in which to read them.

-- the words and the rules
pub mod Rules
-- the list alone
pub mod ListAlone
-- what is claimed of every run
pub mod Statement
-- runs and cases
pub mod Tables
