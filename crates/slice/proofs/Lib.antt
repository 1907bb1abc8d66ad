-- The laws of a record and of a slice, main results first.
-- each public promise asks nothing and leaves one answer
pub mod OneAnswer
-- what a record and a slice that pass the check are, field by field
pub mod Sound
-- what a check returns is told apart by its numbers
pub mod Replies
-- keys are in a strict total order, and `same_key` tells equal keys
pub mod Keys
-- what right times mean for each kind, as facts about numbers
pub mod Times
-- what a record's slice mentions, and the rules on times and content read from it
pub mod View
-- the check, one test after the other, as the code makes it
pub mod Stages
-- the check of records one behind the other, one record at a time
pub mod Reviews
