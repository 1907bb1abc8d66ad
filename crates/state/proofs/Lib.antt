-- The laws of the questions about an instant, main results first.
-- each public promise asks nothing and leaves one answer and one content of the lent memory
pub mod OneAnswer
-- an arrival changes an answer only within the reach of the slice or of the record that it replaces
pub mod Reach
-- the questions agree: each property of a snapshot is the part that the property question returns
pub mod Agrees
-- the snapshot and the property question are refused alike, but for the buffer
pub mod SameRefusals
-- what touches a property agrees with the property question, and changes only within reach
pub mod Touches
-- what the property question returns goes by the slices alone: the table, and the bytes of the last mention
pub mod PropertyBytes
-- what a question returns is told apart by its numbers
pub mod Replies
-- where a property begins, that it lies within its table, and the bytes there
pub mod PropertyPlace
-- the record written is that of the state: its life times and its eight properties
pub mod StateRecord
-- what one pass over a permanent table finds is the permanent state
pub mod OnePass
-- what the pass over a permanent table hands on to the search for the anchor
pub mod SurveyResult
-- the BASELINEs that one pass finds to hold are those that stand
pub mod Bases
-- the pass keeps, for each part, the mark of its latest mention
pub mod Marks
-- the BASELINEs of a permanent table stand in front
pub mod BaselinesFirst
-- the questions, one test after the other
pub mod Stages
-- the slices of a table are the views of its records, place by place
pub mod Slices
-- what a record's bytes say, field by field
pub mod Views
-- one turn of a loop over a table's records
pub mod Walks
-- one turn of such a loop, by the record that it read
pub mod Turns
-- the record of a state, property by property
pub mod RecordProperties
-- parts of a state's record, written one behind the other
pub mod Pasting
