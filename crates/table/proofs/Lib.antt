-- The laws of a table and of arrivals, main results first.
-- each public promise asks nothing and leaves one answer and one content of the lent table
pub mod OneAnswer
-- slices that agree and fit make the same bytes in any order: those of the table worked out afresh
pub mod AnyOrder
-- which answer each arrival gets: one of the four accepted ones, 17 or 18
pub mod Decides
-- what a new table and an arrival return is told apart by its numbers
pub mod Replies
-- a table that passes 1 to 7 passes them after any arrival
pub mod Stays
-- what any arrival leaves as it was, and what it makes of the records
pub mod ArrivalEffect
-- deliveries to a table are deliveries to its list of records; what a new table is
pub mod Deliveries
-- what a table that passes 1 to 7 is, and what that leaves of an arrival's answer
pub mod Sound
-- what a table keeps when other records are written into it
pub mod SameHeader
-- the answer to a record, from the stored record of its key, the corrections and the room
pub mod Answers
-- the new table, written part by part
pub mod NewTable
-- a table with other records, from the bytes that are moved and written
pub mod TableBytes
-- the search by key: the place it ends at, and what it tells of the record stored there
pub mod Search
-- the check of the records one after the other, and of neighbours
pub mod Walks
-- the records of a table and its bytes, each from the other
pub mod Records
