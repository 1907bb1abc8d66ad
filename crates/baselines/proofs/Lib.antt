-- The laws of the derivation, main results first.
-- each public promise asks nothing and leaves one answer and one content of the lent memory
pub mod OneAnswer
-- the derived table read back answers as the original does, and deriving again gives the same table (demand 2)
pub mod ReadBack
-- the derived records say the derived baselines, rise and pass the slice check: 24 is never returned
pub mod Passes
-- what a derivation returns is told apart by its numbers
pub mod Replies
-- the derivation, one test after the other; the derived table is sound, has the feature of the original, and holds the derived
-- baselines
pub mod DerivedTable
-- the records that are drawn, and the lines that they are drawn from
pub mod Drawn
-- one turn of a sweep, by the times that it carries
pub mod Going
-- the walk from one change instant to the next, and the records of those behind it
pub mod Walked
-- a sweep over the events of a table tells the permanent state at each change instant
pub mod Swept
-- what the events of a sound table are, in order
pub mod Events
-- what a sweep tells from times alone, and both of its lines behind one more slice
pub mod Lines
-- the record of a line, and what writing into it makes of the state that it says
pub mod Carried
-- a slice written as a record is read back as that slice
pub mod Laid
-- every change instant of a table is below "none"; one turn of each loop that notes the events of a table
pub mod Noted
