-- The laws of the Temporality Model on lists of slices, main results first.
-- derived BASELINEs read back give at each instant the state they derive from, and 20 where there was none
pub mod ReadBack
-- deriving from derived BASELINEs is not refused and gives them again
pub mod Again
-- a sweep over the slices in order of their begins tells the state of an instant, where two anchors meet, and the next change
-- instant
pub mod Sweep
-- the answer at an instant depends only on the slices that reach it
pub mod Reach
-- what touches a property, by the slices in reach; and how many slices are looked at from the end
pub mod Touched
-- one pass over the slices finds the last mention of each part
pub mod Latest
-- each part of a state is what the last slice that tells it says
pub mod Parts
-- the slices that make the permanent state, in their order, and what each property comes from
pub mod Line
-- the permanent state does not change between change instants, and there is none before the first
pub mod Steady
-- a derived BASELINE has right times (15) and content (16)
pub mod DerivedRules
-- the change instants rise, are given, and contain every time at which the state may change
pub mod Changes
-- the stretches from one change instant to the next, and the BASELINEs made of them
pub mod Stretches
-- what the other laws need of how long a BASELINE holds and how far it reaches
pub mod Periods
-- the order by instant and then sequence number is strict and total
pub mod Orders
-- the two lines that a sweep carries, and the permanent state read off them
pub mod SweepLines
-- what is kept of a list, and what is in joined lists
pub mod Selection
