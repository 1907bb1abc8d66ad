-- The laws of events, main results first.
-- each public promise asks nothing and leaves one answer
pub mod OneAnswer
-- events in order are the same events, by rising time, and those of one time as they stood
pub mod Ordering
-- merging two parts in order gives the whole in order, and events that rise are in order as they stand
pub mod Merged
-- events before a pivot in order, and then the others in order, are all in order
pub mod Parts
-- events passed down among others come to their places, and events without a fall rise
pub mod Passes
-- two halves, each put in order where it stands, and joined
pub mod Halves
-- whether events rise, and how many fall, told by each and the next
pub mod Rising
-- one turn of each loop
pub mod Steps
