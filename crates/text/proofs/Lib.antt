-- The laws of the listing, main results first.
-- each public promise asks nothing and leaves one answer and one content of the lent memory
pub mod OneAnswer
-- the listing is the text of the records that the derivation left
pub mod ListingRecords
-- what a listing returns is told apart by its numbers
pub mod Replies
-- how long a listing can be
pub mod Lengths
-- text written into lent bytes, one piece behind the other
pub mod TextWriting
