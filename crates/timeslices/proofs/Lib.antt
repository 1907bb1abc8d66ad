-- The laws of the exported functions, main results first.
-- each exported promise asks nothing and leaves one answer and one content of the lent memory
pub mod OneAnswer
-- answers that cross as equal numbers are equal
pub mod Lossless
