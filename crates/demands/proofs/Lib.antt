-- The demands on the library as a whole, main results first.
-- the page: what is demanded, each theorem proved by citing
pub mod Demands
-- each call is refused by its tests, in their order
pub mod Numbers
-- the standing at an instant as tests: 21, 20, 22
pub mod Standing
