-- each export asks nothing and leaves one answer
pub mod OneAnswer
