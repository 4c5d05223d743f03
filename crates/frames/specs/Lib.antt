pub mod Instructions
pub mod Reading
pub mod Writing
pub mod Outcomes
pub mod Steps
pub mod Meaning
pub mod Distribution
