pub mod Joining
pub mod Normal
pub mod Combine
pub mod Replace
pub mod Outcomes
pub mod Laws
pub mod Examples
pub mod Steps
