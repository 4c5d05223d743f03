pub mod Instructions
pub mod Refusals
pub mod Check
pub mod LawfulDeltas
pub mod Origins
pub mod Places
pub mod Meaning
