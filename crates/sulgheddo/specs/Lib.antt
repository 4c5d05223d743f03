pub mod Clients
pub mod Lines
pub mod Runs
pub mod Tables
