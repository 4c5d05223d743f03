pub mod Code
pub mod BigEndian
pub mod Cashflows
pub mod RefusalText
pub mod Runs
pub mod CashflowLaws
pub mod BigEndians
