pub mod Accounts
pub mod Tokens
pub mod Queues
pub mod Returns
pub mod Ready
pub mod Ran
pub mod Making
pub mod Codes
