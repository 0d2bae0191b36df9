pub mod Histories
pub mod PartyLaws
