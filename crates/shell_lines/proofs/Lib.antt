pub mod Numbers
pub mod Powers
pub mod Cuts
pub mod CommandLaws
