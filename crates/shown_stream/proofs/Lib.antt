pub mod Hows
pub mod Tables
pub mod Ends
pub mod GoodTables
pub mod GoodEnds
