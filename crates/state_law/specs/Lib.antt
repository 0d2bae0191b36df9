pub mod Sources
pub mod Truth
pub mod Law
pub mod Made
pub mod Trees
pub mod Told
