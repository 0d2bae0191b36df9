pub mod Maps
pub mod Uses
