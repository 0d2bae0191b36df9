mod Cuts
pub mod Laws
pub mod Long
