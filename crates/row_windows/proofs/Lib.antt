pub mod Seams
pub mod QuoteScans
pub mod Stretches
pub mod Later
pub mod Cuts
pub mod InFront
pub mod Marks
