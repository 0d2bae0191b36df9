pub mod Numbers
pub mod Front
pub mod Left
pub mod Law
