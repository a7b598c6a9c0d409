pub mod Kinds
pub mod Clocks
pub mod Editions
pub mod Banks
pub mod Rules
pub mod Table
pub mod Earliest
pub mod Scaled
