pub mod Stamps
pub mod State
pub mod Banks
pub mod Rep
