pub mod Exact
pub mod Rep
pub mod Statements
pub mod Calls
pub mod Bursts
