pub mod Output
pub mod Respond
pub mod Say
pub mod Console
