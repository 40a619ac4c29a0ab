pub mod Respond
