pub mod Launch
