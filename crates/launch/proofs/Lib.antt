pub mod LaunchLaws
