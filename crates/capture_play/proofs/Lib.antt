pub mod PlayLaws
