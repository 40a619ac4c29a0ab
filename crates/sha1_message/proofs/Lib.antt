pub mod StreamLaws
pub mod OneshotLaws
