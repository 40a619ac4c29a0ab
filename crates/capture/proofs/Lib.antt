pub mod HeadLaws
pub mod Chunks
pub mod RecordLaws
pub mod Words
pub mod ExtentLaws
pub mod CaptureHolds
