pub mod SheetHolds
pub mod SheetSteps
