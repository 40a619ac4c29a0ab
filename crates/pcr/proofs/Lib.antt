pub mod BankAt
pub mod MaskTable
