pub mod RefusalNumbers
