pub mod Page
pub mod RecordInside
pub mod RecordsInside
