pub mod Field
pub mod Fields
pub mod Number
pub mod RecordAnswers
pub mod Cut
pub mod RoundTrip
