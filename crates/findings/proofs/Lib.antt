pub mod ByNumber
pub mod Numbers
pub mod No
pub mod There
pub mod First
