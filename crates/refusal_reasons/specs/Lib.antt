pub mod RefusalReasons
