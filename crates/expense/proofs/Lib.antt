pub mod ReservesMost
