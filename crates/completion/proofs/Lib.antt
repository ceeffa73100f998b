pub mod PaymentsMost
