pub mod RefusedPage
