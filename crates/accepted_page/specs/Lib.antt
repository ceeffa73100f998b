pub mod AcceptedPage
