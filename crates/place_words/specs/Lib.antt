pub mod PlaceWords
