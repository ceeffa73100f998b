pub mod RecordFigures
