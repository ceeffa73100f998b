pub mod LevelColumns
