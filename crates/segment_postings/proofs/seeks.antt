pub mod SeekCases
