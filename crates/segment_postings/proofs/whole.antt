pub mod ReadLoop
