pub mod BlockPlaced
