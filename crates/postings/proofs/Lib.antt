pub mod FirstPromise
pub mod SecondPromise
pub mod SeekHits
pub mod SingleCalls
pub mod StaysInBlock
pub mod ThirdPromise
mod ValueNumbers
pub mod VisitedBlocks
pub mod WorkedCalls
pub mod WriterManners
mod WriterNumbers
