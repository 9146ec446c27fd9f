pub mod Laws
pub mod SingleCalls
