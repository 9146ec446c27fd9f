pub mod FirstPromise
pub mod MixedCalls
pub mod RunCalls
pub mod ThirdPromise
pub mod WriterCalls
