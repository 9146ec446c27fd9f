pub mod CodedCalls
pub mod ModelAnswers
pub mod RunCases
