pub mod BlockQuestions
pub mod TakeValuesCases
