pub mod AnswerTells
pub mod BlockPlaces
pub mod ByValue
pub mod EnoughRoom
pub mod ImagePieces
pub mod WholeList
