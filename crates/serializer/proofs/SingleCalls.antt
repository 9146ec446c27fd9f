pub mod AllDocuments
pub mod BlocksAhead
pub mod WritesList
pub mod TakenDocuments
