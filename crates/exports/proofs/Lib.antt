mod EachTaken
pub mod ToldApart
