mod Cases
mod Images
mod Walks
