pub mod Answers
pub mod AskLaws
pub mod FeedLaws
pub mod Fits
pub mod InParts
pub mod ReplyLaws
mod Seated
mod Serving
pub mod Whole
