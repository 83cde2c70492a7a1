pub mod Asking
pub mod Feeding
pub mod Pieces
pub mod Replies
