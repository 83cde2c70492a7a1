pub mod ChangeLaws
pub mod JudgedLaws
pub mod MapLaws
pub mod OutcomeLaws
pub mod PutLaws
pub mod Reach
pub mod SoundAfter
pub mod TailLaws
