pub mod ListedLaws
pub mod MondoLaws
pub mod RingTails
pub mod SendLaws
