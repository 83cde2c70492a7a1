pub mod EachLaws
pub mod LineLaws
pub mod PairLaws
pub mod FewLaws
pub mod DeskLaws
pub mod FitLaws
