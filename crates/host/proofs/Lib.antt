pub mod DoorLaws
pub mod OwnerLaws
