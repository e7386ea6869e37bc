pub mod Flags
pub mod KindLaws
pub mod SlotLaws
pub mod WalkLaws
pub mod RunLaws
pub mod FreshLaws
pub mod AdmitLaws
pub mod WordLaws
