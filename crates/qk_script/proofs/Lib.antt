pub mod Cuts
pub mod LineTexts
pub mod Events
pub mod Items
pub mod OneItems
pub mod Apart
