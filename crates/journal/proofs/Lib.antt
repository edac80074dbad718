pub mod Marking
pub mod Committing
pub mod Restarting
pub mod Promising
