pub mod Modes
pub mod Markup
pub mod Broken
pub mod Rooms
pub mod Borders
