pub mod Rooms
pub mod Putting
pub mod Acts
pub mod Turns
pub mod Ends
pub mod Loop
