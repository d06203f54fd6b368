pub mod Told
pub mod Count
pub mod Calls
pub mod Streams
