pub mod Middle
pub mod Walks
pub mod Functions
pub mod Alone
