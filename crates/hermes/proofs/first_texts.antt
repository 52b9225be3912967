pub mod Ascii
pub mod Compiling
pub mod Finished
pub mod generating
pub mod reading
pub mod running
