pub mod Image
pub mod Layout
pub mod Module
pub mod Opening
pub mod Rules
