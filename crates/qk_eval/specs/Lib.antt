pub mod Seeing
pub mod Placing
pub mod Standing
pub mod Lists
pub mod Called
