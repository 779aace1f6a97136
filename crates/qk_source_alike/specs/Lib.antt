pub mod Every
pub mod Source_rules
pub mod Accepted
pub mod Laws
