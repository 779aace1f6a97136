pub mod Trees_stand
pub mod Sessions_stand
pub mod Laws
