pub mod Trees
pub mod Same_arrows
pub mod Forms
pub mod Same_uses
pub mod Same_mentions
