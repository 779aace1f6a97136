-- The number of a counter is shown or it isn't.
use Rattle.std.proofs.Common.{◌≡◌, ℤ, true, false, [], refl}
use Rattle.qk_first.specs.Counter.{Counter}
use Rattle.qk_top.specs.Decimals.{number_text}
use Rattle.qk_top.specs.Blocks.{shown_text}

pub shown_there : (c : Counter) (n : ℤ) → c.shows ≡ true → shown_text c n ≡ number_text n
unfolding shown_text
shown_there c n h = rw h refl

pub not_shown : (c : Counter) (n : ℤ) → c.shows ≡ false → shown_text c n ≡ []
unfolding shown_text
not_shown c n h = rw h refl
