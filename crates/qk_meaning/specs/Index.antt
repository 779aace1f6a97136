-- What the index of built files tells of an application, as far as its meaning needs it.
use Rattle.std.specs.Prelude.{Bool, true, false}
use Rattle.qk_meaning.specs.Value.{Text}

-- what the function of a symbol is for
pub data Kind : Type 0 where
  For_component For_task For_computed For_function : Kind

pub record Index : Type 0 where
  -- the symbol of `App`
  pub app : Text
  pub kind_of : Text → Kind

abbrev pub is_for_task : Kind → Bool
is_for_task For_task = true
is_for_task _ = false
