-- What holds of each of a list.
use Rattle.std.specs.Prelude.{List, [], ◌∷◌}

pub data Every {A : Type 0} (G : A → Type 0) : List A → Type 0 where
  none_of : Every G []
  all_of : {a : A} {rest : List A} → G a → Every G rest → Every G (a ∷ rest)
