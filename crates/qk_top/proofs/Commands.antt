-- Which words are commands.
use Rattle.std.proofs.Common.{◌≡◌, ◌≤◌, ◌<◌, true, List, [], ◌∷◌, refl, length, get_or, map, arith}
use Rattle.std.specs.Prelude.{codes, string_bytes}
use Rattle.std.specs.declared.string.String.{String}
use Rattle.std.specs.declared.alloc.Global.{Global}
use Rattle.qk_meaning.specs.Value.{Text}
use Rattle.qk_top.specs.Words.{IsReplay, is_script_word}

-- a list of two items
pub two_items : {A : Type 0} (xs : List A) (a b : A) → 2 ≤ length xs → length xs < 3 → a ≡ get_or xs 0 a → b ≡ get_or xs 1 b → xs ≡ a ∷ b ∷ []
two_items [] a b low high at0 at1 = absurd (omega arith)
two_items (x ∷ []) a b low high at0 at1 = absurd (omega arith)
two_items (x ∷ y ∷ []) a b low high at0 at1 = rw (at0, at1) refl
two_items (x ∷ y ∷ z ∷ rest) a b low high at0 at1 = absurd (omega arith)

-- the command and the script of two words
pub replays : (words : List (String Global)) (a b : String Global) (command script : Text) → words ≡ a ∷ b ∷ [] → command ≡ string_bytes a → script ≡ string_bytes b
    → command ≡ codes "replay" → is_script_word script ≡ true → IsReplay (map string_bytes words) script
replays words a b command script both ea eb replay named = record {
  words_are = rw (both, ← ea, ← eb, replay) refl;
  named = named;
}
