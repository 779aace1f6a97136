-- Names are compared byte by byte.
use Rattle.std.proofs.Common.{◌≡◌, List, ℕ, true, bytes_eq, refl, sym}
use Rattle.std.specs.Bool.{Decides, one_answer}
use Rattle.std.specs.Cmp.Lexicographic.{bytes_decides}

pub same_name : (a b : List ℕ) → bytes_eq a b ≡ true → a ≡ b
same_name a b = (bytes_decides a b).0

pub own_name : (a : List ℕ) → bytes_eq a a ≡ true
own_name a = (bytes_decides a a).1 refl

-- it makes no difference which of the two comes first
pub either_way : (a b : List ℕ) → bytes_eq a b ≡ bytes_eq b a
either_way a b =
    let there : Decides (bytes_eq a b) (a ≡ b) = bytes_decides a b in
    let back : Decides (bytes_eq b a) (a ≡ b) = (λ h. sym ((bytes_decides b a).0 h), λ h. (bytes_decides b a).1 (sym h)) in
    one_answer _ _ there back
