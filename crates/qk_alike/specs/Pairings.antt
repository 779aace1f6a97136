-- Pairings in which no address stands twice.
use Rattle.std.specs.Prelude.{◌≡◌, ℕ, ◌<◌, List, length}
use Rattle.qk_meaning.specs.World.{Object}
use Rattle.qk_meaning.specs.Heap.{object_at}
use Rattle.qk_meaning.specs.Ties.{Ties, Pairing, Paired, Among, Object_stands}
use Rattle.qk_meaning.specs.Worlds_stand.{Heaps_stand}

-- no address is paired twice
pub record One_to_one (p : Pairing) : Type 0 where
  pub one_right : (a b c : ℕ) → Paired p a b → Paired p a c → b ≡ c
  pub one_left : (a b c : ℕ) → Paired p a c → Paired p b c → a ≡ b

-- the listed pairs are of addresses that were made, and one to one
pub record Pairs_apart (p : Pairing) : Type 0 where
  pub left_made : (a b : ℕ) → Among p.pairs a b → a < p.left_from
  pub right_made : (a b : ℕ) → Among p.pairs a b → b < p.right_from
  pub right : (a b c : ℕ) → Among p.pairs a b → Among p.pairs a c → b ≡ c
  pub left : (a b c : ℕ) → Among p.pairs a c → Among p.pairs b c → a ≡ b

-- then no address is paired twice, those to come included
abbrev pub PairsOneToOne : Type 0
PairsOneToOne = (p : Pairing) → Pairs_apart p → One_to_one p

-- heaps stand for one another once the objects at the listed pairs do, where the pairs to come begin behind both
abbrev pub HeapsBegin : Type 0
HeapsBegin =
    (t : Ties) (heap heap' : List Object) → t.pairing.left_from ≡ length heap → t.pairing.right_from ≡ length heap' →
    ((a b : ℕ) → Among t.pairing.pairs a b → Object_stands t (object_at heap a) (object_at heap' b)) → Heaps_stand t heap heap'
