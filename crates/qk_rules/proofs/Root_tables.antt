-- A table of kinds as it grows, and what it says of names.
use Rattle.std.specs.Prelude.{◌≡◌, refl, ℕ, ◌+◌, ◌<◌, ◌≤◌, Bool, true, false, List, [], ◌∷◌, drop, length, Option, Some, None, bytes_eq}
use Rattle.std.specs.Option.{option_map, is_some}
use Rattle.std.proofs.lemmas.Bool.{false≢true}
use Rattle.std.specs.Borrow.{Bor}
use Rattle.std.proofs.Common.{ap, sym, ◌∙◌, cond}
use Rattle.std.proofs.Math.ListN.{get_or}
use Rattle.std.proofs.lemmas.List.{at_drop_more, at_drop_all}
use Rattle.std.proofs.lemmas.Map.Text.{btree_map_updates_str}
use Rattle.std.specs.Ordering.{nat_cmp}
use Rattle.std.specs.Cmp.Lexicographic.{slice_cmp}
use Rattle.std.specs.BTreeMap.{BTreeMap, UpdatesBy, get_by}
use Rattle.qk_ast.specs.Texts.{Text}
use Rattle.qk_ast.specs.Placing.{Root_kind}
use Rattle.qk_rules.specs.declared.items.RootKind.{RootKind}
use Rattle.qk_rules.specs.Kinds_of_root.{root_kind_of}
use Rattle.qk_rules.specs.Root_table.{earlier_of, one_kind}
use Rattle.qk_rules.proofs.Bits.{text_is}

-- ---- the first of some

pub or_none : (o : Option Root_kind) → earlier_of o None ≡ o
or_none (Some k) = refl
or_none None = refl

pub earlier_both : (a b c : Option Root_kind) → earlier_of (earlier_of a b) c ≡ earlier_of a (earlier_of b c)
earlier_both (Some k) b c = refl
earlier_both None b c = refl

-- ---- one name more

mapped : (b : Bool) (kind : RootKind) (o : Option RootKind) → (b ≡ true → o ≡ None)
    → option_map root_kind_of (cond b (Some kind) o) ≡ earlier_of (option_map root_kind_of o) (elim b as (λ _. Option Root_kind) [ true ↦ Some (root_kind_of kind) | false ↦ None ])
mapped true kind o h = ap (λ (p : Option RootKind). earlier_of (option_map root_kind_of p) (Some (root_kind_of kind))) (sym (h refl))
mapped false kind o h = sym (or_none (option_map root_kind_of o))

abbrev found : BTreeMap (Bor (List ℕ)) RootKind → Text → Option RootKind
found table q = get_by (λ k. slice_cmp nat_cmp q k.now) table

pub name_entered : (old new : BTreeMap (Bor (List ℕ)) RootKind) (name : Text) (kind : RootKind)
    → found old name ≡ None → UpdatesBy (λ x y. slice_cmp nat_cmp x.now y.now) (λ k. slice_cmp nat_cmp name k.now) old new (Some kind)
    → (q : Text) → option_map root_kind_of (found new q) ≡ earlier_of (option_map root_kind_of (found old q)) (one_kind name (root_kind_of kind) q)
name_entered old new name kind fresh updated q =
    ap (option_map root_kind_of) (btree_map_updates_str name old new (Some kind) updated q)
    ∙ mapped (bytes_eq name q) kind (found old q) (λ same. ap (found old) (sym (text_is name q same)) ∙ fresh)

-- ---- a list of names

-- with one item more of a list
pub kinds_next : {X : Type 0} (F : List X → Option Root_kind) (f : X → Option Root_kind) → ((x : X) (xs : List X) → F (x ∷ xs) ≡ earlier_of (f x) (F xs))
    → (old new : Option Root_kind) (xs : List X) (i : ℕ) (x : X) → i < length xs → x ≡ get_or xs i x → new ≡ earlier_of old (f x)
    → earlier_of new (F (drop (i + 1) xs)) ≡ earlier_of old (F (drop i xs))
kinds_next F f parts old new xs i x below here entered =
    ap (λ o. earlier_of o (F (drop (i + 1) xs))) entered
    ∙ earlier_both old (f x) (F (drop (i + 1) xs))
    ∙ ap (earlier_of old) (sym (parts x (drop (i + 1) xs)) ∙ ap (λ y. F (y ∷ drop (i + 1) xs)) here ∙ sym (at_drop_more F xs i x below))

-- with the last
pub kinds_last : {X : Type 0} (F : List X → Option Root_kind) → F [] ≡ None → (done : Option Root_kind) (xs : List X) (i : ℕ) → length xs ≤ i
    → earlier_of done (F (drop i xs)) ≡ done
kinds_last F empty done xs i past = ap (earlier_of done) (at_drop_all F xs i past ∙ empty) ∙ or_none done

pub none_there : {A : Type 0} (o : Option A) → is_some o ≡ false → o ≡ None
none_there (Some x) h = absurd (false≢true (sym h))
none_there None h = refl
