-- A table of declarations as it grows, and what it has for names.
use Rattle.std.specs.Prelude.{◌≡◌, refl, ℕ, ◌+◌, ◌<◌, ◌≤◌, Bool, true, false, List, [], ◌∷◌, ◌++◌, flat_map, length, drop, Option, Some, None, bytes_eq}
use Rattle.std.proofs.Common.{sym, ◌∙◌, ap, cond, is_some}
use Rattle.std.proofs.lemmas.Bool.{false≢true}
use Rattle.std.specs.Borrow.{Bor}
use Rattle.std.specs.Option.{option_map}
use Rattle.std.specs.Ordering.{nat_cmp}
use Rattle.std.specs.Cmp.Lexicographic.{slice_cmp, same_text as told_same}
use Rattle.std.specs.BTreeMap.{BTreeMap, UpdatesBy, get_by}
use Rattle.std.proofs.lemmas.Map.Text.{btree_map_updates_str}
use Rattle.std.proofs.Math.ListN.{get_or}
use Rattle.std.proofs.lemmas.List.{map-append, at_drop_more, at_drop_all}
use denote.Hole.Carrier.{hidden}
use Rattle.qk_ast.specs.declared.Body.TheBlock.{hidden-the_row-Stmt-1}
use Rattle.qk_ast.specs.declared.Body.TheVariants as b
use Rattle.qk_ast.specs.declared.Stmt.{Stmt}
use Rattle.qk_ast.specs.Texts.{Text, same_text}
use Rattle.qk_ast.specs.Names.{patterns_names}
use Rattle.qk_ast.specs.Arrows.{Mark}
use Rattle.qk_ast.specs.declared.Pattern.{Pattern}
use Rattle.qk_ast.specs.Scopes as scopes
use Rattle.qk_ast.specs.Scopes.{Declaration, kind_in, declared_as, declarations, declarations_of, declarations_in, parameters, parameter_kind}
use Rattle.qk_locals.specs.declared.local.Kind.{Kind}
use Rattle.qk_locals.specs.Meanings.{kind_of}
use Rattle.qk_locals.specs.Declaring.{first_of}

-- ---- the first of some

first_none : (kind : Option scopes.Kind) → first_of kind None ≡ kind
first_none (Some kind) = refl
first_none None = refl

first_three : (a b c : Option scopes.Kind) → first_of (first_of a b) c ≡ first_of a (first_of b c)
first_three (Some kind) b c = refl
first_three None b c = refl

kind_both : (q : Text) (xs ys : List Declaration) → kind_in q (xs ++ ys) ≡ first_of (kind_in q xs) (kind_in q ys)
kind_both q [] ys = refl
kind_both q (x ∷ xs) ys = by (same_text x.name q) (kind_both q xs ys)
  where
    by : (b : Bool) → kind_in q (xs ++ ys) ≡ first_of (kind_in q xs) (kind_in q ys)
        → elim b [ true ↦ Some x.kind | false ↦ kind_in q (xs ++ ys) ] ≡ first_of (elim b [ true ↦ Some x.kind | false ↦ kind_in q xs ]) (kind_in q ys)
    by true rest = refl
    by false rest = rest

-- ---- one name more

abbrev Kinds : Type 0
Kinds = BTreeMap (Bor (List ℕ)) Kind

abbrev found : Kinds → Text → Option Kind
found table q = get_by (λ k. slice_cmp nat_cmp q k.now) table

one_more : (b : Bool) (kind : Kind) (old : Option Kind) → (b ≡ true → old ≡ None)
    → option_map kind_of (cond b (Some kind) old) ≡ first_of (option_map kind_of old) (elim b as (λ _. Option scopes.Kind) [ true ↦ Some (kind_of kind) | false ↦ None ])
one_more true kind old fresh = ap (λ (o : Option Kind). first_of (option_map kind_of o) (Some (kind_of kind))) (sym (fresh refl))
one_more false kind old fresh = sym (first_none (option_map kind_of old))

pub name_entered : (old new : Kinds) (name : Text) (kind : Kind) → is_some (found old name) ≡ false
    → UpdatesBy (λ x y. slice_cmp nat_cmp x.now y.now) (λ k. slice_cmp nat_cmp name k.now) old new (Some kind)
    → (q : Text) → option_map kind_of (found new q) ≡ first_of (option_map kind_of (found old q)) (kind_in q (record { name = name; kind = kind_of kind } ∷ []))
name_entered old new name kind absent updated q =
    ap (option_map kind_of) (btree_map_updates_str name old new (Some kind) updated q)
    ∙ one_more (bytes_eq name q) kind (found old q) (λ same. ap (found old) (sym (told_same name q (sym same))) ∙ none_there (found old name) absent)
  where
    none_there : (o : Option Kind) → is_some o ≡ false → o ≡ None
    none_there (Some x) h = absurd (false≢true (sym h))
    none_there None h = refl

pub name_kept : (table : Kinds) (name : Text) (kind : Kind) → is_some (found table name) ≡ true
    → (q : Text) → option_map kind_of (found table q) ≡ first_of (option_map kind_of (found table q)) (kind_in q (record { name = name; kind = kind_of kind } ∷ []))
name_kept table name kind there q = by (bytes_eq name q) (found table q) (λ same. ap (λ t. is_some (found table t)) (sym (told_same name q (sym same))) ∙ there)
  where
    by : (b : Bool) (o : Option Kind) → (b ≡ true → is_some o ≡ true) → option_map kind_of o ≡ first_of (option_map kind_of o) (elim b as (λ _. Option scopes.Kind) [ true ↦ Some (kind_of kind) | false ↦ None ])
    by true (Some x) h = refl
    by true None h = absurd (false≢true (h refl))
    by false o h = sym (first_none (option_map kind_of o))

-- ---- declarations one after another

-- with those of one item more
pub declared_next : {X : Type 0} (F : List X → List Declaration) (f : X → List Declaration) → ((x : X) (xs : List X) → F (x ∷ xs) ≡ f x ++ F xs)
    → (q : Text) (old new : Option scopes.Kind) (xs : List X) (i : ℕ) (x : X) → i < length xs → x ≡ get_or xs i x → new ≡ first_of old (kind_in q (f x))
    → first_of new (kind_in q (F (drop (i + 1) xs))) ≡ first_of old (kind_in q (F (drop i xs)))
declared_next F f parts q old new xs i x below here later = ap (λ kind. first_of kind (kind_in q (F (drop (i + 1) xs)))) later
    ∙ first_three old (kind_in q (f x)) (kind_in q (F (drop (i + 1) xs)))
    ∙ ap (first_of old) (sym (kind_both q (f x) (F (drop (i + 1) xs))) ∙ ap (kind_in q) (sym (parts x (drop (i + 1) xs)) ∙ ap (λ y. F (y ∷ drop (i + 1) xs)) here ∙ sym (at_drop_more F xs i x below)))

-- with those of the last
pub declared_last : {X : Type 0} (F : List X → List Declaration) → F [] ≡ [] → (q : Text) (done : Option scopes.Kind) (xs : List X) (i : ℕ) → length xs ≤ i
    → first_of done (kind_in q (F (drop i xs))) ≡ done
declared_last F empty q done xs i past = ap (λ ds. first_of done (kind_in q ds)) (at_drop_all F xs i past ∙ empty) ∙ first_none done

pub declared_both : (kind : scopes.Kind) (xs ys : List Text) → declared_as kind (xs ++ ys) ≡ declared_as kind xs ++ declared_as kind ys
declared_both kind xs ys = map-append (λ name. record { name = name; kind = kind }) xs ys

-- ---- rows are their lists

declarations_row : (ss : List Stmt) → declarations (hidden-the_row-Stmt-1 ss) ≡ flat_map declarations_of ss
unfolding hidden-the_row-Stmt-1 hidden
declarations_row [] = refl
declarations_row (s ∷ ss) = ap (λ ds. declarations_of s ++ ds) (declarations_row ss)

pub in_block : (ss : List Stmt) → declarations_in (b.Block ss) ≡ flat_map declarations_of ss
in_block ss = declarations_row ss

-- ---- what a table has that is made for a scope

-- of declarations alone
of_these : (ds : List Declaration) (none all : Text → Option scopes.Kind) → ((q : Text) → none q ≡ None) → ((q : Text) → all q ≡ first_of (none q) (kind_in q ds))
    → (q : Text) → all q ≡ kind_in q ds
of_these ds none all from done q = done q ∙ ap (λ kind. first_of kind (kind_in q ds)) (from q)

-- of an arrow, its parameters first
pub arrow_declares : (mark : Mark) (params : List Pattern) (ds : List Declaration) (kind : scopes.Kind) (none first all : Text → Option scopes.Kind) → ((q : Text) → none q ≡ None)
    → kind ≡ parameter_kind mark params → ((q : Text) → first q ≡ first_of (none q) (kind_in q (declared_as kind (patterns_names params)))) → ((q : Text) → all q ≡ first_of (first q) (kind_in q ds))
    → (q : Text) → all q ≡ kind_in q (parameters mark params ++ ds)
arrow_declares mark params ds kind none first all from kinds later done q = done q
    ∙ ap (λ k. first_of k (kind_in q ds)) (of_these (declared_as kind (patterns_names params)) none first from later q ∙ ap (λ k. kind_in q (declared_as k (patterns_names params))) kinds)
    ∙ sym (kind_both q (parameters mark params) ds)
