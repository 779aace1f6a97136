-- Tables as they grow: what stands first under a name.
use Rattle.std.specs.Prelude.{◌≡◌, refl, ℕ, ◌+◌, ◌<◌, ◌≤◌, Bool, true, false, List, ◌∷◌, drop, length, Option, Some, None, bytes_eq, String}
use Rattle.std.specs.Option.{is_some}
use Rattle.std.specs.BTreeMap.{BTreeMap, UpdatesBy, get_by_text}
use Rattle.std.specs.String.{string_cmp, string_bytes}
use Rattle.std.proofs.Common.{sym, ◌∙◌, ap, cond}
use Rattle.std.proofs.Math.ListN.{get_or}
use Rattle.std.proofs.lemmas.Bool.{false≢true}
use Rattle.std.proofs.lemmas.List.{at_drop_more, at_drop_all}
use Rattle.std.proofs.lemmas.Map.Text.{btree_map_updates_text}
use Rattle.std.proofs.lemmas.Slice.Eq.{bytes_eq-Decides}
use Rattle.qk_ast.specs.Texts.{Text, same_text}
use Rattle.qk_ast.specs.declared.Imported.{Imported}
use Rattle.qk_ast.specs.declared.Origin.{Origin}
use Rattle.qk_whole.specs.Firsts.{earlier, one_named}
use Rattle.qk_whole.specs.Origins.{origin_in}

pub or_none : {X : Type 0} (o : Option X) → earlier o None ≡ o
or_none (Some x) = refl
or_none None = refl

earlier_both : {X : Type 0} (a b c : Option X) → earlier (earlier a b) c ≡ earlier a (earlier b c)
earlier_both (Some x) b c = refl
earlier_both None b c = refl

pub none_there : {X : Type 0} (o : Option X) → is_some o ≡ false → o ≡ None
none_there (Some x) h = absurd (false≢true (sym h))
none_there None h = refl

-- what was there stays
pub stays_there : {X : Type 0} (name : Text) (x : X) (f : Text → Option X) → is_some (f name) ≡ true → (q : Text) → f q ≡ earlier (f q) (one_named name x q)
stays_there {X} name x f h q = go (same_text name q) refl (f q) refl
  where
    some : (o : Option X) (b : Option X) → is_some o ≡ true → o ≡ earlier o b
    some (Some y) b h = refl
    some None b h = absurd (false≢true h)

    go : (b : Bool) → same_text name q ≡ b → (o : Option X) → f q ≡ o → o ≡ earlier o (elim b as (λ y. Option X) [ true ↦ Some x | false ↦ None ])
    go false e o p = sym (or_none o)
    go true e o p = some o (Some x) (ap is_some (sym p ∙ sym (ap f ((bytes_eq-Decides name q).0 e))) ∙ h)

-- a new name is put in
pub put_there : {X Y : Type 0} (name : Text) (x : X) (old new : BTreeMap (String Y) X) (key : String Y) → string_bytes key ≡ name
    → UpdatesBy string_cmp (string_cmp key) old new (Some x) → get_by_text old name ≡ None
    → (q : Text) → get_by_text new q ≡ earlier (get_by_text old q) (one_named name x q)
put_there {X} name x old new key e updated fresh q = btree_map_updates_text (string_bytes key) old new (Some x) updated q ∙ go (bytes_eq (string_bytes key) q) refl (get_by_text old q) refl
  where
    same : bytes_eq (string_bytes key) q ≡ same_text name q
    same = ap (λ t. bytes_eq t q) e

    one : (b : Bool) → same_text name q ≡ b → (o : Option X) → get_by_text old q ≡ o → cond b (Some x) o ≡ earlier o (elim b as (λ y. Option X) [ true ↦ Some x | false ↦ None ])
    one true p o r = ap (λ (w : Option X). earlier w (Some x)) (sym fresh ∙ ap (get_by_text old) ((bytes_eq-Decides name q).0 p) ∙ r)
    one false p o r = sym (or_none o)

    go : (b : Bool) → bytes_eq (string_bytes key) q ≡ b → (o : Option X) → get_by_text old q ≡ o → cond b (Some x) o ≡ earlier o (one_named name x q)
    go b p o r = ap (λ c. cond c (Some x) o) (sym p ∙ same) ∙ one (same_text name q) refl o r

-- ---- one entry more

pub next_origin : (entries : List Imported) (i : ℕ) (e : Imported) (old new : Text → Option Origin) → i < length entries → e ≡ get_or entries i e
    → ((q : Text) → new q ≡ earlier (old q) (one_named e.name e.origin q))
    → ((q : Text) → earlier (old q) (origin_in (drop i entries) q) ≡ origin_in entries q)
    → (q : Text) → earlier (new q) (origin_in (drop (i + 1) entries) q) ≡ origin_in entries q
next_origin entries i e old new below here put h q =
    ap (λ o. earlier o (origin_in (drop (i + 1) entries) q)) (put q)
    ∙ earlier_both (old q) (one_named e.name e.origin q) (origin_in (drop (i + 1) entries) q)
    ∙ ap (earlier (old q)) (first (same_text e.name q) ∙ ap (λ f. origin_in (f ∷ drop (i + 1) entries) q) here ∙ sym (at_drop_more (λ es. origin_in es q) entries i e below)) ∙ h q
  where
    first : (b : Bool) → earlier (elim b as (λ y. Option Origin) [ true ↦ Some e.origin | false ↦ None ]) (origin_in (drop (i + 1) entries) q) ≡ elim b as (λ y. Option Origin) [ true ↦ Some e.origin | false ↦ origin_in (drop (i + 1) entries) q ]
    first true = refl
    first false = refl

pub all_origins : (entries : List Imported) (i : ℕ) (done : Text → Option Origin) → length entries ≤ i → ((q : Text) → earlier (done q) (origin_in (drop i entries) q) ≡ origin_in entries q) → (q : Text) → done q ≡ origin_in entries q
all_origins entries i done past h q = sym (or_none (done q)) ∙ sym (at_drop_all (λ es. earlier (done q) (origin_in es q)) entries i past) ∙ h q
