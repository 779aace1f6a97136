-- The tables of modules beside the list of these, and what they say of imported names.
use Rattle.std.specs.Prelude.{◌≡◌, refl, ℕ, Bool, true, false, List, [], ◌∷◌, ◌++◌, take, length, Option, Some, None, bytes_eq}
use Rattle.std.specs.Option.{option_map, is_some}
use Rattle.std.specs.Borrow.{Bor}
use Rattle.std.proofs.Common.{ap, sym, subst, ◌∙◌, cond}
use Rattle.std.proofs.lemmas.Bool.{false≢true}
use Rattle.std.proofs.lemmas.List.{map-append, take_at}
use Rattle.std.proofs.lemmas.Map.Text.{btree_map_updates_str}
use Rattle.std.specs.Ordering.{nat_cmp}
use Rattle.std.specs.Cmp.Lexicographic.{slice_cmp}
use Rattle.std.specs.Map.{lookup}
use Rattle.std.specs.BTreeMap.{BTreeMap, UpdatesBy, is_at}
use Rattle.qk_ast.specs.declared.Module.{Module}
use Rattle.qk_ast.specs.declared.Import.{Import}
use Rattle.qk_ast.specs.declared.Item.{Item}
use Rattle.qk_ast.specs.Texts.{Text, same_text}
use Rattle.qk_ast.specs.Names.{is_listed}
use Rattle.qk_ast.specs.Framework.{framework}
use Rattle.qk_ast.specs.Sources.{Named_module, module_of, source_module}
use Rattle.qk_ast.specs.Placing.{Root_kind, Else, kind_of_value, item_kind, imported_kind, root_kind_from}
use Rattle.qk_rules.specs.declared.roots.Roots.{Roots}
use Rattle.qk_rules.specs.Root_table.{earlier_of, kind_or_else, item_kinds, name_kinds, import_kinds, kind_at, kind_by, kind_from}
use Rattle.qk_rules.specs.Tables.{named_of, first_module, module_kind, table_at, HoldsKinds}
use Rattle.qk_rules.proofs.Bits.{text_is}
use Rattle.qk_rules.proofs.Root_tables.{earlier_both, none_there}

-- ---- what lists of names say

item_said : (b : Bool) (k : Root_kind) (o : Option Root_kind) (r : Root_kind) → kind_or_else o ≡ r
    → kind_or_else (earlier_of (elim b as (λ _. Option Root_kind) [ true ↦ Some k | false ↦ None ]) o) ≡ (elim b as (λ _. Root_kind) [ true ↦ k | false ↦ r ])
item_said true k o r h = refl
item_said false k o r h = h

pub items_say : (items : List Item) (q : Text) → kind_or_else (item_kinds items q) ≡ item_kind q items
items_say [] q = refl
items_say (i ∷ items) q = item_said (same_text i.name q) (kind_of_value i.init) (item_kinds items q) (item_kind q items) (items_say items q)

name_said : (b c : Bool) (k l : Root_kind) (o : Option Root_kind) → (b ≡ true → k ≡ l) → o ≡ (elim c as (λ _. Option Root_kind) [ true ↦ Some l | false ↦ None ])
    → earlier_of (elim b as (λ _. Option Root_kind) [ true ↦ Some k | false ↦ None ]) o
    ≡ (elim (elim b as (λ _. Bool) [ true ↦ true | false ↦ c ]) as (λ _. Option Root_kind) [ true ↦ Some l | false ↦ None ])
name_said true c k l o same h = ap Some (same refl)
name_said false c k l o same h = h

names_say : (kinds : Text → Root_kind) (names : List Text) (q : Text) → name_kinds kinds names q ≡ (elim (is_listed q names) as (λ _. Option Root_kind) [ true ↦ Some (kinds q) | false ↦ None ])
names_say kinds [] q = refl
names_say kinds (n ∷ names) q = name_said (same_text n q) (is_listed q names) (kinds n) (kinds q) (name_kinds kinds names q) (λ same. ap kinds (text_is n q same)) (names_say kinds names q)

import_said : (b : Bool) (k : Root_kind) (o : Option Root_kind) (r : Root_kind) (a : Option Root_kind) → a ≡ (elim b as (λ _. Option Root_kind) [ true ↦ Some k | false ↦ None ])
    → kind_or_else o ≡ r → kind_or_else (earlier_of a o) ≡ (elim b as (λ _. Root_kind) [ true ↦ k | false ↦ r ])
import_said b k o r a is h = ap (λ x. kind_or_else (earlier_of x o)) is ∙ item_said b k o r h

pub root_says : (modules : List Named_module) (imports : List Import) (items : List Item) (q : Text)
    → kind_or_else (earlier_of (import_kinds modules imports q) (item_kinds items q)) ≡ root_kind_from modules imports items q
root_says modules [] items q = items_say items q
root_says modules (i ∷ imports) items q =
    ap kind_or_else (earlier_both (name_kinds (imported_kind modules i.from) i.names q) (import_kinds modules imports q) (item_kinds items q))
    ∙ import_said (is_listed q i.names) (imported_kind modules i.from q) (earlier_of (import_kinds modules imports q) (item_kinds items q)) (root_kind_from modules imports items q)
    (name_kinds (imported_kind modules i.from) i.names q) (names_say (imported_kind modules i.from) i.names q) (root_says modules imports items q)

-- the kinds of a root, where the table was made from nothing
pub root_from_nothing : (modules : List Named_module) (imports : List Import) (items : List Item) (q : Text) (empty imported_kinds all : Option Root_kind)
    → empty ≡ None → imported_kinds ≡ earlier_of empty (import_kinds modules imports q) → all ≡ earlier_of imported_kinds (item_kinds items q) → kind_or_else all ≡ root_kind_from modules imports items q
root_from_nothing modules imports items q empty imported_kinds all begun imported whole =
    ap kind_or_else (whole ∙ ap (λ o. earlier_of o (item_kinds items q)) (imported ∙ ap (λ o. earlier_of o (import_kinds modules imports q)) begun))
    ∙ root_says modules imports items q

-- ---- the modules

-- the module that is found in front, or else the one at the end
abbrev or_last : Option Module → Bool → Module → Option Module
or_last (Some m) b last = Some m
or_last None true last = Some last
or_last None false last = None

found_more : (modules : List Named_module) (name : Text) (m : Module) (n : Text) → first_module (modules ++ (name, m) ∷ []) n ≡ or_last (first_module modules n) (same_text name n) m
found_more [] name m n = at_end (same_text name n)
  where
    at_end : (b : Bool) → (elim b as (λ _. Option Module) [ true ↦ Some m | false ↦ None ]) ≡ or_last None b m
    at_end true = refl
    at_end false = refl
found_more (x ∷ modules) name m n = further (same_text x.0 n) (found_more modules name m n)
  where
    further : (b : Bool) → first_module (modules ++ (name, m) ∷ []) n ≡ or_last (first_module modules n) (same_text name n) m
        → (elim b as (λ _. Option Module) [ true ↦ Some x.1 | false ↦ first_module (modules ++ (name, m) ∷ []) n ])
        ≡ or_last (elim b as (λ _. Option Module) [ true ↦ Some x.1 | false ↦ first_module modules n ]) (same_text name n) m
    further true h = refl
    further false h = h

pub module_said : (modules : List Named_module) (name q : Text) → kind_or_else (module_kind modules name q) ≡ item_kind q (module_of modules name).items
module_said [] name q = refl
module_said (x ∷ modules) name q = one (same_text x.0 name) (module_said modules name q)
  where
    one : (b : Bool) → kind_or_else (module_kind modules name q) ≡ item_kind q (module_of modules name).items
        → kind_or_else (option_map (λ m. item_kind q m.items) (elim b as (λ _. Option Module) [ true ↦ Some x.1 | false ↦ first_module modules name ]))
        ≡ item_kind q (elim b as (λ _. Module) [ true ↦ x.1 | false ↦ module_of modules name ]).items
    one true h = refl
    one false h = h

-- ---- the tables

abbrev Tables : Type 0
Tables = BTreeMap (Bor (List ℕ)) Roots

-- a module for which there is a table is among the modules, and no other
both_there : (o : Option Roots) (m : Option Module) (b : Bool) (q : Text) → is_some o ≡ b → option_map (λ table. kind_by table q) o ≡ option_map (λ x. item_kind q x.items) m → is_some m ≡ b
both_there (Some t) (Some m) b q e h = e
both_there (Some t) None b q e h = absurd (some_none (sym h))
  where
    some_none : None ≡ Some (kind_by t q) → ⊥
    some_none r = cc
both_there None (Some m) b q e h = absurd (some_none h)
  where
    some_none : None ≡ Some (item_kind q m.items) → ⊥
    some_none r = cc
both_there None None b q e h = e

stays : (o : Option Module) (b : Bool) (m : Module) → (b ≡ true → is_some o ≡ true) → o ≡ or_last o b m
stays (Some x) b m h = refl
stays None true m h = absurd (false≢true (h refl))
stays None false m h = refl

-- a module whose name was there
pub module_again : (tables : Tables) (modules all : List Named_module) (name : Text) (m : Module) → HoldsKinds tables modules → is_some (table_at tables name) ≡ true
    → all ≡ modules ++ (name, m) ∷ [] → HoldsKinds tables all
module_again tables modules all name m holds there pushed = λ n q.
    let among : is_some (first_module modules name) ≡ true = both_there (table_at tables name) (first_module modules name) true q there (holds name q) in
    holds n q
    ∙ ap (option_map (λ x. item_kind q x.items)) (stays (first_module modules n) (same_text name n) m (λ same. subst (λ (t : Text). is_some (first_module modules t) ≡ true) (text_is name n same) among)
    ∙ sym (found_more modules name m n) ∙ ap (λ l. first_module l n) (sym pushed))

entered : (b : Bool) (o : Option Roots) (f : Option Module) (t : Roots) (m : Module) (q : Text) → (b ≡ true → f ≡ None) → kind_by t q ≡ item_kind q m.items
    → option_map (λ table. kind_by table q) o ≡ option_map (λ x. item_kind q x.items) f
    → option_map (λ table. kind_by table q) (cond b (Some t) o) ≡ option_map (λ x. item_kind q x.items) (or_last f b m)
entered true o f t m q fresh same h = ap Some same ∙ ap (λ g. option_map (λ x. item_kind q x.items) (or_last g true m)) (sym (fresh refl))
entered false o (Some x) t m q fresh same h = h
entered false o None t m q fresh same h = h

-- a module with a new name
pub module_entered : (old new : Tables) (modules all : List Named_module) (key name : Text) (m : Module) (empty table : Roots) → key ≡ name → HoldsKinds old modules
    → is_some (table_at old key) ≡ false → ((q : Text) → kind_at empty q ≡ None) → ((q : Text) → kind_at table q ≡ earlier_of (kind_at empty q) (item_kinds m.items q))
    → all ≡ modules ++ (name, m) ∷ [] → UpdatesBy (λ x y. slice_cmp nat_cmp x.now y.now) (λ k. slice_cmp nat_cmp key k.now) old new (Some table) → HoldsKinds new all
module_entered old new modules all key name m empty table named holds absent begun made pushed updated = λ n q.
    let missing : is_some (first_module modules key) ≡ false = both_there (table_at old key) (first_module modules key) false q absent (holds key q) in
    let same : kind_by table q ≡ item_kind q m.items = ap kind_or_else (made q ∙ ap (λ o. earlier_of o (item_kinds m.items q)) (begun q)) ∙ items_say m.items q in
    ap (option_map (λ t. kind_by t q)) (btree_map_updates_str key old new (Some table) updated n)
    ∙ entered (bytes_eq key n) (table_at old n) (first_module modules n) table m q (λ at. none_there (first_module modules n) (subst (λ (t : Text). is_some (first_module modules t) ≡ false) (text_is key n at) missing)) same (holds n q)
    ∙ ap (option_map (λ x. item_kind q x.items))
    (ap (λ (t : Text). or_last (first_module modules n) (same_text t n) m) named ∙ sym (found_more modules name m n) ∙ ap (λ l. first_module l n) (sym pushed))

-- nothing has changed
pub holds_still : (old new : Tables) (modules all : List Named_module) → HoldsKinds old modules → new.entries ≡ old.entries → all ≡ modules → HoldsKinds new all
holds_still old new modules all holds same_entries same = λ n q.
    ap (λ es. option_map (λ t. kind_by t q) (lookup (is_at (λ k. slice_cmp nat_cmp n k.now)) es)) same_entries ∙ holds n q ∙ ap (λ l. module_kind l n q) (sym same)

-- what an imported name is found to be
pub table_says : (tables : Tables) (modules : List Named_module) (name : Text) (found : Option (Bor Roots)) → HoldsKinds tables modules
    → option_map (λ t. t.now) found ≡ table_at tables name → (q : Text) → kind_from found q ≡ item_kind q (module_of modules name).items
table_says tables modules name found holds is q =
    told found ∙ ap (λ o. kind_or_else (option_map (λ t. kind_by t q) o)) is ∙ ap kind_or_else (holds name q) ∙ module_said modules name q
  where
    told : (o : Option (Bor Roots)) → kind_from o q ≡ kind_or_else (option_map (λ t. kind_by t q) (option_map (λ t. t.now) o))
    told None = refl
    told (Some t) = refl

-- what a source's name is found to be
pub source_says : (tables : Tables) (modules all : List Named_module) (source name : Text) (found : Option (Bor Roots)) → HoldsKinds tables modules → modules ≡ all
    → same_text source framework ≡ false → name ≡ source_module source → option_map (λ t. t.now) found ≡ table_at tables name → (q : Text) → kind_from found q ≡ imported_kind all source q
source_says tables modules all source name found holds viewed other named is q =
    table_says tables modules name found holds is q
    ∙ ap (λ l. item_kind q (module_of l name).items) viewed
    ∙ ap (λ (t : Text). item_kind q (module_of all t).items) named
    ∙ ap (λ b. elim b as (λ _. Root_kind) [ true ↦ Else | false ↦ item_kind q (module_of all (source_module source)).items ]) (sym other)

pub named_more : (pairs all : List (Bor Text × Bor Module)) (p : Bor Text × Bor Module) → all ≡ pairs ++ p ∷ [] → named_of all ≡ named_of pairs ++ (p.0.now, p.1.now) ∷ []
named_more pairs all p e = ap named_of e ∙ map-append (λ x. (x.0.now, x.1.now)) pairs (p ∷ [])

-- behind a push that is taken back
pub cut_back : {X : Type 0} (xs pushed cut : List X) (x : X) (n : ℕ) → n ≡ length xs → pushed ≡ xs ++ x ∷ [] → cut ≡ take n pushed → cut ≡ xs
cut_back xs pushed cut x n whole more is = is ∙ ap (take n) more ∙ take_at xs (x ∷ []) n (sym whole)
