-- What the walks give in a module that keeps the rules.
use Rattle.std.proofs.Common.{◌≡◌, ap}
use Rattle.std.proofs.lemmas.Bool.{or_cases, or_left, or_right}
use mathlib.Core.Logic.{◌⊎◌, inl, inr}
use Rattle.std.specs.Prelude.{flat_map, All, ℕ, true, ◌||◌, List, [], ◌∷◌, IsTrue}
use Rattle.qk_ast.specs.declared.Form.{Form}
use Rattle.qk_ast.specs.declared.Form.TheVariants.{Source}
use Rattle.qk_ast.specs.declared.Module.{Module}
use Rattle.qk_ast.specs.Texts.{Text, same_text}
use Rattle.qk_ast.specs.Names.{is_listed, those_of}
use Rattle.qk_ast.specs.Arrows.{Tasked, Found_arrow, item_arrows}
use Rattle.qk_ast.specs.Uses.{uses, free_of, captures_of}
use Rattle.qk_ast.specs.Mentions.{module_mentions, item_mentions, import_names}
use Rattle.qk_ast.specs.Naming.{root_names, naming_breaches, all_naming_breaches}
use Rattle.qk_ast.specs.Spots.{item_spots}
use Rattle.qk_ast.specs.Placing.{Root_kind, placing_breaches, all_placing_breaches, site_breaches}
use Rattle.qk_ast.specs.Derives.{Derives}
use Rattle.qk_ast.specs.Scopes.{is_track}
use Rattle.qk_names.specs.Inside.{inside}
use Rattle.qk_names.specs.Laws.{IsTask}
use Rattle.qk_names.proofs.Bits.{text_own}
use Rattle.qk_names.proofs.Each.{Each, none, head, tail, behind, each_then, as_all, keeps, empty_front, ◌∷'◌}
use Rattle.qk_names.proofs.Plain.{sources_are_plain}
use Rattle.qk_names.proofs.Listed.{or_listed, or_behind, among_those, once}
use Rattle.qk_names.proofs.Covered.{known, without_track}
use Rattle.qk_names.proofs.Tasks.{items as tasks}
use Rattle.qk_names.proofs.UsesKnown.{items as used}
use Rattle.qk_names.proofs.Captured.{items as closed}

each_listed : {P : Text → Type 0} (xs : List Text) → Each P xs → Each (λ t. (is_listed t xs ≡ true) × P t) xs
each_listed [] h = none
each_listed (x ∷ xs) h =
    (ap (λ b. or_listed b (is_listed x xs)) (text_own x), head h)
    ∷' each_then (λ t f. (or_behind (same_text x t) (is_listed t xs) f.0, f.1)) (each_listed xs (tail h))

-- a free name that is known is captured, or one of these
captured : (others : List Text) (a : Found_arrow) (t : Text) → is_listed t (free_of a) ≡ true → known others a.scope t ≡ true → (is_listed t (captures_of a) || is_listed t others) ≡ true
captured others a t free h = by (or_cases (is_listed t a.scope) (is_listed t others) h)
  where
    by : (is_listed t a.scope ≡ true) ⊎ (is_listed t others ≡ true) → (is_listed t (captures_of a) || is_listed t others) ≡ true
    by (inl e) = or_left (is_listed t (captures_of a)) (is_listed t others) (once t [] (those_of a.scope (free_of a)) (among_those t a.scope (free_of a) e free))
    by (inr e) = or_right (is_listed t (captures_of a)) (is_listed t others) e

all_captured : (others : List Text) (a : Found_arrow) → Each (λ t. known others a.scope t ≡ true) (free_of a) → All (λ t. IsTrue (is_listed t (captures_of a) || is_listed t others)) (free_of a)
all_captured others a h = as_all (each_then (λ t f. captured others a t f.0 f.1) (each_listed (free_of a) h))

module _ (form : Form) (file : Text) (kinds : Text → Root_kind) (m : Module) (named : all_naming_breaches form file m ≡ []) (placed : all_placing_breaches file kinds m ≡ []) where
  mentioned : Each (λ mention. naming_breaches form file (root_names form file m) mention ≡ []) (item_mentions (import_names m.imports) m.items)
  mentioned = behind _ _ (keeps (naming_breaches form file (root_names form file m)) (module_mentions m) named)

  stand : Each (λ spot. placing_breaches file kinds spot ≡ []) (item_spots m.items)
  stand = keeps (placing_breaches file kinds) (item_spots m.items) (empty_front (flat_map (placing_breaches file kinds) (item_spots m.items)) (site_breaches m) placed)

  task_parameters : Each (λ a. a.mark ≡ Tasked → IsTask a.params) (item_arrows m.items)
  task_parameters = tasks form file (root_names form file m) kinds (import_names m.imports) m.items mentioned stand

  pub tasks_take : All (λ a. a.mark ≡ Tasked → IsTask a.params) (item_arrows m.items)
  tasks_take = as_all task_parameters

module _ (file : Text) (kinds : Text → Root_kind) (bytes : List ℕ) (m : Module) (d : Derives Source bytes m) (named : all_naming_breaches Source file m ≡ []) (placed : all_placing_breaches file kinds m ≡ []) where
  abbrev roots : List Text
  roots = root_names Source file m

  -- its free names are known, and `track` of the root is unknown inside a task that takes `track`
  abbrev Closed_arrow : Found_arrow → Type 0
  Closed_arrow a = Each (λ t. known roots a.scope t ≡ true) (free_of a) × (a.mark ≡ Tasked → is_track a.params ≡ true → Each (λ b. Each (λ t. known (without_track roots) b.scope t ≡ true) (free_of b)) (inside a))

  abbrev Stays : Found_arrow → Type 0
  Stays a = a.mark ≡ Tasked → IsTrue (is_track a.params) → All (λ b. All (λ t. IsTrue (is_listed t (captures_of b) || is_listed t (without_track roots))) (free_of b)) (inside a)

  all_closed : Each Closed_arrow (item_arrows m.items)
  all_closed = closed Source file roots kinds (import_names m.imports) m.items (sources_are_plain bytes m d) (mentioned Source file kinds m named placed) (stand Source file kinds m named placed) (task_parameters Source file kinds m named placed)

  stays : (a : Found_arrow) → Closed_arrow a → Stays a
  stays a h tasked track = as_all (each_then (λ b f. all_captured (without_track roots) b f) (h.1 tasked track))

  pub names_captured : All (λ a. All (λ t. IsTrue (is_listed t (captures_of a) || is_listed t (root_names Source file m))) (free_of a)) (item_arrows m.items)
  names_captured = as_all (each_then (λ a h. all_captured roots a h.0) all_closed)

  pub track_stays : All Stays (item_arrows m.items)
  track_stays = as_all (each_then stays all_closed)

  pub root_used : All (λ i. All (λ t. IsTrue (is_listed t (root_names Source file m))) (uses i.init)) m.items
  root_used = as_all (each_then (λ i h. as_all h) (used Source file roots kinds (import_names m.imports) m.items (sources_are_plain bytes m d) (mentioned Source file kinds m named placed) (stand Source file kinds m named placed)))
