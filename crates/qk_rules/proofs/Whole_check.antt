-- What is told of a module, from what is told of its items and of its sites.
use Rattle.std.specs.Prelude.{◌≡◌, Bool, true, false, not, nat_le, length, List, [], ◌++◌, flat_map, Result, Ok, Err, codes}
use Rattle.std.proofs.Common.{ap, sym, subst, ◌∙◌}
use Rattle.qk_ast.specs.declared.Module.{Module}
use Rattle.qk_ast.specs.declared.Item.{Item}
use Rattle.qk_ast.specs.declared.RuleKind.TheVariants.{TooManySites}
use Rattle.qk_ast.specs.Texts.{Text}
use Rattle.qk_ast.specs.Arrows.{item_arrows, of_kind}
use Rattle.qk_ast.specs.Spots.{item_spots}
use Rattle.qk_ast.specs.Placing.{Root_kind, refuse_if, most_sites, placing_breaches, site_breaches, all_placing_breaches}
use Rattle.qk_rules.specs.declared.fault.RuleFault.{RuleFault}
use Rattle.qk_rules.specs.declared.fault.RuleFault.TheVariants.{Refused, Memory}
use Rattle.qk_rules.specs.Checking as checking
use Rattle.qk_rules.specs.Checking.{Refuses, Answers, Checks}
use Rattle.qk_rules.specs.Parts.{Place, of_item}
use Rattle.qk_rules.proofs.Answering.{by_form, clear, refused_told, stops, goes_on}
use Rattle.qk_rules.proofs.Forms.{items_row}

-- ---- the sites

pub sites_kept : (b : Bool) → b ≡ false → Answers (refuse_if b TooManySites (codes "-")) (Ok tt)
sites_kept b few = clear (ap (λ c. refuse_if c TooManySites (codes "-")) few)

pub sites_refused : (b : Bool) (name : Text) → b ≡ true → name ≡ codes "-" → Answers (refuse_if b TooManySites (codes "-")) (Err (Refused TooManySites name))
sites_refused b name many is =
    subst (λ (c : Bool). Answers (refuse_if c TooManySites (codes "-")) (Err (Refused TooManySites name))) (sym many) (refused_told (codes "-") name TooManySites is)

-- the sites of a module's items
pub sites_at : (m : Module) (items : List Item) (result : Result Unit RuleFault) → items ≡ m.items
    → Answers (refuse_if (not (nat_le (length (of_kind true (item_arrows items))) most_sites)) TooManySites (codes "-")) result → Answers (site_breaches m) result
sites_at m items result same told = by_form (ap (λ l. refuse_if (not (nat_le (length (of_kind true (item_arrows l))) most_sites)) TooManySites (codes "-")) (sym same)) told

-- ---- the whole

-- where the walk begins
pub begun : (p : Place) (text file : Text) (table roots : Text → Root_kind) → p ≡ record { file = text; roots = table; scopes = [] } → text ≡ file → ((q : Text) → table q ≡ roots q)
    → p ≡ record { file = file; roots = roots; scopes = [] }
begun p text file table roots at named same = at ∙ (λ j. record { file = named j; roots = λ q. same q j; scopes = [] })

module _ (file : Text) (roots : Text → Root_kind) (m : Module) where
  in_fault : (fault : RuleFault) → Refuses (all_placing_breaches file roots m) fault → Checks file roots m (Err fault)
  in_fault fault (checking.first e) = checking.refused e
  in_fault fault checking.want = checking.want

  pub checked : (result : Result Unit RuleFault) → Answers (all_placing_breaches file roots m) result → Checks file roots m result
  checked (Ok tt) told = checking.all told.comes
  checked (Err fault) told = in_fault fault told.comes

  -- what the items break
  pub items_break : (p : Place) (items : List Item) → p ≡ record { file = file; roots = roots; scopes = [] } → items ≡ m.items
      → flat_map (placing_breaches file roots) (item_spots m.items) ≡ flat_map (of_item p) items
  items_break p items at same = items_row file roots m.items ∙ ap (λ q. flat_map (of_item q) m.items) (sym at) ∙ ap (flat_map (of_item p)) (sym same)

  pub items_refused : (p : Place) (items : List Item) (result : Result Unit RuleFault) (fault : RuleFault) → p ≡ record { file = file; roots = roots; scopes = [] } → items ≡ m.items
      → Answers (flat_map (of_item p) items) (Err fault) → result ≡ Err fault → Checks file roots m result
  items_refused p items result fault at same told is = checked result (stops (site_breaches m) (ap (λ l. l ++ site_breaches m) (items_break p items at same)) told is)

  pub items_kept : (p : Place) (items : List Item) (result : Result Unit RuleFault) → p ≡ record { file = file; roots = roots; scopes = [] } → items ≡ m.items
      → Answers (flat_map (of_item p) items) (Ok tt) → Answers (site_breaches m) result → Checks file roots m result
  items_kept p items result at same told sites = checked result (goes_on (ap (λ l. l ++ site_breaches m) (items_break p items at same)) told sites)

  pub for_want : (result : Result Unit RuleFault) → result ≡ Err Memory → Checks file roots m result
  for_want result is = subst (λ (r : Result Unit RuleFault). Checks file roots m r) (sym is) checking.want
