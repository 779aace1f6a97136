-- What the tree of settled views comes to.
use Rattle.std.specs.Prelude.{◌≡◌, ℕ, List, Err}
use Rattle.std.proofs.Common.{sym, subst}
use Rattle.qk_ast.specs.Texts.{Text}
use Rattle.qk_meaning.specs.Value.{Site}
use Rattle.qk_meaning.specs.Doing.{Outcome, Stops, Faults, Ends}
use Rattle.qk_meaning.specs.Expansion.{Nodes}
use Rattle.qk_value.specs.Faults.{fault_of}
use Rattle.qk_value.specs.declared.fault.Fault.{Fault}
use Rattle.qk_tree.specs.declared.visit.Stop.{Stop}
use Rattle.qk_tree.specs.declared.settled.TreeStop.{TreeStop}
use Rattle.qk_tree.specs.Doings.{exceeds, Did}
use Rattle.qk_tree.specs.Settled.{Tree_comes}

module _ (names : Site → List Text) (o : Outcome (Unit {0}) Nodes) where
  a_fault : (f : Fault) → o ≡ Stops (Faults (fault_of f)) (tt {0}) → Tree_comes names o (Err (TreeStop.Fault f))
  a_fault Fault.TypeMismatch h = h
  a_fault Fault.NoProperty h = h
  a_fault Fault.NotCallable h = h
  a_fault Fault.OutOfSafeRange h = h
  a_fault Fault.ZeroDivisor h = h
  a_fault Fault.IndexPastEnd h = h
  a_fault Fault.FixedWrite h = h
  a_fault Fault.RenderWrite h = h
  a_fault Fault.RenderLog h = h
  a_fault Fault.Identity h = h
  a_fault Fault.TextTooLong h = h
  a_fault Fault.ListTooLong h = h
  a_fault Fault.TreeTooLarge h = subst (λ x. exceeds 65536 x) (sym h) tt
  a_fault Fault.TreeTooDeep h = h
  a_fault Fault.NotText h = h
  a_fault Fault.DuplicateKey h = h
  a_fault Fault.NoContext h = h
  a_fault Fault.ComputedCycle h = h
  a_fault Fault.HtmlTooLong h = h

  module _ {R : Type 0} (stands : Unit {0} → Type 0) (refused : R → Unit {0} → Type 0) (most : ℕ) (nodes : Nodes) (room : ℕ) (e : Stop R) where
    pub a_fault_comes : (f : Fault) → e ≡ Stop.Fault f → Did stands refused most o (Err e) nodes room → Tree_comes names o (Err (TreeStop.Fault f))
    a_fault_comes f is h = a_fault f (subst (λ x. Did stands refused most o (Err x) nodes room) is h).is

    pub no_view_comes : e ≡ Stop.Ended → Did stands refused most o (Err e) nodes room → o ≡ Stops Ends (tt {0})
    no_view_comes is h = (subst (λ x. Did stands refused most o (Err x) nodes room) is h).is

    pub too_many_come : e ≡ Stop.TooMany → Did stands refused most o (Err e) nodes room → exceeds most o
    too_many_come is h = subst (λ x. Did stands refused most o (Err x) nodes room) is h
