-- The simulation: readings of programs that stand for one another agree.
use Rattle.std.specs.Prelude.{ℕ, zero, suc}
use Rattle.std.proofs.Common.{sym, subst}
use Rattle.qk_meaning.specs.Program.{Program, captures_in}
use Rattle.qk_meaning.specs.Setting.{Computed_reading}
use Rattle.qk_meaning.specs.Evaluation.{entering}
use Rattle.qk_meaning.specs.Ties.{Ties, Apart}
use Rattle.qk_meaning.specs.Worlds_stand.{Start}
use Rattle.qk_meaning.specs.Alike.{both_stop, Doings_stand}
use Rattle.qk_alike.specs.Code_stands.{Programs_stand}
use Rattle.qk_alike.specs.Computed_alike.{Computed_alike}
use Rattle.qk_alike.specs.Laws.{ReadingsAgree, CalledAnewAlike}
use Rattle.qk_alike.proofs.Value_laws.{Facts}
use Rattle.qk_alike.proofs.Doing_laws.{Enterings_stand, Computings_stand}
use Rattle.qk_alike.proofs.Objects.{all_facts}
use Rattle.qk_alike.proofs.Keeping.{keeps, anew}
use Rattle.qk_alike.proofs.Enters.{enters_with}

module _ (t : Ties) (b : Start) (computed : Computed_reading) (P Q : Program) (apart : Apart t) (programs : Programs_stand P Q t.sites) (alike : Computed_alike t b computed) where
  pub facts : Facts t (captures_in P) (captures_in Q)
  facts = subst (λ c. Facts t c (captures_in Q)) (λ i site. sym (programs.captures site) i) (all_facts t apart (captures_in Q) programs.other_captures)

  computeds : Computings_stand t (Doings_stand t b) computed
  computeds = record { reads = λ {enter} {enter'} E {r} {running} {running'} {x} {y} {f} {g} rr xy h. alike enter enter' (λ r mode running running' f g all all' rr h hs. E.enters mode rr h hs) r running running' x y f g rr xy h }

  pub enters_alike : (levels : ℕ) → Enterings_stand t (Doings_stand t b) (entering P computed levels) (entering Q computed levels)
  enters_alike zero = record { enters = λ mode rr h hs s s' k. both_stop k.left }
  enters_alike (suc levels) = record { enters = λ mode rr h hs. enters_with apart (keeps t b apart (λ v w k. facts.truths k)) P Q programs facts computed computeds (entering P computed levels) (entering Q computed levels) (enters_alike levels) mode rr h hs }

pub readings_agree : ReadingsAgree
readings_agree t b computed P Q apart programs alike r levels mode running running' f g all all' s s' rr h hs k = (enters_alike t b computed P Q apart programs alike levels).enters mode rr h hs s s' k

pub called_anew_alike : CalledAnewAlike
called_anew_alike = anew
