-- What the forms that make functions come to, and what names of the framework do.
use Rattle.std.specs.Prelude.{◌≡◌, refl, ℕ, Bool, true, false, ◌&&◌, List, ◌∷◌, codes}
use Rattle.std.proofs.Common.{◌∙◌, ap}
use Rattle.qk_ast.specs.declared.Expr.{Expr, Row_of-Expr, end_of-Expr, Row_of-Link, end_of-Link}
use Rattle.qk_ast.specs.Texts.{Text, same_text}
use Rattle.qk_meaning.specs.Value.{Value, Lifted}
use Rattle.qk_meaning.specs.Parts.{packed, picked, value_at}
use Rattle.qk_meaning.specs.Doing.{Outcome, Gives, Stops, after, ◌>>=◌, give, chosen}
use Rattle.qk_meaning.specs.Running.{Running}
use Rattle.qk_meaning.specs.Alike.{Reach}
use Rattle.qk_meaning.specs.Setting.{Setting}
use Rattle.qk_meaning.specs.Making.{made}
use Rattle.qk_meaning.specs.References.{Of, Local, Tracker, Framework_name, root_reference, use_told, root_used, outer_named, value_of}
use Rattle.qk_meaning.specs.Calls.{The_dollar, call}
use Rattle.qk_meaning.specs.Evaluation.{refer, followed, lifted_value, values}
use Rattle.qk_alike.specs.Code_stands as C
use Rattle.qk_alike.proofs.Doing_laws.{Fine}

and_false : (c d : Bool) → d ≡ false → (c && d) ≡ false
and_false true d e = e
and_false false d e = refl

module _ (here : Setting) where
  root_means : {r : Reach} {name meaning : Text} → C.Means here.program here.file r name meaning → (s : Running) → root_used here name s ≡ Gives (Framework_name meaning) s
  root_means {name = name} m s = ap (λ x. after (use_told here name x s) (λ u. give (root_reference x))) m.root

  outer_means : {r : Reach} {name meaning : Text} → C.Means here.program here.file r name meaning → (s : Running) → outer_named here name s ≡ Gives (Framework_name meaning) s
  outer_means {name = name} m s = ap (λ c. chosen c (give Tracker) (root_used here name) s) (and_false here.tracks (same_text name (codes "track")) m.no_tracker) ∙ root_means m s

  pub means : {r : Reach} {name meaning : Text} → C.Means here.program here.file r name meaning → (s : Running) → Fine r s.locals → refer (Expr.Name name) here s ≡ Gives (Framework_name meaning) s
  means {r} {name} {meaning} m s fine = ap (λ c. chosen c (give (Local name)) (outer_named here name) s) (fine name m.reached ∙ m.no_local) ∙ outer_means m s

  names_come : {r : Reach} {names : List Text} {m : _} {row : Row_of-Expr m} → C.Local_names r names m row → (s : Running) → Fine r s.locals → values row here s ≡ Gives (picked names s.locals) s
  names_come C.no_names s fine = refl
  names_come (C.one_name {name = name} {names = names} {rest = rest} h k row) s fine =
      ap (λ c. after (after (chosen c (give (Local name)) (outer_named here name) s) (λ r. value_of here r)) (λ v. ◌>>=◌ (values rest here) (λ vs. give (v ∷ vs)))) (fine name h ∙ k)
      ∙ ap (λ o. after o (λ vs. give (value_at name s.locals ∷ vs))) (names_come row s fine)

  dollar_given : (o : Outcome Running Value) →
      after (after (after (after (after o (λ v. give (Of v))) (λ r. value_of here r)) (λ v. ◌>>=◌ (values end_of-Expr here) (λ vs. give (v ∷ vs)))) (λ vs. call here The_dollar vs)) (λ v. followed end_of-Link here (Of v)) ≡ after o (λ v. give (Of v))
  dollar_given (Gives v s) = refl
  dollar_given (Stops why s) = refl

  dollar_call : {place : ℕ} {m : _} {all : Row_of-Expr m} → C.Arrow_row place m all → (s : Running) →
      after (after (values all here s) (λ vs. call here The_dollar vs)) (λ v. give (Of v)) ≡ ◌>>=◌ (made here (here.program.makes (here.program.site here.file place) s.locals)) (λ v. give (Of v)) s
  dollar_call {place} C.arrow_row s = dollar_given (made here (here.program.makes (here.program.site here.file place) s.locals) s)

  calls_dollar : {place : ℕ} {m : _} {links : Row_of-Link m} → C.One_call (C.Arrow_row place) m links → (s : Running) →
      followed links here (Framework_name (codes "$")) s ≡ ◌>>=◌ (made here (here.program.makes (here.program.site here.file place) s.locals)) (λ v. give (Of v)) s
  calls_dollar (C.one_call row) s = dollar_call row s

  qrl_call : {r : Reach} {symbol : Text} {names : List Text} {m : _} {all : Row_of-Expr m} → C.Qrl_row r symbol names m all → (s : Running) → Fine r s.locals →
      after (lifted_value all here s) (λ v. give (Of v)) ≡ ◌>>=◌ (made here (Lifted symbol (packed (picked names s.locals)) false)) (λ v. give (Of v)) s
  qrl_call {symbol = symbol} (C.qrl_row all) s fine = ap (λ o. after (after o (λ vs. made here (Lifted symbol (packed vs) false))) (λ v. give (Of v))) (names_come all s fine)

  calls_qrl : {r : Reach} {symbol : Text} {names : List Text} {m : _} {links : Row_of-Link m} → C.One_call (C.Qrl_row r symbol names) m links → (s : Running) → Fine r s.locals →
      followed links here (Framework_name (codes "qrl")) s ≡ ◌>>=◌ (made here (Lifted symbol (packed (picked names s.locals)) false)) (λ v. give (Of v)) s
  calls_qrl (C.one_call row) s fine = qrl_call row s fine

  pub comes : {r : Reach} {e : Expr} (m : C.Makes here.program here.file r e) (s : Running) → Fine r s.locals → refer e here s ≡ ◌>>=◌ (made here (C.made_by m s.locals)) (λ v. give (Of v)) s
  comes C.an_arrow s fine = refl
  comes (C.a_dollar {links = links} m call) s fine = ap (λ o. after o (λ r. followed links here r)) (means m s fine) ∙ calls_dollar call s
  comes (C.a_qrl {links = links} m call) s fine = ap (λ o. after o (λ r. followed links here r)) (means m s fine) ∙ calls_qrl call s fine
