use Rattle.std.proofs.Common.{rules, ◌≡◌}
use Rattle.std.specs.Prelude.{Err}
use Rattle.qk_application.proofs.Judged.{handed_on, names_fail, places_fail, all_kept}
use Rattle.qk_application.proofs.accepting.judge.Goals as goal

pub returns-in_err-names : goal.returns-in_err-names
returns-in_err-names c =
    let e : c.from_residual.result ≡ Err c.in_err-names.field-0.0 = search rules in
    handed_on _ _ _ _ e (names_fail c.args.modules _ _ c.as_slice.ensures c.in_err-names.ensures)

pub returns-in_err-check_places : goal.returns-in_err-check_places
returns-in_err-check_places c =
    let e : c.from_residual-in_err-check_places.result ≡ Err c.in_err-check_places.field-0.0 = search rules in
    handed_on _ _ _ _ e (places_fail c.args.modules _ _ _ _ c.as_slice.ensures c.as_slice-2.ensures c.in_ok-names.ensures c.in_err-check_places.ensures)

pub returns : goal.returns
returns c = all_kept c.args.modules _ _ _ _ c.as_slice.ensures c.as_slice-2.ensures c.in_ok-names.ensures c.in_ok-check_places.ensures
