use Rattle.std.specs.Prelude.{List, false}
use Rattle.std.proofs.Common.{◌≡◌, ◌∙◌, ap, refl}
use Rattle.qk_ast.specs.Texts.{Text}
use Rattle.qk_captures.specs.declared.Captured.{Captured}
use Rattle.qk_meaning.specs.Parts.{packed, picked}
use Rattle.qk_meaning.specs.Setting.{captures}
use Rattle.qk_environment.specs.Scoping.{scope_seen}
use Rattle.qk_code.specs.Standing.{site_seen, known_at}
use Rattle.qk_making.specs.Acting.{seen_in}
use Rattle.qk_making.specs.Keeping.{code_kept}
use Rattle.qk_making.proofs.Acting.{comes_cause, some_setting, some_state}
use Rattle.qk_making.proofs.Capturing.{function_made}
use Rattle.qk_making.proofs.functions.make_function.Goals as goal

pub returns-clause-made : goal.returns-clause-made
returns-clause-made c = λ here s knows file locals.
    let known : c.known_at-known.result.now ≡ known_at c.args.func.now c.args.place = c.known_at-known.ensures in
    function_made here s c.args.func.now c.args.place c.args.scope.now.names.items (record { code = c.in_ok-code.code; captures = c.in_ok-captures.captures; hidden = false }) c.fixed.result knows file locals
    (c.in_ok-code.ensures ∙ ap (λ (k : Captured). code_kept (site_seen k.site)) known)
    (c.in_ok-captures.ensures (captures here) ∙ ap (λ (ts : List Text). packed (picked ts (scope_seen (captures here) c.args.scope.now.names.items))) (c.as_slice.ensures ∙ ap (λ (k : Captured). k.names) known))
    refl (c.fixed.ensures here)

pub returns-clause-cause : goal.returns-clause-cause
returns-clause-cause c = λ counts. comes_cause (seen_in some_setting) _ counts c.fixed.result some_state (c.fixed.ensures some_setting some_state)
