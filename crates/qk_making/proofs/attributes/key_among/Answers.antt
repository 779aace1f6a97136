use Rattle.std.specs.Prelude.{Option}
use Rattle.std.proofs.Common.{◌≡◌, ◌∙◌, ap, sym}
use Rattle.qk_ast.specs.Texts.{Text}
use Rattle.qk_meaning.specs.Markup as meaning
use Rattle.qk_value.specs.View.{seen, seen_fields}
use Rattle.qk_environment.specs.Scoping.{Captures}
use Rattle.qk_environment.proofs.Scopes.{if_ok}
use Rattle.qk_making.proofs.Written_attributes.{key_in, key_found}
use Rattle.qk_making.proofs.attributes.key_among.Goals as goal

pub returns-in-Some : goal.returns-in-Some
returns-in-Some c =
    let Read : Option Text → Type 0 = λ key. (names : Captures) → key ≡ meaning.key_text (seen names c.in-Some.v.now) in
    let Wanted : Option Text → Type 0 = λ key. (names : Captures) → key ≡ meaning.key_among (seen_fields names c.args.attributes.now) in
    if_ok Read Wanted c.key_text.result (λ key read names. read names ∙ (ap key_in (c.in-Some.ensures names) ∙ sym (key_found (seen_fields names c.args.attributes.now)))) c.key_text.ensures

pub returns-in-None : goal.returns-in-None
returns-in-None c = λ names. ap key_in (c.in-None.ensures names) ∙ sym (key_found (seen_fields names c.args.attributes.now))
