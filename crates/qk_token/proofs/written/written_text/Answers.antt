use Rattle.std.proofs.Common.{◌≡◌, ◌∙◌, sym, subst, rules}
use Rattle.std.specs.Prelude.{IfOk}
use Rattle.std.specs.Str.{chars}
use Rattle.std.specs.String.{string_bytes}
use Rattle.qk_ast.specs.Tree.{value}
use Rattle.qk_token.specs.Pieces.{pieces_of}
use Rattle.qk_token.proofs.PieceLemmas.{starts, ends, goes_on, plain_value}
use Rattle.qk_token.proofs.written.written_text.Goals as goal

pub returns-then-is_plain : goal.returns-then-is_plain
returns-then-is_plain c = subst (λ v. IfOk c.name_text.result (λ t. t ≡ v)) (sym (plain_value (chars c.args.inside.now) (sym c.is_plain.ensures ∙ c.if-is_plain.true))) c.name_text.ensures

pub loop-c-init : goal.loop-c-init
loop-c-init c = record { utf8 = search rules; written = starts (string_bytes c.new-text.result) (chars c.args.inside.now) c.new-text.ensures.bytes }

pub loop-c-preserved : goal.loop-c-preserved
loop-c-preserved c = record {
  utf8 = search rules;
  written = goes_on (string_bytes c.loop-c.text) (string_bytes c.push.new.self) (chars c.loop-c.rest.now) (chars c.in-Some.more.now) (chars c.first_character-character.result.1.now) (chars c.args.inside.now)
      c.in-Some.c c.first_character-character.result.0 c.in-Some.ensures.value c.first_character-character.ensures.value c.in_ok-push.ensures.bytes c.loop-c.invariant.written;
}

pub returns : goal.returns
returns c =
    let whole : string_bytes c.loop-c.text ≡ value (pieces_of (chars c.args.inside.now)) = ends _ _ _ c.in_default.ensures.value c.loop-c.invariant.written in
    subst (λ v. IfOk c.from_string.result (λ t. t ≡ v)) whole c.from_string.ensures
