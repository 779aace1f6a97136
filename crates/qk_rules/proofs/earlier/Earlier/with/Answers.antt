use Rattle.std.proofs.Common.{ap, sym, ◌∙◌, ◌++◌, ◌∷◌, []}
use Rattle.qk_ast.specs.Names.{is_listed}
use Rattle.qk_ast.specs.Tags.{is_listener}
use Rattle.qk_rules.specs.Attributes.{is_alone}
use Rattle.qk_rules.proofs.Event_sets.{refused_alone, kept_other, listener_tried}
use Rattle.qk_rules.proofs.earlier.Earlier.with.Goals as goal

pub returns-then-not-is_alone : goal.returns-then-not-is_alone
returns-then-not-is_alone c =
    refused_alone c.args.tag.now c.args.name.now c.args.value.now c.args.self
    (ap (λ t. is_alone c.args.tag.now t c.args.value.now) (sym c.as_str-key.ensures) ∙ sym c.is_alone.ensures ∙ c.if-not-is_alone.true)

pub returns-then-is_listener : goal.returns-then-is_listener
returns-then-is_listener c =
    listener_tried c.args.tag.now c.args.name.now c.as_str-key.result.now c.args.value.now c.args.self c.as_str-key.ensures (sym c.has.ensures ∙ c.if-has.false) (sym c.is_alone.ensures ∙ c.if-not-is_alone.false)
    (sym c.is_listener.ensures ∙ c.if-is_listener.true) c.with_listener.result c.with_listener.ensures

pub returns : goal.returns
returns c =
    let same = c.as_str-key.ensures in (
      kept_other c.args.tag.now c.args.name.now c.args.value.now c.args.self
          (ap (λ t. is_listed t c.args.self) (sym same) ∙ sym c.has.ensures ∙ c.if-has.false)
          (ap (λ t. is_alone c.args.tag.now t c.args.value.now) (sym same) ∙ sym c.is_alone.ensures ∙ c.if-not-is_alone.false)
          (ap is_listener (sym same) ∙ sym c.is_listener.ensures ∙ c.if-is_listener.false),
      c.in_ok-with_other.ensures ∙ ap (λ t. c.args.self ++ t ∷ []) same,
    )
