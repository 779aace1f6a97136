use Rattle.std.specs.Prelude.{◌≡◌, [], ◌∷◌, codes}
use Rattle.std.proofs.Common.{ap, sym, ◌∙◌, rules}
use Rattle.qk_meaning.specs.World as W
use Rattle.qk_meaning.specs.Heap.{Found, Runs, read_object}
use Rattle.qk_value.specs.View.{seen, seen_function}
use Rattle.qk_heap.specs.Seen.{object_seen}
use Rattle.qk_acts.proofs.Looked.{reads_refused}
use Rattle.qk_acts.proofs.reading.look_in_object.Goals as goal

pub returns-in_err-only-in-Signal : goal.returns-in_err-only-in-Signal
returns-in_err-only-in-Signal c = reads_refused _ c.from_residual.result c.in_err-only-in-Signal.field-0.0 (search rules) (λ captured.
    ap (λ o. read_object c.args.a.0 (object_seen captured o) (seen captured c.args.key.now)) c.in-Signal.is
    ∙ c.in_err-only-in-Signal.ensures.read captured (Found (seen captured c.in-Signal.v) (record { address = c.args.a.0; key = W.Prop (codes "value") } ∷ [])))

pub returns-in_err-only-in-Computed : goal.returns-in_err-only-in-Computed
returns-in_err-only-in-Computed c = reads_refused _ c.from_residual-in_err-only-in-Computed.result c.in_err-only-in-Computed.field-0.0 (search rules) (λ captured.
    ap (λ o. read_object c.args.a.0 (object_seen captured o) (seen captured c.args.key.now)) c.in-Computed.is
    ∙ c.in_err-only-in-Computed.ensures.read captured (Runs c.args.a.0 (seen_function captured c.in-Computed.f)))

pub returns-in_ok-share-in-Signal : goal.returns-in_ok-share-in-Signal
returns-in_ok-share-in-Signal c = λ captured.
    let named : c.in_ok-name-in-Signal.name ≡ codes "value" = c.in_ok-name-in-Signal.ensures ∙ c.in_ok-only-in-Signal.ensures.name in
    ap (λ o. read_object c.args.a.0 (object_seen captured o) (seen captured c.args.key.now)) c.in-Signal.is
    ∙ c.in_ok-only-in-Signal.ensures.read captured (Found (seen captured c.in-Signal.v) (record { address = c.args.a.0; key = W.Prop (codes "value") } ∷ []))
    ∙ ap (λ v. Found (seen captured v) (record { address = c.args.a.0; key = W.Prop (codes "value") } ∷ [])) (sym c.in_ok-share-in-Signal.ensures)
    ∙ ap (λ t. Found (seen captured c.in_ok-share-in-Signal.field-0) (record { address = c.args.a.0; key = W.Prop t } ∷ [])) (sym named)

pub returns-in_ok-share-in-Computed : goal.returns-in_ok-share-in-Computed
returns-in_ok-share-in-Computed c = λ captured.
    ap (λ o. read_object c.args.a.0 (object_seen captured o) (seen captured c.args.key.now)) c.in-Computed.is
    ∙ c.in_ok-only-in-Computed.ensures.read captured (Runs c.args.a.0 (seen_function captured c.in-Computed.f))
    ∙ ap (λ f. Runs c.args.a.0 (seen_function captured f)) (sym c.in_ok-share-in-Computed.ensures)
