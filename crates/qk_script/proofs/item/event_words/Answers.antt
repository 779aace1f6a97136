use Rattle.std.proofs.Common.{◌≡◌, ◌++◌, ap, sym, ◌∙◌, subst}
use Rattle.std.specs.Option.{option_map}
use Rattle.std.proofs.lemmas.Bool.{false≢true}
use Rattle.qk_script.specs.Script.{value_spelling}
use Rattle.qk_script.proofs.Events.{not_event}
use Rattle.qk_script.proofs.item.event_words.Goals.{else-is_event_kind-via-then-is_event_kind+else-is_event_id, else-is_event_kind-via-else-is_event_kind}
use Rattle.qk_script.proofs.item.event_words.Goals as goal

pub returns-else-is_event_kind-clause-none : goal.returns-else-is_event_kind-clause-none
returns-else-is_event_kind-clause-none c e item spelled =
    let both = not_event c.args.line.now c.first_word.result.0.now c.in_default-Some.rest.now c.first_word-2.result.0.now (option_map (λ v. v.now) c.first_word-2.result.1) e c.first_word.ensures.word
    (subst (λ o. c.args.line.now ≡ c.first_word.result.0.now ++ value_spelling (option_map (λ v. v.now) o)) c.in_default-Some.is-1 c.first_word.ensures.parts) c.first_word-2.ensures.word (ap (λ r. r.now) (sym c.in_default-Some.rest-is) ∙ c.first_word-2.ensures.parts) item spelled in
    elim c.else-is_event_kind.branch [
      | else-is_event_kind-via-then-is_event_kind+else-is_event_id w ↦ false≢true (w.if-is_event_id.ensures ∙ both.1)
      | else-is_event_kind-via-else-is_event_kind w ↦ false≢true (w.if-is_event_kind.ensures ∙ both.0)
    ]
