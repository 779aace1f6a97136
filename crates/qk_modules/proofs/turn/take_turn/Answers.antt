use Rattle.std.proofs.Common.{rules, ◌≡◌, sym, ap, subst, ◌∙◌, None, Some, Err, refl, length}
use Rattle.qk_store.specs.Answers.{content, bytes}
use Rattle.qk_modules.specs.Gathering.{named_by}
use Rattle.qk_modules.specs.declared.fault.GatherFault.TheVariants.{Memory}
use Rattle.qk_modules.proofs.Turnings.{unread_absent, unread_want, failed_read, read_gone, read_long, read_text}
use Rattle.qk_modules.proofs.turn.take_turn.Goals as goal

pub returns-in_default-clause-turns : goal.returns-in_default-clause-turns
returns-in_default-clause-turns g c =
    unread_absent (g.S.Store.files c.args.store.now) (g.S.Store.answers c.args.store.now) c.args.modules.now c.args.source.now c.absence.result
    (subst (λ t. None ≡ named_by t) c.as_str.ensures c.in_default.ensures) c.absence.ensures

pub returns-in_err-name-clause-turns : goal.returns-in_err-name-clause-turns
returns-in_err-name-clause-turns g c =
    let e : c.from_residual.result ≡ Err Memory = search rules in
    unread_want (g.S.Store.files c.args.store.now) (g.S.Store.answers c.args.store.now) c.args.modules.now c.args.source.now c.from_residual.result e

pub returns-in-Ok-Gone-clause-turns : goal.returns-in-Ok-Gone-clause-turns
returns-in-Ok-Gone-clause-turns g c =
    read_gone (g.S.Store.files c.args.store.now) (g.S.Store.answers c.args.store.now) c.args.modules.now c.args.source.now
    (g.S.Store.answers c.read_file.new.store) c.in_ok-name.name (content c.in-Ok-Gone.field-0)
    (ap Some c.in_ok-name.ensures ∙ subst (λ t. Some c.in-Some.name.now ≡ named_by t) c.as_str.ensures c.in-Some.ensures) c.in-Ok-Gone.ensures.answered c.in-Ok-Gone.ensures.found
    c.absence-in-Ok-Gone.result (ap content c.in-Ok-Gone.field-0-is) c.absence-in-Ok-Gone.ensures

pub returns-in-Ok-TooLong-clause-turns : goal.returns-in-Ok-TooLong-clause-turns
returns-in-Ok-TooLong-clause-turns g c =
    read_long (g.S.Store.files c.args.store.now) (g.S.Store.answers c.args.store.now) c.args.modules.now c.args.source.now
    (g.S.Store.answers c.read_file.new.store) c.in_ok-name.name (content c.in-Ok-TooLong.field-0)
    (ap Some c.in_ok-name.ensures ∙ subst (λ t. Some c.in-Some.name.now ≡ named_by t) c.as_str.ensures c.in-Some.ensures) c.in-Ok-TooLong.ensures.answered c.in-Ok-TooLong.ensures.found
    c.too_long.result (ap content c.in-Ok-TooLong.field-0-is) c.too_long.ensures

pub returns-in-Ok-Bytes-clause-turns : goal.returns-in-Ok-Bytes-clause-turns
returns-in-Ok-Bytes-clause-turns g c =
    read_text (g.S.Store.files c.args.store.now) (g.S.Store.answers c.args.store.now) c.args.modules.now c.args.source.now
    (g.S.Store.answers c.read_file.new.store) c.in_ok-name.name (content c.in-Ok-Bytes.field-0)
    (ap Some c.in_ok-name.ensures ∙ subst (λ t. Some c.in-Some.name.now ≡ named_by t) c.as_str.ensures c.in-Some.ensures) c.in-Ok-Bytes.ensures.answered c.in-Ok-Bytes.ensures.found
    c.as_slice.result.now (length c.args.modules.now) c.parsed.result (ap content c.in-Ok-Bytes.field-0-is ∙ ap bytes (sym c.as_slice.ensures.value)) refl c.parsed.ensures

pub returns-in-Err-clause-turns : goal.returns-in-Err-clause-turns
returns-in-Err-clause-turns g c =
    failed_read (g.S.Store.files c.args.store.now) (g.S.Store.answers c.args.store.now) c.args.modules.now c.args.source.now (g.S.Store.answers c.read_file.new.store) c.in-Err.fault c.in-Err.ensures.refused c.in-Err.ensures.stops
