use Rattle.std.proofs.Common.{◌≡◌, ap, sym, ◌∙◌}
use Rattle.qk_locals.specs.Meanings.{mark_of}
use Rattle.qk_captures.specs.Walking.{note_of, noted, arrow_of}
use Rattle.qk_captures.specs.Scoping.{in_scope}
use Rattle.qk_captures.proofs.Walks.{behind_arrow}
use Rattle.qk_captures.proofs.walk.Walk.arrow.Goals as goal

pub returns : goal.returns
returns c =
    let same : record { dollar = c.is_dollar.result; names = c.in_ok-names.names } ≡ note_of (arrow_of c.args.arrow.now (mark_of c.args.mark) (in_scope c.args.self.now.scope)) = λ j. record { dollar = c.is_dollar.ensures j; names = c.in_ok-names.ensures j } in
    rw (behind_arrow c.args.arrow.now (mark_of c.args.mark) c.args.self.now ∙ ap (λ n. noted n c.args.self.now) (sym same)) c.note.ensures
