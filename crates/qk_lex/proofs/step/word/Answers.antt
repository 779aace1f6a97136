use Rattle.std.proofs.Common.{◌∙◌, ◌∷◌, ◌-◌, ap, length, take, List, ℕ}
use Rattle.std.specs.Str.{chars}
use Rattle.qk_ast.specs.Characters.{continues_name, run}
use Rattle.qk_lex.proofs.TableLemmas.{word_bytes, word_reserved, word_plain}
use Rattle.qk_lex.proofs.step.word.Goals as goal

pub returns-then-is_reserved-clause-value : goal.returns-then-is_reserved-clause-value
returns-then-is_reserved-clause-value c = λ x e.
    let bytes =
    ap (λ (b : List ℕ). take (length c.args.text.now - length c.after_run-rest.result.now) b) c.as_bytes.ensures.value
    ∙ word_bytes c.args.text.now c.after_run-rest.result.now x (chars c.args.more.now) c.utf8.text c.after_run-rest.utf8 e c.after_run-rest.ensures.value in
    word_reserved (x ∷ run continues_name (chars c.args.more.now)) _ _ _ _ _ bytes c.is_reserved.ensures c.if-is_reserved.true c.is_same.ensures c.after_run-rest.ensures.value

pub returns-else-is_reserved-clause-value : goal.returns-else-is_reserved-clause-value
returns-else-is_reserved-clause-value c = λ x e.
    let bytes =
    ap (λ (b : List ℕ). take (length c.args.text.now - length c.after_run-rest.result.now) b) c.as_bytes.ensures.value
    ∙ word_bytes c.args.text.now c.after_run-rest.result.now x (chars c.args.more.now) c.utf8.text c.after_run-rest.utf8 e c.after_run-rest.ensures.value in
    c.plain.ensures.value
    ∙ word_plain (x ∷ run continues_name (chars c.args.more.now)) _ _ _ _ bytes c.is_reserved.ensures c.if-is_reserved.false c.after_run-rest.ensures.value
