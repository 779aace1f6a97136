use Rattle.std.proofs.Common.{◌≡◌, length, ap, sym, ◌∙◌, arith}
use Rattle.qk_reading.specs.Reader as reader
use Rattle.qk_token.specs.View.{tokens_of}
use Rattle.qk_parse.proofs.Parses.{derived, read_refused, refused_none, syntax_within, deep_within, few_tokens, tokens_count}
use Rattle.qk_parse.proofs.parse.parse_lexed.Goals as goal

pub read_module-requires-clause-few : goal.read_module-requires-clause-few
read_module-requires-clause-few c =
    let few = few_tokens c.args.form c.args.text.now c.args.lexed.now c.utf8.text c.requires.short c.requires.lexes in
    let same : length (tokens_of c.tokens.result.now) ≡ length c.args.lexed.now.tokens = ap length c.tokens.ensures.tokens in
    omega (arith, few, same, tokens_count c.tokens.result.now)

pub returns-in-Ok-clause-derived : goal.returns-in-Ok-clause-derived
returns-in-Ok-clause-derived c =
    derived c.laws.ensures.texts c.args.form c.args.text.now c.args.lexed.now.tokens c.in-Ok.module c.utf8.text c.requires.short c.requires.lexes.reads
    (ap (λ n. reader.read_module c.args.form n c.args.lexed.now.tokens) (sym c.deepest.ensures) ∙ (ap (λ ts. reader.read_module c.args.form c.deepest.result ts) (sym c.tokens.ensures.tokens) ∙ c.in-Ok.ensures.read))

pub placed-requires-clause-syntax : goal.placed-requires-clause-syntax
placed-requires-clause-syntax c = λ left e.
    syntax_within c.laws.ensures.inside c.args.form c.args.lexed.now c.in-Err.fault left
    (λ k. ap (λ n. reader.read_module c.args.form n c.args.lexed.now.tokens) (sym c.deepest.ensures) ∙ (ap (λ ts. reader.read_module c.args.form c.deepest.result ts) (sym c.tokens.ensures.tokens) ∙ c.in-Err.ensures.refused k)) e

pub placed-requires-clause-deep : goal.placed-requires-clause-deep
placed-requires-clause-deep c = λ left e.
    deep_within c.laws.ensures.inside c.args.form c.args.lexed.now c.in-Err.fault left
    (λ k. ap (λ n. reader.read_module c.args.form n c.args.lexed.now.tokens) (sym c.deepest.ensures) ∙ (ap (λ ts. reader.read_module c.args.form c.deepest.result ts) (sym c.tokens.ensures.tokens) ∙ c.in-Err.ensures.refused k)) e

pub returns-in-Err-clause-refused : goal.returns-in-Err-clause-refused
returns-in-Err-clause-refused c =
    rw c.placed.ensures (read_refused c.laws.ensures.exact c.laws.ensures.nowhere c.laws.ensures.deep c.laws.ensures.inside c.args.form c.args.text.now c.args.lexed.now c.in-Err.fault c.requires.short c.requires.lexes
    (λ k. ap (λ n. reader.read_module c.args.form n c.args.lexed.now.tokens) (sym c.deepest.ensures) ∙ (ap (λ ts. reader.read_module c.args.form c.deepest.result ts) (sym c.tokens.ensures.tokens) ∙ c.in-Err.ensures.refused k)))

pub returns-in-Err-clause-none : goal.returns-in-Err-clause-none
returns-in-Err-clause-none c =
    rw c.placed.ensures (refused_none _ _ _ (read_refused c.laws.ensures.exact c.laws.ensures.nowhere c.laws.ensures.deep c.laws.ensures.inside c.args.form c.args.text.now c.args.lexed.now c.in-Err.fault c.requires.short c.requires.lexes
    (λ k. ap (λ n. reader.read_module c.args.form n c.args.lexed.now.tokens) (sym c.deepest.ensures) ∙ (ap (λ ts. reader.read_module c.args.form c.deepest.result ts) (sym c.tokens.ensures.tokens) ∙ c.in-Err.ensures.refused k))))
