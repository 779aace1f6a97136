use Rattle.std.proofs.Common.{◌∙◌, List, [], ◌∷◌, ◌++◌, refl, ap, sym, subst, length}
use Rattle.std.specs.Str.{chars}
use Rattle.qk_lex.specs.Reading.{TokensAt}
use Rattle.qk_lex.specs.declared.Token.{Token as Placed_token}
use Rattle.qk_token.specs.View.{tokens_of}
use Rattle.qk_token.specs.Lexed.{Listed, Lexes, starts_of}
use Rattle.qk_token.proofs.Lexing.{Ready, at, begins, ready_at, goes_on_at, none_left, ends, as_many}
use Rattle.qk_token.proofs.listed.lex.Goals as goal

pub loop-token-init : goal.loop-token-init
loop-token-init c =
    begins c.args.text.now c.deref-token-items.result.now c.in_ok-tokens.tokens.items c.in_ok-tokens.ensures.items
    (subst (λ f. TokensAt (chars c.args.text.now) f) (sym c.deref-token-items.ensures.value) c.in_ok-found.ensures.listed)

pub token_at-requires : goal.token_at-requires
token_at-requires c =
    let r : Ready c.args.text.now (at c.deref-token-items.result.now c.loop-token.token-index) =
    ready_at c.args.text.now c.deref-token-items.result.now c.loop-token.token-index c.loop-token.tokens.items c.utf8.text c.loop-token-test.true c.loop-token.invariant in
    record { start = r.start; end = r.end; order = r.order }

pub loop-token-preserved : goal.loop-token-preserved
loop-token-preserved c =
    goes_on_at c.args.text.now c.deref-token-items.result.now c.loop-token.token-index c.loop-token.tokens.items c.push.new.self.items c.token_at.result c.utf8.text c.loop-token-test.true
    c.token_at.ensures c.in_ok-push.ensures.items c.loop-token.invariant

pub invariant_of-result : goal.invariant_of-result
invariant_of-result c = (
  ap length (sym c.deref-token-items.ensures.value) ∙ as_many c.args.text.now c.deref-token-items.result.now _ c.loop-token.tokens.items (none_left _ c.loop-token.token-index c.loop-token-test.false) c.loop-token.invariant,
  c.loop-token.invariant.fit,
)

pub returns-clause-listed : goal.returns-clause-listed
returns-clause-listed c =
    let listed : List Placed_token → Listed = λ found. record { tokens = tokens_of c.loop-token.tokens.items; places = starts_of found ++ length c.args.text.now ∷ [] } in
    subst (λ found. Lexes (chars c.args.text.now) (listed found)) c.deref-token-items.ensures.value
    (ends c.args.text.now c.deref-token-items.result.now _ c.loop-token.tokens.items (length c.args.text.now) c.utf8.text (none_left _ c.loop-token.token-index c.loop-token-test.false) refl c.loop-token.invariant)
