use Rattle.std.proofs.Common.{rules, ◌≡◌, sym, subst}
use Rattle.std.specs.String.{string_bytes}
use Rattle.qk_grammar.specs.Keyed.{HasKeys}
use Rattle.qk_grammar.proofs.KeyLemmas.{has_more}
use Rattle.qk_grammar.proofs.keyed.Fields.with.Goals as goal

pub invariant_of-result : goal.invariant_of-result
invariant_of-result c =
    let same_key : string_bytes c.in_ok-key.key ≡ c.args.field.key = search rules in
    subst (λ fields. HasKeys c.insert.new.self fields) (sym c.in_ok-push.ensures.appended)
    (has_more c.self.inside.keys c.insert.new.self c.in_ok-key.key c.self.inside.fields c.args.field c.self.invariant same_key c.in_ok-insert.ensures.updates)
