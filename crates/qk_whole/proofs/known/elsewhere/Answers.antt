use Rattle.std.specs.Option.{option_copied}
use Rattle.std.specs.Prelude.{None, false}
use Rattle.std.proofs.Common.{ap, sym, ◌∙◌}
use Rattle.qk_whole.specs.Elsewhere.{last_plain}
use Rattle.qk_whole.proofs.Last_plain.{last_told, none_told}
use Rattle.qk_whole.proofs.known.elsewhere.Goals as goal

pub returns-in_ok-share-in-Some : goal.returns-in_ok-share-in-Some
returns-in_ok-share-in-Some c = λ all h.
    let same = last_told c.args.file.now all c.in-Some.last.now (ap (last_plain None) (sym h) ∙ sym c.last_plain.ensures ∙ ap option_copied c.in-Some.is) in
    λ i. record { site = record { «module» = c.in_ok-module.ensures i; number = (same i).site.number; dollar = false }; names = (c.in_ok-share-in-Some.ensures ∙ ap (λ x. x.names) same) i }

pub returns-in_ok-from_vec-in-None : goal.returns-in_ok-from_vec-in-None
returns-in_ok-from_vec-in-None c = λ all h.
    (λ i. record { site = record { «module» = c.in_ok-module.ensures i; number = 0; dollar = false }; names = (c.in_ok-from_vec-in-None.ensures ∙ c.new.ensures.items) i })
    ∙ sym (none_told c.args.file.now all (ap (last_plain None) (sym h) ∙ sym c.last_plain.ensures ∙ ap option_copied c.in-None.is))
