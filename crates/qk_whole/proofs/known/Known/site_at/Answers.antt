use Rattle.std.proofs.Common.{◌≡◌, ◌∙◌, ap, sym, slice_get, option_copied, unwrap_or, Option, None, List}
use Rattle.std.proofs.lemmas.Option.{unwrap_or-slice_get}
use Rattle.qk_captures.specs.declared.Captured.{Captured}
use Rattle.qk_whole.proofs.known.Known.site_at.Goals as goal

pub returns-in-None : goal.returns-in-None
returns-in-None c =
    let known = c.args.self.now in
    let none : slice_get known.names.captures c.args.place ≡ None = ap (λ (all : List Captured). slice_get all c.args.place) (sym (ap (λ n. n.captures) c.get.ensures)) ∙ (sym c.get-2.ensures ∙ ap option_copied c.in-None.is) in
    ap (λ (x : Captured). x.site) (c.get-in-None.ensures ∙ (sym (ap (λ (o : Option Captured). unwrap_or o known.elsewhere) none) ∙ unwrap_or-slice_get known.names.captures c.args.place known.elsewhere))
