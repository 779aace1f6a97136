use Rattle.std.proofs.Common.{◌≡◌, ◌∙◌, ap, sym, slice_get, option_copied, unwrap_or, Option, None, List}
use Rattle.std.proofs.lemmas.Option.{unwrap_or-slice_get}
use Rattle.qk_captures.specs.declared.Captured.{Captured}
use Rattle.qk_code.proofs.func.Func.known_at.Goals as goal

pub returns-in-None : goal.returns-in-None
returns-in-None c =
    let none : slice_get c.args.self.now.names.captures c.args.place ≡ None = ap (λ (all : List Captured). slice_get all c.args.place) (sym (ap (λ n. n.captures) c.get.ensures)) ∙ (sym c.get-2.ensures ∙ ap option_copied c.in-None.is) in
    c.get-in-None.ensures ∙ (sym (ap (λ (o : Option Captured). unwrap_or o c.args.self.now.elsewhere) none) ∙ unwrap_or-slice_get c.args.self.now.names.captures c.args.place c.args.self.now.elsewhere)
