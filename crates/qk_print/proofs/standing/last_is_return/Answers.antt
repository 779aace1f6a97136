use Rattle.std.proofs.Common.{◌≡◌, ap, sym, ◌∙◌, length, ◌-◌, ◌<◌, List, [], ◌∷◌, get_or, arith, refl}
use Rattle.qk_ast.specs.declared.Link.{Link}
use Rattle.qk_print.specs.Shapes.{is_return}
use Rattle.qk_print.specs.Lists.{last_is_return}
use Rattle.qk_print.proofs.standing.last_is_return.Goals as goal

last_is : (l : Link) (ls : List Link) (d : Link) → last_is_return (l ∷ ls) ≡ is_return (get_or (l ∷ ls) (length ls) d)
last_is l [] d = refl
last_is l (m ∷ ls) d = last_is m ls d

last_at : (ls : List Link) (link : Link) → 0 < length ls → link ≡ get_or ls (length ls - 1) link → is_return link ≡ last_is_return ls
last_at [] link h e = absurd (omega arith)
last_at (l ∷ ls) link h e =
    let n : length (l ∷ ls) - 1 ≡ length ls = omega arith in
    ap is_return (e ∙ ap (λ n. get_or (l ∷ ls) n link) n) ∙ sym (last_is l ls link)

pub returns-in-Some : goal.returns-in-Some
returns-in-Some c = let h = c.in-Some.ensures.item in c.is_return.ensures ∙ last_at c.args.links.now c.in-Some.link.now h.3.0 h.1
