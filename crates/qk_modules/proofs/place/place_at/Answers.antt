use Rattle.std.proofs.Common.{ℕ, ap, ◌∙◌, suc, length}
use Rattle.qk_modules.specs.declared.place.Place.{Place}
use Rattle.qk_modules.specs.Places.{feeds, after_feeds, line_at, column_at}
use Rattle.qk_modules.proofs.place.place_at.Goals as goal

abbrev placed : ℕ → ℕ → Place
placed line column = record { line = line; column = column }

pub returns : goal.returns
unfolding line_at column_at
returns c =
    ap (λ line. placed line c.column_after.result) (c.line_after.ensures ∙ ap (λ t. suc (feeds t)) c.before-front.ensures)
    ∙ ap (placed (line_at c.args.text.now c.args.at)) (c.column_after.ensures ∙ ap (λ t. suc (length (after_feeds t))) c.before-front.ensures)
