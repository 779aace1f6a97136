-- What was read in a doing is found out behind it.
use Rattle.std.specs.Prelude.{◌≡◌, ℕ, List, [], ◌∷◌, ◌++◌, length, drop, refl}
use Rattle.qk_meaning.specs.Value.{Value}
use Rattle.qk_meaning.specs.World.{Read}
use Rattle.qk_meaning.specs.Doing.{Doing, Outcome, ◌>>=◌, after, give, asked}
use Rattle.qk_meaning.specs.Happening.{Happening}
use Rattle.qk_meaning.specs.Running.{Running}
use Rattle.qk_meaning.specs.Trace.{own_reads, read_in}

abbrev pub apart : ℕ → Value → Doing Running (Value × List Happening)
apart n v = ◌>>=◌ (asked (λ u. u.trace)) (λ trace. give (v, drop n trace))

abbrev pub own_of : Value × List Happening → Doing Running (Value × List Read)
own_of run = give (run.0, own_reads run.1)

abbrev pub found_in : ℕ → Outcome Running Value → Outcome Running (Value × List Read)
found_in n o = after (after o (apart n)) own_of

pub reading_is : (m : Doing Running Value) (s : Running) → read_in m s ≡ found_in (length s.trace) (m s)
reading_is m s = refl

pub news_behind : (trace news : List Happening) → drop (length trace) (trace ++ news) ≡ news
news_behind [] news = refl
news_behind (h ∷ rest) news = news_behind rest news
