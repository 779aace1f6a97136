-- Counters that differ in the order of their attributes alone print the same.
use Rattle.std.proofs.Common.{◌≡◌, ℕ, suc, List, [], ◌∷◌, ◌++◌, refl, ap, sym, ◌∙◌, Option, Some, None, Bool, ℤ}
use Rattle.std.specs.Prelude.{codes}
use Rattle.qk_meaning.specs.Value.{Text}
use Rattle.qk_meaning.specs.Item.{Event}
use Rattle.qk_meaning.specs.Output.{line}
use Rattle.qk_first.specs.Counter.{Counter, hears, moved, html_line, item_line, first_blocks, first_output}

-- the block of one event and those behind it, by what hears it
heard_blocks : (c : Counter) (k : ℕ) (n : ℤ) (rest : ℕ → ℤ → Text) → Option Bool → Text
heard_blocks c k n rest (Some up) = (item_line k ++ html_line c (moved up n)) ++ rest (suc k) (moved up n)
heard_blocks c k n rest None = (item_line k ++ (line (codes "none") ++ html_line c n)) ++ rest (suc k) n

blocks_heard : (c : Counter) (k : ℕ) (n : ℤ) (e : Event) (more : List Event) → first_blocks c k n (e ∷ more) ≡ heard_blocks c k n (λ j m. first_blocks c j m more) (hears c e)
unfolding heard_blocks
blocks_heard c k n e more = by_cases (hears c e)
  where
    by_cases : (h : Option Bool) → elim h as (λ _. Text) [
      | Some up ↦ (item_line k ++ html_line c (moved up n)) ++ first_blocks c (suc k) (moved up n) more
      | None ↦ (item_line k ++ (line (codes "none") ++ html_line c n)) ++ first_blocks c (suc k) n more
    ] ≡ heard_blocks c k n (λ j m. first_blocks c j m more) h
    by_cases (Some up) = refl
    by_cases None = refl

rest_heard : (c : Counter) (k : ℕ) (n : ℤ) (first second : ℕ → ℤ → Text) (h : Option Bool) → ((j : ℕ) (m : ℤ) → first j m ≡ second j m) → heard_blocks c k n first h ≡ heard_blocks c k n second h
unfolding heard_blocks
rest_heard c k n first second (Some up) same = ap (λ t. (item_line k ++ html_line c (moved up n)) ++ t) (same (suc k) (moved up n))
rest_heard c k n first second None same = ap (λ t. (item_line k ++ (line (codes "none") ++ html_line c n)) ++ t) (same (suc k) n)

pub record Alike (c d : Counter) : Type 0 where
  pub hear : (e : Event) → hears c e ≡ hears d e
  pub show : (n : ℤ) → html_line c n ≡ html_line d n
  pub start : c.initial ≡ d.initial

alike_heard : (c d : Counter) (k : ℕ) (n : ℤ) (rest : ℕ → ℤ → Text) (h : Option Bool) → Alike c d → heard_blocks c k n rest h ≡ heard_blocks d k n rest h
unfolding heard_blocks
alike_heard c d k n rest (Some up) alike = ap (λ t. (item_line k ++ t) ++ rest (suc k) (moved up n)) (alike.show (moved up n))
alike_heard c d k n rest None alike = ap (λ t. (item_line k ++ (line (codes "none") ++ t)) ++ rest (suc k) n) (alike.show n)

alike_blocks : (c d : Counter) → Alike c d → (events : List Event) (k : ℕ) (n : ℤ) → first_blocks c k n events ≡ first_blocks d k n events
alike_blocks c d alike [] k n = refl
alike_blocks c d alike (e ∷ more) k n = blocks_heard c k n e more ∙ ap (heard_blocks c k n (λ j m. first_blocks c j m more)) (alike.hear e)
    ∙ rest_heard c k n _ _ (hears d e) (λ j m. alike_blocks c d alike more j m) ∙ alike_heard c d k n (λ j m. first_blocks d j m more) (hears d e) alike
    ∙ sym (blocks_heard d k n e more)

pub alike_output : (c d : Counter) → Alike c d → (events : List Event) → first_output c events ≡ first_output d events
alike_output c d alike events = ap (λ t. (item_line 0 ++ t) ++ first_blocks c 1 c.initial events) (alike.show c.initial ∙ ap (html_line d) alike.start)
    ∙ ap (λ t. (item_line 0 ++ html_line d d.initial) ++ t) (alike_blocks c d alike events 1 c.initial ∙ ap (λ n. first_blocks d 1 n events) alike.start)
