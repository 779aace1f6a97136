-- The blocks that the program puts are those of the counter.
use Rattle.std.proofs.Common.{◌≡◌, ℕ, suc, List, [], ◌∷◌, ◌++◌, refl, ap, sym, ◌∙◌, append_assoc, Option, Some, None, Bool, ℤ, unwrap_or}
use Rattle.std.specs.Prelude.{codes}
use Rattle.std.specs.Option.{option_map}
use Rattle.qk_meaning.specs.Value.{Text}
use Rattle.qk_meaning.specs.Item.{Event}
use Rattle.qk_meaning.specs.Output.{line}
use Rattle.qk_first.specs.Counter.{Counter, hears, moved, html_line, item_line, first_blocks, first_output, attributes_html, shown_number}
use Rattle.qk_top.specs.Decimals.{count_text, number_text}
use Rattle.qk_top.specs.Blocks.{id_text, shown_text, item_text, html_text, opening_text, closing_text, moved_text, event_text, events_text, first_text, played_text}

item_is : (k : ℕ) → item_text k ≡ item_line k
unfolding count_text
item_is k = refl

shown_is : (c : Counter) (n : ℤ) → shown_text c n ≡ shown_number c n
unfolding shown_text number_text
shown_is c n = refl

-- a line of HTML put together in two ways
line_is : (tag attributes shown : Text) → (codes "html <" ++ (tag ++ (attributes ++ codes ">"))) ++ (shown ++ (codes "</" ++ (tag ++ codes ">\n")))
    ≡ (codes "html <" ++ (tag ++ (attributes ++ (codes ">" ++ (shown ++ (codes "</" ++ (tag ++ codes ">"))))))) ++ (10 ∷ [])
line_is tag attributes shown = simp append_assoc

html_is : (c : Counter) (n : ℤ) → html_text c n ≡ html_line c n
unfolding html_text id_text
html_is c n = ap (λ s. opening_text c ++ (s ++ closing_text c)) (shown_is c n) ∙ line_is c.tag (attributes_html c.attributes) (shown_number c n)

-- the block of one event and those behind it, by what hears it
heard_blocks : (c : Counter) (k : ℕ) (n : ℤ) (rest : ℕ → ℤ → Text) → Option Bool → Text
heard_blocks c k n rest (Some up) = (item_line k ++ html_line c (moved up n)) ++ rest (suc k) (moved up n)
heard_blocks c k n rest None = (item_line k ++ (line (codes "none") ++ html_line c n)) ++ rest (suc k) n

blocks_heard : (c : Counter) (k : ℕ) (n : ℤ) (e : Event) (more : List Event) → first_blocks c k n (e ∷ more) ≡ heard_blocks c k n (λ j m. first_blocks c j m more) (hears c e)
unfolding heard_blocks
blocks_heard c k n e more = by_cases (hears c e)
  where
    by_cases : (h : Option Bool) → elim h as (λ _. Text) [
      | Some up ↦ (item_line k ++ html_line c (moved up n)) ++ first_blocks c (suc k) (moved up n) more
      | None ↦ (item_line k ++ (line (codes "none") ++ html_line c n)) ++ first_blocks c (suc k) n more
    ] ≡ heard_blocks c k n (λ j m. first_blocks c j m more) h
    by_cases (Some up) = refl
    by_cases None = refl

texts_heard : (c : Counter) (k : ℕ) (n : ℤ) (rest : ℕ → ℤ → Text) (h : Option Bool)
    → (item_text k ++ moved_text c n (option_map (λ up. moved up n) h)) ++ rest (suc k) (unwrap_or (option_map (λ up. moved up n) h) n) ≡ heard_blocks c k n rest h
unfolding heard_blocks moved_text
texts_heard c k n rest (Some up) = ap (λ t. (t ++ html_text c (moved up n)) ++ rest (suc k) (moved up n)) (item_is k)
    ∙ ap (λ t. (item_line k ++ t) ++ rest (suc k) (moved up n)) (html_is c (moved up n))
texts_heard c k n rest None = ap (λ t. (t ++ (line (codes "none") ++ html_text c n)) ++ rest (suc k) n) (item_is k)
    ∙ ap (λ t. (item_line k ++ (line (codes "none") ++ t)) ++ rest (suc k) n) (html_is c n)

rest_heard : (c : Counter) (k : ℕ) (n : ℤ) (first second : ℕ → ℤ → Text) (h : Option Bool) → ((j : ℕ) (m : ℤ) → first j m ≡ second j m) → heard_blocks c k n first h ≡ heard_blocks c k n second h
unfolding heard_blocks
rest_heard c k n first second (Some up) same = ap (λ t. (item_line k ++ html_line c (moved up n)) ++ t) (same (suc k) (moved up n))
rest_heard c k n first second None same = ap (λ t. (item_line k ++ (line (codes "none") ++ html_line c n)) ++ t) (same (suc k) n)

blocks_are : (c : Counter) (events : List Event) (k : ℕ) (n : ℤ) → events_text c k n events ≡ first_blocks c k n events
unfolding events_text event_text
blocks_are c [] k n = refl
blocks_are c (e ∷ more) k n = texts_heard c k n (λ j m. events_text c j m more) (hears c e)
    ∙ rest_heard c k n _ _ (hears c e) (λ j m. blocks_are c more j m) ∙ sym (blocks_heard c k n e more)

pub output_is : (c : Counter) (events : List Event) → played_text c events ≡ first_output c events
unfolding played_text first_text
output_is c events = ap (λ t. (t ++ html_text c c.initial) ++ events_text c 1 c.initial events) (item_is 0)
    ∙ ap (λ t. (item_line 0 ++ t) ++ events_text c 1 c.initial events) (html_is c c.initial)
    ∙ ap (λ t. (item_line 0 ++ html_line c c.initial) ++ t) (blocks_are c events 1 c.initial)
