-- Listeners, and the set of their events beside the names of a tag's attributes.
use Rattle.std.specs.Prelude.{◌≡◌, refl, ℕ, Bool, true, false, not, ◌&&◌, ◌||◌, ◌==◌, List, [], ◌∷◌, ◌++◌, map, String, bytes_eq, codes, Option, Some, None, Result, Ok, Err, IfOk, MatchOption}
use Rattle.std.proofs.Common.{ap, sym, subst, ◌∙◌, cond, arith}
use Rattle.std.specs.Char.{to_ascii_lowercase}
use Rattle.std.proofs.lemmas.Bool.Decides.{nat_tests}
use Rattle.std.specs.String.{string_cmp, string_bytes}
use Rattle.std.specs.BTreeSet as sorted
use Rattle.std.specs.BTreeSet.{BTreeSet}
use Rattle.std.proofs.lemmas.Map.Text.{btree_set_updates_text}
use Rattle.qk_ast.specs.Characters.{is_letter, every}
use Rattle.qk_ast.specs.declared.Tag.{Tag}
use Rattle.qk_ast.specs.declared.Expr.{Expr}
use Rattle.qk_ast.specs.Texts.{Text, same_text, is_among}
use Rattle.qk_ast.specs.Names.{is_listed}
use Rattle.qk_ast.specs.Walking.{with_name}
use Rattle.qk_ast.specs.Tags.{letters_and_dollar, is_listener, small, in_small_letters, is_event_listed, fits_tag, wants_text, is_text_literal, is_attribute}
use Rattle.qk_rules.specs.Attributes.{is_alone, is_event, HasEvents}

-- ---- listeners

swapped_and : (a b c : Bool) → (a && (b && c)) ≡ (b && (a && c))
swapped_and true true c = refl
swapped_and true false c = refl
swapped_and false true c = refl
swapped_and false false c = refl

and_true : (a : Bool) → (a && true) ≡ a
and_true true = refl
and_true false = refl

pub dollar_last : (letters : Text) (last : ℕ) → letters_and_dollar (letters ++ last ∷ []) ≡ ((last == 36) && every is_letter letters)
dollar_last [] last = sym (and_true (last == 36))
dollar_last (c ∷ []) last = ap (λ b. is_letter c && b) (sym (and_true (last == 36))) ∙ swapped_and (is_letter c) (last == 36) true
dollar_last (c ∷ (d ∷ letters)) last = ap (λ b. is_letter c && b) (dollar_last (d ∷ letters) last) ∙ swapped_and (is_letter c) (last == 36) (every is_letter (d ∷ letters))

-- ---- events

pub event_is : (name : Text) (names : List Text) → is_event_listed name names ≡ is_event (in_small_letters name) names
event_is name [] = refl
event_is name (n ∷ names) = ap (λ b. (is_listener n && same_text (in_small_letters n) (in_small_letters name)) || b) (event_is name names)

or_false : (a : Bool) → (a || false) ≡ a
or_false true = refl
or_false false = refl

or_swapped : (a b c : Bool) → (a || (b || c)) ≡ (b || (a || c))
or_swapped true true c = refl
or_swapped true false c = refl
or_swapped false true c = refl
or_swapped false false c = refl

event_more : (event : Text) (names : List Text) (n : Text) → is_event event (names ++ n ∷ []) ≡ ((is_listener n && same_text (in_small_letters n) event) || is_event event names)
event_more event [] n = refl
event_more event (m ∷ names) n =
    ap (λ b. (is_listener m && same_text (in_small_letters m) event) || b) (event_more event names n)
    ∙ or_swapped (is_listener m && same_text (in_small_letters m) event) (is_listener n && same_text (in_small_letters n) event) (is_event event names)

as_or : (b x : Bool) → cond b true x ≡ (b || x)
as_or true x = refl
as_or false x = refl

-- with a listener more
pub listener_more : {Y : Type 0} (old new : BTreeSet (String Y)) (key : String Y) (names all : List Text) (n : Text) → HasEvents old names → string_bytes key ≡ in_small_letters n → is_listener n ≡ true
    → all ≡ names ++ n ∷ [] → sorted.Updates string_cmp old new key true → HasEvents new all
listener_more old new key names all n had small listens grown updated = λ q.
    btree_set_updates_text (string_bytes key) old new true updated q
    ∙ as_or (bytes_eq (string_bytes key) q) (sorted.contains_text old q)
    ∙ ap (λ (t : Text). bytes_eq t q || sorted.contains_text old q) small
    ∙ ap (λ b. bytes_eq (in_small_letters n) q || b) (had q)
    ∙ ap (λ b. (b && same_text (in_small_letters n) q) || is_event q names) (sym listens)
    ∙ sym (event_more q names n)
    ∙ ap (is_event q) (sym grown)

-- with another name more
pub other_more : {Y : Type 0} (set : BTreeSet (String Y)) (names all : List Text) (n : Text) → HasEvents set names → is_listener n ≡ false → all ≡ names ++ n ∷ [] → HasEvents set all
other_more set names all n had quiet grown = λ q.
    had q
    ∙ ap (λ b. (b && same_text (in_small_letters n) q) || is_event q names) (sym quiet)
    ∙ sym (event_more q names n)
    ∙ ap (is_event q) (sym grown)

pub dollar_told : (bytes letters : Text) (last : ℕ) → bytes ≡ letters ++ last ∷ [] → ((last == 36) && every is_letter letters) ≡ letters_and_dollar bytes
dollar_told bytes letters last split = sym (ap letters_and_dollar split ∙ dollar_last letters last)

-- ---- small letters

small_is : (c : ℕ) → to_ascii_lowercase c ≡ small c
small_is c = grind (arith, nat_tests)

pub lowered : (name : Text) → map to_ascii_lowercase name ≡ in_small_letters name
lowered [] = refl
lowered (c ∷ name) = ap (λ d. d ∷ map to_ascii_lowercase name) (small_is c) ∙ ap (λ l. small c ∷ l) (lowered name)

-- ---- a list with a new name more

pub new_name : (names all : List Text) (n : Text) → is_listed n names ≡ false → all ≡ with_name names n → all ≡ names ++ n ∷ []
new_name names all n fresh grown = grown ∙ ap (λ b. elim b as (λ _. List Text) [ true ↦ names | false ↦ names ++ n ∷ [] ]) fresh

-- ---- what an attribute has to be

shuffled : (l f n e c w : Bool) → (not l && f && not (n && e) && not c && w) ≡ (not l && ((f && not c && w) && not (n && e)))
shuffled true f n e c w = refl
shuffled false false n e c w = refl
shuffled false true false e true w = refl
shuffled false true false e false true = refl
shuffled false true false e false false = refl
shuffled false true true true true w = refl
shuffled false true true true false true = refl
shuffled false true true true false false = refl
shuffled false true true false true w = refl
shuffled false true true false false true = refl
shuffled false true true false false false = refl

module _ (tag : Tag) (name : Text) (value : Expr) (earlier : List Text) where
  abbrev tried : Bool → Bool → Bool → Bool → Bool
  tried listed alone listens known = not listed && (alone && not (listens && known))

  parted : is_attribute tag name value earlier ≡ tried (is_listed name earlier) (is_alone tag name value) (is_listener name) (is_event (in_small_letters name) earlier)
  parted =
      ap (λ b. not (is_listed name earlier) && fits_tag tag name && not (is_listener name && b)
      && not (is_among name (codes "children" ∷ codes "ref" ∷ codes "dangerouslySetInnerHTML" ∷ [])) && (not (wants_text tag name) || is_text_literal value)) (event_is name earlier)
      ∙ shuffled (is_listed name earlier) (fits_tag tag name) (is_listener name) (is_event (in_small_letters name) earlier)
      (is_among name (codes "children" ∷ codes "ref" ∷ codes "dangerouslySetInnerHTML" ∷ [])) (not (wants_text tag name) || is_text_literal value)

  pub refused_listed : is_listed name earlier ≡ true → is_attribute tag name value earlier ≡ false
  refused_listed h = parted ∙ ap (λ b. tried b (is_alone tag name value) (is_listener name) (is_event (in_small_letters name) earlier)) h

  apart : (l n e : Bool) → tried l false n e ≡ false
  apart true n e = refl
  apart false n e = refl

  pub refused_alone : is_alone tag name value ≡ false → is_attribute tag name value earlier ≡ false
  refused_alone h = parted ∙ ap (λ b. tried (is_listed name earlier) b (is_listener name) (is_event (in_small_letters name) earlier)) h
      ∙ apart (is_listed name earlier) (is_listener name) (is_event (in_small_letters name) earlier)

  module _ (fresh : is_listed name earlier ≡ false) (alone : is_alone tag name value ≡ true) where
    so_far : is_attribute tag name value earlier ≡ tried false true (is_listener name) (is_event (in_small_letters name) earlier)
    so_far = parted ∙ ap (λ b. tried b (is_alone tag name value) (is_listener name) (is_event (in_small_letters name) earlier)) fresh
        ∙ ap (λ b. tried false b (is_listener name) (is_event (in_small_letters name) earlier)) alone

    pub kept_other : is_listener name ≡ false → is_attribute tag name value earlier ≡ true
    kept_other quiet = so_far ∙ ap (λ b. tried false true b (is_event (in_small_letters name) earlier)) quiet

    pub by_event : is_listener name ≡ true → (b : Bool) → is_event (in_small_letters name) earlier ≡ b → is_attribute tag name value earlier ≡ not b
    by_event listens b known = so_far ∙ ap (λ l. tried false true l (is_event (in_small_letters name) earlier)) listens ∙ ap (λ e. tried false true true e) known

-- ---- with a set of events

-- whether the set has the event of a name
pub event_known : {Y : Type 0} (set : BTreeSet (String Y)) (names earlier : List Text) (text name : Text) (b : Bool) → HasEvents set names → names ≡ earlier → text ≡ in_small_letters name
    → sorted.contains_text set text ≡ b → is_event (in_small_letters name) earlier ≡ b
event_known set names earlier text name b had same small found =
    ap (is_event (in_small_letters name)) (sym same) ∙ sym (had (in_small_letters name)) ∙ ap (sorted.contains_text set) (sym small) ∙ found

-- what a try of a listener says of the attribute
pub listener_tried : {E : Type 0} (tag : Tag) (name key : Text) (value : Expr) (earlier : List Text) → key ≡ name → is_listed key earlier ≡ false → is_alone tag key value ≡ true → is_listener key ≡ true
    → (r : Result (Option (List Text)) E)
    → IfOk r (λ found. MatchOption found (is_event (in_small_letters key) earlier ≡ true) (λ all. (is_event (in_small_letters key) earlier ≡ false) × (all ≡ earlier ++ key ∷ [])))
    → IfOk r (λ found. MatchOption found (is_attribute tag name value earlier ≡ false) (λ all. (is_attribute tag name value earlier ≡ true) × (all ≡ earlier ++ name ∷ [])))
listener_tried {E} tag name key value earlier same fresh alone listens r h =
    subst (λ (t : Text). IfOk r (λ found. MatchOption found (is_attribute tag t value earlier ≡ false) (λ all. (is_attribute tag t value earlier ≡ true) × (all ≡ earlier ++ t ∷ [])))) same (told r h)
  where
    told : (r : Result (Option (List Text)) E)
        → IfOk r (λ found. MatchOption found (is_event (in_small_letters key) earlier ≡ true) (λ all. (is_event (in_small_letters key) earlier ≡ false) × (all ≡ earlier ++ key ∷ [])))
        → IfOk r (λ found. MatchOption found (is_attribute tag key value earlier ≡ false) (λ all. (is_attribute tag key value earlier ≡ true) × (all ≡ earlier ++ key ∷ [])))
    told (Ok (Some all)) p = (by_event tag key value earlier fresh alone listens false p.0, p.1)
    told (Ok None) p = by_event tag key value earlier fresh alone listens true p
    told (Err e) p = p
