-- Scripts that are played, and those that are refused.
use Rattle.std.proofs.Common.{◌≡◌, ◌≤◌, ◌<◌, ◌+◌, ℕ, zero, suc, List, [], ◌∷◌, ◌++◌, refl, sym, ap, ◌∙◌, subst, map, length, get_or, take, take_all, arith}
use Rattle.std.specs.Prelude.{Contains, codes}
use Rattle.std.proofs.lemmas.List.{length-map, get_or-map, map-append}
use Rattle.std.proofs.Math.Seq.{take-suc}
use Rattle.qk_meaning.specs.Value.{Text}
use Rattle.qk_meaning.specs.Item.{Event}
use Rattle.qk_meaning.specs.Run.{Line, Happens, Pauses}
use Rattle.qk_script.specs.declared.item.Event.{Event as Kept}
use Rattle.qk_script.specs.declared.item.ScriptItem.{ScriptItem}
use Rattle.qk_script.specs.declared.item.ScriptItem.TheVariants as item
use Rattle.qk_script.specs.Answer.{event_of, item_of}
use Rattle.qk_script.proofs.OneItems.{one_text}
use Rattle.std.specs.Str.{IsUtf8}
use Rattle.qk_script.specs.Answer.{FirstWrong, HasTooMany}
use Rattle.qk_script.proofs.Apart.{not_wrong, not_many, one_wrong}
use Rattle.qk_top.specs.Decimals.{count_text}
use Rattle.qk_top.specs.Script.{IsReadable, SpellsItems, SpellsEvents, RefusedText, too_long, not_utf8, wrong_line, too_many, with_pause}

-- ---- events and pauses

first_same : (e f : Event) (more others : List Line) → Happens e ∷ more ≡ Happens f ∷ others → e ≡ f
first_same e f more others h = cc

rest_same : (i j : Line) (more others : List Line) → i ∷ more ≡ j ∷ others → more ≡ others
rest_same i j more others h = cc

nil_items : (i : Line) (more : List Line) → [] ≡ i ∷ more → ⊥
nil_items i more h = cc

pub same_events : (events others : List Event) → map Happens events ≡ map Happens others → events ≡ others
same_events [] [] h = refl
same_events [] (f ∷ others) h = absurd (nil_items _ _ h)
same_events (e ∷ events) [] h = absurd (nil_items _ _ (sym h))
same_events (e ∷ events) (f ∷ others) h = ap (λ x. x ∷ events) (first_same e f _ _ h) ∙ ap (λ xs. f ∷ xs) (same_events events others (rest_same _ _ _ _ h))

no_event : (e : Event) → Happens e ≡ Pauses → ⊥
no_event e h = cc

no_pause_at : (events : List Event) (k : ℕ) → k < length (map Happens events) → get_or (map Happens events) k Pauses ≡ Pauses → ⊥
no_pause_at [] k below h = omega arith
no_pause_at (e ∷ events) zero below h = no_event e h
no_pause_at (e ∷ events) (suc k) below h = no_pause_at events k (omega arith) h

pub no_pause : (events : List Event) → Contains (map Happens events) Pauses → ⊥
no_pause events pause = no_pause_at events pause.0 pause.1 pause.2

-- ---- texts

pub one_script : (text : Text) (events others : List Event) → SpellsEvents text events → SpellsEvents text others → events ≡ others
one_script text events others a b = same_events events others (one_text text (map Happens events) (map Happens others) a.spelled.0 b.spelled.0)

pub few_events : (text : Text) (events : List Event) → SpellsEvents text events → length events ≤ 65536
few_events text events spells = subst (λ n. n ≤ 65536) (length-map events Happens) spells.spelled.1

-- a script that is played is refused for nothing
pub not_refused : (text : Text) (events : List Event) (kind : Text) → SpellsEvents text events → RefusedText text kind → ⊥
not_refused text events kind spells (too_long long) = omega (arith, spells.readable.short, long)
not_refused text events kind spells (not_utf8 short none) = none spells.readable.utf8
not_refused text events kind spells (wrong_line {number = number} readable wrong) = not_wrong text (map Happens events) number spells.spelled.0 wrong
not_refused text events kind spells (too_many readable many) = not_many text (map Happens events) spells.spelled many
not_refused text events kind spells (with_pause {items = items} other pause) =
    no_pause events (subst (λ l. Contains l Pauses) (one_text text items (map Happens events) other.spelled.0 spells.spelled.0) pause)

-- ---- a text has one refusal at most

too_short : (text : Text) {A : Type 0} → length text ≤ 1048576 → 1048576 < length text → A
too_short text short long = absurd (omega (arith, short, long))

behind_long : (text kind : Text) → 1048576 < length text → RefusedText text kind → kind ≡ codes "ScriptTooLong"
behind_long text kind long (too_long again) = refl
behind_long text kind long (not_utf8 short none) = too_short text short long
behind_long text kind long (wrong_line readable wrong) = too_short text readable.short long
behind_long text kind long (too_many readable many) = too_short text readable.short long
behind_long text kind long (with_pause spells pause) = too_short text spells.readable.short long

behind_bytes : (text kind : Text) → length text ≤ 1048576 → ¬ IsUtf8 text → RefusedText text kind → kind ≡ codes "ScriptNotUtf8"
behind_bytes text kind short none (too_long long) = too_short text short long
behind_bytes text kind short none (not_utf8 again other) = refl
behind_bytes text kind short none (wrong_line readable wrong) = absurd (none readable.utf8)
behind_bytes text kind short none (too_many readable many) = absurd (none readable.utf8)
behind_bytes text kind short none (with_pause spells pause) = absurd (none spells.readable.utf8)

behind_wrong : (text kind : Text) (number : ℕ) → IsReadable text → FirstWrong text number → RefusedText text kind → kind ≡ codes "ScriptLine " ++ count_text number
behind_wrong text kind number readable wrong (too_long long) = too_short text readable.short long
behind_wrong text kind number readable wrong (not_utf8 short none) = absurd (none readable.utf8)
behind_wrong text kind number readable wrong (wrong_line {number = other} again first) = ap (λ n. codes "ScriptLine " ++ count_text n) (one_wrong text other number first wrong)
behind_wrong text kind number readable wrong (too_many again many) = absurd (not_wrong text many.items number many.spelled wrong)
behind_wrong text kind number readable wrong (with_pause {items = items} spells pause) = absurd (not_wrong text items number spells.spelled.0 wrong)

behind_many : (text kind : Text) → IsReadable text → HasTooMany text → RefusedText text kind → kind ≡ codes "ScriptTooMany"
behind_many text kind readable many (too_long long) = too_short text readable.short long
behind_many text kind readable many (not_utf8 short none) = absurd (none readable.utf8)
behind_many text kind readable many (wrong_line {number = number} again wrong) = absurd (not_wrong text many.items number many.spelled wrong)
behind_many text kind readable many (too_many again others) = refl
behind_many text kind readable many (with_pause {items = items} spells pause) = absurd (not_many text items spells.spelled many)

behind_pause : (text kind : Text) (items : List Line) → SpellsItems text items → RefusedText text kind → kind ≡ codes "NotBuilt"
behind_pause text kind items spells (too_long long) = too_short text spells.readable.short long
behind_pause text kind items spells (not_utf8 short none) = absurd (none spells.readable.utf8)
behind_pause text kind items spells (wrong_line {number = number} readable wrong) = absurd (not_wrong text items number spells.spelled.0 wrong)
behind_pause text kind items spells (too_many readable many) = absurd (not_many text items spells.spelled many)
behind_pause text kind items spells (with_pause again pause) = refl

pub one_refusal : (text a b : Text) → RefusedText text a → RefusedText text b → a ≡ b
one_refusal text a b (too_long long) r = sym (behind_long text b long r)
one_refusal text a b (not_utf8 short none) r = sym (behind_bytes text b short none r)
one_refusal text a b (wrong_line {number = number} readable wrong) r = sym (behind_wrong text b number readable wrong r)
one_refusal text a b (too_many readable many) r = sym (behind_many text b readable many r)
one_refusal text a b (with_pause {items = items} spells pause) r = sym (behind_pause text b items spells r)

-- ---- the items so far are these events

next_number : (n : ℕ) → n + 1 ≡ suc n
next_number n = omega arith

event_behind : {A : Type 0} (f : A → Event) (done more : List A) (a : A) → more ≡ done ++ (a ∷ []) → map Happens (map f more) ≡ map Happens (map f done) ++ (Happens (f a) ∷ [])
event_behind f done more a e = ap (λ l. map Happens (map f l)) e ∙ ap (map Happens) (map-append f done (a ∷ [])) ∙ map-append Happens (map f done) (f a ∷ [])

item_behind : (items : List ScriptItem) (index : ℕ) (it : ScriptItem) → index < length items → it ≡ get_or items index it → take (index + 1) (map item_of items) ≡ take index (map item_of items) ++ (item_of it ∷ [])
item_behind items index it below e =
    ap (λ n. take n (map item_of items)) (next_number index)
    ∙ take-suc (map item_of items) index (item_of it) (subst (λ n. index < n) (sym (length-map items item_of)) below)
    ∙ ap (λ i. take index (map item_of items) ++ (i ∷ [])) (get_or-map item_of items index it (item_of it) below ∙ ap item_of (sym e))

pub one_more_event : {A : Type 0} (f : A → Event) (items : List ScriptItem) (index : ℕ) (it : ScriptItem) (event : Kept) (done more : List A) (a : A) → take index (map item_of items) ≡ map Happens (map f done)
    → index < length items → it ≡ get_or items index it → it ≡ item.Event event → f a ≡ event_of event → more ≡ done ++ (a ∷ []) → take (index + 1) (map item_of items) ≡ map Happens (map f more)
one_more_event f items index it event done more a before below there is same pushed =
    item_behind items index it below there
    ∙ ap (λ l. l ++ (item_of it ∷ [])) before
    ∙ ap (λ i. map Happens (map f done) ++ (i ∷ [])) (ap item_of is ∙ ap Happens (sym same))
    ∙ sym (event_behind f done more a pushed)

pub all_events : (items : List ScriptItem) (index : ℕ) (events : List Event) → take index (map item_of items) ≡ map Happens events → length items ≤ index → map item_of items ≡ map Happens events
all_events items index events before past = sym (take_all index (map item_of items) (subst (λ n. n ≤ index) (sym (length-map items item_of)) past)) ∙ before
