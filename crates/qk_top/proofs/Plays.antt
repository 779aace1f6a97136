-- What a player has put, event by event.
use Rattle.std.proofs.Common.{◌≡◌, ℕ, suc, ◌+◌, ◌-◌, ◌≤◌, ◌<◌, List, [], ◌∷◌, ◌++◌, refl, ap, sym, ◌∙◌, subst, length, take, get_or, Bool, unwrap_or, append_assoc, append-nil, add-one, map, arith, Option, Some, None, ℤ, pos, negsuc, true, false}
use Rattle.std.specs.Option.{option_map}
use lib.Signed.{mag}
use mir.Val.{SFits, of_z, to_z}
use mir.Syntax.{w64}
use lib.Dec.{ltb}
use Rattle.std.proofs.lemmas.Int.{to_z-of_z}
use Rattle.std.proofs.Math.Seq.{take-suc}
use Rattle.std.proofs.lemmas.List.{take_all, length-take-le, get_or-map}
use Rattle.std.specs.Prelude.{Result, Err, IsErrOf, OnOk, cond}
use Rattle.qk_store.specs.declared.sink.SinkFault.{SinkFault}
use Rattle.qk_store.specs.declared.sink.SinkFault.TheVariants.{Failed, Memory}
use Rattle.qk_store.specs.Causes.{HasCause, Rose}
use Rattle.qk_store.specs.Pieces.{with_piece, AppendsFront}
use Rattle.qk_meaning.specs.Value.{Text}
use Rattle.qk_meaning.specs.Item.{Event}
use Rattle.qk_first.specs.Counter.{Counter, hears, moved}
use Rattle.qk_top.specs.Blocks.{first_text, event_text, events_text, played_text, number_after, PutsBlocks, PutsPartOfBlock}

-- one piece behind another
pub pieces_join : (a b : List ℕ) (o : Option (List ℕ)) → option_map (with_piece b) (option_map (with_piece a) o) ≡ option_map (with_piece (a ++ b)) o
pieces_join a b None = refl
pieces_join a b (Some put) = ap Some (append_assoc put a b)

pub put_nothing : (o : Option (List ℕ)) → o ≡ option_map (with_piece []) o
put_nothing None = refl
put_nothing (Some put) = ap Some (sym (append-nil put))

-- the number behind these events
pub number_behind : Counter → ℤ → List Event → ℤ
number_behind c n [] = n
number_behind c n (e ∷ more) = number_behind c (number_after c n e) more

-- where so many events have been played: what was put, and the number
pub record IsPlayed (c : Counter) (events : List Event) (index : ℕ) (n : ℤ) (before now : Option (List ℕ)) : Type 0 where
  pub put : now ≡ option_map (with_piece (played_text c (take index events))) before
  pub number : n ≡ number_behind c c.initial (take index events)
  pub small : mag n ≤ 1000000 + index

-- ---- one event more

number_more : (c : Counter) (n : ℤ) (events : List Event) (e : Event) → number_behind c n (events ++ e ∷ []) ≡ number_after c (number_behind c n events) e
unfolding number_behind
number_more c n [] e = refl
number_more c n (x ∷ rest) e = number_more c (number_after c n x) rest e

events_more : (c : Counter) (k : ℕ) (n : ℤ) (events : List Event) (e : Event)
    → events_text c k n (events ++ e ∷ []) ≡ events_text c k n events ++ event_text c (length events + k) (number_behind c n events) e
unfolding events_text number_behind
events_more c k n [] e = let none : k ≡ 0 + k = omega arith in append-nil (event_text c k n e) ∙ ap (λ j. event_text c j n e) none
events_more c k n (x ∷ rest) e =
    let further : length rest + suc k ≡ suc (length rest) + k = omega arith in
    ap (λ t. event_text c k n x ++ t) (events_more c (suc k) (number_after c n x) rest e
    ∙ ap (λ j. events_text c (suc k) (number_after c n x) rest ++ event_text c j (number_behind c (number_after c n x) rest) e) further)
    ∙ sym (append_assoc (event_text c k n x) _ _)

taken_more : (events : List Event) (index : ℕ) (event : Event) → index < length events → event ≡ get_or events index event → take (suc index) events ≡ take index events ++ event ∷ []
taken_more events index event below e = take-suc events index event below ∙ ap (λ x. take index events ++ x ∷ []) (sym e)

-- the block of an event is behind those of the events before it
next_block : (c : Counter) (events : List Event) (index : ℕ) (n : ℤ) (event : Event) → n ≡ number_behind c c.initial (take index events) → index < length events → event ≡ get_or events index event
    → played_text c (take (suc index) events) ≡ played_text c (take index events) ++ event_text c (index + 1) n event
unfolding played_text
next_block c events index n event number below e =
    let so_many : length (take index events) ≡ index = length-take-le index events (omega (arith, below)) in
    ap (λ es. first_text c ++ events_text c 1 c.initial es) (taken_more events index event below e)
    ∙ ap (λ t. first_text c ++ t) (events_more c 1 c.initial (take index events) event
    ∙ ap (λ j. events_text c 1 c.initial (take index events) ++ event_text c (j + 1) (number_behind c c.initial (take index events)) event) so_many
    ∙ ap (λ m. events_text c 1 c.initial (take index events) ++ event_text c (index + 1) m event) (sym number))
    ∙ sym (append_assoc (first_text c) _ _)

-- the first block alone
first_alone : (c : Counter) → played_text c [] ≡ first_text c
unfolding played_text events_text
first_alone c = append-nil (first_text c)

either_small : (t : Bool) (a b most : ℕ) → a + 1 ≤ most → b ≤ most → mag (cond t (negsuc a) (pos b)) ≤ most
either_small true a b most h k = omega arith
either_small false a b most h k = k

moved_small : (up : Bool) (n : ℤ) → mag (moved up n) ≤ mag n + 1
moved_small true (pos n) = omega arith
moved_small true (negsuc n) = either_small (ltb 1 (suc n)) (suc n - 2) (1 - suc n) _ (omega arith) (omega arith)
moved_small false (pos n) = either_small (ltb n 1) (1 - suc n) (n - 1) (n + 1) (omega arith) (omega arith)
moved_small false (negsuc n) = omega arith

from_heard : (heard : Option Bool) (n : ℤ) → mag (unwrap_or (option_map (λ up. moved up n) heard) n) ≤ mag n + 1
from_heard (Some up) n = moved_small up n
from_heard None n = omega arith

after_small : (c : Counter) (n : ℤ) (event : Event) → mag (number_after c n event) ≤ mag n + 1
after_small c n event = from_heard (hears c event) n

-- ---- what was put

pub played_none : (c : Counter) (events : List Event) (before now : Option (List ℕ)) → mag c.initial ≤ 1000000 → now ≡ option_map (with_piece (first_text c)) before → IsPlayed c events 0 c.initial before now
unfolding number_behind
played_none c events before now small put = record { put = put ∙ ap (λ t. option_map (with_piece t) before) (sym (first_alone c)); number = refl; small = omega arith }

pub played_more : (c : Counter) (events : List Event) (index : ℕ) (n : ℤ) (event : Event) (before between now : Option (List ℕ)) → IsPlayed c events index n before between → index < length events → event ≡ get_or events index event
    → now ≡ option_map (with_piece (event_text c (index + 1) n event)) between → IsPlayed c events (index + 1) (number_after c n event) before now
played_more c events index n event before between now played below e put = rw (add-one) (record {
  put = put ∙ ap (option_map (with_piece (event_text c (index + 1) n event))) played.put ∙ pieces_join (played_text c (take index events)) (event_text c (index + 1) n event) before
      ∙ ap (λ t. option_map (with_piece t) before) (sym (next_block c events index n event played.number below e));
  number = ap (λ m. number_after c m event) played.number ∙ sym (number_more c c.initial (take index events) event) ∙ ap (number_behind c c.initial) (sym (taken_more events index event below e));
  small = omega (arith, played.small, after_small c n event);
})

pub played_all : (c : Counter) (events : List Event) (index : ℕ) (n : ℤ) (before now : Option (List ℕ)) → IsPlayed c events index n before now → length events ≤ index → now ≡ option_map (with_piece (played_text c events)) before
played_all c events index n before now played past = played.put ∙ ap (λ es. option_map (with_piece (played_text c es)) before) (take_all index events past)

-- ---- where the sink stops

pub first_part : (c : Counter) (events : List Event) (before now : Option (List ℕ)) → AppendsFront (first_text c) before now → PutsPartOfBlock c events before now
first_part c events before now front = record { n = 0; piece = first_text c; next = first_alone c; taken = front.taken; put = front.appended }

pub no_blocks : (c : Counter) (events : List Event) (before now : Option (List ℕ)) → now ≡ before → PutsBlocks c events before now
no_blocks c events before now same = record { n = 0; put = same ∙ put_nothing before }

pub event_part : (c : Counter) (events : List Event) (index : ℕ) (n : ℤ) (event : Event) (before between now : Option (List ℕ)) → IsPlayed c events index n before between → index < length events → event ≡ get_or events index event
    → AppendsFront (event_text c (index + 1) n event) between now → PutsPartOfBlock c events before now
event_part c events index n event before between now played below e front = record {
  n = suc index;
  piece = event_text c (index + 1) n event;
  next = next_block c events index n event played.number below e;
  taken = front.taken;
  put = front.appended ∙ ap (option_map (with_piece (take front.taken (event_text c (index + 1) n event)))) played.put ∙ pieces_join (played_text c (take index events)) (take front.taken (event_text c (index + 1) n event)) before;
}

pub event_blocks : (c : Counter) (events : List Event) (index : ℕ) (n : ℤ) (before between now : Option (List ℕ)) → IsPlayed c events index n before between → now ≡ between → PutsBlocks c events before now
event_blocks c events index n before between now played same = record { n = suc index; put = same ∙ played.put }

-- ---- the number in its bits

pub small_fits : (n : ℤ) → mag n ≤ 2000000 → SFits w64 n
small_fits n h = record { sfits = omega arith }

pub played_in_bits : (c : Counter) (events : List Event) (index : ℕ) (n m : ℤ) (before now : Option (List ℕ)) → index ≤ 65536 → m ≡ n → IsPlayed c events index n before now → IsPlayed c events index (to_z w64 (of_z w64 m)) before now
played_in_bits c events index n m before now low e played =
    subst (λ k. IsPlayed c events index k before now) (sym (to_z-of_z w64 m (small_fits m (subst (λ k. mag k ≤ 2000000) (sym e) (omega (arith, played.small)))) ∙ e)) played

pub event_there : {A : Type 0} (f : A → Event) (xs : List A) (i : ℕ) (x : A) → i < length xs → x ≡ get_or xs i x → f x ≡ get_or (map f xs) i (f x)
event_there f xs i x below e = ap f e ∙ sym (get_or-map f xs i x (f x) below)

err_same : {U : Type 0} (r : Result U SinkFault) (e f : SinkFault) → r ≡ Err e → r ≡ Err f → e ≡ f
err_same r e f h k = cc

-- a fault that is handed on
pub handed_on : {T U : Type 0} (before between after : ℕ) (e : SinkFault) (r : Result U SinkFault) → between ≡ before → HasCause {T = T} Failed Memory between after (Err e) → IsErrOf r e → HasCause Failed Memory before after r
handed_on before between after e r same cause is = record {
  later = subst (λ b. b ≤ after) same cause.later;
  failed = λ h. subst (λ b. Rose b after) same (cause.failed (ap Err (err_same r e Failed is h)));
  ok = subst (λ q. OnOk q (after ≡ before)) (sym is) tt;
  memory = λ h. cause.memory (ap Err (err_same r e Memory is h)) ∙ same;
}

-- want of memory that is handed on
pub want_handed : {T U : Type 0} (e : SinkFault) (r : Result U SinkFault) → IsErrOf r e → IsErrOf r Memory → IsErrOf {T = T} (Err e) Memory
want_handed e r is want = ap Err (err_same r e Memory is want)
