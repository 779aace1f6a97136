-- How runs are put together.
use Rattle.std.proofs.Common.{◌≡◌, ◌<◌, ◌-◌, ℕ, zero, suc, Bool, false, List, [], ◌∷◌, ◌++◌, length, Some, Result, Ok, Err, refl, ap, ◌∙◌, sym, subst, arith, le_trans}
use Rattle.std.proofs.lemmas.List.{append_assoc, append-nil}
use Rattle.qk_ast.specs.declared.Form.{Form}
use Rattle.qk_base.specs.Left.{Left}
use Rattle.qk_meaning.specs.Value.{Text, Fields}
use Rattle.qk_meaning.specs.World.{Loc}
use Rattle.qk_meaning.specs.Program.{Program}
use Rattle.qk_meaning.specs.Doing.{Outcome, Doing, Gives, Stops, Faults, Ends, after, state_left}
use Rattle.qk_meaning.specs.Happening as H
use Rattle.qk_meaning.specs.Happening.{Happening, Answered}
use Rattle.qk_meaning.specs.Flow.{opened, scoped, within}
use Rattle.qk_meaning.specs.Parts.{without_first}
use Rattle.qk_meaning.specs.Running.{Running, Kept_run, Hooking, noted, unhooked, take_turn, turn_of}
use Rattle.qk_meaning.specs.Trace.{logged_in, printed_in, answers_in}
use Rattle.qk_meaning.specs.Laws_of_code.{Adds}
use Rattle.qk_meaning.proofs.Traces.{logged_then, printed_then, answers_then}
use Rattle.qk_meaning.proofs.Growth.{Adding, adds_then}
use Rattle.qk_value.specs.Faults.{fault_of}
use Rattle.qk_value.specs.View.{plain_site}
use Rattle.qk_value.specs.declared.fault.Fault.{Fault as Fault'}
use Rattle.qk_heap.specs.Told.{Told, Was_read, Has_changed, Besides}
use Rattle.qk_code.specs.declared.stop.CodeFault.{CodeFault}
use Rattle.qk_code.specs.declared.stop.CodeFault.TheVariants as C
use Rattle.qk_code.specs.declared.stop.Stop.{Stop}
use Rattle.qk_code.specs.declared.stop.Stop.TheVariants.{Fault, Ended, Code, Memory}
use Rattle.qk_code.specs.Stops.{stop_by}
use Rattle.qk_code.specs.Sources.{Sources, Extends, reading}
use Rattle.qk_code.specs.Counts.{Counts, Later, HasCause, CausedBy, asked_last, in_vain, in_vain_by}
use Rattle.qk_code.specs.declared.ask.Ask.{Ask}
use Rattle.qk_code.specs.declared.ask.Ask.TheVariants.{Body, Plain, Root}
use Rattle.qk_code.specs.Asked.{Goes_on, asks_answered, asks_in, Asks}
use Rattle.qk_code.specs.World.{World, Spent, Past, awaiting, since, hooking_so, state, heard_in}
use Rattle.qk_code.specs.Ran.{Agrees, Unless_memory, Ran}

-- ---- orders

pub extends_self : (s : Sources) → Extends s s
extends_self s = record { added = []; files = sym (append-nil s.files); index = refl }

pub extends_all : (a b c : Sources) → Extends a b → Extends b c → Extends a c
extends_all a b c p q = record { added = p.added ++ q.added; files = q.files ∙ (ap (λ xs. xs ++ q.added) p.files ∙ append_assoc a.files p.added q.added); index = q.index ∙ p.index }

pub later_self : (c : Counts) → Later c c
later_self c = record { faults = omega arith; refusals = omega arith }

pub later_all : (a b c : Counts) → Later a b → Later b c → Later a c
later_all a b c p q = record { faults = le_trans p.faults q.faults; refusals = le_trans p.refusals q.refusals }

pub spent_self : (l : Left) → Spent l l
spent_self l = record { turns = omega arith; depth = refl; entered = refl }

pub spent_all : (a b c : Left) → Spent a b → Spent b c → Spent a c
spent_all a b c p q = record { turns = le_trans q.turns p.turns; depth = q.depth ∙ p.depth; entered = q.entered ∙ p.entered }

pub goes_none : {X : Type 0} (lists : List X → Type 0) → Goes_on lists lists []
goes_none lists so_far h = subst lists (sym (append-nil so_far)) h

pub goes_all : {X : Type 0} (a b c : List X → Type 0) (one other : List X) → Goes_on a b one → Goes_on b c other → Goes_on a c (one ++ other)
goes_all a b c one other p q so_far h = subst c (append_assoc so_far one other) (q (so_far ++ one) (p so_far h))

-- ---- what is found in one trace behind another

pub heard_then : (one other : List Happening) → heard_in (one ++ other) ≡ heard_in one ++ heard_in other
heard_then [] other = refl
heard_then (H.Did_read r ∷ rest) other = ap (λ all. Was_read r.loc ∷ all) (heard_then rest other)
heard_then (H.Did_log l ∷ rest) other = ap (λ all. Has_changed l ∷ all) (heard_then rest other)
heard_then (H.Did_print line ∷ rest) other = ap (λ all. Besides (H.Did_print line) ∷ all) (heard_then rest other)
heard_then (H.Began part ∷ rest) other = ap (λ all. Besides (H.Began part) ∷ all) (heard_then rest other)
heard_then (H.Left part ∷ rest) other = ap (λ all. Besides (H.Left part) ∷ all) (heard_then rest other)
heard_then (H.Hooked kind arguments answered ∷ rest) other = ap (λ all. Besides (H.Hooked kind arguments answered) ∷ all) (heard_then rest other)
heard_then (H.Computing a ∷ rest) other = ap (λ all. Besides (H.Computing a) ∷ all) (heard_then rest other)
heard_then (H.Computed_so a v ∷ rest) other = ap (λ all. Besides (H.Computed_so a v) ∷ all) (heard_then rest other)
heard_then (H.Took a v reads ∷ rest) other = ap (λ all. Besides (H.Took a v []) ∷ all) (heard_then rest other)
heard_then (_ ∷ rest) other = heard_then rest other

pub asks_then : (one other : List Happening) → asks_in (one ++ other) ≡ asks_in one ++ asks_in other
asks_then [] other = refl
asks_then (H.Entered (H.Of_symbol symbol) ∷ rest) other = ap (λ all. Body symbol ∷ all) (asks_then rest other)
asks_then (H.Entered (H.At_site site) ∷ rest) other = ap (λ all. Plain site.file site.number ∷ all) (asks_then rest other)
asks_then (H.Used file name ∷ rest) other = ap (λ all. Root file name ∷ all) (asks_then rest other)
asks_then (_ ∷ rest) other = asks_then rest other

-- what the first is asked for, of which nothing was in vain, and what the other is asked for
asks_all : (one other : List Happening) (vain : List Ask) → (asks_in one ++ []) ++ (asks_in other ++ vain) ≡ asks_in (one ++ other) ++ vain
asks_all one other vain = ap (λ l. l ++ (asks_in other ++ vain)) (append-nil (asks_in one)) ∙ (sym (append_assoc (asks_in one) (asks_in other) vain) ∙ ap (λ l. l ++ vain) (sym (asks_then one other)))

-- ---- pasts

pub same_past : {log log' : List Loc} {lines lines' : List Text} {trace trace' : List Happening} {rest rest' : List Answered} (kept : List Kept_run) → log ≡ log' → lines ≡ lines' → trace ≡ trace' → rest ≡ rest'
    → let one : Past = record { log = log; lines = lines; trace = trace; kept = kept; rest = rest } in let other : Past = record { log = log'; lines = lines'; trace = trace'; kept = kept; rest = rest' } in one ≡ other
same_past kept a b c d = rw (a, b, c, d) refl

pub since_none : (past : Past) → since past [] ≡ past
since_none past = same_past past.kept (append-nil past.log) (append-nil past.lines) (append-nil past.trace) refl

pub since_then : (past : Past) (one other : List Happening) → since (since past one) other ≡ since past (one ++ other)
since_then past one other =
    same_past past.kept
    (append_assoc past.log (logged_in one) (logged_in other) ∙ ap (λ l. past.log ++ l) (sym (logged_then one other)))
    (append_assoc past.lines (printed_in one) (printed_in other) ∙ ap (λ l. past.lines ++ l) (sym (printed_then one other)))
    (append_assoc past.trace one other) refl

pub awaiting_then : (past : Past) (one other : List Happening) → awaiting (awaiting past other) one ≡ awaiting past (one ++ other)
awaiting_then past one other = same_past past.kept refl refl refl (sym (append_assoc (answers_in one) (answers_in other) past.rest) ∙ ap (λ l. l ++ past.rest) (sym (answers_then one other)))

-- nothing is awaited of what has no answers
pub awaiting_none : (past : Past) (happened : List Happening) → answers_in happened ≡ [] → awaiting past happened ≡ past
awaiting_none past happened e = same_past past.kept refl refl refl (ap (λ l. l ++ past.rest) e)

-- ---- results

pub unless_memory : {A : Type 0} (r : Result A Stop) {P : Type 0} → P → Unless_memory r P
unless_memory (Ok a) h = h
unless_memory (Err (Fault f)) h = h
unless_memory (Err Ended) h = h
unless_memory (Err (Code why)) h = h
unless_memory (Err Memory) h = tt

pub unless_both : {A : Type 0} (r : Result A Stop) {P Q : Type 0} → (P → Q) → Unless_memory r P → Unless_memory r Q
unless_both (Ok a) f h = f h
unless_both (Err (Fault e)) f h = f h
unless_both (Err Ended) f h = f h
unless_both (Err (Code why)) f h = f h
unless_both (Err Memory) f h = tt

-- the same of another result that is no result
unless_err : (A A' P : Type 0) (e : Stop) → Unless_memory {A = A} (Err e) P → Unless_memory {A = A'} (Err e) P
unless_err A A' P (Fault f) h = h
unless_err A A' P Ended h = h
unless_err A A' P (Code why) h = h
unless_err A A' P Memory h = h

cause_err : (A A' : Type 0) (before after : Counts) (e : Stop) → HasCause {A = A} before after (Err e) → HasCause {A = A'} before after (Err e)
cause_err A A' b a (Fault f) h = h
cause_err A A' b a Ended h = h
cause_err A A' b a (Code why) h = h
cause_err A A' b a Memory h = h

cause_then : {A : Type 0} (a b c : Counts) (r : Result A Stop) → b ≡ a → HasCause b c r → HasCause a c r
cause_then a b c r e h = subst (λ x. HasCause x c r) e h

-- ---- outcomes

adds_on : {B B' : Type 0} (s : Running) (outcome : Outcome Running B) (next : B → Doing Running B') → ((b : B) → Adding B' (next b) (next b)) → Adds s (state_left outcome) → Adds s (state_left (after outcome next))
adds_on s (Gives b u) next grows h = adds_then s u (state_left (next b u)) h (grows b u)
adds_on s (Stops why u) next grows h = h

agrees_err : {A A' B B' : Type 0} (seen : A → B) (seen' : A' → B') (asks : List Ask) (outcome : Outcome Running B) (next : B → Doing Running B') (e : Stop) (s : Running) → ((b : B) → Adding B' (next b) (next b)) → Agrees seen asks outcome (Err e) s → Agrees seen' asks (after outcome next) (Err e) s
agrees_err seen seen' asks o next (Fault f) s grows h = record { locals = h.locals; hooking = h.hooking; is = ap (λ o. after o next) h.is }
agrees_err seen seen' asks o next Ended s grows h = record { locals = h.locals; hooking = h.hooking; is = ap (λ o. after o next) h.is }
agrees_err seen seen' asks o next (Code why) s grows h = record { ask = h.ask; only = h.only; next = h.next; asked = h.asked; adds = adds_on (record s { trace = s.trace ++ (h.next ∷ []) }) o next grows h.adds }
agrees_err seen seen' asks o next Memory s grows h = tt

-- ---- asks

-- this is told of an ask, and nothing else
pub record Is_ask (h : Happening) (ask : Ask) : Type 0 where
  pub asks : asks_in (h ∷ []) ≡ ask ∷ []
  pub unheard : heard_in (h ∷ []) ≡ []
  pub unlogged : logged_in (h ∷ []) ≡ []
  pub unprinted : printed_in (h ∷ []) ≡ []
  pub unanswered : answers_in (h ∷ []) ≡ []

pub body_asked : (symbol : Text) → Is_ask (H.Entered (H.Of_symbol symbol)) (Body symbol)
body_asked symbol = record { asks = refl; unheard = refl; unlogged = refl; unprinted = refl; unanswered = refl }

pub plain_asked : (file : Text) (number : ℕ) → Is_ask (H.Entered (H.At_site (plain_site file number))) (Plain file number)
plain_asked file number = record { asks = refl; unheard = refl; unlogged = refl; unprinted = refl; unanswered = refl }

pub root_asked : (file name : Text) → Is_ask (H.Used file name) (Root file name)
root_asked file name = record { asks = refl; unheard = refl; unlogged = refl; unprinted = refl; unanswered = refl }

since_ask : (past : Past) (h : Happening) → logged_in (h ∷ []) ≡ [] → printed_in (h ∷ []) ≡ [] → since past (h ∷ []) ≡ record past { trace = past.trace ++ h ∷ [] }
since_ask past h a b = same_past past.kept (ap (λ x. past.log ++ x) a ∙ append-nil past.log) (ap (λ x. past.lines ++ x) b ∙ append-nil past.lines) refl refl

module _ (form : Form) (hooked : Bool) (given : Program → Type 0) where
  -- ---- one thing after another

  -- a run that gave a result, and the run of what comes from it
  pub ran_then : {A A' B B' : Type 0} (seen : Program → A → B) (seen' : Program → A' → B') (meaning : Program → Doing Running B) (next : Program → B → Doing Running B') (w v u : World) (a : A) (r : Result A' Stop)
      → Ran form hooked given seen meaning w (Ok a) v → Ran form hooked given seen' (λ p. next p (seen p a)) v r u → Ran form hooked given seen' (λ p s. after (meaning p s) (next p)) w r u
  ran_then seen seen' meaning next w v u a r h k =
      record {
        grows = extends_all _ _ _ h.grows k.grows;
        later = later_all _ _ _ h.later k.later;
        cause = cause_then _ _ _ r h.cause k.cause;
        spent = spent_all _ _ _ h.spent k.spent;
        happened = λ p log. h.happened p log ++ k.happened p (log ++ logged_in (h.happened p log));
        unanswered = λ o p log. answers_then (h.happened p log) _ ∙ (ap (λ xs. xs ++ answers_in (k.happened p (log ++ logged_in (h.happened p log)))) (h.unanswered o p log) ∙ k.unanswered o p _);
        heard = unless_both r (λ later p log. subst (Goes_on w.told u.told) (sym (heard_then (h.happened p log) _)) (goes_all w.told v.told u.told _ _ (h.heard p log) (later p _))) k.heard;
        asked = unless_both r (λ later p log. subst (Goes_on w.asked u.asked) (asks_all (h.happened p log) _ (in_vain r u.counts)) (goes_all w.asked v.asked u.asked _ _ (h.asked p log) (later p _))) k.asked;
        agrees = λ files more g past.
            let p : Program = reading form files in
            let one : List Happening = h.happened p past.log in
            let two : List Happening = k.happened p (past.log ++ logged_in one) in
            let asks : List Ask = in_vain r u.counts in
            let h' : meaning p (state hooked p (awaiting (awaiting past two) one) w) ≡ Gives (seen p a) (state hooked p (since (awaiting past two) one) v) = h.agrees files (extends_all _ _ _ k.grows more) g (awaiting past two) in
            let k' : Agrees (seen' p) asks (next p (seen p a) (state hooked p (awaiting (since past one) two) v)) r (state hooked p (since (since past one) two) u) = k.agrees files more g (since past one) in
            let both : Agrees (seen' p) asks (after (meaning p (state hooked p (awaiting (awaiting past two) one) w)) (next p)) r (state hooked p (since (since past one) two) u) =
            subst (λ o. Agrees (seen' p) asks (after o (next p)) r (state hooked p (since (since past one) two) u)) (sym h') k' in
            subst (λ x. Agrees (seen' p) asks (after (meaning p (state hooked p x w)) (next p)) r (state hooked p (since past (one ++ two)) u)) (awaiting_then past one two)
            (subst (λ x. Agrees (seen' p) asks (after (meaning p (state hooked p (awaiting (awaiting past two) one) w)) (next p)) r (state hooked p x u)) (since_then past one two) both);
      }

  -- a run that stopped, where more would have come
  pub ran_err : {A A' B B' : Type 0} (seen : Program → A → B) (seen' : Program → A' → B') (meaning : Program → Doing Running B) (next : Program → B → Doing Running B') (w v : World) (r : Result A' Stop) (e : Stop)
      → r ≡ Err e → ((p : Program) (b : B) → Adding B' (next p b) (next p b)) → Ran form hooked given seen meaning w (Err e) v → Ran form hooked given seen' (λ p s. after (meaning p s) (next p)) w r v
  ran_err {A} {A'} seen seen' meaning next w v r e is adding h =
      rw is (record {
        grows = h.grows;
        later = h.later;
        cause = cause_err A A' _ _ e h.cause;
        spent = h.spent;
        happened = h.happened;
        unanswered = h.unanswered;
        heard = unless_err A A' _ e h.heard;
        asked = unless_err A A' _ e h.asked;
        agrees = λ files more g past. agrees_err (seen (reading form files)) (seen' (reading form files)) (in_vain_by e v.counts) (meaning (reading form files) (state hooked (reading form files) (awaiting past (h.happened (reading form files) past.log)) w)) (next (reading form files)) e _ (adding (reading form files)) (h.agrees files more g past);
      })

  -- ---- the same run

  -- its meaning by another name
  pub ran_same : {A B : Type 0} (seen : Program → A → B) (m n : Program → Doing Running B) (w v : World) (r : Result A Stop)
      → ((p : Program) → given p → (past : Past) → m p (state hooked p past w) ≡ n p (state hooked p past w)) → Ran form hooked given seen m w r v → Ran form hooked given seen n w r v
  ran_same seen m n w v r e h =
      record {
        grows = h.grows;
        later = h.later;
        cause = h.cause;
        spent = h.spent;
        happened = h.happened;
        unanswered = h.unanswered;
        heard = h.heard;
        asked = h.asked;
        agrees = λ files more g past.
            let p : Program = reading form files in
            subst (λ o. Agrees (seen p) (in_vain r v.counts) o r (state hooked p (since past (h.happened p past.log)) v)) (e p g (awaiting past (h.happened p past.log))) (h.agrees files more g past);
      }

  -- where the names in scope are changed first
  pub ran_moved : {A B : Type 0} (seen : Program → A → B) (m n : Program → Doing Running B) (w v : World) (scope : Program → Fields) (r : Result A Stop)
      → ((p : Program) → given p → (past : Past) → m p (state hooked p past (record w { scope = scope })) ≡ n p (state hooked p past w)) → Ran form hooked given seen m (record w { scope = scope }) r v → Ran form hooked given seen n w r v
  ran_moved seen m n w v scope r e h =
      record {
        grows = h.grows;
        later = h.later;
        cause = h.cause;
        spent = h.spent;
        happened = h.happened;
        unanswered = h.unanswered;
        heard = h.heard;
        asked = h.asked;
        agrees = λ files more g past.
            let p : Program = reading form files in
            subst (λ o. Agrees (seen p) (in_vain r v.counts) o r (state hooked p (since past (h.happened p past.log)) v)) (e p g (awaiting past (h.happened p past.log))) (h.agrees files more g past);
      }

  -- more is given than was asked for, of whatever files come later
  pub ran_known : {A B : Type 0} (asked : Program → Type 0) (seen : Program → A → B) (m : Program → Doing Running B) (w v : World) (r : Result A Stop)
      → ((files : Sources) → Extends v.sources files → given (reading form files) → asked (reading form files)) → Ran form hooked asked seen m w r v → Ran form hooked given seen m w r v
  ran_known asked seen m w v r k h =
      record {
        grows = h.grows;
        later = h.later;
        cause = h.cause;
        spent = h.spent;
        happened = h.happened;
        unanswered = h.unanswered;
        heard = h.heard;
        asked = h.asked;
        agrees = λ files more g past. h.agrees files more (k files more g) past;
      }

  -- ---- single steps

  -- this is told, of which no hook call is answered, and the meaning is as the worlds say
  pub ran_telling : {A B : Type 0} (seen : Program → A → B) (meaning : Program → Doing Running B) (w v : World) (r : Result A Stop) (h : Program → List Loc → List Happening)
      → Extends w.sources v.sources → Later w.counts v.counts → HasCause w.counts v.counts r → Spent w.left v.left
      → ((p : Program) (log : List Loc) → answers_in (h p log) ≡ [])
      → Unless_memory r ((p : Program) (log : List Loc) → Goes_on w.told v.told (heard_in (h p log)))
      → Unless_memory r ((p : Program) (log : List Loc) → Goes_on w.asked v.asked (asks_in (h p log) ++ in_vain r v.counts))
      → ((files : Sources) → Extends v.sources files → given (reading form files) → (past : Past)
      → Agrees (seen (reading form files)) (in_vain r v.counts) (meaning (reading form files) (state hooked (reading form files) past w)) r (state hooked (reading form files) (since past (h (reading form files) past.log)) v))
      → Ran form hooked given seen meaning w r v
  ran_telling seen meaning w v r h grows later cause spent none heard asked agrees =
      record {
        grows = grows;
        later = later;
        cause = cause;
        spent = spent;
        happened = h;
        unanswered = λ o. none;
        heard = heard;
        asked = asked;
        agrees = λ files more g past.
            let p : Program = reading form files in
            subst (λ x. Agrees (seen p) (in_vain r v.counts) (meaning p (state hooked p x w)) r (state hooked p (since past (h p past.log)) v)) (sym (awaiting_none past (h p past.log) (none p past.log))) (agrees files more g past);
      }

  -- nothing is told
  pub ran_quiet : {A B : Type 0} (seen : Program → A → B) (meaning : Program → Doing Running B) (w v : World) (r : Result A Stop)
      → Extends w.sources v.sources → Later w.counts v.counts → HasCause w.counts v.counts r → Spent w.left v.left → Unless_memory r (Goes_on w.told v.told []) → Unless_memory r (Goes_on w.asked v.asked (in_vain r v.counts))
      → ((files : Sources) → Extends v.sources files → given (reading form files) → (past : Past)
      → Agrees (seen (reading form files)) (in_vain r v.counts) (meaning (reading form files) (state hooked (reading form files) past w)) r (state hooked (reading form files) past v))
      → Ran form hooked given seen meaning w r v
  ran_quiet seen meaning w v r grows later cause spent told asked agrees =
      ran_telling seen meaning w v r (λ p log. []) grows later cause spent (λ p log. refl) (unless_both r (λ t p log. t) told) (unless_both r (λ a p log. a) asked)
      (λ files more g past. let p : Program = reading form files in subst (λ x. Agrees (seen p) (in_vain r v.counts) (meaning p (state hooked p past w)) r (state hooked p x v)) (sym (since_none past)) (agrees files more g past))

  -- nothing is done, and a result given
  pub ran_gives : {A B : Type 0} (seen : Program → A → B) (meaning : Program → Doing Running B) (w : World) (a : A)
      → ((p : Program) → given p → (past : Past) → meaning p (state hooked p past w) ≡ Gives (seen p a) (state hooked p past w)) → Ran form hooked given seen meaning w (Ok a) w
  ran_gives seen meaning w a h = ran_quiet seen meaning w w (Ok a) (extends_self _) (later_self _) refl (spent_self _) (goes_none _) (goes_none _) (λ files more g past. h (reading form files) g past)

  -- the result equals the one that is meant
  pub ran_value : {A B : Type 0} (seen : Program → A → B) (meaning : Program → Doing Running B) (w : World) (a b : A)
      → a ≡ b → ((p : Program) → given p → (past : Past) → meaning p (state hooked p past w) ≡ Gives (seen p b) (state hooked p past w)) → Ran form hooked given seen meaning w (Ok a) w
  ran_value seen meaning w a b e h = rw e (ran_gives seen meaning w b h)

  -- nothing is done, and there is a fault
  pub ran_faults : {A B : Type 0} (seen : Program → A → B) (meaning : Program → Doing Running B) (w : World) (r : Result A Stop) (f : Fault')
      → r ≡ Err (Fault f) → ((p : Program) → given p → (past : Past) → meaning p (state hooked p past w) ≡ Stops (Faults (fault_of f)) (state hooked p past w)) → Ran form hooked given seen meaning w r w
  ran_faults seen meaning w r f is h =
      rw is (ran_quiet seen meaning w w (Err (Fault f)) (extends_self _) (later_self _) refl (spent_self _) (goes_none _) (goes_none _) (λ files more g past. record { locals = _; hooking = _; is = h (reading form files) g past }))

  -- nothing is done, and the budget ends
  pub ran_ends : {A B : Type 0} (seen : Program → A → B) (meaning : Program → Doing Running B) (w : World) (r : Result A Stop)
      → r ≡ Err Ended → ((p : Program) → given p → (past : Past) → meaning p (state hooked p past w) ≡ Stops Ends (state hooked p past w)) → Ran form hooked given seen meaning w r w
  ran_ends seen meaning w r is h =
      rw is (ran_quiet seen meaning w w (Err Ended) (extends_self _) (later_self _) refl (spent_self _) (goes_none _) (goes_none _) (λ files more g past. record { locals = _; hooking = _; is = h (reading form files) g past }))

  -- want of memory, whatever was told and whatever stands in the heap then
  pub ran_memory : {A B : Type 0} (seen : Program → A → B) (meaning : Program → Doing Running B) (w v : World) (r : Result A Stop)
      → r ≡ Err Memory → Extends w.sources v.sources → v.counts ≡ w.counts → Spent w.left v.left → Ran form hooked given seen meaning w r v
  ran_memory seen meaning w v r is grows same spent =
      rw is (ran_quiet seen meaning w v (Err Memory) grows (rw same (later_self _)) same spent tt tt (λ files more g past. tt))

  -- want of memory where nothing was done
  pub ran_lost : {A B : Type 0} (seen : Program → A → B) (meaning : Program → Doing Running B) (w : World) (r : Result A Stop) → r ≡ Err Memory → Ran form hooked given seen meaning w r w
  ran_lost seen meaning w r is = ran_memory seen meaning w w r is (extends_self _) refl (spent_self _)

  -- ---- the budget

  turn_taken : (n : ℕ) (s : Running) → 0 < n → turn_of n s ≡ Gives tt (record s { turns = n - 1 })
  turn_taken zero s h = absurd (omega (arith, h))
  turn_taken (suc n) s h = ap {A = ℕ} (λ k. Gives tt (record s { turns = k })) (omega arith)

  -- a turn is taken
  pub ran_turn : (w : World) (left : Left) → 0 < w.left.turns → left ≡ record w.left { turns = w.left.turns - 1 } → Ran form hooked given (λ p (u : Unit {0}). u) (λ p. take_turn) w (Ok tt) (record w { left = left })
  ran_turn w left h is =
      rw is (ran_quiet (λ p (u : Unit {0}). u) (λ p. take_turn) w (record w { left = record w.left { turns = w.left.turns - 1 } }) (Ok tt) (extends_self _) (later_self _) refl (record { turns = omega arith; depth = refl; entered = refl }) (goes_none _) (goes_none _)
      (λ files more g past. turn_taken w.left.turns (state hooked (reading form files) past w) h))

  no_turn : {B : Type 0} (n : ℕ) (s : Running) (next : Doing Running B) → n ≡ 0 → after (turn_of n s) (λ u. next) ≡ Stops Ends s
  no_turn n s next is = rw is refl

  -- none is left
  pub ran_no_turn : {A B : Type 0} (seen : Program → A → B) (next : Program → Doing Running B) (w : World) (r : Result A Stop) → r ≡ Err Ended → w.left.turns ≡ 0 → Ran form hooked given seen (λ p s. after (take_turn s) (λ u. next p)) w r w
  ran_no_turn seen next w r is none = ran_ends seen (λ p s. after (take_turn s) (λ u. next p)) w r is (λ p g past. no_turn w.left.turns (state hooked p past w) (next p) none)

  -- ---- the code is asked

  -- the code is asked for what is entered or used next, and gives it
  pub ran_asked : (h : Happening) (ask : Ask) (w : World) (sources : Sources) (counts : Counts) (asked : List Ask → Type 0)
      → Is_ask h ask → Extends w.sources sources → counts ≡ w.counts → Goes_on w.asked asked (ask ∷ [])
      → Ran form hooked given (λ p (u : Unit {0}). u) (λ p. noted h) w (Ok tt) (record w { sources = sources; counts = counts; asked = asked })
  ran_asked h ask w sources counts asked is grows same goes =
      let v : World = record w { sources = sources; counts = counts; asked = asked } in
      ran_telling (λ p (u : Unit {0}). u) (λ p. noted h) w v (Ok tt) (λ p log. h ∷ []) grows (rw same (later_self _)) same (spent_self _) (λ p log. is.unanswered)
      (λ p log. subst (Goes_on w.told w.told) (sym is.unheard) (goes_none _)) (λ p log. subst (λ l. Goes_on w.asked asked (l ++ [])) (sym is.asks) goes)
      (λ files more g past. let p : Program = reading form files in subst (λ x. noted h (state hooked p past w) ≡ Gives tt (state hooked p x v)) (sym (since_ask past h is.unlogged is.unprinted)) refl)

  -- it gives nothing of what is entered or used next, and nothing more is done
  pub ran_refused : {A B X : Type 0} (seen : Program → A → B) (next : Program → Doing Running B) (h : Program → Happening) (ask : Ask) (w : World) (sources : Sources) (counts : Counts) (asked : List Ask → Type 0) (r : Result A Stop) (why : CodeFault)
      → r ≡ Err (stop_by why) → ((p : Program) → Asks (h p) ask) → Extends w.sources sources → CausedBy {A = X} w.counts counts ask (Err why) → Goes_on w.asked asked (asks_answered {A = X} ask (Err why)) → ((p : Program) → Adding B (next p) (next p))
      → Ran form hooked given seen (λ p s. after (noted (h p) s) (λ u. next p)) w r (record w { sources = sources; counts = counts; asked = asked })
  ran_refused {A} {B} {X} seen next h ask w sources counts asked r why rs is grows cause goes adding = by why rs cause goes
    where
      v : World
      v = record w { sources = sources; counts = counts; asked = asked }

      stopped : (why : CodeFault) → HasCause {A = A} w.counts counts (Err (Code why)) → counts.last ≡ Some (record { ask = ask; why = why }) → Later w.counts counts → Goes_on w.asked asked (ask ∷ []) → Ran form hooked given seen (λ p s. after (noted (h p) s) (λ u. next p)) w (Err (Code why)) v
      stopped why because last later goes =
          let only : asked_last counts.last ≡ ask ∷ [] = ap asked_last last in
          ran_quiet seen (λ p s. after (noted (h p) s) (λ u. next p)) w v (Err (Code why)) grows later because (spent_self _) (goes_none _) (subst (Goes_on w.asked asked) (sym only) goes)
          (λ files more g past.
          let p : Program = reading form files in
          record { ask = ask; only = only; next = h p; asked = is p; adds = adding p (record (state hooked p past w) { trace = past.trace ++ (h p ∷ []) }) })

      by : (why : CodeFault) → r ≡ Err (stop_by why) → CausedBy {A = X} w.counts counts ask (Err why) → Goes_on w.asked asked (asks_answered {A = X} ask (Err why)) → Ran form hooked given seen (λ p s. after (noted (h p) s) (λ u. next p)) w r v
      by (C.Missing file) rs cause goes = rw rs (stopped (C.Missing file) (record { ask = ask; because = cause.cause }) cause.cause.last cause.later goes)
      by (C.Bad file) rs cause goes = rw rs (stopped (C.Bad file) (record { ask = ask; because = cause.cause }) cause.cause.last cause.later goes)
      by C.Store rs cause goes = rw rs (stopped C.Store (record { ask = ask; because = cause.cause }) cause.cause.last cause.later goes)
      by C.Memory rs cause goes = ran_memory seen _ w v r rs grows cause.cause (spent_self _)

  -- ---- the host is told

  -- these are told, and nothing of it is logged, printed, answered or asked for
  pub ran_told : (h : Program → List Loc → List Happening) (w : World) (told : List Told → Type 0)
      → ((p : Program) (log : List Loc) → Goes_on w.told told (heard_in (h p log))) → ((p : Program) (log : List Loc) → asks_in (h p log) ≡ [])
      → ((p : Program) (log : List Loc) → logged_in (h p log) ≡ []) → ((p : Program) (log : List Loc) → printed_in (h p log) ≡ []) → ((p : Program) (log : List Loc) → answers_in (h p log) ≡ [])
      → Ran form hooked given (λ p (u : Unit {0}). u) (λ p s. Gives tt (record s { trace = s.trace ++ h p s.log })) w (Ok tt) (record w { told = told })
  ran_told h w told hears asks logs prints answers =
      let v : World = record w { told = told } in
      ran_telling (λ p (u : Unit {0}). u) (λ p s. Gives tt (record s { trace = s.trace ++ h p s.log })) w v (Ok tt) h (extends_self _) (later_self _) refl (spent_self _) answers hears
      (λ p log. subst (λ l. Goes_on w.asked w.asked (l ++ [])) (sym (asks p log)) (goes_none _))
      (λ files more g past.
      let p : Program = reading form files in
      let now : List Happening = h p past.log in
      let e : since past now ≡ record past { trace = past.trace ++ now } = same_past past.kept (ap (λ x. past.log ++ x) (logs p past.log) ∙ append-nil past.log) (ap (λ x. past.lines ++ x) (prints p past.log) ∙ append-nil past.lines) refl refl in
      let s : Running = state hooked p past w in
      subst (λ x. ◌≡◌ {A = Outcome Running (Unit {0})} (Gives tt (record s { trace = past.trace ++ now })) (Gives tt (state hooked p x v))) (sym e) refl)

  -- ---- names in scope, and hooks

  adds_alike : (s t : Running) (locals locals' : Fields) (hooking hooking' : Hooking) → Adds s t → Adds (record s { locals = locals; hooking = hooking }) (record t { locals = locals'; hooking = hooking' })
  adds_alike s t locals locals' hooking hooking' a = record { told = a.told; trace = a.trace; log = a.log; lines = a.lines; made = a.made; kinds = a.kinds }

  -- behind what is done, the names in scope become others and hook calls are answered otherwise
  agrees_behind : {A B : Type 0} (seen : A → B) (outcome : Outcome Running B) (locals : Fields → Fields) (hooking : Hooking → Hooking) (r : Result A Stop) (t : Running)
      → (asks : List Ask) → Agrees seen asks outcome r t → Agrees seen asks (after outcome (λ a u. Gives a (record u { locals = locals u.locals; hooking = hooking u.hooking }))) r (record t { locals = locals t.locals; hooking = hooking t.hooking })
  agrees_behind seen o locals hooking (Ok a) t asks h = ap (λ x. after x (λ a u. Gives a (record u { locals = locals u.locals; hooking = hooking u.hooking }))) h
  agrees_behind seen o locals hooking (Err (Fault f)) t asks h = record { locals = h.locals; hooking = h.hooking; is = ap (λ x. after x (λ a u. Gives a (record u { locals = locals u.locals; hooking = hooking u.hooking }))) h.is }
  agrees_behind seen o locals hooking (Err Ended) t asks h = record { locals = h.locals; hooking = h.hooking; is = ap (λ x. after x (λ a u. Gives a (record u { locals = locals u.locals; hooking = hooking u.hooking }))) h.is }
  agrees_behind {A} {B} seen o locals hooking (Err (Code why)) t asks h = record { ask = h.ask; only = h.only; next = h.next; asked = h.asked; adds = by (record t { trace = t.trace ++ (h.next ∷ []) }) o h.adds }
    where
      by : (t : Running) (o : Outcome Running B) → Adds t (state_left o) → Adds (record t { locals = locals t.locals; hooking = hooking t.hooking }) (state_left (after o (λ a u. Gives a (record u { locals = locals u.locals; hooking = hooking u.hooking }))))
      by t (Gives a u) h = adds_alike t u _ _ _ _ h
      by t (Stops why u) h = adds_alike t u _ _ _ _ h
  agrees_behind seen o locals hooking (Err Memory) t asks h = tt

  -- what runs with its own names leaves those around as they are
  pub ran_within : {A B : Type 0} (seen : Program → A → B) (names : Program → Fields) (doing : Program → Doing Running B) (w v : World) (inner : Program → Fields) (r : Result A Stop)
      → Ran form hooked given seen (λ p s. doing p (record s { locals = names p })) (record w { scope = inner }) r v → Ran form hooked given seen (λ p. within (names p) (doing p)) w r (record v { scope = w.scope })
  ran_within seen names doing w v inner r h =
      record {
        grows = h.grows;
        later = h.later;
        cause = h.cause;
        spent = h.spent;
        happened = h.happened;
        unanswered = h.unanswered;
        heard = h.heard;
        asked = h.asked;
        agrees = λ files more g past. agrees_behind (seen (reading form files)) _ (λ old. w.scope (reading form files)) (λ hooking. hooking) r _ (in_vain r v.counts) (h.agrees files more g past);
      }

  -- a scope is opened, and closed behind what runs in it
  pub ran_scoped : {A B : Type 0} (seen : Program → A → B) (names : List Text) (doing : Program → Doing Running B) (w v : World) (inner outer : Program → Fields) (r : Result A Stop)
      → ((p : Program) → inner p ≡ opened names (w.scope p)) → ((p : Program) → outer p ≡ without_first (length names) (v.scope p))
      → Ran form hooked given seen doing (record w { scope = inner }) r v → Ran form hooked given seen (λ p. scoped names (doing p)) w r (record v { scope = outer })
  ran_scoped seen names doing w v inner outer r opens closes h =
      record {
        grows = h.grows;
        later = h.later;
        cause = h.cause;
        spent = h.spent;
        happened = h.happened;
        unanswered = h.unanswered;
        heard = h.heard;
        asked = h.asked;
        agrees = λ files more g past.
            let p : Program = reading form files in
            let happened : List Happening = h.happened p past.log in
            subst (λ x. Agrees (seen p) (in_vain r v.counts) (scoped names (doing p) (state hooked p (awaiting past happened) w)) r (record (state hooked p (since past happened) v) { locals = x })) (sym (closes p))
            (subst (λ x. Agrees (seen p) (in_vain r v.counts) (after (doing p (record (state hooked p (awaiting past happened) w) { locals = x })) (λ a u. Gives a (record u { locals = without_first (length names) u.locals }))) r (record (state hooked p (since past happened) v) { locals = without_first (length names) (v.scope p) })) (opens p)
            (agrees_behind (seen p) (doing p (state hooked p (awaiting past happened) (record w { scope = inner }))) (without_first (length names)) (λ hooking. hooking) r (state hooked p (since past happened) v) (in_vain r v.counts) (h.agrees files more g past)));
      }

-- what is given nothing where it calls hooks leaves the answers that are to come
pub ran_unhooked : {A B : Type 0} (form : Form) (hooked : Bool) (given : Program → Type 0) (seen : Program → A → B) (doing : Program → Doing Running B) (w v : World) (r : Result A Stop)
    → Ran form false given seen doing w r v → Ran form hooked given seen (λ p. unhooked (doing p)) w r v
ran_unhooked form hooked given seen doing w v r h =
    record {
      grows = h.grows;
      later = h.later;
      cause = h.cause;
      spent = h.spent;
      happened = h.happened;
      unanswered = λ o. h.unanswered refl;
      heard = h.heard;
      asked = h.asked;
      agrees = λ files more g past.
          let p : Program = reading form files in
          let happened : List Happening = h.happened p past.log in
          subst (λ rest. Agrees (seen p) (in_vain r v.counts) (unhooked (doing p) (state hooked p (awaiting past happened) w)) r (record (state hooked p (since past happened) v) { hooking = hooking_so hooked rest })) (ap (λ x. x ++ past.rest) (h.unanswered refl p past.log))
          (agrees_behind form hooked given (seen p) (doing p (state false p (awaiting past happened) w)) (λ names. names) (λ hooking. hooking_so hooked (answers_in happened ++ past.rest)) r (state false p (since past happened) v) (in_vain r v.counts) (h.agrees files more g past));
    }
