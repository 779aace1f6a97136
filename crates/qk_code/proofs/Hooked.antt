-- A hook call that a host answers.
use Rattle.std.proofs.Common.{◌≡◌, ℕ, true, List, [], ◌∷◌, ◌++◌, length, drop, map, Result, Ok, Err, refl, ap, ◌∙◌, sym}
use Rattle.std.proofs.lemmas.List.{append_assoc, append-nil}
use Rattle.std.proofs.lemmas.Bool.{false≢true}
use Rattle.qk_ast.specs.declared.Form.{Form}
use Rattle.qk_meaning.specs.Value as M
use Rattle.qk_meaning.specs.Value.{Site}
use Rattle.qk_meaning.specs.World as W
use Rattle.qk_meaning.specs.World.{Loc}
use Rattle.qk_meaning.specs.Program.{Program, captures_in}
use Rattle.qk_meaning.specs.Doing.{Outcome, Gives, after, ◌>>=◌, ◌>>◌, asked, give}
use Rattle.qk_meaning.specs.Happening.{Happening, Hook_kind, Hook_answer, Refuses, Answered, Hooked}
use Rattle.qk_meaning.specs.Running.{Running, Told as Awaits, heap_of, noted}
use Rattle.qk_meaning.specs.Setting.{Setting}
use Rattle.qk_meaning.specs.Hooks.{all_made, answered_hook, given_so}
use Rattle.qk_value.specs.declared.value.Value.{Value}
use Rattle.qk_value.specs.declared.fault.Fault.{Fault as Fault'}
use Rattle.qk_value.specs.Faults.{fault_of}
use Rattle.qk_value.specs.View.{seen}
use Rattle.qk_heap.specs.declared.fault.HeapStop.TheVariants as Heap_stop
use Rattle.qk_heap.specs.declared.object.Object.{Object}
use Rattle.qk_heap.specs.Told.{Told}
use Rattle.qk_heap.specs.Seen.{object_seen}
use Rattle.qk_code.specs.declared.host.HookKind.{HookKind}
use Rattle.qk_code.specs.declared.host.HookAnswer.{HookAnswer}
use Rattle.qk_code.specs.declared.stop.Stop.{Stop}
use Rattle.qk_code.specs.declared.stop.Stop.TheVariants.{Fault}
use Rattle.qk_code.specs.Sources.{reading}
use Rattle.qk_code.specs.Asked.{Goes_on}
use Rattle.qk_code.specs.Hooks.{kind_seen, answer_seen, hook_told}
use Rattle.qk_code.specs.World.{World, Past, awaiting, since, state}
use Rattle.qk_code.specs.Ran.{Ran}
use Rattle.qk_code.proofs.Runs.{extends_self, later_self, spent_self, goes_none, same_past}

all_made_is : (made : List W.Object) (s : Running) → all_made made s ≡ Gives tt (record s { heap = s.heap ++ made })
all_made_is [] s = ap (λ h. Gives tt (record s { heap = h })) (sym (append-nil s.heap))
all_made_is (o ∷ rest) s = all_made_is rest (record s { heap = s.heap ++ (o ∷ []) }) ∙ ap (λ h. Gives tt (record s { heap = h })) (append_assoc s.heap (o ∷ []) rest)

dropped : (old made : List W.Object) → drop (length old) (old ++ made) ≡ made
dropped [] made = refl
dropped (o ∷ old) made = dropped old made

-- the next of the answers to come is the answer, and its objects are made
pub hook_answered : (kind : Hook_kind) (arguments : List M.Value) (answer : Hook_answer) (made : List W.Object) (rest : List Answered) (s : Running)
    → answered_hook kind arguments (record s { hooking = Awaits (record { answer = answer; made = made } ∷ rest) })
    ≡ Gives answer (record s { heap = s.heap ++ made; trace = s.trace ++ (Hooked kind arguments (record { answer = answer; made = made }) ∷ []); hooking = Awaits rest })
hook_answered kind arguments answer made rest s =
    let behind : Outcome Running (Unit {0}) → Outcome Running Hook_answer = λ o.
    after {A = Hook_answer × List W.Object} (after (after o (λ u. give answer)) (λ a. ◌>>=◌ (asked heap_of) (λ heap. give (a, drop (length s.heap) heap)))) (λ pair. ◌>>◌ (noted (Hooked kind arguments (record { answer = pair.0; made = pair.1 }))) (give pair.0)) in
    ap behind (all_made_is made (record s { hooking = Awaits rest }))
    ∙ ap (λ m. Gives answer (record s { heap = s.heap ++ made; trace = s.trace ++ (Hooked kind arguments (record { answer = answer; made = m }) ∷ []); hooking = Awaits rest })) (dropped s.heap made)

module _ (form : Form) (given : Program → Type 0) (kind : HookKind) (arguments : List Value) (made : List Object) (w : World) (heap : Program → List W.Object) (told : List Told → Type 0)
    (grows : (p : Program) → heap p ≡ w.heap p ++ map (object_seen (captures_in p)) made) where
  meant : (p : Program) (a : Hook_answer) (past : Past)
      → answered_hook (kind_seen kind) (map (seen (captures_in p)) arguments) (state true p (awaiting past (Hooked (kind_seen kind) (map (seen (captures_in p)) arguments) (record { answer = a; made = map (object_seen (captures_in p)) made }) ∷ [])) w)
      ≡ Gives a (state true p (since past (Hooked (kind_seen kind) (map (seen (captures_in p)) arguments) (record { answer = a; made = map (object_seen (captures_in p)) made }) ∷ [])) (record w { heap = heap; told = told }))
  meant p a past =
      let h : Happening = Hooked (kind_seen kind) (map (seen (captures_in p)) arguments) (record { answer = a; made = map (object_seen (captures_in p)) made }) in
      let now : Past = record past { trace = past.trace ++ h ∷ [] } in
      hook_answered (kind_seen kind) (map (seen (captures_in p)) arguments) a (map (object_seen (captures_in p)) made) past.rest (state true p past w)
      ∙ ap (λ x. Gives a (record (state true p now w) { heap = x })) (sym (grows p))
      ∙ ap (λ x. Gives a (state true p x (record w { heap = heap; told = told }))) (same_past past.kept (sym (append-nil past.log)) (sym (append-nil past.lines)) refl refl)

  -- it answers
  pub ran_hooked : (a : HookAnswer) → ((names : Site → List (List ℕ)) → Goes_on w.told told (hook_told names kind arguments made (Ok a)))
      → Ran form true given (λ p. answer_seen (captures_in p)) (λ p. answered_hook (kind_seen kind) (map (seen (captures_in p)) arguments)) w (Ok a) (record w { heap = heap; told = told })
  ran_hooked a hears =
      record {
        grows = extends_self _;
        later = later_self _;
        cause = refl;
        spent = spent_self _;
        happened = λ p log. Hooked (kind_seen kind) (map (seen (captures_in p)) arguments) (record { answer = answer_seen (captures_in p) a; made = map (object_seen (captures_in p)) made }) ∷ [];
        unanswered = λ o. absurd (false≢true (sym o));
        heard = λ p log. hears (captures_in p);
        asked = λ p log. goes_none _;
        agrees = λ files more g past. meant (reading form files) (answer_seen (captures_in (reading form files)) a) past;
      }

  -- it refuses
  pub ran_hook_refused : {A : Type 0} (seen' : Program → A → M.Value) (set : Program → Setting) (r : Result A Stop) (f : Fault') → r ≡ Err (Fault f) → ((names : Site → List (List ℕ)) → Goes_on w.told told (hook_told names kind arguments made (Err (Heap_stop.Fault f))))
      → Ran form true given seen' (λ p s. after (answered_hook (kind_seen kind) (map (seen (captures_in p)) arguments) s) (given_so (set p))) w r (record w { heap = heap; told = told })
  ran_hook_refused seen' set r f is hears =
      rw is (record {
        grows = extends_self _;
        later = later_self _;
        cause = refl;
        spent = spent_self _;
        happened = λ p log. Hooked (kind_seen kind) (map (seen (captures_in p)) arguments) (record { answer = Refuses (fault_of f); made = map (object_seen (captures_in p)) made }) ∷ [];
        unanswered = λ o. absurd (false≢true (sym o));
        heard = λ p log. hears (captures_in p);
        asked = λ p log. goes_none _;
        agrees = λ files more g past. record { locals = _; hooking = _; is = ap (λ o. after o (given_so (set (reading form files)))) (meant (reading form files) (Refuses (fault_of f)) past) };
      })
