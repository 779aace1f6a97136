-- What is called does alike.
use Rattle.std.specs.Prelude.{◌≡◌, List, Option, Some, None}
use Rattle.std.proofs.Common.{subst}
use Rattle.qk_ast.specs.declared.Known.{Known}
use Rattle.qk_meaning.specs.Value.{Text, Value, Words}
use Rattle.qk_meaning.specs.Doing.{Doing, chosen}
use Rattle.qk_meaning.specs.Running.{Running, Track, printed}
use Rattle.qk_meaning.specs.Happening.{The_track}
use Rattle.qk_meaning.specs.Ties.{Ties, Apart, Stands, undefined, words, Pairwise, no_more, one_more}
use Rattle.qk_meaning.specs.Alike.{Reach}
use Rattle.qk_alike.specs.Meanings_stand.{References_stand, of, member, local, tracker, framework_name, Callees_stand, values_called, methods_called, trackers_called, dollars_called, marks_called, hooks_called, Found_callees, no_callees, some_callees}
use Rattle.qk_meaning.specs.Worlds_stand.{Start}
use Rattle.qk_meaning.specs.Setting.{Setting}
use Rattle.qk_meaning.specs.References.{Reference}
use Rattle.qk_meaning.specs.Methods.{Method, method_of}
use Rattle.qk_meaning.specs.Calls.{Callee, member_callee, framework_callee, callee, is_qrl, called, tracked, call, known_called}
use Rattle.qk_alike.proofs.Doing_laws.{Relation, Done, Settings_stand}
use Rattle.qk_alike.proofs.Steps as S
use Rattle.qk_alike.proofs.Referred.{read_lem, value_of_lem, effects}
use Rattle.qk_alike.proofs.Changed.{enters_mode, method_called_lem, keys_listed_lem}
use Rattle.qk_alike.proofs.Hooked.{hook_called_lem}

called_alike : {t : Ties} {o o' : Option Callee} → Found_callees t o o' → Callees_stand t (framework_callee o) (framework_callee o')
called_alike no_callees = values_called undefined
called_alike (some_callees h) = h

same_words : {t : Ties} {x y : Text} → x ≡ y → Stands t (Words x) (Words y)
same_words {t} {x} {y} e = subst (λ z. Stands t (Words x) (Words z)) e words

module _ {t : Ties} {b : Start} {K : Relation} {here here' : Setting} (w : Settings_stand t b K here here') where
  open w use {laws, facts, entering}
  open w.laws use {gives, bind, heaps, prints}

  member_callee_lem : {r : Reach} {o o' k k' : Value} (m : Option Method) → Stands t o o' → Stands t k k' → K r _ _ (Callees_stand t) (member_callee here o k m) (member_callee here' o' k' m)
  member_callee_lem (Some m) p q = gives (methods_called p)
  member_callee_lem None p q = bind (read_lem w p q) (λ f g h. gives (values_called h))

  pub callee_lem : {r : Reach} {x y : Reference} → References_stand t r x y → K r _ _ (Callees_stand t) (callee here x) (callee here' y)
  callee_lem {r} (member {v = o} {w = o'} {k = k} {l = k'} p q) =
      bind heaps (λ x y hs. subst (λ m. K r _ _ (Callees_stand t) (member_callee here o k (method_of x o k)) (member_callee here' o' k' m)) (facts.methods hs p q) (member_callee_lem (method_of x o k) p q))
  callee_lem tracker = gives trackers_called
  callee_lem (framework_name h) = gives (called_alike h)
  callee_lem (of h) = bind (value_of_lem w (of h)) (λ f g k. gives (values_called k))
  callee_lem (local h) = bind (value_of_lem w (local h)) (λ f g k. gives (values_called k))

  called_lem : {r : Reach} {f g : Value} {all all' : List Value} → Stands t f g → Pairwise (Stands t) all all' → K r _ _ (Stands t) (called here f all) (called here' g all')
  called_lem h hs = S.choose laws (facts.functions h) (enters_mode w w.mode w.running h hs) (S.faults laws _)

  tracked_lem : {r : Reach} {f g : Value} → Stands t f g → K r _ _ (Stands t) (tracked here f) (tracked here' g)
  tracked_lem h = S.as_parts laws The_track (entering.enters Track w.running h no_more)

  pub call_lem : Apart t → {r : Reach} {c d : Callee} {all all' : List Value} → Callees_stand t c d → Pairwise (Stands t) all all' → K r _ _ (Stands t) (call here c all) (call here' d all')
  call_lem apart (values_called h) hs = called_lem h hs
  call_lem apart (methods_called {m = m} h) hs = method_called_lem w m h hs
  call_lem apart (hooks_called {kind = kind}) hs = hook_called_lem apart w kind hs
  call_lem apart trackers_called (one_more h no_more) = tracked_lem h
  call_lem apart dollars_called (one_more h no_more) = gives h
  call_lem apart marks_called (one_more h no_more) = S.answers laws (facts.marks h)
  call_lem apart _ _ = S.faults laws _

  printed_lem : {r : Reach} {x y : Text} → x ≡ y → K r _ _ Done (printed x) (printed y)
  printed_lem {r} {x} {y} e = subst (λ z. K r _ _ Done (printed x) (printed z)) e (prints x)

  pub known_called_lem : {r : Reach} {all all' : List Value} → (known : Known) → Pairwise (Stands t) all all' → K r _ _ (Stands t) (known_called here known all) (known_called here' known all')
  known_called_lem Known.Log (one_more h no_more) = S.choose laws (effects w) (bind (S.answers_same laws (facts.texts h)) (λ x y e. bind (printed_lem e) (λ x y d. gives undefined))) (S.faults laws _)
  known_called_lem Known.Keys (one_more h no_more) = keys_listed_lem w h
  known_called_lem Known.Str (one_more h no_more) = bind (S.answers_same laws (facts.texts h)) (λ x y e. gives (same_words e))
  known_called_lem Known.Trunc (one_more h (one_more k no_more)) = S.answers laws (facts.truncates h k)
  known_called_lem _ _ = S.faults laws _

  -- of callees that stand for one another none is `qrl`
  pub no_qrl : {r : Reach} {c d : Callee} {n n' : Doing Running Value} (m m' : Doing Running Value) → Callees_stand t c d → K r Value Value (Stands t) n n' → K r Value Value (Stands t) (chosen (is_qrl c) m n) (chosen (is_qrl d) m' n')
  no_qrl m m' (values_called h) q = q
  no_qrl m m' (methods_called h) q = q
  no_qrl m m' trackers_called q = q
  no_qrl m m' dollars_called q = q
  no_qrl m m' marks_called q = q
  no_qrl m m' hooks_called q = q
