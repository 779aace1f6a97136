-- A text spells one list of items.
use Rattle.std.proofs.Common.{◌≡◌, true, List, [], ◌∷◌, ◌++◌, refl, ap, sym, ◌∙◌, Some, None}
use Rattle.std.specs.Prelude.{codes}
use Rattle.std.proofs.lemmas.Bool.{false≢true}
use Rattle.qk_meaning.specs.Value.{Text}
use Rattle.qk_meaning.specs.Item.{Event}
use Rattle.qk_meaning.specs.Run.{Line, Happens, Pauses}
use Rattle.qk_script.specs.Script.{lines_of, is_kind, value_spelling, AreItems, skipped, spelled, OneScript, spelling, IsItem}
use Rattle.qk_script.proofs.Cuts.{left}
use Rattle.qk_script.proofs.Events.{one_word, kind_no_space}

none_some : (v : Text) → None ≡ Some v → ⊥
none_some v e = cc

some_same : (a b : Text) → Some a ≡ Some b → a ≡ b
some_same a b e = cc

not_both : (e : Event) → IsItem (Happens e) → codes "pause" ≡ spelling (Happens e) → ⊥
not_both e item h = none_some _ (one_word (codes "pause") e.kind None (Some (e.id ++ value_spelling e.value)) refl (kind_no_space e.kind item.0) h).1

same_event : (e f : Event) → e.kind ≡ f.kind → e.id ≡ f.id → e.value ≡ f.value → Happens e ≡ Happens f
same_event e f k i v =
    ap (λ x. Happens (record { kind = x; id = e.id; value = e.value })) k ∙ ap (λ x. Happens (record { kind = f.kind; id = x; value = e.value })) i ∙ ap (λ x. Happens (record { kind = f.kind; id = f.id; value = x })) v

one_event : (e f : Event) → IsItem (Happens e) → IsItem (Happens f) → spelling (Happens e) ≡ spelling (Happens f) → Happens e ≡ Happens f
one_event e f he hf h =
    let first = one_word e.kind f.kind (Some (e.id ++ value_spelling e.value)) (Some (f.id ++ value_spelling f.value)) (kind_no_space e.kind he.0) (kind_no_space f.kind hf.0) h in
    let second = one_word e.id f.id e.value f.value (left _ _ he.1) (left _ _ hf.1) (some_same _ _ first.1) in
    same_event e f first.0 second.0 second.1

one_item : (i j : Line) → IsItem i → IsItem j → spelling i ≡ spelling j → i ≡ j
one_item Pauses Pauses hi hj h = refl
one_item Pauses (Happens f) hi hj h = absurd (not_both f hj h)
one_item (Happens e) Pauses hi hj h = absurd (not_both e hi (sym h))
one_item (Happens e) (Happens f) hi hj h = one_event e f hi hj h

no_kind : (kind rest : Text) → is_kind kind ≡ true → [] ≡ kind ++ rest → ⊥
no_kind [] rest h e = false≢true h
no_kind (k ∷ kind) rest h e = cc

not_empty : (i : Line) → IsItem i → [] ≡ spelling i → ⊥
not_empty Pauses h e = cc
not_empty (Happens e) h s = no_kind e.kind _ h.0 s

one_list : (lines : List Text) (a b : List Line) → AreItems lines a → AreItems lines b → a ≡ b
one_list [] [] [] x y = refl
one_list [] [] (j ∷ b) x y = elim y [ ]
one_list [] (i ∷ a) b x y = elim x [ ]
one_list (line ∷ lines) a b (skipped e x) (skipped f y) = one_list lines a b x y
one_list (line ∷ lines) a (j ∷ b) (skipped e x) (spelled s y) = absurd (not_empty j s.0 (sym e ∙ s.1))
one_list (line ∷ lines) (i ∷ a) b (spelled s x) (skipped f y) = absurd (not_empty i s.0 (sym f ∙ s.1))
one_list (line ∷ lines) (i ∷ a) (j ∷ b) (spelled s x) (spelled t y) = ap (λ k. k ∷ a) (one_item i j s.0 t.0 (sym s.1 ∙ t.1)) ∙ ap (λ l. j ∷ l) (one_list lines a b x y)

pub one_text : OneScript
one_text text items others x y = one_list (lines_of text) items others x y
