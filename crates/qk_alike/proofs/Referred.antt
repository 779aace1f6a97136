-- What expressions stand for is read, written, deleted and bound alike.
use Rattle.std.specs.Prelude.{◌≡◌, ℕ, Bool, true, false, ◌&&◌, List, [], ◌∷◌, codes}
use Rattle.std.proofs.Common.{sym, ap, subst}
use Rattle.qk_ast.specs.declared.Pattern.{Pattern}
use Rattle.qk_ast.specs.declared.AssignOp.{AssignOp}
use Rattle.qk_ast.specs.declared.Bin.{Bin}
use Rattle.qk_ast.specs.Texts.{same_text}
use Rattle.qk_meaning.specs.Value.{Text, Value, Fields}
use Rattle.qk_meaning.specs.Parts.{has_field}
use Rattle.qk_meaning.specs.World.{Object}
use Rattle.qk_meaning.specs.Fault.{Fault}
use Rattle.qk_meaning.specs.Heap.{Member_read}
use Rattle.qk_meaning.specs.Writing.{Becoming, in_the_way, address_of}
use Rattle.qk_meaning.specs.Changes.{changed_in, located}
use Rattle.qk_meaning.specs.Program.{Root}
use Rattle.qk_meaning.specs.Doing.{Doing, ◌>>=◌, give, chosen, fault}
use Rattle.qk_meaning.specs.Running.{Running, unless_fault, becomes_so}
use Rattle.qk_meaning.specs.Ties.{Ties, Paired, Stands, undefined, null, truth, int, words, ref, items, fields, elem, closure, by_symbol, lifted, Pairwise, Object_stands, Loc_stands}
use Rattle.qk_meaning.specs.Alike.{Reach, is_reached, is_local, Locals_stand, both_act, both_used}
use Rattle.qk_meaning.specs.Worlds_stand.{Heaps_stand, Start}
use Rattle.qk_alike.specs.Meanings_stand.{Roots_stand, framework, holds, shows, unknown, References_stand, of, member, local, tracker, framework_name, Both_answer, is, Reads_stand, both_found, both_run, not_there, Becomings_stand, both_become, both_stay}
use Rattle.qk_meaning.specs.Setting.{Setting, captures, is_effect}
use Rattle.qk_meaning.specs.References.{Reference, Member, Local, root_reference, use_told, outer_named, named, computed_value, member_value, read, value_of, valued, changed, written_as, written_to, stored, member_removed, removed, old_value, combined, fields_bound, all_bound}
use Rattle.qk_alike.proofs.Doing_laws.{Relation, Done, done, Settings_stand}
use Rattle.qk_alike.proofs.Lists.{Refs, refs, nths, drops, located_all}
use Rattle.qk_alike.proofs.Scopes.{reached, held, there_alike}
use Rattle.qk_alike.proofs.Steps as S

module _ {t : Ties} {b : Start} {K : Relation} {here here' : Setting} (w : Settings_stand t b K here here') where
  open w use {laws, facts}
  open w.laws use {gives, bind, heaps, scope_names, local_values, reads, notes, replaces, logs, assigns}

  -- ---- changes

  becomes_lem : {r : Reach} {x y : ℕ} {old old' : Object} {o o' : Becoming} → Paired t.pairing x y → Object_stands t old old' → Becomings_stand t o o' →
      K r _ _ Done (becomes_so x (λ old new. located x (changed_in (captures here) old new)) old o) (becomes_so y (λ old new. located y (changed_in (captures here') old new)) old' o')
  becomes_lem {x = x} {y = y} {old = old} xy h (both_become {x = new} k) =
      bind (replaces xy k) (λ u v d. logs (subst (λ ks. Pairwise (Loc_stands t) (located x (changed_in (captures here) old new)) (located y ks)) (facts.changes h k) (located_all xy _)))
  becomes_lem xy h both_stay = S.faults laws _

  -- what a change makes of objects that stand for one another
  pub record Changes_stand (change change' : Object → Becoming) : Type 0 where
    pub makes : {o o' : Object} → Object_stands t o o' → Becomings_stand t (change o) (change' o')

  pub changed_lem : {r : Reach} {x y : ℕ} {f f' : Object → Becoming} → Paired t.pairing x y → Changes_stand f f' → K r _ _ Done (changed here x f) (changed here' y f')
  changed_lem {x = x} {y = y} xy c = bind (notes (both_act xy)) (λ u v d. bind heaps (λ h h' hs. becomes_lem xy (hs.there x y xy) (c.makes (hs.there x y xy))))

  blocked : {r : Reach} {A B C D : Type 0} {R : C → D → Type 0} (f : Fault) (g : A → Doing Running C) (g' : B → Doing Running D) → K r C D R (◌>>=◌ (fault f) g) (◌>>=◌ (fault f) g')
  blocked f g g' = S.faults laws f

  pub guards : {r : Reach} {A B : Type 0} {R : A → B → Type 0} {h h' : List Object} {v v' : Value} {m : Doing Running A} {m' : Doing Running B} (effect : Bool) → Heaps_stand t h h' → Stands t v v' → (Refs t v v' → K r A B R m m') →
      K r A B R (◌>>=◌ (unless_fault (in_the_way effect h v)) (λ u. m)) (◌>>=◌ (unless_fault (in_the_way effect h' v')) (λ u. m'))
  guards e hs (ref k) p = bind (S.unless_same laws (facts.ways e hs k)) (λ x y d. p (refs k))
  guards e hs undefined p = S.faults laws _
  guards e hs null p = S.faults laws _
  guards e hs truth p = S.faults laws _
  guards e hs int p = S.faults laws _
  guards e hs words p = S.faults laws _
  guards e hs (items k) p = S.faults laws _
  guards e hs (fields k) p = S.faults laws _
  guards e hs (elem s f k) p = S.faults laws _
  guards e hs (closure l m n k) p = S.faults laws _
  guards e hs (by_symbol l m k) p = S.faults laws _
  guards e hs (lifted l m k) p = S.faults laws _

  pub effects : is_effect here.mode ≡ is_effect here'.mode
  effects = ap is_effect w.mode

  pub changed_ref : {r : Reach} {v v' : Value} {f f' : Object → Becoming} → Refs t v v' → Changes_stand f f' → K r _ _ Done (changed here (address_of v) f) (changed here' (address_of v') f')
  changed_ref (refs xy) c = changed_lem xy c

  written_to_lem : {r : Reach} {o o' k k' v v' : Value} → Stands t o o' → Stands t k k' → Stands t v v' → K r _ _ Done (written_to here o k v) (written_to here' o' k' v')
  written_to_lem {r} {o} {o'} {k} {k'} {v} {v'} p q u =
      subst (λ e. K r _ _ Done (written_to here o k v) (written_as here' e o' k' v')) effects (bind heaps (λ x y hs. guards (is_effect here.mode) hs p (λ xy. changed_ref xy (record { makes = λ h. facts.writes h q u }))))

  pub removed_lem : {r : Reach} {x y : Reference} → References_stand t r x y → K r _ _ Done (removed here x) (removed here' y)
  removed_lem {r} (member {v = v} {w = v'} {k = k} {l = k'} p q) =
      subst (λ e. K r _ _ Done (removed here (Member v k)) (member_removed here' e v' k')) effects (bind heaps (λ x y hs. guards (is_effect here.mode) hs p (λ xy. changed_ref xy (record { makes = λ h. facts.deletes h q }))))
  removed_lem (of h) = gives done
  removed_lem (local h) = gives done
  removed_lem tracker = gives done
  removed_lem (framework_name h) = gives done

  pub stored_lem : {r : Reach} {x y : Reference} {v v' : Value} → References_stand t r x y → Stands t v v' → K r _ _ Done (stored here x v) (stored here' y v')
  stored_lem (member p q) h = written_to_lem p q h
  stored_lem (local {name = name} k) h = assigns name h
  stored_lem (of k) h = gives done
  stored_lem tracker h = gives done
  stored_lem (framework_name k) h = gives done

  -- ---- names

  root_references : {r : Reach} {x y : Root} → Roots_stand t.sites x y → References_stand t r (root_reference x) (root_reference y)
  root_references (framework h) = framework_name (h t.pairing)
  root_references (holds h) = of (h t.pairing)
  root_references (shows h) = of undefined
  root_references unknown = of undefined

  uses_told : {r : Reach} (name : Text) {x y : Root} → Roots_stand t.sites x y → K r _ _ Done (use_told here name x) (use_told here' name y)
  uses_told name (framework h) = gives done
  uses_told name (holds h) = notes both_used
  uses_told name (shows h) = notes both_used
  uses_told name unknown = notes both_used

  outer_lem : {r : Reach} (name : Text) → Roots_stand t.sites (here.program.root here.file name) (here'.program.root here'.file name) → K r _ _ (References_stand t r) (outer_named here name) (outer_named here' name)
  outer_lem name h = S.choose laws (ap (λ c. c && same_text name (codes "track")) w.tracks) (gives tracker) (bind (uses_told name h) (λ x y d. gives (root_references h)))

  pub named_lem : {r : Reach} (name : Text) → is_reached r name ≡ true → (is_local r name ≡ false → Roots_stand t.sites (here.program.root here.file name) (here'.program.root here'.file name)) →
      K r _ _ (References_stand t r) (named here name) (named here' name)
  named_lem {r} name h k = bind scope_names (λ f g l. by f g l)
    where
      by : (f g : Fields) → Locals_stand t r.free r.captured r.own f g → K r _ _ (References_stand t r) (chosen (has_field name f) (give (Local name)) (outer_named here name)) (chosen (has_field name g) (give (Local name)) (outer_named here' name))
      by f g l = subst (λ c. K r _ _ (References_stand t r) (chosen (has_field name f) (give (Local name)) (outer_named here name)) (chosen c (give (Local name)) (outer_named here' name))) (there_alike name f g (reached name l h))
          (go (has_field name f) (held name l h))
        where
          go : (c : Bool) → c ≡ is_local r name → K r _ _ (References_stand t r) (chosen c (give (Local name)) (outer_named here name)) (chosen c (give (Local name)) (outer_named here' name))
          go true e = gives (local h)
          go false e = outer_lem name (k (sym e))

  -- ---- reading

  computed_value_lem : {r : Reach} {x y : ℕ} {f g : Value} → Paired t.pairing x y → Stands t f g → K r _ _ (Stands t) (computed_value here x f) (computed_value here' y g)
  computed_value_lem xy h = S.choose laws (facts.under_way xy w.running) (S.faults laws _) (w.computeds xy h)

  member_value_lem : {r : Reach} {x y : Member_read} → Reads_stand t x y → K r _ _ (Stands t) (member_value here x) (member_value here' y)
  member_value_lem (both_found h l) = bind (reads l) (λ x y d. gives h)
  member_value_lem (both_run xy h) = computed_value_lem xy h
  member_value_lem not_there = S.faults laws _

  pub read_lem : {r : Reach} {o o' k k' : Value} → Stands t o o' → Stands t k k' → K r _ _ (Stands t) (read here o k) (read here' o' k')
  read_lem p q = bind heaps (λ x y hs. member_value_lem (facts.members hs p q))

  pub value_of_lem : {r : Reach} {x y : Reference} → References_stand t r x y → K r _ _ (Stands t) (value_of here x) (value_of here' y)
  value_of_lem (of h) = gives h
  value_of_lem (member p q) = read_lem p q
  value_of_lem (local {name = name} h) = local_values name h
  value_of_lem tracker = gives undefined
  value_of_lem (framework_name h) = gives undefined

  pub valued_lem : {r : Reach} {m m' : Doing Running Reference} → K r _ _ (References_stand t r) m m' → K r _ _ (Stands t) (valued here m) (valued here' m')
  valued_lem p = bind p (λ x y h. value_of_lem h)

  -- ---- binding

  pub fields_bound_lem : {r : Reach} {v v' : Value} → (all : List Text) → Stands t v v' → K r _ _ Done (fields_bound here all v) (fields_bound here' all v')
  fields_bound_lem [] h = gives done
  fields_bound_lem (name ∷ rest) h = bind (read_lem h words) (λ v v' k. bind (assigns name k) (λ x y d. fields_bound_lem rest h))

  pub all_bound_lem : {r : Reach} {vs vs' : List Value} → (all : List Pattern) → Pairwise (Stands t) vs vs' → K r _ _ Done (all_bound here all vs) (all_bound here' all vs')
  all_bound_lem [] h = gives done
  all_bound_lem (Pattern.Name name ∷ rest) h = bind (assigns name (nths 0 h)) (λ x y d. all_bound_lem rest (drops 1 h))
  all_bound_lem (Pattern.Fields names ∷ rest) h = bind (fields_bound_lem names (nths 0 h)) (λ x y d. all_bound_lem rest (drops 1 h))
  all_bound_lem (Pattern.Scope names ∷ rest) h = all_bound_lem rest (drops 1 h)

  -- ---- assignments

  pub combines : (op : AssignOp) {v v' u u' : Value} → Stands t v v' → Stands t u u' → Both_answer (Stands t) (combined op v u) (combined op v' u')
  combines AssignOp.Set h k = is k
  combines AssignOp.Add h k = facts.binaries Bin.Add h k
  combines AssignOp.Sub h k = facts.binaries Bin.Sub h k
  combines AssignOp.Mul h k = facts.binaries Bin.Mul h k

  pub old_values : {r : Reach} {m m' : Doing Running Value} → (op : AssignOp) → K r _ _ (Stands t) m m' → K r _ _ (Stands t) (old_value op m) (old_value op m')
  old_values AssignOp.Set p = gives undefined
  old_values AssignOp.Add p = p
  old_values AssignOp.Sub p = p
  old_values AssignOp.Mul p = p
