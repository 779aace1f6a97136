-- Code that stands for code does what stands for one another: for any relation between doings that keeps the laws.
use Rattle.std.specs.Prelude.{◌≡◌, refl, [], ◌∷◌}
use Rattle.std.proofs.Common.{ap, subst}
use mathlib.Core.Path.{ap₂}
use Rattle.qk_ast.specs.declared.Expr.{Expr, Row_of-Expr, Row_of-Field, Row_of-Operand, Row_of-Link}
use Rattle.qk_ast.specs.declared.Stmt.{Stmt, Row_of-Stmt}
use Rattle.qk_ast.specs.declared.Body.{Body}
use Rattle.qk_ast.specs.Names.{declared_in}
use Rattle.qk_meaning.specs.Value.{Value}
use Rattle.qk_meaning.specs.Doing.{Outcome, Gives, Stops, after, Doing, ◌>>=◌, give}
use Rattle.qk_meaning.specs.Running.{Running}
use Rattle.qk_meaning.specs.Ties.{Ties, Apart, Stands, undefined, null, truth, int, words, Fields_stand, end_stands, field_stands, Pairwise, no_more, one_more}
use Rattle.qk_meaning.specs.Alike.{Reach}
use Rattle.qk_alike.specs.Meanings_stand.{References_stand, of, member, framework_name, Flows_stand, onward, broke, continued, returned}
use Rattle.qk_meaning.specs.Worlds_stand.{Start}
use Rattle.qk_meaning.specs.Setting.{Setting}
use Rattle.qk_meaning.specs.Making.{made, filled}
use Rattle.qk_meaning.specs.References.{Reference, Of, Framework_name, valued}
use Rattle.qk_meaning.specs.Flow.{Flow, Onward, Returned, scoped, unless_left, flow_value}
use Rattle.qk_meaning.specs.Evaluation.{refer, followed, values, hole_texts, field_values, chained, ran, all_ran, body_value}
use Rattle.qk_alike.specs.Code_stands as C
use Rattle.qk_alike.proofs.Doing_laws.{Relation, Same, Settings_stand}
use Rattle.qk_alike.proofs.Lists.{short_texts}
use Rattle.qk_alike.proofs.Steps as S
use Rattle.qk_alike.proofs.Made.{made_lem, lists_made, records_made, tag_told_lem, made_markup_lem, all_items_lem}
use Rattle.qk_alike.proofs.Referred.{named_lem, value_of_lem, valued_lem, stored_lem, removed_lem, fields_bound_lem, combines, old_values}
use Rattle.qk_alike.proofs.Called.{callee_lem, call_lem, no_qrl, known_called_lem}
use Rattle.qk_alike.proofs.Forms.{means, comes}

-- an expression that is returned gives its value
returned_value : (o : Outcome Running Value) → after (after (after o (λ v. give (Returned v))) (λ flow. unless_left flow (give Onward))) (λ flow. give (flow_value flow)) ≡ o
returned_value (Gives v s) = refl
returned_value (Stops why s) = refl

flow_values : {t : Ties} {x y : Flow} → Flows_stand t x y → Stands t (flow_value x) (flow_value y)
flow_values onward = undefined
flow_values broke = undefined
flow_values continued = undefined
flow_values (returned h) = h

module _ {t : Ties} (apart : Apart t) {b : Start} {K : Relation} {here here' : Setting} (w : Settings_stand t b K here here') where
  open w use {laws, facts}
  open w.laws use {gives, bind, assigns, scopes, peeks, repeats}

  values_come : {r : Reach} {m m' : Doing Running Reference} → K r _ _ (References_stand t r) m m' → K r _ _ (Stands t) (valued here m) (valued here' m')
  values_come p = valued_lem w p

  mutual
    pub refers : {r : Reach} {e e' : Expr} → C.Exprs_stand here.program here'.program t.sites here.file here'.file r e e' → K r _ _ (References_stand t r) (refer e here) (refer e' here')
    refers C.undefineds = gives (of undefined)
    refers C.nulls = gives (of null)
    refers C.bools = gives (of truth)
    refers C.ints = gives (of int)
    refers C.texts = gives (of words)
    refers (C.names {name = name} h k) = named_lem w name h k
    refers (C.lists all) = bind (all_values all) (λ vs ws hs. bind (lists_made w hs) (λ v v' h. gives (of h)))
    refers (C.records all) = bind (all_fields all) (λ vs ws hs. bind (records_made w hs) (λ v v' h. gives (of h)))
    refers (C.templates {parts = parts} all) = bind (all_holes all) (λ vs ws hs. bind (S.answers laws (short_texts (ap (filled parts) hs))) (λ v v' h. gives (of h)))
    refers (C.unaries {op = op} e) = bind (values_come (refers e)) (λ v v' h. bind (S.answers laws (facts.unaries op h)) (λ x y k. gives (of k)))
    refers (C.chains e all) = bind (values_come (refers e)) (λ v v' h. bind (all_operands all h) (λ x y k. gives (of k)))
    refers (C.conditionals c d e) = bind (values_come (refers c)) (λ v v' h. bind (values_come (S.choose laws (facts.truths h) (refers d) (refers e))) (λ x y k. gives (of k)))
    refers (C.posts e all) = bind (refers e) (λ x y h. all_links all h)
    refers (C.assignments {op = op} d e) =
        bind (refers d) (λ x y h. bind (old_values w op (value_of_lem w h)) (λ old old' o. bind (values_come (refers e)) (λ v v' k. bind (S.answers laws (combines w op o k)) (λ new new' n. bind (stored_lem w h n) (λ u u' d. gives (of n))))))
    refers (C.steps {up = up} e) = bind (refers e) (λ x y h. bind (value_of_lem w h) (λ old old' o. bind (S.answers laws (facts.steps up o)) (λ new new' n. bind (stored_lem w h n) (λ u u' d. gives (of o)))))
    refers (C.knowns {known = known} all) = bind (all_values all) (λ vs ws hs. bind (known_called_lem w known hs) (λ v v' h. gives (of h)))
    refers (C.functions m m' e) =
        peeks (λ f. ◌>>=◌ (made here (C.made_by m f)) (λ v. give (Of v))) (λ g. ◌>>=◌ (made here' (C.made_by m' g)) (λ v. give (Of v))) (comes here m) (comes here' m') (λ f g h. bind (made_lem w (e t.pairing f g h)) (λ v v' k. gives (of k)))
    refers (C.framework_names {a = x} {b = y} m m' e) =
        peeks (λ f. give (Framework_name x)) (λ g. give (Framework_name y)) (means here m) (means here' m') (λ f g h. gives (framework_name (e t.pairing)))
    refers (C.elements tags attributes children) = bind (bind (tag_told_lem w tags) (λ x y d. bind (all_fields attributes) (λ fs gs hs. bind (all_values children) (λ vs ws ks. made_markup_lem w tags hs ks)))) (λ v v' h. gives (of h))

    pub all_links : {r : Reach} {m m' : _} {all : Row_of-Link m} {all' : Row_of-Link m'} {x y : Reference} → C.Link_rows_stand here.program here'.program t.sites here.file here'.file r m m' all all' → References_stand t r x y →
        K r _ _ (References_stand t r) (followed all here x) (followed all' here' y)
    all_links C.no_links h = gives h
    all_links (C.prop_link rest) h = bind (value_of_lem w h) (λ v v' k. all_links rest (member k words))
    all_links (C.index_link e rest) h = bind (value_of_lem w h) (λ v v' k. bind (values_come (refers e)) (λ x y l. all_links rest (member k l)))
    all_links (C.call_link all rest) h = bind (callee_lem w h) (λ c d k. bind (no_qrl w _ _ k (bind (all_values all) (λ vs ws hs. call_lem w apart k hs))) (λ v v' l. all_links rest (of l)))

    pub all_values : {r : Reach} {m m' : _} {all : Row_of-Expr m} {all' : Row_of-Expr m'} → C.Rows_stand here.program here'.program t.sites here.file here'.file r m m' all all' → K r _ _ (Pairwise (Stands t)) (values all here) (values all' here')
    all_values C.no_exprs = gives no_more
    all_values (C.one_expr e rest) = bind (values_come (refers e)) (λ v v' h. bind (all_values rest) (λ vs ws hs. gives (one_more h hs)))

    pub all_holes : {r : Reach} {m m' : _} {all : Row_of-Expr m} {all' : Row_of-Expr m'} → C.Rows_stand here.program here'.program t.sites here.file here'.file r m m' all all' → K r _ _ Same (hole_texts all here) (hole_texts all' here')
    all_holes C.no_exprs = gives refl
    all_holes (C.one_expr e rest) = bind (values_come (refers e)) (λ v v' h. bind (S.answers_same laws (facts.texts h)) (λ x y k. bind (all_holes rest) (λ vs ws hs. gives (ap₂ (λ x xs. x ∷ xs) k hs))))

    pub all_fields : {r : Reach} {m m' : _} {all : Row_of-Field m} {all' : Row_of-Field m'} → C.Field_rows_stand here.program here'.program t.sites here.file here'.file r m m' all all' → K r _ _ (Fields_stand t) (field_values all here) (field_values all' here')
    all_fields C.no_fields = gives end_stands
    all_fields (C.one_field e rest) = bind (values_come (refers e)) (λ v v' h. bind (all_fields rest) (λ fs gs hs. gives (field_stands h hs)))

    pub all_operands : {r : Reach} {m m' : _} {all : Row_of-Operand m} {all' : Row_of-Operand m'} {v v' : Value} → C.Operand_rows_stand here.program here'.program t.sites here.file here'.file r m m' all all' → Stands t v v' → K r _ _ (Stands t) (chained all here v) (chained all' here' v')
    all_operands C.no_operands h = gives h
    all_operands (C.one_operand {op = op} e rest) h = bind (S.choose laws (facts.decided op h) (gives h) (bind (values_come (refers e)) (λ x y k. S.answers laws (facts.binaries op h k)))) (λ x y k. all_operands rest k)

    pub runs : {r : Reach} {e e' : Stmt} → C.Stmts_stand here.program here'.program t.sites here.file here'.file r e e' → K r _ _ (Flows_stand t) (ran e here) (ran e' here')
    runs (C.const_names {name = name} e) = bind (values_come (refers e)) (λ v v' h. bind (assigns name h) (λ x y d. gives onward))
    runs (C.const_fields {all = all} e) = bind (values_come (refers e)) (λ v v' h. bind (fields_bound_lem w all h) (λ x y d. gives onward))
    runs C.const_scopes = gives onward
    runs (C.lets {name = name} e) = bind (values_come (refers e)) (λ v v' h. bind (assigns name h) (λ x y d. gives onward))
    runs (C.dos e) = bind (values_come (refers e)) (λ v v' h. gives onward)
    runs (C.deletes e) = bind (refers e) (λ x y h. bind (removed_lem w h) (λ x y d. gives onward))
    runs C.returns = gives (returned undefined)
    runs (C.returns_of e) = bind (values_come (refers e)) (λ v v' h. gives (returned h))
    runs (C.ifs e then otherwise) = bind (values_come (refers e)) (λ v v' h. S.choose laws (facts.truths h) (block_runs then) (block_runs otherwise))
    runs (C.whiles e all) = repeats (values_come (refers e)) (block_runs all)
    runs (C.fors {name = name} e all) =
        bind (values_come (refers e)) (λ v v' h. bind (all_items_lem w h) (λ vs ws hs. S.repeated_fors laws (λ x y k. scopes (name ∷ []) (bind (assigns name k) (λ x y d. block_runs all))) hs))
    runs C.breaks = gives broke
    runs C.continues = gives continued
    runs (C.blocks all) = block_runs all

    pub block_runs : {r : Reach} {m m' : _} {all : Row_of-Stmt m} {all' : Row_of-Stmt m'} → C.Blocks_stand here.program here'.program t.sites here.file here'.file r m m' all all' →
        K r _ _ (Flows_stand t) (scoped (declared_in all) (all_ran all here)) (scoped (declared_in all') (all_ran all' here'))
    block_runs {r} (C.a_block {all = all} {all' = all'} e k) =
        subst (λ names. K r _ _ (Flows_stand t) (scoped (declared_in all) (all_ran all here)) (scoped names (all_ran all' here'))) e (scopes (declared_in all) (all_run k))

    pub all_run : {r : Reach} {m m' : _} {all : Row_of-Stmt m} {all' : Row_of-Stmt m'} → C.Stmt_rows_stand here.program here'.program t.sites here.file here'.file r m m' all all' → K r _ _ (Flows_stand t) (all_ran all here) (all_ran all' here')
    all_run C.no_stmts = gives onward
    all_run (C.one_stmt e rest) = bind (runs e) (λ x y h. S.unless_lefts laws h (all_run rest))

  returns : {r : Reach} (e e' : Expr) → K r _ _ (References_stand t r) (refer e here) (refer e' here') →
      K r _ _ (Stands t) (valued here (refer e here)) (λ u. after (after (after (valued here' (refer e' here') u) (λ v. give (Returned v))) (λ flow. unless_left flow (give Onward))) (λ flow. give (flow_value flow)))
  returns e e' h =
      peeks (λ f. valued here (refer e here)) (λ g. valued here' (refer e' here')) (λ u f. refl) (λ u f. returned_value (valued here' (refer e' here') u)) (λ f g k. values_come h)

  own_run : {r : Reach} {m m' : _} {all : Row_of-Stmt m} {all' : Row_of-Stmt m'} → C.Own_rows_stand here.program here'.program t.sites here.file here'.file r m m' all all' → K r _ _ (Flows_stand t) (all_ran all here) (all_ran all' here')
  own_run (C.both_rows all) = all_run all
  own_run (C.scope_row all) = all_run all

  returned_run : {r : Reach} {e : Expr} {m : _} {all : Row_of-Stmt m} → C.Returns_stand here.program here'.program t.sites here.file here'.file r e m all →
      K r _ _ (Stands t) (valued here (refer e here)) (λ u. after (all_ran all here' u) (λ flow. give (flow_value flow)))
  returned_run (C.return_row {e = e} {e' = e'} h) = returns e e' (refers h)
  returned_run (C.scope_return_row {e = e} {e' = e'} h) = returns e e' (refers h)

  pub bodies : {r : Reach} {e e' : Body} → C.Bodies_stand here.program here'.program t.sites here.file here'.file r e e' → K r _ _ (Stands t) (body_value e here) (body_value e' here')
  bodies (C.value_bodies e) = values_come (refers e)
  bodies (C.block_bodies all) = bind (own_run all) (λ x y h. gives (flow_values h))
  bodies (C.returned_bodies all) = returned_run all
