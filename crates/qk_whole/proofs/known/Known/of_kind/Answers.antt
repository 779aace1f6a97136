use Rattle.std.specs.Prelude.{take, length, ◌+◌}
use Rattle.std.proofs.Common.{sym, subst, rules}
use Rattle.std.proofs.lemmas.Slice.Zip.{zip_turn, zip_end}
use Rattle.qk_whole.specs.Telling.{IsKind}
use Rattle.qk_whole.proofs.Functions_met.{one_longer, at_place, next_kept, next_left, equal_by, differ_by, all_met}
use Rattle.qk_whole.proofs.Results.{if_ok}
use Rattle.qk_whole.proofs.known.Known.of_kind.Goals as goal

pub loop-met-preserved-in_ok-push : goal.loop-met-preserved-in_ok-push
loop-met-preserved-in_ok-push c = λ found h g.
    let known = c.args.self.now in
    let turn = zip_turn c.args.all.now known.names.captures c.loop-met.yielded c.into_iter-met-iterator.result c.loop-met.met-iterator c.next.new.self c.next.result (search rules) (search rules) c.loop-met.yielded_by (c.in-Some.met, c.in-Some.captured) c.in-Some.is c.next.ensures.steps in
    let at = at_place known c.args.all.now found (length c.loop-met.yielded) c.in-Some.met.now c.in-Some.captured.now turn.0 (turn.2 c.in-Some.met.now) (turn.3 c.in-Some.captured.now) h g in
    let more = next_kept known c.args.dollar found (length c.loop-met.yielded) c.in-Some.met.now c.in-Some.captured.now at c.loop-met.functions (c.loop-met.invariant found h g) (equal_by c.in-Some.captured.now.site.dollar c.args.dollar c.if-captured-dollar.true) c.in_ok-function.field-0 c.in_ok-function.ensures.code c.in_ok-function.ensures.of in
    subst (λ n. IsKind known c.args.dollar (take n found) c.push.new.self) (sym (one_longer c.loop-met.yielded (c.in-Some.met, c.in-Some.captured))) (subst (IsKind known c.args.dollar (take (length c.loop-met.yielded + 1) found)) (sym c.in_ok-push.ensures.appended) more)

pub loop-met-preserved : goal.loop-met-preserved
loop-met-preserved c = λ found h g.
    let known = c.args.self.now in
    let turn = zip_turn c.args.all.now known.names.captures c.loop-met.yielded c.into_iter-met-iterator.result c.loop-met.met-iterator c.next.new.self c.next.result (search rules) (search rules) c.loop-met.yielded_by (c.in-Some.met, c.in-Some.captured) c.in-Some.is c.next.ensures.steps in
    let at = at_place known c.args.all.now found (length c.loop-met.yielded) c.in-Some.met.now c.in-Some.captured.now turn.0 (turn.2 c.in-Some.met.now) (turn.3 c.in-Some.captured.now) h g in
    subst (λ n. IsKind known c.args.dollar (take n found) c.loop-met.functions) (sym (one_longer c.loop-met.yielded (c.in-Some.met, c.in-Some.captured)))
    (next_left known c.args.dollar found (length c.loop-met.yielded) c.in-Some.met.now c.in-Some.captured.now at c.loop-met.functions (c.loop-met.invariant found h g) (differ_by c.in-Some.captured.now.site.dollar c.args.dollar c.if-captured-dollar.false))

pub returns : goal.returns
returns c = if_ok c.into_list.result (λ fs e found h g.
    let known = c.args.self.now in
    let ended = zip_end c.args.all.now known.names.captures c.loop-met.yielded c.into_iter-met-iterator.result c.loop-met.met-iterator c.next.new.self c.next.result (search rules) (search rules) c.loop-met.yielded_by c.in-None.is c.next.ensures.steps in
    all_met known c.args.dollar c.args.all.now found (length c.loop-met.yielded) fs ended h g (subst (IsKind known c.args.dollar (take (length c.loop-met.yielded) found)) (sym e) (c.loop-met.invariant found h g))) c.into_list.ensures
