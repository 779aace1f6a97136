use Rattle.std.proofs.Common.{arith}
use Rattle.std.specs.declared.convert.Infallible.{Infallible}
use Rattle.qk_meaning.specs.Expansion.{no_nodes}
use Rattle.qk_meaning.specs.Laws.{Each_first}
use Rattle.qk_tree.specs.Settled.{Shows}
use Rattle.qk_tree.proofs.Coming.{a_fault_comes, no_view_comes, too_many_come}
use Rattle.qk_tree.proofs.settled.expand.Goals as goal

pub returns-in-Ok : goal.returns-in-Ok
returns-in-Ok c = λ names all shows each.
    let did = (c.in-Ok.ensures (names, all) tt).1 tt (shows, each) in
    (did.0.is, omega (arith, did.1))

pub returns-in-Err-Fault : goal.returns-in-Err-Fault
returns-in-Err-Fault c = λ names all shows each.
    a_fault_comes names _ (λ s. Shows names c.expand_app.new.visit.views.now all × Each_first all all) (λ (why : Infallible) s. ⊥) 65536 no_nodes c.expand_app.new.room c.in-Err-Fault.field-0 c.in-Err-Fault.fault c.in-Err-Fault.field-0-is ((c.in-Err-Fault.ensures (names, all) tt).1 tt (shows, each))

pub returns-in-Err-Ended : goal.returns-in-Err-Ended
returns-in-Err-Ended c = λ names all shows each.
    no_view_comes names _ (λ s. Shows names c.expand_app.new.visit.views.now all × Each_first all all) (λ (why : Infallible) s. ⊥) 65536 no_nodes c.expand_app.new.room c.in-Err-Ended.field-0 c.in-Err-Ended.field-0-is ((c.in-Err-Ended.ensures (names, all) tt).1 tt (shows, each))

pub returns-in-Err-TooMany : goal.returns-in-Err-TooMany
returns-in-Err-TooMany c = λ names all shows each.
    too_many_come names _ (λ s. Shows names c.expand_app.new.visit.views.now all × Each_first all all) (λ (why : Infallible) s. ⊥) 65536 no_nodes c.expand_app.new.room c.in-Err-TooMany.field-0 c.in-Err-TooMany.field-0-is ((c.in-Err-TooMany.ensures (names, all) tt).1 tt (shows, each))
