use Rattle.std.proofs.Common.{rules, ◌≡◌, refl, sym, ap, subst, ◌∙◌, List, [], ◌∷◌, ◌++◌, Some, None, Ok, Err, Result, ◌⊎◌}
use Rattle.std.specs.Option.{option_map}
use Rattle.qk_modules.specs.declared.modules.NamedModule.{NamedModule}
use Rattle.qk_modules.specs.declared.modules.Modules.{Modules}
use Rattle.qk_modules.specs.declared.fault.GatherFault.{GatherFault}
use Rattle.qk_modules.specs.declared.fault.GatherFault.TheVariants.{Store, Memory}
use Rattle.qk_modules.specs.Gathering.{source_of, root, first_missing}
use Rattle.qk_modules.specs.Listing.{with_imports}
use Rattle.qk_modules.specs.Exporting.{unexported}
use Rattle.qk_modules.proofs.Gatherings.{none_read, turn_refused, turn_taken, gathers_want, gathers_all, gathers_unexported, as_told, next_there, none_there, turn_as_told}
use Rattle.qk_modules.proofs.gatherer.gather.Goals as goal

not_failed : (m : NamedModule) → Ok m ≡ Err Store → ⊥
not_failed m h = cc

-- the answer of this list
abbrev whole : List NamedModule → Result Modules GatherFault
whole l = Ok (record { list = l })

pub returns-in_err-listing-clause-gathers : goal.returns-in_err-listing-clause-gathers
returns-in_err-listing-clause-gathers g c =
    let e : c.from_residual.result ≡ Err Memory = search rules in
    gathers_want (g.S.Store.files c.args.store.now) (g.S.Store.answers c.args.store.now) (g.S.Store.answers c.args.store.now) [] (source_of root ∷ []) (none_read (g.S.Store.files c.args.store.now) (g.S.Store.answers c.args.store.now)) c.from_residual.result e

pub loop-source-init : goal.loop-source-init
loop-source-init g c = record {
  gathering = as_told (g.S.Store.files c.args.store.now) (g.S.Store.answers c.args.store.now) (g.S.Store.answers c.args.store.now) [] _ (source_of root ∷ []) _ c.new-modules.ensures c.in_ok-listing.ensures (none_read (g.S.Store.files c.args.store.now) (g.S.Store.answers c.args.store.now));
  files = refl;
  faults = refl;
}

pub returns-in_err-module-clause-gathers : goal.returns-in_err-module-clause-gathers
returns-in_err-module-clause-gathers g c =
    let e : c.from_residual-in_err-module.result ≡ Err c.in_err-module.field-0.0 = search rules in
    turn_refused (g.S.Store.files c.args.store.now) (g.S.Store.answers c.args.store.now) (g.S.Store.answers c.loop-source.store) (g.S.Store.answers c.take_turn.new.store) c.loop-source.modules c.loop-source.listing c.in-Some.source.now
    c.loop-source.invariant.gathering (next_there _ _ _ _ c.len.ensures c.in-Some.ensures) c.in_err-module.field-0.0 c.from_residual-in_err-module.result e
    (turn_as_told _ (g.S.Store.files c.args.store.now) _ _ _ _ _ (Err c.in_err-module.field-0.0) c.loop-source.invariant.files c.as_slice.ensures c.in_err-module.ensures.turns)

pub returns-in_err-listing-2-clause-gathers : goal.returns-in_err-listing-2-clause-gathers
returns-in_err-listing-2-clause-gathers g c =
    let e : c.from_residual-in_err-listing-2.result ≡ Err Memory = search rules in
    gathers_want (g.S.Store.files c.args.store.now) (g.S.Store.answers c.args.store.now) (g.S.Store.answers c.take_turn.new.store) (c.loop-source.modules ++ c.in_ok-module.module ∷ []) (with_imports c.loop-source.listing c.in_ok-module.module.module.imports)
    (turn_taken (g.S.Store.files c.args.store.now) (g.S.Store.answers c.args.store.now) (g.S.Store.answers c.loop-source.store) (g.S.Store.answers c.take_turn.new.store) c.loop-source.modules c.loop-source.listing c.in-Some.source.now
    c.loop-source.invariant.gathering (next_there _ _ _ _ c.len.ensures c.in-Some.ensures) c.in_ok-module.module
    (turn_as_told _ (g.S.Store.files c.args.store.now) _ _ _ _ _ (Ok c.in_ok-module.module) c.loop-source.invariant.files c.as_slice.ensures c.in_ok-module.ensures.turns)) c.from_residual-in_err-listing-2.result e

pub loop-source-preserved : goal.loop-source-preserved
loop-source-preserved g c = record {
  gathering = as_told (g.S.Store.files c.args.store.now) (g.S.Store.answers c.args.store.now) (g.S.Store.answers c.take_turn.new.store) (c.loop-source.modules ++ c.in_ok-module.module ∷ []) _ (with_imports c.loop-source.listing c.in_ok-module.module.module.imports) _
      c.in_ok-push.ensures.appended (c.in_ok-listing-2.ensures ∙ ap (with_imports c.loop-source.listing) c.as_slice-in-Some.ensures)
      (turn_taken (g.S.Store.files c.args.store.now) (g.S.Store.answers c.args.store.now) (g.S.Store.answers c.loop-source.store) (g.S.Store.answers c.take_turn.new.store) c.loop-source.modules c.loop-source.listing c.in-Some.source.now
      c.loop-source.invariant.gathering (next_there _ _ _ _ c.len.ensures c.in-Some.ensures) c.in_ok-module.module
      (turn_as_told _ (g.S.Store.files c.args.store.now) _ _ _ _ _ (Ok c.in_ok-module.module) c.loop-source.invariant.files c.as_slice.ensures c.in_ok-module.ensures.turns));
  files = c.take_turn.ensures.files ∙ c.loop-source.invariant.files;
  faults = c.in_ok-module.ensures.cause.kept (not_failed c.in_ok-module.module) ∙ c.loop-source.invariant.faults;
}

pub returns-in_err-push-clause-gathers : goal.returns-in_err-push-clause-gathers
returns-in_err-push-clause-gathers g c =
    let e : c.from_residual-in_err-push.result ≡ Err Memory = search rules in
    gathers_want (g.S.Store.files c.args.store.now) (g.S.Store.answers c.args.store.now) (g.S.Store.answers c.take_turn.new.store) (c.loop-source.modules ++ c.in_ok-module.module ∷ []) (with_imports c.loop-source.listing c.in_ok-module.module.module.imports)
    (turn_taken (g.S.Store.files c.args.store.now) (g.S.Store.answers c.args.store.now) (g.S.Store.answers c.loop-source.store) (g.S.Store.answers c.take_turn.new.store) c.loop-source.modules c.loop-source.listing c.in-Some.source.now
    c.loop-source.invariant.gathering (next_there _ _ _ _ c.len.ensures c.in-Some.ensures) c.in_ok-module.module
    (turn_as_told _ (g.S.Store.files c.args.store.now) _ _ _ _ _ (Ok c.in_ok-module.module) c.loop-source.invariant.files c.as_slice.ensures c.in_ok-module.ensures.turns)) c.from_residual-in_err-push.result e

pub returns-in_err-check_exports-clause-gathers : goal.returns-in_err-check_exports-clause-gathers
returns-in_err-check_exports-clause-gathers g c =
    let e : c.from_residual-in_err-check_exports.result ≡ Err c.in_err-check_exports.field-0.0 = search rules in
    gathers_unexported (g.S.Store.files c.args.store.now) (g.S.Store.answers c.args.store.now) (g.S.Store.answers c.loop-source.store) c.loop-source.modules c.loop-source.listing c.loop-source.invariant.gathering
    (none_there _ _ _ c.len.ensures c.in_default.ensures) c.in_err-check_exports.field-0.0 c.from_residual-in_err-check_exports.result e
    (subst (λ (l : List NamedModule). (option_map unexported (first_missing l) ≡ Some c.in_err-check_exports.field-0.0) ⊎ (c.in_err-check_exports.field-0.0 ≡ Memory)) c.as_slice-2.ensures c.in_err-check_exports.ensures.err)

pub returns-in_err-into_list-clause-gathers : goal.returns-in_err-into_list-clause-gathers
returns-in_err-into_list-clause-gathers g c =
    let e : c.from_residual-in_err-into_list.result ≡ Err Memory = search rules in
    gathers_want (g.S.Store.files c.args.store.now) (g.S.Store.answers c.args.store.now) (g.S.Store.answers c.loop-source.store) c.loop-source.modules c.loop-source.listing c.loop-source.invariant.gathering c.from_residual-in_err-into_list.result e

pub returns-clause-gathers : goal.returns-clause-gathers
returns-clause-gathers g c =
    gathers_all (g.S.Store.files c.args.store.now) (g.S.Store.answers c.args.store.now) (g.S.Store.answers c.loop-source.store) c.loop-source.modules c.loop-source.listing c.loop-source.invariant.gathering
    (none_there _ _ _ c.len.ensures c.in_default.ensures) _ (ap whole c.in_ok-into_list.ensures)
    (subst (λ (l : List NamedModule). first_missing l ≡ None) c.as_slice-2.ensures c.in_ok-check_exports.ensures.ok)
