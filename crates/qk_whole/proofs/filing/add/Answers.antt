use Rattle.std.specs.Prelude.{List, get_or}
use Rattle.std.proofs.Common.{ap, ◌∙◌}
use Rattle.qk_modules.specs.declared.modules.NamedModule.{NamedModule}
use Rattle.qk_scope.specs.declared.resolver.Names.{Names}
use Rattle.qk_whole.proofs.Files_grow.{named_at, files_more}
use Rattle.qk_whole.proofs.Results.{on_ok}
use Rattle.qk_whole.proofs.filing.add.Goals as goal

pub returns : goal.returns
returns c =
    let a = c.args.application.now in
    let r = c.index-as_slice-at-2.result in
    let m = get_or c.as_slice-2.result.now c.args.at r in
    let n = c.index-as_slice-at.result in
    let here = ap (λ (xs : List NamedModule). get_or xs c.args.at r) c.as_slice-2.ensures ∙ ap (λ (d : NamedModule). get_or a.modules.list c.args.at d) c.index-as_slice-at-2.is in
    let own = c.index-as_slice-at.is ∙ ap (λ (xs : List Names). get_or xs c.args.at n) c.as_slice.ensures ∙ named_at a c.requires.accepted c.args.at m n c.requires.within here in
    on_ok c.put.result (λ put h. files_more a c.requires.accepted c.args.at m c.requires.within here c.in_ok-file.file (c.in_ok-file.ensures m here own) c.args.files.now c.put.new.table put h) c.put.ensures
