use Rattle.std.proofs.Common.{[], sym, ap, ◌∙◌}
use Rattle.qk_ast.specs.Mentions.{import_names}
use Rattle.qk_ast.specs.Walking.{with_names}
use Rattle.qk_ast.proofs.NameSets.{with_both}
use Rattle.qk_scope.specs.RootNames.{own_names}
use Rattle.qk_scope.proofs.roots.root_names.Goals as goal

pub returns : goal.returns
returns c = let own = own_names c.args.form c.args.file.now c.args.m.now.items in
    c.in_ok-add_own.ensures ∙ ap (λ items. with_names c.add_imported.new.names (own_names c.args.form c.args.file.now items)) c.as_slice-2.ensures
    ∙ ap (λ names. with_names names own) (c.in_ok-add_imported.ensures ∙ ap (λ all. with_names c.new-names.result (import_names all)) c.as_slice.ensures ∙ ap (λ none. with_names none (import_names c.args.m.now.imports)) c.new-names.ensures)
    ∙ sym (with_both [] (import_names c.args.m.now.imports) own)
