use Rattle.std.proofs.Common.{ap, sym, ◌∙◌, subst}
use Rattle.qk_ast.specs.declared.Expr.TheVariants as e
use Rattle.qk_whole.specs.Items.{IsCalled, first_in}
use Rattle.qk_whole.proofs.Item_rows.{called_root, post_root}
use Rattle.qk_whole.proofs.Results.{if_ok}
use Rattle.qk_whole.proofs.known.Known.root.Goals as goal

pub returns-in-Name : goal.returns-in-Name
returns-in-Name c = if_ok c.called.result (λ r h. called_root c.args.self.now c.in-Name.callee c.in-Post.links c.args.value.now
    (c.in-Post.is ∙ ap (λ x. e.Post x c.in-Post.links) (sym c.get.ensures ∙ c.in-Name.is)) r
    (subst (λ x. IsCalled c.args.self.now c.in-Name.callee x r) (c.first_argument.ensures ∙ ap first_in c.as_slice.ensures) h)) c.called.ensures

pub returns-in_ok-literal-in_default-get : goal.returns-in_ok-literal-in_default-get
returns-in_ok-literal-in_default-get c = (c.in_ok-literal-in_default-get.ensures, post_root c.in-Post.head c.in-Post.links c.args.value.now c.in-Post.is (λ t h. c.in_default-get.not-Name t (c.get.ensures ∙ h)))
