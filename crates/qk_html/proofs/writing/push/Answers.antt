use Rattle.std.proofs.Common.{◌≡◌, refl, rules, arith, subst, sym, Err}
use Rattle.std.proofs.lemmas.Grind.{common_steps}
use Rattle.qk_html.specs.Appends.{Appends}
use Rattle.qk_html.specs.declared.writing.HtmlFault.{HtmlFault}
use Rattle.qk_html.proofs.Appending.{refused}
use Rattle.qk_html.proofs.writing.push.Goals as goal

pub returns-then-bytes-saturating_sub : goal.returns-then-bytes-saturating_sub
returns-then-bytes-saturating_sub c = refused c.args.out.now.items _ HtmlFault.TooLong (λ is. grind (arith, common_steps)) refl

pub returns-in_err-extend_from_slice : goal.returns-in_err-extend_from_slice
returns-in_err-extend_from_slice c =
    let is : c.from_residual.result ≡ Err HtmlFault.Memory = search rules in
    let same : c.extend_from_slice.new.self.items ≡ c.args.out.now.items = grind (arith, common_steps) in
    subst (λ r. Appends c.args.bytes.now c.args.most c.args.out.now.items c.extend_from_slice.new.self.items r) (sym is) (refused c.args.out.now.items _ HtmlFault.Memory (λ other. search rules) same)

pub returns : goal.returns
returns c = record { all = search rules; within = λ fits. grind (arith, common_steps); over = tt; front = tt }
