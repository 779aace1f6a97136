use Rattle.std.proofs.Common.{◌<◌, ◌∙◌, sym, ap, arith, length}
use Rattle.std.specs.Prelude.{if◌then◌else◌, drop}
use Rattle.qk_ast.specs.JsxText.{without_spaces_before}
use Rattle.qk_lex.proofs.JoinLemmas.{joined_last, joined_more}
use Rattle.qk_lex.proofs.jsx.joined_lines.Goals as goal

pub returns-then-end-rest : goal.returns-then-end-rest
returns-then-end-rest c =
    joined_last c.loop-rest.joined.items c.loop-rest.rest.now c.start_of.result.now c.loop-rest.first _ c.append_line.new.joined.items (sym c.line_end-end.ensures.value ∙ c.if-end-rest.true) c.start_of.ensures
    c.in_ok-append_line.ensures c.loop-rest.invariant

pub loop-rest-preserved : goal.loop-rest-preserved
loop-rest-preserved c =
    let inside : c.line_end-end.result < length c.loop-rest.rest.now = omega (arith, c.line_end-end.ensures.within) in
    joined_more c.loop-rest.joined.items c.loop-rest.rest.now c.start_of-start.result.now c.without_spaces_after.result.now c.after-rest.result.now c.line_end-end.result c.loop-rest.first _
    c.append_line-in-loop-rest.new.joined.items c.line_end-end.ensures.value inside (c.start_of-start.ensures ∙ ap (λ x. if c.loop-rest.first then x else without_spaces_before x) c.without_return.ensures) c.without_spaces_after.ensures c.in_ok-append_line-2.ensures (c.after-rest.ensures.value ∙ ap (λ xs. drop 1 xs) c.after.ensures.value) c.loop-rest.invariant
