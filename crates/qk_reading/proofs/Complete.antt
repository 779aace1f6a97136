-- All that is written by the rules is read, or its nesting is too deep.
use Rattle.std.proofs.Common.{◌≡◌, refl}
use Rattle.std.specs.Prelude.{ℕ, true, List, []}
use Rattle.qk_ast.specs.declared.Form.{Form}
use Rattle.qk_ast.specs.declared.Bin.{Bin}
use Rattle.qk_ast.specs.declared.Bin.TheVariants as bin
use Rattle.qk_ast.specs.Grammar.{Level, Expression, Undefined, Null, Truth, Number, Quoted, Named, Whole, Holed, Bracketed, Listed, Recorded, Markup, Log, Keys, Str, Trunc, Postfix, Prefix, Chain, Choice, Function, Operands, No_operand, Operand, Holes, Last_part, Part_hole, Link, Dot, Index, Call, Links, No_link, Next_link, Arguments, No_argument, Only, Comma, Field, Key, Quoted_key, Short, Fields, No_field, Only_field, Field_comma, Element, Closed, Open, Fragment, Attributes, No_attribute, Set, Set_text, Set_value, Children, No_child, Text_child, Empty_child, Value_child, Element_child, Body, Block_body, Step_body, Step, Plain_step, Assign, Bump, Statement, Const, Scope, Let, Return, Return_step, If, If_else, While, For_of, Break, Continue, Delete, Block, Do, Statements, No_statement, Then, Part, Block_part, Statement_part}
use Rattle.qk_ast.specs.Rules.{level_of, binds, keeps, operands_keep, holes_keep, link_keeps, links_keep, arguments_keep, field_keeps, fields_keep, element_keeps, attributes_keep, children_keep, body_keeps, step_keeps}
use Rattle.qk_reading.proofs.Follow.{clash, ends_weaker}
use Rattle.qk_reading.proofs.Atoms as at
use Rattle.qk_reading.proofs.Atoms.{Reads, Nests, Heads}
use Rattle.qk_reading.proofs.Lists as li
use Rattle.qk_reading.proofs.Lists.{Args_read, Field_reads, Fields_read, Holes_read}
use Rattle.qk_reading.proofs.Forms as fo
use Rattle.qk_reading.proofs.Forms.{Parts_read, Link_reads, Links_read, Call_read, Second_read, Operands_read}
use Rattle.qk_reading.proofs.Elements as el
use Rattle.qk_reading.proofs.Elements.{Attributes_read, Children_read, Element_reads}
use Rattle.qk_reading.proofs.Statements as st
use Rattle.qk_reading.proofs.Statements.{Step_reads, Body_reads, Block_reads}
use Rattle.qk_reading.proofs.Blocks as bl
use Rattle.qk_reading.proofs.Blocks.{Statement_reads, Statements_read, Part_reads}

module _ (D : Type 0) (form : Form) where
  -- as an expression, and as the atom that it is
  abbrev pub Whole_reads : Expression → Type 0
  Whole_reads x = Reads D form x × (binds 9 x ≡ true → Heads D form x)

  atom : (x : Expression) → keeps form x → binds 9 x ≡ true → Heads D form x → Whole_reads x
  atom x ke b h = (at.from_head D form x ke b h, (λ b'. h))

  nests : (x : Expression) → Whole_reads x → Nests D form x
  nests x h = at.nests D form x h.0

  loose : (x : Expression) → Reads D form x → (binds 9 x ≡ true → ⊥) → Whole_reads x
  loose x h n = (h, (λ b. absurd (n b)))

  chain_unbound : (x : Expression) (op : Bin) (y : Expression) (more : Operands) → binds 9 (Chain x op y more) ≡ true → ⊥
  chain_unbound x bin.Or y more b = clash b refl
  chain_unbound x bin.And y more b = clash b refl
  chain_unbound x bin.Coalesce y more b = clash b refl
  chain_unbound x bin.Same y more b = clash b refl
  chain_unbound x bin.NotSame y more b = clash b refl
  chain_unbound x bin.Less y more b = clash b refl
  chain_unbound x bin.LessEq y more b = clash b refl
  chain_unbound x bin.More y more b = clash b refl
  chain_unbound x bin.MoreEq y more b = clash b refl
  chain_unbound x bin.Add y more b = clash b refl
  chain_unbound x bin.Sub y more b = clash b refl
  chain_unbound x bin.Mul y more b = clash b refl
  chain_unbound x bin.Rem y more b = clash b refl

  mutual
    pub complete : (x : Expression) → keeps form x → Whole_reads x
    complete Undefined ke = atom Undefined ke refl (at.undefined_heads D form)
    complete Null ke = atom Null ke refl (at.null_heads D form)
    complete (Truth b) ke = atom (Truth b) ke refl (at.truth_heads D form b)
    complete (Number a) ke = atom (Number a) ke refl (at.number_heads D form a)
    complete (Quoted q ps) ke = atom (Quoted q ps) ke refl (at.quoted_heads D form q ps)
    complete (Named a) ke = atom (Named a) ke refl (at.named_heads D form a)
    complete (Whole ps) ke = atom (Whole ps) ke refl (at.whole_heads D form ps)
    complete (Holed ps x more) ke = atom (Holed ps x more) ke refl (li.holed_heads D form ps x more (nests x (complete x ke.0)) (holes_complete more ke.1))
    complete (Bracketed x) ke = atom (Bracketed x) ke refl (at.bracketed_heads D form x (nests x (complete x ke)))
    complete (Listed xs) ke = atom (Listed xs) ke refl (li.listed_heads D form xs (arguments_complete xs ke).0)
    complete (Recorded fs) ke = atom (Recorded fs) ke refl (li.recorded_heads D form fs ke (fields_complete fs [] ke))
    complete (Markup x) ke = atom (Markup x) ke refl (el.markup_heads D form x (element_complete x ke))
    complete (Log x) ke = atom (Log x) ke refl (li.log_heads D form x (nests x (complete x ke)))
    complete (Keys x) ke = atom (Keys x) ke refl (li.keys_heads D form x (nests x (complete x ke)))
    complete (Str x) ke = atom (Str x) ke refl (li.str_heads D form x (nests x (complete x ke)))
    complete (Trunc x y) ke = atom (Trunc x y) ke refl (li.trunc_heads D form x y ke.0 (li.values D form x (complete x ke.2).0) (li.tights D form y ke.1 (complete y ke.3).0))
    complete (Postfix head x more) ke =
        let xs = links_complete more ke.4 in
        let l = link_complete x ke.3 in
        let p = fo.postfix_reads D form head x more ke ((complete head ke.2).1 ke.0) l.0 l.1 xs.0 xs.1 in
        loose (Postfix head x more) (λ room least n m ts d le b q f. at.from_postfix D form (Postfix head x more) ke refl room least n m ts le f (p room n m ts d q (ends_weaker least 8 ts le f))) (λ b. clash b refl)
    complete (Prefix op x) ke =
        let p = fo.prefix_reads D form op x (li.tights D form x ke.0 (complete x ke.1).0) in
        loose (Prefix op x) (at.from_unary D form (Prefix op x) ke refl p refl) (λ b. clash b refl)
    complete (Chain x op y more) ke =
        loose (Chain x op y more) (fo.chain_reads D form x op y more ke (complete x ke.1).0 (complete y ke.3).0 (operands_complete more (level_of op) ke.4)) (chain_unbound x op y more)
    complete (Choice x y z) ke = loose (Choice x y z) (fo.choice_reads D form x y z ke (complete x ke.1).0 (nests y (complete y ke.2)) (nests z (complete z ke.3))) (λ b. clash b refl)
    complete (Function ps x) ke = loose (Function ps x) (st.function_reads D form ps x (body_complete x ke)) (λ b. clash b refl)

    operands_complete : (x : Operands) (level : Level) → operands_keep form level x → Operands_read D form level x
    operands_complete No_operand level ke = fo.no_operand_read D form level
    operands_complete (Operand op x more) level ke = fo.operand_read D form level op x more ke (complete x ke.2).0 (operands_complete more level ke.3)

    holes_complete : (x : Holes) → holes_keep form x → Holes_read D form x
    holes_complete (Last_part ps) ke = li.last_part_read D form ps
    holes_complete (Part_hole ps x more) ke = li.part_hole_read D form ps x more (nests x (complete x ke.0)) (holes_complete more ke.1)

    link_complete : (x : Link) → link_keeps form x → Link_reads D form x × Call_read D form x
    link_complete (Dot w) ke = (fo.dot_reads D form w, tt)
    link_complete (Index x) ke = (fo.index_reads D form x (nests x (complete x ke)), tt)
    link_complete (Call xs) ke = let h = (arguments_complete xs ke).0 in (fo.call_reads D form xs h, h)

    links_complete : (x : Links) → links_keep form x → Links_read D form x × Second_read D form x
    links_complete No_link ke = (fo.no_link_read D form, tt)
    links_complete (Next_link (Dot w) more) ke = (fo.next_link_read D form (Dot w) more (fo.dot_reads D form w) (links_complete more ke.1).0, tt)
    links_complete (Next_link (Index x) more) ke = (fo.next_link_read D form (Index x) more (fo.index_reads D form x (nests x (complete x ke.0))) (links_complete more ke.1).0, tt)
    links_complete (Next_link (Call xs) more) ke =
        let h = arguments_complete xs ke.0 in
        let k = (links_complete more ke.1).0 in
        (fo.next_link_read D form (Call xs) more (fo.call_reads D form xs h.0) k, (h.0, h.1, k))

    arguments_complete : (x : Arguments) → arguments_keep form x → Args_read D form x × Parts_read D form x
    arguments_complete No_argument ke = (li.no_argument_read D form, tt)
    arguments_complete (Only x) ke = let h = complete x ke in (li.only_read D form x (nests x h), li.values D form x h.0)
    arguments_complete (Comma x more) ke =
        let h = complete x ke.0 in
        let k = (arguments_complete more ke.1).0 in
        (li.comma_read D form x more (nests x h) k, (li.values D form x h.0, k))

    field_complete : (x : Field) → field_keeps form x → Field_reads D form x
    field_complete (Key w x) ke = li.key_reads D form w x (nests x (complete x ke))
    field_complete (Quoted_key q ps x) ke = li.quoted_key_reads D form q ps x (nests x (complete x ke))
    field_complete (Short a) ke = li.short_reads D form a

    fields_complete : (x : Fields) (before : List (List ℕ)) → fields_keep form before x → Fields_read D form x
    fields_complete No_field before ke = li.no_field_read D form
    fields_complete (Only_field f) before ke = li.only_field_read D form f (field_complete f ke.1)
    fields_complete (Field_comma f more) before ke = li.field_comma_read D form f more (field_complete f ke.1) (fields_complete more _ ke.2)

    element_complete : (x : Element) → element_keeps form x → Element_reads D form x
    element_complete (Closed tag xs) ke = el.closed_reads D form tag xs ke.0 (attributes_complete xs ke.1)
    element_complete (Open tag xs inner end) ke = el.open_reads D form tag xs inner end ke.0 ke.1 (attributes_complete xs ke.2) (children_complete inner ke.3)
    element_complete (Fragment inner) ke = el.fragment_reads D form inner (children_complete inner ke)

    attributes_complete : (x : Attributes) → attributes_keep form x → Attributes_read D form x
    attributes_complete No_attribute ke = el.no_attribute_read D form
    attributes_complete (Set a more) ke = el.set_read D form a more (attributes_complete more ke)
    attributes_complete (Set_text a q t more) ke = el.set_text_read D form a q t more (attributes_complete more ke)
    attributes_complete (Set_value a x more) ke = el.set_value_read D form a x more (nests x (complete x ke.0)) (attributes_complete more ke.1)

    children_complete : (x : Children) → children_keep form x → Children_read D form x
    children_complete No_child ke = el.no_child_read D form
    children_complete (Text_child t more) ke = el.text_child_read D form t more (children_complete more ke)
    children_complete (Empty_child more) ke = el.empty_child_read D form more (children_complete more ke)
    children_complete (Value_child x more) ke = el.value_child_read D form x more (nests x (complete x ke.0)) (children_complete more ke.1)
    children_complete (Element_child x more) ke = el.element_child_read D form x more (element_complete x ke.0) (children_complete more ke.1)

    body_complete : (x : Body) → body_keeps form x → Body_reads D form x
    body_complete (Block_body x) ke = st.block_body_reads D form x ke (bl.blocks D form x (statements_complete x))
    body_complete (Step_body x) ke = st.step_body_reads D form x ke.0 (step_complete x ke.1)

    step_complete : (x : Step) → step_keeps form x → Step_reads D form x
    step_complete (Plain_step x) ke = st.plain_step_reads D form x (complete x ke).0
    step_complete (Assign x op y) ke = st.assign_reads D form x op y ke.0 ke.1 (complete x ke.1).0 (complete y ke.2).0
    step_complete (Bump x up) ke = st.bump_reads D form x up ke.0 ke.1 (complete x ke.1).0

    statement_complete : (x : Statement) → Statement_reads D form x
    statement_complete (Const b x) looped start ke = bl.const_reads D form b x (complete x ke).0 looped start ke
    statement_complete (Scope a more) looped start ke = bl.scope_reads D form a more looped start ke
    statement_complete (Let a x) looped start ke = bl.let_reads D form a x (complete x ke).0 looped start ke
    statement_complete Return looped start ke = bl.return_reads D form looped start ke
    statement_complete (Return_step x) looped start ke = bl.return_step_reads D form x (step_complete x ke) looped start ke
    statement_complete (If x y) looped start ke = bl.if_reads D form x y (nests x (complete x ke.0)) (part_complete y) looped start ke
    statement_complete (If_else x y z) looped start ke = bl.if_else_reads D form x y z (nests x (complete x ke.0)) (part_complete y) (part_complete z) looped start ke
    statement_complete (While x y) looped start ke = bl.while_reads D form x y (nests x (complete x ke.0)) (part_complete y) looped start ke
    statement_complete (For_of a x y) looped start ke = bl.for_of_reads D form a x y (nests x (complete x ke.0)) (part_complete y) looped start ke
    statement_complete Break looped start ke = bl.break_reads D form looped start ke
    statement_complete Continue looped start ke = bl.continue_reads D form looped start ke
    statement_complete (Delete x) looped start ke = bl.delete_reads D form x (complete x ke.1).0 looped start ke
    statement_complete (Block x) looped start ke = bl.block_reads D form x (bl.blocks D form x (statements_complete x)) looped start ke
    statement_complete (Do x) looped start ke = bl.do_reads D form x (step_complete x ke.1) looped start ke

    statements_complete : (x : Statements) → Statements_read D form x
    statements_complete No_statement = bl.no_statement_read D form
    statements_complete (Then x more) = bl.then_read D form x more (statement_complete x) (statements_complete more)

    part_complete : (x : Part) → Part_reads D form x
    part_complete (Block_part x) = bl.block_part_reads D form x (bl.blocks D form x (statements_complete x))
    part_complete (Statement_part x) = bl.statement_part_reads D form x (statement_complete x)
