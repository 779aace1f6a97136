-- The file of a dollar site fits the entry of its symbol.
use Rattle.std.specs.Prelude.{◌≡◌, refl, ℕ, ◌+◌, Bool, true, false, ◌&&◌, ◌==◌, [], ◌++◌, Option, Some, None, length, codes}
use Rattle.std.proofs.Common.{sym, ◌∙◌, ap}
use Rattle.std.proofs.lemmas.Bool.{eq-eqb}
use Rattle.std.proofs.lemmas.Cmp.{nat_list_eq_equiv}
use Rattle.std.specs.Cmp.Lexicographic.{same_text as told_same}
use Rattle.qk_ast.specs.declared.Expr.{Expr, Row_of-Expr, end_of-Expr, more_of-Expr, Row_of-Link, end_of-Link, more_of-Link, more_of-Arrow, more_of-Jsx}
use Rattle.qk_ast.specs.declared.Pattern.{Pattern}
use Rattle.qk_ast.specs.declared.Stmt.{Stmt, Row_of-Stmt, end_of-Stmt, more_of-Stmt, None', Some'}
use Rattle.qk_ast.specs.declared.Link.{Link}
use Rattle.qk_ast.specs.declared.Body.{Body, Block' as Body_block'}
use Rattle.qk_ast.specs.Texts.{Text, same_text}
use Rattle.qk_ast.specs.Arrows.{Found_arrow}
use Rattle.qk_ast.specs.Uses.{captures_of}
use Rattle.qk_lifting.specs.declared.SegmentKind.{SegmentKind}
use Rattle.qk_lifting.specs.declared.SegmentKind.TheVariants.{Component, Task, Computed, Fn}
use Rattle.qk_lifting.specs.Kinds.{Place, Unmarked, For, argument_place}
use Rattle.qk_lifting.specs.References.{Reference}
use Rattle.qk_lifting.specs.Lifting.{built_name, place_alone, dollar_link, lifted, all_lifted, links_lifted, statement_lifted, block_lifted, body_lifted}
use Rattle.qk_lifting.specs.Numbering.{statement_count, numbered, links_numbered, statement_numbered, block_numbered, body_numbered}
use Rattle.qk_lifting.specs.Hooks.{letter_of, called_letter, call_letter, statement_letter, block_letters, hook_letters}
use Rattle.qk_lifting.specs.Segments.{with_captures, reference_at, site_hooks}
use Rattle.qk_lifting.specs.Built_file.{hooks_of}
use Rattle.qk_lifting.specs.Laws.{HooksAreKept, SegmentsFit}
use Rattle.qk_lifting.proofs.Symbols_read.{own_scopes}

-- ---- letters of lifted code

name_letter : (t : Text) → letter_of (built_name t) ≡ letter_of t
name_letter t = by (same_text t (codes "component$")) (same_text t (codes "useTask$")) (same_text t (codes "useComputed$")) (same_text t (codes "$")) refl refl refl refl
  where
    is : (u v : Text) → same_text t u ≡ true → letter_of v ≡ letter_of u → letter_of v ≡ letter_of t
    is u v e h = h ∙ ap letter_of (sym (told_same t u (sym e)))

    by : (a b c d : Bool) → same_text t (codes "component$") ≡ a → same_text t (codes "useTask$") ≡ b → same_text t (codes "useComputed$") ≡ c → same_text t (codes "$") ≡ d
        → letter_of (elim a [ true ↦ codes "componentQrl" | false ↦ elim b [ true ↦ codes "useTaskQrl" | false ↦ elim c [ true ↦ codes "useComputedQrl" | false ↦ elim d [ true ↦ codes "qrl" | false ↦ t ] ] ] ]) ≡ letter_of t
    by true b c d e f g h = is (codes "component$") (codes "componentQrl") e refl
    by false true c d e f g h = is (codes "useTask$") (codes "useTaskQrl") f refl
    by false false true d e f g h = is (codes "useComputed$") (codes "useComputedQrl") g refl
    by false false false true e f g h = is (codes "$") (codes "qrl") h refl
    by false false false false e f g h = refl

dollar_letter : (refer : ℕ → Reference) (name : Text) (o : Option ℕ) (n : _) (xs : Row_of-Expr _) {m : _} (rest : Row_of-Link m) → called_letter name (more_of-Link (dollar_link refer o (Link.Call' n xs)) rest) ≡ letter_of name
dollar_letter refer name (Some place) n xs rest = refl
dollar_letter refer name None n xs rest = refl

links_letter : (refer : ℕ → Reference) (name : Text) {m : _} (xs : Row_of-Link m) (there : Place) → called_letter name (links_lifted refer xs there) ≡ called_letter name xs
links_letter refer name end_of-Link there = refl
links_letter refer name (more_of-Link (Link.Prop p) rest) there = refl
links_letter refer name (more_of-Link (Link.Index x) rest) there = refl
links_letter refer name (more_of-Link (Link.Call' n xs) rest) (For Fn) = dollar_letter refer name (place_alone xs) n (all_lifted refer xs (For Fn)) (links_lifted refer rest Unmarked)
links_letter refer name (more_of-Link (Link.Call' n xs) rest) there = refl

renamed_letter : (t : Text) {m : _} (xs : Row_of-Link m) → called_letter (built_name t) xs ≡ called_letter t xs
renamed_letter t end_of-Link = refl
renamed_letter t (more_of-Link (Link.Prop p) rest) = refl
renamed_letter t (more_of-Link (Link.Index x) rest) = refl
renamed_letter t (more_of-Link (Link.Call' n xs) rest) = name_letter t

head_letter : (refer : ℕ → Reference) (head : Expr) (n : _) (xs : Row_of-Link _) → call_letter (lifted refer (Expr.Post' tt (more_of-Expr head end_of-Expr) n xs) Unmarked) ≡ call_letter (Expr.Post' tt (more_of-Expr head end_of-Expr) n xs)
head_letter refer (Expr.Name t) n xs = renamed_letter t (links_lifted refer xs (argument_place (Expr.Name t))) ∙ links_letter refer t xs (argument_place (Expr.Name t))
head_letter refer (Expr.Arrow' _ (more_of-Arrow place params x _)) n xs = refl
head_letter refer (Expr.Post' _ (more_of-Expr h _) _ links) n xs = refl
head_letter refer (Expr.Jsx' _ (more_of-Jsx x _)) n xs = refl
head_letter refer head n xs = refl

lifted_letter : (refer : ℕ → Reference) (x : Expr) → call_letter (lifted refer x Unmarked) ≡ call_letter x
lifted_letter refer (Expr.Post' _ (more_of-Expr head end_of-Expr) n xs) = head_letter refer head n xs
lifted_letter refer (Expr.Arrow' _ (more_of-Arrow place params x _)) = refl
lifted_letter refer (Expr.Jsx' _ (more_of-Jsx x _)) = refl
lifted_letter refer x = refl

statement_lifted_letter : (refer : ℕ → Reference) (s : Stmt) → statement_letter (statement_lifted refer s) ≡ statement_letter s
statement_lifted_letter refer (Stmt.Const (Pattern.Name name) x) = lifted_letter refer x
statement_lifted_letter refer (Stmt.Const (Pattern.Fields names) x) = refl
statement_lifted_letter refer (Stmt.Const (Pattern.Scope names) x) = refl
statement_lifted_letter refer (Stmt.Do x) = lifted_letter refer x
statement_lifted_letter refer (Stmt.Return' None') = refl
statement_lifted_letter refer (Stmt.Return' (Some' x)) = refl
statement_lifted_letter refer s = refl

both : {a b c d : Text} → a ≡ b → c ≡ d → a ++ c ≡ b ++ d
both {a} {b} {c} {d} e f = ap (λ xs. xs ++ c) e ∙ ap (λ xs. b ++ xs) f

block_lifted_letters : (refer : ℕ → Reference) {m : _} (xs : Row_of-Stmt m) → block_letters (block_lifted refer xs) ≡ block_letters xs
block_lifted_letters refer end_of-Stmt = refl
block_lifted_letters refer (more_of-Stmt s rest) = both (statement_lifted_letter refer s) (block_lifted_letters refer rest)

-- ---- letters of numbered code

links_numbered_letter : (n : ℕ) (name : Text) {m : _} (xs : Row_of-Link m) → called_letter name (links_numbered n xs) ≡ called_letter name xs
links_numbered_letter n name end_of-Link = refl
links_numbered_letter n name (more_of-Link (Link.Prop p) rest) = refl
links_numbered_letter n name (more_of-Link (Link.Index x) rest) = refl
links_numbered_letter n name (more_of-Link (Link.Call' k xs) rest) = refl

numbered_head_letter : (n : ℕ) (head : Expr) (k : _) (xs : Row_of-Link _) → call_letter (numbered n (Expr.Post' tt (more_of-Expr head end_of-Expr) k xs)) ≡ call_letter (Expr.Post' tt (more_of-Expr head end_of-Expr) k xs)
numbered_head_letter n (Expr.Name t) k xs = links_numbered_letter _ t xs
numbered_head_letter n (Expr.Arrow' _ (more_of-Arrow place params x _)) k xs = refl
numbered_head_letter n (Expr.Jsx' _ (more_of-Jsx x _)) k xs = refl
numbered_head_letter n (Expr.Chain' _ (more_of-Expr x _) _ rest) k xs = refl
numbered_head_letter n (Expr.Cond' _ (more_of-Expr a _) _ (more_of-Expr b _) _ (more_of-Expr c _)) k xs = refl
numbered_head_letter n (Expr.Post' _ (more_of-Expr head _) _ links) k xs = refl
numbered_head_letter n (Expr.Assign' operator _ (more_of-Expr x _) _ (more_of-Expr y _)) k xs = refl
numbered_head_letter n head k xs = refl

numbered_letter : (n : ℕ) (x : Expr) → call_letter (numbered n x) ≡ call_letter x
numbered_letter n (Expr.Post' _ (more_of-Expr head end_of-Expr) k xs) = numbered_head_letter n head k xs
numbered_letter n (Expr.Arrow' _ (more_of-Arrow place params x _)) = refl
numbered_letter n (Expr.Jsx' _ (more_of-Jsx x _)) = refl
numbered_letter n (Expr.Chain' _ (more_of-Expr x _) _ rest) = refl
numbered_letter n (Expr.Cond' _ (more_of-Expr a _) _ (more_of-Expr b _) _ (more_of-Expr c _)) = refl
numbered_letter n (Expr.Assign' operator _ (more_of-Expr x _) _ (more_of-Expr y _)) = refl
numbered_letter n x = refl

statement_numbered_letter : (n : ℕ) (s : Stmt) → statement_letter (statement_numbered n s) ≡ statement_letter s
statement_numbered_letter n (Stmt.Const (Pattern.Name name) x) = numbered_letter n x
statement_numbered_letter n (Stmt.Const (Pattern.Fields names) x) = refl
statement_numbered_letter n (Stmt.Const (Pattern.Scope names) x) = refl
statement_numbered_letter n (Stmt.Do x) = numbered_letter n x
statement_numbered_letter n (Stmt.Return' None') = refl
statement_numbered_letter n (Stmt.Return' (Some' x)) = refl
statement_numbered_letter n s = refl

block_numbered_letters : (n : ℕ) {m : _} (xs : Row_of-Stmt m) → block_letters (block_numbered n xs) ≡ block_letters xs
block_numbered_letters n end_of-Stmt = refl
block_numbered_letters n (more_of-Stmt s rest) = both (statement_numbered_letter n s) (block_numbered_letters (n + statement_count s) rest)

lifted_letters : (refer : ℕ → Reference) (x : Body) → hook_letters (body_lifted refer x) ≡ hook_letters x
lifted_letters refer (Body.Value' _ xs) = refl
lifted_letters refer (Body_block' _ xs) = block_lifted_letters refer xs

numbered_letters : (n : ℕ) (x : Body) → hook_letters (body_numbered n x) ≡ hook_letters x
numbered_letters n (Body.Value' _ xs) = refl
numbered_letters n (Body_block' _ xs) = block_numbered_letters n xs

pub hooks_are_kept : HooksAreKept
hooks_are_kept refer n x = numbered_letters n (body_lifted refer x) ∙ lifted_letters refer x

-- ---- the entry

three : (a b c : Bool) → a ≡ true → b ≡ true → c ≡ true → ((a && b) && c) ≡ true
three a b c e f g = ap (λ x. (x && b) && c) e ∙ ap (λ x. x && c) f ∙ g

hooks_fit : (refer : ℕ → Reference) (kind : SegmentKind) (symbol : Text) (a : Found_arrow) → (kind ≡ Component → captures_of a ≡ [])
    → hooks_of kind (body_numbered 1 (with_captures (captures_of a) (body_lifted refer a.body))) ≡ site_hooks (record { symbol = symbol; kind = kind; arrow = a })
hooks_fit refer Component symbol a none = ap (λ names. hook_letters (body_numbered 1 (with_captures names (body_lifted refer a.body)))) (none refl) ∙ hooks_are_kept refer 1 a.body
hooks_fit refer Task symbol a none = refl
hooks_fit refer Computed symbol a none = refl
hooks_fit refer Fn symbol a none = refl

pub segments_fit : SegmentsFit
segments_fit file m site plain allowed none = three true (same_text site.symbol site.symbol) _ refl (nat_list_eq_equiv.refl site.symbol)
    (three _ _ _ (ap (λ names. length names == length (captures_of site.arrow)) (own_scopes (reference_at file m) site.arrow plain) ∙ eq-eqb (length (captures_of site.arrow)) (length (captures_of site.arrow)) refl)
    allowed
    (ap (λ hooks. same_text hooks (site_hooks site)) (hooks_fit (reference_at file m) site.kind site.symbol site.arrow none) ∙ nat_list_eq_equiv.refl (site_hooks site)))
