-- The hooks of a component, in the order in which its block has them, each by its letter.
use Rattle.std.specs.Prelude.{true, false, List, [], ◌∷◌, ◌++◌, codes}
use Rattle.qk_ast.specs.declared.Pattern.{Pattern}
use Rattle.qk_ast.specs.declared.Expr.{Expr, Row_of-Link, more_of-Expr, more_of-Link}
use Rattle.qk_ast.specs.declared.Link.{Link}
use Rattle.qk_ast.specs.declared.Stmt.{Stmt, Row_of-Stmt, end_of-Stmt, more_of-Stmt}
use Rattle.qk_ast.specs.declared.Body.{Body, Block' as Body_block'}
use Rattle.qk_ast.specs.Texts.{Text, same_text}

-- A hook's name and letter.
pub record Letter : Type 0 where
  pub hook : Text
  pub letter : Text

-- in sources and in built files
abbrev pub letters : List Letter
letters =
    record { hook = codes "useSignal"; letter = codes "s" } ∷ record { hook = codes "useStore"; letter = codes "o" }
    ∷ record { hook = codes "useComputed$"; letter = codes "m" } ∷ record { hook = codes "useComputedQrl"; letter = codes "m" }
    ∷ record { hook = codes "useTask$"; letter = codes "t" } ∷ record { hook = codes "useTaskQrl"; letter = codes "t" }
    ∷ record { hook = codes "useContextProvider"; letter = codes "x" } ∷ record { hook = codes "useContext"; letter = codes "g" } ∷ []

abbrev pub letter_among : List Letter → Text → Text
letter_among [] name = []
letter_among (l ∷ rest) name = elim (same_text l.hook name) [ true ↦ l.letter | false ↦ letter_among rest name ]

-- the letter of a hook, nothing of another name
abbrev pub letter_of : Text → Text
letter_of = letter_among letters

-- of a name that is called
abbrev pub called_letter : {m : _} → Text → Row_of-Link m → Text
called_letter name (more_of-Link (Link.Call' _ all) rest) = letter_of name
called_letter name _ = []

abbrev pub call_letter : Expr → Text
call_letter (Expr.Post' _ (more_of-Expr (Expr.Name name) _) _ links) = called_letter name links
call_letter _ = []

-- a hook is the whole initialiser of a `const NAME`, or the whole statement
abbrev pub statement_letter : Stmt → Text
statement_letter (Stmt.Const (Pattern.Name name) e) = call_letter e
statement_letter (Stmt.Do e) = call_letter e
statement_letter _ = []

abbrev pub block_letters : {m : _} → Row_of-Stmt m → Text
block_letters end_of-Stmt = []
block_letters (more_of-Stmt statement rest) = statement_letter statement ++ block_letters rest

abbrev pub hook_letters : Body → Text
hook_letters (Body.Value' _ e) = []
hook_letters (Body_block' _ all) = block_letters all
