-- What the reader sees of the tokens ahead: operators, whether an arrow comes, whether a known call does.
use Rattle.std.specs.Prelude.{ℕ, Bool, true, false, ◌&&◌, if◌then◌else◌, List, [], ◌∷◌, Option, Some, None, Ok, codes}
use Rattle.qk_ast.specs.declared.Bin.{Bin}
use Rattle.qk_ast.specs.declared.Bin.TheVariants as bin
use Rattle.qk_ast.specs.declared.AssignOp.{AssignOp}
use Rattle.qk_ast.specs.declared.AssignOp.TheVariants as assign
use Rattle.qk_ast.specs.declared.Known.{Known}
use Rattle.qk_ast.specs.declared.Known.TheVariants as known
use Rattle.qk_ast.specs.Characters.{Characters, same}
use Rattle.qk_ast.specs.Tokens.{Token}
use Rattle.qk_ast.specs.Rules.{tightness_of, is_of_level}
use Rattle.qk_ast.specs.Grammar.{Level}
use Rattle.qk_reading.specs.Input.{Input, Reader, maybe, Kind, Loose, Chained, Prefixed, Called, Member, Bare, Atomic, Sign, is, first, first_is, rest, advance}

-- ---- kinds

abbrev pub kind_tightness : Kind → ℕ
kind_tightness Loose = 0
kind_tightness (Chained level) = tightness_of level
kind_tightness Prefixed = 7
kind_tightness Called = 8
kind_tightness Member = 8
kind_tightness Bare = 9
kind_tightness Atomic = 9

abbrev pub is_member_kind : Kind → Bool
is_member_kind Member = true
is_member_kind _ = false

abbrev pub is_target_kind : Kind → Bool
is_target_kind Bare = true
is_target_kind Member = true
is_target_kind _ = false

-- ---- operators

abbrev pub bin_of : Characters → Option Bin
bin_of a = if same a (codes "||") then Some bin.Or else (if same a (codes "&&") then Some bin.And else (if same a (codes "??") then Some bin.Coalesce
    else (if same a (codes "===") then Some bin.Same else (if same a (codes "!==") then Some bin.NotSame else (if same a (codes "<") then Some bin.Less
    else (if same a (codes "<=") then Some bin.LessEq else (if same a (codes ">") then Some bin.More else (if same a (codes ">=") then Some bin.MoreEq
    else (if same a (codes "+") then Some bin.Add else (if same a (codes "-") then Some bin.Sub else (if same a (codes "*") then Some bin.Mul
    else (if same a (codes "%") then Some bin.Rem else None))))))))))))

abbrev pub of_level : Level → Option Bin → Option Bin
of_level level None = None
of_level level (Some op) = if is_of_level level op then Some op else None

abbrev pub binary_sign : List Token → Option Bin
binary_sign (Token.Punct a ∷ more) = bin_of a
binary_sign _ = None

-- the operator of the level that comes next
unfoldable pub operator_at : Level → List Token → Option Bin
operator_at level ts = of_level level (binary_sign ts)

abbrev pub advance_by : {A : Type 0} → Option A → Input → Input
advance_by None i = i
advance_by (Some a) i = advance i

unfoldable pub operator : Level → Reader (Option Bin)
operator level i = Ok (operator_at level i.tokens, advance_by (operator_at level i.tokens) i)

abbrev pub assign_of : Characters → Option AssignOp
assign_of a = if same a (codes "=") then Some assign.Set else (if same a (codes "+=") then Some assign.Add
    else (if same a (codes "-=") then Some assign.Sub else (if same a (codes "*=") then Some assign.Mul else None)))

abbrev pub assign_at : List Token → Option AssignOp
assign_at (Token.Punct a ∷ more) = assign_of a
assign_at _ = None

abbrev pub bump_of : Characters → Option Bool
bump_of a = if same a (codes "++") then Some true else (if same a (codes "--") then Some false else None)

abbrev pub bump_at : List Token → Option Bool
bump_at (Token.Punct a ∷ more) = bump_of a
bump_at _ = None

unfoldable pub assign_sign : Reader (Option AssignOp)
assign_sign i = Ok (assign_at i.tokens, advance_by (assign_at i.tokens) i)

unfoldable pub bump_sign : Reader (Option Bool)
bump_sign i = Ok (bump_at i.tokens, advance_by (bump_at i.tokens) i)

-- ---- is an arrow ahead?

-- Where the scan of an arrow's parameters is: a pattern or `)` may come; `,` or `)`; the first name in braces; a name
-- or `}`; `,` or `}`; only `=>`.
pub data Scan : Type 0 where
  At_pattern : Scan
  After_pattern : Scan
  At_first : Scan
  At_next : Scan
  After_name : Scan
  At_arrow : Scan

abbrev pub scan_sign : Scan → Characters → Option Scan
scan_sign At_pattern a = if same a (codes ")") then Some At_arrow else (if same a (codes "{") then Some At_first else None)
scan_sign After_pattern a = if same a (codes ")") then Some At_arrow else (if same a (codes ",") then Some At_pattern else None)
scan_sign At_first a = None
scan_sign At_next a = if same a (codes "}") then Some After_pattern else None
scan_sign After_name a = if same a (codes "}") then Some After_pattern else (if same a (codes ",") then Some At_next else None)
scan_sign At_arrow a = None

abbrev pub scan_name : Scan → Option Scan
scan_name At_pattern = Some After_pattern
scan_name At_first = Some After_name
scan_name At_next = Some After_name
scan_name _ = None

abbrev pub scan_step : Scan → Token → Option Scan
scan_step scan (Token.Punct a) = scan_sign scan a
scan_step scan (Token.Name a) = scan_name scan
scan_step scan _ = None

abbrev pub is_arrow_at : Scan → Token → Bool
is_arrow_at At_arrow token = is (Sign (codes "=>")) token
is_arrow_at _ token = false

-- the scan comes to an arrow
unfoldable pub finds_arrow : Scan → List Token → Bool
finds_arrow scan [] = false
finds_arrow scan (token ∷ more) = if is_arrow_at scan token then true else maybe (scan_step scan token) false (λ next. finds_arrow next more)

abbrev pub arrow_from : Option Token → List Token → Bool
arrow_from (Some (Token.Name a)) more = first_is (Sign (codes "=>")) more
arrow_from (Some (Token.Punct a)) more = same a (codes "(") && finds_arrow At_pattern more
arrow_from _ more = false

unfoldable pub arrow_ahead : Input → Bool
arrow_ahead i = arrow_from (first i.tokens) (rest i.tokens)

-- ---- is a known call ahead?

abbrev pub known_method : Characters → Characters → Option Known
known_method object method = if same object (codes "console") && same method (codes "log") then Some known.Log
    else (if same object (codes "Object") && same method (codes "keys") then Some known.Keys
    else (if same object (codes "Math") && same method (codes "trunc") then Some known.Trunc else None))

abbrev pub known_dotted : Characters → List Token → Option Known
known_dotted object (Token.Name method ∷ Token.Punct a ∷ more) = if same a (codes "(") then known_method object method else None
known_dotted object _ = None

unfoldable pub known_ahead : List Token → Option Known
known_ahead (Token.Name object ∷ Token.Punct a ∷ more) = if same a (codes "(") then (if same object (codes "String") then Some known.Str else None)
    else (if same a (codes ".") then known_dotted object more else None)
known_ahead _ = None
