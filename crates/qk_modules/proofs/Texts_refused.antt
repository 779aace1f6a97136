-- Why a text is refused, from what the parser says, and what a read says of a file.
use Rattle.std.specs.Prelude.{◌≡◌, ℕ}
use Rattle.std.specs.Str.{IsUtf8}
use Rattle.qk_ast.specs.declared.Form.TheVariants.{Source}
use Rattle.qk_ast.specs.Texts.{Text}
use Rattle.qk_parse.specs.declared.parse.ParseFault.{ParseFault}
use Rattle.qk_parse.specs.declared.parse.ParseFault.TheVariants as parse
use Rattle.qk_parse.specs.Parsing.{Refused, NoneDerived}
use Rattle.qk_modules.specs.Gathering.{RefusedText, unparsed, want}
use Rattle.qk_modules.specs.Turns.{fault_of}

not_long : parse.TooLong ≡ parse.Memory → ⊥
not_long h = cc

not_lexical : (at : ℕ) → parse.Lexical at ≡ parse.Memory → ⊥
not_lexical at h = cc

not_syntax : (at : ℕ) → parse.Syntax at ≡ parse.Memory → ⊥
not_syntax at h = cc

not_deep : (at : ℕ) → parse.TooDeep at ≡ parse.Memory → ⊥
not_deep at h = cc

pub text_refused : (before : ℕ) (name text : Text) (fault : ParseFault) → IsUtf8 text → Refused Source text fault → NoneDerived Source text fault → RefusedText before name text (fault_of name text fault)
text_refused before name text parse.TooLong utf8 h none = unparsed utf8 h none not_long
text_refused before name text (parse.Lexical at) utf8 h none = unparsed utf8 h none (not_lexical at)
text_refused before name text (parse.Syntax at) utf8 h none = unparsed utf8 h none (not_syntax at)
text_refused before name text (parse.TooDeep at) utf8 h none = unparsed utf8 h none (not_deep at)
text_refused before name text parse.Memory utf8 h none = want
