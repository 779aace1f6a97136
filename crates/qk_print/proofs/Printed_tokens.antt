-- The printed text is gaps and tokens by turns, each of which may stand where it stands; the tokens derive the module, within the nesting of built files.
use Rattle.std.specs.Prelude.{◌≡◌, ◌≤◌, List, [], None}
use Rattle.std.proofs.Common.{ap, sym, subst, ◌∙◌, arith}
use Rattle.std.proofs.lemmas.List.{append-nil}
use Rattle.std.specs.Str.{encode_utf8_all}
use Rattle.qk_ast.specs.declared.Form.TheVariants.{Source, Built}
use Rattle.qk_ast.specs.declared.Module.{Module}
use Rattle.qk_ast.specs.Characters.{Characters}
use Rattle.qk_ast.specs.Tokens.{Token, Tokens, Written, written, tokens_of, stands}
use Rattle.qk_ast.specs.Depth.{module_depth}
use Rattle.qk_ast.specs.Derives.{Parses, deepest}
use Rattle.qk_print.specs.Printing.{print_text}
use Rattle.qk_print.proofs.Rewriting.{built_module}
use Rattle.qk_print.proofs.Trees_kept.{same_module}
use Rattle.qk_print.proofs.Rules_kept.{module_kept}
use Rattle.qk_print.proofs.Nesting_kept.{module_deep}
use Rattle.qk_print.proofs.Laid_parts.{Numbers}
use Rattle.qk_print.proofs.Laid_modules.{module_laid}
use Rattle.qk_print.proofs.Integers.{numbers_of}
use Rattle.qk_print.proofs.Standing_printed.{printed_stands}

pub printed_tokens : (text : Characters) (tokens : List Token) (m : Module) → Tokens text tokens → (p : Parses Source tokens m) → module_depth p.text ≤ deepest Source
    → (printed : Written) × (encode_utf8_all (written printed []) ≡ print_text m) × stands [] None printed [] × (q : Parses Built (tokens_of printed) m) × (module_depth q.text ≤ deepest Built)
printed_tokens = λ text tokens m read p flat.
    let nested = module_deep p.text p.keeps in
    let numbers = subst Numbers (read.read ∙ sym p.spells) (numbers_of read.written_as [] None [] read.stand) in
    let lays = module_laid p.text numbers in
    let end = Written.End [] in (
      lays.line end,
      lays.spells end ∙ append-nil _ ∙ ap print_text p.means,
      printed_stands p.text read.written_as read.stand (read.read ∙ sym p.spells) p.keeps,
      record { text = built_module p.text; spells = sym (lays.reads end); keeps = module_kept p.text p.keeps; means = same_module p.text ∙ p.means },
      omega (arith, nested, flat),
    )
