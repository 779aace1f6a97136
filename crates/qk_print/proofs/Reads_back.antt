-- The printed text derives the module as a built file, where its tokens stand.
use Rattle.std.specs.Prelude.{◌≡◌, refl, ◌≤◌, ℕ, None, List, []}
use Rattle.std.specs.Str.{encode_utf8_all}
use Rattle.qk_ast.specs.declared.Form.TheVariants.{Source, Built}
use Rattle.qk_ast.specs.declared.Module.{Module}
use Rattle.qk_ast.specs.Tokens.{Written, written, tokens_of, stands}
use Rattle.qk_ast.specs.Depth.{module_depth}
use Rattle.qk_ast.specs.Derives.{Derives, Parses, deepest}
use Rattle.qk_print.specs.Printing.{print_text}
use Rattle.qk_print.proofs.Lengths_kept.{built_short}
use Rattle.qk_print.proofs.Scalars_kept.{built_scalars}

pub reads_back : (source : List ℕ) (m : Module) → Derives Source source m → (printed : Written) → encode_utf8_all (written printed []) ≡ print_text m → stands [] None printed []
    → (q : Parses Built (tokens_of printed) m) → module_depth q.text ≤ deepest Built → Derives Built (print_text m) m
reads_back source m d printed e s q f = record {
  characters = written printed [];
  scalars = built_scalars source m d (written printed []) e;
  encoded = e;
  short = built_short source m d;
  tokens = tokens_of printed;
  read = record { written_as = printed; spells = refl; stand = s; read = refl };
  parse = q;
  flat = f;
}
