-- A text derives what the reader answers to its tokens.
use Rattle.std.specs.Prelude.{◌≡◌, refl, ◌≤◌, List, length, Ok, IsTrue}
use Rattle.std.specs.Str.{encode_utf8_all, all_scalars}
use mathlib.Core.Path.{subst}
use Rattle.qk_ast.specs.declared.Form.{Form}
use Rattle.qk_ast.specs.declared.Module.{Module}
use Rattle.qk_ast.specs.Characters.{Characters}
use Rattle.qk_ast.specs.Tokens.{Token, Tokens}
use Rattle.qk_ast.specs.Derives.{Derives, longest, deepest}
use Rattle.qk_reading.specs.Reader.{read_module}
use Rattle.qk_reading.specs.Laws.{ParsesWithin}
use Rattle.qk_reading.proofs.Modules.{read_whole}
use Rattle.qk_reading.proofs.SoundModules.{read_is_written}
use Rattle.qk_reading.proofs.OneModule.{same_tokens}

pub derived_is_read : (form : Form) (text : Characters) (ts : List Token) (m : Module) → IsTrue (all_scalars text) → Tokens text ts → Derives form (encode_utf8_all text) m → read_module form (deepest form) ts ≡ Ok m
derived_is_read form text ts m scalars read d =
    let p : ParsesWithin form (deepest form) ts m = subst (λ ts. ParsesWithin form (deepest form) ts m) (same_tokens d.characters text d.tokens ts d.scalars scalars d.encoded d.read read) (record { parse = d.parse; flat = d.flat }) in
    read_whole form ts m p.parse (deepest form) p.flat

pub read_is_derived : (form : Form) (text : Characters) (ts : List Token) (m : Module) → IsTrue (all_scalars text) → length (encode_utf8_all text) ≤ longest form → Tokens text ts → read_module form (deepest form) ts ≡ Ok m → Derives form (encode_utf8_all text) m
read_is_derived form text ts m scalars short read e =
    let p = read_is_written form (deepest form) ts m e in
    record { characters = text; scalars = scalars; encoded = refl; short = short; tokens = ts; read = read; parse = p.parse; flat = p.flat }
