-- A call over the code of one module is one in the program of that module.
use Rattle.std.proofs.Common.{◌≡◌, ◌∙◌, ap, subst, List, [], ◌∷◌, ◌++◌}
use Rattle.qk_ast.specs.declared.Form.TheVariants.{Source}
use Rattle.qk_ast.specs.Sources.{Named_module}
use Rattle.qk_ast.specs.Texts.{Text}
use Rattle.qk_base.specs.declared.meter.Budget.{Budget}
use Rattle.qk_meaning.specs.Readings.{captured_program_of}
use Rattle.qk_meaning.specs.Running.{Mode}
use Rattle.qk_application.specs.declared.application.Application.{Application}
use Rattle.qk_code.specs.Sources.{Sources, Extends, reading}
use Rattle.qk_whole.specs.Taking.{named}
use Rattle.qk_call.specs.declared.played.Played.{Played}
use Rattle.qk_call.specs.declared.played.Ending.{Ending}
use Rattle.qk_call.specs.Calling.{ComesOf}
use Rattle.qk_call.specs.Alone.{IsOfText}
use Rattle.qk_call.specs.Playing.{PlaysNamed, ending_of}
use Rattle.qk_call.specs.Printing.{IsText}

-- the file and the name are those of the texts with which the call was made
pub comes_of : (source file name file' name' : Text) (a : Application) (before after : Sources) (most : Budget) (mode : Mode) (played : Played) (ending : Ending) (text : Text)
    → IsOfText source file a → before.files ≡ named a.modules.list → Extends before after → file' ≡ file → name' ≡ name → PlaysNamed (reading Source after) file' name' most mode played → IsText played text → ending ≡ ending_of played.came
    → ComesOf source file name most mode ending text
comes_of source file name file' name' a before after most mode played ending text of files grows same_file same_name plays printed ends =
    let alone : named a.modules.list ≡ (file, of.tree) ∷ [] = ap (λ (b : Application). named b.modules.list) of.alone.is in
    let all : after.files ≡ (file, of.tree) ∷ grows.added = grows.files ∙ ap (λ (fs : List Named_module). fs ++ grows.added) (files ∙ alone) in
    let of_file : PlaysNamed (reading Source after) file name' most mode played = subst (λ (t : Text). PlaysNamed (reading Source after) t name' most mode played) same_file plays in
    let of_name : PlaysNamed (reading Source after) file name most mode played = subst (λ (t : Text). PlaysNamed (reading Source after) file t most mode played) same_name of_file in
    record {
      tree = of.tree;
      derives = of.derives;
      others = grows.added;
      played = played;
      plays = subst (λ (fs : List Named_module). PlaysNamed (captured_program_of fs) file name most mode played) all of_name;
      is = printed;
      ends = ends;
    }
