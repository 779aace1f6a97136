-- The application of one module that keeps all rules is accepted.
use Rattle.std.proofs.Common.{◌≡◌, ◌∙◌, ap, sym, subst, Bool, true, ◌||◌, List, [], ◌∷◌, ◌++◌, refl}
use Rattle.std.specs.Prelude.{All, IsTrue}
use Rattle.std.proofs.lemmas.List.Elements.{All-weaker, All-cons, All-nil}
use Rattle.std.proofs.lemmas.List.Sums.{AllPass-from_list_all}
use Rattle.qk_ast.specs.declared.Import.{Import}
use Rattle.qk_ast.specs.Application.{Breach, placing_of}
use Rattle.qk_ast.specs.Framework.{framework, is_module_name}
use Rattle.qk_ast.specs.Sources.{Named_module, is_module_source}
use Rattle.qk_ast.specs.Texts.{Text, same_text}
use Rattle.qk_modules.specs.declared.modules.NamedModule.{NamedModule}
use Rattle.qk_application.specs.declared.application.Application.{Application}
use Rattle.qk_application.specs.Accepting.{named_module}
use Rattle.qk_source_alike.specs.Accepted.{Derived}
use Rattle.qk_whole.specs.Taking.{IsAccepted, IsSource}
use Rattle.qk_call.specs.Alone.{IsOfText, is_of_framework}

or_before : (a b : Bool) → IsTrue a → IsTrue (a || b)
or_before a b h = ap (λ c. c || b) h

pub accepted : (source name : Text) (a : Application) → IsOfText source name a → IsAccepted a
accepted source name a of =
    let m : NamedModule = record { name = name; «module» = of.tree } in
    subst IsAccepted (sym of.alone.is) (record {
      modules = record {
        names = All-cons (λ (d : Named_module). IsTrue (is_module_name d.0)) (named_module m) [] of.named (All-nil (λ (d : Named_module). IsTrue (is_module_name d.0)));
        derived = All-cons (λ (d : Named_module). Derived d.1) (named_module m) [] (record { bytes = source; derives = of.derives }) (All-nil (λ (d : Named_module). Derived d.1));
        kept = ap (λ (all : List Breach). (all ++ []) ++ (placing_of (named_module m ∷ []) (named_module m) ++ [])) of.alone.names ∙ ap (λ (all : List Breach). all ++ []) of.alone.places;
      };
      sources = All-cons (λ (d : NamedModule). All (λ (i : Import). IsSource i.from) d.«module».imports) m []
          (All-weaker (λ (i : Import). is_of_framework i ≡ true) (λ (i : Import). IsSource i.from) (λ i h. or_before (same_text i.from framework) (is_module_source i.from) h) of.tree.imports (AllPass-from_list_all is_of_framework of.tree.imports of.imports))
          (All-nil (λ (d : NamedModule). All (λ (i : Import). IsSource i.from) d.«module».imports));
      names = refl;
    })
