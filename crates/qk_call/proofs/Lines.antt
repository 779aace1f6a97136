-- The lines that a host keeps are those that it is told.
use Rattle.std.proofs.Common.{◌≡◌, ◌∙◌, ap, List, [], ◌∷◌, ◌++◌, refl}
use Rattle.std.proofs.lemmas.Grind.{flat_map-append}
use Rattle.std.proofs.lemmas.List.{append-nil}
use Rattle.qk_ast.specs.Texts.{Text}
use Rattle.qk_meaning.specs.Happening as H
use Rattle.qk_meaning.specs.Happening.{Happening, Did_print}
use Rattle.qk_meaning.specs.Trace.{printed_in}
use Rattle.qk_heap.specs.Told.{Told, Besides}
use Rattle.qk_code.specs.World.{heard_in}
use Rattle.qk_call.specs.Lines.{line_of, lines_told}

pub hears_line : (text : Text) (list : List Told) (lines : List Text) → lines_told list ≡ lines → lines_told (list ++ Besides (Did_print text) ∷ []) ≡ lines ++ text ∷ []
hears_line text list lines e = flat_map-append line_of list (Besides (Did_print text) ∷ []) ∙ ap (λ all. all ++ text ∷ []) e

pub hears_other : (t : Told) (list : List Told) (lines : List Text) → line_of t ≡ [] → lines_told list ≡ lines → lines_told (list ++ t ∷ []) ≡ lines
hears_other t list lines none e = flat_map-append line_of list (t ∷ []) ∙ (ap (λ all. lines_told list ++ (all ++ [])) none ∙ (append-nil (lines_told list) ∙ e))

pub hears_nothing : (list : List Told) (lines : List Text) → lines_told list ≡ lines → lines_told (list ++ []) ≡ lines
hears_nothing list lines e = ap lines_told (append-nil list) ∙ e

-- the lines among what a host is told of a trace are those that it printed
pub lines_heard : (trace : List Happening) → lines_told (heard_in trace) ≡ printed_in trace
lines_heard [] = refl
lines_heard (H.Did_read r ∷ rest) = lines_heard rest
lines_heard (H.Did_log l ∷ rest) = lines_heard rest
lines_heard (H.Did_print line ∷ rest) = ap (λ all. line ∷ all) (lines_heard rest)
lines_heard (H.Began part ∷ rest) = lines_heard rest
lines_heard (H.Left part ∷ rest) = lines_heard rest
lines_heard (H.Hooked kind arguments answered ∷ rest) = lines_heard rest
lines_heard (H.Computing a ∷ rest) = lines_heard rest
lines_heard (H.Computed_so a v ∷ rest) = lines_heard rest
lines_heard (H.Took a v reads ∷ rest) = lines_heard rest
lines_heard (H.Did_act a ∷ rest) = lines_heard rest
lines_heard (H.Entered which ∷ rest) = lines_heard rest
lines_heard (H.Used file name ∷ rest) = lines_heard rest
