-- What a code is asked for, and what of a trace that is.
use Rattle.std.specs.Prelude.{◌≡◌, List, [], ◌∷◌, ◌++◌, Result, Err}
use Rattle.qk_meaning.specs.Happening.{Happening, At_site, Of_symbol, Entered, Used}
use Rattle.qk_value.specs.View.{plain_site, no_symbol}
use Rattle.qk_code.specs.declared.ask.Ask.{Ask}
use Rattle.qk_code.specs.declared.ask.Ask.TheVariants.{Body, Plain, Root}
use Rattle.qk_code.specs.declared.stop.CodeFault.{CodeFault}
use Rattle.qk_code.specs.declared.stop.CodeFault.TheVariants.{Memory}

-- whatever list was stood for, with this behind it is stood for now
abbrev pub Goes_on : {X : Type 0} → (List X → Type 0) → (List X → Type 0) → List X → Type 0
Goes_on {X} before after more = (list : List X) → before list → after (list ++ more)

-- what a call asks for comes behind the list, whatever is answered; want of memory leaves the list
abbrev pub asks_answered : {A : Type 0} → Ask → Result A CodeFault → List Ask
asks_answered ask (Err Memory) = []
asks_answered ask _ = ask ∷ []

-- what is asked for in a trace: the arrows that are entered and the names of roots that are used, in order
abbrev pub asks_in : List Happening → List Ask
asks_in [] = []
asks_in (Entered (Of_symbol symbol) ∷ rest) = Body symbol ∷ asks_in rest
asks_in (Entered (At_site site) ∷ rest) = Plain site.file site.number ∷ asks_in rest
asks_in (Used file name ∷ rest) = Root file name ∷ asks_in rest
asks_in (_ ∷ rest) = asks_in rest

-- It is what this is asked for: an arrow is entered or a name of a root used. A plain function whose values don't fit the names that its arrow captures is entered by a spelling that no text has.
abbrev pub Asks : Happening → Ask → Type 0
Asks (Entered (Of_symbol symbol)) (Body other) = symbol ≡ other
Asks (Entered (Of_symbol symbol)) (Plain file number) = symbol ≡ no_symbol file number
Asks (Entered (At_site site)) (Plain file number) = site ≡ plain_site file number
Asks (Used file name) (Root other same) = (file ≡ other) × (name ≡ same)
Asks _ _ = ⊥
