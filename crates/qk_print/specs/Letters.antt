-- How texts, numbers, names and signs are printed, and what stands between them. A text is its bytes in UTF-8.
use Rattle.std.specs.Prelude.{ℕ, ◌+◌, ◌/◌, ◌%◌, Bool, true, false, if◌then◌else◌, ◌==◌, nat_lt, List, [], ◌∷◌, ◌++◌, codes, flat_map}
use Rattle.qk_ast.specs.declared.Un.{Un}
use Rattle.qk_ast.specs.declared.Un.TheVariants as un
use Rattle.qk_ast.specs.declared.Bin.{Bin}
use Rattle.qk_ast.specs.declared.Bin.TheVariants as bin
use Rattle.qk_ast.specs.declared.AssignOp.{AssignOp}
use Rattle.qk_ast.specs.declared.AssignOp.TheVariants as assign
use Rattle.std.specs.List.{list_any}

abbrev pub Text : Type 0
Text = List ℕ

-- ---- lists

-- texts with this one between them
abbrev pub between : Text → List Text → Text
between sign [] = []
between sign (t ∷ ts) = t ++ flat_map (λ later. sign ++ later) ts

abbrev pub commas : List Text → Text
commas = between (codes ", ")

-- in braces, with a space at both sides; the empty ones are `{ }`
abbrev pub braced : List Text → Text
braced [] = codes "{ }"
braced (t ∷ ts) = codes "{ " ++ (commas (t ∷ ts) ++ codes " }")

-- in parentheses, unless it stands bare
abbrev pub unless_bare : Bool → Text → Text
unless_bare true t = t
unless_bare false t = codes "(" ++ (t ++ codes ")")

-- ---- texts and templates

-- a hexadecimal digit in small letters
abbrev pub digit : ℕ → ℕ
digit n = if nat_lt n 10 then 48 + n else 87 + n

-- a character below 32
abbrev pub control : ℕ → Text
control c = if c == 10 then codes "\\n" else (if c == 13 then codes "\\r" else (if c == 9 then codes "\\t"
    else codes "\\u00" ++ digit (c / 16) ∷ digit (c % 16) ∷ []))

-- a character, with a backslash before it where it is one of these
abbrev pub escaped : Text → ℕ → Text
escaped marked c = if nat_lt c 32 then control c else (if list_any (λ m. m == c) marked then 92 ∷ c ∷ [] else c ∷ [])

abbrev pub quoted : Text → Text
quoted t = codes "\"" ++ (flat_map (escaped (codes "\"\\")) t ++ codes "\"")

abbrev pub template_part : Text → Text
template_part = flat_map (escaped (codes "`\\$"))

-- parts and holes by turns
abbrev pub parts_and_holes : List Text → List Text → Text
parts_and_holes parts [] = flat_map template_part parts
parts_and_holes [] (hole ∷ holes) = codes "${" ++ (hole ++ (codes "}" ++ parts_and_holes [] holes))
parts_and_holes (part ∷ parts) (hole ∷ holes) = template_part part ++ (codes "${" ++ (hole ++ (codes "}" ++ parts_and_holes parts holes)))

-- ---- signs

abbrev pub truth : Bool → Text
truth true = codes "true"
truth false = codes "false"

abbrev pub un_sign : Un → Text
un_sign un.Not = codes "!"
un_sign un.Neg = codes "-"

abbrev pub bin_sign : Bin → Text
bin_sign bin.Or = codes " || "
bin_sign bin.And = codes " && "
bin_sign bin.Coalesce = codes " ?? "
bin_sign bin.Same = codes " === "
bin_sign bin.NotSame = codes " !== "
bin_sign bin.Less = codes " < "
bin_sign bin.LessEq = codes " <= "
bin_sign bin.More = codes " > "
bin_sign bin.MoreEq = codes " >= "
bin_sign bin.Add = codes " + "
bin_sign bin.Sub = codes " - "
bin_sign bin.Mul = codes " * "
bin_sign bin.Rem = codes " % "

abbrev pub assign_sign : AssignOp → Text
assign_sign assign.Set = codes " = "
assign_sign assign.Add = codes " += "
assign_sign assign.Sub = codes " -= "
assign_sign assign.Mul = codes " *= "

abbrev pub bump_sign : Bool → Text
bump_sign true = codes "++"
bump_sign false = codes "--"
