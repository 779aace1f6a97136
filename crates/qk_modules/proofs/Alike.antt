-- Over the same files two gatherings read the same modules, as far as both go.
use Rattle.std.specs.Prelude.{◌≡◌, refl, IsTrue, List, [], ◌∷◌, ◌++◌, map, All, Some}
use Rattle.std.specs.Str.{IsUtf8}
use Rattle.std.proofs.Common.{ap, sym, subst, ◌∙◌}
use Rattle.std.proofs.lemmas.List.{append-nil, append_assoc}
use Rattle.std.proofs.lemmas.List.Elements.{All-head, All-tail}
use Rattle.qk_ast.specs.declared.Form.TheVariants.{Source}
use Rattle.qk_ast.specs.Derives.{Derives}
use Rattle.qk_ast.specs.Texts.{Text}
use Rattle.qk_ast.specs.Framework.{is_module_name}
use Rattle.qk_store.specs.Files.{Files}
use Rattle.qk_store.specs.Answers.{bytes, reading, Answer}
use Rattle.qk_reading.proofs.Modules.{one_parse}
use Rattle.qk_reading.proofs.OneModule.{one_module}
use Rattle.qk_modules.specs.Gathering.{file_of, source_of, Read_module, IsNext, InTurn, IsFront, read_of, IsTold}
use Rattle.qk_modules.proofs.Sourcing.{source_of_one}

-- ---- a module that was read of these files

pub record IsRead (files : Files) (m : Read_module) : Type 0 where
  pub name : IsTrue (is_module_name m.name)
  pub utf8 : IsUtf8 m.text
  pub derived : Derives Source m.text m.tree
  pub told : IsTold files (read_of m)

abbrev pub AreRead : Files → List Read_module → Type 0
AreRead files [] = Unit {0}
AreRead files (m ∷ rest) = IsRead files m × AreRead files rest

each_read : (files : Files) (read : List Read_module) (last : List Answer)
    → All (λ (m : Read_module). IsTrue (is_module_name m.name)) read → All (λ (m : Read_module). IsUtf8 m.text) read → All (λ (m : Read_module). Derives Source m.text m.tree) read
    → All (IsTold files) (map read_of read ++ last) → AreRead files read
each_read files [] last names utf8 derived told = tt
each_read files (m ∷ read) last names utf8 derived told =
    let one : IsRead files m = record {
      name = All-head (λ (m : Read_module). IsTrue (is_module_name m.name)) m read names;
      utf8 = All-head (λ (m : Read_module). IsUtf8 m.text) m read utf8;
      derived = All-head (λ (m : Read_module). Derives Source m.text m.tree) m read derived;
      told = All-head (IsTold files) (read_of m) (map read_of read ++ last) told;
    } in (
      one,
      each_read files read last
          (All-tail (λ (m : Read_module). IsTrue (is_module_name m.name)) m read names)
          (All-tail (λ (m : Read_module). IsUtf8 m.text) m read utf8)
          (All-tail (λ (m : Read_module). Derives Source m.text m.tree) m read derived)
          (All-tail (IsTold files) (read_of m) (map read_of read ++ last) told),
    )

pub are_read : (files : Files) (read : List Read_module) (last : List Answer) → IsFront read → All (IsTold files) (map read_of read ++ last) → AreRead files read
are_read files read last front told = each_read files read last front.names front.utf8 front.derived told

-- what was read last is told too
pub last_told : (files : Files) (front last : List Answer) → All (IsTold files) (front ++ last) → All (IsTold files) last
last_told files [] last h = h
last_told files (a ∷ front) last h = last_told files front last (All-tail (IsTold files) a (front ++ last) h)

-- ---- the same source, the same module

pub bytes_is : (a b : Text) → bytes a ≡ bytes b → a ≡ b
bytes_is a b h = cc

some_is : (a b : Text) → Some a ≡ Some b → a ≡ b
some_is a b h = cc

same_module : (files : Files) (x y : Read_module) → IsRead files x → IsRead files y → source_of x.name ≡ source_of y.name → x ≡ y
same_module files x y of_x of_y e =
    let name : x.name ≡ y.name = source_of_one x.name y.name e in
    let text : x.text ≡ y.text = bytes_is x.text y.text (of_x.told ∙ ap (λ (n : Text). reading (files (file_of n)) 1048576) name ∙ sym of_y.told) in
    let tree : x.tree ≡ y.tree = one_module Source (one_parse Source) y.text x.tree y.tree (subst (λ (t : Text). Derives Source t x.tree) text of_x.derived) of_y.derived in
    λ j. record { name = name j; text = text j; tree = tree j }

-- ---- two that were read

-- How two that were read behind the same stand to one another: they are the same, or one goes on behind the other.
pub data Standing (files : Files) (before a b : List Read_module) : Type 0 where
  same : a ≡ b → Standing files before a b
  first_on : {m : Read_module} (more : List Read_module) → a ≡ b ++ m ∷ more → IsNext (before ++ b) (source_of m.name) → IsRead files m → Standing files before a b
  second_on : {m : Read_module} (more : List Read_module) → b ≡ a ++ m ∷ more → IsNext (before ++ a) (source_of m.name) → IsRead files m → Standing files before a b

next_behind : (before rest : List Read_module) (x : Read_module) (source : Text) → IsNext ((before ++ x ∷ []) ++ rest) source → IsNext (before ++ x ∷ rest) source
next_behind before rest x source h = subst (λ l. IsNext l source) (append_assoc before (x ∷ []) rest) h

-- behind one that both read
behind_one : (files : Files) (before a b : List Read_module) (x : Read_module) → Standing files (before ++ x ∷ []) a b → Standing files before (x ∷ a) (x ∷ b)
behind_one files before a b x (same e) = same (ap (λ l. x ∷ l) e)
behind_one files before a b x (first_on {m = m} more e next read) = first_on {m = m} more (ap (λ l. x ∷ l) e) (next_behind before b x (source_of m.name) next) read
behind_one files before a b x (second_on {m = m} more e next read) = second_on {m = m} more (ap (λ l. x ∷ l) e) (next_behind before a x (source_of m.name) next) read

pub standing : (files : Files) (before a b : List Read_module) → InTurn before a → InTurn before b → AreRead files a → AreRead files b → Standing files before a b
standing files before [] [] turns_a turns_b read_a read_b = same refl
standing files before (x ∷ a) [] turns_a turns_b read_a read_b =
    first_on {m = x} a refl (subst (λ l. IsNext l (source_of x.name)) (sym (append-nil before)) turns_a.0) read_a.0
standing files before [] (y ∷ b) turns_a turns_b read_a read_b =
    second_on {m = y} b refl (subst (λ l. IsNext l (source_of y.name)) (sym (append-nil before)) turns_b.0) read_b.0
standing files before (x ∷ a) (y ∷ b) turns_a turns_b read_a read_b =
    let e : x ≡ y = same_module files x y read_a.0 read_b.0 (some_is (source_of x.name) (source_of y.name) (sym turns_a.0 ∙ turns_b.0)) in
    subst (λ z. Standing files before (x ∷ a) (z ∷ b)) e
    (behind_one files before a b x (standing files (before ++ x ∷ []) a b turns_a.1 (subst (λ z. InTurn (before ++ z ∷ []) b) (sym e) turns_b.1) read_a.1 read_b.1))
