-- The files of the modules, one module after another.
use Rattle.std.specs.Prelude.{◌≡◌, refl, ℕ, ◌+◌, ◌<◌, ltb, Bool, true, false, List, [], length, Option, Some, None, get_or, String}
use Rattle.std.specs.BTreeMap.{BTreeMap, get_by_text, is_at}
use Rattle.std.specs.Map.{lookup}
use Rattle.std.specs.Cmp.Lexicographic.{slice_cmp}
use Rattle.std.specs.Ordering.{nat_cmp}
use Rattle.std.specs.String.{string_bytes}
use Rattle.std.proofs.Common.{sym, ◌∙◌, ap, subst, arith}
use Rattle.std.proofs.lemmas.Bool.{ltb-true}
use Rattle.std.proofs.lemmas.Bool.Decides.{nat_tests}
use Rattle.std.proofs.lemmas.List.{length-map, get_or-map}
use Rattle.std.proofs.lemmas.Option.{slice_get-get_or}
use Rattle.std.proofs.lemmas.Slice.Eq.{bytes_eq-Decides}
use Rattle.qk_ast.specs.Texts.{Text, same_text}
use Rattle.qk_modules.specs.declared.modules.NamedModule.{NamedModule}
use Rattle.qk_scope.specs.declared.resolver.Names.{Names}
use Rattle.qk_application.specs.declared.application.Application.{Application}
use Rattle.qk_application.specs.Accepting.{names_of}
use Rattle.qk_whole.specs.declared.files.File.{File}
use Rattle.qk_whole.specs.Firsts.{earlier, one_named}
use Rattle.qk_whole.specs.Filing.{IsFileOf}
use Rattle.qk_whole.specs.Taking.{IsAccepted}
use Rattle.qk_whole.specs.Holding.{Holds_file, Holds_files}
use Rattle.qk_whole.proofs.Held_files.{held}

some_is : {X : Type 0} (d : X) {a b : X} → Some a ≡ Some b → a ≡ b
some_is {X} d e = ap (λ o. elim o as (λ y. X) [ Some x ↦ x | None ↦ d ]) e

pub named_at : (a : Application) → IsAccepted a → (at : ℕ) (m : NamedModule) (d : Names) → at < length a.modules.list → m ≡ get_or a.modules.list at m → get_or a.names at d ≡ names_of m
named_at a accepted at m d l is = ap (λ (ns : List Names). get_or ns at d) accepted.names ∙ get_or-map names_of a.modules.list at m d l ∙ ap names_of (sym is)

pub as_many_names : (a : Application) → IsAccepted a → length a.names ≡ length a.modules.list
as_many_names a accepted = ap (λ (ns : List Names). length ns) accepted.names ∙ length-map a.modules.list names_of

pub files_more : {Y : Type 0} (a : Application) → IsAccepted a → (at : ℕ) (m : NamedModule) → at < length a.modules.list → m ≡ get_or a.modules.list at m → (c : File) → IsFileOf m c
    → (old new : BTreeMap (String Y) File) → ((q : Text) → get_by_text new q ≡ earlier (get_by_text old q) (one_named m.name c q)) → Holds_files a.modules.list at old → Holds_files a.modules.list (at + 1) new
files_more a accepted at m below here c of old new put h = record {
  each = λ name f e. each name f (get_by_text old name) refl (same_text m.name name) refl (sym (put name) ∙ e);
  all = λ name e k d l. all name (get_by_text old name) refl (same_text m.name name) refl (sym (put name) ∙ e) k d l;
}
  where
    any : (d : NamedModule) → get_or a.modules.list at d ≡ m
    any d = some_is m (sym (slice_get-get_or a.modules.list at d below) ∙ slice_get-get_or a.modules.list at m below) ∙ sym here

    each : (name : Text) (f : File) (o : Option File) → get_by_text old name ≡ o → (b : Bool) → same_text m.name name ≡ b
        → earlier o (elim b as (λ y. Option File) [ true ↦ Some c | false ↦ None ]) ≡ Some f → Holds_file a.modules.list name f
    each name f (Some g) p b q e = h.each name f (p ∙ e)
    each name f None p true q e = subst (λ t. Holds_file a.modules.list t f) ((bytes_eq-Decides m.name name).0 q)
        (subst (Holds_file a.modules.list m.name) (some_is c e) (held a accepted at m below here (λ k l. h.all m.name (ap (get_by_text old) ((bytes_eq-Decides m.name name).0 q) ∙ p) k m l) c of))
    each name f None p false q e = absurd (none_some e)
      where
        none_some : None ≡ Some f → ⊥
        none_some e = cc

    all : (name : Text) (o : Option File) → get_by_text old name ≡ o → (b : Bool) → same_text m.name name ≡ b
        → earlier o (elim b as (λ y. Option File) [ true ↦ Some c | false ↦ None ]) ≡ None → (k : ℕ) (d : NamedModule) → k < at + 1 → same_text (get_or a.modules.list k d).name name ≡ false
    all name (Some g) p b q e k d l = absurd (some_none e)
      where
        some_none : Some g ≡ None → ⊥
        some_none e = cc
    all name None p true q e k d l = absurd (some_none e)
      where
        some_none : Some c ≡ None → ⊥
        some_none e = cc
    all name None p false q e k d l = go (ltb k at) refl
      where
        last : ltb k at ≡ false → k ≡ at
        last r = grind (arith, nat_tests)

        go : (b : Bool) → ltb k at ≡ b → same_text (get_or a.modules.list k d).name name ≡ false
        go true r = h.all name p k d (ltb-true k at r)
        go false r = ap (λ n. same_text (get_or a.modules.list n d).name name) (last r) ∙ ap (λ (x : NamedModule). same_text x.name name) (any d) ∙ q

pub files_none : {Y : Type 0} (ms : List NamedModule) (files : BTreeMap (String Y) File) → files.entries ≡ [] → Holds_files ms 0 files
files_none {Y} ms files h = record { each = λ name f e. absurd (none_some f (sym (none name) ∙ e)); all = λ name e k d l. absurd (nothing k l) }
  where
    none : (name : Text) → get_by_text files name ≡ None
    none name = ap (λ (es : List (String Y × File)). lookup (is_at (λ k. slice_cmp nat_cmp name (string_bytes k))) es) h

    none_some : (f : File) → None ≡ Some f → ⊥
    none_some f e = cc

    nothing : (k : ℕ) → k < 0 → ⊥
    nothing k l = omega (arith, l)
