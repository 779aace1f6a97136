-- A turn, from what was read in it.
use Rattle.std.specs.Prelude.{◌≡◌, refl, ℕ, Bool, true, false, List, [], ◌∷◌, length, All, Option, Some, None, Result, Ok, Err}
use Rattle.std.specs.Option.{option_map}
use Rattle.std.proofs.Common.{ap, sym, subst, ◌∙◌, arith, zero, suc, ◌⊎◌, inl, inr}
use Rattle.std.proofs.lemmas.List.{append-nil}
use Rattle.std.proofs.lemmas.List.Elements.{All-nil}
use Rattle.qk_ast.specs.Texts.{Text}
use Rattle.qk_ast.specs.Sources.{source_module, is_module_source}
use Rattle.qk_store.specs.Files.{Files}
use Rattle.qk_store.specs.Answers.{Content, gone, too_long, bytes, reading, Answer}
use Rattle.qk_modules.specs.declared.modules.NamedModule.{NamedModule}
use Rattle.qk_modules.specs.declared.fault.GatherFault.{GatherFault}
use Rattle.qk_modules.specs.declared.fault.GatherFault.TheVariants.{Store, Memory, Parse}
use Rattle.qk_parse.specs.declared.parse.ParseFault.TheVariants as parse
use Rattle.qk_modules.specs.Places.{beginning}
use Rattle.qk_modules.specs.Gathering.{named_by, file_of, read_as, IsTold, absence, RefusedTurn, no_source, no_file, long, text, failed, want, want_behind, behind}
use Rattle.qk_modules.specs.Turns.{Turns, TurnComes, TextComes}

not_some : (t : Text) → None ≡ Some t → ⊥
not_some t h = cc

some_is : (a b : Text) → Some a ≡ Some b → a ≡ b
some_is a b h = cc

abbrev named_if : Bool → Text → Option Text
named_if b source = elim b as (λ _. Option Text) [ true ↦ Some (source_module source) | false ↦ None ]

none_if : (b : Bool) (source : Text) → None ≡ named_if b source → b ≡ false
none_if true source h = absurd (not_some (source_module source) h)
none_if false source h = refl

some_if : (b : Bool) (source name : Text) → Some name ≡ named_if b source → (b ≡ true) × (name ≡ source_module source)
some_if true source name h = (refl, some_is name (source_module source) h)
some_if false source name h = absurd (not_some name (sym h))

pub none_named : (source : Text) → None ≡ named_by source → is_module_source source ≡ false
none_named source h = none_if (is_module_source source) source h

pub some_named : (source name : Text) → Some name ≡ named_by source → (is_module_source source ≡ true) × (name ≡ source_module source)
some_named source name h = some_if (is_module_source source) source name h

pub at_begin : (answers : Option (List Answer)) → answers ≡ option_map (behind []) answers
at_begin None = refl
at_begin (Some past) = ap Some (sym (append-nil past))

pub All-one : {A : Type 0} (P : A → Type 0) (x : A) → P x → All P (x ∷ [])
All-one P x h zero d within = h
All-one P x h (suc k) d within = absurd (omega (arith, within))

module _ (files : Option Files) (before : Option (List Answer)) (modules : List NamedModule) (source : Text) where
  -- nothing was read
  pub unread : (fault : GatherFault) → RefusedTurn modules source [] fault → Turns files before before modules source (Err fault)
  unread fault h = record { last = []; answered = at_begin before; told = λ told e. All-nil (IsTold told); comes = h }

  pub unread_absent : (fault : GatherFault) → None ≡ named_by source → (fault ≡ absence modules source) ⊎ (fault ≡ Memory) → Turns files before before modules source (Err fault)
  unread_absent fault none (inl e) = unread fault (subst (RefusedTurn modules source []) (sym e) (no_source (none_named source none)))
  unread_absent fault none (inr e) = unread fault (subst (RefusedTurn modules source []) (sym e) want)

  pub unread_want : (result : Result NamedModule GatherFault) → result ≡ Err Memory → Turns files before before modules source result
  unread_want result e = subst (Turns files before before modules source) (sym e) (unread Memory want)

  -- the read failed
  pub failed_read : (after : Option (List Answer)) (fault : GatherFault) → after ≡ before → (fault ≡ Store) ⊎ (fault ≡ Memory) → Turns files before after modules source (Err fault)
  failed_read after fault same (inl e) = subst (λ a. Turns files before a modules source (Err fault)) (sym same) (unread fault (subst (RefusedTurn modules source []) (sym e) failed))
  failed_read after fault same (inr e) = subst (λ a. Turns files before a modules source (Err fault)) (sym same) (unread fault (subst (RefusedTurn modules source []) (sym e) want))

  -- the file was read
  module _ (after : Option (List Answer)) (name : Text) (found : Content) (named : Some name ≡ named_by source) (answered : after ≡ option_map (behind (read_as name found ∷ [])) before)
      (told : (told : Files) → files ≡ Some told → found ≡ reading (told (file_of name)) 1048576) where
    good : is_module_source source ≡ true
    good = (some_named source name named).0

    name_is : name ≡ source_module source
    name_is = (some_named source name named).1

    turn_read : (so : Content) (result : Result NamedModule GatherFault) → found ≡ so → TurnComes modules source (read_as (source_module source) so ∷ []) result → Turns files before after modules source result
    turn_read so result e h = record {
      last = read_as name found ∷ [];
      answered = answered;
      told = λ t k. All-one (IsTold t) (read_as name found) (told t k);
      comes = subst (λ n. TurnComes modules source (read_as n found ∷ []) result) (sym name_is) (subst (λ c. TurnComes modules source (read_as (source_module source) c ∷ []) result) (sym e) h);
    }

    pub read_gone : (fault : GatherFault) → found ≡ gone → (fault ≡ absence modules source) ⊎ (fault ≡ Memory) → Turns files before after modules source (Err fault)
    read_gone fault e (inl f) = turn_read gone (Err fault) e (subst (RefusedTurn modules source (read_as (source_module source) gone ∷ [])) (sym f) (no_file good))
    read_gone fault e (inr f) = turn_read gone (Err fault) e (subst (RefusedTurn modules source (read_as (source_module source) gone ∷ [])) (sym f) (want_behind gone good))

    pub read_long : (fault : GatherFault) → found ≡ too_long → fault ≡ Parse name parse.TooLong beginning → Turns files before after modules source (Err fault)
    read_long fault e f = turn_read too_long (Err fault) e (subst (RefusedTurn modules source (read_as (source_module source) too_long ∷ [])) (sym (f ∙ ap (λ (n : Text). Parse n parse.TooLong beginning) name_is)) (long good))

    text_turn : (t : Text) (result : Result NamedModule GatherFault) → TextComes (length modules) (source_module source) t result → TurnComes modules source (read_as (source_module source) (bytes t) ∷ []) result
    text_turn t (Ok m) h = (t, refl, good, h)
    text_turn t (Err fault) h = text good h

    pub read_text : (t : Text) (n : ℕ) (result : Result NamedModule GatherFault) → found ≡ bytes t → n ≡ length modules → TextComes n name t result → Turns files before after modules source result
    read_text t n result e many h = turn_read (bytes t) result e (text_turn t result (subst (λ k. TextComes k (source_module source) t result) many (subst (λ x. TextComes n x t result) name_is h)))
