-- What the component's function does at its mount and again.
use Rattle.std.specs.Prelude.{◌≡◌, refl, ℕ, suc, ◌+◌, max, ℤ, pos, Bool, true, false, List, [], ◌∷◌, ◌++◌, None, length, nat_le, codes}
use Rattle.std.proofs.Common.{ap, ◌∙◌, append-nil}
use Rattle.qk_ast.specs.First.{First_attribute, Id, On_click}
use Rattle.qk_ast.specs.declared.Jsx.{Jsx}
use Rattle.qk_ast.specs.declared.Tag.{Tag}
use Rattle.qk_meaning.specs.Value.{Text, Site, Element, Value, Fields, Undefined, Int, Words, Ref, Elem, Closure, end, field}
use Rattle.qk_meaning.specs.World.{Object, Props, Signal, Loc, Step, Instance, Kept}
use Rattle.qk_ast.specs.Texts.{same_text}
use Rattle.qk_meaning.specs.Same.{weight, weight_of_named, depth, depth_of_named}
use Rattle.qk_meaning.specs.Parts.{packed, value_at, found, has_field, replaced}
use Rattle.qk_meaning.specs.Markup as Markup
use Rattle.qk_meaning.specs.Markup.{markup_fault}
use Rattle.qk_meaning.specs.Program.{Program, Framework, Code}
use Rattle.qk_meaning.specs.Doing.{Gives}
use Rattle.qk_meaning.specs.Happening.{At_site, Happening, Did_read, Entered, Hooked, Signal_hook, Gives_value}
use Rattle.qk_meaning.specs.Running.{Running, Pure, Hooking, Mounting, Again}
use Rattle.qk_meaning.specs.Setting.{called_anew, Entering, Setting, captures}
use Rattle.qk_meaning.specs.Making.{made_function, made, made_markup}
use Rattle.qk_meaning.specs.Evaluation.{entered, field_values, values, markup}
use Rattle.qk_first.proofs.Texts.{text_own}
use Rattle.qk_first.proofs.Words.{root, listener_site, attribute_pairs, field_row, children, row, element, with_signal, without_signal}
use Rattle.qk_first.proofs.Listener.{listener_code, value_in}

-- the code of the component
abbrev pub component_code : Text → ℤ → Jsx → Code
component_code n k jsx = record { file = root; captures = []; task = false; params = []; body = with_signal n k jsx }

-- the same without a signal
abbrev pub bare_code : Jsx → Code
bare_code jsx = record { file = root; captures = []; task = false; params = []; body = without_signal jsx }

-- the attributes that the element has, where the signal has address 1
abbrev pub attribute_fields : Text → List First_attribute → Fields
attribute_fields n [] = end
attribute_fields n (Id id ∷ more) = field (codes "id") (Words id) (attribute_fields n more)
attribute_fields n (On_click up ∷ more) = field (codes "onClick$") (Closure listener_site (field n (Ref 1) end) false) (attribute_fields n more)

abbrev pub child_values : Bool → ℤ → List Value
child_values true v = Int v ∷ []
child_values false v = []

-- what happens besides the entering: the signal is read where it is shown
abbrev pub reads_told : Bool → ℕ → List Happening
reads_told true at = Did_read (record { loc = value_in 1; at = at }) ∷ []
reads_told false at = []

-- how the hook of the signal is answered, with the objects that are made for it
abbrev pub hook_told : ℤ → List Object → Happening
hook_told k made = Hooked Signal_hook (Int k ∷ []) (record { answer = Gives_value (Ref 1); made = made })

module _ (p : Program) (enter : Entering) (n : Text) where
  own : same_text n n ≡ true
  own = text_own n

  abbrev pub here : Setting
  here = record { program = p; enter = enter; computed = called_anew enter []; mode = Pure; running = []; file = root; tracks = false }

  abbrev pub counting : ℤ → List Loc → List Text → ℕ → List Happening → Hooking → Running
  counting v log lines turns trace hooking = record { heap = Props end ∷ Signal (Int v) ∷ []; log = log; lines = lines; turns = turns; trace = trace; locals = field n (Ref 1) end; hooking = hooking; kept = [] }

  has_own : (v : Value) → has_field n (field n v end) ≡ true
  has_own v = rw (own, has_field)

  value_own : (v : Value) → value_at n (field n v end) ≡ v
  value_own v = rw (own, value_at, found)

  replaced_own : (v w : Value) → replaced n w (field n v end) ≡ field n w end
  replaced_own v w = rw (own, replaced)

  shows_children : (shows : Bool) (v : ℤ) (log : List Loc) (lines : List Text) (turns : ℕ) (trace : List Happening) (hooking : Hooking)
      → values (row (children shows n)) here (counting v log lines turns trace hooking) ≡ Gives (child_values shows v) (counting v log lines turns (trace ++ reads_told shows (length log)) hooking)
  shows_children true v log lines turns trace hooking = rw (has_own (Ref 1), value_own (Ref 1))
  shows_children false v log lines turns trace hooking = rw append-nil

  module _ (makes : (s : Site) (scope : Fields) → p.makes s scope ≡ Closure s scope false) (sited : p.site root 1 ≡ listener_site) (up : Bool) (coded : p.code listener_site ≡ listener_code n up) where
    abbrev pub own_listener : Value
    own_listener = Closure listener_site (field n (Ref 1) end) false

    named_weight : weight_of_named (captures here) (field n (Ref 1) end) n ≡ 1
    named_weight = rw (own, weight_of_named)

    named_depth : depth_of_named (captures here) (field n (Ref 1) end) n ≡ 0
    named_depth = rw (own, depth_of_named)

    pub listener_weight : weight (captures here) own_listener ≡ 2
    listener_weight = rw coded (ap (λ (w : ℕ). suc (w + 0)) named_weight)

    pub listener_depth : depth (captures here) own_listener ≡ 1
    listener_depth = rw coded (ap (λ (w : ℕ). suc (max w 0)) named_depth)

    makes_listener : (v : ℤ) (log : List Loc) (lines : List Text) (turns : ℕ) (trace : List Happening) (hooking : Hooking)
        → made_function here 1 (counting v log lines turns trace hooking) ≡ Gives own_listener (counting v log lines turns trace hooking)
    makes_listener v log lines turns trace hooking = rw (sited, makes listener_site (field n (Ref 1) end), listener_weight, listener_depth)

    pub gives_fields : (attributes : List First_attribute) (v : ℤ) (log : List Loc) (lines : List Text) (turns : ℕ) (trace : List Happening) (hooking : Hooking)
        → field_values (field_row (attribute_pairs n attributes)) here (counting v log lines turns trace hooking) ≡ Gives (attribute_fields n attributes) (counting v log lines turns trace hooking)
    gives_fields [] v log lines turns trace hooking = refl
    gives_fields (Id id ∷ more) v log lines turns trace hooking = rw (gives_fields more v log lines turns trace hooking)
    gives_fields (On_click true ∷ more) v log lines turns trace hooking = rw (makes_listener v log lines turns trace hooking, gives_fields more v log lines turns trace hooking)
    gives_fields (On_click false ∷ more) v log lines turns trace hooking = rw (makes_listener v log lines turns trace hooking, gives_fields more v log lines turns trace hooking)

  abbrev pub view : Text → Bool → Fields → ℤ → Value
  view tag shows attributes v = Elem (Element tag) None [] attributes (packed (child_values shows v))

  -- the element is made within the limits
  pub record Makes (tag : Text) (shows : Bool) (attributes : Fields) : Type 0 where
    pub no_fault : (v : ℤ) → markup_fault (Element tag) attributes (packed (child_values shows v)) ≡ None
    pub makes_view : (v : ℤ) → Markup.element (Element tag) attributes (packed (child_values shows v)) ≡ view tag shows attributes v
    pub light : (v : ℤ) → nat_le (weight (captures here) (view tag shows attributes v)) 65536 ≡ true
    pub flat : (v : ℤ) → nat_le (depth (captures here) (view tag shows attributes v)) 32 ≡ true

  module _ (tag : Text) (shows : Bool) (attributes : List First_attribute) (makes : Makes tag shows (attribute_fields n attributes))
      (fields : (v : ℤ) (log : List Loc) (lines : List Text) (turns : ℕ) (trace : List Happening) (hooking : Hooking)
      → field_values (field_row (attribute_pairs n attributes)) here (counting v log lines turns trace hooking) ≡ Gives (attribute_fields n attributes) (counting v log lines turns trace hooking)) where
    makes_element : (v : ℤ) (s : Running) → made_markup here (Tag.Element tag) (attribute_fields n attributes) (child_values shows v) s ≡ Gives (view tag shows (attribute_fields n attributes) v) s
    makes_element v s = rw (makes.no_fault v) (ap (λ (w : Value). made here w s) (makes.makes_view v) ∙ rw (makes.light v, makes.flat v))

    shows_markup : (v : ℤ) (log : List Loc) (lines : List Text) (turns : ℕ) (trace : List Happening) (hooking : Hooking)
        → markup (element shows n tag attributes) here (counting v log lines turns trace hooking) ≡ Gives (view tag shows (attribute_fields n attributes) v) (counting v log lines turns (trace ++ reads_told shows (length log)) hooking)
    shows_markup v log lines turns trace hooking =
        rw (fields v log lines turns trace hooking, shows_children shows v log lines turns trace hooking, makes_element v (counting v log lines turns (trace ++ reads_told shows (length log)) hooking))

    module _ (k : ℤ) (hook_root : p.root root (codes "useSignal") ≡ Framework (codes "useSignal")) (not_hook : same_text n (codes "useSignal") ≡ false) where
      hook_unnamed : (v : Value) → has_field (codes "useSignal") (field n v end) ≡ false
      hook_unnamed v = rw (not_hook, has_field)

      pub mounts : (component : Site) (arguments : List Value) (turns : ℕ) (trace : List Happening) (path : List Step) (before : List Instance)
          → entered (At_site component) (component_code n k (element shows n tag attributes)) here end arguments
          (record { heap = Props end ∷ []; log = []; lines = []; turns = suc turns; trace = trace; locals = end; hooking = Mounting path before []; kept = [] })
          ≡ Gives (view tag shows (attribute_fields n attributes) k)
          (record { heap = Props end ∷ Signal (Int k) ∷ []; log = []; lines = []; turns = turns; trace = ((trace ++ Entered (At_site component) ∷ []) ++ hook_told k (Signal (Int k) ∷ []) ∷ []) ++ reads_told shows 0; locals = end; hooking = Mounting path before (Kept (Ref 1) ∷ []); kept = [] })
      mounts component arguments turns trace path before =
          rw (hook_unnamed Undefined, hook_root, replaced_own Undefined (Ref 1), shows_markup k [] [] turns ((trace ++ Entered (At_site component) ∷ []) ++ hook_told k (Signal (Int k) ∷ []) ∷ []) (Mounting path before (Kept (Ref 1) ∷ [])))

      pub again : (component : Site) (arguments : List Value) (v : ℤ) (log : List Loc) (lines : List Text) (turns : ℕ) (trace : List Happening)
          → entered (At_site component) (component_code n k (element shows n tag attributes)) here end arguments
          (record { heap = Props end ∷ Signal (Int v) ∷ []; log = log; lines = lines; turns = suc turns; trace = trace; locals = end; hooking = Again (Kept (Ref 1) ∷ []); kept = [] })
          ≡ Gives (view tag shows (attribute_fields n attributes) v)
          (record { heap = Props end ∷ Signal (Int v) ∷ []; log = log; lines = lines; turns = turns; trace = ((trace ++ Entered (At_site component) ∷ []) ++ hook_told k [] ∷ []) ++ reads_told shows (length log); locals = end; hooking = Again []; kept = [] })
      again component arguments v log lines turns trace =
          rw (hook_unnamed Undefined, hook_root, replaced_own Undefined (Ref 1), shows_markup v log lines turns ((trace ++ Entered (At_site component) ∷ []) ++ hook_told k [] ∷ []) (Again []))

  -- ---- without a signal

  abbrev pub simply : List Object → List Loc → List Text → ℕ → List Happening → Hooking → Running
  simply heap log lines turns trace hooking = record { heap = heap; log = log; lines = lines; turns = turns; trace = trace; locals = end; hooking = hooking; kept = [] }

  module _ (tag : Text) (attributes : List First_attribute) (makes : Makes tag false (attribute_fields n attributes))
      (fields : (s : Running) → field_values (field_row (attribute_pairs n attributes)) here s ≡ Gives (attribute_fields n attributes) s) where
    makes_bare_element : (s : Running) → made_markup here (Tag.Element tag) (attribute_fields n attributes) [] s ≡ Gives (view tag false (attribute_fields n attributes) (pos 0)) s
    makes_bare_element s = rw (makes.no_fault (pos 0)) (ap (λ (w : Value). made here w s) (makes.makes_view (pos 0)) ∙ rw (makes.light (pos 0), makes.flat (pos 0)))

    pub stays : (component : Site) (arguments : List Value) (heap : List Object) (log : List Loc) (lines : List Text) (turns : ℕ) (trace : List Happening) (hooking : Hooking)
        → entered (At_site component) (bare_code (element false n tag attributes)) here end arguments (simply heap log lines (suc turns) trace hooking)
        ≡ Gives (view tag false (attribute_fields n attributes) (pos 0)) (simply heap log lines turns (trace ++ Entered (At_site component) ∷ []) hooking)
    stays component arguments heap log lines turns trace hooking =
        rw (fields (simply heap log lines turns (trace ++ Entered (At_site component) ∷ []) hooking), makes_bare_element (simply heap log lines turns (trace ++ Entered (At_site component) ∷ []) hooking))
