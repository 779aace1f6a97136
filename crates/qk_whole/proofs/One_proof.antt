-- That a function or a name stands for something has one proof at most, since the values of the meaning are a set.
use Rattle.std.specs.Prelude.{◌≡◌, refl, ℕ, ℤ, Bool, List, Option, Some, None}
use Rattle.std.specs.Coded.{codes, Coded-set}
use Rattle.std.proofs.Common.{ap, sym, ◌∙◌}
use Rattle.std.proofs.Props.{props}
use mathlib.Core.HLevel.{collapsible→set}
use Rattle.qk_ast.specs.declared.Form.{Form}
use Rattle.qk_ast.specs.contracts.Body as tree
use Rattle.qk_meaning.specs.Value as M
use Rattle.qk_meaning.specs.Value.{Text, Site, Shown, Value, Values, Fields}
use Rattle.qk_meaning.specs.Program as M_root
use Rattle.qk_meaning.specs.Program.{Program, Root, Code}
use Rattle.qk_meaning.specs.Index.{Kind}
use Rattle.qk_code.specs.declared.func.Func.{Func}
use Rattle.qk_code.specs.declared.func.Root.{Root as Told}
use Rattle.qk_code.specs.Sources.{Sources}
use Rattle.qk_code.specs.Standing.{Stands, StandsFor, Means, MeansIn, HasKind}
use Rattle.qk_modules.specs.declared.modules.NamedModule.{NamedModule}
use Rattle.qk_whole.specs.Holding.{Holds_item, NoName}

-- the values, the rows and the fields of the meaning in one
data Sort : Type 0 where
  undefined null none end : Sort
  truth : Bool → Sort
  int : ℤ → Sort
  words : List ℕ → Sort
  ref : ℕ → Sort
  items : Sort → Sort
  fields : Sort → Sort
  elem' : Shown → Option Text → Text → Sort → Sort → Sort
  closure : Site → Sort → Bool → Sort
  lifted : Text → Sort → Bool → Sort
  item : Sort → Sort → Sort
  field : Text → Sort → Sort → Sort
  deriving IsSet as sort_of

abbrev mutual
  of_value : Value → Sort
  of_value M.Undefined = undefined
  of_value M.Null = null
  of_value (M.Truth b) = truth b
  of_value (M.Int n) = int n
  of_value (M.Words t) = words t
  of_value (M.Ref a) = ref a
  of_value (M.Items vs) = items (of_values vs)
  of_value (M.Record fs) = fields (of_fields fs)
  of_value (M.Elem shown key slot fs vs) = elem' shown key slot (of_fields fs) (of_values vs)
  of_value (M.Closure site fs hidden) = closure site (of_fields fs) hidden
  of_value (M.Lifted t vs hidden) = lifted t (of_values vs) hidden

  of_values : Values → Sort
  of_values M.none = none
  of_values (M.item v vs) = item (of_value v) (of_values vs)

  of_fields : Fields → Sort
  of_fields M.end = end
  of_fields (M.field t v fs) = field t (of_value v) (of_fields fs)

abbrev mutual
  to_value : Sort → Value
  to_value null = M.Null
  to_value (truth b) = M.Truth b
  to_value (int n) = M.Int n
  to_value (words t) = M.Words t
  to_value (ref a) = M.Ref a
  to_value (items vs) = M.Items (to_values vs)
  to_value (fields fs) = M.Record (to_fields fs)
  to_value (elem' shown key slot fs vs) = M.Elem shown key slot (to_fields fs) (to_values vs)
  to_value (closure site fs hidden) = M.Closure site (to_fields fs) hidden
  to_value (lifted t vs hidden) = M.Lifted t (to_values vs) hidden
  to_value _ = M.Undefined

  to_values : Sort → Values
  to_values (item v vs) = M.item (to_value v) (to_values vs)
  to_values _ = M.none

  to_fields : Sort → Fields
  to_fields (field t v fs) = M.field t (to_value v) (to_fields fs)
  to_fields _ = M.end

mutual
  value_back : (v : Value) → to_value (of_value v) ≡ v
  value_back M.Undefined = refl
  value_back M.Null = refl
  value_back (M.Truth b) = refl
  value_back (M.Int n) = refl
  value_back (M.Words t) = refl
  value_back (M.Ref a) = refl
  value_back (M.Items vs) = ap M.Items (values_back vs)
  value_back (M.Record fs) = ap M.Record (fields_back fs)
  value_back (M.Elem shown key slot fs vs) = λ i. M.Elem shown key slot (fields_back fs i) (values_back vs i)
  value_back (M.Closure site fs hidden) = ap (λ f. M.Closure site f hidden) (fields_back fs)
  value_back (M.Lifted t vs hidden) = ap (λ v. M.Lifted t v hidden) (values_back vs)

  values_back : (vs : Values) → to_values (of_values vs) ≡ vs
  values_back M.none = refl
  values_back (M.item v vs) = λ i. M.item (value_back v i) (values_back vs i)

  fields_back : (fs : Fields) → to_fields (of_fields fs) ≡ fs
  fields_back M.end = refl
  fields_back (M.field t v fs) = λ i. M.field t (value_back v i) (fields_back fs i)

shown_set : IsSet Shown
shown_set = hlevel (props, codes, Coded-set)

site_set : IsSet Site
site_set = hlevel (props, codes, Coded-set)

sort_set : IsSet Sort
sort_set = sort_of (hlevel (props, codes, Coded-set)) (hlevel (props, codes, Coded-set)) (hlevel (props, codes, Coded-set)) (hlevel (props, codes, Coded-set)) shown_set (hlevel (props, codes, Coded-set)) site_set

pub value_set : IsSet Value
value_set = collapsible→set (λ x y p. sym (value_back x) ∙ (ap to_value (ap of_value p) ∙ value_back y))
    (λ x y p q. ap (λ r. sym (value_back x) ∙ (ap to_value r ∙ value_back y)) (sort_set (of_value x) (of_value y) (ap of_value p) (ap of_value q)))

pub root_set : IsSet Root
root_set = hlevel (props, codes, Coded-set, shown_set, value_set)

pub code_set : IsSet Code
code_set = hlevel (props, codes, Coded-set, tree.the_row.coded)

pub kind_set : IsSet Kind
kind_set = hlevel (props, codes, Coded-set)

pub stands_prop : (p : Program) (code : Code) (f : Func) → IsProp (Stands p code f)
stands_prop p code f = hlevel (props, codes, Coded-set, code_set, site_set, value_set, root_set)

pub stands_for_prop : (form : Form) (s : Sources) (code : Program → Code) (f : Func) → IsProp (StandsFor form s code f)
stands_for_prop form s code f = hlevel (stands_prop, props)

pub means_prop : (p : Program) (file name : Text) (r : Told) → IsProp (Means p file name r)
means_prop p file name (Told.Fn f) = hlevel (props, codes, Coded-set, root_set, stands_prop)
means_prop p file name (Told.Literal v) = hlevel (root_set)
means_prop p file name (Told.Context id) = hlevel (root_set)
means_prop p file name (Told.Component symbol) = hlevel (root_set)

pub has_kind_prop : (s : Sources) (r : Told) → IsProp (HasKind s r)
has_kind_prop s (Told.Component symbol) = hlevel (kind_set)
has_kind_prop s (Told.Fn f) = hlevel
has_kind_prop s (Told.Literal v) = hlevel
has_kind_prop s (Told.Context id) = hlevel

pub means_in_prop : (form : Form) (s : Sources) (file name : Text) (r : Told) → IsProp (MeansIn form s file name r)
means_in_prop form s file name r = hlevel (means_prop)

pub holds_item_prop : (modules : List NamedModule) (file q : Text) (o : Option Told) → IsProp (Holds_item modules file q o)
holds_item_prop modules file q (Some r) = hlevel (has_kind_prop, means_prop)
holds_item_prop modules file q None = hlevel (root_set)

pub no_name_prop : (r : Root) → IsProp (NoName r)
no_name_prop (M_root.Framework name) = hlevel
no_name_prop M_root.Unknown = hlevel
no_name_prop (M_root.Holds v) = hlevel
no_name_prop (M_root.Shows shown) = hlevel
