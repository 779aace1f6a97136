-- Functions, with the values that they capture.
use Rattle.std.specs.Prelude.{◌≡◌, refl, ◌≤◌, ℕ, Bool, true, false, ◌&&◌, List, ◌++◌, length, drop, map, Result}
use Rattle.std.proofs.Common.{sym, ◌∙◌, ap, subst}
use Rattle.std.proofs.lemmas.List.{append-nil}
use Rattle.qk_ast.specs.Texts.{Text}
use Rattle.qk_captures.specs.declared.Captured.{Captured}
use Rattle.qk_meaning.specs.Value as M
use Rattle.qk_meaning.specs.Value.{Site, Fields}
use Rattle.qk_meaning.specs.Parts.{packed, picked, zipped}
use Rattle.qk_meaning.specs.Running.{Running}
use Rattle.qk_meaning.specs.Setting.{Setting, captures}
use Rattle.qk_meaning.specs.Making.{made, made_function}
use Rattle.qk_value.specs.declared.value.FunCode.{FunCode}
use Rattle.qk_value.specs.declared.value.Fun.{Fun}
use Rattle.qk_value.specs.declared.value.Value.{Value}
use Rattle.qk_value.specs.declared.value.Value.TheVariants as v
use Rattle.qk_value.specs.View.{seen, seen_all, seen_function, is_distinct, fits, plain_of, plain_site, function}
use Rattle.qk_value.proofs.Viewing.{seen-Fun}
use Rattle.qk_value.proofs.Made.{listed_packed, as_many_picked}
use Rattle.qk_environment.specs.declared.scope.Named.{Named}
use Rattle.qk_environment.specs.Scoping.{scope_seen}
use Rattle.qk_code.specs.declared.func.Func.{Func}
use Rattle.qk_code.specs.declared.stop.Stop.{Stop}
use Rattle.qk_code.specs.Standing.{Knows, keeping, site_seen, known_at}
use Rattle.qk_making.specs.Acting.{Comes_to, Leaves, seen_in}
use Rattle.qk_making.specs.Keeping.{code_of_kind, code_kept}
use Rattle.qk_making.proofs.Walking.{none_left}
use Rattle.qk_making.proofs.Items.{packed_seen}

module _ (names : Site → List Text) (scope : Fields) where
  pub all_values : (ns : List Text) (i : ℕ) (values : List Value) → length ns ≤ i → map (seen names) values ++ picked (drop i ns) scope ≡ picked ns scope → seen_all names values ≡ packed (picked ns scope)
  all_values ns i values le done =
      sym (packed_seen names values)
      ∙ ap packed (sym (append-nil (map (seen names) values)) ∙ ap (λ ts. map (seen names) values ++ picked ts scope) (sym (none_left ns i le)) ∙ done)

module _ (names : Site → List Text) where
  kept_of_kind : (dollar : Bool) (file : Text) (number : ℕ) (scope : Fields) (ns : List Text) → let site : Site = record { file = file; number = number; dollar = dollar } in
      names site ≡ ns → is_distinct ns ≡ true → keeping dollar site ns scope ≡ function names (code_of_kind dollar site) (packed (picked ns scope)) false
  kept_of_kind true file number scope ns e d = refl
  kept_of_kind false file number scope ns e d =
      let values : M.Values = packed (picked ns scope) in
      ap (λ vs. M.Closure (plain_site file number) (zipped ns vs) false) (sym (listed_packed (picked ns scope)))
      ∙ (λ i. plain_of (sym d i && sym (as_many_picked ns scope) i) ns file number values false)
      ∙ ap (λ xs. plain_of (fits xs values) xs file number values false) (sym e)

  -- what an arrow keeps of the names in scope is seen so
  pub kept_seen : (site : Site) (scope : Fields) (ns : List Text) (f : Fun) → names site ≡ ns → is_distinct ns ≡ true
      → f.code ≡ code_kept site → seen_all names f.captures ≡ packed (picked ns scope) → f.hidden ≡ false → keeping site.dollar site ns scope ≡ seen_function names f
  kept_seen site scope ns f e d code values plain =
      kept_of_kind site.dollar site.file site.number scope ns e d
      ∙ λ i. function names (sym code i) (sym values i) (sym plain i)

  pub lifted_seen : (symbol : Text) (captured : List Value) (f : Fun) → f.code ≡ FunCode.Symbol symbol → f.captures ≡ captured → f.hidden ≡ false
      → M.Lifted symbol (packed (map (seen names) captured)) false ≡ seen names (v.Fun f)
  lifted_seen symbol captured f code values plain =
      ap (λ vs. M.Lifted symbol vs false) (packed_seen names captured)
      ∙ (λ i. function names (sym code i) (seen_all names (sym values i)) (sym plain i))
      ∙ sym (seen-Fun names f)

-- the function of the arrow at a place is this one, within its limits
pub function_made : (here : Setting) (s : Running) (func : Func) (place : ℕ) (names : List Named) (f : Fun) (result : Result Value Stop)
    → Knows here.program func → here.file ≡ func.file → s.locals ≡ scope_seen (captures here) names
    → f.code ≡ code_kept (site_seen (known_at func place).site) → seen_all (captures here) f.captures ≡ packed (picked (known_at func place).names (scope_seen (captures here) names)) → f.hidden ≡ false
    → Leaves (seen_in here) (made here (seen_in here (v.Fun f))) result → Comes_to (seen_in here) (made_function here place s) result s
function_made here s func place names f result knows file locals code values plain h =
    let known : Captured = known_at func place in
    let site : Site = site_seen known.site in
    let value : here.program.makes (here.program.site here.file place) s.locals ≡ seen_in here (v.Fun f) =
    ap (λ t. here.program.makes (here.program.site t place) s.locals) file
    ∙ ap (λ x. here.program.makes x s.locals) (knows.site place)
    ∙ knows.makes place s.locals
    ∙ ap (keeping known.site.dollar site known.names) locals
    ∙ kept_seen (captures here) site (scope_seen (captures here) names) known.names f (knows.captures place) (knows.distinct place) code values plain
    ∙ sym (seen-Fun (captures here) f) in
    subst (λ m. Comes_to (seen_in here) (made here m s) result s) (sym value) (h s)
