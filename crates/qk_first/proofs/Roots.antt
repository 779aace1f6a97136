-- What the names, the sites and the arrows of a module of the first form are.
use Rattle.std.specs.Prelude.{◌≡◌, refl, Bool, true, false, List, [], ◌∷◌, Option, Some, ℤ, codes}
use Rattle.std.proofs.Common.{ap}
use Rattle.std.proofs.lemmas.Bool.{false≢true}
use Rattle.qk_ast.specs.First.{First_attribute, Id, On_click}
use Rattle.qk_meaning.specs.Value.{Text, Component}
use Rattle.qk_ast.specs.Names.{is_listed, those_of, each_once}
use Rattle.qk_meaning.specs.Program.{Root, Framework, Shows}
use Rattle.qk_ast.specs.Arrows.{Marked}
use Rattle.qk_ast.specs.Sources.{Named_module}
use Rattle.qk_meaning.specs.Sites.{site_of, code_of, code_from}
use Rattle.qk_meaning.specs.Roots.{root_of}
use Rattle.qk_ast.specs.Uses.{free_of}
use Rattle.qk_meaning.specs.Readings.{program_of}
use Rattle.qk_meaning.specs.Making.{root_shown}
use Rattle.qk_first.proofs.Words.{root, component_site, listener_site, first_module, body_of, element, bump}
use Rattle.qk_first.proofs.Texts.{text_own}
use Rattle.qk_first.proofs.Listener.{listener_code}
use Rattle.qk_first.proofs.Listings.{Listing, nothing, id_only, click_only, id_click, click_id, has_listener}

abbrev pub up_of : List First_attribute → Bool
up_of [] = true
up_of (Id w ∷ more) = up_of more
up_of (On_click up ∷ more) = up

none_of : (names : List Text) → those_of [] names ≡ []
none_of [] = refl
none_of (x ∷ rest) = none_of rest

module _ (imported : List Text) (n tag : Text) (signal : Option ℤ) (shows : Bool) (attributes : List First_attribute) where
  abbrev pub modules : List Named_module
  modules = (root, first_module imported n signal (element shows n tag attributes)) ∷ []

  app_root : is_listed (codes "App") imported ≡ false → root_of modules (root) (codes "App") ≡ Shows (Component component_site)
  app_root h = ap entry h
    where
      entry : Bool → Root
      entry true = Framework (codes "App")
      entry false = Shows (Component component_site)

  pub app_is : is_listed (codes "App") imported ≡ false → (program_of modules).app ≡ Component component_site
  app_is h = ap root_shown (app_root h)

  pub hook_root : is_listed (codes "useSignal") imported ≡ true → root_of modules (root) (codes "useSignal") ≡ Framework (codes "useSignal")
  hook_root h = ap entry h
    where
      entry : Bool → Root
      entry true = Framework (codes "useSignal")
      entry false = Root.Unknown

  pub component_coded : code_of modules component_site ≡ record { file = root; captures = []; task = false; params = []; body = body_of signal n (element shows n tag attributes) }
  component_coded =
      ap (λ (names : List Text). record { file = root; captures = each_once [] names; task = false; params = []; body = body_of signal n (element shows n tag attributes) })
      (none_of (free_of (record { place = 0; scope = []; mark = Marked; params = []; body = body_of signal n (element shows n tag attributes) })))

listed_own : (n : Text) → is_listed n (n ∷ []) ≡ true
listed_own n = rw (text_own n, is_listed)

those_own : (n : Text) → those_of (n ∷ []) (n ∷ []) ≡ n ∷ []
those_own n = ap entry (listed_own n)
  where
    entry : Bool → List Text
    entry true = n ∷ []
    entry false = []

code_own : (n : Text) (up : Bool) → code_from (root) (record { place = 1; scope = n ∷ []; mark = Marked; params = []; body = bump up n }) ≡ listener_code n up
code_own n up = ap (λ (names : List Text). record { file = root; captures = each_once [] names; task = false; params = []; body = bump up n }) (those_own n)

pub listener_sited : (imported : List Text) (n tag : Text) (k : ℤ) (shows : Bool) {attributes : List First_attribute} → Listing attributes → has_listener attributes ≡ true → site_of (modules imported n tag (Some k) shows attributes) (root) 1 ≡ listener_site
listener_sited imported n tag k shows nothing h = absurd (false≢true h)
listener_sited imported n tag k shows (id_only w) h = absurd (false≢true h)
listener_sited imported n tag k shows click_only h = refl
listener_sited imported n tag k shows (id_click w) h = refl
listener_sited imported n tag k shows (click_id w) h = refl

pub listener_coded : (imported : List Text) (n tag : Text) (k : ℤ) (shows : Bool) {attributes : List First_attribute} → Listing attributes → has_listener attributes ≡ true → code_of (modules imported n tag (Some k) shows attributes) listener_site ≡ listener_code n (up_of attributes)
listener_coded imported n tag k shows nothing h = absurd (false≢true h)
listener_coded imported n tag k shows (id_only w) h = absurd (false≢true h)
listener_coded imported n tag k shows (click_only {up = up}) h = code_own n up
listener_coded imported n tag k shows (id_click {up = up} w) h = code_own n up
listener_coded imported n tag k shows (click_id {up = up} w) h = code_own n up
