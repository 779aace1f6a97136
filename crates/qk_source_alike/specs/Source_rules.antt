-- The ties between whole scopes and captured values, and what of names and places makes them hold.
use Rattle.std.specs.Prelude.{◌≡◌, Bool, true, false, List, [], ◌∷◌, codes}
use Rattle.qk_ast.specs.Arrows.{Found_arrow, body_arrows, inner_scope}
use Rattle.qk_ast.specs.Names.{patterns_names}
use Rattle.qk_ast.specs.Uses.{free_of, captures_of}
use Rattle.qk_ast.specs.Sources.{Named_module}
use Rattle.qk_meaning.specs.Value.{Text, Site}
use Rattle.qk_meaning.specs.Program.{symbol_of}
use Rattle.qk_meaning.specs.Setting.{has_tracker}
use Rattle.qk_meaning.specs.Sites.{arrow_of, code_of, site_of}
use Rattle.qk_meaning.specs.Roots.{root_of}
use Rattle.qk_meaning.specs.Readings.{site_spelled, lifted_root}
use Rattle.qk_meaning.specs.Ties.{Ties, Site_ties, Pairing, Apart}
use Rattle.qk_alike.specs.Meanings_stand.{Roots_stand}
use Rattle.qk_source_alike.specs.Every.{Every}

-- the ties between the readings of modules: whole scopes first, captured values second
abbrev pub source_sites : List Named_module → (lifts stays : Site → Bool) → Site_ties
source_sites modules lifts stays =
    record {
      captures = λ site. captures_of (arrow_of modules site);
      free = λ site. free_of (arrow_of modules site);
      lifts = lifts;
      symbol = symbol_of;
      stays = stays;
      other = λ site. site;
      symbols = false;
      taken = λ symbol. [];
    }

abbrev pub source_ties : List Named_module → (lifts stays : Site → Bool) → Pairing → Ties
source_ties modules lifts stays pairing = record { sites = source_sites modules lifts stays; pairing = pairing }

-- the arrow is the one that is found at its place, and it is a symbol where it is a dollar one
pub record Found_at (modules : List Named_module) (lifts stays : Site → Bool) (file : Text) (a : Found_arrow) : Type 0 where
  pub itself : arrow_of modules (site_of modules file a.place) ≡ a
  pub dollar : (site_of modules file a.place).dollar ≡ true → lifts (site_of modules file a.place) ≡ true
  pub plain : (site_of modules file a.place).dollar ≡ false → stays (site_of modules file a.place) ≡ true

pub record Source_rules (modules : List Named_module) (lifts stays : Site → Bool) (pairing : Pairing) : Type 0 where
  -- no two arrows of a file have one place
  pub inner : (site : Site) → Every (Found_at modules lifts stays site.file) (body_arrows (arrow_of modules site).body (inner_scope (arrow_of modules site).mark (arrow_of modules site).params (arrow_of modules site).scope))
  -- a task's parameters are none or `{ track }`
  pub tracks : (site : Site) → has_tracker (code_of modules site) ≡ true → patterns_names (arrow_of modules site).params ≡ codes "track" ∷ []
  -- root arrows capture nothing, components are dollar sites, and no name means `qrl`
  pub roots : (file name : Text) → Roots_stand (source_sites modules lifts stays) (root_of modules file name) (lifted_root (root_of modules file name))
  -- a symbol names one site
  pub lifted : (site : Site) → lifts site ≡ true → code_of modules (site_spelled (symbol_of site)) ≡ code_of modules site
  -- sites and symbols stand one to one, and so do addresses
  pub apart : Apart (source_ties modules lifts stays pairing)
