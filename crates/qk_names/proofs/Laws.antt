-- The laws, for the proofs of the crates above.
use Rattle.qk_ast.specs.Arrows.{item_arrows}
use Rattle.qk_names.specs.Laws as law
use Rattle.qk_names.proofs.Numbered.{nth_place}
use Rattle.qk_names.proofs.Counting.{numbered}
use Rattle.qk_names.proofs.Rising.{found_at_place, of_kind_found}
use Rattle.qk_names.proofs.Nested.{follows, listed}
use Rattle.qk_names.proofs.Insides as insides
use Rattle.qk_names.proofs.Components.{dollar_site}
use Rattle.qk_names.proofs.Items.{item_form, app_is_component, few_sites, context_empty}
use Rattle.qk_names.proofs.Literals.{no_arrows, no_uses}
use Rattle.qk_names.proofs.PlainArrows.{no_scopes}
use Rattle.qk_names.proofs.Accepted.{accepted}
use Rattle.qk_names.proofs.Captures.{tasks_take, names_captured, track_stays as stays, root_used}

pub arrows_are_numbered : law.ArrowsAreNumbered
arrows_are_numbered form bytes m d n l = nth_place (item_arrows m.items) _ n (numbered form bytes m d) l

pub arrows_are_found : law.ArrowsAreFound
arrows_are_found form bytes m d a h = found_at_place (item_arrows m.items) _ a (numbered form bytes m d) h

pub kinds_are_numbered : law.KindsAreNumbered
kinds_are_numbered form bytes m d dollar n l = of_kind_found dollar (item_arrows m.items) _ n (numbered form bytes m d) l

pub inside_follows : law.InsideFollows
inside_follows items front a rest e = follows (item_arrows items) front a rest (insides.items items).nested.nests e

pub inside_is_listed : law.InsideIsListed
inside_is_listed items a b h g = listed (item_arrows items) a b (insides.items items).nested.nests h g

pub outermost_capture_nothing : law.OutermostCaptureNothing
outermost_capture_nothing = insides.outermost

pub component_is_dollar_site : law.ComponentIsDollarSite
component_is_dollar_site = dollar_site

pub items_have_forms : law.ItemsHaveForms
items_have_forms file roots m kept i h = (item_form file roots m kept i h, app_is_component file roots m kept i h)

pub sites_are_few : law.SitesAreFew
sites_are_few = few_sites

pub contexts_have_no_arrows : law.ContextsHaveNoArrows
contexts_have_no_arrows = context_empty

pub data_stands : law.DataStands
data_stands e h = (no_arrows e h, no_uses e h)

pub accepted_keep_rules : law.AcceptedKeepRules
accepted_keep_rules = accepted

pub tasks_take_track : law.TasksTakeTrack
tasks_take_track form file roots m (named, placed) = tasks_take form file roots m named placed

pub sources_have_no_scopes : law.SourcesHaveNoScopes
sources_have_no_scopes = no_scopes

pub names_are_captured : law.NamesAreCaptured
names_are_captured file roots bytes m d (named, placed) = names_captured file roots bytes m d named placed

pub items_use_root_names : law.ItemsUseRootNames
items_use_root_names file roots bytes m d (named, placed) = root_used file roots bytes m d named placed

pub track_stays : law.TrackStays
track_stays file roots bytes m d (named, placed) = stays file roots bytes m d named placed
