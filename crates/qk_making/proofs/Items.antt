-- Lists: of a few items, by the mode.
use Rattle.std.specs.Prelude.{◌≡◌, refl, ◌<◌, ◌≤◌, ℕ, true, false, nat_le, List, [], ◌∷◌, length, map}
use Rattle.std.proofs.Common.{sym, ◌∙◌, ap, subst, arith, true≢false}
use Rattle.std.proofs.lemmas.List.{length-map}
use Rattle.qk_meaning.specs.Value as M
use Rattle.qk_meaning.specs.Value.{Text, Site}
use Rattle.qk_meaning.specs.World as W
use Rattle.qk_meaning.specs.Fault.{ListTooLong}
use Rattle.qk_meaning.specs.Parts.{packed}
use Rattle.qk_meaning.specs.Doing.{chosen, fault}
use Rattle.qk_meaning.specs.Running.{Mode, Effect, Pure, Track, made_object}
use Rattle.qk_meaning.specs.Setting.{Setting, captures, is_effect}
use Rattle.qk_meaning.specs.Making.{made, made_list, new_list}
use Rattle.qk_value.specs.declared.value.Value.{Value}
use Rattle.qk_value.specs.declared.value.Value.TheVariants as v
use Rattle.qk_value.specs.View.{seen, seen_all}
use Rattle.qk_value.proofs.Viewing.{seen-List}
use Rattle.qk_making.specs.Acting.{seen_in}

pub within : (n m : ℕ) → n ≤ m → nat_le n m ≡ true
within n m h = grind (arith, h)

pub past : (n m : ℕ) → m < n → nat_le n m ≡ false
past n m h = grind (arith, h)

pub packed_seen : (names : Site → List Text) (vs : List Value) → packed (map (seen names) vs) ≡ seen_all names vs
packed_seen names [] = refl
packed_seen names (w ∷ vs) = ap (λ rest. M.item (seen names w) rest) (packed_seen names vs)

module _ (here : Setting) where
  module _ (vs : List Value) where
    abbrev all : List M.Value
    all = map (seen_in here) vs

    few : length vs ≤ 65536 → nat_le (length all) 65536 ≡ true
    few h = within (length all) 65536 (subst (λ n. n ≤ 65536) (sym (length-map vs (seen_in here))) h)

    by_mode : (mode : Mode) → is_effect mode ≡ false → new_list here mode all ≡ made here (M.Items (packed all))
    by_mode Effect e = absurd (true≢false e)
    by_mode Pure e = refl
    by_mode Track e = refl

    pub list_fixed : length vs ≤ 65536 → is_effect here.mode ≡ false → made_list here all ≡ made here (seen_in here (v.List vs))
    list_fixed h e =
        ap (λ b. chosen b (new_list here here.mode all) (fault ListTooLong)) (few h)
        ∙ by_mode here.mode e
        ∙ ap (made here) (ap M.Items (packed_seen (captures here) vs) ∙ sym (seen-List (captures here) vs))

    pub list_as_object : length vs ≤ 65536 → here.mode ≡ Effect → made_list here all ≡ made_object (W.Array (seen_all (captures here) vs))
    list_as_object h e =
        ap (λ b. chosen b (new_list here here.mode all) (fault ListTooLong)) (few h)
        ∙ ap (λ mode. new_list here mode all) e
        ∙ ap (λ items. made_object (W.Array items)) (packed_seen (captures here) vs)
