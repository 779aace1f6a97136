-- The counter's world after its first render is sound.
use Rattle.std.specs.Prelude.{◌≡◌, refl, ℕ, zero, suc, ◌<◌, ◌==◌, Bool, true, false, ◌&&◌, ◌||◌, [], ◌∷◌, length, codes}
use Rattle.std.proofs.Common.{arith}
use Rattle.std.proofs.lemmas.Bool.{eqb-true}
use Rattle.qk_meaning.specs.Heap.{object_at}
use Rattle.qk_meaning.specs.Places.{same_key}
use Rattle.qk_meaning.specs.World.{World, Prop}
use Rattle.qk_meaning.specs.Program.{Program}
use Rattle.qk_meaning.specs.Readings.{program_of}
use Rattle.qk_meaning_rows.specs.Clicked_counter.{modules}
use Rattle.qk_paused.specs.Sound.{Locs_made, Object_made, no_hooks, kept_sound, no_instances, instance_sound, Sound}
use Rattle.qk_paused_rows.specs.Words.{last_world}

abbrev program : Program
program = program_of modules

abbrev w : World
w = last_world program []

below_two : 0 < 2
below_two = omega arith

also_below : 1 < 2
also_below = omega arith

two_made : length w.heap ≡ 2
two_made = refl

objects : (a : ℕ) → Object_made 2 (object_at w.heap a)
objects zero = tt
objects (suc zero) = tt
objects (suc (suc a)) = tt

signal_read : Locs_made 2 (record { address = 1; key = Prop (codes "value") } ∷ [])
signal_read a k l = go (a == 1) refl
  where
    go : (b : Bool) → (a == 1) ≡ b → ((b && same_key k (Prop (codes "value"))) || false) ≡ false
    go true e = absurd (let i = eqb-true a 1 e in omega (arith, l, i))
    go false e = refl

sound : Sound w
sound = record {
  objects = objects;
  instances = instance_sound below_two (kept_sound also_below no_hooks) ((tt, ((also_below, tt), tt)), (tt, tt)) signal_read no_instances;
  settled = refl;
}
