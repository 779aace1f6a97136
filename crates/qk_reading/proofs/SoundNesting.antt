-- What is read is written by the rules, however deep it nests.
use Rattle.std.proofs.Common.{◌≡◌, arith}
use Rattle.std.specs.Prelude.{ℕ, zero, suc, Bool, false, codes}
use Rattle.qk_ast.specs.declared.Form.{Form}
use Rattle.qk_reading.specs.Input.{Input, Nested, Whole, Tight, Tagged, Untagged, Braced, Single, Otherwise, Sign, sees}
use Rattle.qk_reading.specs.Forms.{nested, element, unary, postfix, whole, tagged, untagged}
use Rattle.qk_reading.specs.Statements.{step, body, block, single, group}
use Rattle.qk_reading.specs.Reader.{nesting}
use Rattle.qk_reading.proofs.Sound.{Sound, read, refused, sound_then, Reading, Valued}
use Rattle.qk_reading.proofs.SoundElements.{Element_read, start_sound, tagged_sound, untagged_sound}
use Rattle.qk_reading.proofs.SoundAtoms.{atom_sound}
use Rattle.qk_reading.proofs.SoundLinks.{postfix_sound}
use Rattle.qk_reading.proofs.SoundCalls.{head_sound}
use Rattle.qk_reading.proofs.SoundLevels.{Body_read, unary_sound, whole_sound}
use Rattle.qk_reading.proofs.SoundSteps.{Step_read, Block_read, step_sound, body_sound}
use Rattle.qk_reading.proofs.SoundBlocks.{Part_read, Else_read, block_sound, single_sound, else_sound}

-- what nests so deep at most is read soundly
pub record IsSound (form : Form) (levels : ℕ) (inner : Nested) : Type 0 where
  pub whole : (i : Input) → Sound (Reading form levels 0 i) (inner.value Whole i)
  pub tight : (i : Input) → Sound (Reading form levels 7 i) (inner.value Tight i)
  pub tagged : (i : Input) → Sound (Element_read form levels (codes "<") i) (element form levels inner Tagged i)
  pub untagged : (i : Input) → Sound (Element_read form levels (codes "<>") i) (element form levels inner Untagged i)
  pub body : (i : Input) → Sound (Body_read form levels i) (inner.body i)
  pub braced : (looped : Bool) (i : Input) → Sound (Block_read form levels looped i) (inner.group (Braced looped) i)
  pub alone : (looped : Bool) (i : Input) → sees (Sign (codes "{")) i ≡ false → Sound (Part_read form levels looped i) (inner.group (Single looped) i)
  pub otherwise : (looped : Bool) (i : Input) → Sound (Else_read form levels looped i) (inner.group (Otherwise looped) i)

module _ (form : Form) (room : ℕ) (inner : Nested) (h : IsSound form room inner) where
  nested_sound : (i : Input) → Sound (Valued form room i) (nested form room inner i)
  nested_sound i = sound_then (h.whole i) (λ x j v. let f = v.flat in read (record { text = v.text; keeping = v.keeping; flat = omega (arith, f); means = v.means; spans = v.spans }))

  postfixes : (i : Input) → Sound (Reading form (suc room) 8 i) (postfix form room inner i)
  postfixes i = postfix_sound form room inner nested_sound
      (head_sound form room inner nested_sound h.whole h.tight (atom_sound form room inner nested_sound (start_sound form room inner nested_sound h.tagged h.untagged))) i

  unaries : (i : Input) → Sound (Reading form (suc room) 7 i) (unary form room inner i)
  unaries i = unary_sound form room inner nested_sound h.tight postfixes i

  pub wholes : (i : Input) → Sound (Reading form (suc room) 0 i) (whole form room inner i)
  wholes i = whole_sound form room inner nested_sound h.tight postfixes h.body i

  steps : (i : Input) → Sound (Step_read form room i) (step form room inner i)
  steps i = step_sound form room inner wholes i

  bodies : (i : Input) → Sound (Body_read form (suc room) i) (body form room inner i)
  bodies i = body_sound form room inner wholes (λ i. h.braced false i) i

  tagged_elements : (i : Input) → Sound (Element_read form (suc room) (codes "<") i) (tagged form room inner i)
  tagged_elements i = tagged_sound form room inner nested_sound h.tagged h.untagged i

  untagged_elements : (i : Input) → Sound (Element_read form (suc room) (codes "<>") i) (untagged form room inner i)
  untagged_elements i = untagged_sound form room inner nested_sound h.tagged h.untagged i

  blocks : (looped : Bool) (i : Input) → Sound (Block_read form (suc room) looped i) (block form room inner looped i)
  blocks looped i = block_sound form room inner nested_sound h.braced h.alone h.otherwise wholes postfixes steps looped i

  singles : (looped : Bool) (i : Input) → sees (Sign (codes "{")) i ≡ false → Sound (Part_read form (suc room) looped i) (single form room inner looped i)
  singles looped i e = single_sound form room inner nested_sound h.braced h.alone h.otherwise wholes postfixes steps looped i e

  elses : (looped : Bool) (i : Input) → Sound (Else_read form (suc room) looped i) (group form room inner (Otherwise looped) i)
  elses looped i = else_sound form room inner nested_sound h.braced h.alone h.otherwise wholes postfixes steps looped i

nothing_sound : (form : Form) → IsSound form 0 (nesting form 0)
unfolding nesting
nothing_sound form = record {
  whole = λ i. refused;
  tight = λ i. refused;
  tagged = λ i. refused;
  untagged = λ i. refused;
  body = λ i. refused;
  braced = λ looped i. refused;
  alone = λ looped i e. refused;
  otherwise = λ looped i. refused;
}

one_more_sound : (form : Form) (room : ℕ) → IsSound form room (nesting form room) → IsSound form (suc room) (nesting form (suc room))
unfolding nesting group
one_more_sound form room h = record {
  whole = λ i. wholes form room (nesting form room) h i;
  tight = λ i. unaries form room (nesting form room) h i;
  tagged = λ i. sound_then {R = λ r j. Element_read form (suc room) (codes "<") i r.tree j} (sound_then (tagged_elements form room (nesting form room) h i) (λ x j v. read v)) (λ r j v. read v);
  untagged = λ i. sound_then {R = λ r j. Element_read form (suc room) (codes "<>") i r.tree j} (sound_then (untagged_elements form room (nesting form room) h i) (λ x j v. read v)) (λ r j v. read v);
  body = λ i. bodies form room (nesting form room) h i;
  braced = λ looped i. blocks form room (nesting form room) h looped i;
  alone = λ looped i e. singles form room (nesting form room) h looped i e;
  otherwise = λ looped i. elses form room (nesting form room) h looped i;
}

pub nesting_sound : (form : Form) (room : ℕ) → IsSound form room (nesting form room)
nesting_sound form zero = nothing_sound form
nesting_sound form (suc room) = one_more_sound form room (nesting_sound form room)
