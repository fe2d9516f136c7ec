-- The ring's index crosses as it is: an answered call that changes the calibrator leaves one below 20. Assumes nothing.
use Rattle.std.specs.Prelude.{ℕ, ◌≡◌, refl, Bool, true, false, ◌&&◌, T, ltb, Float}
use Rattle.std.proofs.Common.{arith, sym, subst, ◌∙◌}
use Rattle.std.specs.Float.Ieee.Fits.{and_l, and_r}
use Rattle.call.specs.Refusal.{refusal_of}
use Rattle.call.specs.Said.{Said, number}
use Rattle.call.specs.PortLaws.{settles_by, settles_making}
use Rattle.learner.specs.Ranges.{is_stored, is_count}
use Rattle.yawrate.specs.Ranges.{is_index, is_ring_count}
use Rattle.yawrate.specs.Ring.{ring_sound}
use Rattle.yawrate.specs.YawRate.{YawRateCall, sound, made, yaw_rate_making, yaw_rate_port, on_yaw_rate}
use Rattle.yawrate.specs.declared.YawRateCalibrator.{YawRateCalibrator}
use Rattle.boundary_learners.specs.Index.{index_word}

-- the index is written as it is
abbrev pub Kept : YawRateCalibrator → Type 0
Kept s = index_word s.heading_idx ≡ s.heading_idx

below : (n : ℕ) (b : Bool) → ltb n 20 ≡ b → T b → index_word n ≡ n
below n true e t = rw e
below n false e t = absurd t

sound_kept : (s : YawRateCalibrator) → T (sound s) → Kept s
sound_kept s t =
    let ring = is_stored s.bias && ring_sound s.heading_history in
    let places = is_index s.heading_idx && is_ring_count s.heading_count in
    let rest = (is_stored s.straight_time && is_stored s.yaw_sum) && is_count s.sample_count in
    let t1 : T (ring && places) = and_l (ring && places) rest t in
    let t2 : T places = and_r ring places t1 in
    below s.heading_idx (ltb s.heading_idx 20) refl (and_l (is_index s.heading_idx) (is_ring_count s.heading_count) t2)

-- what is stored where nothing refuses is sound
stored_sound : (a b c d e f : Bool) → refusal_of a b c d e f ≡ 0 → T f
stored_sound false b c d e f z = absurd (omega arith)
stored_sound true false c d e f z = absurd (omega arith)
stored_sound true true false d e f z = absurd (omega arith)
stored_sound true true true false e f z = absurd (omega arith)
stored_sound true true true true false f z = absurd (omega arith)
stored_sound true true true true true false z = absurd (omega arith)
stored_sound true true true true true true z = tt

pub call_kept : (c : YawRateCall) (s : YawRateCalibrator) → number (on_yaw_rate c s).0 ≡ 0 → Kept (on_yaw_rate c s).1
call_kept c s z =
    let a = yaw_rate_port.asks c s in
    let settles = settles_by yaw_rate_port c s in
    let next = stored_sound a.finite a.in_range a.config (sound s) a.room (sound a.rust.1) (sym settles.exactly ∙ z) in
    subst (λ (t : Said × YawRateCalibrator). Kept t.1) (sym (settles.equals z)) (sound_kept a.rust.1 next)

pub made_kept : (a b c d : Float) → number (made a b c d).0 ≡ 0 → Kept (made a b c d).1
made_kept a b c d z = subst (λ (t : Said × YawRateCalibrator). Kept t.1) (sym ((settles_making yaw_rate_making (a, b, c, d)).equals z)) refl
