-- What a making and `update_heading` store is sound, so that they never give 6; and a yaw rate that does. Assumes nothing.
use Rattle.std.specs.Prelude.{ℕ, zero, suc, ◌+◌, ◌<◌, ◌≡◌, refl, ◌⊎◌, Bool, true, false, ◌&&◌, cond, List, [], ◌∷◌, T, ltb, set, replicate, Float}
use Rattle.std.proofs.Common.{sym, subst, ◌∙◌, inl, inr, arith, lt→ltb, ltb-true}
use Rattle.std.specs.Float.Ieee.{of_bits, of_int, add, sub, mul, div, neg, le, lt, eq}
use Rattle.std.specs.Float.Ieee.Fits.{and_i, and_l, and_r}
use Rattle.float.specs.Value.{f32, zero32}
use Rattle.call.specs.Said.{refused, answered}
use Rattle.call.specs.Port.{changes}
use Rattle.float.specs.Count.{raised}
use Rattle.float.specs.CountLaws.{count_stops}
use Rattle.trig.proofs.AtZero.{table_sine_zero, table_cosine_zero}
use Rattle.trig.specs.Row.{slot, sum_to}
use Rattle.trig.specs.Tangent.{usable, arc_tangent}
use Rattle.learner.specs.Ranges.{is_stored, is_course, is_count}
use Rattle.yawrate.specs.Ranges.{is_index, is_ring_count}
use Rattle.yawrate.specs.Ring.{all_to, ring_sound, put, next_slot, stable}
use Rattle.yawrate.specs.YawRate.{update, sound, parameters, fresh, headed, straight, updated, on_yaw_rate}
use Rattle.yawrate.specs.declared.YawRateCalibrator.{YawRateCalibrator}

-- ---- the ring
-- a slot of the ring with a heading put into it holds that heading or what it held
slot_set : (h : List Float) (idx i : ℕ) (v : Float) → (slot (set h idx v) i ≡ v) ⊎ (slot (set h idx v) i ≡ slot h i)
slot_set [] idx i v = inr refl
slot_set (x ∷ h) zero zero v = inl refl
slot_set (x ∷ h) zero (suc i) v = inr refl
slot_set (x ∷ h) (suc idx) zero v = inr refl
slot_set (x ∷ h) (suc idx) (suc i) v = slot_set h idx i v

set_sound : (h : List Float) (idx n : ℕ) (v : Float) → T (is_course v) → T (all_to is_course h n) → T (all_to is_course (set h idx v) n)
unfolding all_to
set_sound h idx zero v w t = tt
set_sound h idx (suc n) v w t =
    and_i (all_to is_course (set h idx v) n) (is_course (slot (set h idx v) n)) (set_sound h idx n v w (and_l (all_to is_course h n) (is_course (slot h n)) t))
    (elim (slot_set h idx n v) [
      | inl e ↦ subst (λ (x : Float). T (is_course x)) (sym e) w
      | inr e ↦ subst (λ (x : Float). T (is_course x)) (sym e) (and_r (all_to is_course h n) (is_course (slot h n)) t)
    ])

pub put_sound : (h : List Float) (idx : ℕ) (v : Float) → T (is_course v) → T (ring_sound h) → T (ring_sound (put idx v h))
unfolding put
put_sound h idx v w t = go (ltb idx 20)
  where
    go : (b : Bool) → T (ring_sound (cond b (set h idx v) h))
    go true = set_sound h idx 20 v w t
    go false = t

index_below : (idx : ℕ) → T (is_index (next_slot idx))
index_below idx = go (ltb idx 19) refl
  where
    go : (b : Bool) → ltb idx 19 ≡ b → T (ltb (cond b (idx + 1) 0) 20)
    go true e = let h : idx < 19 = ltb-true _ _ e in lt→ltb (idx + 1) 20 (omega arith)
    go false e = tt

-- ---- the learner
pub fresh_sound : (min_speed heading_tolerance learn_time alpha : Float) → T (sound (fresh min_speed heading_tolerance learn_time alpha))
unfolding of_bits neg le all_to
fresh_sound min_speed heading_tolerance learn_time alpha = tt

headed_parts : (b r i n b' r' i' n' rest : Bool) → T (((b && r) && (i && n)) && rest) → (T b → T r → T n → T (((b' && r') && (i' && n')))) → T (((b' && r') && (i' && n')) && rest)
headed_parts b r i n b' r' i' n' rest t f =
    let l = and_l ((b && r) && (i && n)) rest t in
    let br = and_l (b && r) (i && n) l in
    and_i ((b' && r') && (i' && n')) rest (f (and_l b r br) (and_r b r br) (and_r i n (and_r (b && r) (i && n) l))) (and_r ((b && r) && (i && n)) rest t)

pub headed_sound : (heading : Float) (s : YawRateCalibrator) → T (is_course heading) → T (sound s) → T (sound (headed heading s))
headed_sound heading s w t =
    headed_parts (is_stored s.bias) (ring_sound s.heading_history) (is_index s.heading_idx) (is_ring_count s.heading_count) (is_stored s.bias) (ring_sound next) (is_index (next_slot s.heading_idx))
    (is_ring_count (raised 20 s.heading_count)) ((is_stored s.straight_time && is_stored s.yaw_sum) && is_count s.sample_count) t
    (λ b r n. and_i (is_stored s.bias && ring_sound next) (is_index (next_slot s.heading_idx) && is_ring_count (raised 20 s.heading_count))
    (and_i (is_stored s.bias) (ring_sound next) b (put_sound s.heading_history s.heading_idx heading w r))
    (and_i (is_index (next_slot s.heading_idx)) (is_ring_count (raised 20 s.heading_count)) (index_below s.heading_idx) (count_stops 20 s.heading_count n)))
  where
    next : List Float
    next = put s.heading_idx heading s.heading_history

-- ---- `update` gives 6: 1e3 on a stored sum of 1e9, after ten headings of 0
abbrev full : YawRateCalibrator
full =
    record {
      bias = zero32;
      valid = false;
      heading_history = replicate 20 zero32;
      heading_idx = 10;
      heading_count = 10;
      straight_time = zero32;
      yaw_sum = f32 0x4e6e_6b28;
      sample_count = 0;
      min_speed = zero32;
      heading_tolerance = zero32;
      learn_time = zero32;
      alpha = zero32;
    }

full_straight : straight zero32 full ≡ true
unfolding straight stable all_to sum_to arc_tangent usable of_bits of_int add sub mul neg le lt eq
full_straight = rw (table_sine_zero, table_cosine_zero) refl

full_next : on_yaw_rate (update (f32 0x447a_0000) zero32 zero32) full ≡ changes sound true true (parameters full) true full (answered (updated true (f32 0x447a_0000) zero32 full))
unfolding of_bits neg le
full_next = rw full_straight refl

pub too_full : on_yaw_rate (update (f32 0x447a_0000) zero32 zero32) full ≡ (refused 6, full)
unfolding of_bits of_int add sub mul div neg le lt all_to updated
too_full = full_next ∙ refl
