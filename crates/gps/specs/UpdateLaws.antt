-- What a fix answers by its interval, what it leaves, and where a count of fixes changes nothing or is refused for its time (document 02, C-13). Assumes nothing.
use Rattle.std.specs.Prelude.{ℕ, ◌≤◌, ◌<◌, ◌≡◌, refl, Bool, true, false, ◌&&◌, cond, T, ltb, Float}
use Rattle.std.proofs.Common.{arith, le-leb}
use Rattle.std.proofs.lemmas.Bool.{lt-leb}
use Rattle.std.specs.Float.Ieee.{of_bits, neg, le}
use Rattle.std.specs.Float.Ieee.Bits.{is_true}
use Rattle.std.specs.Float.Ieee.Scale.{finite}
use Rattle.float.specs.Value.{f32, ◌⊖◌, ◌⊘◌, zero32}
use Rattle.float.specs.Size.{within_more, between_within}
use Rattle.call.specs.Refusal.{refusal_of}
use Rattle.call.specs.Said.{Said, Reply, answer, refused, shown, value, nothing}
use Rattle.learner.specs.Ranges.{is_stored, takes_speed}
use Rattle.gps.specs.Gps.{update, update_rate, sound, interval, seconds, usable, acceleration, fixed, updated, rated, takes_count, on_gps}
use Rattle.gps.specs.Laws.{has}
use Rattle.gps.specs.declared.GpsAcceleration.{GpsAcceleration}

-- ---- what a fix answers d milliseconds after one at the speed `prev`
abbrev pub gained : Float → Float → ℕ → Said
gained speed prev d =
    let a = (speed ⊖ prev) ⊘ seconds d in
    cond (ltb 20 d && ltb d 500) (cond (is_stored a) (answer (value a)) (refused 6)) (answer nothing)

limits : T (le (f32 0x461c_4000) (f32 0x4e6e_6b28)) × T (le (neg (f32 0x461c_4000)) zero32) × T (is_stored zero32)
unfolding of_bits neg le
limits = (tt, tt, tt)

-- four tests that are passed, and a fifth
only_test : (p q z m x : Bool) → T p → T q → T z → T m → ((p && x) && (q && (z && m))) ≡ x
only_test false q z m x a b c d = absurd a
only_test true false z m x a b c d = absurd b
only_test true true false m x a b c d = absurd c
only_test true true true false x a b c d = absurd d
only_test true true true true true a b c d = refl
only_test true true true true false a b c d = refl

only_six : (x : Bool) (r : Reply) → shown (refusal_of true true true true true x) (answer r) ≡ cond x (answer r) (refused 6)
only_six true r = refl
only_six false r = refl

module _ (speed : Float) (time : ℕ) (s : GpsAcceleration) (f : T (finite speed)) (r : T (takes_speed speed)) (t : T (sound s)) where
  fixed_sound : (a : Float) (v : Bool) → sound (fixed speed time a v s) ≡ is_stored a
  fixed_sound a v =
      let stored = within_more speed (f32 0x461c_4000) (f32 0x4e6e_6b28) limits.0 (between_within speed (f32 0x461c_4000) limits.1 r) in
      only_test (is_stored speed) (is_stored s.gps_rate) (is_stored zero32) (is_stored s.rate_ema) (is_stored a) stored (has s t).2 limits.2 (has s t).4

  -- from a sound record a fix answers by the two speeds and the interval alone
  pub answers_gained : s.has_prev_fix ≡ true → (on_gps (update speed time) s).0 ≡ gained speed s.prev_speed (interval s.prev_time time)
  answers_gained e = rw (is_true (finite speed) f, is_true (takes_speed speed) r, is_true (sound s) t, e) (go (ltb 20 d && ltb d 500))
    where
      d : ℕ
      d = interval s.prev_time time

      a : Float
      a = acceleration speed time s

      out : Bool → Reply × GpsAcceleration
      out b = cond b (value a, fixed speed time a true s) (nothing, fixed speed time s.accel_lon s.valid s)

      go : (b : Bool) → shown (refusal_of true true true true true (sound (out b).1)) (answer (out b).0) ≡ cond b (cond (is_stored a) (answer (value a)) (refused 6)) (answer nothing)
      go true = rw (fixed_sound a true) (only_six (is_stored a) (value a))
      go false = rw (fixed_sound s.accel_lon s.valid, is_true (is_stored s.accel_lon) (has s t).1) refl

-- ---- a clock that goes back, and one that goes far ahead
module _ (n time : ℕ) (s : GpsAcceleration) (e : s.has_last_rate ≡ true) where
  -- before a second has passed, and so where the clock stands still or goes back, a count of fixes is not refused for its time and changes nothing
  pub too_soon : interval s.last_rate_time time < 1000 → (takes_count n time s ≡ true) × (rated n time s ≡ s)
  too_soon h = rw (e, lt-leb 1000 (interval s.last_rate_time time) h) (refl, refl)

  -- beyond 16,777,216 ms it gives 2, whatever the rest of the record; nothing is stored, so that a count at any later time does too
  pub long_gap : 16777216 < interval s.last_rate_time time → on_gps (update_rate n time) s ≡ (refused 2, s)
  long_gap h =
      let d = interval s.last_rate_time time in
      let g : 1000 ≤ d = omega arith in
      let refusing : takes_count n time s ≡ false = rw (e, le-leb 1000 d g, lt-leb d 16777216 h) refl in
      rw refusing (refl {a = (refused 2, s)})

-- ---- what a fix leaves, whether its interval is usable or not
abbrev pub Holds : Float → ℕ → GpsAcceleration → Type 0
Holds speed time s = (s.prev_speed ≡ speed) × (s.prev_time ≡ time) × (s.has_prev_fix ≡ true)

pub stores_fix : (speed : Float) (time : ℕ) (s : GpsAcceleration) → Holds speed time (updated speed time s).1
stores_fix speed time s = go (usable s.has_prev_fix (interval s.prev_time time))
  where
    a : Float
    a = acceleration speed time s

    go : (b : Bool) → Holds speed time (cond {A = Reply × GpsAcceleration} b (value a, fixed speed time a true s) (nothing, fixed speed time s.accel_lon s.valid s)).1
    go true = (refl, refl, refl)
    go false = (refl, refl, refl)
