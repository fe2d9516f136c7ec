-- Document 02's sentences on the tables' readings, proved of their steps for every angle of at most 4 in size: a reading is a multiple of 2 ^ -24, at most 1 in size,
-- lies between the two entries, and within 2 ^ -23 of the straight line at the angle itself. Assumes nothing.
use Rattle.std.specs.Prelude.{ℕ, ◌+◌, ◌-◌, ◌*◌, ◌/◌, ◌%◌, ◌^◌, ◌≤◌, ◌<◌, ◌≡◌, Bool, true, false, not, ◌&&◌, cond, T, ltb, Float}
use Rattle.std.proofs.Common.{ap, ◌∙◌, subst, inl, inr, eq-or-lt_of_le, le_of_lt, mod-lt, div-mul-le_self, div-add-mod', arith, lit<}
use Rattle.std.proofs.Math.Nat.{lt-div-mul-add, div-div-eq-div-mul, mul-div-mul_right}
use Rattle.std.specs.Float.{nan, binary32}
use Rattle.std.specs.Float.Ieee.{neg, fits}
use Rattle.std.specs.Float.Ieee.Bits.{is_true}
use Rattle.std.specs.Float.Ieee.Fits.{cond-fits, nan-fits, neg-fits}
use Rattle.std.specs.Float.Ieee.Positive.{num, den, den_pos}
use Rattle.float.specs.Value.{within}
use Rattle.float.specs.Multiple.{Multiple}
use Rattle.trig.specs.Difference.{Within}
use Rattle.trig.specs.Angle.{n, negative, four, lowered, turned}
use Rattle.trig.specs.Table.{sine_entry, cosine_entry, next, line, read, table_sine, table_cosine, place, beyond, Reading}
use Rattle.trig.proofs.Distance.{n_most}
use Rattle.trig.proofs.Laws.Units.{units_cut}
use Rattle.trig.proofs.Laws.Pattern.{lowered_value, lowered_fits}
use Rattle.trig.proofs.Laws.Results.{turned_value}
use Rattle.trig.proofs.Laws.Entries.{sine_bounds, cosine_bounds, sines_close, cosines_close}
use Rattle.trig.proofs.Laws.Tabled.{line_bounds, read_inside}
use Rattle.trig.proofs.Laws.Line.{Gone, OnLine, on_line}

-- ---- the angle: x is u / d, and k its cut in units of 2 ^ -28
module _ (u d k : ℕ) (o : 0 < d) (cut : k ≡ 256 * u * 1048576 / d) where
  same_place : k / 1048576 ≡ 256 * u / d
  same_place = rw cut (div-div-eq-div-mul (256 * u * 1048576) d 1048576 ∙ mul-div-mul_right (256 * u) d (lit< tt))

  gone : Gone (k % 1048576) (256 * u % d) d
  gone =
      let q = 256 * u / d in
      let e : q * 1048576 + k % 1048576 ≡ k = rw (← same_place) (div-add-mod' k 1048576) in
      let f = div-add-mod' (256 * u) d in
      let l : k * d ≤ 256 * u * 1048576 = rw cut (div-mul-le_self (256 * u * 1048576) d) in
      let h : 256 * u * 1048576 < k * d + d = rw cut (lt-div-mul-add {a = 256 * u * 1048576} o) in
      let g : q * 1048576 * d + k % 1048576 * d ≡ k * d = omega (arith, ap (λ (z : ℕ). z * d) e) in
      record { low = omega (arith, g, f, l); high = omega (arith, g, f, h) }

-- ---- the answer: a multiple of 2 ^ -24, at most 1 in size
turned_multiple : (turn : Bool) (t : ℕ) → 16777216 ≤ t → t ≤ 50331648 → Multiple 1 (turned turn (lowered t))
turned_multiple turn t from to =
    let s = ltb t 33554432 in
    let k = t - 33554432 + (33554432 - t) in
    record { below_zero = cond turn (not s) s; k = k; multiple = turned_value turn (lowered t) s k (2 ^ 24) (lowered_value t from to); size = omega arith }

-- ---- the reading of any table whose entries are at most 1 in size, and neighbours not far apart
record Table (entry : ℕ → ℕ) : Type 0 where
  bounds : (i : ℕ) → i ≤ 1024 → (16777216 ≤ entry i) × (entry i ≤ 50331648)
  close : (i : ℕ) → i < 1024 → Within (entry i) (entry (i + 1)) 1048576

module _ (entry : ℕ → ℕ) (w : Table entry) (a : Float) (t : T (within a four)) where
  close_next : (i : ℕ) → i ≤ 1024 → Within (entry i) (entry (next i)) 1048576
  close_next i h =
      elim (eq-or-lt_of_le h) [
        | inl e ↦ let m : i ≡ next i = omega arith in subst (λ (j : ℕ). Within (entry i) (entry j) 1048576) m (omega arith)
        | inr l ↦ let m : i + 1 ≡ next i = omega arith in subst (λ (j : ℕ). Within (entry i) (entry j) 1048576) m (w.close i l)
      ]

  whole : n a ≡ 256 * num a * 1048576 / den a
  whole = units_cut 28 a ∙ ap (λ (x : ℕ). x / den a) (omega arith)

  at_place : n a / 1048576 ≡ place a
  at_place = same_place (num a) (den a) (n a) (den_pos a) whole

  place_most : place a ≤ 1024
  place_most = omega (arith, at_place, n_most a t)

  on : OnLine (entry (place a)) (entry (next (place a))) (beyond a) (den a) (line entry (n a))
  unfolding line
  on =
      rw at_place
      (on_line (n a % 1048576) (beyond a) (den a) (omega arith) (le_of_lt (mod-lt (256 * num a) (den_pos a))) (gone (num a) (den a) (n a) (den_pos a) whole) (entry (place a)) (entry (next (place a)))
      (close_next (place a) place_most))

  in_range : (16777216 ≤ line entry (n a)) × (line entry (n a) ≤ 50331648)
  in_range = line_bounds entry (n a) (n_most a t) (λ i h. w.bounds i (omega arith))

  reading : (odd : Bool) → Reading entry (odd && negative a) a (read odd entry a)
  reading odd =
      let k = line entry (n a) in
      record {
        t = k;
        reads = read_inside odd entry a (is_true (within a four) t);
        between = on.between;
        near = on.near;
        multiple = rw (read_inside odd entry a (is_true (within a four) t)) (turned_multiple (odd && negative a) k in_range.0 in_range.1);
      }

-- ---- the theorems
pub sine_reading : (a : Float) → T (within a four) → Reading sine_entry (negative a) a (table_sine a)
sine_reading a t = reading sine_entry (record { bounds = sine_bounds; close = sines_close }) a t true

pub cosine_reading : (a : Float) → T (within a four) → Reading cosine_entry false a (table_cosine a)
cosine_reading a t = reading cosine_entry (record { bounds = cosine_bounds; close = cosines_close }) a t false

-- every reading is an f32
pub read_fits : (odd : Bool) (entry : ℕ → ℕ) (a : Float) → T (fits binary32 (read odd entry a))
unfolding read
read_fits odd entry a =
    let x = lowered (line entry (n a)) in
    let held = lowered_fits (line entry (n a)) in
    cond-fits binary32 (within a four) (turned (odd && negative a) x) nan (cond-fits binary32 (odd && negative a) (neg x) x (neg-fits binary32 x held) held) (nan-fits binary32)
