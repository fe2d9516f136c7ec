-- An accepted fix never leaves its range: where the position is near an end of the range the innovation is exact, and elsewhere the gate keeps it small. Assumes nothing.
-- Of the numbers looked at it takes for granted that they are f32 values (`fits`).
use Rattle.std.specs.Prelude.{ℕ, zero, suc, ◌+◌, ◌-◌, ◌*◌, ◌^◌, ◌≤◌, ◌<◌, ◌≡◌, refl, Bool, true, false, T, pos, negsuc, Float}
use Rattle.std.proofs.Common.{le_refl, lt_trans, mul-one, zero-mul, add-mul, mul-pos, mul-le-mul_right, arith, sym, ◌∙◌, subst, shl_lt}
use Rattle.std.proofs.Math.Pow.{pow-lt}
use Rattle.std.specs.Float.{nan, inf, fin, binary32}
use Rattle.std.specs.Float.Ieee.{of_bits, fits, up, down, round, add, sub, mul, div, neg, lt, le}
use Rattle.std.specs.Float.Ieee.Fits.{sub-fits, neg-fits}
use Rattle.std.specs.Float.Ieee.Exact.{HasValue, round_exact}
use Rattle.std.specs.Float.Ieee.Scale.{finite}
use Rattle.std.specs.Float.Ieee.Positive.{den, den_pos, positive, mul_mono}
use Rattle.float.specs.Value.{f32, ◌⊕◌, ◌⊖◌, ◌⊗◌, ◌⊘◌}
use Rattle.float.specs.Exact.{held}
use Rattle.float.specs.Order.{plus, less, le→below, below→le, over, rounded_mono, add_rounded, add_mono, sub_mono, neg_finite, neg_le, le_trans_float, between_finite, lt→le, not_lt→le, le→not_lt}
use Rattle.float.specs.Bounds.{nought, one, self_rounded, mul_shrinks, positive_by}
use Rattle.float.specs.Interval.{In, mul_scale, div_scale, div_anti}
use Rattle.float.specs.Negation.{neg_neg, neg_add, neg_sub, sub_neg, mul_swap, mul_neg, square_neg}
use Rattle.float.specs.Intervals.{from_within, to_within, mul_in}
use Rattle.channel.specs.Ranges.{is_position, position_limit as most, variance_limit, noise_limit}
use Rattle.position.specs.Position.{chi2_gate_position as gate}

-- 1e7, the end of the range; 9e6, near it; 2 ^ 18, which no accepted innovation passes
abbrev near : Float
near = f32 0x4b09_5440

abbrev far : Float
far = f32 0x4880_0000

facts : T (finite most) × T (finite near) × T (finite far) × T (fits binary32 most) × T (fits binary32 far) × T (le nought far) × T (le (near ⊕ far) most) × T (le nought (most ⊖ most)) × T (finite (most ⊖ near)) × T (le near most)
unfolding of_bits fits add sub le
facts = (tt, tt, tt, tt, tt, tt, tt, tt, tt, tt)

more : T (positive far) × T (finite (one ⊗ far)) × T (le (neg one) nought)
unfolding of_bits mul neg le
more = (tt, tt, tt)

-- ---- near the end: 1e7 - x is exact, and x + (1e7 - x) is 1e7
-- a whole number below 2 ^ 24 is its own rounding
whole : (d : ℕ) → d < 16777216 → HasValue (round binary32 false d 1) false d 1
whole d h = round_exact binary32 false d 1 d 149 (omega arith) h (shl_lt 128 149 (lt_trans h (pow-lt {i = 24} {j = 128} (omega arith)))) (sym (mul-one (d * 2 ^ 149)))

value_finite : (x : Float) (s : Bool) (a c : ℕ) → HasValue x s a c → T (finite x)
value_finite nan s a c h = absurd h
value_finite (inf t) s a c h = absurd h
value_finite (fin t m e) s a c h = tt

self_le : (x : Float) → T (finite x) → T (le x x)
self_le x p = below→le x x p p (le_refl (plus x * den x + less x * den x))

-- x + E is (N + d) rounded, for x the whole number N and E the whole number d
sum_of : (n k : ℕ) (E : Float) (d : ℕ) → HasValue E false d 1 → n * up (pos k) + d ≤ 10000000 → T (le (fin false n (pos k) ⊕ E) most)
unfolding of_bits
sum_of n k nan d h j = absurd h
sum_of n k (inf s) d h j = absurd h
sum_of n k (fin true m e) d h j = absurd (no h.0)
  where
    no : true ≡ false → ⊥
    no q = let z : ◌≡◌ {A = ℕ} 0 1 = cc in omega arith
sum_of n k (fin false m e) d h j =
    let x = fin false n (pos k) in
    let E = fin false m e in
    rounded_mono binary32 (plus x * den E + plus E * den x) (less x * den E + less E * den x) (den x * den E) (plus most) (less most) (den most) (x ⊕ E) most
    (mul-pos (den_pos x) (den_pos E)) (den_pos most) (add_rounded binary32 x E tt tt) (self_rounded binary32 most facts.3 facts.0)
    (at (n * up (pos k)) d (m * up e) (down e) h.1 j)
  where
    at : (N d M D : ℕ) → M * 1 ≡ d * D → N + d ≤ 10000000 → (N * D + M * 1) * 1 + 0 * (1 * D) ≤ 10000000 * (1 * D) + (0 * D + 0 * 1) * 1
    at N d M D e j = let g = mul-le-mul_right D j in let r = add-mul N d D in omega arith

beyond : (u v : ℕ) → 0 < u → 9000000 * u + v ≤ 0 → ⊥
beyond u v p h = omega arith

-- 1e7 - x is at most d, for x the whole number 1e7 - d
below_E : (n k d : ℕ) → n * up (pos k) + d ≡ 10000000 → T (le (most ⊖ fin false n (pos k)) (round binary32 false d 1))
unfolding of_bits sub neg
below_E n k d e =
    let x = fin true n (pos k) in
    rounded_mono binary32 (plus most * den x + plus x * den most) (less most * den x + less x * den most) (den most * den x) d 0 1 (most ⊕ x) (round binary32 false d 1)
    (mul-pos (den_pos most) (den_pos x)) (omega arith) (add_rounded binary32 most x tt tt) (over d (omega arith) refl) (omega arith)

-- a value with a fraction has more than 24 digits there
fraction : (n D : ℕ) → n < 16777216 → 1 < D → 9000000 * D + 0 * 1 ≤ n * 1 * 1 + 0 * D → ⊥
fraction n D h p g = omega arith

-- for x from 9e6 to 1e7
pub top : (x : Float) → T (fits binary32 x) → T (finite x) → T (le near x) → T (le x most) → T (le (x ⊕ (most ⊖ x)) most)
unfolding of_bits
top nan t p a b = absurd p
top (inf s) t p a b = absurd p
top (fin true m e) t p a b = let h = le→below near (fin true m e) tt tt a in absurd (beyond (down e) (m * up e * 1) (den_pos (fin true m e)) (omega arith))
top (fin false zero e) t p a b = let h = le→below near (fin false zero e) tt tt a in let z = zero-mul (up e) in absurd (beyond (down e) 0 (den_pos (fin false zero e)) (omega arith))
top (fin false (suc m) (negsuc k)) t p a b =
    let h = le→below near (fin false (suc m) (negsuc k)) tt tt a in
    let g = held binary32 false (suc m) (negsuc k) (omega arith) t in
    absurd (fraction (suc m) (down (negsuc k)) g.short (pow-lt {i = 0} {j = suc k} (omega arith)) h)
top (fin false (suc m) (pos k)) t p a b =
    let x = fin false (suc m) (pos k) in
    let lo = le→below near x tt tt a in
    let hi = le→below x most tt tt b in
    let N = suc m * up (pos k) in
    let d = 10000000 - N in
    let E = round binary32 false d 1 in
    let v = whole d (omega arith) in
    let f_e = value_finite E false d 1 v in
    let D = most ⊖ x in
    let under_E = below_E (suc m) k d (omega arith) in
    let f_d = between_finite nought D E tt f_e (le_trans_float nought (most ⊖ most) D facts.7 (sub_mono binary32 most most most x tt tt tt tt (self_le most tt) b)) under_E in
    le_trans_float (x ⊕ D) (x ⊕ E) most (add_mono binary32 x x D E tt tt f_d f_e (self_le x tt) under_E) (sum_of (suc m) k E d v (omega arith))

-- ---- a corrected number stays at most 1e7, and at least -1e7
is_T : (b : Bool) → b ≡ true → T b
is_T b e = subst T (sym e) tt

module _ (k : Float) (k0 : T (le nought k)) (k1 : T (le k one)) where
  fk : T (finite k)
  fk = between_finite nought k one tt tt k0 k1

  -- k * y is at most h, where y is, for an h from zero
  scaled_under : (y h : Float) → T (finite y) → T (fits binary32 h) → T (finite h) → T (le nought h) → T (le y h) → T (le (k ⊗ y) h)
  scaled_under y h p t q z j =
      subst (λ (v : Float). T (le v h)) (mul_swap binary32 y k p fk)
      (le_trans_float (y ⊗ k) (h ⊗ k) h (mul_scale binary32 y h k p q fk k0 j) (mul_shrinks binary32 h k t q fk z k0 k1))

  product_finite : (y : Float) → In (neg far) far y → T (finite (k ⊗ y))
  product_finite y i =
      let u : In (neg one) one k = record { from = le_trans_float (neg one) nought k more.2 k0; to = k1 } in
      let m = mul_in binary32 one far k y tt more.0 u i in
      between_finite (neg (one ⊗ far)) (k ⊗ y) (one ⊗ far) (neg_finite (one ⊗ far) more.1) more.1 m.from m.to

  upper : (x z : Float) → T (fits binary32 x) → T (finite x) → T (finite z) → In (neg far) far (z ⊖ x) → T (le x most) → T (le z most) → T (le (x ⊕ k ⊗ (z ⊖ x)) most)
  upper x z t fx fz i hx hz = go (lt near x) refl
    where
      fy : T (finite (z ⊖ x))
      fy = between_finite (neg far) (z ⊖ x) far (neg_finite far facts.2) facts.2 i.from i.to

      fky : T (finite (k ⊗ (z ⊖ x)))
      fky = product_finite (z ⊖ x) i

      go : (b : Bool) → lt near x ≡ b → T (le (x ⊕ k ⊗ (z ⊖ x)) most)
      go false e =
          le_trans_float (x ⊕ k ⊗ (z ⊖ x)) (near ⊕ far) most
          (add_mono binary32 x near (k ⊗ (z ⊖ x)) far fx facts.1 fky facts.2 (not_lt→le near x facts.1 fx e) (scaled_under (z ⊖ x) far fy facts.4 facts.2 facts.5 i.to))
          facts.6
      go true e =
          let n = lt→le near x (is_T (lt near x) e) in
          let D = most ⊖ x in
          let d0 = le_trans_float nought (most ⊖ most) D facts.7 (sub_mono binary32 most most most x facts.0 facts.0 facts.0 fx (self_le most facts.0) hx) in
          let f_d = between_finite nought D (most ⊖ near) tt facts.8 d0 (sub_mono binary32 most most x near facts.0 facts.0 fx facts.1 (self_le most facts.0) n) in
          le_trans_float (x ⊕ k ⊗ (z ⊖ x)) (x ⊕ D) most
          (add_mono binary32 x x (k ⊗ (z ⊖ x)) D fx fx fky f_d (self_le x fx) (scaled_under (z ⊖ x) D fy (sub-fits binary32 most x) f_d d0 (sub_mono binary32 z most x x fz facts.0 fx fx hz (self_le x fx))))
          (top x t fx n hx)

  -- the other end, by the negated numbers
  lower : (x z : Float) → T (fits binary32 x) → T (finite x) → T (finite z) → In (neg far) far (z ⊖ x) → T (le (neg most) x) → T (le (neg most) z) → T (le (neg most) (x ⊕ k ⊗ (z ⊖ x)))
  lower x z t fx fz i hx hz =
      let y = z ⊖ x in
      let w = neg z ⊖ neg x in
      let fy = between_finite (neg far) y far (neg_finite far facts.2) facts.2 i.from i.to in
      let nx = neg_finite x fx in
      let nz = neg_finite z fz in
      let to_neg = sub_neg binary32 z x fz fx in
      let from_neg = neg_sub binary32 z x fz fx in
      let turned : (v l : Float) → T (le (neg l) v) → T (le (neg v) l) = λ v l h. subst (λ (u : Float). T (le (neg v) u)) (neg_neg l) (neg_le (neg l) v h) in
      let j : In (neg far) far w = record { from = le_trans_float (neg far) (neg y) w (neg_le y far i.to) from_neg; to = le_trans_float w (neg y) far to_neg (turned y far i.from) } in
      let fw = between_finite (neg far) w far (neg_finite far facts.2) facts.2 j.from j.to in
      let fky = product_finite y i in
      let step : T (le (neg (k ⊗ y)) (k ⊗ w)) =
      subst (λ (v : Float). T (le v (k ⊗ w))) (mul_neg binary32 k y fk fy)
      (rw (mul_swap binary32 k (neg y) fk (neg_finite y fy), mul_swap binary32 k w fk fw) (mul_scale binary32 (neg y) w k (neg_finite y fy) fw fk k0 from_neg)) in
      let u = upper (neg x) (neg z) (neg-fits binary32 x t) nx nz j (turned x most hx) (turned z most hz) in
      let l = le_trans_float (neg (x ⊕ k ⊗ y)) (neg x ⊕ neg (k ⊗ y)) most (neg_add binary32 x (k ⊗ y) fx fky)
      (le_trans_float (neg x ⊕ neg (k ⊗ y)) (neg x ⊕ k ⊗ w) most (add_mono binary32 (neg x) (neg x) (neg (k ⊗ y)) (k ⊗ w) nx nx (neg_finite (k ⊗ y) fky) (product_finite w j) (self_le (neg x) nx) step) u) in
      subst (λ (v : Float). T (le (neg most) v)) (neg_neg (x ⊕ k ⊗ y)) (neg_le (neg (x ⊕ k ⊗ y)) most l)

  -- what `corrected` leaves of a position
  pub stays : (x z : Float) → T (fits binary32 x) → T (is_position x) → T (is_position z) → In (neg far) far (z ⊖ x) → T (is_position (x ⊕ k ⊗ (z ⊖ x)))
  stays x z t hx hz i =
      let a = from_within x most hx in
      let b = from_within z most hz in
      let fm = neg_finite most facts.0 in
      let fx = between_finite (neg most) x most fm facts.0 a.from a.to in
      let fz = between_finite (neg most) z most fm facts.0 b.from b.to in
      to_within (x ⊕ k ⊗ (z ⊖ x)) most (record { from = lower x z t fx fz i a.from b.from; to = upper x z t fx fz i a.to b.to })

-- ---- the gate keeps the innovation small
-- the largest variance of an innovation
abbrev spread : Float
spread = variance_limit ⊕ noise_limit

gates : T (positive spread) × T (finite (far ⊗ far)) × T (le nought (far ⊗ far)) × T (positive far) × T (finite gate) × T (finite (neg far))
unfolding of_bits add mul le neg
gates = (tt, tt, tt, tt, tt, tt)

too_far : lt gate (far ⊗ far ⊘ spread) ≡ true
unfolding of_bits add mul div lt
too_far = refl

module _ (y s : Float) (fy : T (finite y)) (ps : T (positive s)) (hs : T (le s spread)) where
  not_beyond : (v : Float) → T (finite v) → v ⊗ v ≡ y ⊗ y → T (finite (y ⊗ y)) → T (le (y ⊗ y ⊘ s) gate) → T (le far v) → ⊥
  not_beyond v fv e fq h g =
      let big : T (le (far ⊗ far) (y ⊗ y)) = subst (λ (q : Float). T (le (far ⊗ far) q)) e (mul_mono binary32 far v far v gates.3 (positive_by far v gates.3 fv g) gates.3 (positive_by far v gates.3 fv g) g g) in
      let under_gate = le_trans_float (far ⊗ far ⊘ spread) (far ⊗ far ⊘ s) gate (div_anti binary32 (far ⊗ far) s spread gates.1 gates.2 ps gates.0 hs)
      (le_trans_float (far ⊗ far ⊘ s) (y ⊗ y ⊘ s) gate (div_scale binary32 (far ⊗ far) (y ⊗ y) s gates.1 fq ps big) h) in
      let q = sym too_far ∙ le→not_lt (far ⊗ far ⊘ spread) gate under_gate in
      let z : ◌≡◌ {A = ℕ} 0 1 = cc in omega arith

  pub innovation_small : T (finite (y ⊗ y)) → T (le (y ⊗ y ⊘ s) gate) → In (neg far) far y
  innovation_small fq h = record { from = lo (lt y (neg far)) refl; to = hi (lt far y) refl }
    where
      hi : (b : Bool) → lt far y ≡ b → T (le y far)
      hi true e = absurd (not_beyond y fy refl fq h (lt→le far y (is_T (lt far y) e)))
      hi false e = not_lt→le far y facts.2 fy e

      lo : (b : Bool) → lt y (neg far) ≡ b → T (le (neg far) y)
      lo true e =
          absurd (not_beyond (neg y) (neg_finite y fy) (square_neg binary32 y fy) fq h
          (subst (λ (v : Float). T (le v (neg y))) (neg_neg far) (neg_le y (neg far) (lt→le y (neg far) (is_T (lt y (neg far)) e)))))
      lo false e = not_lt→le y (neg far) fy gates.5 e
