-- The ring's sums lie within the arc tangent's domain, for any reader whose answers are multiples of 2 ^ -24 at most 1 in size. Assumes nothing.
use Rattle.std.specs.Prelude.{ℕ, zero, suc, ◌+◌, ◌*◌, ◌≤◌, ◌<◌, ◌≡◌, refl, Bool, true, false, ◌||◌, List, pos, negsuc, T, eqb, Float}
use Rattle.std.proofs.Common.{sym, subst, inl, inr, lt_of_lt_of_le, le_of_suc-le-suc, eq-or-lt_of_le, add-one, arith, lit<, lit≤}
use Rattle.std.specs.Bool.{beq}
use Rattle.std.specs.Float.{nan, inf, fin}
use Rattle.std.specs.Float.Ieee.{up, down, of_bits, le, eq, neg}
use Rattle.std.specs.Float.Ieee.Exact.{HasValue}
use Rattle.std.specs.Float.Ieee.Fits.{and_i, and_l, and_r, eq→eqb}
use Rattle.float.specs.Value.{within, pi, zero32}
use Rattle.float.specs.Order.{or_r, below→le}
use Rattle.trig.specs.Tangent.{usable}
use Rattle.float.specs.Fraction.{value_within}
use Rattle.learner.specs.Ranges.{is_course}
use Rattle.trig.specs.Row.{slot, sum_to}
use Rattle.trig.specs.RowLaws.{sum_start, sum_next}
use Rattle.yawrate.specs.Ring.{all_to, ring_sound}
use Rattle.float.specs.Multiple.{Multiple, add_multiple}

-- ---- the sum over the first n slots
nothing : Multiple 0 zero32
unfolding of_bits
nothing = record { below_zero = false; k = 0; multiple = (refl, refl); size = lit≤ tt }

pub sums_multiple : (read : Float → Float) (h : List Float) (n : ℕ) → n ≤ 20 → ((i : ℕ) → i < n → Multiple 1 (read (slot h i))) → Multiple n (sum_to read zero32 h n)
sums_multiple read h zero l r = subst (Multiple 0) (sym (sum_start read zero32 h)) nothing
sums_multiple read h (suc n) l r =
    subst (λ (m : ℕ). Multiple m (sum_to read zero32 h m)) (add-one n)
    (subst (Multiple (n + 1)) (sym (sum_next read zero32 h n)) (add_multiple n (sum_to read zero32 h n) (read (slot h n)) (omega arith) (sums_multiple read h n (omega arith) (λ i g. r i (omega arith))) (r n (omega arith))))

-- ---- such a sum is 0 or of size 2 ^ -24 to 20, and so within the arc tangent's domain
or_l : (a b : Bool) → T a → T (a || b)
or_l true b t = tt
or_l false b t = absurd t

abbrev least : Float
least = fin false 1 (negsuc 23)

abbrev large : Float → Bool
large v = eq v (fin false 0 (pos 0)) || le least v || le v (fin true 1 (negsuc 23))

large_enough : (x : Float) (s : Bool) (k : ℕ) → HasValue x s k 16777216 → T (large x)
unfolding eq
large_enough nan s k v = absurd v
large_enough (inf t) s k v = absurd v
large_enough (fin t m e) s zero v =
    let z : m * up e * 1 ≡ 0 * 1 * down e = omega (arith, v.1) in
    let y : m * up e * 1 ≡ 0 = omega (arith, z) in
    or_l (eq (fin t m e) (fin false 0 (pos 0)) || le least (fin t m e)) (le (fin t m e) (fin true 1 (negsuc 23)))
    (or_l (eq (fin t m e) (fin false 0 (pos 0))) (le least (fin t m e))
    (and_i (eqb (m * up e * 1) (0 * 1 * down e)) (beq t false || eqb (m * up e * 1) 0) (eq→eqb z) (or_r (beq t false) (eqb (m * up e * 1) 0) (eq→eqb y))))
large_enough (fin false m e) s (suc k) v =
    or_l (eq (fin false m e) (fin false 0 (pos 0)) || le least (fin false m e)) (le (fin false m e) (fin true 1 (negsuc 23)))
    (or_r (eq (fin false m e) (fin false 0 (pos 0))) (le least (fin false m e)) (below→le least (fin false m e) tt tt (at (m * up e) (down e) k v.1)))
  where
    at : (a d k : ℕ) → a * 16777216 ≡ suc k * d → 1 * 1 * d + 0 * 16777216 ≤ a * 16777216 + 0 * d
    at a d k h = rw h (omega arith)
large_enough (fin true m e) s (suc k) v =
    or_r (eq (fin true m e) (fin false 0 (pos 0)) || le least (fin true m e)) (le (fin true m e) (fin true 1 (negsuc 23))) (below→le (fin true m e) (fin true 1 (negsuc 23)) tt tt (at (m * up e) (down e) k v.1))
  where
    at : (a d k : ℕ) → a * 16777216 ≡ suc k * d → 0 * 16777216 + 1 * 1 * d ≤ 0 * d + a * 16777216
    at a d k h = rw h (omega arith)

pub multiple_usable : (n : ℕ) (x : Float) → n ≤ 20 → Multiple n x → T (usable x)
unfolding usable of_bits neg
multiple_usable n x h v =
    and_i (within x (fin false 1 (pos 5))) (large x)
    (value_within x v.below_zero v.k 16777216 1 (pos 5) (lit< tt) v.multiple (omega (arith, v.size)))
    (large_enough x v.below_zero v.k v.multiple)

-- ---- the ring, for any two readers whose answers on headings within PI are such multiples
abbrev pub Reads : (Float → Float) → Type 0
Reads read = (v : Float) → T (within v pi) → Multiple 1 (read v)

pub slot_within : (h : List Float) (n i : ℕ) → T (all_to is_course h n) → i < n → T (within (slot h i) pi)
unfolding all_to
slot_within h zero i t l = absurd (omega arith)
slot_within h (suc n) i t l =
    elim (eq-or-lt_of_le (le_of_suc-le-suc l)) [
      | inl e ↦ subst (λ (j : ℕ). T (within (slot h j) pi)) (sym e) (and_r (all_to is_course h n) (is_course (slot h n)) t)
      | inr g ↦ slot_within h n i (and_l (all_to is_course h n) (is_course (slot h n)) t) g
    ]

pub ring_usable : (read : Float → Float) → Reads read → (h : List Float) (n : ℕ) → T (ring_sound h) → n ≤ 20 → T (usable (sum_to read zero32 h n))
ring_usable read r h n t l =
    multiple_usable n (sum_to read zero32 h n) l (sums_multiple read h n l (λ i g. r (slot h i) (slot_within h 20 i t (lt_of_lt_of_le g l))))
