-- Taking +0 from a value leaves it as it is, and so does adding it to -0, or to +0 unless it is a zero. Assumes nothing.
use Rattle.std.specs.Prelude.{ℕ, zero, suc, ◌*◌, ◌<◌, ◌≡◌, refl, Bool, true, false, ℤ, T, Float}
use Rattle.std.proofs.Common.{sym, ap, ◌∙◌, subst, zero-mul, zero-lt-suc, mul-pos, arith, lt-ltb, le-ltb}
use Rattle.std.specs.Float.{Format, nan, inf, fin}
use Rattle.std.specs.Float.Ieee.{up, down, round, sum, add, sub, neg, eq, fits}
use Rattle.std.specs.Float.Ieee.Fits.{up_pos, down_pos}
use Rattle.float.specs.Bounds.{nought}
use Rattle.float.specs.Exact.{zero_exp, round_self}
use Rattle.float.specs.Order.{round_zero}

-- a value is its own rounding, a zero too
itself : (f : Format) (s : Bool) (m : ℕ) (e : ℤ) → T (fits f (fin s m e)) → (a c : ℕ) → a ≡ m * up e → c ≡ down e → round f s a c ≡ fin s m e
itself f s zero e t a c p q = rw (p, q, zero-mul (up e)) (round_zero f s (down e) (down_pos e) ∙ ap (λ (d : ℤ). fin s 0 d) (sym (zero_exp f s e t)))
itself f s (suc m) e t a c p q = rw (p, q) (round_self f s (suc m) e t (zero-lt-suc m))

-- a sum with nothing on its other side
nothing_less : (f : Format) (a b c : ℕ) → b ≡ 0 → sum f false a true b c ≡ round f false a c
unfolding sum
nothing_less f a b c e = rw (e, le-ltb a 0 (omega arith)) (ap (λ (x : ℕ). round f false x c) (omega arith))

nothing_more : (f : Format) (a b c : ℕ) → a ≡ 0 → 0 < b → sum f false a true b c ≡ round f true b c
unfolding sum
nothing_more f a b c e h = rw (e, lt-ltb 0 b h) (ap (λ (x : ℕ). round f true x c) (omega arith))

pub less_zero : (f : Format) (x : Float) → T (fits f x) → sub f x nought ≡ x
unfolding sub add neg sum
less_zero f nan t = refl
less_zero f (inf s) t = refl
less_zero f (fin true m e) t = itself f true m e t _ _ (omega arith) (omega arith)
less_zero f (fin false m e) t = nothing_less f (m * up e * 1) (0 * 1 * down e) (down e * 1) (omega arith) ∙ itself f false m e t _ _ (omega arith) (omega arith)

is_zero : (e : ℤ) → eq (fin true 0 e) nought ≡ true
unfolding eq
is_zero e = rw (zero-mul (up e), zero-mul (down e)) refl

pub zero_more : (f : Format) (x : Float) → T (fits f x) → eq x nought ≡ false → add f nought x ≡ x
unfolding add sum
zero_more f nan t n = refl
zero_more f (inf s) t n = refl
zero_more f (fin false m e) t n = itself f false m e t _ _ (omega arith) (omega arith)
zero_more f (fin true zero e) t n = absurd (subst T (sym (is_zero e) ∙ n) tt)
zero_more f (fin true (suc m) e) t n =
    let p = mul-pos (zero-lt-suc m) (up_pos e) in
    nothing_more f (0 * 1 * down e) (suc m * up e * 1) (1 * down e) (omega arith) (omega arith) ∙ itself f true (suc m) e t _ _ (omega arith) (omega arith)

pub minus_zero_more : (f : Format) (x : Float) → T (fits f x) → add f (neg nought) x ≡ x
unfolding add sum neg
minus_zero_more f nan t = refl
minus_zero_more f (inf s) t = refl
minus_zero_more f (fin true m e) t = itself f true m e t _ _ (omega arith) (omega arith)
minus_zero_more f (fin false zero e) t = rw (zero-mul (up e), zero-mul (down e)) (itself f false zero e t _ _ (omega arith) (omega arith))
minus_zero_more f (fin false (suc m) e) t =
    let p = mul-pos (zero-lt-suc m) (up_pos e) in
    rw (lt-ltb (0 * 1 * down e) (suc m * up e * 1) (omega arith)) (itself f false (suc m) e t _ _ (omega arith) (omega arith))
