-- What an f32's bit pattern says of its value, of either sign. Assumes nothing.
use Rattle.std.specs.Prelude.{ℕ, zero, suc, ◌+◌, ◌*◌, ◌/◌, ◌%◌, ◌^◌, ◌<◌, ◌≡◌, refl, Bool, true, false, cond, T, leb, eqb, Float}
use Rattle.std.proofs.Common.{sym, ◌∙◌, subst, mul-one, arith, eqb→eq}
use Rattle.std.proofs.Math.Pow.{mod-mod-pow}
use Rattle.std.specs.Float.{nan, inf, binary32}
use Rattle.std.specs.Float.Ieee.{odd, of_fields, of_bits, to_bits, fits}
use Rattle.std.specs.Float.Ieee.Bits.{of_bits-to_bits}
use Rattle.std.specs.Float.Ieee.Exact.{HasValue, odd_sign}
use Rattle.std.specs.Float.Ieee.Scale.{finite}
use Rattle.float.specs.RootWhole.{magnitude}

special : (s : Bool) (t : ℕ) → T (finite (cond (eqb t 0) (inf s) nan)) → ⊥
special s t = go (eqb t 0)
  where
    go : (b : Bool) → T (finite (cond b (inf s) nan)) → ⊥
    go true f = f
    go false f = f

fields_value : (s : Bool) (x t : ℕ) → T (finite (of_fields binary32 s x t)) → HasValue (of_fields binary32 s x t) s (magnitude x t) (2 ^ 149)
unfolding of_fields magnitude
fields_value s zero t f = subst (λ (u : ℕ). HasValue (odd 24 s t 0 149) s u (2 ^ 149)) (mul-one t) (odd_sign 24 s t 0 149)
fields_value s (suc x) t f = go (eqb (suc x) 255) f
  where
    go : (b : Bool) → T (finite (cond b (cond (eqb t 0) (inf s) nan) (odd 24 s (8388608 + t) x 149))) → HasValue (cond b (cond (eqb t 0) (inf s) nan) (odd 24 s (8388608 + t) x 149)) s ((2 ^ 23 + t) * 2 ^ x) (2 ^ 149)
    go true f = absurd (special s t f)
    go false f = odd_sign 24 s (8388608 + t) x 149

opened : (b : ℕ) → of_bits binary32 b ≡ of_fields binary32 (leb 2147483648 b) (b % 2147483648 / 8388608) (b % 8388608)
unfolding of_bits
opened b = refl

-- a pattern with any other exponent's field than the last
odd_finite : (s : Bool) (q k l : ℕ) → T (finite (odd 24 s q k l))
unfolding odd
odd_finite s zero k l = tt
odd_finite s (suc q) k l = tt

usual : (s : Bool) (x t : ℕ) → x < 255 → T (finite (of_fields binary32 s x t))
unfolding of_fields
usual s zero t h = odd_finite s t 0 149
usual s (suc x) t h = go (eqb (suc x) 255) refl
  where
    go : (b : Bool) → eqb (suc x) 255 ≡ b → T (finite (cond b (cond (eqb t 0) (inf s) nan) (odd 24 s (8388608 + t) x 149)))
    go true e = let k : suc x ≡ 255 = eqb→eq (suc x) 255 (subst T (sym e) tt) in absurd (omega arith)
    go false e = odd_finite s (8388608 + t) x 149

pub pattern_value : (b : ℕ) → b % 2147483648 / 8388608 < 255 → HasValue (of_bits binary32 b) (leb 2147483648 b) (magnitude (b % 2147483648 / 8388608) (b % 8388608)) (2 ^ 149)
pattern_value b h =
    let s = leb 2147483648 b in
    let x = b % 2147483648 / 8388608 in
    let t = b % 8388608 in
    subst (λ (v : Float). HasValue v s (magnitude x t) (2 ^ 149)) (sym (opened b)) (fields_value s x t (usual s x t h))

-- the pattern without its sign
abbrev pub size_bits : Float → ℕ
size_bits v = to_bits binary32 v % 2147483648

pub bits_value : (v : Float) → T (fits binary32 v) → T (finite v) → HasValue v (leb 2147483648 (to_bits binary32 v)) (magnitude (size_bits v / 8388608) (size_bits v % 8388608)) (2 ^ 149)
bits_value v f w =
    let b = to_bits binary32 v in
    let e : of_fields binary32 (leb 2147483648 b) (b % 2147483648 / 8388608) (b % 8388608) ≡ v = sym (opened b) ∙ of_bits-to_bits binary32 v f in
    let h = fields_value (leb 2147483648 b) (b % 2147483648 / 8388608) (b % 8388608) (subst (λ (x : Float). T (finite x)) (sym e) w) in
    rw (mod-mod-pow b 8 23) (subst (λ (x : Float). HasValue x (leb 2147483648 b) (magnitude (b % 2147483648 / 8388608) (b % 8388608)) (2 ^ 149)) e h)
