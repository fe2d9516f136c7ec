-- An answer of the sign s and the size k * 2 ^ -22 meets what document 01 asks, if the whole numbers do. Assumes nothing.
use Rattle.std.specs.Prelude.{ℕ, ◌*◌, ◌≡◌, refl, Bool, false, negsuc, T, Float}
use Rattle.std.specs.Float.{fin}
use Rattle.std.specs.Float.Ieee.{of_bits}
use Rattle.std.specs.Float.Ieee.Positive.{num, den}
use Rattle.float.specs.Value.{within, pi}
use Rattle.trig.specs.Angle.{n, negative, signed}
use Rattle.trig.specs.Tangent.{over, Bearing}
use Rattle.trig.proofs.Laws.Across.{Small, Front}
use Rattle.trig.proofs.Laws.Turned.{signed_near, signed_front}

pub pi_is : pi ≡ fin false 13176795 (negsuc 21)
unfolding of_bits
pi_is = refl

-- y's sign is taken as s, which it is unless y is zero
pub answered : (y x a : Float) (s : Bool) (k : ℕ) → negative a ≡ s → n a ≡ 64 * k → T (within a pi) → over y x ≡ signed s (num y * den x) → Small (negative x) (num y * den x) (num x * den y) (64 * k) → Front (negative x) (num y * den x) (num x * den y) (64 * k) → Bearing y x a
answered y x a s k e f p o v w =
    record {
      near = rw (e, f, o) (signed_near s (negative x) (num y * den x) (num x * den y) (64 * k) v);
      front = rw (e, f, o) (signed_front s (negative x) (num y * den x) (num x * den y) (64 * k) w);
      within_pi = p;
    }
