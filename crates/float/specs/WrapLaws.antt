-- Rust's two loops end within ten turns for |a| ≤ 64, and leave an angle from -PI to PI; one that lies there they leave as it is. Assumes nothing.
use Rattle.std.specs.Prelude.{◌≡◌, refl, ℕ, zero, suc, Bool, true, false, ◌&&◌, cond, T, Float}
use Rattle.std.proofs.Common.{sym, ap, ◌∙◌, subst}
use Rattle.std.specs.Float.{binary32}
use Rattle.std.specs.Float.Ieee.{of_bits, add, sub, neg, lt, le}
use Rattle.std.specs.Float.Ieee.Fits.{and_i, and_l, and_r}
use Rattle.std.specs.Float.Ieee.Scale.{finite}
use Rattle.std.specs.Float.Ieee.Bits.{is_true}
use Rattle.float.specs.Order.{add_mono, sub_mono, lt→le, not_lt→le, le→not_lt, le_trans_float, between_finite}
use Rattle.float.specs.Size.{within_low, within_high, within_more}
use Rattle.float.specs.Loop.{run, Ends, run_again, run_stop}
use Rattle.float.specs.Value.{pi, within}
use Rattle.float.specs.Wrap.{turn, limit, down, up, high, deep, lowered, lifted, wrapped, inside}

is_T : (b : Bool) → b ≡ true → T b
is_T b e = subst T (sym e) tt

-- ---- facts that antt computes
-- from the bound k, n turns reach an end
abbrev reach_down : ℕ → Float → Bool
reach_down zero k = finite k && le k pi
reach_down (suc n) k = finite k && reach_down n (down k)

abbrev reach_up : ℕ → Float → Bool
reach_up zero k = finite k && le (neg pi) k
reach_up (suc n) k = finite k && reach_up n (up k)

ten_down : T (reach_down 10 limit)
unfolding of_bits sub le
ten_down = tt

ten_up : T (reach_up 10 (neg limit))
unfolding of_bits add le neg
ten_up = tt

finite_pi : T (finite pi) × T (finite (neg pi)) × T (finite turn) × T (finite limit) × T (finite (neg limit))
unfolding of_bits neg
finite_pi = (tt, tt, tt, tt, tt)

-- PI - 2 PI is -PI, which is above -64, and 64 - 2 PI is below 64
ends : T (le (neg limit) (down pi)) × T (le (neg pi) (down pi)) × T (le (down limit) limit) × T (le (up (neg pi)) limit) × T (le (up (neg pi)) pi) × T (le (neg limit) (up (neg limit))) × T (le turn turn) × T (le pi limit) × T (le (neg limit) (neg pi))
unfolding of_bits neg sub add le
ends = (tt, tt, tt, tt, tt, tt, tt, tt, tt)

-- ---- one turn
pub inside_finite : (x : Float) → T (inside x) → T (finite x)
inside_finite x i = between_finite (neg limit) x limit finite_pi.4 finite_pi.3 (and_l (le (neg limit) x) (le x limit) i) (and_r (le (neg limit) x) (le x limit) i)

down_mono : (x y : Float) → T (finite x) → T (finite y) → T (le x y) → T (le (down x) (down y))
down_mono x y p q h = sub_mono binary32 x y turn turn p q finite_pi.2 finite_pi.2 h ends.6

up_mono : (x y : Float) → T (finite x) → T (finite y) → T (le x y) → T (le (up x) (up y))
up_mono x y p q h = add_mono binary32 x y turn turn p q finite_pi.2 finite_pi.2 h ends.6

pub down_inside : (x : Float) → T (inside x) → high x ≡ true → T (inside (down x))
down_inside x i t =
    let p = inside_finite x i in
    and_i (le (neg limit) (down x)) (le (down x) limit)
    (le_trans_float (neg limit) (down pi) (down x) ends.0 (down_mono pi x finite_pi.0 p (lt→le pi x (is_T (lt pi x) t))))
    (le_trans_float (down x) (down limit) limit (down_mono x limit p finite_pi.3 (and_r (le (neg limit) x) (le x limit) i)) ends.2)

pub up_inside : (x : Float) → T (inside x) → deep x ≡ true → T (inside (up x))
up_inside x i t =
    let p = inside_finite x i in
    and_i (le (neg limit) (up x)) (le (up x) limit)
    (le_trans_float (neg limit) (up (neg limit)) (up x) ends.5 (up_mono (neg limit) x finite_pi.4 p (and_l (le (neg limit) x) (le x limit) i)))
    (le_trans_float (up x) (up (neg pi)) limit (up_mono x (neg pi) p finite_pi.1 (lt→le x (neg pi) (is_T (lt x (neg pi)) t))) ends.3)

-- ---- the loops end
below_ends : (n : ℕ) (k x : Float) → T (reach_down n k) → T (inside x) → T (le x k) → Ends high down n x
below_ends zero k x r i h = ap high (run_stop high down 0 x e) ∙ e
  where
    e : high x ≡ false
    e = le→not_lt x pi (le_trans_float x k pi h (and_r (finite k) (le k pi) r))
below_ends (suc n) k x r i h = go (high x) refl (below_ends n (down k) (down x) (and_r (finite k) (reach_down n (down k)) r))
  where
    go : (b : Bool) → high x ≡ b → (T (inside (down x)) → T (le (down x) (down k)) → Ends high down n (down x)) → Ends high down (suc n) x
    go true e ih = ap high (run_again high down n x e) ∙ ih (down_inside x i e) (down_mono x k (inside_finite x i) (and_l (finite k) (reach_down n (down k)) r) h)
    go false e ih = ap high (run_stop high down (suc n) x e) ∙ e

above_ends : (n : ℕ) (k x : Float) → T (reach_up n k) → T (inside x) → T (le k x) → Ends deep up n x
above_ends zero k x r i h = ap deep (run_stop deep up 0 x e) ∙ e
  where
    e : deep x ≡ false
    e = le→not_lt (neg pi) x (le_trans_float (neg pi) k x (and_r (finite k) (le (neg pi) k) r) h)
above_ends (suc n) k x r i h = go (deep x) refl (above_ends n (up k) (up x) (and_r (finite k) (reach_up n (up k)) r))
  where
    go : (b : Bool) → deep x ≡ b → (T (inside (up x)) → T (le (up k) (up x)) → Ends deep up n (up x)) → Ends deep up (suc n) x
    go true e ih = ap deep (run_again deep up n x e) ∙ ih (up_inside x i e) (up_mono k x (and_l (finite k) (reach_up n (up k)) r) (inside_finite x i) h)
    go false e ih = ap deep (run_stop deep up (suc n) x e) ∙ e

pub lowered_ends : (x : Float) → T (inside x) → Ends high down 10 x
lowered_ends x i = below_ends 10 limit x ten_down i (and_r (le (neg limit) x) (le x limit) i)

pub lifted_ends : (x : Float) → T (inside x) → Ends deep up 10 x
lifted_ends x i = above_ends 10 (neg limit) x ten_up i (and_l (le (neg limit) x) (le x limit) i)

-- ---- what stays true in the loops
pub run_inside_down : (n : ℕ) (x : Float) → T (inside x) → T (inside (run high down n x))
unfolding run
run_inside_down zero x i = i
run_inside_down (suc n) x i = go (high x) refl (run_inside_down n (down x))
  where
    go : (b : Bool) → high x ≡ b → (T (inside (down x)) → T (inside (run high down n (down x)))) → T (inside (cond b (run high down n (down x)) x))
    go true e ih = ih (down_inside x i e)
    go false e ih = i

-- `lifted` keeps what is at most PI at most PI
pub run_under : (n : ℕ) (x : Float) → T (inside x) → T (le x pi) → T (inside (run deep up n x)) × T (le (run deep up n x) pi)
unfolding run
run_under zero x i h = (i, h)
run_under (suc n) x i h = go (deep x) refl (run_under n (up x))
  where
    go : (b : Bool) → deep x ≡ b → (T (inside (up x)) → T (le (up x) pi) → T (inside (run deep up n (up x))) × T (le (run deep up n (up x)) pi))
        → T (inside (cond b (run deep up n (up x)) x)) × T (le (cond b (run deep up n (up x)) x) pi)
    go true e ih = ih (up_inside x i e) (le_trans_float (up x) (up (neg pi)) pi (up_mono x (neg pi) (inside_finite x i) finite_pi.1 (lt→le x (neg pi) (is_T (deep x) e))) ends.4)
    go false e ih = (i, h)

-- ---- the angle
pub lowered_inside : (a : Float) → T (inside a) → T (inside (lowered a))
lowered_inside a i = run_inside_down 10 a i

lowered_under : (a : Float) → T (inside a) → T (le (lowered a) pi)
lowered_under a i = not_lt→le pi (lowered a) finite_pi.0 (inside_finite (lowered a) (lowered_inside a i)) (lowered_ends a i)

pub folded_between : (a : Float) → T (inside a) → T (le (neg pi) (lifted (lowered a))) × T (le (lifted (lowered a)) pi)
folded_between a i =
    let b = lowered a in
    let j = lowered_inside a i in
    let k = run_under 10 b j (lowered_under a i) in
    (not_lt→le (lifted b) (neg pi) (inside_finite (lifted b) k.0) finite_pi.1 (lifted_ends b j), k.1)

pub wrapped_inside : (a : Float) → T (inside a) → wrapped a ≡ lifted (lowered a)
unfolding wrapped
wrapped_inside a i = ap (λ (b : Bool). cond b (lifted (lowered a)) a) (is_true (inside a) i)

pub wrapped_outside : (a : Float) → inside a ≡ false → wrapped a ≡ a
unfolding wrapped
wrapped_outside a e = ap (λ (b : Bool). cond b (lifted (lowered a)) a) e

-- a wrapped angle lies within PI
pub wrapped_between : (a : Float) → T (inside a) → T (within (wrapped a) pi)
wrapped_between a i =
    let w = folded_between a i in
    subst (λ (x : Float). T (within x pi)) (sym (wrapped_inside a i)) (and_i (le (neg pi) (lifted (lowered a))) (le (lifted (lowered a)) pi) w.0 w.1)

-- an angle within PI is left as it is, a zero's sign too
pub wrapped_still : (a : Float) → T (within a pi) → wrapped a ≡ a
wrapped_still a w =
    wrapped_inside a (within_more a pi limit ends.7 w)
    ∙ ap lifted (run_stop high down 10 a (le→not_lt a pi (within_high a pi w)))
    ∙ run_stop deep up 10 a (le→not_lt (neg pi) a (within_low a pi w))
