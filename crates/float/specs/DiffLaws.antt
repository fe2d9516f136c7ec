-- The difference of two angles within PI, folded once, is within PI. Assumes nothing.
use Rattle.std.specs.Prelude.{◌≡◌, refl, Bool, true, false, cond, T, Float}
use Rattle.std.proofs.Common.{sym, subst}
use Rattle.std.specs.Float.{binary32}
use Rattle.std.specs.Float.Ieee.{of_bits, add, sub, neg, le, lt}
use Rattle.std.specs.Float.Ieee.Scale.{finite}
use Rattle.float.specs.Value.{◌⊕◌, ◌⊖◌, within, pi}
use Rattle.float.specs.Order.{lt→le, not_lt→le, le_trans_float, add_mono, sub_mono}
use Rattle.float.specs.Size.{within_low, within_high, within_of, within_finite, within_more, within_sub}
use Rattle.float.specs.Wrap.{turn, angle_diff}

-- ---- facts that antt computes
finites : T (finite pi) × T (finite (neg pi)) × T (finite turn) × T (finite (neg turn))
unfolding of_bits neg
finites = (tt, tt, tt, tt)

-- PI + PI is a turn, PI less a turn is -PI
turns : T (le (pi ⊕ pi) turn) × T (le (neg pi) (pi ⊖ turn)) × T (le (turn ⊖ turn) pi) × T (le (neg pi) (neg turn ⊕ turn)) × T (le (neg pi ⊕ turn) pi) × T (le turn turn)
unfolding of_bits neg add sub le
turns = (tt, tt, tt, tt, tt, tt)

-- ---- the difference
pub diff_within : (a b : Float) → T (within a pi) → T (within b pi) → T (within (angle_diff a b) pi)
diff_within a b p q = go (lt pi d) refl
  where
    d : Float
    d = a ⊖ b

    wide : T (within d turn)
    wide = within_more d (pi ⊕ pi) turn turns.0 (within_sub binary32 a b pi pi finites.0 finites.0 p q)

    fd : T (finite d)
    fd = within_finite d turn finites.2 wide

    is_T : (c : Bool) → c ≡ true → T c
    is_T c e = subst T (sym e) tt

    go : (c : Bool) → lt pi d ≡ c → T (within (cond c (d ⊖ turn) (cond (lt d (neg pi)) (d ⊕ turn) d)) pi)
    go true e =
        within_of (d ⊖ turn) pi
        (le_trans_float (neg pi) (pi ⊖ turn) (d ⊖ turn) turns.1 (sub_mono binary32 pi d turn turn finites.0 fd finites.2 finites.2 (lt→le pi d (is_T (lt pi d) e)) turns.5))
        (le_trans_float (d ⊖ turn) (turn ⊖ turn) pi (sub_mono binary32 d turn turn turn fd finites.2 finites.2 finites.2 (within_high d turn wide) turns.5) turns.2)
    go false e = low (lt d (neg pi)) refl
      where
        low : (c : Bool) → lt d (neg pi) ≡ c → T (within (cond c (d ⊕ turn) d) pi)
        low true g =
            within_of (d ⊕ turn) pi
            (le_trans_float (neg pi) (neg turn ⊕ turn) (d ⊕ turn) turns.3 (add_mono binary32 (neg turn) d turn turn finites.3 fd finites.2 finites.2 (within_low d turn wide) turns.5))
            (le_trans_float (d ⊕ turn) (neg pi ⊕ turn) pi (add_mono binary32 d (neg pi) turn turn fd finites.1 finites.2 finites.2 (lt→le d (neg pi) (is_T (lt d (neg pi)) g)) turns.5) turns.4)
        low false g = within_of d pi (not_lt→le d (neg pi) fd finites.1 g) (not_lt→le pi d finites.0 fd e)
