-- Request C-19: fixes rejected in a row, over lists of calls; the run through the filter's other calls; and cases worked out on paper, with a car that leaves a tunnel 40 m off. Assumes nothing.
use Rattle.std.specs.Prelude.{ℕ, ◌+◌, ◌≤◌, ◌<◌, ◌≡◌, refl, List, [], ◌∷◌, Bool, true, false, ◌&&◌, cond, T, eqb, Float}
use Rattle.std.proofs.Common.{arith, ◌∙◌, subst, lt-ltb}
use Rattle.std.specs.Float.Ieee as Ieee
use Rattle.std.specs.Float.{nan}
use Rattle.std.specs.Float.Ieee.Fits.{and_l, and_r}
use Rattle.float.specs.Value.{f32}
use Rattle.call.specs.Said.{Kind, is_done, is_accepted, is_rejected, is_shown, is_nothing, Said, answer, refused, accepted, rejected, done, number}
use Rattle.call.specs.Port.{refusal_in, settled_by}
use Rattle.call.specs.PortLaws.{settles_by}
use Rattle.call.specs.Edition.{edition_of}
use Rattle.position.specs.Position.{PositionCall, update_position, lock_position, skip_prediction, reset_nis_stats, get_nis_position_avg, on_position, position_sound, with_run, rejected_once, reopened}
use Rattle.position.specs.RunLaws.{counted, run_counted, rejection, away_eighth, run_unsound, unsound_four}
use Rattle.position.specs.declared.Position.{Position}
use Rattle.velocity.specs.Velocity.{velocity_sound}
use Rattle.yaw.specs.Yaw.{yaw_sound}
use Rattle.bias.specs.Bias.{bias_sound}
use Rattle.ekf.specs.Machines.{run}
use Rattle.ekf.specs.Filter.{on_reset}
use Rattle.ekf.specs.Predict.{PredictCall, predict, on_predict, predict_port, predicted, filter_sound}
use Rattle.ekf.specs.declared.Ekf.{Ekf}
use Rattle.settled.specs.Cases.Expected.{whole}

-- ---- lists of position calls: fixes, refused ones too, and whatever is called between them
-- how many of the answers are rejections, and that no fix was accepted
abbrev rejected_kind : Kind → ℕ
rejected_kind is_rejected = 1
rejected_kind is_accepted = 0
rejected_kind is_done = 0
rejected_kind is_shown = 0
rejected_kind is_nothing = 0

abbrev rejected_in : Said → ℕ
rejected_in (answer r) = rejected_kind r.kind
rejected_in (refused n) = 0

abbrev pub rejections : List Said → ℕ
rejections [] = 0
rejections (a ∷ l) = rejected_in a + rejections l

abbrev unaccepted_kind : Kind → Bool
unaccepted_kind is_accepted = false
unaccepted_kind is_rejected = true
unaccepted_kind is_done = true
unaccepted_kind is_shown = true
unaccepted_kind is_nothing = true

abbrev unaccepted : Said → Bool
unaccepted (answer r) = unaccepted_kind r.kind
unaccepted (refused n) = true

abbrev pub none_accepted : List Said → Bool
none_accepted [] = true
none_accepted (a ∷ l) = unaccepted a && none_accepted l

-- one answer: up to 7 the run is raised by a rejection, and else kept
step : (k : ℕ) (a : Said) → T (unaccepted a) → k + rejected_in a ≤ 7 → counted k a ≡ k + rejected_in a
step k (refused n) u h = omega arith
step k (answer r) u h = go r.kind u h
  where
    go : (q : Kind) → T (unaccepted_kind q) → k + rejected_kind q ≤ 7 → counted k (answer (record { kind = q; values = []; counts = []; flags = [] })) ≡ k + rejected_kind q
    go is_accepted u h = absurd u
    go is_rejected u h = simp (lt-ltb k 7 (omega (arith, h)))
    go is_done u h = omega arith
    go is_shown u h = omega arith
    go is_nothing u h = omega arith

-- from run k, with no fix accepted: so long as there are at most 7, each rejection raises the run by one, and no other call moves it
pub in_a_row :
    (r : Float) (l : List PositionCall) (s : Position) → T (none_accepted (run (on_position r) l s).0) → s.run + rejections (run (on_position r) l s).0 ≤ 7
    → (run (on_position r) l s).1.run ≡ s.run + rejections (run (on_position r) l s).0
in_a_row r [] s u h = omega arith
in_a_row r (c ∷ l) s u h =
    let a = (on_position r c s).0 in
    let t = (on_position r c s).1 in
    let rest = (run (on_position r) l t).0 in
    let ua = and_l (unaccepted a) (none_accepted rest) u in
    let ur = and_r (unaccepted a) (none_accepted rest) u in
    let here : t.run ≡ s.run + rejected_in a = run_counted r c s ∙ step s.run a ua (omega (arith, h)) in
    let more = in_a_row r l t ur (omega (arith, h, here)) in
    omega (arith, more, here)

-- and the fix that makes eight: rejected, it leaves p[0] and p[1] as the larger of their value and 100, and the run 0
pub the_eighth :
    (r : Float) (l : List PositionCall) (z_x z_y : Float) (s : Position) (v : Float) → T (none_accepted (run (on_position r) l s).0) → s.run + rejections (run (on_position r) l s).0 ≡ 7
    → (let t = (run (on_position r) l s).1 in (on_position r (update_position z_x z_y) t).0 ≡ answer (rejected v) → (on_position r (update_position z_x z_y) t).1 ≡ with_run 0 (reopened (rejected_once t)))
the_eighth r l z_x z_y s v u e h =
    let t = (run (on_position r) l s).1 in
    rejection z_x z_y r t v h ∙ away_eighth t (in_a_row r l s u (omega (arith, e)) ∙ e)

-- ---- the filter's other calls keep it: those of the other channels do not see it (their types), and a prediction and `reset_gate_stats` put it back
pub predict_keeps : (n : ℕ) (ax_earth ay_earth wz dt : Float) (f : Ekf) → (on_predict n ax_earth ay_earth wz dt f).1.position.run ≡ f.position.run
predict_keeps n ax_earth ay_earth wz dt f = go (eqb (refusal_in predict_port (predict n ax_earth ay_earth wz dt) f) 0)
  where
    go : (b : Bool) → (cond b (predicted (edition_of n) ax_earth ay_earth wz dt f) f).position.run ≡ f.position.run
    go true = refl
    go false = refl

pub reset_keeps : (f : Ekf) → (on_reset f).1.position.run ≡ f.position.run
reset_keeps f = refl

-- a prediction that nothing before would refuse is refused with 4 where the run is above 7
pub predict_refused :
    (c : PredictCall) (f : Ekf) → (let a = predict_port.asks c f in T a.finite → T a.in_range → T a.config → 7 < f.position.run → number (settled_by predict_port c f).0 ≡ 4)
predict_refused c f i j g h =
    let a = predict_port.asks c f in
    (settles_by predict_port c f).exactly ∙ unsound_four a.finite a.in_range a.config (filter_sound f) a.room (filter_sound a.rust.1) i j g (unsound (position_sound f.position) (run_unsound f.position h))
  where
    unsound : (b : Bool) → b ≡ false → ((b && velocity_sound f.velocity) && (yaw_sound f.yaw && bias_sound f.bias)) ≡ false
    unsound false e = refl
    unsound true e = absurd (subst T e tt)

-- ---- on paper, with r_pos 20 and a car at (0, 0)
-- the default filter's channel with these variances, so many fixes rejected, and this run
abbrev stands : Float → Float → ℕ → ℕ → Position
stands v w rejections k =
    record {
      x = record { x = whole 0; p = v };
      y = record { x = whole 0; p = w };
      nis = record { sum = whole 0; count = 0 };
      last_fix = record { x = whole 0; y = whole 0; known = false };
      tallies = record { accepted = 0; rejected = rejections };
      run = k;
    }

-- once a fix is accepted: with these x, variances, NIS sum and last fix
abbrev takes : Float → Float → Float → Float → ℕ → Position
takes x v sum fix rejections =
    record {
      x = record { x = x; p = v };
      y = record { x = whole 0; p = v };
      nis = record { sum = sum; count = 1 };
      last_fix = record { x = fix; y = whole 0; known = true };
      tallies = record { accepted = 1; rejected = rejections };
      run = 0;
    }

abbrev on : PositionCall → Position → Said × Position
on c s = on_position (whole 20) c s

-- 40 m off with variances of 1: 1600/21
abbrev off : PositionCall
off = update_position (whole 40) (whole 0)

abbrev away : Said
away = answer (rejected (f32 0x4298_6186))

-- 100 m off: 10000/24 with a variance of 4, 10000/120 with 100
abbrev by4 : Said
by4 = answer (rejected (f32 0x43d0_5555))

abbrev by100 : Said
by100 = answer (rejected (f32 0x42a6_aaab))

-- the floats about 100
abbrev above : Float
above = f32 0x42c8_0001

abbrev below : Float
below = f32 0x42c7_ffff

pub settled_rejections :
    -- the first of a run, the seventh and the eighth
    (on off (stands (whole 1) (whole 1) 0 0) ∷ on off (stands (whole 1) (whole 1) 6 6) ∷ on off (stands (whole 1) (whole 1) 7 7)
    -- the eighth with one variance below 100 and the other above, with both 100, one float above it, and one below
    ∷ on (update_position (whole 100) (whole 0)) (stands (whole 4) (whole 400) 7 7) ∷ on (update_position (whole 0) (whole 100)) (stands (whole 400) (whole 4) 7 7)
    ∷ on (update_position (whole 100) (whole 0)) (stands (whole 100) (whole 100) 7 7)
    ∷ on (update_position (whole 100) (whole 0)) (stands above above 7 7) ∷ on (update_position (whole 100) (whole 0)) (stands below below 7 7)
    -- an accepted fix
    ∷ on (update_position (whole 0) (whole 0)) (stands (whole 100) (whole 100) 7 7)
    -- what is no fix, and what is refused
    ∷ on lock_position (stands (whole 4) (whole 4) 7 7) ∷ on skip_prediction (stands (whole 1) (whole 1) 7 7) ∷ on reset_nis_stats (stands (whole 1) (whole 1) 7 7)
    ∷ on (update_position nan (whole 0)) (stands (whole 1) (whole 1) 7 7) ∷ on (update_position (f32 0x4b18_9681) (whole 0)) (stands (whole 1) (whole 1) 7 7)
    -- a run of 8
    ∷ on off (stands (whole 1) (whole 1) 8 8) ∷ on lock_position (stands (whole 1) (whole 1) 8 8) ∷ on get_nis_position_avg (stands (whole 1) (whole 1) 8 8)
    ∷ [])
    ≡
    ((away, stands (whole 1) (whole 1) 1 1) ∷ (away, stands (whole 1) (whole 1) 7 7) ∷ (away, stands (whole 100) (whole 100) 8 0)
    ∷ (by4, stands (whole 100) (whole 400) 8 0) ∷ (by4, stands (whole 400) (whole 100) 8 0)
    ∷ (by100, stands (whole 100) (whole 100) 8 0)
    ∷ (answer (rejected (f32 0x42a6_aaaa)), stands above above 8 0) ∷ (by100, stands (whole 100) (whole 100) 8 0)
    ∷ (answer (accepted (whole 0)), takes (whole 0) (f32 0x4185_5556) (whole 0) (whole 0) 7)
    ∷ (answer done, stands (whole 1) (whole 1) 7 7) ∷ (answer done, stands (f32 0x3f80_0008) (f32 0x3f80_0008) 7 7) ∷ (answer done, stands (whole 1) (whole 1) 7 7)
    ∷ (refused 1, stands (whole 1) (whole 1) 7 7) ∷ (refused 2, stands (whole 1) (whole 1) 7 7)
    ∷ (refused 4, stands (whole 1) (whole 1) 8 8) ∷ (refused 4, stands (whole 1) (whole 1) 8 8) ∷ (refused 4, stands (whole 1) (whole 1) 8 8)
    ∷ [])
unfolding Ieee.add Ieee.sub Ieee.mul Ieee.div Ieee.neg Ieee.lt Ieee.le Ieee.eq Ieee.of_bits Ieee.of_int
settled_rejections = refl

-- ---- the car that leaves a tunnel 40 m off: eight fixes are rejected, and the ninth is taken, with a gate value of 1600/120
pub ninth_taken :
    run on (off ∷ off ∷ off ∷ off ∷ off ∷ off ∷ off ∷ off ∷ off ∷ []) (stands (whole 1) (whole 1) 0 0)
    ≡ (away ∷ away ∷ away ∷ away ∷ away ∷ away ∷ away ∷ away ∷ answer (accepted (f32 0x4155_5555)) ∷ [], takes (f32 0x4205_5555) (f32 0x4185_5556) (f32 0x4155_5555) (whole 40) 8)
unfolding Ieee.add Ieee.sub Ieee.mul Ieee.div Ieee.neg Ieee.lt Ieee.le Ieee.eq Ieee.of_bits Ieee.of_int
ninth_taken = refl

-- how far that reaches: with variances of 100, the last fix along x that is taken, some 61.97 m off, and the next float
pub reach :
    ((on (update_position (f32 0x4277_def5) (whole 0)) (stands (whole 100) (whole 100) 8 0)).0 ∷ (on (update_position (f32 0x4277_def6) (whole 0)) (stands (whole 100) (whole 100) 8 0)).0 ∷ [])
    ≡ (answer (accepted (f32 0x41ff_ffff)) ∷ answer (rejected (f32 0x4200_0001)) ∷ [])
unfolding Ieee.add Ieee.sub Ieee.mul Ieee.div Ieee.neg Ieee.lt Ieee.le Ieee.eq Ieee.of_bits Ieee.of_int
reach = refl
