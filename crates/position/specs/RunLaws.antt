-- Request C-19, the run of rejections: what each call makes of it by what it says, what a rejection leaves, the eighth too, and that this is sound. Assumes nothing.
use Rattle.std.specs.Prelude.{ℕ, ◌+◌, ◌≤◌, ◌<◌, ◌≡◌, refl, Bool, true, false, cond, T, eqb, ltb, Float}
use Rattle.std.proofs.Common.{arith, ap, ◌∙◌, subst, lt-ltb, ltb→lt, leb→le, le→leb}
use Rattle.std.specs.Float.Ieee.{of_bits, lt, le}
use Rattle.float.specs.Value.{f32}
use Rattle.call.specs.Said.{Kind, is_done, is_accepted, is_rejected, is_shown, is_nothing, Reply, Said, answer, refused, rejected, number, gauged, settled, answered}
use Rattle.call.specs.Refusal.{refusal_of}
use Rattle.call.specs.Port.{refusal_in}
use Rattle.call.specs.PortLaws.{settles_by}
use Rattle.channel.specs.Ranges.{is_variance}
use Rattle.channel.specs.Kalman.{at_least}
use Rattle.channel.specs.Gate.{gated}
use Rattle.position.specs.Position.{PositionCall, update_position, lock_position, skip_prediction, reset_nis_stats, position, position_gate_stats, get_nis_position_avg, get_gps_discrepancy, get_effective_pos_sigma, asks_position, on_position, position_port, position_sound, run_limit, with_run, rejected_once, reopened, position_away, position_taken, position_gate_value, chi2_gate_position}
use Rattle.position.specs.PositionLaws.{x_spread, y_spread, run_is_sound, variances_sound, counted_sound}
use Rattle.position.specs.declared.Position.{Position}

-- ---- the run after a call that says so: 0 after an accepted fix, after a rejected one 1 more, and 0 after the eighth; else as it was
abbrev pub counted_by : ℕ → Kind → ℕ
counted_by k is_accepted = 0
counted_by k is_rejected = cond (ltb k run_limit) (k + 1) 0
counted_by k is_done = k
counted_by k is_shown = k
counted_by k is_nothing = k

abbrev pub counted : ℕ → Said → ℕ
counted k (answer r) = counted_by k r.kind
counted k (refused n) = k

away_run : (s : Position) → (position_away s).run ≡ counted_by s.run is_rejected
away_run s = go (ltb s.run run_limit)
  where
    go : (b : Bool) → (cond b (with_run (s.run + 1) (rejected_once s)) (with_run 0 (reopened (rejected_once s)))).run ≡ cond b (s.run + 1) 0
    go true = refl
    go false = refl

-- what the call would leave, by what it would say
would : (r : Float) (c : PositionCall) (s : Position) → (asks_position r c s).rust.1.run ≡ counted_by s.run (asks_position r c s).rust.0.kind
would r (update_position z_x z_y) s = go (lt chi2_gate_position (position_gate_value s z_x z_y r))
  where
    m : Float
    m = position_gate_value s z_x z_y r

    go : (b : Bool) → (cond {A = Kind × Position} b (is_rejected, position_away s) (is_accepted, position_taken s z_x z_y r m)).1.run ≡ counted_by s.run (cond {A = Kind × Position} b (is_rejected, position_away s) (is_accepted, position_taken s z_x z_y r m)).0
    go true = away_run s
    go false = refl
would r lock_position s = refl
would r skip_prediction s = refl
would r reset_nis_stats s = refl
would r position s = refl
would r position_gate_stats s = refl
would r get_nis_position_avg s = refl
would r get_gps_discrepancy s = refl
would r get_effective_pos_sigma s = refl

-- every call, from any channel, sound or not: a refused one and one that is no fix keep the run
pub run_counted : (r : Float) (c : PositionCall) (s : Position) → (on_position r c s).1.run ≡ counted s.run (on_position r c s).0
run_counted r c s = go (eqb (refusal_in (position_port r) c s) 0)
  where
    rust : Reply × Position
    rust = (asks_position r c s).rust

    go : (b : Bool) → (cond b rust.1 s).run ≡ counted s.run (cond b (answer rust.0) (refused (refusal_in (position_port r) c s)))
    go true = would r c s
    go false = refl

-- ---- what a rejected fix leaves
-- where a gate's verdict is rejected, it leaves what it has for that
left_away : {S : Type 0} (n : ℕ) (old : S) (limit value v : Float) (away taken : S) → (let out = settled n old (answered (gated limit value away taken)) in out.0 ≡ answer (rejected v) → out.1 ≡ away)
left_away {S} n old limit value v away taken = go (eqb n 0) (lt limit value)
  where
    kind_in : Said → Kind
    kind_in (answer q) = q.kind
    kind_in (refused n) = is_nothing

    by : Bool → Kind × S
    by b = cond b (is_rejected, away) (is_accepted, taken)

    go : (a b : Bool) → cond a (answer (gauged (by b).0 value)) (refused n) ≡ answer (rejected v) → cond a (by b).1 old ≡ away
    go true true e = refl
    go true false e = let k : is_accepted ≡ is_rejected = ap kind_in e in cc
    go false b e = cc

pub rejection : (z_x z_y r : Float) (s : Position) (v : Float) → (on_position r (update_position z_x z_y) s).0 ≡ answer (rejected v) → (on_position r (update_position z_x z_y) s).1 ≡ position_away s
rejection z_x z_y r s v = let m = position_gate_value s z_x z_y r in left_away (refusal_in (position_port r) (update_position z_x z_y) s) s chi2_gate_position m v (position_away s) (position_taken s z_x z_y r m)

-- the first seven in a row: x, p, NIS and last fix as they were, one tally and the run raised
pub away_early : (s : Position) → s.run < 7 → position_away s ≡ with_run (s.run + 1) (rejected_once s)
away_early s h = simp (lt-ltb s.run 7 h)

-- the eighth: p[0] and p[1] are the larger of their value and 100, and the run is 0
pub away_eighth : (s : Position) → s.run ≡ 7 → position_away s ≡ with_run 0 (reopened (rejected_once s))
away_eighth s e = rw e refl

-- ---- sound
hundred_variance : T (is_variance (f32 0x42c8_0000))
unfolding of_bits le
hundred_variance = tt

raised_variance : (p : Float) → T (is_variance p) → T (is_variance (at_least (f32 0x42c8_0000) p))
raised_variance p v = go (lt (f32 0x42c8_0000) p)
  where
    go : (b : Bool) → T (is_variance (cond b p (f32 0x42c8_0000)))
    go true = v
    go false = hundred_variance

pub away_sound : (s : Position) → T (position_sound s) → T (position_sound (position_away s))
away_sound s h = go (ltb s.run run_limit) (λ t. ltb→lt s.run run_limit t)
  where
    go : (b : Bool) → (T b → s.run < 7) → T (position_sound (cond b (with_run (s.run + 1) (rejected_once s)) (with_run 0 (reopened (rejected_once s)))))
    go true f = let l = f tt in counted_sound s h (s.run + 1) (le→leb (s.run + 1) 7 (omega arith))
    go false f =
        let t = with_run 0 (rejected_once s) in
        variances_sound t (counted_sound s h 0 tt) (at_least (f32 0x42c8_0000) s.x.p) (at_least (f32 0x42c8_0000) s.y.p) (raised_variance s.x.p (x_spread s h)) (raised_variance s.y.p (y_spread s h))

-- ---- above 7: a call that nothing before would refuse is refused with 4
pub run_unsound : (s : Position) → 7 < s.run → position_sound s ≡ false
run_unsound s h = go (position_sound s) (λ t. leb→le s.run 7 (run_is_sound s t))
  where
    go : (b : Bool) → (T b → s.run ≤ 7) → b ≡ false
    go true f = let l = f tt in absurd (omega (arith, h))
    go false f = refl

pub unsound_four : (finite in_range config state room next : Bool) → T finite → T in_range → T config → state ≡ false → refusal_of finite in_range config state room next ≡ 4
unsound_four true true true false room next f i c e = refl
unsound_four true true true true room next f i c e = absurd (subst T e tt)
unsound_four true true false state room next f i c e = absurd c
unsound_four true false config state room next f i c e = absurd i
unsound_four false in_range config state room next f i c e = absurd f

pub run_refused : (r : Float) (c : PositionCall) (s : Position) → (let a = asks_position r c s in T a.finite → T a.in_range → T a.config → 7 < s.run → number (on_position r c s).0 ≡ 4)
run_refused r c s f i g h =
    let a = asks_position r c s in
    (settles_by (position_port r) c s).exactly ∙ unsound_four a.finite a.in_range a.config (position_sound s) a.room (position_sound a.rust.1) f i g (run_unsound s h)
