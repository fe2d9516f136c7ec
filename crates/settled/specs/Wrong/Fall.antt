-- What each of the wrong filters meets, and the statement that it falls to. Assumes nothing.
use Rattle.std.specs.Prelude.{ℕ, ◌≡◌, refl, List, [], ◌∷◌, length}
use Rattle.std.proofs.Common.{arith, sym, ap, ◌∙◌, ne_eqb}
use Rattle.std.specs.Float.Ieee as Ieee
use Rattle.std.specs.Float.{binary32}
use Rattle.std.specs.Float.Ieee.{to_bits}
use Rattle.call.specs.Said.{Said, answer, refused, nothing, value, value_in, number}
use Rattle.ekf.specs.Machines.{one, two, three, four, split, run}
use Rattle.ekf.specs.Calls.{Call, on_channel}
use Rattle.ekf.specs.declared.Ekf.{Ekf}
use Rattle.yaw.specs.Yaw.{store_moving_yaw}
use Rattle.gps.specs.Gps.{on_gps}
use Rattle.settled.specs.Cases.Expected.{whole}
use Rattle.settled.specs.Cases.Table.{hundred}
use Rattle.settled.specs.Demands.Stated.{marked, alone, Separates}
use Rattle.settled.specs.Demands.Met.{demand_1, separates}
use Rattle.settled.specs.Wrong.Made.{MeetsOne, MeetsTwo, MeetsK2, MeetsK11, first, second, refuses_all, never_moves, first_only, first_fix_only, always_accepts, invents_tallies, looks_aside}

-- ---- ours meet K2 and K11
pub ours_meets_K2 : MeetsK2 on_channel
unfolding Ieee.add Ieee.sub Ieee.mul Ieee.div Ieee.neg Ieee.lt Ieee.le Ieee.eq Ieee.of_bits Ieee.of_int
ours_meets_K2 = record { k2 = refl }

pub ours_meets_K11 : MeetsK11 on_gps
unfolding Ieee.add Ieee.sub Ieee.mul Ieee.div Ieee.neg Ieee.lt Ieee.le Ieee.eq Ieee.of_bits Ieee.of_int
ours_meets_K11 = record { k11 = refl }

-- ---- one that refuses all falls to demand 1's "exactly", and where its number is 0 to "either answers or gives the refusal number"
pub refuses_all_falls : (n : Call → Ekf → ℕ) → MeetsOne (refuses_all n) → ⊥
unfolding Ieee.add Ieee.sub Ieee.mul Ieee.div Ieee.neg Ieee.lt Ieee.le Ieee.eq Ieee.of_bits Ieee.of_int
refuses_all_falls n h =
    let e : n (one first) hundred ≡ 0 = h.position.exactly first hundred in
    h.position.either first hundred (ap refused e)

-- ---- one that never moves its state meets demands 1 and 3, and falls to demand 2 by K1
pub never_moves_refuses : MeetsOne never_moves
never_moves_refuses =
    let h = demand_1.everywhere.filter in
    record {
      position = record { exactly = h.position.exactly; either = h.position.either; returns = λ c f r. refl };
      velocity = record { exactly = h.velocity.exactly; either = h.velocity.either; returns = λ c f r. refl };
      yaw = record { exactly = h.yaw.exactly; either = h.yaw.either; returns = λ c f r. refl };
      bias = record { exactly = h.bias.exactly; either = h.bias.either; returns = λ c f r. refl };
    }

stands_still : (m : List Call) (f : Ekf) → (run never_moves m f).1 ≡ f
stands_still [] f = refl
stands_still (c ∷ m) f = stands_still m f

pub never_moves_separates : Separates never_moves
never_moves_separates = record { ends = λ m m' e f. stands_still m f ∙ sym (stands_still m' f); answers = answers }
  where
    answers :
        (m : List Call) (f : Ekf) →
        split (run (marked never_moves) m f).0
        ≡ (alone never_moves one (split m).0 f, alone never_moves two (split m).1 f, alone never_moves three (split m).2 f, alone never_moves four (split m).3 f)
    answers [] f = refl
    answers (one c ∷ m) f = simp (answers m f)
    answers (two c ∷ m) f = simp (answers m f)
    answers (three c ∷ m) f = simp (answers m f)
    answers (four c ∷ m) f = simp (answers m f)

-- "x[0] 40"
pub never_moves_falls : MeetsTwo never_moves → ⊥
unfolding Ieee.add Ieee.sub Ieee.mul Ieee.div Ieee.neg Ieee.lt Ieee.le Ieee.eq Ieee.of_bits Ieee.of_int to_bits
never_moves_falls h =
    let e : ◌≡◌ {A = ℕ} 0 0x4220_0000 = ap (λ (out : Said × Ekf). to_bits binary32 out.1.position.x.x) (h.position.equals first hundred refl) in
    omega arith

-- ---- one that works on the first call only falls to demand 2 by a second fix, and as a learner to K11
-- one fix has been accepted, and a second would be
pub first_only_falls : MeetsTwo first_only → ⊥
unfolding Ieee.add Ieee.sub Ieee.mul Ieee.div Ieee.neg Ieee.lt Ieee.le Ieee.eq Ieee.of_bits Ieee.of_int
first_only_falls h =
    let e : ◌≡◌ {A = ℕ} 1 2 = ap (λ (out : Said × Ekf). out.1.position.tallies.accepted) (h.position.equals first (on_channel (one first) hundred).1 refl) in
    omega arith

-- how many values are shown
abbrev values_in : Said → ℕ
values_in (answer r) = length r.values
values_in (refused n) = 0

pub first_fix_only_falls : MeetsK11 first_fix_only → ⊥
unfolding Ieee.add Ieee.sub Ieee.mul Ieee.div Ieee.neg Ieee.lt Ieee.le Ieee.eq Ieee.of_bits Ieee.of_int
first_fix_only_falls h =
    let e : answer nothing ≡ answer (value (whole 4)) = ap (λ (q : Said × Said). q.1) h.k11 in
    let z : ◌≡◌ {A = ℕ} 0 1 = ap values_in e in
    omega arith

-- ---- one that always accepts falls to K2, and so to demand 2
-- the accepted tally
abbrev accepted_in : Said × Ekf → ℕ
accepted_in out = out.1.position.tallies.accepted

pub always_accepts_falls : MeetsK2 always_accepts → ⊥
unfolding Ieee.add Ieee.sub Ieee.mul Ieee.div Ieee.neg Ieee.lt Ieee.le Ieee.eq Ieee.of_bits Ieee.of_int
always_accepts_falls h = let e : ◌≡◌ {A = ℕ} 1 0 = ap accepted_in h.k2 in omega arith

pub always_accepts_differs : MeetsTwo always_accepts → ⊥
unfolding Ieee.add Ieee.sub Ieee.mul Ieee.div Ieee.neg Ieee.lt Ieee.le Ieee.eq Ieee.of_bits Ieee.of_int
always_accepts_differs h = let e : ◌≡◌ {A = ℕ} 1 0 = ap accepted_in (h.position.equals second hundred refl) in omega arith

-- ---- one with invented tallies meets demand 1, and falls to demand 2, since the definitions fix the tallies after each call
pub invents_tallies_refuses : MeetsOne invents_tallies
invents_tallies_refuses =
    let h = demand_1.everywhere.filter in
    record {
      position =
          record {
            exactly = h.position.exactly;
            either = h.position.either;
            returns = λ c f r. rw (ne_eqb (number (on_channel (one c) f).0) 0 r) (h.position.returns c f r);
          };
      velocity = h.velocity;
      yaw = h.yaw;
      bias = h.bias;
    }

pub invents_tallies_falls : MeetsTwo invents_tallies → ⊥
unfolding Ieee.add Ieee.sub Ieee.mul Ieee.div Ieee.neg Ieee.lt Ieee.le Ieee.eq Ieee.of_bits Ieee.of_int
invents_tallies_falls h = let e : ◌≡◌ {A = ℕ} 7 1 = ap accepted_in (h.position.equals first hundred refl) in omega arith

-- ---- one whose gate value looks at another channel ends where ours does, in every order, and falls to demand 3 by the value in its answer
ends_as_ours : (m : List Call) (f : Ekf) → (run looks_aside m f).1 ≡ (run on_channel m f).1
ends_as_ours [] f = refl
ends_as_ours (one c ∷ m) f = ends_as_ours m (on_channel (one c) f).1
ends_as_ours (two c ∷ m) f = ends_as_ours m (on_channel (two c) f).1
ends_as_ours (three c ∷ m) f = ends_as_ours m (on_channel (three c) f).1
ends_as_ours (four c ∷ m) f = ends_as_ours m (on_channel (four c) f).1

pub looks_aside_ends : (m m' : List Call) → split m ≡ split m' → (f : Ekf) → (run looks_aside m f).1 ≡ (run looks_aside m' f).1
looks_aside_ends m m' e f = ends_as_ours m f ∙ separates.ends m m' e f ∙ sym (ends_as_ours m' f)

-- the bits of the value in the first answer of a list
abbrev value_bits : List Said → ℕ
value_bits [] = 0
value_bits (answer r ∷ l) = to_bits binary32 (value_in r)
value_bits (refused n ∷ l) = 0

-- K1 behind a stored moving yaw of 1: 33, and 32 if the fix runs alone
pub looks_aside_falls : Separates looks_aside → ⊥
unfolding Ieee.add Ieee.sub Ieee.mul Ieee.div Ieee.neg Ieee.lt Ieee.le Ieee.eq Ieee.of_bits Ieee.of_int to_bits
looks_aside_falls h =
    let e : ◌≡◌ {A = ℕ} 0x4204_0000 0x4200_0000 = ap (λ (q : List Said × List Said × List Said × List Said). value_bits q.0) (h.answers (three (store_moving_yaw (whole 1)) ∷ one first ∷ []) hundred) in
    omega arith
