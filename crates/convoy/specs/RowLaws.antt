-- What holds of a row, whatever its records are and whatever a call does to one of them: the refusals by cases, that a call is its car's own and changes no other, that calls for two cars may change places, and that in a list of calls each car fares as if its own list had run alone. Assumes nothing.
use Prim.Native.Nat.{ℕ, zero, suc, ◌≤◌, ◌<◌}
use Rattle.std.specs.Prelude.{◌≡◌, refl, Bool, true, false, cond, List, [], ◌∷◌, map, eqb, ltb, leb, length, set, get_or}
use Rattle.std.proofs.Common.{sym, ap, ◌∙◌, arith, le-ltb, lt-ltb, le-leb, ltb-false, leb-true, leb-false, eqb-true, ne_eqb, length-set, get_or-set_same, get_or-set_other}
use Rattle.std.proofs.lemmas.Bool.{lt-leb, eqb-false}
use Rattle.std.proofs.lemmas.List.{set-get_or, set_comm}
use Rattle.std.proofs.Math.Seq.{set_out}
use Rattle.call.specs.Said.{Said, refused, number}
use Rattle.call.specs.Port.{inside}
use Rattle.ekf.specs.Machines.{run}
use Rattle.convoy.specs.Row.{row_refusal, on_row, on_car, on_call, of_car}

-- ---- the row's refusals
pub row_too_long : (cars car : ℕ) → 16 < cars → row_refusal cars car ≡ 12
unfolding row_refusal
row_too_long cars car h = rw (lt-ltb 16 cars h)

pub no_such_car : (cars car : ℕ) → cars ≤ 16 → cars ≤ car → row_refusal cars car ≡ 13
unfolding row_refusal
no_such_car cars car h k = rw (le-ltb 16 cars h, le-leb cars car k)

pub in_the_row : (cars car : ℕ) → cars ≤ 16 → car < cars → row_refusal cars car ≡ 0
unfolding row_refusal
in_the_row cars car h k = rw (le-ltb 16 cars h, lt-leb cars car k)

-- a row that is open to a car has it
pub row_open : (cars car : ℕ) → row_refusal cars car ≡ 0 → (cars ≤ 16) × (car < cars)
unfolding row_refusal
row_open cars car = go (ltb 16 cars) refl (leb cars car) refl
  where
    go : (a : Bool) → ltb 16 cars ≡ a → (b : Bool) → leb cars car ≡ b → ◌≡◌ {A = ℕ} (cond a 12 (cond b 13 0)) 0 → (cars ≤ 16) × (car < cars)
    go true e b f z = absurd (omega (arith, z))
    go false e true f z = absurd (omega (arith, z))
    go false e false f z = (ltb-false 16 cars e, leb-false cars car f)

-- two rows with the same filters are one
same_row : {S : Type 0} (none : S) (a b : List S) → length a ≡ length b → ((car : ℕ) → get_or a car none ≡ get_or b car none) → a ≡ b
same_row none [] [] e h = refl
same_row none [] (y ∷ b) e h = absurd (omega (arith, e))
same_row none (x ∷ a) [] e h = absurd (omega (arith, e))
same_row {S} none (x ∷ a) (y ∷ b) e h =
    ap (λ (s : S). s ∷ a) (h 0) ∙ ap (λ (l : List S). y ∷ l) (same_row none a b (omega (arith, e)) (λ car. h (suc car)))

no_record : {S : Type 0} (none : S) (l : List S) (car : ℕ) → length l ≤ car → get_or l car none ≡ none
no_record none [] car h = refl
no_record none (x ∷ l) zero h = absurd (omega (arith, h))
no_record none (x ∷ l) (suc car) h = no_record none l car (omega (arith, h))

module _ {M S : Type 0} (on : M → S → Said × S) (none : S) where
  -- ---- one call
  -- a call is its car's own, put back into the row
  pub by_car : (car : ℕ) (m : M) (row : List S) → on_row on none car m row ≡ inside (set row car) (on_car on (length row) car m (get_or row car none))
  unfolding on_row on_car
  by_car car m row = go (eqb n 0)
    where
      n : ℕ
      n = row_refusal (length row) car

      s : S
      s = get_or row car none

      go : (b : Bool) → ◌≡◌ {A = Said × List S} (cond b (on m s).0 (refused n), cond b (set row car (on m s).1) row) (cond b (on m s).0 (refused n), set row car (cond b (on m s).1 s))
      go true = refl
      go false = ap (λ (l : List S). (refused n, l)) (sym (set-get_or row car none))

  -- "12, before all others, for a row longer than 16"
  pub refused_too_long : (car : ℕ) (m : M) (row : List S) → 16 < length row → on_row on none car m row ≡ (refused 12, row)
  unfolding on_row
  refused_too_long car m row h = rw (row_too_long (length row) car h)

  -- "then 13 for a car number not below the row's length, an empty row included"
  pub refused_no_car : (car : ℕ) (m : M) (row : List S) → length row ≤ 16 → length row ≤ car → on_row on none car m row ≡ (refused 13, row)
  unfolding on_row
  refused_no_car car m row h k = rw (no_such_car (length row) car h k)

  -- "the car answers as if it were alone", and its record is replaced by what it alone is left with
  pub as_if_alone : (car : ℕ) (m : M) (row : List S) → length row ≤ 16 → car < length row → on_row on none car m row ≡ inside (set row car) (on m (get_or row car none))
  unfolding on_row
  as_if_alone car m row h k = rw (in_the_row (length row) car h k)

  pub same_length : (car : ℕ) (m : M) (row : List S) → length (on_row on none car m row).1 ≡ length row
  same_length car m row = rw (by_car car m row) (length-set row car (on_car on (length row) car m (get_or row car none)).1)

  -- "every other filter in the row stays as it was"
  pub others_stay : (car other : ℕ) (m : M) (row : List S) (d : S) → (other ≡ car → ⊥) → get_or (on_row on none car m row).1 other d ≡ get_or row other d
  others_stay car other m row d h = rw (by_car car m row) (get_or-set_other row car other (on_car on (length row) car m (get_or row car none)).1 d h)

  -- the car's own, in the row or not
  own_after : (car : ℕ) (m : M) (row : List S) → get_or (on_row on none car m row).1 car none ≡ (on_car on (length row) car m (get_or row car none)).1
  unfolding on_car
  own_after car m row = rw (by_car car m row) (go (leb (length row) car) refl)
    where
      n : ℕ
      n = row_refusal (length row) car

      s : S
      s = get_or row car none

      own : S
      own = (on_car on (length row) car m s).1

      -- who is not in the row is refused
      away : (b : Bool) → eqb n 0 ≡ b → length row ≤ car → none ≡ cond b (on m s).1 s
      away true e h = absurd (omega (arith, (row_open (length row) car (eqb-true n 0 e)).1, h))
      away false e h = sym (no_record none row car h)

      go : (b : Bool) → leb (length row) car ≡ b → get_or (set row car own) car none ≡ own
      go true e =
          let h = leb-true (length row) car e in
          ap (λ (l : List S). get_or l car none) (set_out row car own h) ∙ no_record none row car h ∙ away (eqb n 0) refl h
      go false e = get_or-set_same row car own none (leb-false (length row) car e)

  -- where a refused call of a car alone hands its record back, a refused call leaves the row
  pub refused_keeps : ((m : M) (s : S) → (number (on m s).0 ≡ 0 → ⊥) → (on m s).1 ≡ s) → (car : ℕ) (m : M) (row : List S) → (number (on_row on none car m row).0 ≡ 0 → ⊥) → (on_row on none car m row).1 ≡ row
  unfolding on_row
  refused_keeps keeps car m row = go (eqb n 0)
    where
      n : ℕ
      n = row_refusal (length row) car

      s : S
      s = get_or row car none

      go : (b : Bool) → (number (cond b (on m s).0 (refused n)) ≡ 0 → ⊥) → cond b (set row car (on m s).1) row ≡ row
      go true h = ap (set row car) (keeps m s h) ∙ set-get_or row car none
      go false h = refl

  -- ---- two calls for two cars
  pub answer_stays : (i j : ℕ) (m l : M) (row : List S) → (j ≡ i → ⊥) → (on_row on none j l (on_row on none i m row).1).0 ≡ (on_row on none j l row).0
  answer_stays i j m l row h =
      let r = (on_row on none i m row).1 in
      rw (by_car j l r, by_car j l row, same_length i m row, others_stay i j m row none h)

  -- "For two different cars the two orders of two calls end in the same row"
  pub commutes : (i j : ℕ) (m l : M) (row : List S) → (i ≡ j → ⊥) → (on_row on none j l (on_row on none i m row).1).1 ≡ (on_row on none i m (on_row on none j l row).1).1
  commutes i j m l row h =
      let a = (on_row on none i m row).1 in
      let b = (on_row on none j l row).1 in
      rw (by_car j l a, same_length i m row, others_stay i j m row none (λ e. h (sym e)), by_car i m b, same_length j l row, others_stay j i l row none h, by_car i m row, by_car j l row)
      (set_comm row i j (on_car on (length row) i m (get_or row i none)).1 (on_car on (length row) j l (get_or row j none)).1 h)

  -- ---- lists of calls
  -- the answers and the row that calls for any cars end in, and of them what is one car's
  abbrev pub ran : List (ℕ × M) → List S → List (ℕ × Said) × List S
  ran = run (on_call on none)

  abbrev pub fares : ℕ → List (ℕ × M) → List S → List Said × S
  fares car l row = (of_car car (ran l row).0, get_or (ran l row).1 car none)

  -- each car answers and ends as if its own list had run alone, in the row or not, and the row stays as long as it is
  pub record Apart (l : List (ℕ × M)) (row : List S) : Type 0 where
    pub each : (car : ℕ) → fares car l row ≡ run (on_car on (length row) car) (of_car car l) (get_or row car none)
    pub as_long : length (ran l row).1 ≡ length row

  -- one more call in front
  in_front : (c : ℕ × M) (l : List (ℕ × M)) (row : List S) → Apart l (on_row on none c.0 c.1 row).1 → Apart (c ∷ l) row
  in_front c l row behind = record { each = λ car. go car (eqb c.0 car) refl; as_long = behind.as_long ∙ same_length c.0 c.1 row }
    where
      out : Said × List S
      out = on_row on none c.0 c.1 row

      rest : List (ℕ × Said) × List S
      rest = ran l out.1

      alone : ℕ → M → S → Said × S
      alone = on_car on (length row)

      on_from : (car : ℕ) (s : S) → get_or out.1 car none ≡ s → fares car l out.1 ≡ run (alone car) (of_car car l) s
      on_from car s e = rw (same_length c.0 c.1 row, e) at (behind.each car)

      own : (car : ℕ) → c.0 ≡ car → (out.0 ≡ (alone car c.1 (get_or row car none)).0) × (get_or out.1 car none ≡ (alone car c.1 (get_or row car none)).1)
      own car e = rw (← e) (ap (λ (t : Said × List S). t.0) (by_car c.0 c.1 row), own_after c.0 c.1 row)

      go :
          (car : ℕ) (b : Bool) → eqb c.0 car ≡ b
          → (cond b (out.0 ∷ of_car car rest.0) (of_car car rest.0), get_or rest.1 car none) ≡ run (alone car) (cond b (c.1 ∷ of_car car l) (of_car car l)) (get_or row car none)
      go car true e =
          let h = own car (eqb-true c.0 car e) in
          rw h.0 (ap (λ (t : List Said × S). ((alone car c.1 (get_or row car none)).0 ∷ t.0, t.1)) (on_from car _ h.1))
      go car false e = on_from car (get_or row car none) (others_stay c.0 car c.1 row none (λ f. eqb-false c.0 car e (sym f)))

  pub apart : (l : List (ℕ × M)) (row : List S) → Apart l row
  apart [] row = record { each = λ car. refl; as_long = refl }
  apart (c ∷ l) row = in_front c l row (apart l (on_row on none c.0 c.1 row).1)

  -- a car that is in the row runs alone; for any other each call is refused
  one_call : (cars car : ℕ) (m : M) (s : S) → row_refusal cars car ≡ 0 → on_car on cars car m s ≡ on m s
  unfolding on_car
  one_call cars car m s h = rw h

  runs_open : (cars car : ℕ) → row_refusal cars car ≡ 0 → (l : List M) (s : S) → run (on_car on cars car) l s ≡ run on l s
  runs_open cars car h [] s = refl
  runs_open cars car h (m ∷ l) s = rw (one_call cars car m s h, runs_open cars car h l (on m s).1)

  pub in_row_alone : (l : List (ℕ × M)) (row : List S) (car : ℕ) → length row ≤ 16 → car < length row → fares car l row ≡ run on (of_car car l) (get_or row car none)
  in_row_alone l row car h k = (apart l row).each car ∙ runs_open (length row) car (in_the_row (length row) car h k) (of_car car l) (get_or row car none)

  shut_call : (cars car : ℕ) (m : M) (s : S) → (row_refusal cars car ≡ 0 → ⊥) → on_car on cars car m s ≡ (refused (row_refusal cars car), s)
  unfolding on_car
  shut_call cars car m s h = rw (ne_eqb (row_refusal cars car) 0 h)

  runs_shut : (cars car : ℕ) → (row_refusal cars car ≡ 0 → ⊥) → (l : List M) (s : S) → run (on_car on cars car) l s ≡ (map (λ (m : M). refused (row_refusal cars car)) l, s)
  runs_shut cars car h [] s = refl
  runs_shut cars car h (m ∷ l) s = rw (shut_call cars car m s h, runs_shut cars car h l s)

  pub out_of_row : (l : List (ℕ × M)) (row : List S) (car : ℕ) → (row_refusal (length row) car ≡ 0 → ⊥) → fares car l row ≡ (map (λ (m : M). refused (row_refusal (length row) car)) (of_car car l), get_or row car none)
  out_of_row l row car h = (apart l row).each car ∙ runs_shut (length row) car h (of_car car l) (get_or row car none)

  -- two lists that have the same calls of each car, each car's in their order, end in the same row, and each car answers the same
  pub record Same (l m : List (ℕ × M)) (row : List S) : Type 0 where
    pub answers : (car : ℕ) → of_car car (ran l row).0 ≡ of_car car (ran m row).0
    pub ends : (ran l row).1 ≡ (ran m row).1

  pub merges_agree : (l m : List (ℕ × M)) → ((car : ℕ) → of_car car l ≡ of_car car m) → (row : List S) → Same l m row
  merges_agree l m h row =
      record {
        answers = λ car. ap (λ (t : List Said × S). t.0) (both car);
        ends = same_row none (ran l row).1 (ran m row).1 ((apart l row).as_long ∙ sym (apart m row).as_long) (λ car. ap (λ (t : List Said × S). t.1) (both car));
      }
    where
      both : (car : ℕ) → fares car l row ≡ fares car m row
      both car = (apart l row).each car ∙ ap (λ (k : List M). run (on_car on (length row) car) k (get_or row car none)) (h car) ∙ sym ((apart m row).each car)
