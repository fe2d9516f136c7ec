-- What a call leaves in the words of a row, of what the parts of its code ensure; that two outcomes which meet the promise are equal, and that a refused call writes nothing. Assumes nothing.
use Rattle.std.specs.Prelude.{ℕ, ◌≡◌, refl, List, [], get_or, set, Float, Option, Some, None}
use Rattle.std.proofs.Math.Path.{sym, ap}
use borrow.Author.Tests.{ne_eqb}
use Rattle.std.proofs.lemmas.List.{set-get_or}
use Rattle.call.specs.Said.{Said}
use Rattle.ekf.specs.declared.Ekf.{Ekf}
use Rattle.convoy.specs.Row.{row_refusal}
use Rattle.convoy.specs.Convoy.{taken}
use Rattle.convoy.specs.declared.Measurement.{Measurement}
use Rattle.words.specs.Words.{changing, Lent}
use Rattle.words.specs.Left.{leaves_as, reads_as, shows_refusal}
use Rattle.words.specs.Filter.{numbers_of, counts_of}
use Rattle.boundary_convoy.specs.Row.{turn_of, car_in, turn_in, LentRow}

-- ---- a car alone
module _ {numbers : List Float} {counts : List ℕ} {values : List Float} {shown : List ℕ} where
  pub asks_measured :
      {asked : Option Measurement} {m : Measurement} {f g : Ekf} {t : Said × Ekf} {r : ℕ} {numbers' : List Float} {counts' : List ℕ} {values' : List Float} {shown' : List ℕ}
      → asked ≡ Some m → f ≡ g → t ≡ taken m f → Lent (changing t) numbers_of counts_of numbers counts values shown r numbers' counts' values' shown'
      → Lent (turn_of asked g) numbers_of counts_of numbers counts values shown r numbers' counts' values' shown'
  asks_measured {m} e k h l = rw (e, ← k) (leaves_as h l)

  pub asks_unknown : {asked : Option Measurement} (f : Ekf) → asked ≡ None → Lent (turn_of asked f) numbers_of counts_of numbers counts values shown 2 numbers counts values shown
  asks_unknown f e = rw e (reads_as refl (shows_refusal refl))

-- ---- in a row
module _ (cars : ℕ) {car : ℕ} {numbers : List (List Float)} {counts : List (List ℕ)} {values : List Float} {shown : List ℕ} where
  -- the row's refusal n, and the row as it was
  pub row_shut : {n : ℕ} (asked : Option Measurement) (f : Ekf) → n ≡ row_refusal cars car → (n ≡ 0 → ⊥) → LentRow (turn_in cars car asked f) car numbers counts values shown n numbers counts values shown
  unfolding turn_in
  row_shut asked f e h =
      rw (← e, ne_eqb _ 0 h)
      (record { shows = shows_refusal refl; stores = sym (set-get_or numbers car []); stores_counts = sym (set-get_or counts car []) })

  -- what the car alone leaves, put back
  pub row_open :
      {n r : ℕ} {asked asked' : Option Measurement} {l : List Float} {k : List ℕ} {values' : List Float} {shown' : List ℕ}
      → n ≡ row_refusal cars car → n ≡ 0 → asked ≡ asked'
      → Lent (turn_of asked (car_in numbers counts car)) numbers_of counts_of (get_or numbers car []) (get_or counts car []) values shown r l k values' shown'
      → LentRow (turn_in cars car asked' (car_in numbers counts car)) car numbers counts values shown r (set numbers car l) (set counts car k) values' shown'
  unfolding turn_in
  row_open e z a h =
      rw (← e, z, ← a)
      (record { shows = h.shows; stores = ap (set numbers car) h.stores; stores_counts = ap (set counts car) h.stores_counts })
