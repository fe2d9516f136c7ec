-- What a call leaves in the caller's words, of what the parts of its code ensure: one that answers, one that is refused, and one that reads. Assumes nothing.
use Rattle.std.specs.Prelude.{ℕ, ◌≡◌, refl, Bool, true, false, List, Float}
use Rattle.std.proofs.Common.{sym, ap, ◌∙◌, ne_eqb}
use Rattle.call.specs.Said.{Reply, Said, answer, refused, number}
use Rattle.call.specs.Port.{inside}
use Rattle.words.specs.Words.{puts, words_in, Shown, changing, reading, turn, Lent}

-- an answer that is known
pub shows_answer : {s : Said} {r : Reply} {values : List Float} {shown : List ℕ} → s ≡ answer r → Shown s values shown 0 (puts values 0 r.values) (puts shown 0 (words_in r))
shows_answer e = rw e (record { gives = refl; writes = refl; writes_words = refl })

pub shows_refusal : {s : Said} {n : ℕ} {values : List Float} {shown : List ℕ} → s ≡ refused n → Shown s values shown n values shown
shows_refusal e = rw e (record { gives = refl; writes = refl; writes_words = refl })

module _ {S : Type 0} {numbers_of : S → List Float} {counts_of : S → List ℕ} {numbers : List Float} {counts : List ℕ} {values : List Float} {shown : List ℕ} where
  -- an answer is shown, and the record that it hands back is stored; a refusal leaves the record
  pub leaves_stored :
      {t : Said × S} {r : ℕ} {numbers' : List Float} {counts' : List ℕ} {values' : List Float} {shown' : List ℕ}
      → Shown t.0 values shown r values' shown' → r ≡ 0 → numbers' ≡ puts numbers 0 (numbers_of t.1) → counts' ≡ puts counts 0 (counts_of t.1)
      → Lent (changing t) numbers_of counts_of numbers counts values shown 0 numbers' counts' values' shown'
  leaves_stored {t} h z n k =
      let e : number t.0 ≡ 0 = sym h.gives ∙ z in
      record { shows = rw z at h; stores = rw e n; stores_counts = rw e k }

  pub leaves_left :
      {t : Said × S} {r : ℕ} {values' : List Float} {shown' : List ℕ}
      → Shown t.0 values shown r values' shown' → (r ≡ 0 → ⊥) → Lent (changing t) numbers_of counts_of numbers counts values shown r numbers counts values' shown'
  leaves_left {t} h failed =
      let e = ne_eqb (number t.0) 0 (λ z. failed (h.gives ∙ z)) in
      record { shows = h; stores = rw e; stores_counts = rw e }

  -- what leaves t leaves u, which is the same
  pub leaves_as :
      {t u : Said × S} {r : ℕ} {numbers' : List Float} {counts' : List ℕ} {values' : List Float} {shown' : List ℕ}
      → t ≡ u → Lent (changing t) numbers_of counts_of numbers counts values shown r numbers' counts' values' shown' → Lent (changing u) numbers_of counts_of numbers counts values shown r numbers' counts' values' shown'
  leaves_as e h = rw e at h

  pub reads_as :
      {s s' : Said} {r : ℕ} {values' : List Float} {shown' : List ℕ}
      → s ≡ s' → Shown s values shown r values' shown' → Lent (reading s') numbers_of counts_of numbers counts values shown r numbers counts values' shown'
  reads_as e h = record { shows = rw e at h; stores = refl; stores_counts = refl }

  -- a call of a part that is put back
  pub leaves_inside :
      {P : Type 0} {t u : Said × P} {r : ℕ} {numbers' : List Float} {counts' : List ℕ} {values' : List Float} {shown' : List ℕ}
      (put : P → S) → t ≡ u → Lent (changing (inside put t)) numbers_of counts_of numbers counts values shown r numbers' counts' values' shown'
      → Lent (changing (inside put u)) numbers_of counts_of numbers counts values shown r numbers' counts' values' shown'
  leaves_inside put e h = leaves_as (ap (inside put) e) h

  -- an unknown operation
  pub turns_unknown : (s : S) (b : Bool) → Lent (turn b (refused 2, s)) numbers_of counts_of numbers counts values shown 2 numbers counts values shown
  turns_unknown s true = record { shows = shows_refusal refl; stores = refl; stores_counts = refl }
  turns_unknown s false = reads_as refl (shows_refusal refl)
