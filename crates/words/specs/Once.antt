-- Two outcomes that meet a promise about lent words are equal, word for word, and a refused call writes nothing. Assumes nothing.
use Rattle.std.specs.Prelude.{ℕ, ◌≡◌, refl, List, Float}
use Rattle.std.proofs.Common.{◌∙◌, ne_eqb}
use Rattle.call.specs.Said.{Reply, Said, answer, refused, number, said, told}
use Rattle.call.specs.Port.{inside}
use Rattle.call.specs.Once.{one_outcome, one_told, answer_from}
use Rattle.call.specs.declared.Outcome.{Outcome}
use Rattle.channel.specs.Answers.{verdict, verdict_in, answer_back}
use Rattle.channel.specs.declared.Verdict.{Verdict}
use Rattle.ekf.specs.declared.Ekf.{Ekf}
use Rattle.words.specs.declared.channels.Motion.{Motion}
use Rattle.words.specs.Words.{after, written, words_in, Shown, Turn, changing, reading, said_in, stored, Lent}

-- what a promise gives as it is
pub given_once : {A : Type 0} {a b s : A} → a ≡ s → b ≡ s → a ≡ b
given_once {A} {a} {b} {s} p q = one_outcome (λ (x : A). x) (λ (x : A). x) (λ (x : A). refl) a b s p q

-- a number and what an answer shows, as of the functions without a record
pub answer_once :
    (s : Said) (values : List Float) {r r' : ℕ} {v v' : List Float} → (r ≡ number s) × (v ≡ written s values) → (r' ≡ number s) × (v' ≡ written s values) → (r ≡ r') × (v ≡ v')
answer_once s values a b = (given_once a.0 b.0, given_once a.1 b.1)

pub shown_once :
    {s : Said} {values : List Float} {shown : List ℕ} {r r' : ℕ} {v v' : List Float} {w w' : List ℕ}
    → Shown s values shown r v w → Shown s values shown r' v' w' → (r ≡ r') × (v ≡ v') × (w ≡ w')
shown_once a b = (given_once a.gives b.gives, given_once a.writes b.writes, given_once a.writes_words b.writes_words)

pub lent_once :
    {S : Type 0} {t : Turn S} {numbers_of : S → List Float} {counts_of : S → List ℕ} {numbers : List Float} {counts : List ℕ} {values : List Float} {shown : List ℕ}
    {r r' : ℕ} {n n' : List Float} {k k' : List ℕ} {v v' : List Float} {w w' : List ℕ}
    → Lent t numbers_of counts_of numbers counts values shown r n k v w → Lent t numbers_of counts_of numbers counts values shown r' n' k' v' w'
    → ((r ≡ r') × (v ≡ v') × (w ≡ w')) × (n ≡ n') × (k ≡ k')
lent_once a b = (shown_once a.shows b.shows, given_once a.stores b.stores, given_once a.stores_counts b.stores_counts)

-- a prediction's outcome, of which the words that it moves are stored
pub motion_once : (a b : Outcome Verdict Motion) (t : Said × Ekf) → inside (λ m. m.filter) (told verdict a) ≡ t → inside (λ m. m.filter) (told verdict b) ≡ t → a ≡ b
motion_once =
    one_told (said verdict) (answer_from verdict_in) answer_back (λ (o : Outcome Verdict Motion). o.answer) (λ o. o.state.filter) (λ a f. record { answer = a; state = record { filter = f } })
    (λ o. refl)

-- ---- "A refused call .. writes nothing"
unwritten : {A : Type 0} (of : Reply → List A) (s : Said) → (number s ≡ 0 → ⊥) → (old : List A) → after of s old ≡ old
unwritten of (answer r) h old = absurd (h refl)
unwritten of (refused n) h old = refl

unstored : {S A : Type 0} (of : S → List A) (t : Turn S) → (number (said_in t) ≡ 0 → ⊥) → (old : List A) → stored of t old ≡ old
unstored of (changing t) h old = rw (ne_eqb (number t.0) 0 h)
unstored of (reading s) h old = refl

pub answer_refused : (s : Said) (values : List Float) {r : ℕ} {v : List Float} → (r ≡ number s) × (v ≡ written s values) → (r ≡ 0 → ⊥) → v ≡ values
answer_refused s values a h = a.1 ∙ unwritten (λ r. r.values) s (λ z. h (a.0 ∙ z)) values

pub shown_refused :
    {s : Said} {values : List Float} {shown : List ℕ} {r : ℕ} {v : List Float} {w : List ℕ} → Shown s values shown r v w → (r ≡ 0 → ⊥) → (v ≡ values) × (w ≡ shown)
shown_refused {s} {values} {shown} a h =
    let no : number s ≡ 0 → ⊥ = λ z. h (a.gives ∙ z) in
    (a.writes ∙ unwritten (λ r. r.values) s no values, a.writes_words ∙ unwritten words_in s no shown)

pub lent_refused :
    {S : Type 0} {t : Turn S} {numbers_of : S → List Float} {counts_of : S → List ℕ} {numbers : List Float} {counts : List ℕ} {values : List Float} {shown : List ℕ}
    {r : ℕ} {n : List Float} {k : List ℕ} {v : List Float} {w : List ℕ}
    → Lent t numbers_of counts_of numbers counts values shown r n k v w → (r ≡ 0 → ⊥) → ((v ≡ values) × (w ≡ shown)) × (n ≡ numbers) × (k ≡ counts)
lent_refused {S} {t} {numbers_of} {counts_of} {numbers} {counts} a h =
    let no : number (said_in t) ≡ 0 → ⊥ = λ z. h (a.shows.gives ∙ z) in
    (shown_refused a.shows h, a.stores ∙ unstored numbers_of t no numbers, a.stores_counts ∙ unstored counts_of t no counts)

-- a reader leaves the record as it is
pub lent_read :
    {S : Type 0} {s : Said} {numbers_of : S → List Float} {counts_of : S → List ℕ} {numbers : List Float} {counts : List ℕ} {values : List Float} {shown : List ℕ}
    {r : ℕ} {n : List Float} {k : List ℕ} {v : List Float} {w : List ℕ}
    → Lent (reading s) numbers_of counts_of numbers counts values shown r n k v w → (n ≡ numbers) × (k ≡ counts)
lent_read a = (a.stores, a.stores_counts)
