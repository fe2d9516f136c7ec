-- What a replay gives, and leaves in the caller's words. And that two outcomes which meet it are equal, and that without a configuration nothing is written.
use Rattle.std.specs.Prelude.{ℕ, ◌≡◌, refl, cond, List, eqb, Float}
use Rattle.std.proofs.Common.{◌∙◌, eq-eqb, ne_eqb}
use Rattle.ekf.specs.declared.Ekf.{Ekf}
use Rattle.verdicts.specs.Run.{Finished}
use Rattle.words.specs.Words.{puts}
use Rattle.words.specs.Once.{given_once}
use Rattle.words.specs.Filter.{numbers_of, counts_of}

-- words that are written once a configuration was taken: the first record is the configuration
abbrev pub after_records : {A : Type 0} → ℕ → List A → List A → List A
after_records records old new = cond (eqb records 0) old (puts old 0 new)

-- the number of the stop, or 0; and the filter at the end
pub record Replayed (e : Finished Ekf) (numbers : List Float) (counts : List ℕ) (r : ℕ) (numbers' : List Float) (counts' : List ℕ) : Type 0 where
  pub gives : r ≡ e.stop
  pub stores : numbers' ≡ after_records e.records numbers (numbers_of e.left)
  pub stores_counts : counts' ≡ after_records e.records counts (counts_of e.left)

-- ---- what a run leaves
module _ (e : Finished Ekf) (numbers : List Float) (counts : List ℕ) where
  pub no_record : e.records ≡ 0 → Replayed e numbers counts e.stop numbers counts
  no_record z = let b = eq-eqb e.records 0 z in record { gives = refl; stores = simp b; stores_counts = simp b }

  pub some_record : (e.records ≡ 0 → ⊥) → Replayed e numbers counts e.stop (puts numbers 0 (numbers_of e.left)) (puts counts 0 (counts_of e.left))
  some_record f = let b = ne_eqb e.records 0 f in record { gives = refl; stores = simp b; stores_counts = simp b }

-- ---- one outcome
pub replayed_once :
    {e : Finished Ekf} {numbers : List Float} {counts : List ℕ} {r r' : ℕ} {n n' : List Float} {k k' : List ℕ}
    → Replayed e numbers counts r n k → Replayed e numbers counts r' n' k' → (r ≡ r') × (n ≡ n') × (k ≡ k')
replayed_once a b = (given_once a.gives b.gives, given_once a.stores b.stores, given_once a.stores_counts b.stores_counts)

pub unread_unwritten :
    {e : Finished Ekf} {numbers : List Float} {counts : List ℕ} {r : ℕ} {n : List Float} {k : List ℕ} → Replayed e numbers counts r n k → e.records ≡ 0 → (n ≡ numbers) × (k ≡ counts)
unread_unwritten a z = let b = eq-eqb _ 0 z in (a.stores ∙ simp b, a.stores_counts ∙ simp b)
