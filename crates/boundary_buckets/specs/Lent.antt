-- A summary in the caller's words: what an added verdict and a merge give, and leave there. And that a refused verdict writes nothing.
use Rattle.std.specs.Prelude.{ℕ, ◌<◌, ◌≡◌, refl, Bool, true, false, cond, List, [], ◌∷◌, ◌++◌, eqb, length, get_or, take, Float, Result, Ok}
use Rattle.std.proofs.Common.{sym, ◌∙◌, arith, length-take-le, take-suc, take_all}
use Rattle.std.proofs.Math.Path.{ap}
use Rattle.std.specs.Float.Ieee.Scale.{finite}
use Rattle.call.specs.Said.{Said, number}
use Rattle.channel.specs.declared.Verdict.{Verdict}
use Rattle.channel.specs.declared.Verdict.TheVariants.{Done, Accepted, Rejected}
use Rattle.call.specs.declared.refusal.Refusal.{Refusal}
use Rattle.buckets.specs.Summary.{Counted, in_bucket, among_rejected, nowhere, place_of, counts_of, added, summed, summed_row, merged}
use Rattle.buckets.specs.AddLaws.{left_at, by_place, place_below}
use Rattle.buckets.specs.ReaderLaws.{one_more, counts_after}
use Rattle.buckets.specs.declared.Summary.{Summary}

-- ---- the words
-- a verdict's word is the kind that a gated call shows: 1 accepted, 2 rejected; any other is no verdict
abbrev pub verdict_of : ℕ → Float → Verdict
verdict_of word value = cond (eqb word 1) (Accepted value) (cond (eqb word 2) (Rejected value) Done)

-- a count for each bucket, then that of the rejected
abbrev pub summary_in : List ℕ → Summary
summary_in words = record { buckets = take 128 words; rejected = get_or words 128 0 }

-- ---- what is given and left
-- one word more at a verdict's place, or the refusal
abbrev pub lent_at : Counted → List ℕ → ℕ × List ℕ
lent_at (in_bucket k) words = (0, one_more words k)
lent_at among_rejected words = (0, one_more words 128)
lent_at (nowhere n) words = (n, words)

-- a value that is not finite gives 1 whatever the verdict's word
unfoldable pub added_to : ℕ → Float → List ℕ → ℕ × List ℕ
added_to word value words = cond (finite value) (lent_at (place_of {E = Refusal} (Ok (verdict_of word value))) words) (1, words)

-- ---- for the code
module _ (word : ℕ) (value : Float) (words : List ℕ) where
  pub not_finite : finite value ≡ false → ◌≡◌ {A = ℕ × List ℕ} (1, words) (added_to word value words)
  unfolding added_to
  not_finite f = rw f

  pub at_place : (p : Counted) (v : Verdict) → finite value ≡ true → v ≡ verdict_of word value → p ≡ place_of {E = Refusal} (Ok v) → lent_at p words ≡ added_to word value words
  unfolding added_to
  at_place p v f e q = rw (f, ← e, ← q)

-- ---- 129 words are a summary's
pub words_back : (words : List ℕ) → length words ≡ 129 → counts_of (summary_in words) ≡ words
words_back words e = sym (take-suc words 128 0 (omega (arith, e))) ∙ take_all 129 words (omega (arith, e))

full : (words : List ℕ) → length words ≡ 129 → length (summary_in words).buckets ≡ 128
full words e = length-take-le 128 words (omega (arith, e))

-- what the definition of `added` gives and leaves, in the words
abbrev pub in_words : Said × Summary → ℕ × List ℕ
in_words out = (number out.0, counts_of out.1)

module _ (words : List ℕ) (e : length words ≡ 129) where
  by_words : (p : Counted) → ((k : ℕ) → p ≡ in_bucket k → k < 128) → lent_at p words ≡ in_words (left_at p (summary_in words))
  by_words (in_bucket k) b = rw (counts_after (summary_in words) (full words e) (in_bucket k) b, words_back words e)
  by_words among_rejected b = rw (counts_after (summary_in words) (full words e) among_rejected b, words_back words e)
  by_words (nowhere n) b = rw (words_back words e)

  pub words_added : (word : ℕ) (value : Float) → finite value ≡ true → added_to word value words ≡ in_words (added {E = Refusal} (Ok (verdict_of word value)) (summary_in words))
  unfolding added_to
  words_added word value f = let v : Result Verdict Refusal = Ok (verdict_of word value) in rw f (by_words (place_of v) (place_below v) ∙ ap in_words (by_place v (summary_in words)))

-- a refused verdict writes nothing
pub refused_unwritten : (word : ℕ) (value : Float) (words : List ℕ) → ((added_to word value words).0 ≡ 0 → ⊥) → (added_to word value words).1 ≡ words
unfolding added_to
refused_unwritten word value words = go (finite value) (place_of {E = Refusal} (Ok (verdict_of word value)))
  where
    go : (b : Bool) (p : Counted) → (let t : ℕ × List ℕ = cond b (lent_at p words) (1, words) in (t.0 ≡ 0 → ⊥) → t.1 ≡ words)
    go true (in_bucket k) f = absurd (f refl)
    go true among_rejected f = absurd (f refl)
    go true (nowhere n) f = refl
    go false p f = refl

-- ---- a merge
rows_joined : (l m : List ℕ) (a b : ℕ) → length l ≡ length m → summed_row (l ++ (a ∷ [])) (m ++ (b ∷ [])) ≡ summed_row l m ++ (summed a b ∷ [])
unfolding summed_row
rows_joined [] [] a b e = refl
rows_joined [] (y ∷ m) a b e = absurd (omega (arith, e))
rows_joined (x ∷ l) [] a b e = absurd (omega (arith, e))
rows_joined (x ∷ l) (y ∷ m) a b e = ap (λ (r : List ℕ). summed x y ∷ r) (rows_joined l m a b (omega (arith, e)))

pub words_merged : (words other : List ℕ) → length words ≡ 129 → length other ≡ 129 → summed_row words other ≡ counts_of (merged (summary_in words) (summary_in other))
words_merged words other e f =
    ap (λ (l : List ℕ). summed_row l other) (sym (words_back words e)) ∙ ap (summed_row (counts_of (summary_in words))) (sym (words_back other f))
    ∙ rows_joined (take 128 words) (take 128 other) (get_or words 128 0) (get_or other 128 0) (full words e ∙ sym (full other f))
