-- What a call of the writer gives, and leaves in the caller's memory. And that a word which is no byte is an unknown tag.
use Rattle.std.specs.Prelude.{ℕ, ◌≤◌, ◌≡◌, refl, Bool, true, false, cond, List, ltb, set}
use Rattle.std.proofs.Common.{sym, ap, ◌∙◌, arith, ne_eqb, ltb-false}
use Rattle.call.specs.Said.{Said, answer, refused, number, count_in}
use Rattle.tracklog.specs.Format.{length_of}
use Rattle.writer.specs.Append.{appended}
use Rattle.writer.specs.AppendLaws.{unknown, refused_stays}

-- the new used length; a refused call leaves it as it was
abbrev pub used_after : Said → List ℕ → List ℕ
used_after (answer r) used = set used 0 (count_in r)
used_after (refused n) used = used

-- the number, the buffer, and the used length
abbrev pub lent : Said × List ℕ → List ℕ → ℕ × List ℕ × List ℕ
lent out used = (number out.0, out.1, used_after out.0 used)

-- ---- a word as a tag
abbrev pub tag_of : ℕ → ℕ
tag_of word = cond (ltb word 256) word 0

no_byte : (word : ℕ) → 256 ≤ word → length_of word ≡ 0
unfolding length_of
no_byte word h =
    simp (
      ne_eqb word 1 (λ e. omega arith),
      ne_eqb word 2 (λ e. omega arith),
      ne_eqb word 3 (λ e. omega arith),
      ne_eqb word 4 (λ e. omega arith),
      ne_eqb word 5 (λ e. omega arith),
      ne_eqb word 6 (λ e. omega arith),
      ne_eqb word 7 (λ e. omega arith),
      ne_eqb word 8 (λ e. omega arith),
      ne_eqb word 9 (λ e. omega arith),
      ne_eqb word 10 (λ e. omega arith),
    )

zero : length_of 0 ≡ 0
unfolding length_of
zero = refl

pub same_tag : (buf payload : List ℕ) (used word : ℕ) → appended buf used (tag_of word) payload ≡ appended buf used word payload
same_tag buf payload used word = go (ltb word 256) refl
  where
    go : (byte : Bool) → ltb word 256 ≡ byte → appended buf used (cond byte word 0) payload ≡ appended buf used word payload
    go true e = refl
    go false e = unknown buf payload used 0 zero ∙ sym (unknown buf payload used word (no_byte word (ltb-false word 256 e)))

-- ---- what the writer left, in the caller's memory
pub handed_over :
    (buf payload used : List ℕ) (at word : ℕ) {out : Said × List ℕ} → out ≡ appended buf at (tag_of word) payload → lent out used ≡ lent (appended buf at word payload) used
handed_over buf payload used at word e = ap (λ (t : Said × List ℕ). lent t used) (e ∙ same_tag buf payload at word)

-- ---- one outcome, and a refused call writes nothing
module _ (buf payload used : List ℕ) (at word : ℕ) {r : ℕ} {left words : List ℕ} (e : ◌≡◌ {A = ℕ × List ℕ × List ℕ} (r, left, words) (lent (appended buf at word payload) used)) where
  pub append_once : {r' : ℕ} {left' words' : List ℕ} → ◌≡◌ {A = ℕ × List ℕ × List ℕ} (r', left', words') (lent (appended buf at word payload) used) → (r ≡ r') × (left ≡ left') × (words ≡ words')
  append_once e' = let q = e ∙ sym e' in (ap (λ t. t.0) q, ap (λ t. t.1) q, ap (λ t. t.2) q)

  pub refused_unwritten : (r ≡ 0 → ⊥) → (left ≡ buf) × (words ≡ used)
  refused_unwritten f = go (appended buf at word payload).0 refl
    where
      go : (s : Said) → (appended buf at word payload).0 ≡ s → (left ≡ buf) × (words ≡ used)
      go (answer reply) q = absurd (f (ap (λ t. t.0) e ∙ ap number q))
      go (refused n) q = (ap (λ t. t.1) e ∙ refused_stays buf payload at word n q, ap (λ t. t.2) e ∙ ap (λ (s : Said). used_after s used) q)
