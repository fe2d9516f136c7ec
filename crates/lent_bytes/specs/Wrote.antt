-- What writing into a lent buffer leaves there, and that a run of writes is one write. Assumes nothing.
use Rattle.std.specs.Prelude.{ℕ, suc, ◌+◌, ◌-◌, ◌≤◌, ◌<◌, min, ◌≡◌, refl, ◌⊎◌, List, [], ◌∷◌, ◌++◌, length, set, drop}
use Rattle.std.proofs.Common.{sym, ap, ◌∙◌, inl, inr, ⊎_elim, add-zero, zero-add, add-suc, suc-add, eq-zero-or-pos, arith, length-append}
use Rattle.std.proofs.lemmas.List.Edits.{sets, sets-eq}
use Rattle.std.proofs.Math.Seq.{set_out, length-sets}

-- `out` is `old` with the bytes `text` from the place `at` on, as far as it reaches, and r is the place behind them, at most the end
pub record Wrote (old : List ℕ) (at : ℕ) (text out : List ℕ) (r : ℕ) : Type 0 where
  pub bytes : out ≡ sets old at text
  pub place : r ≡ min (at + length text) (length old)

-- ---- a run goes on where the last one stopped
split : (a b : ℕ) → (a ≤ b) ⊎ (b < a)
split a b = ⊎_elim (λ (h : a - b ≡ 0). inl (omega arith)) (λ (h : 0 < a - b). inr (omega arith)) (eq-zero-or-pos (a - b))

sets_out : (l : List ℕ) (i : ℕ) (vs : List ℕ) → length l ≤ i → sets l i vs ≡ l
sets_out l i [] h = refl
sets_out l i (a ∷ vs) h = rw (set_out l i a h) (sets_out l (suc i) vs (omega arith))

sets_append : (l : List ℕ) (i : ℕ) (xs ys : List ℕ) → sets (sets l i xs) (i + length xs) ys ≡ sets l i (xs ++ ys)
sets_append l i [] ys = rw add-zero
sets_append l i (a ∷ xs) ys = rw (add-suc i (length xs), ← suc-add i (length xs)) (sets_append (set l i a) (suc i) xs ys)

joined : (l : List ℕ) (i p : ℕ) (xs ys : List ℕ) → p ≡ min (i + length xs) (length l) → sets (sets l i xs) p ys ≡ sets l i (xs ++ ys)
joined l i p xs ys e =
    ⊎_elim
    (λ (h : i + length xs ≤ length l). let q : p ≡ i + length xs = omega arith in rw q (sets_append l i xs ys))
    (λ (h : length l < i + length xs).
    let q : p ≡ length l = omega arith in
    let a : length (sets l i xs) ≤ p = rw length-sets (omega arith) in
    let b : length (sets l i xs) ≤ i + length xs = rw length-sets (omega arith) in
    sets_out (sets l i xs) p ys a ∙ sym (sets_out (sets l i xs) (i + length xs) ys b) ∙ sets_append l i xs ys)
    (split (i + length xs) (length l))

module _ {old : List ℕ} {at : ℕ} {text out : List ℕ} {p : ℕ} (w : Wrote old at text out p) where
  pub same_size : length out ≡ length old
  same_size = ap length w.bytes ∙ length-sets old at text

  pub then : {more out' : List ℕ} {r : ℕ} → Wrote out p more out' r → Wrote old at (text ++ more) out' r
  then {more} {out'} {r} v =
      let same : length out ≡ length old = same_size in
      record {
        bytes = v.bytes ∙ ap (λ (o : List ℕ). sets o p more) w.bytes ∙ joined old at p text more w.place;
        place = rw (length-append text more) (omega (arith, w.place, v.place));
      }

-- ---- a text that fits, from the start of the buffer
pub whole : {old text out : List ℕ} {r : ℕ} → Wrote old 0 text out r → length text ≤ length old → (out ≡ text ++ drop (length text) old) × (r ≡ length text)
whole {old} {text} {out} {r} w h =
    let fits : 0 + length text ≤ length old = omega arith in
    let b = w.bytes ∙ sets-eq text old 0 fits in
    (rw zero-add at b, omega (arith, w.place))

-- ---- one outcome
pub wrote_once : {old : List ℕ} {at : ℕ} {text out out' : List ℕ} {r r' : ℕ} → Wrote old at text out r → Wrote old at text out' r' → (out ≡ out') × (r ≡ r')
wrote_once a b = (a.bytes ∙ sym b.bytes, a.place ∙ sym b.place)
