-- To put some of a row's words is to put all of them, where those kept are those that stand there. Assumes nothing.
use Rattle.std.specs.Prelude.{ℕ, ◌+◌, ◌≤◌, ◌≡◌, refl, List, [], ◌∷◌, get_or, set}
use Rattle.std.proofs.Common.{arith, sym, ap, ◌∙◌, get_or-set_other}
use Rattle.std.proofs.lemmas.List.{set-get_or}
use Rattle.words.specs.Words.{puts}

-- a word that is kept or put
pub data Word (A : Type 0) : Type 0 where
  kept : Word A
  put : A → Word A

-- what is put alone, from a place on; and all words, where those kept are those that stand there
abbrev pub put_only : {A : Type 0} → List A → ℕ → List (Word A) → List A
put_only l at [] = l
put_only l at (kept ∷ w) = put_only l (at + 1) w
put_only l at (put v ∷ w) = put_only (set l at v) (at + 1) w

abbrev pub filled : {A : Type 0} → A → List A → ℕ → List (Word A) → List A
filled d l at [] = []
filled d l at (kept ∷ w) = get_or l at d ∷ filled d l (at + 1) w
filled d l at (put v ∷ w) = v ∷ filled d l (at + 1) w

agree : {A : Type 0} (d : A) (l x : List A) (at : ℕ) (w : List (Word A)) → ((i : ℕ) → at ≤ i → get_or x i d ≡ get_or l i d) → put_only x at w ≡ puts x at (filled d l at w)
agree d l x at [] h = refl
agree {A} d l x at (kept ∷ w) h =
    agree d l x (at + 1) w (λ i g. h i (omega (arith, g))) ∙ ap (λ (y : List A). puts y (at + 1) (filled d l (at + 1) w)) (sym (ap (λ (v : A). set x at v) (sym (h at (omega arith))) ∙ set-get_or x at d))
agree d l x at (put v ∷ w) h = agree d l (set x at v) (at + 1) w (λ i g. get_or-set_other x at i v d (λ e. omega (arith, e, g)) ∙ h i (omega (arith, g)))

-- the words of a row of which the first are told: the others are kept
abbrev pub others_kept : {A B : Type 0} → List B → List (Word A) → List (Word A)
others_kept [] w = w
others_kept (v ∷ row) [] = kept ∷ others_kept row []
others_kept (v ∷ row) (x ∷ w) = x ∷ others_kept row w

others : {A B : Type 0} (row : List B) (l : List A) (at : ℕ) (w : List (Word A)) → put_only l at (others_kept row w) ≡ put_only l at w
others [] l at w = refl
others (v ∷ row) l at [] = others row l (at + 1) []
others (v ∷ row) l at (kept ∷ w) = others row l (at + 1) w
others (v ∷ row) l at (put x ∷ w) = others row (set l at x) (at + 1) w

-- so to put alone is to put all words of the row
pub alone : {A : Type 0} (d : A) (l row : List A) (w : List (Word A)) → put_only l 0 w ≡ puts l 0 (filled d l 0 (others_kept row w))
alone d l row w = sym (others row l 0 w) ∙ agree d l l 0 (others_kept row w) (λ i g. refl)
