-- Four machines that do not look at each other: however their calls are merged, each ends as if its own list had run alone, and each call answers as if it had. Assumes nothing.
-- A merged list is a list of calls that are each one machine's; `split` gives back the four lists, each in its own order.
use Rattle.std.specs.Prelude.{ℕ, ◌≡◌, refl, List, [], ◌∷◌, ◌++◌}

-- something of one of the four
pub data Any (A B C D : Type 0) : Type 0 where
  one : A → Any A B C D
  two : B → Any A B C D
  three : C → Any A B C D
  four : D → Any A B C D

-- which of the four
abbrev pub which : {A B C D : Type 0} → Any A B C D → ℕ
which (one a) = 1
which (two b) = 2
which (three c) = 3
which (four d) = 4

-- what is each one's, in its order
abbrev pub split : {A B C D : Type 0} → List (Any A B C D) → List A × List B × List C × List D
split [] = ([], [], [], [])
split (one a ∷ l) = (a ∷ (split l).0, (split l).1, (split l).2, (split l).3)
split (two b ∷ l) = ((split l).0, b ∷ (split l).1, (split l).2, (split l).3)
split (three c ∷ l) = ((split l).0, (split l).1, c ∷ (split l).2, (split l).3)
split (four d ∷ l) = ((split l).0, (split l).1, (split l).2, d ∷ (split l).3)

-- the answers of a list of calls, and the state that it ends in
abbrev pub run : {C A S : Type 0} → (C → S → A × S) → List C → S → List A × S
run f [] s = ([], s)
run f (c ∷ l) s = ((f c s).0 ∷ (run f l (f c s).1).0, (run f l (f c s).1).1)

module _ {A₁ A₂ A₃ A₄ C₁ C₂ C₃ C₄ S₁ S₂ S₃ S₄ : Type 0}
    (f₁ : C₁ → S₁ → A₁ × S₁) (f₂ : C₂ → S₂ → A₂ × S₂) (f₃ : C₃ → S₃ → A₃ × S₃) (f₄ : C₄ → S₄ → A₄ × S₄) where
  -- a call of one machine, on the states of the four
  abbrev pub each : Any C₁ C₂ C₃ C₄ → S₁ × S₂ × S₃ × S₄ → Any A₁ A₂ A₃ A₄ × (S₁ × S₂ × S₃ × S₄)
  each (one c) s = (one (f₁ c s.0).0, ((f₁ c s.0).1, s.1, s.2, s.3))
  each (two c) s = (two (f₂ c s.1).0, (s.0, (f₂ c s.1).1, s.2, s.3))
  each (three c) s = (three (f₃ c s.2).0, (s.0, s.1, (f₃ c s.2).1, s.3))
  each (four c) s = (four (f₄ c s.3).0, (s.0, s.1, s.2, (f₄ c s.3).1))

  -- what each list, run alone, answers and ends in
  pub record Alone (m : List (Any C₁ C₂ C₃ C₄)) (s : S₁ × S₂ × S₃ × S₄) : Type 0 where
    pub answers :
        split (run each m s).0 ≡
        ((run f₁ (split m).0 s.0).0, (run f₂ (split m).1 s.1).0, (run f₃ (split m).2 s.2).0, (run f₄ (split m).3 s.3).0)
    pub ends :
        (run each m s).1 ≡
        ((run f₁ (split m).0 s.0).1, (run f₂ (split m).1 s.1).1, (run f₃ (split m).2 s.2).1, (run f₄ (split m).3 s.3).1)

  pub alone : (m : List (Any C₁ C₂ C₃ C₄)) (s : S₁ × S₂ × S₃ × S₄) → Alone m s
  alone [] s = record { answers = refl; ends = refl }
  alone (one c ∷ m) s = let h = alone m (each (one c) s).1 in record { answers = simp h.answers; ends = h.ends }
  alone (two c ∷ m) s = let h = alone m (each (two c) s).1 in record { answers = simp h.answers; ends = h.ends }
  alone (three c ∷ m) s = let h = alone m (each (three c) s).1 in record { answers = simp h.answers; ends = h.ends }
  alone (four c ∷ m) s = let h = alone m (each (four c) s).1 in record { answers = simp h.answers; ends = h.ends }

-- a run within a larger state
pub run_in : {C A S W : Type 0} (put : S → W) (f : C → W → A × W) (g : C → S → A × S) →
    ((c : C) (s : S) → f c (put s) ≡ ((g c s).0, put (g c s).1)) → (l : List C) (s : S) → run f l (put s) ≡ ((run g l s).0, put (run g l s).1)
run_in put f g law [] s = refl
run_in put f g law (c ∷ l) s = simp (law c s, run_in put f g law l (g c s).1)

-- ---- two neighbours of different machines, swapped: each machine's list stays as it was
swap_here : {A B C D : Type 0} (c d : Any A B C D) → (which c ≡ which d → ⊥) → (l : List (Any A B C D)) → split (c ∷ d ∷ l) ≡ split (d ∷ c ∷ l)
swap_here (one a) (one b) h l = absurd (h refl)
swap_here (one a) (two b) h l = refl
swap_here (one a) (three b) h l = refl
swap_here (one a) (four b) h l = refl
swap_here (two a) (one b) h l = refl
swap_here (two a) (two b) h l = absurd (h refl)
swap_here (two a) (three b) h l = refl
swap_here (two a) (four b) h l = refl
swap_here (three a) (one b) h l = refl
swap_here (three a) (two b) h l = refl
swap_here (three a) (three b) h l = absurd (h refl)
swap_here (three a) (four b) h l = refl
swap_here (four a) (one b) h l = refl
swap_here (four a) (two b) h l = refl
swap_here (four a) (three b) h l = refl
swap_here (four a) (four b) h l = absurd (h refl)

behind : {A B C D : Type 0} (c : Any A B C D) (l m : List (Any A B C D)) → split l ≡ split m → split (c ∷ l) ≡ split (c ∷ m)
behind (one a) l m e = simp e
behind (two a) l m e = simp e
behind (three a) l m e = simp e
behind (four a) l m e = simp e

pub swap : {A B C D : Type 0} (k : List (Any A B C D)) (c d : Any A B C D) → (which c ≡ which d → ⊥) → (l : List (Any A B C D)) → split (k ++ (c ∷ d ∷ l)) ≡ split (k ++ (d ∷ c ∷ l))
swap [] c d h l = swap_here c d h l
swap (b ∷ k) c d h l = behind b (k ++ (c ∷ d ∷ l)) (k ++ (d ∷ c ∷ l)) (swap k c d h l)
