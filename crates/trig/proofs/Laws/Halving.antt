-- The arc tangent's search ends within its turns: the guess is tried once, and then what lies between the ends is halved. Assumes nothing.
use Rattle.std.specs.Prelude.{ℕ, suc, ◌+◌, ◌/◌, ◌^◌, ◌≤◌, ◌<◌, ◌≡◌, refl, Bool, true, false, ◌&&◌, cond, ◌⊎◌, ltb}
use Rattle.std.proofs.Common.{ap, inl, inr, arith, ltb-true, ltb-false}
use Rattle.std.proofs.Math.Nat.{pow-succ'}
use Rattle.trig.specs.Tangent.{inside}

-- ---- what is tried next

-- the guess no longer lies between the ends
abbrev pub Outside : ℕ → ℕ → ℕ → Type 0
Outside guess low high = (guess ≤ low) ⊎ (high ≤ guess)

-- `inside` is the guess, which lies between the ends, or the middle, and then the guess does not
abbrev pub Tried : ℕ → ℕ → ℕ → ℕ → Type 0
Tried low high guess k = ((low < guess) × (guess < high) × (k ≡ guess)) ⊎ (Outside guess low high × (k ≡ (low + high) / 2))

pub tried : (low high guess : ℕ) → Tried low high guess (inside low high guess)
unfolding inside
tried low high guess = go (ltb low guess) refl (ltb guess high) refl
  where
    go : (a : Bool) → ltb low guess ≡ a → (b : Bool) → ltb guess high ≡ b → Tried low high guess (cond (a && b) guess ((low + high) / 2))
    go true e true f = inl (ltb-true _ _ e, ltb-true _ _ f, refl)
    go true e false f = inr (inr (ltb-false _ _ f), refl)
    go false e b f = inr (inl (ltb-false _ _ e), refl)

pub between : (low high guess : ℕ) → low + 1 < high → (low < inside low high guess) × (inside low high guess < high)
between low high guess h = elim (tried low high guess) [ inl w ↦ (omega arith) | inr w ↦ (omega arith) ]

-- ---- how many turns are left: enough to halve what lies between the ends down to nothing
abbrev pub Enough : ℕ → ℕ → ℕ → ℕ → Type 0
Enough guess turns low high = ((turns ≡ 23) × (high ≤ low + 4194304)) ⊎ (Outside guess low high × (high ≤ low + 2 ^ turns))

pub spent : (guess low high : ℕ) → Enough guess 0 low high → high ≤ low + 1
spent guess low high (inl w) = omega arith
spent guess low high (inr w) = w.1

outside : (guess low high k l h : ℕ) → Tried low high guess k → low ≤ l → h ≤ high → (l ≡ k) ⊎ (h ≡ k) → Outside guess l h
outside guess low high k l h (inl w) a b (inl e) = inl (omega arith)
outside guess low high k l h (inl w) a b (inr e) = inr (omega arith)
outside guess low high k l h (inr (inl g, w)) a b e = inl (omega arith)
outside guess low high k l h (inr (inr g, w)) a b e = inr (omega arith)

narrower : (guess turns low high k l h : ℕ) → low + 1 < high → Tried low high guess k → Enough guess (suc turns) low high → (low ≤ l) × (h ≤ high) → ((l ≡ k) × (h ≤ high)) ⊎ ((l ≤ k) × (h ≡ k)) → h ≤ l + 2 ^ turns
narrower guess turns low high k l h o t (inl w) b e =
    let s : turns ≡ 22 = omega arith in
    let p : 2 ^ turns ≡ 4194304 = ap (λ (i : ℕ). 2 ^ i) s in
    omega arith
narrower guess turns low high k l h o (inl t) (inr (inl g, w)) b e = absurd (omega arith)
narrower guess turns low high k l h o (inl t) (inr (inr g, w)) b e = absurd (omega arith)
narrower guess turns low high k l h o (inr t) (inr w) b (inl e) = omega (arith, pow-succ' 2 turns)
narrower guess turns low high k l h o (inr t) (inr w) b (inr e) = omega (arith, pow-succ' 2 turns)

pub enough : (guess turns low high k : ℕ) (s p : Bool) → (s ≡ true → p ≡ true → ⊥) → low + 1 < high → (low < k) × (k < high) → Tried low high guess k → Enough guess (suc turns) low high → Enough guess turns (cond p low k) (cond s high k)
enough guess turns low high k true true n o b t w = absurd (n refl refl)
enough guess turns low high k true false n o b t w =
    inr (outside guess low high k k high t (omega arith) (omega arith) (inl refl), narrower guess turns low high k k high o t w (omega arith) (inl (refl, omega arith)))
enough guess turns low high k false true n o b t w =
    inr (outside guess low high k low k t (omega arith) (omega arith) (inr refl), narrower guess turns low high k low k o t w (omega arith) (inr (omega arith, refl)))
enough guess turns low high k false false n o b t w =
    inr (outside guess low high k k k t (omega arith) (omega arith) (inl refl), omega arith)
