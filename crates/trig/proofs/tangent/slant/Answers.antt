-- The calls are the definition's steps.
use Rattle.std.proofs.Common.{◌≡◌, refl, sym, ◌∙◌, ℕ, zero, suc, ◌/◌, max, cond, eqb, ne_eqb, arith}
use Rattle.trig.specs.Guess.{part, ratio, bend, slant}
use Rattle.trig.proofs.tangent.slant.Goals as goal

least : (k : ℕ) → max k 1 ≡ cond (eqb k 0) 1 k
least zero = refl
least (suc k) = rw (ne_eqb (suc k) 0 (λ e. omega (arith, e))) (omega arith)

slant_is : (small large t w b k : ℕ) → t ≡ ratio small large → w ≡ part t t → b ≡ bend w → k ≡ part t b → slant small large ≡ cond (eqb (k / 16) 0) 1 (k / 16)
unfolding slant
slant_is small large t w b k et ew eb ek = rw (ek, eb, ew, et)

pub returns : goal.returns
returns c =
    let a = c.args in
    let is = slant_is a.small a.large c.ratio-t.result c.part.result c.bend.result c.part-k.result c.ratio-t.ensures.0 c.part.ensures.0 c.bend.ensures.0 c.part-k.ensures.0 in
    (c.max.ensures ∙ least (c.part-k.result / 16) ∙ sym is, omega (arith, c.max.ensures, c.part-k.ensures.1, c.bend.ensures.1))
