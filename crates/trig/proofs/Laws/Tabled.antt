-- A table in memory: how one test over all of its entries shows that it holds the definition's, and what the reader makes of it. Assumes nothing.
use Rattle.std.specs.Prelude.{ℕ, zero, suc, ◌+◌, ◌-◌, ◌*◌, ◌/◌, ◌%◌, ◌≤◌, ◌<◌, ◌≡◌, refl, Bool, true, false, ◌&&◌, List, [], ◌∷◌, T, eqb, ℤ, length, Float}
use Rattle.std.proofs.Common.{sym, ap, ◌∙◌, subst, add-zero, zero-add, add-suc, suc-add, le_of_suc-le-suc, not-suc-le-zero, mul-le-mul_right, arith, eqb→eq}
use Rattle.std.specs.Float.Ieee.Fits.{and_l, and_r}
use Rattle.std.specs.Float.{nan}
use Rattle.float.specs.Value.{within}
use Rattle.trig.specs.Angle.{n, negative, four, lowered, turned}
use Rattle.trig.specs.Row.{slot, sum_of}
use Rattle.trig.specs.RowLaws.{sum_same}
use Rattle.trig.specs.Table.{next, line, read, raise, entry_of, AtMostOne, Holds}
use Rattle.trig.proofs.Distance.{small_angle}

-- ---- one test over a table: each entry, at its place counted from i, is the definition's
abbrev pub every : (ℕ → ℕ) → ℕ → List ℤ → Bool
every entry i [] = true
every entry i (x ∷ table) = eqb (raise x) (entry i) && every entry (suc i) table

from : (entry : ℕ → ℕ) (table : List ℤ) (i : ℕ) → T (every entry i table) → (k : ℕ) → k < length table → entry_of table k ≡ entry (i + k)
from entry [] i t k h = absurd (not-suc-le-zero h)
from entry (x ∷ table) i t zero h = eqb→eq _ _ (and_l (eqb (raise x) (entry i)) (every entry (suc i) table) t) ∙ ap entry (sym (add-zero i))
from entry (x ∷ table) i t (suc k) h =
    from entry table (suc i) (and_r (eqb (raise x) (entry i)) (every entry (suc i) table) t) k (le_of_suc-le-suc h) ∙ ap entry (suc-add i k ∙ sym (add-suc i k))

pub tested : (entry : ℕ → ℕ) (table : List ℤ) → length table ≡ 1025 → T (every entry 0 table) → Holds entry table
tested entry table e t = record { each = λ k h. from entry table 0 t k (subst (λ (m : ℕ). k < m) (sym e) h) ∙ ap entry (zero-add k) }

-- ---- the reader looks at two entries
pub line_same : (f g : ℕ → ℕ) (n : ℕ) → n ≤ 1073741824 → ((i : ℕ) → i < 1025 → f i ≡ g i) → line f n ≡ line g n
unfolding line
line_same f g n h e = rw (e (n / 1048576) (omega arith), e (next (n / 1048576)) (omega arith))

-- at the angle of an entry it is that entry
pub line_at : (entry : ℕ → ℕ) (i : ℕ) → line entry (i * 1048576) ≡ entry i
unfolding line
line_at entry i =
    let q : i * 1048576 / 1048576 ≡ i = omega arith in
    let r : i * 1048576 % 1048576 ≡ 0 = omega arith in
    rw (q, r) (omega arith)

-- what it makes of entries that are at most 1 in size is at most 1 in size
pub line_bounds : (f : ℕ → ℕ) (n : ℕ) → n ≤ 1073741824 → ((i : ℕ) → i < 1025 → (16777216 ≤ f i) × (f i ≤ 50331648)) → (16777216 ≤ line f n) × (line f n ≤ 50331648)
unfolding line
line_bounds f n h w =
    let p = n % 1048576 in
    let a = f (n / 1048576) in
    let b = f (next (n / 1048576)) in
    let i = w (n / 1048576) (omega arith) in
    let j = w (next (n / 1048576)) (omega arith) in
    let al = mul-le-mul_right (1048576 - p) i.0 in
    let ah = mul-le-mul_right (1048576 - p) i.1 in
    let bl = mul-le-mul_right p j.0 in
    let bh = mul-le-mul_right p j.1 in
    (omega (arith, al, bl), omega (arith, ah, bh))

-- ---- the reading by cases, and of two tables with the same entries
pub read_inside : (odd : Bool) (entry : ℕ → ℕ) (a : Float) → within a four ≡ true → read odd entry a ≡ turned (odd && negative a) (lowered (line entry (n a)))
unfolding read
read_inside odd entry a e = rw e

pub read_beyond : (odd : Bool) (entry : ℕ → ℕ) (a : Float) → within a four ≡ false → read odd entry a ≡ nan
unfolding read
read_beyond odd entry a e = rw e

pub read_same : (odd : Bool) (f g : ℕ → ℕ) (a : Float) → ((i : ℕ) → i < 1025 → f i ≡ g i) → read odd f a ≡ read odd g a
read_same odd f g a h = go (within a four) refl
  where
    go : (b : Bool) → within a four ≡ b → read odd f a ≡ read odd g a
    go true e = rw (read_inside odd f a e, read_inside odd g a e, line_same f g (n a) (small_angle a e).n_small h) refl
    go false e = rw (read_beyond odd f a e, read_beyond odd g a e) refl

-- ---- a table in memory that holds the entries of a definition, each at most 1 in size
pub holds_most : (entry : ℕ → ℕ) (table : List ℤ) → ((i : ℕ) → i ≤ 1024 → (16777216 ≤ entry i) × (entry i ≤ 50331648)) → Holds entry table → AtMostOne table
holds_most entry table b w = record { bounds = λ i h. rw (w.each i h) (b i (omega arith)) }

pub holds_sum : (odd : Bool) (entry : ℕ → ℕ) (table : List ℤ) (start : Float) (row : List Float) → Holds entry table → sum_of (read odd (entry_of table)) start row ≡ sum_of (read odd entry) start row
holds_sum odd entry table start row w = sum_same (read odd (entry_of table)) (read odd entry) start row row (length row) (λ i h. read_same odd (entry_of table) entry (slot row i) w.each)
