-- Words that are stored one after the other; and that 129 of them are the log's summary. Assumes nothing.
use Rattle.std.specs.Prelude.{ℕ, suc, ◌+◌, ◌<◌, ◌≡◌, List, [], ◌∷◌, ◌++◌, length, get_or, set, take, drop}
use Rattle.std.proofs.Common.{sym, ap, ◌∙◌, append-nil, add-zero, add-one, arith, drop_of_length-le, take-suc, take_all, length-take-le}
use Rattle.std.proofs.lemmas.List.Edits.{sets, sets-eq}
use Rattle.buckets.specs.Summary.{counts_of}
use Rattle.buckets.specs.ReaderLaws.{length_counts}
use Rattle.summary.specs.Summarized.{summarized}
use Rattle.summary.specs.SummarizedLaws.{summary_held}

-- one word more, behind those
sets_behind : (vs l : List ℕ) (at a : ℕ) → set (sets l at vs) (at + length vs) a ≡ sets l at (vs ++ (a ∷ []))
sets_behind [] l at a = ap (λ (k : ℕ). set l k a) (add-zero at)
sets_behind (v ∷ vs) l at a =
    let k : at + suc (length vs) ≡ suc at + length vs = omega arith in
    ap (λ (k : ℕ). set (sets (set l at v) (suc at) vs) k a) k ∙ sets_behind vs (set l at v) (suc at) a

pub next_stored : (l b : List ℕ) (i : ℕ) → i < length b → set (sets l 0 (take i b)) i (get_or b i 0) ≡ sets l 0 (take (i + 1) b)
next_stored l b i h =
    let n : i ≡ 0 + length (take i b) = omega (arith, length-take-le i b (omega arith)) in
    ap (λ (k : ℕ). set (sets l 0 (take i b)) k (get_or b i 0)) n ∙ sets_behind (take i b) l 0 (get_or b i 0) ∙ ap (sets l 0) (sym (take-suc b i 0 h) ∙ ap (λ (k : ℕ). take k b) (sym (add-one i)))

pub last_stored : (l b : List ℕ) (r : ℕ) → length b ≡ 128 → set (sets l 0 (take 128 b)) 128 r ≡ sets l 0 (b ++ (r ∷ []))
last_stored l b r e =
    let n : 128 ≡ 0 + length b = omega (arith, e) in
    ap (λ (v : List ℕ). set (sets l 0 v) 128 r) (take_all 128 b (omega (arith, e))) ∙ ap (λ (k : ℕ). set (sets l 0 b) k r) n ∙ sets_behind b l 0 r

-- a row put in front, and one word behind it
pub row_stored : (w b : List ℕ) (r : ℕ) → length w ≡ 129 → length b ≡ 128 → set (b ++ drop 128 w) 128 r ≡ sets w 0 (b ++ (r ∷ []))
row_stored w b r e f =
    let n : 0 + length b ≡ 128 = omega (arith, f) in
    let h : sets w 0 b ≡ b ++ drop 128 w = sets-eq b w 0 (omega (arith, e, f)) ∙ ap (λ (k : ℕ). b ++ drop k w) n in
    ap (λ (l : List ℕ). set l 128 r) (sym h) ∙ ap (λ (k : ℕ). set (sets w 0 b) k r) (sym n) ∙ sets_behind b w 0 r

-- ---- 129 words are the log's summary, whatever they were
pub all_stored : (log words : List ℕ) → length words ≡ 129 → sets words 0 (counts_of (summarized log).left) ≡ counts_of (summarized log).left
all_stored log words e =
    let c = counts_of (summarized log).left in
    let n : length c ≡ 129 = length_counts (summarized log).left (summary_held log).full in
    sets-eq c words 0 (omega (arith, e, n)) ∙ ap (λ (d : List ℕ). c ++ d) (drop_of_length-le words {i = 0 + length c} (omega (arith, e, n))) ∙ append-nil c
