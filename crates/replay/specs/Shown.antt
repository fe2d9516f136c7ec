-- The program's buffers hold the whole listing of every log of at most 65,536 bytes, and the whole text of every summary. Assumes nothing.
use Rattle.std.specs.Prelude.{ℕ, ◌≤◌, ◌≡◌, List, ◌++◌, length, drop}
use Rattle.std.proofs.Common.{ap, arith, le-leb, length-append}
use Rattle.lent_bytes.specs.Wrote.{Wrote, whole, same_size}
use Rattle.buckets.specs.declared.Summary.{Summary}
use Rattle.listing.specs.Listing.{listing, room, listed}
use Rattle.listing.specs.Room.{spare, program_fits}
use Rattle.listing.specs.SummaryText.{summary_text}
use Rattle.listing.specs.SummaryLaws.{summary_most}

pub record Shown (log old out : List ℕ) (r : ℕ) : Type 0 where
  pub size : r ≡ length (listing log)
  pub bytes : out ≡ listing log ++ drop (length (listing log)) old
  pub fits : r ≤ length out

pub shown : (log old out : List ℕ) (r : ℕ) → length log ≤ 65536 → length old ≡ 524288 → (r, out) ≡ listed log old → Shown log old out r
unfolding listed
shown log old out r h k e =
    let p = program_fits (length log) h in
    let s = spare log in
    let d = rw (le-leb (room (length log)) (length old) (omega arith)) at e in
    let z : r ≡ length (listing log) = ap (λ q. q.0) d in
    let b : out ≡ listing log ++ drop (length (listing log)) old = ap (λ q. q.1) d in
    record { size = z; bytes = b; fits = rw (b, length-append) (omega arith) }

-- ---- a summary
pub record ShownSummary (summary : Summary) (old out : List ℕ) (r : ℕ) : Type 0 where
  pub size : r ≡ length (summary_text summary)
  pub bytes : out ≡ summary_text summary ++ drop (length (summary_text summary)) old
  pub fits : r ≤ length out

pub shown_summary : (summary : Summary) (old out : List ℕ) (r : ℕ) → length old ≡ 4096 → Wrote old 0 (summary_text summary) out r → ShownSummary summary old out r
shown_summary summary old out r k w =
    let m = summary_most summary in
    let p = whole w (omega arith) in
    record { size = p.1; bytes = p.0; fits = omega (arith, p.1, same_size w) }
