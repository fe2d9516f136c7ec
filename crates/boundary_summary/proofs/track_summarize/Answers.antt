use Rattle.std.proofs.Common.{◌≡◌, ℕ, List, [], ◌∷◌, ◌++◌, length, take, drop, ap, sym, ◌∙◌, arith, length-take-le}
use Rattle.std.proofs.lemmas.List.Edits.{sets}
use Rattle.std.proofs.Math.ListN.{set}
use Rattle.verdicts.specs.Run.{stop_in, ends, Finished}
use Rattle.verdicts.specs.declared.Finish.{Finish}
use Rattle.buckets.specs.Summary.{counts_of}
use Rattle.buckets.specs.declared.Summary.{Summary}
use Rattle.boundary_summary.specs.Stored.{row_stored}
use Rattle.boundary_summary.proofs.track_summarize.Goals as goal

-- the row of buckets and the rejected behind it are the counts of what is left
counts_stored :
    (w b : List ℕ) (f : Finish Summary) (g : Finished Summary) → length w ≡ 129 → length b ≡ length (take 128 w) → b ≡ f.left.buckets → ends f ≡ g
    → set (b ++ drop 128 w) 128 f.left.rejected ≡ sets w 0 (counts_of g.left)
counts_stored w b f g n m e h =
    let k : length b ≡ 128 = m ∙ length-take-le 128 w (omega (arith, n)) in
    row_stored w b f.left.rejected n k ∙ ap (λ (l : List ℕ). sets w 0 (l ++ (f.left.rejected ∷ []))) e ∙ ap (λ (q : Finished Summary). sets w 0 (counts_of q.left)) h

pub returns-in-Some : goal.returns-in-Some
returns-in-Some c =
    let s = c.summarize-end in
    let b = c.copy_from_slice in (
      c.from.ensures ∙ sym (ap stop_in c.in-Some.is) ∙ ap (λ (q : Finished Summary). q.stop) s.ensures,
      counts_stored c.args.summary.now b.new.self s.result _ c.told-summary b.ensures.len b.ensures.after s.ensures,
    )

pub returns-in-None : goal.returns-in-None
returns-in-None c =
    let s = c.summarize-end in
    let b = c.copy_from_slice in (
      sym (ap stop_in c.in-None.is) ∙ ap (λ (q : Finished Summary). q.stop) s.ensures,
      counts_stored c.args.summary.now b.new.self s.result _ c.told-summary b.ensures.len b.ensures.after s.ensures,
    )
