-- A read puts its bytes behind those that were read before.
use Rattle.std.proofs.Common.{◌≡◌, ℕ, ◌+◌, ◌≤◌, List, ◌++◌, rules, arith, length, take, sym, ap, ◌∙◌, subst}
use Rattle.std.proofs.lemmas.List.{length-take-le, take-append-le}
use Rattle.std.proofs.Math.Seq.{take-append-add}
use Rattle.std.proofs.KnownBytes.{Consumes-trans}
use Rattle.std.specs.Io.KnownBytes.{Consumes}
use borrow.Rule.Slice.PartMut.{put_mid, post_of}
use Rattle.replay.proofs.read_log.Goals as goal

front_grows : (a k n : ℕ) (xs ys : List ℕ) → a ≤ length xs → n ≤ length ys → take (a + n) (put_mid a k xs ys) ≡ take a xs ++ take n ys
front_grows a k n xs ys within fits =
    let front : a + n ≡ length (take a xs) + n = omega (arith, length-take-le a xs within) in
    let after = post_of a k xs in
    ap (λ m. take m (put_mid a k xs ys)) front ∙ take-append-add (take a xs) (ys ++ after) n ∙ ap (λ l. take a xs ++ l) (take-append-le n ys after fits)

pub loop-used-preserved-in-Ok : goal.loop-used-preserved-in-Ok
loop-used-preserved-in-Ok g c =
    let before = c.loop-used in
    let within : before.used ≤ length before.log = search rules in
    let grown = front_grows before.used _ c.in-Ok.n before.log c.read.new.buf within c.in-Ok.ensures.bound.0 in
    (search rules, search rules, subst (Consumes _ _) (sym grown) (Consumes-trans _ _ _ _ _ before.invariant.2 c.in-Ok.ensures.bytes.0))
