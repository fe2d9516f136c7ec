-- The words that it does not write are those that the filter would write there.
use Rattle.std.proofs.Common.{[], ◌∷◌, get_or}
use Rattle.std.specs.Float.{nan}
use Rattle.words.specs.Words.{flag, word}
use Rattle.words.specs.Filter.{loaded, numbers_of, counts_of}
use Rattle.words.specs.Alone.{kept, put, alone}
use Rattle.words.proofs.channels.BiasStoredUnitNUMBERSCOUNTS.store.Goals as goal

pub returns : goal.returns
returns c =
    let x = c.args in
    let s = x.self in
    let k = x.c.now in
    let f = loaded x.n.now k in (
      alone nan x.n.now (numbers_of f) (kept ∷ kept ∷ kept ∷ kept ∷ kept ∷ put s.x.x ∷ put s.y.x ∷ kept ∷ kept ∷ kept ∷ kept ∷ kept ∷ put s.x.p ∷ put s.y.p ∷ []),
      alone 0 k (counts_of f) (kept ∷ kept ∷ kept ∷ kept ∷ kept ∷ kept ∷ kept ∷ put (word (flag (get_or k 7 0))) ∷ put (word (flag (get_or k 8 0))) ∷ []),
    )
