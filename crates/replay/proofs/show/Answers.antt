-- The buffer is as long as it was made, and the listing is within it.
use Rattle.std.proofs.Common.{ℕ, sym}
use Rattle.std.proofs.lemmas.List.{length-replicate, length-take-le}
use Rattle.replay.proofs.show.Goals as goal

pub slice_bounds-listing_of-end : goal.slice_bounds-listing_of-end
slice_bounds-listing_of-end g c = sym (length-replicate {A = ℕ} 524288 0)

pub listing_of-used-requires : goal.listing_of-used-requires
listing_of-used-requires g c = (c.requires, length-replicate {A = ℕ} 524288 0)

pub slice_bounds-text-end : goal.slice_bounds-text-end
slice_bounds-text-end g c = c.listing_of-used.ensures.fits

pub slice_bounds-put-end : goal.slice_bounds-put-end
slice_bounds-put-end g c = sym (length-take-le _ _ c.listing_of-used.ensures.fits)
