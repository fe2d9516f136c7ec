use Rattle.replay.specs.Shown.{shown}
use Rattle.replay.proofs.listing_of.Goals as goal

pub returns : goal.returns
returns c = shown _ _ _ _ c.requires.0 c.requires.1 c.list.ensures
