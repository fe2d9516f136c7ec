use Rattle.replay.specs.Shown.{shown_summary}
use Rattle.replay.proofs.text_of.Goals as goal

pub returns : goal.returns
returns c = shown_summary _ _ _ _ c.requires c.list_summary.ensures
