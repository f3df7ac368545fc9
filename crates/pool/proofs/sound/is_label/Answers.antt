-- The bits of the mask are the labels. Assumes nothing.
use Rattle.pool.proofs.Labels.{label_mask}
use Rattle.pool.proofs.sound.is_label.Goals as goal

pub returns : goal.returns
returns c = label_mask c.args.l
