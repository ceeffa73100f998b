-- What stands before place 8, one by one (take_up_to). Assumes nothing.
use Rattle.std.proofs.Common.{◌∙◌, arith}
use Rattle.listing.proofs.Sections.{take_up_to}
use Rattle.hindsight_run.proofs.first_settings.Goals as goal

pub returns : goal.returns
returns c = c.copy_from_slice.ensures.after ∙ take_up_to c.args.all.now 0 8 (omega arith)
