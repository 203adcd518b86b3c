use Rattle.block_marked.proofs.Scan.{none-shown}
use Rattle.block_marked.proofs.nothing_shown.Goals as goal

pub returns : goal.returns
returns c = none-shown
