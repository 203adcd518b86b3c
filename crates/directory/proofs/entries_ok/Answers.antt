use Rattle.directory.proofs.Tests.{entries-no, entries-yes, entries-end}
use Rattle.directory.proofs.entries_ok.Goals as goal

pub returns-then-not-record_ok : goal.returns-then-not-record_ok
returns-then-not-record_ok c = search entries-no

pub loop-i-preserved : goal.loop-i-preserved
loop-i-preserved c = search entries-yes

pub returns : goal.returns
returns c = search entries-end
