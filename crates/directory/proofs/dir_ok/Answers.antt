-- `directory::dir_ok` meets its contract.
use Rattle.directory.proofs.Tests.{dir-short, dir-cut, dir-rest}
use Rattle.big_endian.proofs.Tests.{tests}
use Rattle.directory.proofs.dir_ok.Goals as goal

pub returns-then-s-lt-COUNT_SIZE : goal.returns-then-s-lt-COUNT_SIZE
returns-then-s-lt-COUNT_SIZE c = search dir-short

pub returns-then-n-s : goal.returns-then-n-s
returns-then-n-s c = search dir-rest

pub returns-else-n-s : goal.returns-else-n-s
returns-else-n-s c = search (tests, dir-cut)
