-- `answer_one` meets its contract.
use Rattle.model.specs.Build.{build}
use Rattle.query_numbers.proofs.Answering as A
use Rattle.query_numbers.proofs.answer_one.Goals as goal

pub reply-r-requires : goal.reply-r-requires
reply-r-requires c = c.requires.0

pub put-requires : goal.put-requires
put-requires c = (c.requires.2, c.reply-r.ensures.fits)

pub returns : goal.returns
returns c = A.one-answered (build c.args.book.now c.args.pack.now) _ _ _ _ c.reply-r.result (record { sfits = c.reply-arg-1.given }) (record { sfits = c.reply-arg-2-1.given }) (record { sfits = c.reply-arg-3-1.given }) (record { sfits = c.reply-arg-4-1.given }) (record { sfits = c.reply-arg-5-1.given }) c.reply-r.ensures c.put.ensures
