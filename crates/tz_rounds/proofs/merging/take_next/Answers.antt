-- The top of a stack is the next reply.
use Rattle.tz_rounds.proofs.Merged.{next_taken}
use Rattle.tz_rounds.proofs.merging.take_next.Goals as goal

pub returns : goal.returns
returns c =
    next_taken c.args.place c.args.stacks.now.items c.index_mut.result.now c.pop.new.self c.in-Some.reply c.requires c.index_mut.ensures.value c.in-Some.ensures.items
