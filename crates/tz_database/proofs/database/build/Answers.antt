use Rattle.tz_database.proofs.database.build.Goals as goal

pub whole_fault-requires-clause-reached : goal.whole_fault-requires-clause-reached
whole_fault-requires-clause-reached c =
    rw c.deref-2.ensures.value (rw (c.as_slice-3.ensures, c.as_slice-4.ensures) at (c.in_ok-reached.ensures c.args.parts.names))

pub settle-requires-clause-reached : goal.settle-requires-clause-reached
settle-requires-clause-reached c =
    rw c.deref-in-None-2.ensures.value (rw (c.as_slice-3.ensures, c.as_slice-4.ensures) at (c.in_ok-reached.ensures c.args.parts.names))
