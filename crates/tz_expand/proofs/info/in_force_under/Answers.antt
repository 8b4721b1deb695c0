use Rattle.std.proofs.Common.{◌≡◌, get_or}
use Rattle.tz_expand.proofs.Told.{standard_is}
use Rattle.tz_expand.proofs.Lines.{state_taken, state_none, taken_within}
use Rattle.tz_expand.proofs.info.in_force_under.Goals as goal

pub returns-in-Some : goal.returns-in-Some
returns-in-Some c = λ t is.
    let set = c.args.set.now in
    let taken = rw c.in-Some.is at is in
    let rule = c.index-as_slice-taken.result in
    let read : rule ≡ get_or set.rules c.in-Some.taken.rule rule = rw c.as_slice.ensures at c.index-as_slice-taken.is in
    state_taken set c.args.line.now t c.in-Some.taken rule c.put_by.result c.requires.follows taken (taken_within set c.args.line.now.stdoff t c.in-Some.taken taken) read c.put_by.ensures

pub returns-in-None : goal.returns-in-None
returns-in-None c = λ t is.
    let none = rw c.in-None.is at is in
    state_none c.args.set.now c.args.line.now t c.standard.result c.requires.follows none (standard_is c.args.line.now c.args.set.now c.standard.result c.requires.follows c.standard.ensures)
