use Rattle.std.proofs.Common.{ap}
use Rattle.pin_table.specs.Reader.{reader_view}
use Rattle.pin_table.specs.Table.{plan}
use Rattle.tz_lane.proofs.Erased.{told_erased, told_nothing, told_unlisted}
use Rattle.tz_lane.proofs.erasures.erase_held.Goals as goal

pub returns-in-Ok-clause-erases : goal.returns-in-Ok-clause-erases
returns-in-Ok-clause-erases g c =
    let reader = c.args.reader.now in let later = c.erase_after.new.self in
    let told = told_erased (plan reader.table.now) (plan later.table.now) reader.number c.args.handle.now (reader_view reader) (reader_view later)
    (ap plan c.erase_after.ensures.table) (c.erase_after.ensures.handles c.args.handle.now c.requires.made) c.in-Ok.erased c.requires.may c.in-Ok.ensures.erased in
    rw (c.number-n.ensures, c.slot-slot.ensures) (told.0)

pub returns-in-Ok-clause-answer : goal.returns-in-Ok-clause-answer
returns-in-Ok-clause-answer g c sources begun =
    let reader = c.args.reader.now in let later = c.erase_after.new.self in
    let told = told_erased (plan reader.table.now) (plan later.table.now) reader.number c.args.handle.now (reader_view reader) (reader_view later)
    (ap plan c.erase_after.ensures.table) (c.erase_after.ensures.handles c.args.handle.now c.requires.made) c.in-Ok.erased c.requires.may c.in-Ok.ensures.erased in
    rw (c.number-n.ensures, c.slot-slot.ensures) (told.1 sources begun)

pub returns-in-Err-Nothing-clause-erases : goal.returns-in-Err-Nothing-clause-erases
returns-in-Err-Nothing-clause-erases g c =
    let reader = c.args.reader.now in let later = c.erase_after.new.self in
    let told = told_nothing (plan reader.table.now) (plan later.table.now) reader.number c.args.handle.now (reader_view reader) (reader_view later)
    (ap plan c.erase_after.ensures.table) (c.erase_after.ensures.handles c.args.handle.now c.requires.made) c.in-Err-Nothing.w (rw c.in-Err-Nothing.field-0-is at c.in-Err-Nothing.ensures.erased) in
    rw (c.number-n.ensures, c.slot-slot.ensures) (told.0)

pub returns-in-Err-Nothing-clause-answer : goal.returns-in-Err-Nothing-clause-answer
returns-in-Err-Nothing-clause-answer g c sources begun =
    let reader = c.args.reader.now in let later = c.erase_after.new.self in
    let told = told_nothing (plan reader.table.now) (plan later.table.now) reader.number c.args.handle.now (reader_view reader) (reader_view later)
    (ap plan c.erase_after.ensures.table) (c.erase_after.ensures.handles c.args.handle.now c.requires.made) c.in-Err-Nothing.w (rw c.in-Err-Nothing.field-0-is at c.in-Err-Nothing.ensures.erased) in
    rw (c.number-n.ensures, c.slot-slot.ensures) (told.1 sources begun)

pub returns-in-Err-NotListed-clause-erases : goal.returns-in-Err-NotListed-clause-erases
returns-in-Err-NotListed-clause-erases g c =
    let reader = c.args.reader.now in let later = c.erase_after.new.self in
    let told = told_unlisted (plan reader.table.now) (plan later.table.now) reader.number c.args.handle.now (reader_view reader) (reader_view later)
    (ap plan c.erase_after.ensures.table) (c.erase_after.ensures.handles c.args.handle.now c.requires.made) c.in-Err-NotListed.w (rw c.in-Err-NotListed.field-0-is at c.in-Err-NotListed.ensures.erased) in
    rw (c.number-n.ensures, c.slot-slot.ensures) (told.0)

pub returns-in-Err-NotListed-clause-answer : goal.returns-in-Err-NotListed-clause-answer
returns-in-Err-NotListed-clause-answer g c sources begun =
    let reader = c.args.reader.now in let later = c.erase_after.new.self in
    let told = told_unlisted (plan reader.table.now) (plan later.table.now) reader.number c.args.handle.now (reader_view reader) (reader_view later)
    (ap plan c.erase_after.ensures.table) (c.erase_after.ensures.handles c.args.handle.now c.requires.made) c.in-Err-NotListed.w (rw c.in-Err-NotListed.field-0-is at c.in-Err-NotListed.ensures.erased) in
    rw (c.number-n.ensures, c.slot-slot.ensures) (told.1 sources begun)
