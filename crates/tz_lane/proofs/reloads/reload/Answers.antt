use Rattle.std.proofs.Common.{ap, arith}
use Rattle.pin_table.specs.Reader.{reader_view}
use Rattle.pin_table.specs.Table.{plan}
use Rattle.tz_lane.proofs.Reloaded.{told_same, told_full, told_pushed}
use Rattle.tz_lane.proofs.reloads.reload.Goals as goal

pub returns-in-Ok-clause-reloads : goal.returns-in-Ok-clause-reloads
returns-in-Ok-clause-reloads g c =
    let list = c.args.list.now in let reader = c.args.reader.now in let least = list.table.sizes.some_slots in
    told_pushed (plan reader.table.now) (plan list.table) list.sources c.args.src reader.number (reader_view reader) (reader_view c.reload.new.reader)
    (ap plan c.requires.of_list) (omega arith) list.home c.in-Ok.pushed c.requires.may c.in-Ok.ensures.reloads

pub returns-in-Err-Same-clause-reloads : goal.returns-in-Err-Same-clause-reloads
returns-in-Err-Same-clause-reloads g c =
    let list = c.args.list.now in let reader = c.args.reader.now in let least = list.table.sizes.some_slots in
    told_same (plan reader.table.now) (plan list.table) list.sources c.args.src reader.number (reader_view reader) (reader_view c.reload.new.reader)
    (ap plan c.requires.of_list) (omega arith) list.home c.in-Err-Same.w c.in-Err-Same.n (rw c.in-Err-Same.field-0-is at c.in-Err-Same.ensures.reloads)

pub returns-in-Err-Full-clause-reloads : goal.returns-in-Err-Full-clause-reloads
returns-in-Err-Full-clause-reloads g c =
    let list = c.args.list.now in let reader = c.args.reader.now in let least = list.table.sizes.some_slots in
    told_full (plan reader.table.now) (plan list.table) list.sources c.args.src reader.number (reader_view reader) (reader_view c.reload.new.reader)
    (ap plan c.requires.of_list) (omega arith) list.home c.in-Err-Full.w (rw c.in-Err-Full.field-0-is at c.in-Err-Full.ensures.reloads)
