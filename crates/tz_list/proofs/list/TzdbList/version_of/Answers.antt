use Rattle.std.proofs.Common.{Err, ap}
use Rattle.pin_table.specs.Table.{plan}
use Rattle.tz_list.proofs.Errors.{leaps_are_accepted, lacks_version}
use Rattle.tz_list.proofs.list.TzdbList.version_of.Goals as goal

pub error_of_make-requires : goal.error_of_make-requires
error_of_make-requires c = λ fault is.
    leaps_are_accepted c.args.self.now.sources (plan c.args.self.now.table).first fault c.args.self.now.first
    ((c.in-Err.ensures.leaps fault (λ never. cc)).0 (ap Err is))

pub returns-clause-refused : goal.returns-clause-refused
returns-clause-refused c = lacks_version c.args.self.now.sources c.args.src c.in-Err.error c.error_of_make.result
    (λ fault is. leaps_are_accepted c.args.self.now.sources (plan c.args.self.now.table).first fault c.args.self.now.first ((c.in-Err.ensures.leaps fault (λ never. cc)).0 (ap Err is)))
    c.error_of_make.ensures.memory c.error_of_make.ensures.text c.in-Err.ensures.text
