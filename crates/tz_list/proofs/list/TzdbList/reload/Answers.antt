use Rattle.std.proofs.Common.{Ok, Err, ap}
use Rattle.std.proofs.lemmas.Result.{err_from_is_err_and}
use Rattle.pin_table.specs.Reader.{reader_view}
use Rattle.pin_table.specs.Table.{plan}
use Rattle.tz_list.proofs.Errors.{exact_lack, not_both}
use Rattle.tz_list.proofs.ReloadLemmas.{pushes_source, reloads_refused, not_refused}
use Rattle.tz_list.proofs.list.TzdbList.reload.Goals as goal

pub returns-in_err-version-clause-text : goal.returns-in_err-version-clause-text
returns-in_err-version-clause-text g c =
    let gone = err_from_is_err_and c.from_residual.result c.from_residual.ensures.1 in
    rw (gone.1, gone.2) (λ fault some. exact_lack c.args.self.now.sources c.args.src c.in_err-version.field-0.0 fault c.in_err-version.ensures.refused some)

pub returns-in-Ok-push-clause-reloads : goal.returns-in-Ok-push-clause-reloads
returns-in-Ok-push-clause-reloads g c = pushes_source (plan c.args.self.now.table) (plan c.args.reader.now.table.now) c.args.self.now.sources c.args.src c.args.reader.now.number
    (reader_view c.args.reader.now) (reader_view c.push.new.self) c.in-Ok.copies.version c.in_ok-version.version.value (Ok c.in-Ok-push.pushed)
    (ap plan c.requires.of_list) (ap (λ s. s.version) c.in-Ok.ensures) c.in_ok-version.ensures.ok c.in-Ok-push.ensures.pushed

pub returns-in-Ok-push-clause-text : goal.returns-in-Ok-push-clause-text
returns-in-Ok-push-clause-text g c = λ fault some.
    ((λ never. cc), (λ refused. absurd (not_both c.args.self.now.sources c.args.src c.in_ok-version.version.value fault c.in_ok-version.ensures.ok refused)))

pub returns-in-Err-clause-reloads : goal.returns-in-Err-clause-reloads
returns-in-Err-clause-reloads g c = reloads_refused (plan c.args.self.now.table) c.args.self.now.sources c.args.src c.args.reader.now.number
    (reader_view c.args.reader.now) (reader_view c.push.new.self) c.in-Err.refused.why c.error_of_push.result
    c.error_of_push.ensures.same c.error_of_push.ensures.journal_full c.error_of_push.ensures.full
    (pushes_source (plan c.args.self.now.table) (plan c.args.reader.now.table.now) c.args.self.now.sources c.args.src c.args.reader.now.number
    (reader_view c.args.reader.now) (reader_view c.push.new.self) c.in-Ok.copies.version c.in_ok-version.version.value (Err c.in-Err.refused.why)
    (ap plan c.requires.of_list) (ap (λ s. s.version) c.in-Ok.ensures) c.in_ok-version.ensures.ok c.in-Err.ensures.refused)

pub returns-in-Err-clause-text : goal.returns-in-Err-clause-text
returns-in-Err-clause-text g c = λ fault some. not_refused (plan c.args.self.now.table) c.args.self.now.sources c.args.src c.args.reader.now.number
    (reader_view c.args.reader.now) (reader_view c.push.new.self) c.in-Err.refused.why c.error_of_push.result fault
    c.error_of_push.ensures.same c.error_of_push.ensures.journal_full c.error_of_push.ensures.full
    (pushes_source (plan c.args.self.now.table) (plan c.args.reader.now.table.now) c.args.self.now.sources c.args.src c.args.reader.now.number
    (reader_view c.args.reader.now) (reader_view c.push.new.self) c.in-Ok.copies.version c.in_ok-version.version.value (Err c.in-Err.refused.why)
    (ap plan c.requires.of_list) (ap (λ s. s.version) c.in-Ok.ensures) c.in_ok-version.ensures.ok c.in-Err.ensures.refused)
