use Rattle.std.proofs.Common.{◌≡◌, ℕ, List, inl, inr, refl, subst}
use Rattle.tz_words.specs.Command.{batch_meant, words_of}
use Rattle.tz_words.specs.declared.status.Status.{Status}
use Rattle.tz_words.specs.declared.status.Status.TheVariants as statuses
use Rattle.tz_words.proofs.BatchWords.{one_batch}
use Rattle.tz_cli.specs.Outcome.{IsDue, Prints}
use Rattle.tz_cli.proofs.Outputs.{prints_as, due_at}
use Rattle.tz_top.specs.Due.{IsBatchDue, IsDueOfAny}
use Rattle.tz_top.proofs.Due.{printed_since, outcome_due, one_batch_due, accepted_due}
use Rattle.tz_top.proofs.top.run.Goals as goal

pub unreachable-requires : goal.unreachable-requires
unreachable-requires g c =
    let batch = (c.run_plain.ensures.shared).0 c.in-Shared.is in
    c.in-None.ensures.none refl batch.0 batch.1

pub returns-in-Done-clause-due : goal.returns-in-Done-clause-due
returns-in-Done-clause-due g c =
    let words = words_of c.args.words.now in
    let before = g.F.Files.state c.args.files.now in
    let after = g.F.Files.state c.run_plain.new.files in
    prints_as (IsDue words before after) (IsDueOfAny words before after) c.in-Done.status (g.S.Sink.state c.args.sink.now) (g.S.Sink.state c.run_plain.new.sink) (λ (status : Status) (line : List ℕ) due. inr due) (c.run_plain.ensures.due c.in-Done.status c.in-Done.is)

pub returns-in-Some-clause-due : goal.returns-in-Some-clause-due
returns-in-Some-clause-due g c =
    let words = words_of c.args.words.now in
    let before = g.F.Files.state c.args.files.now in
    let after = g.F.Files.state c.run_batch.new.files in
    let had = g.S.Sink.state c.args.sink.now in
    let has = g.S.Sink.state c.run_batch.new.sink in
    let batch = batch_meant c.in-Some.line in
    let printed = printed_since batch batch before (g.F.Files.state c.run_plain.new.files) after had (g.S.Sink.state c.run_plain.new.sink) has c.run_batch.result refl (c.run_plain.ensures.unread c.in-Shared.is) (c.run_plain.ensures.unwritten c.in-Shared.is) c.run_batch.ensures.due in
    prints_as (IsBatchDue batch before after) (IsDueOfAny words before after) c.run_batch.result had has (λ (status : Status) (line : List ℕ) due. inl (batch, c.in-Some.ensures.some, due)) printed

pub returns-in-Some-clause-batch : goal.returns-in-Some-clause-batch
returns-in-Some-clause-batch g c = λ batch is ok.
    let before = g.F.Files.state c.args.files.now in
    let after = g.F.Files.state c.run_batch.new.files in
    let had = g.S.Sink.state c.args.sink.now in
    let has = g.S.Sink.state c.run_batch.new.sink in
    let meant = batch_meant c.in-Some.line in
    let same : meant ≡ batch = one_batch (words_of c.args.words.now) meant batch c.in-Some.ensures.some is in
    let printed = printed_since batch meant before (g.F.Files.state c.run_plain.new.files) after had (g.S.Sink.state c.run_plain.new.sink) has c.run_batch.result same (c.run_plain.ensures.unread c.in-Shared.is) (c.run_plain.ensures.unwritten c.in-Shared.is) c.run_batch.ensures.due in
    let whole = subst (λ (status : Status). Prints (IsBatchDue batch before after) status had has) ok printed in
    outcome_due batch before after whole.0 had has whole.1 whole.2

pub returns-in-Some-clause-exact_batch : goal.returns-in-Some-clause-exact_batch
returns-in-Some-clause-exact_batch g c = λ batch contents status line is holds answer fine no_fault.
    let before = g.F.Files.state c.args.files.now in
    let after = g.F.Files.state c.run_batch.new.files in
    let had = g.S.Sink.state c.args.sink.now in
    let has = g.S.Sink.state c.run_batch.new.sink in
    let meant = batch_meant c.in-Some.line in
    let same : meant ≡ batch = one_batch (words_of c.args.words.now) meant batch c.in-Some.ensures.some is in
    let printed = printed_since batch meant before (g.F.Files.state c.run_plain.new.files) after had (g.S.Sink.state c.run_plain.new.sink) has c.run_batch.result same (c.run_plain.ensures.unread c.in-Shared.is) (c.run_plain.ensures.unwritten c.in-Shared.is) c.run_batch.ensures.due in
    let due = due_at (IsBatchDue batch before after) c.run_batch.result had has no_fault printed in
    one_batch_due batch before after contents status c.run_batch.result line due.0 holds answer fine due.1

pub returns-in-Some-clause-complete : goal.returns-in-Some-clause-complete
returns-in-Some-clause-complete g c = λ batch contents is holds accepted fine no_fault.
    let before = g.F.Files.state c.args.files.now in
    let after = g.F.Files.state c.run_batch.new.files in
    let had = g.S.Sink.state c.args.sink.now in
    let has = g.S.Sink.state c.run_batch.new.sink in
    let meant = batch_meant c.in-Some.line in
    let same : meant ≡ batch = one_batch (words_of c.args.words.now) meant batch c.in-Some.ensures.some is in
    let printed = printed_since batch meant before (g.F.Files.state c.run_plain.new.files) after had (g.S.Sink.state c.run_plain.new.sink) has c.run_batch.result same (c.run_plain.ensures.unread c.in-Shared.is) (c.run_plain.ensures.unwritten c.in-Shared.is) c.run_batch.ensures.due in
    let due = due_at (IsBatchDue batch before after) c.run_batch.result had has no_fault printed in
    accepted_due batch before after contents c.run_batch.result due.0 holds accepted fine due.1

pub returns-in-Done-clause-exact : goal.returns-in-Done-clause-exact
returns-in-Done-clause-exact g c = λ command contents status line is holds answer fine no_fault.
    elim (c.run_plain.ensures.exact command contents status line is holds answer fine no_fault) [
      | inl ended ↦ let same : c.in-Done.status ≡ status = cc in inl same
      | inr ended ↦ let same : c.in-Done.status ≡ statuses.Memory = cc in inr same
    ]
