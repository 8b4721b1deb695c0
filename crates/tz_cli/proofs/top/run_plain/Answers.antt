use Rattle.std.proofs.Common.{◌≡◌, ℕ, List, codes, inl, inr, refl, ap, subst, ⊎_elim, rules}
use Rattle.tz_words.specs.Command.{Command, IsNoCommand, meant, words_of}
use Rattle.tz_words.specs.declared.status.Status.{Status}
use Rattle.tz_words.specs.declared.status.Status.TheVariants as statuses
use Rattle.tz_cli.specs.Outcome.{IsDueFor, IsDue, Prints, Exactly}
use Rattle.tz_cli.specs.declared.top.Plain.TheVariants.{Done}
use Rattle.tz_cli.proofs.Once.{one_command}
use Rattle.tz_cli.proofs.Due.{for_words, one_due}
use Rattle.tz_cli.proofs.Outputs.{prints_as, due_at}
use Rattle.tz_cli.proofs.top.run_plain.Goals as goal

pub returns-in-Some-clause-due : goal.returns-in-Some-clause-due
returns-in-Some-clause-due g c = λ status is.
    let words = words_of c.args.words.now in
    let command = meant c.in-Some.command in
    let before = g.F.Files.state c.args.files.now in
    let after = g.F.Files.state c.run_command.new.files in
    let had = g.S.Sink.state c.args.sink.now in
    let has = g.S.Sink.state c.run_command.new.sink in
    let ended : c.run_command.result ≡ status = cc in
    let printed = subst (λ (status : Status). Prints (IsDueFor command before after) status had has) ended c.run_command.ensures.due in
    prints_as (IsDueFor command before after) (IsDue words before after) status had has (λ status line due. for_words words before after command status line c.in-Some.ensures.some due) printed

pub returns-in-None-clause-due : goal.returns-in-None-clause-due
returns-in-None-clause-due g c = λ status is.
    let words = words_of c.args.words.now in
    let files = g.F.Files.state c.args.files.now in
    let had = g.S.Sink.state c.args.sink.now in
    let has = g.S.Sink.state c.print.new.sink in
    let ended : c.print.result ≡ status = cc in
    let none : IsNoCommand words = record { other = c.in-None.ensures.none (search rules); no_batch = c.new.ensures.none (search rules) } in
    let usage : IsDue words files files statuses.Usage (codes "usage\n") = (none, refl) in
    let printed = subst (λ (status : Status). Prints (Exactly statuses.Usage (codes "usage\n")) status had has) ended c.print.ensures in
    prints_as (Exactly statuses.Usage (codes "usage\n")) (IsDue words files files) status had has (λ (at : Status) (line : List ℕ) exactly. rw (exactly.0, exactly.1) usage) printed

pub returns-in-None-clause-usage : goal.returns-in-None-clause-usage
returns-in-None-clause-usage g c = λ is.
    record { other = c.in-None.ensures.none (search rules); no_batch = c.new.ensures.none (search rules) }

pub returns-in-None-clause-shared : goal.returns-in-None-clause-shared
returns-in-None-clause-shared g c = (
  λ same. cc,
  λ batch. absurd (c.new.ensures.none (search rules) batch.0 batch.1),
)

pub returns-in-Some-clause-exact : goal.returns-in-Some-clause-exact
returns-in-Some-clause-exact g c = λ command contents status line is holds answer no_fault fine.
    let before = g.F.Files.state c.args.files.now in
    let after = g.F.Files.state c.run_command.new.files in
    let ended = c.run_command.result in
    let due = due_at (IsDueFor (meant c.in-Some.command) before after) ended (g.S.Sink.state c.args.sink.now) (g.S.Sink.state c.run_command.new.sink) fine c.run_command.ensures.due in
    let same = one_command (words_of c.args.words.now) (meant c.in-Some.command) command c.in-Some.ensures.some is in
    let here = subst (λ (command : Command). IsDueFor command before after ended due.0) same due.1 in
    ⊎_elim (λ (e : ended ≡ status). inl (ap Done e)) (λ (e : ended ≡ statuses.Memory). inr (ap Done e)) (one_due command before after contents status ended line due.0 holds answer no_fault here)
