use Rattle.std.proofs.Common.{◌≡◌, length, Ok, Err, ap, ◌∙◌, rules, FitsSigned, arith}
use Rattle.std.specs.Int.{w32, w64}
use Rattle.std.proofs.lemmas.Int.{to_z-of_z}
use Rattle.tz_types.specs.Source.{bytes_together}
use Rattle.tz_words.specs.Command.{named}
use Rattle.tz_cli.specs.Lookup.{InfoAnswers, LocalAnswers}
use Rattle.tz_cli.specs.Moves.{MovesAnswers}
use Rattle.tz_cli.specs.Days.{DaysAnswers}
use Rattle.tz_cli.specs.Tzif.{TzifAnswers}
use Rattle.tz_cli.specs.Dump.{DumpAnswers, asked_for}
use Rattle.tz_cli.specs.Check.{CheckAnswers}
use Rattle.tz_cli.specs.Output.{as_output}
use Rattle.tz_cli.specs.declared.output.Output.TheVariants.{Zones}
use Rattle.tz_cli.proofs.Contents.{concat_long}
use Rattle.tz_cli.proofs.Outputs.{gives_line, over_source}
use Rattle.tz_cli.proofs.top.answer_over.Goals as goal

pub returns-in-Info-clause-answers : goal.returns-in-Info-clause-answers
returns-in-Info-clause-answers c =
    let fits : FitsSigned w64 c.in-Info.instant = search rules in
    let given = simp to_z-of_z at (rw c.as_bytes.ensures.value at c.info.ensures.answers) in
    rw c.in-Info.is (over_source (named c.in-Info.text) c.args.contents c.source.result (λ source. InfoAnswers source c.in-Info.zone.now c.in-Info.instant) c.info.result c.source.ensures given)

pub returns-in-Local-clause-answers : goal.returns-in-Local-clause-answers
returns-in-Local-clause-answers c =
    let fits : FitsSigned w64 c.in-Local.time = search rules in
    let given = simp to_z-of_z at (rw c.as_bytes-in-Local.ensures.value at c.local.ensures.answers) in
    rw c.in-Local.is (over_source (named c.in-Local.text) c.args.contents c.source-in-Local.result (λ source. LocalAnswers source c.in-Local.zone.now c.in-Local.time c.in-Local.choice) c.local.result c.source-in-Local.ensures given)

pub returns-in-Moves-clause-answers : goal.returns-in-Moves-clause-answers
returns-in-Moves-clause-answers c =
    let from_fits : FitsSigned w64 c.in-Moves.from = search rules in
    let to_fits : FitsSigned w64 c.in-Moves.to = search rules in
    let given = simp to_z-of_z at (rw c.as_bytes-in-Moves.ensures.value at c.moves.ensures) in
    rw (c.line.ensures, c.in-Moves.is) (over_source (named c.in-Moves.text) c.args.contents c.source-in-Moves.result (λ source. MovesAnswers source c.in-Moves.zone.now c.in-Moves.from c.in-Moves.to) (as_output c.moves.result) c.source-in-Moves.ensures (gives_line (MovesAnswers c.source-in-Moves.result c.in-Moves.zone.now c.in-Moves.from c.in-Moves.to) c.moves.result given))

pub returns-in-Days-clause-answers : goal.returns-in-Days-clause-answers
returns-in-Days-clause-answers c =
    let fits : FitsSigned w64 c.in-Days.first = search rules in
    let given = simp to_z-of_z at (rw c.as_bytes-in-Days.ensures.value at c.days.ensures) in
    rw (c.line-in-Days.ensures, c.in-Days.is) (over_source (named c.in-Days.text) c.args.contents c.source-in-Days.result (λ source. DaysAnswers source c.in-Days.zone.now c.in-Days.first c.in-Days.count) (as_output c.days.result) c.source-in-Days.ensures (gives_line (DaysAnswers c.source-in-Days.result c.in-Days.zone.now c.in-Days.first c.in-Days.count) c.days.result given))

pub returns-in-Tzif-clause-answers : goal.returns-in-Tzif-clause-answers
returns-in-Tzif-clause-answers c =
    let first_fits : FitsSigned w32 c.in-Tzif.first = search rules in
    let last_fits : FitsSigned w32 c.in-Tzif.last = search rules in
    let given = simp to_z-of_z at (rw c.as_bytes-in-Tzif.ensures.value at c.tzif.ensures) in
    rw (c.line-in-Tzif.ensures, c.in-Tzif.is) (over_source (named c.in-Tzif.text) c.args.contents c.source-in-Tzif.result (λ source. TzifAnswers source c.in-Tzif.zone.now c.in-Tzif.first c.in-Tzif.last) (as_output c.tzif.result) c.source-in-Tzif.ensures (gives_line (TzifAnswers c.source-in-Tzif.result c.in-Tzif.zone.now c.in-Tzif.first c.in-Tzif.last) c.tzif.result given))

pub returns-in-Ok-clause-answers : goal.returns-in-Ok-clause-answers
returns-in-Ok-clause-answers c =
    let from_fits : FitsSigned w64 c.in-Dump.from = search rules in
    let to_fits : FitsSigned w64 c.in-Dump.to = search rules in
    let given = simp to_z-of_z at (rw c.as_bytes-in-Dump.ensures.value at c.in-Ok.ensures.ok) in
    rw c.in-Dump.is (over_source (named c.in-Dump.text) c.args.contents c.source-in-Dump.result (λ source. DumpAnswers source c.in-Dump.from c.in-Dump.to (asked_for c.in-Dump.zone.now)) (Ok (Zones c.in-Ok.dump)) c.source-in-Dump.ensures given)

pub returns-in-Dump-clause-answers : goal.returns-in-Dump-clause-answers
returns-in-Dump-clause-answers c =
    let from_fits : FitsSigned w64 c.in-Dump.from = search rules in
    let to_fits : FitsSigned w64 c.in-Dump.to = search rules in
    let given = simp to_z-of_z at (rw c.as_bytes-in-Dump.ensures.value at c.in-Err.ensures.refused) in
    rw c.in-Dump.is (over_source (named c.in-Dump.text) c.args.contents c.source-in-Dump.result (λ source. DumpAnswers source c.in-Dump.from c.in-Dump.to (asked_for c.in-Dump.zone.now)) (Err c.in-Err.refusal) c.source-in-Dump.ensures given)

pub returns-in-Check-clause-answers : goal.returns-in-Check-clause-answers
returns-in-Check-clause-answers c =
    rw (c.line-in-Check.ensures, c.in-Check.is) (over_source (named c.in-Check.text) c.args.contents c.source-in-Check.result CheckAnswers (as_output c.check.result) c.source-in-Check.ensures (gives_line (CheckAnswers c.source-in-Check.result) c.check.result c.check.ensures))

pub returns-clause-answers : goal.returns-clause-answers
returns-clause-answers c =
    let fits : FitsSigned w64 c.in-Clock.number = search rules in
    let given = simp to_z-of_z at (rw c.leap_text.ensures at c.clock.ensures.answers) in
    rw c.in-Clock.is given

pub clock-requires : goal.clock-requires
clock-requires c =
    let long : length c.leap_text.result.now ≡ bytes_together c.args.contents = ap length c.leap_text.ensures ∙ concat_long c.args.contents in
    let few = c.requires.few_bytes in
    omega (arith, long, few)
