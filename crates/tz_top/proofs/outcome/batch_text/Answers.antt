use Rattle.std.proofs.Common.{◌≡◌, length, ◌∙◌, subst}
use Rattle.tz_version.specs.declared.sources.Sources.{Sources}
use Rattle.tz_script.specs.Script.{ReadsScript}
use Rattle.tz_batch.specs.Answering.{IsAccepted}
use Rattle.tz_batch.specs.Run.{IsRun}
use Rattle.tz_top.specs.Refusal.{RefusesToOpen}
use Rattle.tz_top.proofs.Outcomes.{opening_refused}
use Rattle.tz_top.proofs.outcome.batch_text.Goals as goal

pub returns-in-Err-outcome_of : goal.returns-in-Err-outcome_of
returns-in-Err-outcome_of g c =
    let reads : ReadsScript (length c.args.texts.sources.texts) c.args.texts.script c.in-Ok.script = rw (c.len.ensures, c.as_slice.ensures) at c.in-Ok.ensures.reads in
    let same : c.from_arc-sources.result ≡ c.args.texts.sources = c.from_arc-sources.ensures ∙ c.in-Ok-new.ensures.ok in
    opening_refused c.args.slots c.args.texts.script c.args.texts.sources c.in-Ok.script c.in-Err-outcome_of.refusal reads (subst (λ (sources : Sources). RefusesToOpen sources c.in-Err-outcome_of.refusal) same c.in-Err-outcome_of.ensures.refused)

pub returns-in-Ok-outcome_text : goal.returns-in-Ok-outcome_text
returns-in-Ok-outcome_text g c =
    let reads : ReadsScript (length c.args.texts.sources.texts) c.args.texts.script c.in-Ok.script = rw (c.len.ensures, c.as_slice.ensures) at c.in-Ok.ensures.reads in
    let same : c.from_arc-sources.result ≡ c.args.texts.sources = c.from_arc-sources.ensures ∙ c.in-Ok-new.ensures.ok in
    let opens = subst (λ (sources : Sources). IsAccepted sources 0) same c.in-Ok-outcome_of.ensures.opens in
    let run = subst (λ (sources : Sources). IsRun c.in-Ok.script sources c.args.slots c.in-Ok-outcome_of.outcome) same c.in-Ok-outcome_of.ensures.run in
    (c.in-Ok-outcome_of.outcome, record { script = c.in-Ok.script; reads = reads; opens = opens; run = run; positions = c.in-Ok-outcome_of.ensures.positions }, c.in-Ok-outcome_text.ensures)
