-- What a step of a batch comes to over its texts is an answer.
use Rattle.std.proofs.Common.{◌≡◌, ℕ, inl, inr, List, length, codes, refl, ap}
use Rattle.tz_types.specs.declared.fault.Fault.{Fault}
use Rattle.tz_script.specs.Script.{ReadsScript}
use Rattle.tz_script.specs.declared.script.Script.{Script}
use Rattle.tz_version.specs.declared.sources.Sources.{Sources}
use Rattle.tz_cli.specs.Line.{fault_line}
use Rattle.tz_cli.specs.Refusal.{IsRefusal}
use Rattle.tz_cli.specs.declared.refusal.Refusal.{Refusal}
use Rattle.tz_cli.specs.declared.refusal.Refusal.TheVariants as refusals
use Rattle.tz_top.specs.BatchAnswer.{BatchAnswers}
use Rattle.tz_top.specs.Refusal.{RefusesToOpen}

-- where a version of the first source isn't made, that is an answer
pub opening_refused : (slots : ℕ) (text : List ℕ) (sources : Sources) (script : Script) (refusal : Refusal) → ReadsScript (length sources.texts) text script → RefusesToOpen sources refusal → IsRefusal (BatchAnswers slots text sources) refusal
opening_refused slots text sources script refusals.Memory reads refused = tt
opening_refused slots text sources script (refusals.Leaps fault) reads refused =
    let alone : fault ≡ record { file = 0; line = fault.line; cause = fault.cause } = λ i. record { file = refused.0 i; line = fault.line; cause = fault.cause } in
    record {
      script = script;
      reads = reads;
      refused = inl (record { line = fault.line; cause = fault.cause }, refused.1, ap (λ (fault : Fault). fault_line (codes "leaps") fault) alone);
    }
opening_refused slots text sources script (refusals.Text fault) reads refused =
    record { script = script; reads = reads; refused = inr (fault, refused, refl) }
opening_refused slots text sources script refusal reads refused = absurd refused
