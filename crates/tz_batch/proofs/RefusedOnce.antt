-- A text is refused with one fault, and what is refused isn't accepted.
use Rattle.std.proofs.Common.{◌≡◌, ℕ, List, inl, inr, sym, ap, ◌∙◌, subst}
use Rattle.std.proofs.lemmas.Option.{same_Some}
use Rattle.tz_types.specs.declared.fault.Fault.{Fault}
use Rattle.tz_types.specs.declared.fault.LineFault.{LineFault}
use Rattle.tz_types.specs.declared.source.Source.{Source}
use Rattle.tz_specs.specs.Reads.{Refuses}
use Rattle.tz_specs.proofs.TextLemmas.{one_fault}
use Rattle.tz_specs.proofs.LeapTextLemmas.{one_leap_fault, read_leaps_are_not_refused}
use Rattle.tz_version.specs.declared.sources.Sources.{Sources}
use Rattle.tz_version.specs.Refusal.{RefusesLeapText, RefusesSource}
use Rattle.tz_batch.specs.Answering.{IsRefusedWith}

fault_of : ℕ → ℕ → ℕ → Fault
fault_of file line cause = record { file = file; line = line; cause = cause }

fault_same : (a b : Fault) → a.file ≡ b.file → a.line ≡ b.line → a.cause ≡ b.cause → a ≡ b
unfolding fault_of
fault_same a b one two three =
    ap (λ file. fault_of file a.line a.cause) one ∙ ap (λ line. fault_of b.file line a.cause) two ∙ ap (λ cause. fault_of b.file b.line cause) three

one_leap_text_fault : (text : List ℕ) (a b : Fault) → RefusesLeapText text a → RefusesLeapText text b → a ≡ b
one_leap_text_fault text a b first second =
    let same = one_leap_fault text (record { line = a.line; cause = a.cause }) (record { line = b.line; cause = b.cause }) first.1 second.1 in
    fault_same a b (first.0 ∙ sym second.0) (ap (λ (it : LineFault). it.line) same) (ap (λ (it : LineFault). it.cause) same)

one_source_fault : (sources : Sources) (src : ℕ) (a b : Fault) → RefusesSource sources src a → RefusesSource sources src b → a ≡ b
one_source_fault sources src a b first second =
    let same : second.source ≡ first.source = same_Some second.source first.source (sym second.there ∙ first.there) in
    one_fault first.source a b first.refused (subst (λ (source : Source). Refuses source b) same second.refused)

-- two faults with which no version is made of a source are one
pub refused_once : (sources : Sources) (src : ℕ) (a b : Fault) → IsRefusedWith sources src a → IsRefusedWith sources src b → a ≡ b
refused_once sources src a b (inl first) (inl second) = one_leap_text_fault sources.leaps a b first second
refused_once sources src a b (inl first) (inr second) =
    absurd (read_leaps_are_not_refused sources.leaps second.leaps (record { line = a.line; cause = a.cause }) second.accepted first.1)
refused_once sources src a b (inr first) (inl second) =
    absurd (read_leaps_are_not_refused sources.leaps first.leaps (record { line = b.line; cause = b.cause }) first.accepted second.1)
refused_once sources src a b (inr first) (inr second) = one_source_fault sources src a b first second
