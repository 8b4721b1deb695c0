-- A version is made, or the leap text is refused, or the source, and not two of these.
use Rattle.std.proofs.Common.{◌≡◌, ℕ, ◌↔◌, List, Some, Result, Ok, Err, slice_get, refl, sym, ap, ◌∙◌, subst}
use Rattle.std.specs.Prelude.{IfOk, IfErr}
use Rattle.tz_types.specs.declared.fault.Fault.{Fault}
use Rattle.tz_types.specs.declared.fault.LineFault.{LineFault}
use Rattle.tz_types.specs.declared.source.Source.{Source}
use Rattle.tz_types.specs.declared.database.Db.{Db}
use Rattle.tz_specs.specs.Reads.{Reads, Refuses}
use Rattle.tz_specs.proofs.SameDatabase.{one_database}
use Rattle.tz_specs.proofs.TextLemmas.{one_fault, read_isnt_refused}
use Rattle.tz_specs.proofs.LeapTextLemmas.{one_leap_fault, read_leaps_are_not_refused}
use Rattle.tz_version.specs.declared.sources.Sources.{Sources}
use Rattle.tz_version.specs.declared.error.MakeError.{MakeError}
use Rattle.tz_version.specs.declared.error.MakeError.TheVariants as errors
use Rattle.tz_version.specs.Release.{Release, IsDatabaseOf, IsVersionOf}
use Rattle.tz_version.specs.Refusal.{RefusesLeapText, RefusesSource, MeansMakeError}

-- what is at a place is one source
same_source : (sources : Sources) (src : ℕ) (source other : Source) → slice_get sources.texts src ≡ Some source → slice_get sources.texts src ≡ Some other → source ≡ other
same_source sources src source other here there = cc

pub same_database : (sources : Sources) (src : ℕ) (db other : Db) → IsDatabaseOf sources src db → IsDatabaseOf sources src other → db ≡ other
same_database sources src db other one also =
    let same = same_source sources src also.source one.source also.there one.there in
    one_database one.source db other one.reads (subst (λ (source : Source). Reads source other) same also.reads)

-- what is answered, memory aside, is so
abbrev pub Answers : Sources → ℕ → Result Release MakeError → Type 0
Answers sources src (Ok version) = IsVersionOf sources src version
Answers sources src (Err error) = MeansMakeError error sources src

same_parts : (file line cause also_file also_line also_cause : ℕ) → file ≡ also_file → line ≡ also_line → cause ≡ also_cause
    → (let one : Fault = record { file = file; line = line; cause = cause } in let other : Fault = record { file = also_file; line = also_line; cause = also_cause } in one ≡ other)
same_parts file line cause also_file also_line also_cause a b c = rw (a, b, c)

one_leap_text_fault : (text : List ℕ) (a b : Fault) → RefusesLeapText text a → RefusesLeapText text b → a ≡ b
one_leap_text_fault text a b first second =
    let same = one_leap_fault text (record { line = a.line; cause = a.cause }) (record { line = b.line; cause = b.cause }) first.1 second.1 in
    same_parts a.file a.line a.cause b.file b.line b.cause (first.0 ∙ sym second.0) (ap (λ (f : LineFault). f.line) same) (ap (λ (f : LineFault). f.cause) same)

one_source_fault : (sources : Sources) (src : ℕ) (a b : Fault) → RefusesSource sources src a → RefusesSource sources src b → a ≡ b
one_source_fault sources src a b first second =
    let same = same_source sources src second.source first.source second.there first.there in
    one_fault first.source a b first.refused (subst (λ (source : Source). Refuses source b) same second.refused)

made_not_refused : (sources : Sources) (src : ℕ) (db : Db) (fault : Fault) → IsDatabaseOf sources src db → RefusesSource sources src fault → ⊥
made_not_refused sources src db fault says refuses =
    let same = same_source sources src refuses.source says.source refuses.there says.there in
    read_isnt_refused says.source db fault says.reads (subst (λ (source : Source). Refuses source fault) same refuses.refused)

pub exact_leaps : (sources : Sources) (src : ℕ) (result : Result Release MakeError) (fault : Fault) → Answers sources src result → ¬ (result ≡ Err errors.NoMemory) → (result ≡ Err (errors.Leaps fault)) ↔ RefusesLeapText sources.leaps fault
exact_leaps sources src (Ok version) fault is some =
    ((λ same. cc), (λ refused. absurd (read_leaps_are_not_refused sources.leaps version.leaps _ is.leaps refused.1)))
exact_leaps sources src (Err errors.NoMemory) fault is some = absurd (some refl)
exact_leaps sources src (Err (errors.Leaps other)) fault is some = (
  (λ same. let one : other ≡ fault = cc in subst (λ (f : Fault). RefusesLeapText sources.leaps f) one is),
  (λ refused. ap (λ (f : Fault). Err (errors.Leaps f)) (one_leap_text_fault sources.leaps other fault is refused)),
)
exact_leaps sources src (Err (errors.Text other)) fault is some =
    ((λ same. cc), (λ refused. absurd (read_leaps_are_not_refused sources.leaps is.leaps _ is.accepted refused.1)))

pub exact_text : (sources : Sources) (src : ℕ) (result : Result Release MakeError) (fault : Fault) → Answers sources src result → ¬ (result ≡ Err errors.NoMemory) → (result ≡ Err (errors.Text fault)) ↔ RefusesSource sources src fault
exact_text sources src (Ok version) fault is some =
    ((λ same. cc), (λ refused. absurd (made_not_refused sources src is.db fault is.says refused)))
exact_text sources src (Err errors.NoMemory) fault is some = absurd (some refl)
exact_text sources src (Err (errors.Leaps other)) fault is some =
    ((λ same. cc), (λ refused. absurd (read_leaps_are_not_refused sources.leaps refused.leaps _ refused.accepted is.1)))
exact_text sources src (Err (errors.Text other)) fault is some = (
  (λ same. let one : other ≡ fault = cc in subst (λ (f : Fault). RefusesSource sources src f) one is),
  (λ refused. ap (λ (f : Fault). Err (errors.Text f)) (one_source_fault sources src other fault is refused)),
)

-- what a reader of versions answers, by its two clauses
pub told : (sources : Sources) (src : ℕ) (result : Result Release MakeError) → IfOk result (λ (version : Release). IsVersionOf sources src version) → IfErr result (λ (error : MakeError). MeansMakeError error sources src) → Answers sources src result
told sources src (Ok version) ok refused = ok
told sources src (Err error) ok refused = refused
