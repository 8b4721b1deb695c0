-- Why a version isn't made.
use Rattle.std.specs.Prelude.{◌≡◌, ℕ, List, Option, Some, None, slice_get}
use Rattle.tz_types.specs.Reason.{HasReason}
use Rattle.tz_types.specs.declared.fault.Fault.{Fault}
use Rattle.tz_types.specs.declared.source.Source.{Source}
use Rattle.tz_types.specs.declared.leaps.Leaps.{Leaps}
use Rattle.tz_specs.specs.Reads.{Refuses}
use Rattle.tz_specs.specs.LeapText.{ReadsLeaps, RefusesLeaps}
use Rattle.tz_version.specs.declared.sources.Sources.{Sources}
use Rattle.tz_version.specs.declared.error.MakeError.{MakeError}
use Rattle.tz_version.specs.declared.error.MakeError.TheVariants as errors

-- the leap text is refused with that fault; it is read alone, so its file is 0
abbrev pub RefusesLeapText : List ℕ → Fault → Type 0
RefusesLeapText text fault =
    (fault.file ≡ 0) × RefusesLeaps text (record { line = fault.line; cause = fault.cause })

-- the leap text is accepted, and the source at a place is refused with that fault
pub record RefusesSource (sources : Sources) (src : ℕ) (fault : Fault) : Type 0 where
  pub leaps : Leaps
  pub accepted : ReadsLeaps sources.leaps leaps
  pub source : Source
  pub there : slice_get sources.texts src ≡ Some source
  pub refused : Refuses source fault

-- a fault, and which text has it
pub data TextFault : Type 0 where
  OfLeaps : Fault → TextFault
  OfSource : Fault → TextFault

-- the fault that an error tells; want of memory tells none
abbrev pub make_fault_of : MakeError → Option TextFault
make_fault_of errors.NoMemory = None
make_fault_of (errors.Leaps fault) = Some (OfLeaps fault)
make_fault_of (errors.Text fault) = Some (OfSource fault)

-- the leap text has the fault
abbrev pub HasLeapFault : List ℕ → TextFault → Type 0
HasLeapFault text (OfLeaps fault) = RefusesLeapText text fault
HasLeapFault text (OfSource fault) = ⊥

-- the source has the fault
abbrev pub HasSourceFault : Source → TextFault → Type 0
HasSourceFault source (OfLeaps fault) = ⊥
HasSourceFault source (OfSource fault) = Refuses source fault

-- the leap text has the fault, or where it is accepted the source at a place
abbrev pub HasTextFault : Sources → ℕ → TextFault → Type 0
HasTextFault sources src (OfLeaps fault) = RefusesLeapText sources.leaps fault
HasTextFault sources src (OfSource fault) = RefusesSource sources src fault

-- a fault comes only where the leap text has it
abbrev pub MeansLeapError : MakeError → List ℕ → Type 0
MeansLeapError error text = HasReason (HasLeapFault text) (make_fault_of error)

-- a fault comes only where the source has it
abbrev pub MeansTextError : MakeError → Source → Type 0
MeansTextError error source = HasReason (HasSourceFault source) (make_fault_of error)

-- a fault comes only where one of both has it; the leap text is read first
abbrev pub MeansMakeError : MakeError → Sources → ℕ → Type 0
MeansMakeError error sources src = HasReason (HasTextFault sources src) (make_fault_of error)
