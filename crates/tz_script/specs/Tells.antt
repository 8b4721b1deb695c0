-- What a step of reading comes to, by its causes.
use Rattle.std.specs.Prelude.{◌≡◌, ℕ, Bool, List, Option, Some, None, Result, Ok, Err}
use Rattle.tz_types.specs.Reason.{HasReason}
use Rattle.tz_types.specs.declared.fault.LineFault.{LineFault}
use Rattle.tz_script.specs.Cause.{least_script_cause}
use Rattle.tz_script.specs.Contents.{ScriptContents}
use Rattle.tz_script.specs.Script.{whole_fault, RefusesScript}
use Rattle.tz_script.specs.declared.cause.ScriptCause.{ScriptCause}
use Rattle.tz_script.specs.declared.error.ScriptError.{ScriptError}
use Rattle.tz_script.specs.declared.error.ScriptError.TheVariants as errors
use Rattle.tz_script.specs.declared.script.Script.{Script}

-- the least cause, or where there is none what is said
abbrev pub MeansSaid : {A : Type 0} → List (ScriptCause × Bool) → A → Result A ScriptCause → Type 0
MeansSaid rows said (Ok told) = (least_script_cause rows ≡ None) × (said ≡ told)
MeansSaid rows said (Err cause) = least_script_cause rows ≡ Some cause

-- the same of what may be unsaid where there is a cause
abbrev pub TellsSaid : {A : Type 0} → List (ScriptCause × Bool) → Option A → Result A ScriptCause → Type 0
TellsSaid rows said (Ok told) = (least_script_cause rows ≡ None) × (said ≡ Some told)
TellsSaid rows said (Err cause) = least_script_cause rows ≡ Some cause

-- the fault that an error tells; want of memory tells none
abbrev pub script_fault_of : ScriptError → Option LineFault
script_fault_of errors.NoMemory = None
script_fault_of (errors.Fault fault) = Some fault

-- a fault comes only where it is the outcome
abbrev pub MeansScriptFault : {A : Type 0} → ScriptError → Result A LineFault → Type 0
MeansScriptFault error outcome = HasReason (λ fault. outcome ≡ Err fault) (script_fault_of error)

-- a fault is that of the contents as a whole
abbrev pub MeansWholeScriptFault : ScriptError → ScriptContents → Type 0
MeansWholeScriptFault error contents = HasReason (λ fault. whole_fault contents ≡ Some fault) (script_fault_of error)

-- the contents have no fault as a whole, and the script is what they give
pub record IsScriptOf (contents : ScriptContents) (script : Script) : Type 0 where
  pub no_fault : whole_fault contents ≡ None
  pub lanes : contents.lanes ≡ Some script.lanes
  pub rounds : script.rounds ≡ contents.rounds
  pub operations : script.operations ≡ contents.operations

-- a fault comes only where the text is refused with it
abbrev pub MeansScriptRefusal : ScriptError → ℕ → List ℕ → Type 0
MeansScriptRefusal error sources text = HasReason (RefusesScript sources text) (script_fault_of error)
