-- Words of the laws of scripts.
use Rattle.std.specs.Prelude.{◌≡◌, ℕ, List, None, Ok}
use Rattle.tz_script.specs.Contents.{ScriptContents}
use Rattle.tz_script.specs.Script.{script_contents_of, whole_fault}
use Rattle.tz_script.specs.declared.script.Script.{Script}

-- the lanes, the rounds and the operations of two scripts are the same
pub record HasSameParts (a b : Script) : Type 0 where
  pub lanes : a.lanes ≡ b.lanes
  pub rounds : a.rounds ≡ b.rounds
  pub operations : a.operations ≡ b.operations

-- the text gives contents without a fault
pub record IsReadable (sources : ℕ) (text : List ℕ) : Type 0 where
  pub contents : ScriptContents
  pub given : script_contents_of sources text ≡ Ok contents
  pub no_fault : whole_fault contents ≡ None
