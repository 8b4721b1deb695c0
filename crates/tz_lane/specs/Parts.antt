-- Operations that stand together in a script.
use Rattle.std.specs.Prelude.{◌≡◌, List, ◌++◌}
use Rattle.tz_script.specs.declared.operation.Operation.{Operation}

-- some of all the operations, without a gap between them
pub record StandTogether (all some : List Operation) : Type 0 where
  pub before : List Operation
  pub behind : List Operation
  pub is : all ≡ before ++ some ++ behind
