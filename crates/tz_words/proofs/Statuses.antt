-- Every status is listed.
use Rattle.std.proofs.Common.{[], ◌∷◌, Contains, refl, arith}
use Rattle.tz_words.specs.declared.status.Status.{Status}
use Rattle.tz_words.specs.declared.status.Status.TheVariants as statuses

pub every_status : (status : Status) → Contains (statuses.Ok ∷ statuses.Usage ∷ statuses.Text ∷ statuses.Script ∷ statuses.Read ∷ statuses.Write ∷ statuses.Memory ∷ statuses.NoZone ∷ statuses.Range ∷ statuses.Local ∷ statuses.TooLarge ∷ statuses.Types ∷ statuses.Designations ∷ []) status
every_status statuses.Ok = (0, omega arith, refl)
every_status statuses.Usage = (1, omega arith, refl)
every_status statuses.Text = (2, omega arith, refl)
every_status statuses.Script = (3, omega arith, refl)
every_status statuses.Read = (4, omega arith, refl)
every_status statuses.Write = (5, omega arith, refl)
every_status statuses.Memory = (6, omega arith, refl)
every_status statuses.NoZone = (7, omega arith, refl)
every_status statuses.Range = (8, omega arith, refl)
every_status statuses.Local = (9, omega arith, refl)
every_status statuses.TooLarge = (10, omega arith, refl)
every_status statuses.Types = (11, omega arith, refl)
every_status statuses.Designations = (12, omega arith, refl)
