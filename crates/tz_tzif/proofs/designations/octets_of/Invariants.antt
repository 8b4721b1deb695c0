use Rattle.std.proofs.Common.{◌≡◌, ℕ, ◌<◌, List, take, get_or}
use Rattle.tz_types.specs.declared.limit.TheConstants.{LONGEST_ABBREVIATION}
use Rattle.tz_types.specs.Text.{IsText}
use Rattle.tz_tzif.specs.Designations.{designation_octets}
use Rattle.tz_tzif.proofs.designations.octets_of.Given as goal

abbrev pub invariant-loop-designation : goal.invariant-loop-designation
invariant-loop-designation l = record {
  octets : l.octets.items ≡ designation_octets (take l.designation-index l.designations);
  texts : (k : ℕ) (d : List ℕ) → k < l.designation-index → IsText 0 LONGEST_ABBREVIATION (get_or l.designations k d);
}
