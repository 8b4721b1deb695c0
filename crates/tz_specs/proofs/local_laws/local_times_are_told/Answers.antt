use Rattle.jiff_core.specs.Calendar.{IsWithin}
use Rattle.std.proofs.lemmas.List.Elements.{All-contains}
use Rattle.tz_types.specs.declared.limit.TheConstants.{LONGEST_OFFSET}
use Rattle.tz_types.specs.declared.range.SysInfo.{SysInfo}
use Rattle.tz_specs.proofs.local_laws.local_times_are_told.Goals as goal
use Rattle.tz_specs.proofs.ListLemmas.{Contains-from_In}
use Rattle.tz_specs.proofs.LocalLemmas.{told_inside}

pub returns : goal.returns
returns c = λ a b l ranges covers small low high.
    told_inside a b l ranges covers
    (λ range has. All-contains (λ (r : SysInfo). IsWithin LONGEST_OFFSET r.offset) ranges range small (Contains-from_In ranges range has))
    low high
