-- What the contents that a script has given so far stand for, and what may follow them.
use Rattle.std.specs.Prelude.{◌≡◌, ◌<◌, ◌≤◌, not, Option, Some, None, IsTrue}
use Rattle.std.specs.Int.{IsInRange}
use Rattle.tz_script.specs.Contents.{ScriptContents}
use Rattle.tz_script.specs.Inside.{lane_count}
use Rattle.tz_script.specs.declared.limit.TheConstants.{MOST_LANES, MOST_ROUNDS}
use Rattle.tz_script.specs.Line.{is_late}
use Rattle.tz_script.specs.Size.{IsSized}
use Rattle.tz_script.specs.declared.gathered.Gathered.{Gathered}
use Rattle.tz_script.specs.declared.statement.Statement.{Statement}
use Rattle.tz_script.specs.declared.statement.Statement.TheVariants as statements

abbrev pub script_contents_gathered : Gathered → ScriptContents
script_contents_gathered gathered =
    record {
      lanes = gathered.lanes;
      rounds = gathered.rounds;
      operations = gathered.operations;
      changes = gathered.changes;
      holds = gathered.holds.items;
      left = gathered.left;
    }

-- it is said how many lanes there are, at least 1 and not too many
abbrev pub AreLanes : Statement → Type 0
AreLanes (statements.Lanes lanes) = IsInRange 1 MOST_LANES lanes
AreLanes _ = ⊥

-- What is said may stand behind the contents: no line has said yet how many lanes there are, the round isn't one too
-- many, or the operation has its lane and a round, isn't one too many, and has numbers of their size.
abbrev pub MayFollow : ScriptContents → Statement → Type 0
MayFollow contents (statements.Lanes lanes) = (contents.lanes ≡ None) × IsInRange 1 MOST_LANES lanes
MayFollow contents statements.Round = contents.rounds < MOST_ROUNDS
MayFollow contents (statements.Operation lane op) =
    (1 ≤ contents.rounds) × IsInRange 1 (lane_count contents.lanes) lane × IsTrue (not (is_late contents op)) × IsSized op

-- a blank line may stand anywhere
abbrev pub MayBeNext : ScriptContents → Option Statement → Type 0
MayBeNext contents None = Unit {0}
MayBeNext contents (Some said) = MayFollow contents said
