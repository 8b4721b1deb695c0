-- When a record may follow what stands before it.
use Rattle.std.specs.Prelude.{ℕ, nat_lt, Bool, true, not, ◌&&◌, List}
use Rattle.std.specs.List.{list_all}
use Rattle.tz_specs.specs.Written.{WrittenSet, Record, RuleRecord, ZoneRecord, Continuation, LinkRecord}
use Rattle.tz_specs.specs.Contents.{Contents, waits}
use Rattle.tz_records.specs.Counts.{exceeds}

-- all rules stand at lines before this one
abbrev pub are_before : ℕ → List WrittenSet → Bool
are_before number sets = list_all (λ set. list_all (λ rule. nat_lt rule.line number) set.rules) sets

-- a rule stands behind all others, and a zone waits for a line that continues it
abbrev pub is_in_place : Contents → Record → Bool
is_in_place contents (RuleRecord name rule) = are_before rule.line contents.sets
is_in_place contents (ZoneRecord name line) = true
is_in_place contents (Continuation line) = waits contents
is_in_place contents (LinkRecord link) = true

-- the record is in its place, and isn't one too many
abbrev pub may_follow : Contents → Record → Bool
may_follow contents said = is_in_place contents said && not (exceeds contents said)
