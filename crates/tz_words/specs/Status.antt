-- How a command ends.
use Rattle.std.specs.Prelude.{ℕ}
use Rattle.tz_words.specs.declared.status.Status.{Status}
use Rattle.tz_words.specs.declared.status.Status.TheVariants as statuses

-- the number with which the program ends
abbrev pub exit_code : Status → ℕ
exit_code statuses.Ok = 0
exit_code statuses.Usage = 2
exit_code statuses.Text = 3
exit_code statuses.Script = 4
exit_code statuses.Read = 5
exit_code statuses.Write = 6
exit_code statuses.Memory = 7
exit_code statuses.NoZone = 8
exit_code statuses.Range = 9
exit_code statuses.Local = 10
exit_code statuses.TooLarge = 11
exit_code statuses.Types = 14
exit_code statuses.Designations = 15
