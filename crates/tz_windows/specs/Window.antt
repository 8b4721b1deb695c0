-- Windows of a zone.
use Rattle.std.specs.Prelude.{ℕ}

-- stretches of 2,019,644,928 seconds from the beginning of time to its end
abbrev pub windows_of_a_zone : ℕ
windows_of_a_zone = 313
