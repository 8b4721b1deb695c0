use Rattle.std.proofs.Common.{◌≡◌, ℕ, List, map, drop}
use Rattle.tz_database.specs.NameMap.{known_of}
use Rattle.tz_specs.specs.Written.{written_link}
use Rattle.tz_database.specs.FirstLine.{first_line}
use Rattle.tz_database.proofs.repeated_name.note_links.Given as goal

-- the least line of each name, when the links that are left give theirs too
abbrev pub invariant-loop-link : goal.invariant-loop-link
invariant-loop-link l =
    (other : List ℕ) → first_line other (known_of l.lines other) (map (λ link. (link.name, link.line)) (map written_link (drop l.link-index l.parts.links))) ≡ first_line other (known_of l.fn.lines other) (map (λ link. (link.name, link.line)) (map written_link l.parts.links))
