use Rattle.std.proofs.Common.{◌≡◌, ◌+◌, ◌≤◌, length}
use Rattle.tz_types.specs.declared.limit.TheConstants.{MOST_FILES}
use Rattle.tz_words.specs.NamedText.{parts_of, parts_left, are_names}
use Rattle.tz_words.proofs.Parts.{bytes_left}
use Rattle.tz_words.proofs.text_word.are_file_names.Given as goal

-- so many names came, none empty, and the others are left
abbrev pub invariant-loop-rest : goal.invariant-loop-rest
invariant-loop-rest l = record {
  counted : length (parts_of l.names) ≡ l.count + length (parts_left l.rest);
  named : are_names (parts_of l.names) ≡ are_names (parts_left l.rest);
  few : l.count ≤ MOST_FILES;
}

abbrev pub decreases-loop-rest : goal.decreases-loop-rest
decreases-loop-rest l = bytes_left l.rest
