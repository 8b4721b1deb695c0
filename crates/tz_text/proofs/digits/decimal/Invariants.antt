use Rattle.std.proofs.Common.{◌≡◌, ◌+◌, ◌≤◌, ◌^◌, take, true}
use Rattle.std.specs.List.{list_all}
use Rattle.tz_specs.specs.Number.{is_digit, decimal_value}
use Rattle.tz_text.proofs.digits.decimal.Given as goal

abbrev pub invariant-loop-byte : goal.invariant-loop-byte
invariant-loop-byte l = record {
  digits : list_all is_digit (take l.byte-index l.word) ≡ true;
  so_far : l.value ≡ decimal_value (take l.byte-index l.word);
  fits : l.value + 1 ≤ 10 ^ l.byte-index;
}
