use Rattle.std.proofs.Common.{◌≡◌, map}
use Rattle.std.specs.List.{range_with_len}
use Rattle.tz_gen.specs.Generated.{bytes_of_lines, text_lines}
use Rattle.tz_gen.proofs.generated.generated_texts.Given as goal

abbrev pub invariant-loop-number : goal.invariant-loop-number
invariant-loop-number l = l.texts ≡ map (λ number. bytes_of_lines (text_lines l.n number)) (range_with_len 0 l.number)
