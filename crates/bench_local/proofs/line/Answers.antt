use Rattle.std.proofs.Common.{arith, rules}
use Rattle.std.proofs.lemmas.Int.{ints}
use Rattle.bench_local.proofs.line.Goals as goal

pub invariant_of-result : goal.invariant_of-result
invariant_of-result c = record {
  stdoff_in = (omega (arith, ints), omega (arith, ints));
  format_in = c.requires;
  save_in = search rules;
  letters_are = rw c.get.ensures at c.letters_before-letters.ensures;
}
