use Rattle.std.proofs.Common.{arith}
use Rattle.pin_book.proofs.SequenceLemmas.{writes_by_le}
use Rattle.pin_book.proofs.journal.Journal.count.Goals as goal

pub returns-then-place-lt-READER_NUMBERS-clause-limit : goal.returns-then-place-lt-READER_NUMBERS-clause-limit
returns-then-place-lt-READER_NUMBERS-clause-limit c =
    omega (arith, c.self.invariant.0, c.self.invariant.2, c.self.invariant.3 c.args.by c.if-place-lt-READER_NUMBERS.true, writes_by_le c.args.by c.self.inside.writes.items)

pub returns-else-place-lt-READER_NUMBERS-clause-limit : goal.returns-else-place-lt-READER_NUMBERS-clause-limit
returns-else-place-lt-READER_NUMBERS-clause-limit c =
    omega (arith, c.self.invariant.0, c.self.invariant.2, c.count_among.ensures, writes_by_le c.args.by c.as_slice.result.now)
