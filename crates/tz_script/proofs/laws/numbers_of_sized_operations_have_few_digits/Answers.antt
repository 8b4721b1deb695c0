use Rattle.std.proofs.Common.{arith}
use Rattle.std.proofs.lemmas.Int.{ints}
use Rattle.tz_script.proofs.laws.numbers_of_sized_operations_have_few_digits.Goals as goal

pub returns-clause-info : goal.returns-clause-info
returns-clause-info c = λ v zone t sized.
    let within = sized.0 in
    (omega (arith, ints), omega (arith, ints))

pub returns-clause-scan : goal.returns-clause-scan
returns-clause-scan c = λ v zone from step count sized.
    let within = sized.0 in
    let apart = sized.1 in
    let many = sized.2 in
    (omega (arith, ints), omega (arith, ints), apart.0, omega (arith, apart.1), many.0, many.1)

pub returns-clause-clock : goal.returns-clause-clock
returns-clause-clock c = λ v conv x sized.
    let within = sized.0 in
    (omega (arith, ints), omega (arith, ints))
