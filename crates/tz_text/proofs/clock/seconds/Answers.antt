use Rattle.std.proofs.Common.{◌≡◌, Some, take, drop, ◌+◌, arith}
use Rattle.std.proofs.lemmas.Grind.{common_steps}
use Rattle.tz_specs.specs.Amount.{part_up_to}
use Rattle.tz_text.proofs.Sizes.{seconds_cut}
use Rattle.tz_text.proofs.clock.seconds.Goals as goal

pub returns-clause-value : goal.returns-clause-value
returns-clause-value c =
    let seconds : part_up_to 60 (take c.in-Some.point c.args.word.now) ≡ Some c.in_ok-part_of_clock.field-0 = grind (arith, common_steps) in
    let cut = seconds_cut c.args.word.now (take c.in-Some.point c.args.word.now) (drop (c.in-Some.point + 1) c.args.word.now) c.in_ok-part_of_clock.field-0 c.in-Some.ensures.parts seconds in
    grind (arith, common_steps)
