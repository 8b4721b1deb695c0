use Rattle.std.proofs.Common.{arith}
use Rattle.tz_script.proofs.Soundness.{sound_round}
use Rattle.tz_script.proofs.gathered.Gathered.begin_round.Goals as goal

pub invariant_of-self : goal.invariant_of-self
invariant_of-self c =
    let before = c.args.self.now in
    record {
      few_rounds = omega arith;
      few_changes = before.few_changes;
      counted = before.counted;
      sound = sound_round before.lanes before.rounds before.operations before.sound;
      sized = before.sized;
      in_rounds = before.in_rounds;
    }
