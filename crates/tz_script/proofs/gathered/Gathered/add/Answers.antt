use Rattle.std.proofs.Common.{◌≡◌, ap}
use Rattle.tz_script.specs.Contents.{ScriptContents}
use Rattle.tz_script.proofs.Soundness.{before_next}
use Rattle.tz_script.proofs.gathered.Gathered.add.Goals as goal

pub returns-in-Round-clause-before : goal.returns-in-Round-clause-before
returns-in-Round-clause-before c =
    let same : c.begin_round.new.self.operations ≡ c.args.self.now.operations = ap (λ (it : ScriptContents). it.operations) c.begin_round.ensures in
    rw same (before_next c.args.line c.args.self.now.operations c.requires.before)
