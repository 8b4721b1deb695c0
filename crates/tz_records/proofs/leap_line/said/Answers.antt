use Rattle.std.proofs.Common.{arith}
use Rattle.tz_records.proofs.KeptFields.{no_fields}
use Rattle.tz_records.proofs.LeapLines.{blank_fields, told_fields, refused_fields}
use Rattle.tz_records.proofs.leap_line.said.Goals as goal

pub returns-then-count-eq0 : goal.returns-then-count-eq0
returns-then-count-eq0 c =
    λ all same. rw (c.unless_late.ensures, no_fields all c.args.fields.now same (omega arith)) (blank_fields c.args.number c.args.earlier)

pub returns-in-Ok : goal.returns-in-Ok
returns-in-Ok c =
    λ all same. rw c.unless_late-in-Ok.ensures (told_fields c.args.number c.args.earlier all c.in-Ok.told (c.in-Ok.ensures all same))

pub returns-in-Err : goal.returns-in-Err
returns-in-Err c =
    λ all same. refused_fields c.args.number c.args.earlier all c.in-Err.cause (c.in-Err.ensures all same)
