use Rattle.std.proofs.Common.{◌≡◌, pos, ◌+ℤ◌, ◌*ℤ◌, refl, sym, ap, ◌∙◌, arith, to_z, of_z}
use Rattle.std.specs.Int.{w64}
use Rattle.std.proofs.lemmas.Int.{ints}
use Rattle.tz_specs.specs.Value.{field_at}
use Rattle.tz_specs.specs.LeapLine.{second_of_day}
use Rattle.tz_records.proofs.LeapLines.{day_of_expiry, expiry_tests, moment_said}
use Rattle.tz_records.proofs.leap_line.moment.Goals as goal

pub returns-in-Err : goal.returns-in-Err
returns-in-Err c = day_of_expiry c.args.fields.now.first c.in-Err.cause c.in-Err.ensures.told

pub returns-in_default : goal.returns-in_default
returns-in_default c =
    let fields = c.args.fields.now.first in
    let is : c.second_of_day.result ≡ second_of_day (field_at 4 fields) = c.second_of_day.ensures.value ∙ ap second_of_day c.get.ensures in
    expiry_tests fields c.second_of_day.result c.in-Ok.ensures.told.0 is ∙ rw c.in_default.is refl

pub returns : goal.returns
returns c =
    let fields = c.args.fields.now.first in
    let is : c.second_of_day.result ≡ second_of_day (field_at 4 fields) = c.second_of_day.ensures.value ∙ ap second_of_day c.get.ensures in
    let bound = c.in-Ok.ensures.bound in
    let few = c.in-Some.ensures.bound in
    let plain : to_z w64 (of_z w64 (to_z w64 (of_z w64 (pos 86400 *ℤ to_z w64 (of_z w64 c.in-Ok.day))) +ℤ to_z w64 c.in-Some.second)) ≡ pos 86400 *ℤ c.in-Ok.day +ℤ pos c.in-Some.second = omega (arith, ints, bound.0, bound.1, few) in (
      expiry_tests fields c.second_of_day.result c.in-Ok.ensures.told.0 is ∙ rw c.in-Some.is refl,
      rw plain (moment_said fields c.in-Ok.day c.in-Some.second c.in-Ok.ensures.told.1 (sym is ∙ c.in-Some.is)),
    )
