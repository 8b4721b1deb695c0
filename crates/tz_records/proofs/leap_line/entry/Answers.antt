use Rattle.std.proofs.Common.{◌≡◌, true, false, nat_le, pos, ◌+ℤ◌, ◌*ℤ◌, refl, sym, ap, ◌∙◌, arith, to_z, of_z}
use Rattle.std.specs.Int.{w64}
use Rattle.std.proofs.lemmas.Int.{ints}
use Rattle.std.proofs.lemmas.Bool.Decides.{nat_tests}
use Rattle.tz_types.specs.declared.limit.TheConstants.{MOST_LEAPS}
use Rattle.tz_specs.specs.Value.{field_at}
use Rattle.tz_specs.specs.LeapLine.{correction_of, is_leap_time, is_stationary}
use Rattle.tz_records.proofs.LeapLines.{day_of_entry, entry_tests, entry_said}
use Rattle.tz_records.proofs.leap_line.entry.Goals as goal

pub returns-in-Err : goal.returns-in-Err
returns-in-Err c = day_of_entry c.args.earlier c.args.fields.now.first c.in-Err.cause c.in-Err.ensures.told

pub returns-then-not-is_leap_time : goal.returns-then-not-is_leap_time
returns-then-not-is_leap_time c =
    let fields = c.args.fields.now.first in
    let corr : c.correction-correction.result ≡ correction_of (field_at 5 fields) = c.correction-correction.ensures ∙ ap correction_of c.get.ensures in
    let timed : c.is_leap_time.result ≡ is_leap_time c.correction-correction.result (field_at 4 fields) = c.is_leap_time.ensures ∙ ap (is_leap_time c.correction-correction.result) c.get-2.ensures in
    entry_tests c.args.earlier fields c.is_leap_time.result (is_stationary (field_at 6 fields)) c.correction-correction.result c.in-Ok.ensures.told.0 corr timed refl
    ∙ rw c.if-not-is_leap_time.true refl

pub returns-in_default : goal.returns-in_default
returns-in_default c =
    let fields = c.args.fields.now.first in
    let corr : c.correction-correction.result ≡ correction_of (field_at 5 fields) = c.correction-correction.ensures ∙ ap correction_of c.get.ensures in
    let timed : c.is_leap_time.result ≡ is_leap_time c.correction-correction.result (field_at 4 fields) = c.is_leap_time.ensures ∙ ap (is_leap_time c.correction-correction.result) c.get-2.ensures in
    entry_tests c.args.earlier fields c.is_leap_time.result (is_stationary (field_at 6 fields)) c.correction-correction.result c.in-Ok.ensures.told.0 corr timed refl
    ∙ rw (c.if-not-is_leap_time.false, c.in_default.is) refl

pub returns-then-not-is_stationary : goal.returns-then-not-is_stationary
returns-then-not-is_stationary c =
    let fields = c.args.fields.now.first in
    let corr : c.correction-correction.result ≡ correction_of (field_at 5 fields) = c.correction-correction.ensures ∙ ap correction_of c.get.ensures in
    let timed : c.is_leap_time.result ≡ is_leap_time c.correction-correction.result (field_at 4 fields) = c.is_leap_time.ensures ∙ ap (is_leap_time c.correction-correction.result) c.get-2.ensures in
    let still : c.is_stationary.result ≡ is_stationary (field_at 6 fields) = c.is_stationary.ensures ∙ ap is_stationary c.get-3.ensures in
    entry_tests c.args.earlier fields c.is_leap_time.result c.is_stationary.result c.correction-correction.result c.in-Ok.ensures.told.0 corr timed still
    ∙ rw (c.if-not-is_leap_time.false, c.in-Some.is, c.if-not-is_stationary.true) refl

pub returns-then-earlier-ge-MOST_LEAPS : goal.returns-then-earlier-ge-MOST_LEAPS
returns-then-earlier-ge-MOST_LEAPS c =
    let fields = c.args.fields.now.first in
    let corr : c.correction-correction.result ≡ correction_of (field_at 5 fields) = c.correction-correction.ensures ∙ ap correction_of c.get.ensures in
    let timed : c.is_leap_time.result ≡ is_leap_time c.correction-correction.result (field_at 4 fields) = c.is_leap_time.ensures ∙ ap (is_leap_time c.correction-correction.result) c.get-2.ensures in
    let still : c.is_stationary.result ≡ is_stationary (field_at 6 fields) = c.is_stationary.ensures ∙ ap is_stationary c.get-3.ensures in
    let late : nat_le MOST_LEAPS c.args.earlier ≡ true = grind (arith, nat_tests, c.if-earlier-ge-MOST_LEAPS.true) in
    entry_tests c.args.earlier fields c.is_leap_time.result c.is_stationary.result c.correction-correction.result c.in-Ok.ensures.told.0 corr timed still
    ∙ rw (c.if-not-is_leap_time.false, c.in-Some.is, c.if-not-is_stationary.false, late) refl

pub returns : goal.returns
returns c =
    let fields = c.args.fields.now.first in
    let corr : c.correction-correction.result ≡ correction_of (field_at 5 fields) = c.correction-correction.ensures ∙ ap correction_of c.get.ensures in
    let timed : c.is_leap_time.result ≡ is_leap_time c.correction-correction.result (field_at 4 fields) = c.is_leap_time.ensures ∙ ap (is_leap_time c.correction-correction.result) c.get-2.ensures in
    let still : c.is_stationary.result ≡ is_stationary (field_at 6 fields) = c.is_stationary.ensures ∙ ap is_stationary c.get-3.ensures in
    let early : nat_le MOST_LEAPS c.args.earlier ≡ false = grind (arith, nat_tests, c.if-earlier-ge-MOST_LEAPS.false) in
    let bound = c.in-Ok.ensures.bound in
    let plain : to_z w64 (of_z w64 (pos 86400 *ℤ to_z w64 (of_z w64 (to_z w64 (of_z w64 c.in-Ok.day) +ℤ pos 1)))) ≡ pos 86400 *ℤ (c.in-Ok.day +ℤ pos 1) = omega (arith, ints, bound.0, bound.1) in (
      entry_tests c.args.earlier fields c.is_leap_time.result c.is_stationary.result c.correction-correction.result c.in-Ok.ensures.told.0 corr timed still
          ∙ rw (c.if-not-is_leap_time.false, c.in-Some.is, c.if-not-is_stationary.false, early) refl,
      rw plain (entry_said fields c.in-Ok.day c.in-Some.added c.in-Ok.ensures.told.1 (sym corr ∙ c.in-Some.is)),
    )
