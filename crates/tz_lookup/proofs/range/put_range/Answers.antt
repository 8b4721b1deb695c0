use Rattle.std.proofs.Common.{FitsSigned, rules}
use Rattle.std.specs.Int.{w64}
use Rattle.std.proofs.lemmas.Int.{to_z-of_z}
use Rattle.tz_lookup.specs.Range.{shown, spaced, range_text}
use Rattle.tz_lookup.proofs.Appends.{after_five}
use Rattle.tz_lookup.proofs.range.put_range.Goals as goal

pub returns : goal.returns
unfolding range_text
returns c =
    let range = c.args.range.now in
    let begin_fits : FitsSigned w64 range.begin = search rules in
    let end_fits : FitsSigned w64 range.end = search rules in
    let offset_fits : FitsSigned w64 range.offset = search rules in
    let save_fits : FitsSigned w64 range.save = search rules in
    let first = simp to_z-of_z at c.in_ok-put_spaced.ensures in
    let second = simp to_z-of_z at c.in_ok-put_spaced-2.ensures in
    let third = simp to_z-of_z at c.in_ok-put_spaced-3.ensures in
    let fourth = simp to_z-of_z at c.in_ok-put_spaced-4.ensures in
    after_five c.args.out.now.items (spaced range.begin) (spaced range.end) (spaced range.offset) (spaced range.save) (shown range.abbrev) c.put_spaced.new.out.items c.put_spaced-2.new.out.items c.put_spaced-3.new.out.items c.put_spaced-4.new.out.items c.extend_from_slice.new.self.items first second third fourth (rw c.shown.ensures at c.in_ok-extend_from_slice.ensures.items)
