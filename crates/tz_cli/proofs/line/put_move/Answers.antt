use Rattle.std.proofs.Common.{FitsSigned, rules, codes}
use Rattle.std.specs.Int.{w64}
use Rattle.std.proofs.lemmas.Int.{to_z-of_z}
use Rattle.tz_lookup.specs.Range.{shown, spaced}
use Rattle.tz_lookup.proofs.Appends.{after_five}
use Rattle.tz_cli.proofs.line.put_move.Goals as goal

pub returns : goal.returns
returns c =
    let change = c.args.change.now in
    let at_fits : FitsSigned w64 change.at = search rules in
    let offset_fits : FitsSigned w64 change.offset = search rules in
    let save_fits : FitsSigned w64 change.save = search rules in
    let first = simp to_z-of_z at c.in_ok-put_spaced.ensures in
    let second = simp to_z-of_z at c.in_ok-put_spaced-2.ensures in
    let third = simp to_z-of_z at c.in_ok-put_spaced-3.ensures in
    after_five c.args.out.now.items (spaced change.at) (spaced change.offset) (spaced change.save) (shown change.abbrev) (codes "\n") c.put_spaced.new.out.items c.put_spaced-2.new.out.items c.put_spaced-3.new.out.items c.extend_from_slice.new.self.items c.extend_from_slice-2.new.self.items first second third (rw c.shown.ensures at c.in_ok-extend_from_slice.ensures.items) (search rules)
