use Rattle.std.proofs.Common.{refl, rules, FitsSigned, ◌+ℤ◌}
use Rattle.std.specs.Int.{w64}
use Rattle.std.proofs.lemmas.Int.{to_z-of_z}
use Rattle.tz_windows.proofs.SeenLemmas.{one_more_seen}
use Rattle.tz_windows.proofs.scan.Seen.and.Goals as goal

pub returns-clause-later : goal.returns-clause-later
returns-clause-later c =
    let seen = c.args.self in
    let range = c.args.range.now in
    let so_far = c.requires.so_far.offsets in
    let near = c.requires.near in
    let few = c.requires.few in
    let seen_fits : FitsSigned w64 seen.scan.offsets = search rules in
    let offset_fits : FitsSigned w64 range.offset = search rules in
    let begin_fits : FitsSigned w64 range.begin = search rules in
    let sum_fits : FitsSigned w64 (seen.scan.offsets +ℤ range.offset) = search (rules, so_far, near, few) in
    simp to_z-of_z
    (λ later. one_more_seen seen _ range later refl refl (rw c.change_to.ensures.value refl) refl)
