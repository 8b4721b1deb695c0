use Rattle.std.proofs.Common.{refl, ◌∙◌, rules, arith, FitsSigned, ◌*◌, pos, ◌+ℤ◌, ◌≡◌}
use Rattle.std.specs.Int.{w64}
use Rattle.std.proofs.lemmas.Int.{to_z-of_z}
use Rattle.tz_windows.proofs.SeenLemmas.{IsSeenBefore, seen_before_first, seen_before_next, seen_before_end}
use Rattle.tz_windows.proofs.zone_ref.ZoneRef.scan.Goals as goal

pub loop-place-init : goal.loop-place-init
loop-place-init g c =
    let fits : FitsSigned w64 c.args.from = c.ranges.from in
    simp to_z-of_z
    record {
      zone = refl;
      seen = seen_before_first c.args.self.now c.args.from c.args.step c.args.count c.nothing-seen.result c.nothing-seen.ensures;
    }

pub loop-place-preserved : goal.loop-place-preserved
loop-place-preserved g c =
    let fits : FitsSigned w64 c.args.from = c.ranges.from in
    let before : IsSeenBefore c.args.self.now c.args.from c.args.step c.args.count c.loop-place.place c.loop-place.seen = simp to_z-of_z at c.loop-place.invariant.seen in
    let at : c.instant_at.result ≡ c.args.from +ℤ pos (c.loop-place.place * c.args.step) = simp to_z-of_z at c.instant_at.ensures in
    let t_fits : FitsSigned w64 c.instant_at.result = search rules in
    let later = simp to_z-of_z at c.look-seen.ensures.later in
    let same = c.loop-place.invariant.zone in
    simp to_z-of_z
    record {
      zone = c.look-seen.ensures.zone ∙ same;
      seen =
          seen_before_next c.args.self.now _ c.args.from _ c.args.step c.args.count c.loop-place.place c.loop-place.seen c.look-seen.result same at (omega arith) before c.look-seen.ensures.so_far c.look-seen.ensures.inside later;
    }

pub returns-clause-scan : goal.returns-clause-scan
returns-clause-scan g c =
    let fits : FitsSigned w64 c.args.from = c.ranges.from in
    let before : IsSeenBefore c.args.self.now c.args.from c.args.step c.args.count c.loop-place.place c.loop-place.seen = simp to_z-of_z at c.loop-place.invariant.seen in
    let end : c.loop-place.place ≡ c.args.count = omega arith in
    seen_before_end c.args.self.now c.args.from c.args.step c.args.count c.loop-place.seen (rw end at before)
