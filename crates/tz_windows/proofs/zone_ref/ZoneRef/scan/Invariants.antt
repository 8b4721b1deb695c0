use Rattle.std.proofs.Common.{◌≡◌}
use Rattle.tz_windows.proofs.SeenLemmas.{IsSeenBefore}
use Rattle.tz_windows.proofs.zone_ref.ZoneRef.scan.Given as goal

abbrev pub invariant-loop-place : goal.invariant-loop-place
invariant-loop-place g l =
    record {
      zone : l.self ≡ l.fn.self;
      seen : IsSeenBefore l.fn.self l.fn.from l.fn.step l.fn.count l.place l.seen;
    }
