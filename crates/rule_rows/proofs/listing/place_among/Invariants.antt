use Rattle.std.proofs.Common.{◌≡◌, ◌++◌, take, drop}
use Rattle.tz_specs.specs.Occurrence.{put_in_order}
use Rattle.rule_rows.proofs.listing.place_among.Given as goal

abbrev pub invariant-loop-place : goal.invariant-loop-place
invariant-loop-place l =
    take l.place l.list ++ put_in_order l.occurrence (drop l.place l.list) ≡ put_in_order l.occurrence l.list
