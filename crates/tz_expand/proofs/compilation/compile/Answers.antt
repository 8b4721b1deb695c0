use Rattle.std.proofs.Common.{◌≡◌, get_or, ap, ◌∙◌}
use Rattle.tz_types.specs.declared.zone.Zone.{Zone}
use Rattle.tz_specs.specs.Expansion.{periods_of, periods_from, first_instant}
use Rattle.tz_expand.proofs.SoundZones.{zone_leads, zone_known, same_zone}
use Rattle.tz_expand.proofs.compilation.compile.Goals as goal

pub lines_in_time-requires : goal.lines_in_time-requires
lines_in_time-requires c =
    let db = c.args.db.now in
    let zone = c.index-as_slice-index.result in
    let is : zone ≡ get_or db.zones c.args.index zone = rw c.as_slice.ensures at c.index-as_slice-index.is in
    zone_known db c.args.index zone c.as_slice-2.result.now c.as_slice-3.result.now c.requires.sound c.requires.known is c.as_slice-2.ensures c.as_slice-3.ensures

pub invariant_of-result : goal.invariant_of-result
invariant_of-result c =
    let db = c.args.db.now in
    let zone = c.index-as_slice-index.result in
    let is : zone ≡ get_or db.zones c.args.index zone = rw c.as_slice.ensures at c.index-as_slice-index.is in
    record { covers = rw (c.in_ok-lines.ensures, c.as_slice-2.ensures, c.as_slice-3.ensures) (zone_leads db c.args.index zone c.requires.sound c.requires.known is) }

pub returns : goal.returns
unfolding periods_of
returns c = λ zone got.
    let db = c.args.db.now in
    let here = c.index-as_slice-index.result in
    let is : here ≡ get_or db.zones c.args.index here = rw c.as_slice.ensures at c.index-as_slice-index.is in
    let same = same_zone db.zones c.args.index here zone is got in
    record {
      name = c.copied.ensures ∙ ap (λ (it : Zone). it.name) same;
      lines = c.in_ok-lines.ensures ∙ (λ i. periods_from (c.as_slice-2.ensures i) first_instant (c.as_slice-3.ensures i)) ∙ ap (λ (it : Zone). periods_from db.sets first_instant it.lines) same;
    }
