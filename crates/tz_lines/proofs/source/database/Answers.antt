use Rattle.std.proofs.Common.{◌≡◌, Ok, sym, ap, ◌∙◌}
use Rattle.tz_specs.specs.Contents.{contents_of}
use Rattle.tz_database.specs.Parts.{contents_given}
use Rattle.tz_lines.proofs.LineOrders.{zones_in_order, links_in_order}
use Rattle.tz_lines.proofs.source.database.Goals as goal

pub build-requires-clause-zones : goal.build-requires-clause-zones
build-requires-clause-zones c =
    let given : contents_of c.args.source.now.files ≡ Ok (contents_given c.into_parts.result) = rw (← c.as_slice.ensures) c.in_ok-gathered.ensures.ok ∙ ap Ok (sym c.into_parts.ensures.contents) in
    zones_in_order c.args.source.now.files (contents_given c.into_parts.result) given

pub build-requires-clause-links : goal.build-requires-clause-links
build-requires-clause-links c =
    let given : contents_of c.args.source.now.files ≡ Ok (contents_given c.into_parts.result) = rw (← c.as_slice.ensures) c.in_ok-gathered.ensures.ok ∙ ap Ok (sym c.into_parts.ensures.contents) in
    links_in_order c.args.source.now.files (contents_given c.into_parts.result) given
