use Rattle.std.proofs.Common.{◌≡◌, ◌<◌, true, List, take, map, Contains, refl, sym, ap, subst, ◌∙◌, arith}
use Rattle.std.proofs.Math.Seq.{take-length}
use Rattle.pin_book.specs.declared.write.Write.{Write}
use Rattle.pin_book.specs.declared.listed.Listed.{Listed}
use Rattle.pin_book.specs.Replay.{state_after, replays}
use Rattle.pin_book.proofs.Journals.{replays_take}
use Rattle.pin_table.specs.Reader.{reader_view}
use Rattle.pin_table.specs.Table.{plan}
use Rattle.tz_batch.specs.Batch.{row_of}
use Rattle.tz_list.specs.Reload.{release_home}
use Rattle.tz_lane.proofs.Kept.{listed_keeps, rows_told}
use Rattle.tz_lane.proofs.Rows.{book_rows}
use Rattle.tz_lane.proofs.looks.list.Goals as goal

pub returns-clause-answer : goal.returns-clause-answer
returns-clause-answer g c begun =
    let listed = c.list-listing.ensures.listed.2 in
    let table_plan = plan c.args.reader.now.table.now in
    let home = release_home table_plan.first in
    let seen : (reader_view c.list-listing.new.self).seen ≡ listed.journal = ap (λ v. v.seen) listed.view in
    let all : take c.list-listing.result.w (reader_view c.list-listing.new.self).seen ≡ listed.journal =
    ap (take c.list-listing.result.w) seen ∙ ap (λ w. take w listed.journal) listed.w ∙ take-length listed.journal in (
      refl,
      c.in_ok-rows.ensures ∙ (c.as_slice.ensures.value ∙ (listed.rows ∙ (book_rows home table_plan.slots listed.journal (omega (arith, c.args.reader.now.table.now.sizes.some_slots)) listed.found.replay
          ∙ ap (λ (writes : List Write). map (row_of home) (state_after table_plan.slots writes).listed) (sym all)))),
    )

pub returns-clause-kept : goal.returns-clause-kept
returns-clause-kept g c sources begun =
    let listed = c.list-listing.ensures.listed.2 in
    let table_plan = plan c.args.reader.now.table.now in
    let home = release_home table_plan.first in
    let some : 0 < table_plan.slots = omega (arith, c.args.reader.now.table.now.sizes.some_slots) in
    let seen = (reader_view c.list-listing.new.self).seen in
    let part = take c.list-listing.result.w seen in
    let replay = replays_take table_plan.slots seen c.list-listing.result.w (subst (λ (writes : List Write). replays table_plan.slots writes ≡ true) (sym (ap (λ v. v.seen) listed.view)) listed.found.replay) in
    let answered = returns-clause-answer g c begun in
    λ told has. rows_told (state_after table_plan.slots part) home (state_after table_plan.slots part).listed
    (λ edition is. listed_keeps table_plan.slots part edition some replay is) told
    (subst (λ (rows : List Listed). Contains (map (λ (row : Listed). record { n = row.n; slot = row.slot }) rows) told) answered.1 has)
