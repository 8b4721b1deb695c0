use Rattle.std.proofs.Common.{ℕ, true, ap, ◌∙◌, ◌≡◌, subst}
use Rattle.std.proofs.lemmas.List.Sorted.{Contains-permutation}
use Rattle.pin_book.specs.Replay.{replays}
use Rattle.pin_core.specs.declared.view.View.{View}
use Rattle.pin_table.specs.declared.sitting.Plan.{Plan}
use Rattle.pin_table.specs.Handles.{pin_of}
use Rattle.pin_table.specs.Reader.{reader_view, seen}
use Rattle.pin_table.specs.Table.{plan}
use Rattle.tz_script.specs.declared.operation.Pick.TheVariants.{Front}
use Rattle.tz_version.specs.Release.{Release}
use Rattle.tz_lane.specs.Changing.{ErasesInLane, AnswersEraseOf}
use Rattle.tz_lane.specs.Meeting.{lane_round}
use Rattle.tz_lane.proofs.FrontErased.{IsAround, around, erases_front, answers_front}
use Rattle.tz_lane.proofs.Meetings.{pinned_and_left}
use Rattle.tz_lane.proofs.Readers.{same_number}
use Rattle.tz_lane.proofs.erasures.erase_front.Given as given
use Rattle.tz_lane.proofs.erasures.erase_front.Goals as goal

module _ (g : given.Over) (c : goal.After-release g) where
  same_plan : plan c.front.new.self.table.now ≡ plan c.args.reader.now.table.now
  same_plan = ap plan c.in-Ok.ensures.pinned.more.table

  is_around : IsAround (plan c.args.reader.now.table.now).slots (reader_view c.args.reader.now) (reader_view c.front.new.self) (reader_view c.erase_held-told.new.reader) (reader_view c.release.new.self)
  is_around =
      let pinned = c.in-Ok.ensures.pinned in let released = c.release.ensures.released in
      around (plan c.args.reader.now.table.now).slots pinned.misses released.at c.in-Ok.handle (reader_view c.args.reader.now) (reader_view c.front.new.self) (reader_view c.erase_held-told.new.reader) (reader_view c.release.new.self)
      (seen c.front.new.self) (seen c.release.new.self) pinned.more.grows released.more.grows
      (subst (λ (p : Plan Release). replays p.slots (seen c.release.new.self) ≡ true) (ap plan c.erase_held-told.ensures.table ∙ same_plan) released.more.replay) pinned.view released.view

  erased : ErasesInLane (plan c.args.reader.now.table.now) c.args.reader.now.number (reader_view c.front.new.self) c.erase_held-told.result (reader_view c.erase_held-told.new.reader)
  erased =
      let number = same_number c.args.reader.now c.front.new.self (ap (λ (x : View). x.numbers) c.in-Ok.ensures.pinned.view) in
      subst (λ (p : Plan Release). ErasesInLane p c.args.reader.now.number (reader_view c.front.new.self) c.erase_held-told.result (reader_view c.erase_held-told.new.reader)) same_plan
      (subst (λ (n : ℕ). ErasesInLane (plan c.front.new.self.table.now) n (reader_view c.front.new.self) c.erase_held-told.result (reader_view c.erase_held-told.new.reader)) number c.erase_held-told.ensures.erases)

pub returns-clause-erases : goal.returns-clause-erases
returns-clause-erases g c = erases_front (plan c.args.reader.now.table.now) c.args.reader.now.number c.erase_held-told.result
    (reader_view c.args.reader.now) (reader_view c.front.new.self) (reader_view c.erase_held-told.new.reader) (reader_view c.release.new.self) (is_around g c) (erased g c)

pub returns-clause-answer : goal.returns-clause-answer
returns-clause-answer g c sources begun =
    let told = c.erase_held-told.result in
    answers_front (plan c.args.reader.now.table.now) sources begun c.args.reader.now.number c.in-Ok.handle.position
    (reader_view c.args.reader.now) (reader_view c.front.new.self) (reader_view c.erase_held-told.new.reader) (reader_view c.release.new.self) (is_around g c) c.in-Ok.ensures.pinned.position
    told.w told.answer ((erased g c).meets Front)
    (subst (λ (p : Plan Release). AnswersEraseOf (lane_round p sources begun (reader_view c.erase_held-told.new.reader)) c.in-Ok.handle.position told.w told.answer) (same_plan g c) (c.erase_held-told.ensures.answer sources begun))

pub returns-clause-entries : goal.returns-clause-entries
returns-clause-entries g c =
    let released = c.release.ensures.released in
    pinned_and_left (reader_view c.args.reader.now).entries (reader_view c.erase_held-told.new.reader).entries (reader_view c.release.new.self).entries (pin_of c.in-Ok.handle)
    (c.erase_held-told.ensures.entries ∙ ap (λ (x : View). x.entries) c.in-Ok.ensures.pinned.view)
    (record { at = released.at; there = released.there; is = ap (λ (x : View). x.entries) released.view })

pub returns-clause-handles : goal.returns-clause-handles
returns-clause-handles g c other made =
    c.release.ensures.others other (c.erase_held-told.ensures.handles other (c.in-Ok.ensures.handles other made))
    (Contains-permutation (reader_view c.args.reader.now).entries (reader_view c.release.new.self).entries (pin_of other) (returns-clause-entries g c) made.pinned)
