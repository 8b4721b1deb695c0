-- Answers to lookups: what is found in a handle's version is found in the version at the front at the handle's position.
use Rattle.std.proofs.Common.{◌≡◌, ℕ, ◌+◌, ◌<◌, true, IsTrue, List, [], ◌∷◌, length, take, Contains, refl, sym, ap, subst, ◌∙◌, arith}
use Rattle.pin_book.specs.declared.write.Write.{Write}
use Rattle.pin_book.specs.Replay.{Edition, ListState, front_of, state_after, replays, front_number}
use Rattle.pin_book.specs.Pushes.{pushes}
use Rattle.pin_book.specs.Sources.{source_of}
use Rattle.pin_book.proofs.Journals.{replays_take}
use Rattle.pin_book.proofs.ReplayLemmas.{replay_orderly}
use Rattle.pin_book.proofs.SourceLemmas.{listed_source}
use Rattle.pin_core.specs.declared.view.View.{View}
use Rattle.pin_table.specs.Handles.{Handle, MadeBy}
use Rattle.pin_table.specs.declared.sitting.Plan.{Plan}
use Rattle.tz_script.specs.declared.operation.Op.{Op}
use Rattle.tz_script.specs.declared.operation.Op.TheVariants as ops
use Rattle.tz_script.specs.declared.operation.Pick.{Pick}
use Rattle.tz_version.specs.declared.sources.Sources.{Sources}
use Rattle.tz_version.specs.Release.{Release}
use Rattle.tz_batch.specs.Answering.{LooksInto, AnswersLookup, AnswersOp}
use Rattle.tz_batch.specs.Round.{Round, newest_at}
use Rattle.tz_batch.specs.Run.{InSlot, versions_told, TellsKept}
use Rattle.tz_batch.specs.declared.answer.Answer.{Answer}
use Rattle.tz_batch.specs.declared.answer.Answer.TheVariants as answers
use Rattle.tz_list.specs.Reload.{release_home, release_source}
use Rattle.tz_lane.specs.LaneLookup.{is_lookup, pick_asked, FindsFor, IsOnHandle, AnswersOnFrontAt}
use Rattle.tz_lane.specs.Meeting.{lane_round}
use Rattle.tz_lane.proofs.Fronts.{seen_stays, handle_told_later}
use Rattle.tz_lane.proofs.Kept.{KeepsIn, front_keeps, one_told}

-- ---- the source of the front ----

-- where something is listed, the front is
front_listed : (listed : List Edition) → 0 < (front_of listed).n → Contains listed (front_of listed)
front_listed [] some = absurd (omega arith)
front_listed (edition ∷ listed) some = (0, omega arith, refl)

-- the front's source is the one that the journal gives to its number
pub front_source : (slots : ℕ) (journal : List Write) → 0 < slots → replays slots journal ≡ true
    → (front_of (state_after slots journal).listed).src ≡ source_of journal (front_number slots journal)
unfolding front_number
front_source slots journal some replay =
    let front : Edition = front_of (state_after slots journal).listed in
    let number : front.n ≡ length (pushes journal) + 1 = (replay_orderly slots journal some replay).front in
    listed_source slots journal front some replay (front_listed (state_after slots journal).listed (omega (arith, number)))

-- ---- what is found in a handle's version ----

module _ (plan : Plan Release) (v : View) (handle : Handle Release) (made : MadeBy release_home release_source plan v handle) (replay : replays plan.slots v.seen ≡ true) where
  -- the source of the version at the front at the handle's position
  version_source : (later : List Write) → take (length v.seen) later ≡ v.seen → (front_of (state_after plan.slots (take handle.position later)).listed).src ≡ handle.version.src
  version_source later grows =
      let inside : handle.slot < plan.slots = made.holds.inside in
      let part : List Write = take handle.position v.seen in
      ap (λ (writes : List Write). (front_of (state_after plan.slots writes).listed).src) (seen_stays v.seen later handle.position grows made.holds.told)
      ∙ front_source plan.slots part (omega (arith, inside)) (replays_take plan.slots v.seen handle.position replay)
      ∙ sym made.version.1

  -- what a handle's version answers is right at the handle's position, however much more is seen
  pub answers_on_front : (later : View) (begun : ℕ) (op : Op) (answer : Answer) → take (length v.seen) later.seen ≡ v.seen → IsOnHandle op handle answer
      → AnswersOnFrontAt (lane_round plan (release_home plan.first) begun later) op handle.position answer
  answers_on_front later begun op (answers.On n slot found) grows is =
      let told = handle_told_later plan v later.seen handle made grows in
      let here : FindsFor op (release_home plan.first) handle.version.src found = subst (λ (home : Sources). FindsFor op home handle.version.src found) made.version.0 is.2 in
      ((told.0 ∙ sym is.0, told.1 ∙ sym is.1), subst (λ (src : ℕ). FindsFor op (release_home plan.first) src found) (sym (version_source later.seen grows)) here)
  answers_on_front later begun op _ grows is = absurd is

-- ---- the slots that are told ----

-- the slot of the handle keeps its number
pub on_handle_keeps : (state : ListState) (op : Op) (handle : Handle Release) (answer : Answer) → IsOnHandle op handle answer → KeepsIn state handle.slot handle.number
    → (told : InSlot) → Contains (versions_told answer) told → KeepsIn state told.slot told.n
on_handle_keeps state op handle (answers.On n slot found) is keeps =
    one_told state n slot (subst (λ (number : ℕ). KeepsIn state slot number) (sym is.0) (subst (λ (place : ℕ). KeepsIn state place handle.number) (sym is.1) keeps))
on_handle_keeps state op handle _ is keeps = absurd is

-- the slot of the version at the front keeps its number
pub on_front_keeps : (round : Round) (op : Op) (w : ℕ) (answer : Answer) → 0 < round.slots → replays round.slots round.journal ≡ true → AnswersOnFrontAt round op w answer → TellsKept round w answer
on_front_keeps round op w (answers.On n slot found) some replay is =
    let part : List Write = take w round.journal in
    one_told (state_after round.slots part) n slot (front_keeps round.slots part n slot some (replays_take round.slots round.journal w replay) is.0)
on_front_keeps round op w _ some replay is = absurd is
