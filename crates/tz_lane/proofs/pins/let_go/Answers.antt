use Rattle.std.proofs.Common.{◌≡◌, ℕ, ◌<◌, ◌∷◌, IsPermutation, take, sym, ap, subst, List, ◌∙◌, arith}
use Rattle.std.proofs.Math.Seq.{take-length}
use Rattle.pin_book.specs.declared.write.Write.{Write}
use Rattle.pin_book.specs.Replay.{state_after}
use Rattle.pin_core.specs.declared.entry.Entry.{Entry}
use Rattle.pin_table.specs.Handles.{pin_of}
use Rattle.pin_table.specs.Reader.{reader_view}
use Rattle.pin_table.specs.Table.{plan}
use Rattle.tz_lane.proofs.Fronts.{handle_told_later, taken_off}
use Rattle.tz_lane.proofs.Kept.{KeepsIn, keeps_here, one_told}
use Rattle.tz_lane.proofs.Readers.{same_number}
use Rattle.tz_lane.proofs.pins.let_go.Goals as goal

pub returns-clause-answer : goal.returns-clause-answer
returns-clause-answer c sources begun =
    let told = handle_told_later (plan c.args.reader.now.table.now) (reader_view c.args.reader.now) (reader_view c.release-released.new.self).seen c.args.handle c.requires.made c.release-released.ensures.released.more.grows in
    (told.0 ∙ sym c.release-released.ensures.released.number, told.1 ∙ sym c.release-released.ensures.released.slot)

pub returns-clause-entries : goal.returns-clause-entries
returns-clause-entries c =
    subst (λ (entries : List Entry). IsPermutation (reader_view c.args.reader.now).entries (pin_of c.args.handle ∷ entries))
    (sym (ap (λ v. v.entries) c.release-released.ensures.released.view))
    (taken_off (reader_view c.args.reader.now).entries c.release-released.ensures.released.at (pin_of c.args.handle) c.release-released.ensures.released.there)

pub returns-clause-kept : goal.returns-clause-kept
returns-clause-kept c sources begun =
    let slots = (plan c.args.reader.now.table.now).slots in
    let released = c.release-released.ensures.released in
    let told = c.release-released.result in
    let seen = (reader_view c.release-released.new.self).seen in
    let inside : c.args.handle.slot < slots = c.requires.made.holds.inside in
    let keeps = keeps_here slots seen c.args.handle.number c.args.handle.slot (omega (arith, inside)) released.more.replay inside released.kept in
    let all : take told.w seen ≡ seen = ap (λ (w : ℕ). take w seen) released.w ∙ take-length seen in
    let here : KeepsIn (state_after slots (take told.w seen)) told.slot told.number =
    subst (λ (writes : List Write). KeepsIn (state_after slots writes) told.slot told.number) (sym all)
    (subst (λ (slot : ℕ). KeepsIn (state_after slots seen) slot told.number) (sym released.slot)
    (subst (λ (n : ℕ). KeepsIn (state_after slots seen) c.args.handle.slot n) (sym released.number) keeps)) in
    one_told (state_after slots (take told.w seen)) told.number told.slot here

pub returns-clause-left : goal.returns-clause-left
returns-clause-left c =
    let released = c.release-released.ensures.released in
    record { at = released.at; there = released.there; is = ap (λ v. v.entries) released.view }

pub returns-clause-number : goal.returns-clause-number
returns-clause-number c = same_number c.args.reader.now c.release-released.new.self (ap (λ v. v.numbers) c.release-released.ensures.released.view)
