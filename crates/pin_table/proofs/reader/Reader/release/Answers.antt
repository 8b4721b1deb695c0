use Rattle.std.proofs.Common.{◌≡◌, ◌∙◌, ap, sym, subst, refl, length, Some, true}
use Rattle.std.specs.Prelude.{slice_get, position}
use Rattle.std.specs.List.{Contains}
use Rattle.pin_book.specs.Replay.{front_number, kept_number}
use Rattle.pin_core.specs.declared.entry.Entry.{Entry}
use Rattle.pin_core.specs.declared.view.View.{View}
use Rattle.pin_core.specs.Lawful.{entry_number}
use Rattle.pin_core.specs.Step.{loaded, unpinned}
use Rattle.pin_table.specs.Handles.{AreAllHeld, pin_of}
use Rattle.pin_table.specs.Table.{plan}
use Rattle.pin_table.proofs.PlaceLemmas.{take_seen}
use Rattle.pin_table.proofs.HandReleases.{left_among}
use Rattle.pin_table.proofs.CallLemmas.{release_keeps}
use Rattle.pin_table.proofs.FrontLemmas.{sees_same, stands_at, found_at, not_missing}
use Rattle.pin_table.proofs.reader.Reader.release.Goals as goal

pub invariant_of-self-clause-handles : goal.invariant_of-self-clause-handles
invariant_of-self-clause-handles g c =
    let now = c.look-front.new.self in let how = plan now.table.now in let v = now.hand.seat.me.0.core in
    subst (λ (w : View). AreAllHeld how.slots w) (sym (ap (λ w. w.core) c.unpin-found.ensures.unpinned)) (λ e among. now.handles e (left_among v.entries c.in-Some.place e among))

-- the handle's pin is found
pub unpin-found-requires-clause-there : goal.unpin-found-requires-clause-there
unpin-found-requires-clause-there g c κs within =
    let now = c.look-front.new.self in let v = now.hand.seat.me.0.core in let slot = c.handle.inside.slot in let w = c.handle.inside.position in
    found_at (plan now.table.now).slots v.seen v.entries slot w c.in-Some.place now.handles (ap (position (stands_at slot w)) (sym (c.as_slice.ensures.value ∙ now.pins)) ∙ sym c.place_among.ensures ∙ c.in-Some.is)

pub unreachable-requires : goal.unreachable-requires
unreachable-requires g c =
    let old = c.args.self.now in let now = c.look-front.new.self in let v = now.hand.seat.me.0.core in let slot = c.handle.inside.slot in let w = c.handle.inside.position in
    not_missing v.entries slot w (subst (λ h. Contains v.entries (pin_of h)) (sym c.handle.view_is) (subst (λ es. Contains es (pin_of c.args.handle)) (sym (ap (λ (x : View). x.entries) c.look-front.ensures.looks.view)) c.requires.made.pinned))
    (ap (position (stands_at slot w)) (sym (c.as_slice.ensures.value ∙ now.pins)) ∙ sym c.place_among.ensures ∙ c.in_default.is)

pub returns-clause-released : goal.returns-clause-released
returns-clause-released g c =
    let old = c.args.self.now in let now = c.look-front.new.self in let v = now.hand.seat.me.0.core in let looks = c.look-front.ensures.looks in let how = plan old.table.now in
    let made = c.requires.made in let e : Entry = pin_of c.args.handle in let view = ap (λ w. w.core) c.unpin-found.ensures.unpinned in let at = c.in-Some.place in
    let slot = c.handle.inside.slot in let w = c.handle.inside.position in
    let found = found_at (plan now.table.now).slots v.seen v.entries slot w at now.handles (ap (position (stands_at slot w)) (sym (c.as_slice.ensures.value ∙ now.pins)) ∙ sym c.place_among.ensures ∙ c.in-Some.is) in
    let same_number : entry_number how.slots v.seen e ≡ c.args.handle.number = ap (front_number how.slots) (take_seen e.position old.hand.seat.me.0.core.seen v.seen made.holds.told looks.more.grows) ∙ sym made.number in
    let entries_same = ap (λ (x : View). x.entries) looks.view in let among = subst (λ es. Contains es e) (sym entries_same) made.pinned in
    let seen_same = ap (λ (x : View). x.seen) view in record {
      at = at;
      there = ap (λ es. slice_get es at) (sym entries_same) ∙ found ∙ ap (λ h. Some (pin_of h)) c.handle.view_is;
      more = sees_same old now _ looks.more seen_same refl;
      view = view ∙ ap (λ (x : View). unpinned at x) (looks.view ∙ ap (λ s. loaded s old.hand.seat.me.0.core) (sym seen_same));
      number = c.unpin-found.ensures.shown ∙ ap (λ t. entry_number (plan t).slots v.seen record { slot = slot; position = w; held = true }) looks.more.table ∙ ap (λ h. entry_number how.slots v.seen (pin_of h)) c.handle.view_is ∙ same_number;
      slot = ap (λ h. h.slot) c.handle.view_is;
      w = looks.front.w ∙ sym (ap (λ (x : View). length x.seen) view);
      kept = subst (λ s. kept_number how.slots s c.args.handle.slot ≡ c.args.handle.number) (sym seen_same)
          (subst (λ t. kept_number (plan t).slots v.seen c.args.handle.slot ≡ entry_number (plan t).slots v.seen e) looks.more.table (now.handles e among).kept ∙ same_number);
    }

pub returns-clause-others : goal.returns-clause-others
returns-clause-others g c = release_keeps g.P.Payload.home g.P.Payload.source c.args.self.now _ c.args.handle _ (returns-clause-released g c)
