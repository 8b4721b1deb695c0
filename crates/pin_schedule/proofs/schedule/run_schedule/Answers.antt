use Rattle.std.proofs.Common.{rules, ◌≡◌, ◌+◌, ◌<◌, ◌≤◌, true, false, length, take, ap, subst, inl, arith, Err}
use Rattle.std.proofs.lemmas.Bool.{both_ways}
use Rattle.std.proofs.lemmas.List.{take_all}
use Rattle.pin_core.specs.Core.{CoreState}
use Rattle.pin_core.specs.Step.{opening_with_readers}
use Rattle.pin_schedule.specs.declared.event.Event.{Event}
use Rattle.pin_schedule.specs.declared.event.Kind.TheVariants.{LoadFront}
use Rattle.pin_schedule.specs.declared.schedule_error.ScheduleError.TheVariants as errors
use Rattle.pin_schedule.specs.Schedule.{after_events, AreAllowed, IsFirstRefused}
use Rattle.pin_schedule.specs.Progress.{Stands}
use Rattle.pin_schedule.proofs.OpeningLemmas.{opening_played}
use Rattle.pin_schedule.proofs.EventLemmas.{state_more, allowed_more, refused_here, none_refused, one_refused}
use Rattle.pin_schedule.proofs.schedule.run_schedule.Goals as goal

abbrev none : Event
none = record { reader = 0; kind = LoadFront }

pub loop-index-init : goal.loop-index-init
loop-index-init c = record {
  allowed = tt;
  stands = record {
    played = opening_played c.args.room c.args.slots c.args.readers (let least = c.requires.slots.0 in omega arith) c.requires.slots.1 c.requires.readers.1 c.requires.room.1;
    told = c.in_ok-course.ensures;
  };
}

pub returns-then-not-allows-clause-refused : goal.returns-then-not-allows-clause-refused
returns-then-not-allows-clause-refused c = λ index is.
    (let s = opening_with_readers c.args.slots c.args.readers c.args.room in
    let low : c.loop-index.index < length c.args.events.now = omega arith in
    let not_allowed : c.allows.result ≡ false = search rules in
    let same : c.loop-index.index ≡ index = cc in
    subst (IsFirstRefused s c.args.events.now) same (refused_here s c.args.events.now c.loop-index.index none low c.loop-index.invariant.allowed
    (λ allowed. both_ways c.allows.result not_allowed ((c.allows.ensures c.loop-index.index c.args.room (after_events s (take c.loop-index.index c.args.events.now)) c.loop-index.invariant.stands).1 allowed))))

pub returns-then-not-allows-clause-found : goal.returns-then-not-allows-clause-found
returns-then-not-allows-clause-found c = λ index first.
    (let s = opening_with_readers c.args.slots c.args.readers c.args.room in
    let low : c.loop-index.index < length c.args.events.now = omega arith in
    let not_allowed : c.allows.result ≡ false = search rules in
    let here = refused_here s c.args.events.now c.loop-index.index none low c.loop-index.invariant.allowed
    (λ allowed. both_ways c.allows.result not_allowed ((c.allows.ensures c.loop-index.index c.args.room (after_events s (take c.loop-index.index c.args.events.now)) c.loop-index.invariant.stands).1 allowed)) in
    inl (ap (λ n. Err (errors.NotAllowed n)) (one_refused s c.args.events.now c.loop-index.index index here first)))

pub make-requires : goal.make-requires
make-requires c =
    let s = opening_with_readers c.args.slots c.args.readers c.args.room in
    let is_allowed : c.allows.result ≡ true = search rules in
    record {
      made = c.loop-index.index;
      room = c.args.room;
      state = after_events s (take c.loop-index.index c.args.events.now);
      few = (let many = c.requires.events in omega arith);
      stands = c.loop-index.invariant.stands;
      allowed = (c.allows.ensures c.loop-index.index c.args.room (after_events s (take c.loop-index.index c.args.events.now)) c.loop-index.invariant.stands).0 is_allowed;
    }

pub loop-index-preserved : goal.loop-index-preserved
loop-index-preserved c =
    let s = opening_with_readers c.args.slots c.args.readers c.args.room in
    let low : c.loop-index.index < length c.args.events.now = omega arith in
    let is_allowed : c.allows.result ≡ true = search rules in
    let allowed = (c.allows.ensures c.loop-index.index c.args.room (after_events s (take c.loop-index.index c.args.events.now)) c.loop-index.invariant.stands).0 is_allowed in
    record {
      allowed = allowed_more s c.args.events.now c.loop-index.index none low c.loop-index.invariant.allowed allowed;
      stands = subst (λ (t : CoreState). Stands (c.loop-index.index + 1) c.args.room t c.make.new.self) (state_more s c.args.events.now c.loop-index.index none low)
          (c.in_ok-make.ensures c.loop-index.index c.args.room (after_events s (take c.loop-index.index c.args.events.now)) c.loop-index.invariant.stands allowed);
    }

pub returns-clause-found : goal.returns-clause-found
returns-clause-found c = λ index first.
    (let s = opening_with_readers c.args.slots c.args.readers c.args.room in
    let high : length c.args.events.now ≤ c.loop-index.index = omega arith in
    absurd (none_refused s c.args.events.now index (subst (AreAllowed s) (take_all c.loop-index.index c.args.events.now high) c.loop-index.invariant.allowed) first))
