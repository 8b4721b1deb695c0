-- What is right of a reply by its lane alone is right of it among all lanes.
use Rattle.std.proofs.Common.{◌≡◌, ℕ, ◌+◌, ◌-◌, ◌≤◌, ◌<◌, ◌==◌, ⊎_elim, Bool, true, false, ◌&&◌, List, [], ◌∷◌, ◌++◌, length, take, fold, Contains, count_by, refl, sym, ap, subst, ◌∙◌, arith, append_assoc}
use Rattle.std.specs.Prelude.{All}
use Rattle.std.specs.List.{filter}
use Rattle.std.proofs.Math.Seq.{take-length}
use Rattle.std.proofs.lemmas.Bool.{and_from, and_right, cond-true, eq-eqb, ne_eqb}
use Rattle.std.proofs.lemmas.List.Elements.{All-contains, All-same, All-weaker, Contains-append_left, Contains-append_right, Contains-append_cases, filter-append, filter_passes}
use Rattle.std.proofs.lemmas.List.Sums.{fold-append}
use Rattle.tz_script.specs.declared.holds.OpenHold.{OpenHold}
use Rattle.pin_book.specs.declared.write.Write.{Write}
use Rattle.pin_core.specs.declared.view.View.{View}
use Rattle.pin_table.specs.declared.sitting.Plan.{Plan}
use Rattle.tz_batch.specs.Answering.{IsRightReply}
use Rattle.tz_batch.specs.Batch.{Batch, Answered, answered, start_of, is_write_before}
use Rattle.tz_batch.specs.Held.{holds_in, open_holds, IsOpenHold, IsHeldAs}
use Rattle.tz_batch.specs.PassedOver.{IsHeldSlot}
use Rattle.tz_batch.specs.Round.{Round, round_of, is_beside, position_before, InTurn}
use Rattle.tz_batch.specs.Run.{HasPosition, SlotsKeep, PassesOver}
use Rattle.tz_batch.proofs.HeldSlots.{BeganIn, began, one_round}
use Rattle.tz_lane.specs.Meeting.{lane_round}
use Rattle.tz_lane.proofs.Growth.{GoesOn, Implies, answer_grows, kept_grows, slots_grow, held_grows, held_slot_grows, held_slot_stood}
use Rattle.tz_rounds.specs.Rounds.{of_lane, IsOfRound, RanLane, RanRounds}
use Rattle.tz_rounds.proofs.LaneHolds.{is_of, lane_holds, holds_stay}
use Rattle.tz_rounds.proofs.Lists.{all_from, all_of_first, front_short, front_of_front, was_there, filter_all, filter_none, filter_same}
use Rattle.tz_rounds.proofs.Turns.{IsBefore, IsAtRound, stands_there, Turn, turn_of, starts_behind}
use Rattle.tz_rounds.proofs.Written.{in_turn, lane_number, told_all_at_last}

module _ {P : Type 0} (plan : Plan P) (batch : Batch) (rounds : ℕ) (main : View) (ran : RanRounds plan batch rounds main) (before later : List Answered) (here : Answered) (is : answered batch ≡ before ++ here ∷ later) where
  -- the operation's round and lane
  abbrev round : ℕ
  round = here.operation.round

  abbrev lane : ℕ
  lane = here.operation.lane

  -- ---- the round ----

  -- the operation in its round
  pub turn : Turn plan batch.sources batch.outcome.journal before later here
  turn =
      let whole = ran.whole in
      let seen : take (length main.seen) batch.outcome.journal ≡ main.seen = ap (take (length main.seen)) (sym whole.seen) ∙ take-length main.seen in
      let writers : All (λ (write : Write). write.by < plan.readers) main.seen =
      All-same (λ (write : Write). write.by < plan.readers) main.seen batch.outcome.journal whole.seen whole.writers in
      turn_of plan batch.sources batch.outcome.journal rounds (answered batch) main ran.ran seen
      (told_all_at_last plan batch.sources rounds (answered batch) main batch.outcome.journal ran.ran whole) writers before later here is

  -- all operations of the round
  abbrev pub those : List Answered
  those = turn.front ++ here ∷ turn.behind

  pub inside : IsOfRound plan.readers round here
  inside = All-contains (IsOfRound plan.readers round) those here turn.ran.inside (stands_there turn.front turn.behind here)

  all_parts : answered batch ≡ turn.earlier ++ (those ++ turn.rest)
  all_parts =
      is ∙ ap (λ (xs : List Answered). xs ++ here ∷ later) turn.before_is
      ∙ ap (λ (xs : List Answered). (turn.earlier ++ turn.front) ++ here ∷ xs) turn.later_is
      ∙ append_assoc turn.earlier turn.front (here ∷ (turn.behind ++ turn.rest))
      ∙ ap (λ (xs : List Answered). turn.earlier ++ xs) (sym (append_assoc turn.front (here ∷ turn.behind) turn.rest))

  starts : (start_of batch round ≡ length turn.main.seen) × (start_of batch (round + 1) ≡ length turn.main'.seen)
  starts =
      let at : All (IsAtRound round) those = All-weaker (IsOfRound plan.readers round) (IsAtRound round) (λ one in_round. in_round.round_is) those turn.ran.inside in
      let both = starts_behind round turn.earlier those turn.rest turn.older at turn.newer in (
        ap (count_by (is_write_before round)) all_parts ∙ both.0 ∙ turn.start,
        ap (count_by (is_write_before (round + 1))) all_parts ∙ both.1 ∙ turn.end,
      )

  -- ---- the lane ----

  pub ran_lane : RanLane plan batch.sources (lane - 1) (of_lane lane those) turn.main turn.main'
  ran_lane =
      subst (λ (l : ℕ). RanLane plan batch.sources (lane - 1) (of_lane l those) turn.main turn.main') (lane_number lane inside.some)
      (turn.ran.lanes (lane - 1) (omega (arith, inside.some, inside.few)))

  -- the lane's operations before this one in the round
  abbrev own : List Answered
  own = of_lane lane turn.front

  own_parts : of_lane lane those ≡ own ++ here ∷ of_lane lane turn.behind
  own_parts =
      filter-append (λ (one : Answered). one.operation.lane == lane) turn.front (here ∷ turn.behind)
      ∙ ap (λ (xs : List Answered). own ++ xs) (cond-true (lane == lane) (here ∷ of_lane lane turn.behind) (of_lane lane turn.behind) (eq-eqb lane lane refl))

  -- the round as the lane knows it, and as it is
  abbrev pub known : Round
  known = lane_round plan batch.sources (length ran_lane.out.seen) ran_lane.back

  abbrev whole_round : Round
  whole_round = round_of batch round

  goes_on : GoesOn known whole_round
  goes_on = record {
    lanes = sym ran.lanes;
    sources = refl;
    slots = sym ran.slots;
    start = starts.0 ∙ sym ran_lane.floor ∙ sym ran_lane.runs.keeps.floor;
    grows = front_of_front ran_lane.back.seen turn.main'.seen batch.outcome.journal ran_lane.seen turn.seen;
  }

  begins : whole_round.seen ≡ known.seen
  begins = starts.0 ∙ sym (ap length ran_lane.seen_first)

  ends : known.end ≤ whole_round.end
  ends = omega (arith, starts.1, front_short ran_lane.back.seen turn.main'.seen ran_lane.seen)

  -- a fact of the lane's own operations
  by_lane : (fact : List Answered → Answered → Type 0) → InTurn (of_lane lane those) fact → fact own here
  by_lane fact each = each own (of_lane lane turn.behind) here own_parts

  position : HasPosition known own here
  position = by_lane (HasPosition known) ran_lane.runs.positions

  within : (one : Answered) → Contains own one → one.reply.w ≤ length known.journal
  within one has =
      let there : Contains (of_lane lane those) one =
      subst (λ (xs : List Answered). Contains xs one) (sym own_parts) (Contains-append_left own (here ∷ of_lane lane turn.behind) one has) in
      (in_turn (of_lane lane those) (HasPosition known) ran_lane.runs.positions one there).1.high

  -- ---- those before ----

  -- operations of the round
  at_round : All (IsOfRound plan.readers round) turn.front
  at_round = all_of_first (IsOfRound plan.readers round) turn.front (here ∷ turn.behind) turn.ran.inside

  apart : (one : Answered) → IsBefore round one → (one.operation.round == round) ≡ false
  apart one older = ne_eqb one.operation.round round (λ same. omega (arith, same, older))

  -- the lane's operations before this one are those beside it
  beside_before : filter (is_beside here.operation) before ≡ own
  beside_before =
      ap (filter (is_beside here.operation)) turn.before_is
      ∙ filter-append (is_beside here.operation) turn.earlier turn.front
      ∙ ap (λ (xs : List Answered). xs ++ filter (is_beside here.operation) turn.front)
      (filter_none (is_beside here.operation) turn.earlier
      (All-weaker (IsBefore round) (λ (one : Answered). is_beside here.operation one ≡ false)
      (λ one older. and_right (one.operation.lane == lane) (one.operation.round == round) (apart one older)) turn.earlier turn.older))
      ∙ filter_same (is_beside here.operation) (λ (one : Answered). one.operation.lane == lane) turn.front
      (All-weaker (IsOfRound plan.readers round) (λ (one : Answered). is_beside here.operation one ≡ (one.operation.lane == lane))
      (λ one in_round. by_round (one.operation.lane == lane) (one.operation.round == round) (eq-eqb one.operation.round round in_round.round_is)) turn.front at_round)
    where
      by_round : (a b : Bool) → b ≡ true → (a && b) ≡ a
      by_round true b holds = holds
      by_round false b holds = refl

  beside_own : filter (is_beside here.operation) own ≡ own
  beside_own =
      filter_all (is_beside here.operation) own
      (all_from (λ (one : Answered). is_beside here.operation one ≡ true) own
      (λ one has. (
      let in_round = All-contains (IsOfRound plan.readers round) turn.front one at_round (was_there (λ (it : Answered). it.operation.lane == lane) turn.front one has) in
      let in_lane = All-contains (λ (it : Answered). (it.operation.lane == lane) ≡ true) own one (filter_passes (λ (it : Answered). it.operation.lane == lane) turn.front) has in
      and_from (one.operation.lane == lane) (one.operation.round == round) in_lane (eq-eqb one.operation.round round in_round.round_is))))

  -- so the last position is the same
  last_same : position_before whole_round before here.operation ≡ position_before known own here.operation
  last_same =
      ap (λ (xs : List Answered). fold (λ (w : ℕ) (other : Answered). other.reply.w) whole_round.seen xs) (beside_before ∙ sym beside_own)
      ∙ ap (λ (w : ℕ). fold (λ (v : ℕ) (other : Answered). other.reply.w) w (filter (is_beside here.operation) own)) begins

  -- ---- open holds ----

  holds_before : open_holds round before ≡ fold (holds_in round) [] turn.front
  holds_before =
      ap (open_holds round) turn.before_is
      ∙ fold-append (holds_in round) [] turn.earlier turn.front
      ∙ ap (λ (holds : List OpenHold). fold (holds_in round) holds turn.front)
      (holds_stay round turn.earlier [] (All-weaker (IsBefore round) (λ (one : Answered). (one.operation.round == round) ≡ false) apart turn.earlier turn.older))

  holds_own : open_holds round own ≡ filter (is_of lane) (fold (holds_in round) [] turn.front)
  holds_own = sym (lane_holds lane round turn.front [])

  -- what the lane holds is held
  open_widens : (hold : OpenHold) (begun : Answered) → IsOpenHold own round hold begun → IsOpenHold before round hold begun
  open_widens hold begun open_hold = record {
    is_open =
        subst (λ (holds : List OpenHold). Contains holds hold) (sym holds_before)
        (was_there (is_of lane) (fold (holds_in round) [] turn.front) hold (subst (λ (holds : List OpenHold). Contains holds hold) holds_own open_hold.is_open));
    is_before =
        subst (λ (xs : List Answered). Contains xs begun) (sym turn.before_is)
        (Contains-append_right turn.earlier turn.front begun (was_there (λ (one : Answered). one.operation.lane == lane) turn.front begun open_hold.is_before));
    line = open_hold.line;
  }

  held_widens : Implies (IsHeldAs known own here.operation) (IsHeldAs whole_round before here.operation)
  held_widens name edition held =
      let later_held = held_grows known whole_round goes_on own here.operation within name edition held in
      record {
        open_hold = later_held.open_hold;
        begun = later_held.begun;
        is = open_widens later_held.open_hold later_held.begun later_held.is;
        lane = later_held.lane;
        name_is = later_held.name_is;
        version = later_held.version;
      }

  slot_widens : (slot : ℕ) → IsHeldSlot known own here.operation slot → IsHeldSlot whole_round before here.operation slot
  slot_widens slot held =
      let later_held = held_slot_grows known whole_round goes_on own here.operation within slot held in
      record {
        open_hold = later_held.open_hold;
        begun = later_held.begun;
        is = open_widens later_held.open_hold later_held.begun later_held.is;
        in_slot = later_held.in_slot;
      }

  -- ---- one lane ----

  -- with one lane all operations of the round are its own
  own_all : plan.readers ≡ 1 → own ≡ turn.front
  own_all one_lane =
      filter_all (λ (one : Answered). one.operation.lane == lane) turn.front
      (All-weaker (IsOfRound plan.readers round) (λ (one : Answered). (one.operation.lane == lane) ≡ true)
      (λ one in_round. eq-eqb one.operation.lane lane (omega (arith, in_round.some, in_round.few, inside.some, inside.few, one_lane))) turn.front at_round)

  -- a hold that is open in the round didn't begin before it
  began_here : (hold : OpenHold) (begun : Answered) → IsOpenHold before round hold begun → Contains turn.front begun
  began_here hold begun open_hold =
      let among = λ (one : Answered) (has : Contains before one). subst (λ (xs : List Answered). Contains xs one) (sym is) (Contains-append_left before (here ∷ later) one has) in
      ⊎_elim
      (λ (old : Contains turn.earlier begun).
      ⊎_elim
      (λ (none : Contains [] hold). absurd (omega (arith, none.1)))
      (λ (first : BeganIn round turn.front hold).
      let first_there = subst (λ (xs : List Answered). Contains xs first.begun) (sym turn.before_is) (Contains-append_right turn.earlier turn.front first.begun first.has) in
      let same : first.begun.operation.round ≡ begun.operation.round =
      one_round batch.operations batch.outcome.replies first.begun begun ran.rising (among first.begun first_there) (among begun open_hold.is_before) (first.line ∙ sym open_hold.line) in
      absurd (omega (arith, same, first.round, All-contains (IsBefore round) turn.earlier begun turn.older old)))
      (began round turn.front [] hold (subst (λ (holds : List OpenHold). Contains holds hold) holds_before open_hold.is_open)))
      (λ (new : Contains turn.front begun). new)
      (Contains-append_cases turn.earlier turn.front begun (subst (λ (xs : List Answered). Contains xs begun) turn.before_is open_hold.is_before))

  slot_narrows : plan.readers ≡ 1 → (slot : ℕ) → IsHeldSlot whole_round before here.operation slot → IsHeldSlot known own here.operation slot
  slot_narrows one_lane slot held =
      let open_hold : IsOpenHold own round held.open_hold held.begun = record {
        is_open =
            subst (λ (holds : List OpenHold). Contains holds held.open_hold)
            (holds_before ∙ ap (fold (holds_in round) []) (sym (own_all one_lane))) held.is.is_open;
        is_before = subst (λ (xs : List Answered). Contains xs held.begun) (sym (own_all one_lane)) (began_here held.open_hold held.begun held.is);
        line = held.is.line;
      } in
      held_slot_stood known whole_round goes_on own here.operation within slot
      (record { open_hold = held.open_hold; begun = held.begun; is = open_hold; in_slot = held.in_slot })

  -- ---- what is right of the reply ----

  -- The reply is right.
  pub is_right : IsRightReply whole_round before here
  is_right =
      answer_grows known whole_round goes_on (position_before known own here.operation) (position_before whole_round before here.operation)
      (IsHeldAs known own here.operation) (IsHeldAs whole_round before here.operation) (omega (arith, last_same)) held_widens
      here.operation.op here.reply.w here.reply.answer position.high (by_lane (IsRightReply known) ran_lane.runs.right)

  -- Its position is inside.
  pub has_position : HasPosition whole_round before here
  has_position = record {
    low = omega (arith, last_same, position.low);
    high = omega (arith, position.high, ends);
  }

  -- The slots that it tells keep their numbers.
  pub slots_keep : SlotsKeep whole_round before here
  slots_keep = kept_grows known whole_round goes_on here.reply.w here.reply.answer position.high (by_lane (SlotsKeep known) ran_lane.runs.slots)

  -- What it passes over may be held.
  pub passes_over : PassesOver whole_round before here
  passes_over =
      slots_grow known whole_round goes_on (IsHeldSlot known own here.operation) (IsHeldSlot whole_round before here.operation) slot_widens slot_narrows
      here.reply.w here.reply.answer position.high (by_lane (PassesOver known) ran_lane.runs.pushes)
