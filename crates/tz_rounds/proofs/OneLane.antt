-- With one lane each position is how many writes the replies up to that one tell of.
use Rattle.std.proofs.Common.{◌≡◌, ℕ, ◌+◌, ◌-◌, ◌≤◌, ◌<◌, ◌==◌, Bool, true, false, cond, List, [], ◌∷◌, ◌++◌, length, filter, Contains, count_by, refl, sym, ap, subst, ◌∙◌, arith, length-append, append_assoc}
use Rattle.std.specs.Prelude.{All}
use Rattle.std.proofs.lemmas.Bool.{and_from, eq-eqb}
use Rattle.std.proofs.lemmas.List.{length-map}
use Rattle.std.proofs.lemmas.List.Elements.{All-contains, All-head, All-tail, All-weaker, Contains-append_right}
use Rattle.std.proofs.lemmas.List.Sums.{fold-append, sum_by-cons, sum_by_push}
use Rattle.tz_script.specs.declared.operation.Operation.{Operation}
use Rattle.pin_core.specs.declared.view.View.{View}
use Rattle.pin_table.specs.declared.sitting.Plan.{Plan}
use Rattle.tz_batch.specs.Batch.{Batch, Answered, answered, each_answered, tells_write}
use Rattle.tz_batch.specs.Positions.{PositionsCountWrites}
use Rattle.tz_batch.specs.Round.{Round, InTurn, is_beside, position_before}
use Rattle.tz_batch.specs.Run.{HasPosition}
use Rattle.tz_batch.specs.declared.reply.Reply.{Reply}
use Rattle.tz_lane.specs.Lane.{IsAbove}
use Rattle.tz_lane.proofs.Running.{last_of}
use Rattle.tz_rounds.specs.Rounds.{of_lane, IsOfRound, RanLane, RanRounds}
use Rattle.tz_rounds.proofs.Lanes as lanes
use Rattle.tz_rounds.proofs.Lists.{all_from, all_of_first, front_short, filter_all, count_parts}
use Rattle.tz_rounds.proofs.Turns.{tells, stands_there, Turn}
use Rattle.tz_rounds.proofs.Written.{in_turn}

-- ---- positions that rise with the writes ----

-- by how much a reply raises the position at least
abbrev rise : Answered → ℕ
rise here = cond (tells here) 1 0

-- each position is no lower than the one before it, and above it where the reply tells of a write; the first one after this
abbrev Rise : ℕ → List Answered → Type 0
Rise w those = InTurn those (λ before here. last_of w before + rise here ≤ here.reply.w)

-- so the last one is at least as many above the first as are told
rise_all : (w : ℕ) (those : List Answered) → Rise w those → w + count_by tells those ≤ last_of w those
rise_all w [] rises = omega arith
rise_all w (here ∷ later) rises =
    let first = rises [] later here refl in
    let rest = rise_all here.reply.w later (λ before behind one is. rises (here ∷ before) behind one (ap (λ (xs : List Answered). here ∷ xs) is)) in
    omega (arith, first, rest, sum_by-cons rise here later)

-- the last one is no higher than all of them
last_low : (most w : ℕ) (those : List Answered) → w ≤ most → All (λ (one : Answered). one.reply.w ≤ most) those → last_of w those ≤ most
last_low most w [] low all = low
last_low most w (here ∷ later) low all =
    last_low most here.reply.w later (All-head (λ (one : Answered). one.reply.w ≤ most) here later all) (All-tail (λ (one : Answered). one.reply.w ≤ most) here later all)

-- Where they rise no higher than by all that is told, each one is above the first by what is told up to it.
rise_exactly : (w most : ℕ) (before later : List Answered) (here : Answered) → Rise w (before ++ here ∷ later) → All (λ (one : Answered). one.reply.w ≤ most) (before ++ here ∷ later)
    → most ≤ w + count_by tells (before ++ here ∷ later) → here.reply.w ≡ w + count_by tells before + rise here
rise_exactly w most before later here rises low few =
    let at_here = rises before later here refl in
    let up_to = rise_all w before (λ front behind one is. rises front (behind ++ here ∷ later) one (ap (λ (xs : List Answered). xs ++ here ∷ later) is ∙ append_assoc front (one ∷ behind) (here ∷ later))) in
    let from = rise_all here.reply.w later (λ front behind one is.
    subst (λ (last : ℕ). last + rise one ≤ one.reply.w) (fold-append (λ (v : ℕ) (other : Answered). other.reply.w) w before (here ∷ front))
    (rises (before ++ here ∷ front) behind one (ap (λ (xs : List Answered). before ++ here ∷ xs) is ∙ sym (append_assoc before (here ∷ front) (one ∷ behind))))) in
    let highest = last_low most here.reply.w later (All-contains (λ (one : Answered). one.reply.w ≤ most) (before ++ here ∷ later) here low (stands_there before later here))
    (all_from (λ (one : Answered). one.reply.w ≤ most) later
    (λ one has. All-contains (λ (it : Answered). it.reply.w ≤ most) (before ++ here ∷ later) one low (stands_behind before later here one has))) in
    omega (arith, at_here, up_to, from, highest, few, count_parts tells before (here ∷ later), sum_by-cons rise here later)
  where
    stands_behind : (before later : List Answered) (here one : Answered) → Contains later one → Contains (before ++ here ∷ later) one
    stands_behind before later here one has = Contains-append_right before (here ∷ later) one (Contains-append_right (here ∷ []) later one has)

-- ---- in a round ----

module _ {P : Type 0} (plan : Plan P) (batch : Batch) (rounds : ℕ) (main : View) (ran : RanRounds plan batch rounds main) (one_lane : plan.readers ≡ 1) (before later : List Answered) (here : Answered) (is : answered batch ≡ before ++ here ∷ later) where
  abbrev turn : Turn plan batch.sources batch.outcome.journal before later here
  turn = lanes.turn plan batch rounds main ran before later here is

  -- all operations of the round
  abbrev those : List Answered
  those = turn.front ++ here ∷ turn.behind

  abbrev lane : ℕ
  lane = here.operation.lane

  abbrev ran_lane : RanLane plan batch.sources (lane - 1) (of_lane lane those) turn.main turn.main'
  ran_lane = lanes.ran_lane plan batch rounds main ran before later here is

  abbrev known : Round
  known = lanes.known plan batch rounds main ran before later here is

  inside : IsOfRound plan.readers here.operation.round here
  inside = lanes.inside plan batch rounds main ran before later here is

  -- are those of the one lane
  lane_all : of_lane lane those ≡ those
  lane_all =
      filter_all (λ (one : Answered). one.operation.lane == lane) those
      (All-weaker (IsOfRound plan.readers here.operation.round) (λ (one : Answered). (one.operation.lane == lane) ≡ true)
      (λ one in_round. eq-eqb one.operation.lane lane (omega (arith, in_round.some, in_round.few, inside.some, inside.few, one_lane))) those turn.ran.inside)

  -- which stand beside each of them
  beside_all : (front behind : List Answered) (one : Answered) → those ≡ front ++ one ∷ behind → filter (is_beside one.operation) front ≡ front
  beside_all front behind one parts =
      let in_round : All (IsOfRound plan.readers here.operation.round) (front ++ one ∷ behind) = subst (All (IsOfRound plan.readers here.operation.round)) parts turn.ran.inside in
      let own = All-contains (IsOfRound plan.readers here.operation.round) (front ++ one ∷ behind) one in_round (stands_there front behind one) in
      filter_all (is_beside one.operation) front
      (All-weaker (IsOfRound plan.readers here.operation.round) (λ (other : Answered). is_beside one.operation other ≡ true)
      (λ other it. and_from (other.operation.lane == one.operation.lane) (other.operation.round == one.operation.round)
      (eq-eqb other.operation.lane one.operation.lane (omega (arith, it.some, it.few, own.some, own.few, one_lane)))
      (eq-eqb other.operation.round one.operation.round (it.round_is ∙ sym own.round_is)))
      front (all_of_first (IsOfRound plan.readers here.operation.round) front (one ∷ behind) in_round))

  positions : InTurn those (HasPosition known)
  positions = subst (λ (xs : List Answered). InTurn xs (HasPosition known)) lane_all ran_lane.runs.positions

  above : InTurn those (IsAbove known)
  above = subst (λ (xs : List Answered). InTurn xs (IsAbove known)) lane_all ran_lane.runs.above

  rises : Rise (length ran_lane.out.seen) those
  rises front behind one parts =
      let last : position_before known front one.operation ≡ last_of (length ran_lane.out.seen) front = ap (last_of (length ran_lane.out.seen)) (beside_all front behind one parts) in
      subst (λ (w : ℕ). w + rise one ≤ one.reply.w) last
      (raised (tells one) (position_before known front one.operation) one.reply.w (positions front behind one parts).low (above front behind one parts))
    where
      raised : (told : Bool) (v w : ℕ) → v ≤ w → (told ≡ true → v < w) → v + cond told 1 0 ≤ w
      raised true v w low over = omega (arith, over refl)
      raised false v w low over = omega (arith, low)

  low : All (λ (one : Answered). one.reply.w ≤ length ran_lane.back.seen) those
  low = all_from (λ (one : Answered). one.reply.w ≤ length ran_lane.back.seen) those (λ one has. (in_turn those (HasPosition known) positions one has).1.high)

  -- The position is how many writes are told up to it.
  counted : here.reply.w ≡ count_by tells before + rise here
  counted =
      let few = front_short ran_lane.back.seen turn.main'.seen ran_lane.seen in
      let all = count_parts tells turn.earlier those in
      let first = ap length ran_lane.seen_first in
      let exact = rise_exactly (length ran_lane.out.seen) (length ran_lane.back.seen) turn.front turn.behind here rises low (omega (arith, few, all, first, turn.start, turn.end)) in
      omega (arith, exact, first, turn.start, ap (count_by tells) turn.before_is, count_parts tells turn.earlier turn.front)

-- ---- all replies ----

-- a reply with its operation, among all of them
record StandsAt (operations : List Operation) (before later : List Reply) (here : Reply) : Type 0 where
  old : List Answered
  one : Answered
  rest : List Answered
  parts : each_answered operations (before ++ here ∷ later) ≡ old ++ one ∷ rest
  reply_is : one.reply ≡ here
  count : count_by tells old ≡ count_by (λ (reply : Reply). tells_write reply.answer) before

stands_at : (operations : List Operation) (before later : List Reply) (here : Reply) → length operations ≡ length (before ++ here ∷ later) → StandsAt operations before later here
stands_at [] before later here long = absurd (omega (arith, long, length-append before (here ∷ later)))
stands_at (operation ∷ operations) [] later here long = record {
  old = [];
  one = record { operation = operation; reply = here };
  rest = each_answered operations later;
  parts = refl;
  reply_is = refl;
  count = refl;
}
stands_at (operation ∷ operations) (reply ∷ before) later here long =
    let at = stands_at operations before later here (omega (arith, long)) in
    let first : Answered = record { operation = operation; reply = reply } in
    record {
      old = first ∷ at.old;
      one = at.one;
      rest = at.rest;
      parts = ap (λ (xs : List Answered). first ∷ xs) at.parts;
      reply_is = at.reply_is;
      count = omega (arith, sum_by-cons rise first at.old, sum_by-cons (λ (it : Reply). cond (tells_write it.answer) 1 0) reply before, at.count);
    }

-- With one lane each position is how many writes are told up to it.
pub positions_count_writes : {P : Type 0} (plan : Plan P) (batch : Batch) (rounds : ℕ) (main : View) → RanRounds plan batch rounds main → PositionsCountWrites batch.lanes batch.outcome.replies
positions_count_writes plan batch rounds main ran one_lane before later here is =
    let long : length batch.operations ≡ length batch.outcome.replies =
    sym (length-map batch.operations (λ (operation : Operation). operation.line)) ∙ sym (ap length ran.one_each) ∙ length-map batch.outcome.replies (λ (reply : Reply). reply.line) in
    let at = stands_at batch.operations before later here (long ∙ ap length is) in
    let all : answered batch ≡ at.old ++ at.one ∷ at.rest = ap (each_answered batch.operations) is ∙ at.parts in
    let exact = counted plan batch rounds main ran (ran.lanes ∙ one_lane) at.old at.rest at.one all in
    let own : rise at.one ≡ cond (tells_write here.answer) 1 0 = ap (λ (reply : Reply). cond (tells_write reply.answer) 1 0) at.reply_is in
    omega (arith, exact, own, at.count, ap (λ (reply : Reply). reply.w) at.reply_is, sum_by_push (λ (reply : Reply). cond (tells_write reply.answer) 1 0) before here)
