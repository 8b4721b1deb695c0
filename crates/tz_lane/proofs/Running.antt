-- What a lane has done so far in its round, and one operation more.
use Rattle.std.proofs.Common.{◌≡◌, ℕ, zero, suc, ◌+◌, ◌-◌, ◌≤◌, ◌<◌, ◌==◌, ◌⊎◌, true, List, [], ◌∷◌, ◌++◌, length, length-append, take, fold, filter, Contains, All, IsTrue, Some, refl, sym, ap, subst, ◌∙◌, inl, inr, ⊎_elim, append_assoc, append-nil, arith}
use Rattle.std.specs.Prelude.{slice_get}
use Rattle.std.proofs.Math.Seq.{take-length}
use Rattle.std.proofs.lemmas.Bool.{and_from, eq-eqb, cond-true}
use Rattle.std.proofs.lemmas.List.{length-take}
use Rattle.std.proofs.lemmas.List.Elements.{All-contains, All-nil, All-cons, All-append, All-tail, Contains-append_right, filter_map-append}
use Rattle.std.proofs.lemmas.List.Sums.{fold-append, sum_by-append, sum_by-cons}
use Rattle.pin_book.specs.declared.write.Change.{Change}
use Rattle.pin_book.specs.declared.write.Change.TheVariants.{Push, Erase}
use Rattle.pin_book.specs.declared.write.Write.{Write}
use Rattle.pin_core.specs.declared.view.View.{View}
use Rattle.pin_table.specs.declared.sitting.Plan.{Plan}
use Rattle.tz_script.specs.declared.operation.Op.{Op}
use Rattle.tz_script.specs.declared.operation.Op.TheVariants as ops
use Rattle.tz_script.specs.declared.operation.Operation.{Operation}
use Rattle.tz_version.specs.declared.sources.Sources.{Sources}
use Rattle.tz_version.specs.Release.{Release}
use Rattle.pin_book.specs.Replay.{Edition}
use Rattle.tz_batch.specs.Answering.{AnswersOp, IsRightReply}
use Rattle.tz_batch.specs.Batch.{Answered, tells_write}
use Rattle.tz_batch.specs.Held.{IsHeldAs}
use Rattle.tz_batch.specs.PassedOver.{IsHeldSlot}
use Rattle.tz_batch.specs.Round.{Round, InTurn, is_beside, position_before}
use Rattle.tz_batch.specs.Run.{PlacedChange, change_told, HasPosition, SlotsKeep, PassesOver}
use Rattle.tz_batch.specs.declared.answer.Answer.{Answer}
use Rattle.tz_batch.specs.declared.answer.Answer.TheVariants as answers
use Rattle.tz_batch.specs.declared.reply.Reply.{Reply}
use Rattle.tz_lane.specs.Counting.{loads_of, turns_of, TalliesRise}
use Rattle.tz_lane.specs.Holding.{LaneHoldsAs, HoldsSlot}
use Rattle.tz_lane.specs.Lane.{changes_told_by, writes_from, IsPlacedIn, RiseAbove, IsAbove, loads_told, turns_told}
use Rattle.tz_lane.specs.Meeting.{lane_round, writes_made, KeepsNumbers, Meets}
use Rattle.tz_lane.specs.Serving.{ServesInLane}
use Rattle.tz_lane.specs.declared.lane_hold.LaneHold.{LaneHold}
use Rattle.tz_lane.specs.declared.told.Told.{Told}
use Rattle.tz_lane.proofs.Fronts.{seen_stays}
use Rattle.tz_lane.proofs.Growth.{GoesOn, write_stays, answer_grows, kept_grows, slots_grow, position_grows, held_grows, held_slot_grows, held_slot_stood}
use Rattle.tz_lane.proofs.Mirrors.{IsOf, IsDropped, Mirrors, mirrors_first, mirrors_next, held_as, held_slot, slot_held}
use Rattle.tz_lane.proofs.Turns.{in_turn_none, in_turn_push, in_turn_map, before_has}

-- a reply to an operation that was told this
abbrev pub reply_of : Operation → Told → Reply
reply_of operation told = record { line = operation.line; w = told.w; answer = told.answer }

abbrev pub answered_as : Operation → Told → Answered
answered_as operation told = record { operation = operation; reply = reply_of operation told }

-- the last of these positions, or this one
abbrev pub last_of : ℕ → List Answered → ℕ
last_of begun those = fold (λ (w : ℕ) (other : Answered). other.reply.w) begun those

-- What a lane has answered so far: all that its run will promise, but that it may still hold something.
pub record HasRun (plan : Plan Release) (sources : Sources) (number lane round : ℕ) (v : View) (those : List Answered) (now : View) (holds : List LaneHold) : Type 0 where
  pub of : All (IsOf lane round) those
  pub low : All (λ (here : Answered). here.reply.w ≤ length now.seen) those
  pub last : last_of (length v.seen) those ≤ length now.seen
  pub grows : take (length v.seen) now.seen ≡ v.seen
  pub right : InTurn those (IsRightReply (lane_round plan sources (length v.seen) now))
  pub positions : InTurn those (HasPosition (lane_round plan sources (length v.seen) now))
  pub above : InTurn those (IsAbove (lane_round plan sources (length v.seen) now))
  pub slots : InTurn those (SlotsKeep (lane_round plan sources (length v.seen) now))
  pub pushes : InTurn those (PassesOver (lane_round plan sources (length v.seen) now))
  pub own : now.own ≡ v.own ++ writes_from number (length v.own) (changes_told_by those)
  pub placed : All (IsPlacedIn now.seen number) (changes_told_by those)
  pub order : RiseAbove (length v.seen) (changes_told_by those)
  pub below : All (λ (placed : PlacedChange). placed.w ≤ length now.seen) (changes_told_by those)
  pub allowance : now.allowance + length (changes_told_by those) ≡ v.allowance
  pub counts : TalliesRise v now (loads_told those) (turns_told those)
  pub keeps : KeepsNumbers v now
  pub mirrors : Mirrors lane round those holds

-- before any operation
pub has_run_none : (plan : Plan Release) (sources : Sources) (number lane round : ℕ) (v : View) → HasRun plan sources number lane round v [] v []
has_run_none plan sources number lane round v = record {
  of = All-nil (IsOf lane round);
  low = All-nil _;
  last = omega arith;
  grows = take-length v.seen;
  right = in_turn_none _;
  positions = in_turn_none _;
  above = in_turn_none _;
  slots = in_turn_none _;
  pushes = in_turn_none _;
  own = sym (append-nil v.own);
  placed = All-nil _;
  order = tt;
  below = All-nil _;
  allowance = omega arith;
  counts = record { loads = omega arith; taken = omega arith };
  keeps = record { role = refl; numbers = refl; floor = refl };
  mirrors = mirrors_first lane round;
}

-- ---- the operations before stay as they were ----

pub no_shorter : (xs ys : List Write) → take (length xs) ys ≡ xs → length xs ≤ length ys
no_shorter xs ys is = let long = ap length is in omega (arith, long, length-take (length xs) ys)

module _ (plan : Plan Release) (sources : Sources) (begun slots : ℕ) (made : List Write) (v now : View) (w : ℕ) (meets : Meets slots v made now w) where
  abbrev earlier : Round
  earlier = lane_round plan sources begun v

  abbrev later : Round
  later = lane_round plan sources begun now

  goes_on : GoesOn earlier later
  goes_on = record { lanes = refl; sources = refl; slots = refl; start = meets.keeps.floor; grows = meets.grows }

  module _ (those : List Answered) (low : All (λ (here : Answered). here.reply.w ≤ length v.seen) those) where
    all_low : (before behind : List Answered) (here it : Answered) → those ≡ before ++ here ∷ behind → Contains before it → it.reply.w ≤ length v.seen
    all_low before behind here it is has = All-contains (λ (x : Answered). x.reply.w ≤ length v.seen) those it low (before_has those before behind here it is has)

    here_low : (before behind : List Answered) (here : Answered) → those ≡ before ++ here ∷ behind → here.reply.w ≤ length v.seen
    here_low before behind here is = All-contains (λ (x : Answered). x.reply.w ≤ length v.seen) those here low (subst (λ (xs : List Answered). Contains xs here) (sym is) (Contains-append_right before (here ∷ behind) here (0, omega arith, refl)))

    right_still : InTurn those (IsRightReply earlier) → InTurn those (IsRightReply later)
    right_still = in_turn_map those (IsRightReply earlier) (IsRightReply later) (λ before behind here is fact.
        answer_grows earlier later goes_on (position_before earlier before here.operation) (position_before later before here.operation) (IsHeldAs earlier before here.operation) (IsHeldAs later before here.operation)
        (omega arith) (held_grows earlier later goes_on before here.operation (λ it has. all_low before behind here it is has)) here.operation.op here.reply.w here.reply.answer (here_low before behind here is) fact)

    positions_still : InTurn those (HasPosition earlier) → InTurn those (HasPosition later)
    positions_still = in_turn_map those (HasPosition earlier) (HasPosition later) (λ before behind here is fact.
        position_grows earlier later (omega arith) (no_shorter v.seen now.seen meets.grows) before here fact)

    above_still : InTurn those (IsAbove earlier) → InTurn those (IsAbove later)
    above_still = in_turn_map those (IsAbove earlier) (IsAbove later) (λ before behind here is fact. fact)

    slots_still : InTurn those (SlotsKeep earlier) → InTurn those (SlotsKeep later)
    slots_still = in_turn_map those (SlotsKeep earlier) (SlotsKeep later) (λ before behind here is fact.
        kept_grows earlier later goes_on here.reply.w here.reply.answer (here_low before behind here is) fact)

    pushes_still : InTurn those (PassesOver earlier) → InTurn those (PassesOver later)
    pushes_still = in_turn_map those (PassesOver earlier) (PassesOver later) (λ before behind here is fact.
        slots_grow earlier later goes_on (IsHeldSlot earlier before here.operation) (IsHeldSlot later before here.operation)
        (held_slot_grows earlier later goes_on before here.operation (λ it has. all_low before behind here it is has))
        (λ one. held_slot_stood earlier later goes_on before here.operation (λ it has. all_low before behind here it is has))
        here.reply.w here.reply.answer (here_low before behind here is) fact)

-- ---- the new reply ----

-- all operations of the lane's round stand beside one of it
all_beside : (lane round : ℕ) (those : List Answered) (operation : Operation) → operation.lane ≡ lane → operation.round ≡ round → All (IsOf lane round) those → filter (is_beside operation) those ≡ those
all_beside lane round [] operation in_lane in_round of = refl
all_beside lane round (other ∷ those) operation in_lane in_round of =
    let first = All-contains (IsOf lane round) (other ∷ those) other of (0, omega arith, refl) in
    let beside : is_beside operation other ≡ true = and_from (other.operation.lane == operation.lane) (other.operation.round == operation.round)
    (eq-eqb other.operation.lane operation.lane (first.0 ∙ sym in_lane)) (eq-eqb other.operation.round operation.round (first.1 ∙ sym in_round)) in
    cond-true (is_beside operation other) (other ∷ filter (is_beside operation) those) (filter (is_beside operation) those) beside
    ∙ ap (λ (xs : List Answered). other ∷ xs) (all_beside lane round those operation in_lane in_round (All-tail (IsOf lane round) other those of))

pub goes_on_itself : (round : Round) → GoesOn round round
goes_on_itself round = record { lanes = refl; sources = refl; slots = refl; start = refl; grows = take-length round.journal }

-- an operation tells of no write and its reader made none, or of the one that its reader made
abbrev Tells : ℕ → View → Answered → Type 0
Tells number v here =
    ((changes_told_by (here ∷ []) ≡ []) × (writes_made number v here.operation.op here.reply.answer ≡ []))
    ⊎ ((change : Change) × (changes_told_by (here ∷ []) ≡ record { w = here.reply.w; change = change } ∷ [])
    × (writes_made number v here.operation.op here.reply.answer ≡ record { by = number; seq = length v.own + 1; change = change } ∷ []))

tells : (number : ℕ) (v : View) (line round lane said w : ℕ) (op : Op) (answer : Answer) → Tells number v (record { operation = record { line = line; round = round; lane = lane; op = op }; reply = record { line = said; w = w; answer = answer } })
tells number v line round lane said w (ops.Reload src) (answers.Pushed n slot) = inr (Push n src slot, refl, refl)
tells number v line round lane said w op (answers.Erased n slot gone) = inr (Erase n gone, refl, refl)
tells number v line round lane said w op answer = inl (refl, refl)

-- an answer that tells of a write comes where the reader made one
made_if_told : (number : ℕ) (v : View) (q : Round) (last : ℕ) (holds : List ℕ → Edition → Type 0) (w : ℕ) (op : Op) (answer : Answer) → AnswersOp q last holds op w answer → IsTrue (tells_write answer) → length (writes_made number v op answer) ≡ 1
made_if_told number v q last holds w (ops.Reload src) (answers.Pushed n slot) right told = refl
made_if_told number v q last holds w op (answers.Pushed n slot) right told = absurd right
made_if_told number v q last holds w op (answers.Erased n slot gone) right told = refl
made_if_told number v q last holds w op answer right told = cc

-- ---- writes ----

pub writes_length : (number count : ℕ) (changes : List PlacedChange) → length (writes_from number count changes) ≡ length changes
writes_length number count [] = refl
writes_length number count (placed ∷ changes) = let rest = writes_length number (count + 1) changes in omega (arith, rest)

writes_append : (number count : ℕ) (xs ys : List PlacedChange) → writes_from number count (xs ++ ys) ≡ writes_from number count xs ++ writes_from number (count + length xs) ys
writes_append number count [] ys = ap (λ (n : ℕ). writes_from number n ys) (omega arith)
writes_append number count (placed ∷ xs) ys =
    ap (λ (writes : List Write). record { by = number; seq = count + 1; change = placed.change } ∷ writes)
    (writes_append number (count + 1) xs ys ∙ ap (λ (n : ℕ). writes_from number (count + 1) xs ++ writes_from number n ys) (omega arith))

placed_still : (seen later : List Write) (number : ℕ) → take (length seen) later ≡ seen → (placed : PlacedChange) → IsPlacedIn seen number placed → IsPlacedIn later number placed
placed_still seen later number grows placed is = record {
  write = is.write;
  there = write_stays seen later (placed.w - 1) grows (inside seen (placed.w - 1) is.write is.there) ∙ is.there;
  by = is.by;
  change = is.change;
}
  where
    inside : (xs : List Write) (k : ℕ) (write : Write) → slice_get xs k ≡ Some write → k < length xs
    inside [] k write there = cc
    inside (x ∷ xs) zero write there = omega arith
    inside (x ∷ xs) (suc k) write there = omega (arith, inside xs k write there)

-- one position more, above all of these
rise_push : (begun most : ℕ) (changes : List PlacedChange) (placed : PlacedChange) → begun ≤ most → RiseAbove begun changes → All (λ (it : PlacedChange). it.w ≤ most) changes → most < placed.w → RiseAbove begun (changes ++ placed ∷ [])
rise_push begun most [] placed from rises below above = (omega (arith, from, above), tt)
rise_push begun most (first ∷ changes) placed from rises below above =
    (rises.0, rise_push first.w most changes placed (All-contains (λ (it : PlacedChange). it.w ≤ most) (first ∷ changes) first below (0, omega arith, refl)) rises.1 (All-tail (λ (it : PlacedChange). it.w ≤ most) first changes below) above)

-- what follows for each
all_map : {A : Type 0} (F G : A → Type 0) → ((x : A) → F x → G x) → (xs : List A) → All F xs → All G xs
all_map F G follows [] all = All-nil G
all_map F G follows (x ∷ xs) all = All-cons G x xs (follows x (All-contains F (x ∷ xs) x all (0, omega arith, refl))) (all_map F G follows xs (All-tail F x xs all))

-- ---- one operation more ----

module _ (plan : Plan Release) (sources : Sources) (number lane round : ℕ) (v now next : View) (those : List Answered) (holds later : List LaneHold) (operation : Operation) (told : Told)
    (so_far : HasRun plan sources number lane round v those now holds) (served : ServesInLane plan sources number now holds operation.line operation.op told next later) (of : IsOf lane round (answered_as operation told)) where
  abbrev here : Answered
  here = answered_as operation told

  abbrev known : Round
  known = lane_round plan sources (length v.seen) next

  abbrev made : List Write
  made = writes_made number now operation.op told.answer

  new_last : position_before known those operation ≤ length now.seen
  new_last =
      let all : position_before known those operation ≡ last_of (length v.seen) those = ap (λ (xs : List Answered). last_of (length v.seen) xs) (all_beside lane round those operation of.0 of.1 so_far.of) in
      let last = so_far.last in omega (arith, all, last)

  new_low : told.w ≤ length next.seen
  new_low = served.meets.to

  new_right : IsRightReply known those here
  new_right =
      answer_grows known known (goes_on_itself known) (length now.seen) (position_before known those operation) (LaneHoldsAs known holds) (IsHeldAs known those operation) new_last
      (held_as known lane round those holds so_far.mirrors operation of.0 of.1) operation.op told.w told.answer new_low (served.answer (length v.seen))

  new_position : HasPosition known those here
  new_position = let from = served.meets.from in record { low = omega (arith, new_last, from); high = new_low }

  new_above : IsAbove known those here
  new_above told_write =
      let one = made_if_told number now known (length now.seen) (LaneHoldsAs known holds) told.w operation.op told.answer (served.answer (length v.seen)) told_write in
      let from = served.meets.from in omega (arith, new_last, from, one)

  new_slots : SlotsKeep known those here
  new_slots = served.kept (length v.seen)

  new_pushes : PassesOver known those here
  new_pushes =
      slots_grow known known (goes_on_itself known) (HoldsSlot known holds) (IsHeldSlot known those operation)
      (held_slot known lane round those holds so_far.mirrors operation of.0 of.1) (λ one. slot_held known lane round those holds so_far.mirrors operation of.0 of.1)
      told.w told.answer new_low (served.passes (length v.seen))

  -- ---- what was written ----

  own_count : length now.own ≡ length v.own + length (changes_told_by those)
  own_count = ap length so_far.own ∙ length-append v.own (writes_from number (length v.own) (changes_told_by those)) ∙ ap (λ (n : ℕ). length v.own + n) (writes_length number (length v.own) (changes_told_by those))

  changes_more : changes_told_by (those ++ here ∷ []) ≡ changes_told_by those ++ changes_told_by (here ∷ [])
  changes_more = filter_map-append change_told those (here ∷ [])

  -- the writes that are told of are those that were made
  made_told : made ≡ writes_from number (length now.own) (changes_told_by (here ∷ []))
  made_told =
      ⊎_elim
      (λ (none : (changes_told_by (here ∷ []) ≡ []) × (made ≡ [])). none.1 ∙ ap (writes_from number (length now.own)) (sym none.0))
      (λ (one : (change : Change) × (changes_told_by (here ∷ []) ≡ record { w = told.w; change = change } ∷ []) × (made ≡ record { by = number; seq = length now.own + 1; change = change } ∷ [])).
      one.2 ∙ ap (writes_from number (length now.own)) (sym one.1))
      (tells number now operation.line operation.round operation.lane operation.line told.w operation.op told.answer)

  made_count : length made ≡ length (changes_told_by (here ∷ []))
  made_count = ap length made_told ∙ writes_length number (length now.own) (changes_told_by (here ∷ []))

  new_own : next.own ≡ v.own ++ writes_from number (length v.own) (changes_told_by (those ++ here ∷ []))
  new_own =
      served.meets.own ∙ (λ i. so_far.own i ++ made_told i) ∙ append_assoc v.own (writes_from number (length v.own) (changes_told_by those)) (writes_from number (length now.own) (changes_told_by (here ∷ [])))
      ∙ ap (λ (n : ℕ). v.own ++ (writes_from number (length v.own) (changes_told_by those) ++ writes_from number n (changes_told_by (here ∷ [])))) own_count
      ∙ ap (λ (xs : List Write). v.own ++ xs) (sym (writes_append number (length v.own) (changes_told_by those) (changes_told_by (here ∷ []))))
      ∙ ap (λ (xs : List PlacedChange). v.own ++ writes_from number (length v.own) xs) (sym changes_more)

  -- each change that is told now is placed, above all that was seen
  new_change : All (λ (placed : PlacedChange). IsPlacedIn next.seen number placed × (placed.w ≤ length next.seen)) (changes_told_by (here ∷ []))
      × (RiseAbove (length v.seen) (changes_told_by those ++ changes_told_by (here ∷ [])))
  new_change =
      ⊎_elim
      (λ (none : (changes_told_by (here ∷ []) ≡ []) × (made ≡ [])). (
        subst (λ (xs : List PlacedChange). All (λ (placed : PlacedChange). IsPlacedIn next.seen number placed × (placed.w ≤ length next.seen)) xs) (sym none.0) (All-nil _),
        subst (λ (xs : List PlacedChange). RiseAbove (length v.seen) (changes_told_by those ++ xs)) (sym none.0) (subst (RiseAbove (length v.seen)) (sym (append-nil (changes_told_by those))) so_far.order),
      ))
      (λ (one : (change : Change) × (changes_told_by (here ∷ []) ≡ record { w = told.w; change = change } ∷ []) × (made ≡ record { by = number; seq = length now.own + 1; change = change } ∷ [])).
      let write : Write = record { by = number; seq = length now.own + 1; change = one.0 } in
      let placed : PlacedChange = record { w = told.w; change = one.0 } in
      let has : Contains made write = subst (λ (xs : List Write). Contains xs write) (sym one.2) (0, omega arith, refl) in
      let is : IsPlacedIn next.seen number placed = record { write = write; there = served.meets.placed write has; by = refl; change = refl } in
      let many : length made ≡ 1 = ap length one.2 in
      let from = served.meets.from in (
        subst (λ (xs : List PlacedChange). All (λ (it : PlacedChange). IsPlacedIn next.seen number it × (it.w ≤ length next.seen)) xs) (sym one.1) (all_one (λ (it : PlacedChange). IsPlacedIn next.seen number it × (it.w ≤ length next.seen)) placed (is, new_low)),
        subst (λ (xs : List PlacedChange). RiseAbove (length v.seen) (changes_told_by those ++ xs)) (sym one.1)
            (rise_push (length v.seen) (length now.seen) (changes_told_by those) placed (no_shorter v.seen now.seen so_far.grows) so_far.order so_far.below (omega (arith, many, from))),
      ))
      (tells number now operation.line operation.round operation.lane operation.line told.w operation.op told.answer)
    where
      all_one : {A : Type 0} (F : A → Type 0) (x : A) → F x → All F (x ∷ [])
      all_one F x is = All-cons F x [] is (All-nil F)

  longer : length now.seen ≤ length next.seen
  longer = no_shorter now.seen next.seen served.meets.grows

  -- what the lane has answered with it
  pub has_run_next : ((a : Answered) → Contains those a → ¬ (a.operation.line ≡ operation.line)) → IsDropped operation.op later → HasRun plan sources number lane round v (those ++ here ∷ []) next later
  has_run_next fresh away = record {
    of = All-append (IsOf lane round) those (here ∷ []) so_far.of (All-cons (IsOf lane round) here [] of (All-nil (IsOf lane round)));
    low = All-append (λ (x : Answered). x.reply.w ≤ length next.seen) those (here ∷ []) (still (λ (x : Answered). x.reply.w) those so_far.low) (All-cons (λ (x : Answered). x.reply.w ≤ length next.seen) here [] new_low (All-nil _));
    last = (let folded = fold-append (λ (w : ℕ) (other : Answered). other.reply.w) (length v.seen) those (here ∷ []) in omega (arith, folded, new_low));
    grows = seen_stays now.seen next.seen (length v.seen) served.meets.grows (no_shorter v.seen now.seen so_far.grows) ∙ so_far.grows;
    right = in_turn_push those here (IsRightReply known) (right_still plan sources (length v.seen) plan.slots made now next told.w served.meets those so_far.low so_far.right) new_right;
    positions = in_turn_push those here (HasPosition known) (positions_still plan sources (length v.seen) plan.slots made now next told.w served.meets those so_far.low so_far.positions) new_position;
    above = in_turn_push those here (IsAbove known) (above_still plan sources (length v.seen) plan.slots made now next told.w served.meets those so_far.low so_far.above) new_above;
    slots = in_turn_push those here (SlotsKeep known) (slots_still plan sources (length v.seen) plan.slots made now next told.w served.meets those so_far.low so_far.slots) new_slots;
    pushes = in_turn_push those here (PassesOver known) (pushes_still plan sources (length v.seen) plan.slots made now next told.w served.meets those so_far.low so_far.pushes) new_pushes;
    own = new_own;
    placed = subst (All (IsPlacedIn next.seen number)) (sym changes_more) (All-append (IsPlacedIn next.seen number) (changes_told_by those) (changes_told_by (here ∷ []))
        (all_map (IsPlacedIn now.seen number) (IsPlacedIn next.seen number) (placed_still now.seen next.seen number served.meets.grows) (changes_told_by those) so_far.placed)
        (all_map (λ (it : PlacedChange). IsPlacedIn next.seen number it × (it.w ≤ length next.seen)) (IsPlacedIn next.seen number) (λ it both. both.0) (changes_told_by (here ∷ [])) new_change.0));
    order = subst (RiseAbove (length v.seen)) (sym changes_more) new_change.1;
    below = subst (All (λ (it : PlacedChange). it.w ≤ length next.seen)) (sym changes_more) (All-append (λ (it : PlacedChange). it.w ≤ length next.seen) (changes_told_by those) (changes_told_by (here ∷ []))
        (still (λ (it : PlacedChange). it.w) (changes_told_by those) so_far.below)
        (all_map (λ (it : PlacedChange). IsPlacedIn next.seen number it × (it.w ≤ length next.seen)) (λ (it : PlacedChange). it.w ≤ length next.seen) (λ it both. both.1) (changes_told_by (here ∷ [])) new_change.0));
    allowance = (let more = ap length changes_more in let both = length-append (changes_told_by those) (changes_told_by (here ∷ [])) in let old = so_far.allowance in let step = served.meets.allowance in omega (arith, more, both, old, step, made_count));
    counts = (
        let loads = sum_by-append (λ (x : Answered). loads_of x.operation.op x.reply.answer) those (here ∷ []) in
        let turns = sum_by-append (λ (x : Answered). turns_of x.operation.op x.reply.answer) those (here ∷ []) in
        let one_load = sum_by-cons (λ (x : Answered). loads_of x.operation.op x.reply.answer) here [] in
        let one_turn = sum_by-cons (λ (x : Answered). turns_of x.operation.op x.reply.answer) here [] in
        let old = so_far.counts in let new = served.counts in let a = old.loads in let b = new.loads in let c = old.taken in let d = new.taken in
        record { loads = omega (arith, loads, one_load, a, b); taken = omega (arith, turns, one_turn, c, d) });
    keeps = record { role = served.meets.keeps.role ∙ so_far.keeps.role; numbers = served.meets.keeps.numbers ∙ so_far.keeps.numbers; floor = served.meets.keeps.floor ∙ so_far.keeps.floor };
    mirrors = mirrors_next lane round those here holds later of fresh so_far.mirrors served.holds away;
  }
    where
      still : {A : Type 0} (f : A → ℕ) (xs : List A) → All (λ (x : A). f x ≤ length now.seen) xs → All (λ (x : A). f x ≤ length next.seen) xs
      still f xs all = all_map (λ x. f x ≤ length now.seen) (λ x. f x ≤ length next.seen) (λ x low. omega (arith, low, longer)) xs all
