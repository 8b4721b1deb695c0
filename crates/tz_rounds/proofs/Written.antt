-- What the lanes have written after some rounds: as many writes as their replies tell of, each in its place.
use Rattle.std.proofs.Common.{◌≡◌, ℕ, zero, suc, ◌+◌, ◌-◌, ◌≤◌, ◌<◌, ◌==◌, List, ◌++◌, length, take, drop, Contains, count_by, sym, ap, subst, ◌∙◌, arith, length-append}
use Rattle.std.specs.Prelude.{All, filter_map}
use Rattle.std.proofs.lemmas.Bool.{eq-eqb}
use Rattle.std.proofs.lemmas.List.{take-append-drop}
use Rattle.std.proofs.lemmas.List.Elements.{All-append, All-contains, All-weaker, filter-append}
use Rattle.tz_version.specs.declared.sources.Sources.{Sources}
use Rattle.pin_book.specs.declared.write.Write.{Write}
use Rattle.pin_book.specs.Sequence.{writes_by}
use Rattle.pin_core.specs.declared.view.View.{View}
use Rattle.pin_table.specs.Closing.{IsWhole}
use Rattle.pin_table.specs.declared.sitting.Plan.{Plan}
use Rattle.tz_batch.specs.Answering.{IsRightReply}
use Rattle.tz_batch.specs.Batch.{Answered, tells_write}
use Rattle.tz_batch.specs.Held.{IsHeldAs}
use Rattle.tz_batch.specs.Round.{Round, InTurn, position_before}
use Rattle.tz_batch.specs.Run.{PlacedChange, change_told_in, changes_by}
use Rattle.tz_lane.specs.Lane.{IsPlacedIn, changes_told_by, writes_from}
use Rattle.tz_lane.specs.Meeting.{lane_round}
use Rattle.tz_lane.proofs.Growth.{write_stays}
use Rattle.tz_rounds.specs.Rounds.{of_lane, IsOfRound, RanRound, RanUpTo}
use Rattle.tz_rounds.proofs.Lists.{split_at, all_from, slice_inside, passed}
use Rattle.tz_rounds.proofs.Rising.{Stand, stand, stand_mapped, stand_append, few_above, all_told}
use Rattle.tz_rounds.proofs.Sums.{sum_below, sum_same}
use Rattle.tz_rounds.proofs.Told.{told_in_lane, told_append, as_many, IsLane, all_lanes, all_numbers, TellsAsAnswered, all_told_count, answer_tells}

-- what the replies of a number's lane tell
abbrev pub told : ℕ → List Answered → List PlacedChange
told number those = changes_told_by (of_lane (number + 1) those)

-- what stands in a journal stands there later on
placed_later : (number : ℕ) (seen later : List Write) (placed : PlacedChange) → take (length seen) later ≡ seen → IsPlacedIn seen number placed → IsPlacedIn later number placed
placed_later number seen later placed grows at = record {
  write = at.write;
  there = write_stays seen later (placed.w - 1) grows (slice_inside seen (placed.w - 1) at.write at.there) ∙ at.there;
  by = at.by;
  change = at.change;
}

-- a position in a journal is none behind its end
placed_within : (number : ℕ) (seen : List Write) (placed : PlacedChange) → IsPlacedIn seen number placed → placed.w ≤ length seen
placed_within number seen placed at = omega (arith, slice_inside seen (placed.w - 1) at.write at.there)

-- what holds of each in its turn holds of one
pub in_turn : (those : List Answered) (fact : List Answered → Answered → Type 0) → InTurn those fact → (here : Answered) → Contains those here → (before : List Answered) × fact before here
in_turn those fact each here has =
    let parts = split_at those here has in
    (parts.0, each parts.0 parts.1 here parts.2)

-- a lane is that of the number below it
pub lane_number : (lane : ℕ) → 1 ≤ lane → lane - 1 + 1 ≡ lane
lane_number lane some = omega (arith, some)

module _ {P : Type 0} (plan : Plan P) (sources : Sources) where
  -- What a number has written after rounds: what the replies of its lane tell, where the main has seen it.
  pub record HasWritten (number : ℕ) (those : List Answered) (main : View) : Type 0 where
    pub stands : Stand (IsPlacedIn main.seen number) 0 (told number those)
    pub many : length (writes_by number main.own) ≡ length (told number those)

  -- what it has written in a round stands behind what the main had seen before
  stands_here : (round : ℕ) (here : List Answered) (before main : View) → RanRound plan sources round here before main → (number : ℕ) → number < plan.readers → Stand (IsPlacedIn main.seen number) (length before.seen) (told number here)
  stands_here round here before main ran number low =
      let lane = ran.lanes number low in
      let risen = stand (IsPlacedIn lane.back.seen number) (length lane.out.seen) (told number here) lane.runs.order lane.runs.placed in
      subst (λ (w : ℕ). Stand (IsPlacedIn main.seen number) w (told number here)) (ap length lane.seen_first)
      (stand_mapped (IsPlacedIn lane.back.seen number) (IsPlacedIn main.seen number) (length lane.out.seen) (told number here)
      (λ placed above at. placed_later number lane.back.seen main.seen placed lane.seen at) risen)

  -- and its writes are so many more
  more_here : (round : ℕ) (here : List Answered) (before main : View) → RanRound plan sources round here before main → (number : ℕ) → number < plan.readers → length (writes_by number main.own) ≡ length (writes_by number before.own) + length (told number here)
  more_here round here before main ran number low =
      let lane = ran.lanes number low in
      ap length (lane.own ∙ lane.runs.own)
      ∙ length-append lane.out.own (writes_from number (length lane.out.own) (told number here))
      ∙ omega (arith, ap length lane.own_first, as_many number (length lane.out.own) (told number here))

  -- After each round a number has written what its lane's replies tell.
  pub has_written : (rounds : ℕ) (those : List Answered) (main : View) → RanUpTo plan sources rounds those main → (number : ℕ) → number < plan.readers → HasWritten number those main
  has_written zero those main (none, seen, own) number low = record {
    stands = subst (λ (all : List Answered). Stand (IsPlacedIn main.seen number) 0 (told number all)) (sym none) tt;
    many = ap (λ (all : List Write). length (writes_by number all)) own ∙ ap (λ (all : List Answered). length (told number all)) (sym none);
  }
  has_written (suc round) those main (earlier, here, before, parts, up, ran) number low =
      let so_far = has_written round earlier before up number low in
      let both : told number those ≡ told number earlier ++ told number here = ap (told number) parts ∙ told_append (number + 1) earlier here in
      record {
        stands = subst (Stand (IsPlacedIn main.seen number) 0) (sym both)
            (stand_append (IsPlacedIn before.seen number) (IsPlacedIn main.seen number) 0 (length before.seen) (told number earlier) (told number here) (omega arith)
            (λ placed at. placed_within number before.seen placed at)
            (λ placed at. placed_later number before.seen main.seen placed ran.grows at)
            so_far.stands (stands_here (suc round) here before main ran number low));
        many = more_here (suc round) here before main ran number low
            ∙ omega (arith, so_far.many, ap length both, length-append (told number earlier) (told number here));
      }

  -- ---- none are left out ----

  -- each number has in the journal as many writes as its lane's replies tell of
  abbrev pub ToldAll : List Answered → View → Type 0
  ToldAll those main = (number : ℕ) → number < plan.readers → length (told number those) ≡ length (writes_by number main.seen)

  -- so it is once the list is closed
  pub told_all_at_last : (rounds : ℕ) (those : List Answered) (main : View) (journal : List Write) → RanUpTo plan sources rounds those main → IsWhole plan.readers main journal → ToldAll those main
  told_all_at_last rounds those main journal up whole number low =
      let written = has_written rounds those main up number low in
      sym written.many ∙ ap length (whole.own number low) ∙ ap (λ (all : List Write). length (writes_by number all)) (sym whole.seen)

  -- and so it was before each round
  pub told_all_before : (round : ℕ) (those earlier here : List Answered) (before main : View) → those ≡ earlier ++ here → RanUpTo plan sources round earlier before → RanRound plan sources (suc round) here before main → ToldAll those main → ToldAll earlier before
  told_all_before round those earlier here before main parts up ran all number low =
      let both : told number those ≡ told number earlier ++ told number here = ap (told number) parts ∙ told_append (number + 1) earlier here in
      let seen : main.seen ≡ before.seen ++ drop (length before.seen) main.seen =
      sym (take-append-drop (length before.seen) main.seen) ∙ ap (λ (front : List Write). front ++ drop (length before.seen) main.seen) ran.grows in
      let written : writes_by number main.seen ≡ writes_by number before.seen ++ writes_by number (drop (length before.seen) main.seen) =
      ap (writes_by number) seen ∙ filter-append (λ (write : Write). write.by == number) before.seen (drop (length before.seen) main.seen) in
      let few : length (told number earlier) ≤ length (writes_by number before.seen) =
      few_above number 0 before.seen (told number earlier) (has_written round earlier before up number low).stands in
      let few_here : length (told number here) ≤ length (writes_by number (drop (length before.seen) main.seen)) =
      few_above number (length before.seen) main.seen (told number here) (stands_here (suc round) here before main ran number low) in
      let total : length (told number those) ≡ length (writes_by number main.seen) = all number low in
      omega (arith, total, few, few_here, ap length both, ap length written, length-append (told number earlier) (told number here), length-append (writes_by number before.seen) (writes_by number (drop (length before.seen) main.seen)))

  -- ---- how many are told ----

  -- a right reply tells of a write where its answer does
  tells_here : (round : ℕ) (here : List Answered) (before main : View) → RanRound plan sources round here before main → (one : Answered) → Contains here one → TellsAsAnswered one
  tells_here round here before main ran one has =
      let inside = All-contains (IsOfRound plan.readers round) here one ran.inside has in
      let lane = one.operation.lane in
      let ran_lane = ran.lanes (lane - 1) (omega (arith, inside.some, inside.few)) in
      let own = passed (λ (it : Answered). it.operation.lane == lane - 1 + 1) here one has (eq-eqb lane (lane - 1 + 1) (sym (lane_number lane inside.some))) in
      let round_known : Round = lane_round plan sources (length ran_lane.out.seen) ran_lane.back in
      let right = in_turn (of_lane (lane - 1 + 1) here) (IsRightReply round_known) ran_lane.runs.right one own in
      answer_tells round_known (position_before round_known right.0 one.operation) (IsHeldAs round_known right.0 one.operation) one.operation.line one.operation.round lane one.reply.line one.operation.op one.reply.w one.reply.answer right.1

  -- an operation of these rounds and lanes, whose reply tells of a write where its answer does
  pub record IsSettled (rounds : ℕ) (one : Answered) : Type 0 where
    pub first : 1 ≤ one.operation.round
    pub last : one.operation.round ≤ rounds
    pub lane : IsLane plan.readers one
    pub tells : TellsAsAnswered one

  -- all operations are
  pub all_settled : (rounds : ℕ) (those : List Answered) (main : View) → RanUpTo plan sources rounds those main → All (IsSettled rounds) those
  all_settled zero those main (none, seen, own) =
      subst (All (IsSettled 0)) (sym none) (λ k d low. absurd (omega (arith, low)))
  all_settled (suc round) those main (earlier, here, before, parts, up, ran) =
      let old : All (IsSettled (suc round)) earlier =
      All-weaker (IsSettled round) (IsSettled (suc round)) (λ one is. record { first = is.first; last = omega (arith, is.last); lane = is.lane; tells = is.tells }) earlier (all_settled round earlier before up) in
      let new : All (IsSettled (suc round)) here =
      all_from (IsSettled (suc round)) here
      (λ one has. (let inside = All-contains (IsOfRound plan.readers (suc round)) here one ran.inside has in
      record {
        first = omega (arith, inside.round_is);
        last = omega (arith, inside.round_is);
        lane = (inside.some, inside.few);
        tells = tells_here (suc round) here before main ran one has;
      })) in
      subst (All (IsSettled (suc round))) (sym parts) (All-append (IsSettled (suc round)) earlier here old new)

  -- The replies tell of as many writes as the main has seen.
  pub all_counted : (rounds : ℕ) (those : List Answered) (main : View) → RanUpTo plan sources rounds those main → ToldAll those main → All (λ (write : Write). write.by < plan.readers) main.seen
      → count_by (λ (one : Answered). tells_write one.reply.answer) those ≡ length main.seen
  all_counted rounds those main up all writers =
      let settled = all_settled rounds those main up in
      let inside : All (IsLane plan.readers) those = All-weaker (IsSettled rounds) (IsLane plan.readers) (λ one is. is.lane) those settled in
      let tells : All TellsAsAnswered those = All-weaker (IsSettled rounds) TellsAsAnswered (λ one is. is.tells) those settled in
      let each : sum_below (λ number. length (filter_map (change_told_in (number + 1)) those)) plan.readers ≡ sum_below (λ number. length (writes_by number main.seen)) plan.readers =
      sum_same (λ number. length (filter_map (change_told_in (number + 1)) those)) (λ number. length (writes_by number main.seen)) plan.readers
      (λ number low. ap length (told_in_lane (number + 1) those) ∙ all number low) in
      sym (all_told_count those tells) ∙ sym (all_lanes plan.readers those inside) ∙ each ∙ all_numbers plan.readers main.seen writers

  -- ---- the writes that are told ----

  -- At last the changes that the replies of a lane tell are those of its number in the journal.
  pub told_as_written : (rounds : ℕ) (those : List Answered) (main : View) (journal : List Write) → RanUpTo plan sources rounds those main → IsWhole plan.readers main journal → (number : ℕ) → number < plan.readers → filter_map (change_told_in (number + 1)) those ≡ changes_by number 1 journal
  told_as_written rounds those main journal up whole number low =
      let written = has_written rounds those main up number low in
      let all = told_all_at_last rounds those main journal up whole number low in
      told_in_lane (number + 1) those ∙ all_told number main.seen (told number those) written.stands all ∙ ap (changes_by number 1) whole.seen
