-- The round of an operation among all rounds.
use Rattle.std.proofs.Common.{◌≡◌, ℕ, zero, suc, ◌+◌, ◌≤◌, ◌<◌, ⊎_elim, nat_lt, Bool, false, ◌&&◌, List, [], ◌∷◌, ◌++◌, length, take, Contains, count_by, refl, sym, ap, subst, ◌∙◌, arith, length-append, append_assoc, append-nil}
use Rattle.std.specs.Prelude.{All}
use Rattle.std.proofs.lemmas.Bool.{and_left, lt-ltb, le-ltb}
use Rattle.std.proofs.lemmas.List.Elements.{All-append, All-contains, All-same, All-take, All-weaker, Contains-append_right}
use Rattle.tz_version.specs.declared.sources.Sources.{Sources}
use Rattle.pin_book.specs.declared.write.Write.{Write}
use Rattle.pin_core.specs.declared.view.View.{View}
use Rattle.pin_table.specs.declared.sitting.Plan.{Plan}
use Rattle.tz_batch.specs.Batch.{Answered, tells_write, is_write_before}
use Rattle.tz_rounds.specs.Rounds.{IsOfRound, RanRound, RanUpTo}
use Rattle.tz_rounds.proofs.Lists.{in_parts, front_of_front, count_same, count_none, count_parts}
use Rattle.tz_rounds.proofs.Written.{ToldAll, told_all_before, IsSettled, all_settled, all_counted}

-- the reply tells of a write
abbrev pub tells : Answered → Bool
tells one = tells_write one.reply.answer

-- the operation is of a round before this one, or of one behind it
abbrev pub IsBefore : ℕ → Answered → Type 0
IsBefore round one = one.operation.round < round

abbrev pub IsBehind : ℕ → Answered → Type 0
IsBehind round one = round < one.operation.round

-- it is of this one
abbrev pub IsAtRound : ℕ → Answered → Type 0
IsAtRound round one = one.operation.round ≡ round

-- the element stands there
pub stands_there : (before later : List Answered) (here : Answered) → Contains (before ++ here ∷ later) here
stands_there before later here = Contains-append_right before (here ∷ later) here (0, omega arith, refl)

module _ {P : Type 0} (plan : Plan P) (sources : Sources) (journal : List Write) where
  -- An operation in its round. Those of rounds before it stand before, and those of rounds behind it later. The replies tell
  -- of as many writes as the main had seen before the round, and with the round's as it had seen after it.
  pub record Turn (before later : List Answered) (here : Answered) : Type 0 where
    pub main : View
    pub main' : View
    pub earlier : List Answered
    pub front : List Answered
    pub behind : List Answered
    pub rest : List Answered
    pub before_is : before ≡ earlier ++ front
    pub later_is : later ≡ behind ++ rest
    pub ran : RanRound plan sources here.operation.round (front ++ here ∷ behind) main main'
    pub older : All (IsBefore here.operation.round) earlier
    pub newer : All (IsBehind here.operation.round) rest
    pub seen : take (length main'.seen) journal ≡ main'.seen
    pub start : count_by tells earlier ≡ length main.seen
    pub end : count_by tells (earlier ++ (front ++ here ∷ behind)) ≡ length main'.seen

  -- Each operation has its round.
  pub turn_of : (rounds : ℕ) (those : List Answered) (main : View) → RanUpTo plan sources rounds those main → take (length main.seen) journal ≡ main.seen → ToldAll plan sources those main → All (λ (write : Write). write.by < plan.readers) main.seen
      → (before later : List Answered) (here : Answered) → those ≡ before ++ here ∷ later → Turn before later here
  turn_of zero those main (none, seen, own) front all writers before later here is =
      absurd (omega (arith, ap length (sym none ∙ is), length-append before (here ∷ later)))
  turn_of (suc round) those main (earlier, those_here, met, parts, up, ran) seen all writers before later here is =
      let told_before = told_all_before plan sources round those earlier those_here met main parts up ran all in
      let writers_before : All (λ (write : Write). write.by < plan.readers) met.seen =
      All-same (λ (write : Write). write.by < plan.readers) met.seen (take (length met.seen) main.seen) (sym ran.grows) (All-take (λ (write : Write). write.by < plan.readers) (length met.seen) main.seen writers) in
      let settled = all_settled plan sources round earlier met up in
      ⊎_elim
      (λ (left : (rest : List Answered) × (earlier ≡ before ++ here ∷ rest) × (later ≡ rest ++ those_here)).
      let turn = turn_of round earlier met up (front_of_front met.seen main.seen journal ran.grows seen) told_before writers_before before left.0 here left.1 in
      let low = (All-contains (IsSettled plan sources round) earlier here settled (subst (λ (xs : List Answered). Contains xs here) (sym left.1) (stands_there before left.0 here))).last in
      record {
        main = turn.main;
        main' = turn.main';
        earlier = turn.earlier;
        front = turn.front;
        behind = turn.behind;
        rest = turn.rest ++ those_here;
        before_is = turn.before_is;
        later_is = left.2 ∙ ap (λ (xs : List Answered). xs ++ those_here) turn.later_is ∙ append_assoc turn.behind turn.rest those_here;
        ran = turn.ran;
        older = turn.older;
        newer = All-append (IsBehind here.operation.round) turn.rest those_here turn.newer
            (All-weaker (IsOfRound plan.readers (suc round)) (IsBehind here.operation.round) (λ one inside. omega (arith, inside.round_is, low)) those_here ran.inside);
        seen = turn.seen;
        start = turn.start;
        end = turn.end;
      })
      (λ (right : (front : List Answered) × (before ≡ earlier ++ front) × (those_here ≡ front ++ here ∷ later)).
      let in_round : All (IsOfRound plan.readers (suc round)) (right.0 ++ here ∷ later) = subst (All (IsOfRound plan.readers (suc round))) right.2 ran.inside in
      let inside = All-contains (IsOfRound plan.readers (suc round)) (right.0 ++ here ∷ later) here in_round (stands_there right.0 later here) in
      record {
        main = met;
        main' = main;
        earlier = earlier;
        front = right.0;
        behind = later;
        rest = [];
        before_is = right.1;
        later_is = sym (append-nil later);
        ran = subst (λ (number : ℕ). RanRound plan sources number (right.0 ++ here ∷ later) met main) (sym inside.round_is)
            (subst (λ (xs : List Answered). RanRound plan sources (suc round) xs met main) right.2 ran);
        older = All-weaker (IsSettled plan sources round) (IsBefore here.operation.round) (λ one is_old. omega (arith, is_old.last, inside.round_is)) earlier settled;
        newer = λ k d low. absurd (omega (arith, low));
        seen = seen;
        start = all_counted plan sources round earlier met up told_before writers_before;
        end = ap (count_by tells) (ap (λ (xs : List Answered). earlier ++ xs) (sym right.2) ∙ sym parts)
            ∙ all_counted plan sources (suc round) those main (earlier, those_here, met, parts, up, ran) all writers;
      })
      (in_parts earlier those_here before later here (sym parts ∙ is))

-- ---- where a round starts ----

-- those of rounds before this one count where they tell of a write
older_count : (round : ℕ) (those : List Answered) → All (IsBefore round) those → count_by (is_write_before round) those ≡ count_by tells those
older_count round those older =
    count_same (is_write_before round) tells those
    (All-weaker (IsBefore round) (λ (one : Answered). is_write_before round one ≡ tells one)
    (λ one before. ap (λ (b : Bool). b && tells one) (lt-ltb one.operation.round round before)) those older)

-- all others don't
others_dont : (round : ℕ) (those : List Answered) → All (λ (one : Answered). round ≤ one.operation.round) those → count_by (is_write_before round) those ≡ 0
others_dont round those others =
    count_none (is_write_before round) those
    (All-weaker (λ (one : Answered). round ≤ one.operation.round) (λ (one : Answered). is_write_before round one ≡ false)
    (λ one behind. and_left (nat_lt one.operation.round round) (tells one) (le-ltb one.operation.round round behind)) those others)

-- The writes of the rounds before one, of the one, and of those behind it.
pub starts_behind : (round : ℕ) (earlier own rest : List Answered) → All (IsBefore round) earlier → All (IsAtRound round) own → All (IsBehind round) rest
    → (count_by (is_write_before round) (earlier ++ (own ++ rest)) ≡ count_by tells earlier) × (count_by (is_write_before (round + 1)) (earlier ++ (own ++ rest)) ≡ count_by tells (earlier ++ own))
starts_behind round earlier own rest older at newer =
    let old = older_count round earlier older in
    let here = others_dont round own (All-weaker (IsAtRound round) (λ (one : Answered). round ≤ one.operation.round) (λ one is. omega (arith, is)) own at) in
    let new = others_dont round rest (All-weaker (IsBehind round) (λ (one : Answered). round ≤ one.operation.round) (λ one is. omega (arith, is)) rest newer) in
    let old' = older_count (round + 1) earlier (All-weaker (IsBefore round) (IsBefore (round + 1)) (λ one is. omega (arith, is)) earlier older) in
    let here' = older_count (round + 1) own (All-weaker (IsAtRound round) (IsBefore (round + 1)) (λ one is. omega (arith, is)) own at) in
    let new' = others_dont (round + 1) rest (All-weaker (IsBehind round) (λ (one : Answered). round + 1 ≤ one.operation.round) (λ one is. omega (arith, is)) rest newer) in (
      omega (arith, count_parts (is_write_before round) earlier (own ++ rest), count_parts (is_write_before round) own rest, old, here, new),
      omega (arith, count_parts (is_write_before (round + 1)) earlier (own ++ rest), count_parts (is_write_before (round + 1)) own rest, count_parts tells earlier own, old', here', new'),
    )
