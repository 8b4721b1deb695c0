-- Positions of a run, two replies at a time.
use Rattle.std.proofs.Common.{◌≡◌, ℕ, zero, suc, ◌≤◌, ◌<◌, ◌==◌, nat_lt, Bool, true, false, ◌&&◌, List, [], ◌∷◌, ◌++◌, cond, fold, filter, count_by, refl, sym, ap, subst, ◌∙◌, append_assoc, append-nil, arith}
use Rattle.std.specs.Prelude.{Some, slice_get}
use Rattle.std.proofs.lemmas.Bool.{and_parts, and_from, eqb-true, eq-eqb, ltb-true, lt-ltb, cond_both}
use Rattle.std.proofs.lemmas.List.Elements.{filter-append}
use Rattle.std.proofs.lemmas.List.Sums.{fold-append, sum_by-cons}
use Rattle.std.proofs.lemmas.Option.{same_Some}
use Rattle.tz_script.specs.declared.operation.Operation.{Operation}
use Rattle.tz_batch.specs.Batch.{Batch, Answered, each_answered, answered, tells_write, is_write_before, start_of}
use Rattle.tz_batch.specs.Run.{EachInTurn, HasPosition}
use Rattle.tz_batch.specs.declared.reply.Reply.{Reply}

-- ---- places ----

abbrev pub both : Operation → Reply → Answered
both operation reply = record { operation = operation; reply = reply }

-- an operation at a place, with its reply, parts the others
pub record Parted (those : List Answered) (here : Answered) : Type 0 where
  pub front : List Answered
  pub behind : List Answered
  pub is : those ≡ front ++ here ∷ behind

pub parted : (operations : List Operation) (replies : List Reply) (j : ℕ) (q : Operation) (y : Reply) → slice_get operations j ≡ Some q → slice_get replies j ≡ Some y → Parted (each_answered operations replies) (both q y)
parted [] replies j q y asked told = cc
parted (o ∷ operations) [] j q y asked told = cc
parted (o ∷ operations) (r ∷ replies) zero q y asked told =
    record { front = []; behind = each_answered operations replies; is = let one = same_Some o q asked in let two = same_Some r y told in cc }
parted (o ∷ operations) (r ∷ replies) (suc j) q y asked told =
    let rest = parted operations replies j q y asked told in
    record { front = both o r ∷ rest.front; behind = rest.behind; is = ap (λ (more : List Answered). both o r ∷ more) rest.is }

-- two operations do
pub record PartedTwice (those : List Answered) (first second : Answered) : Type 0 where
  pub front : List Answered
  pub middle : List Answered
  pub behind : List Answered
  pub is : those ≡ front ++ first ∷ (middle ++ second ∷ behind)

pub parted_twice : (operations : List Operation) (replies : List Reply) (i j : ℕ) (p q : Operation) (x y : Reply) → i < j
    → slice_get operations i ≡ Some p → slice_get replies i ≡ Some x → slice_get operations j ≡ Some q → slice_get replies j ≡ Some y
    → PartedTwice (each_answered operations replies) (both p x) (both q y)
parted_twice [] replies i j p q x y low asked told asks tells = cc
parted_twice (o ∷ operations) [] i j p q x y low asked told asks tells = cc
parted_twice (o ∷ operations) (r ∷ replies) i zero p q x y low asked told asks tells = absurd (omega (arith, low))
parted_twice (o ∷ operations) (r ∷ replies) zero (suc j) p q x y low asked told asks tells =
    let rest = parted operations replies j q y asks tells in
    record {
      front = [];
      middle = rest.front;
      behind = rest.behind;
      is = let one = same_Some o p asked in let two = same_Some r x told in let is = rest.is in cc;
    }
parted_twice (o ∷ operations) (r ∷ replies) (suc i) (suc j) p q x y low asked told asks tells =
    let rest = parted_twice operations replies i j p q x y (omega (arith, low)) asked told asks tells in
    record { front = both o r ∷ rest.front; middle = rest.middle; behind = rest.behind; is = ap (λ (more : List Answered). both o r ∷ more) rest.is }

-- ---- the last position of a lane ----

-- the last position of that lane and round among these, or else the one that it began with
abbrev last_of : ℕ → ℕ → ℕ → List Answered → ℕ
last_of lane round seen those =
    fold (λ w other. other.reply.w) seen (filter (λ (other : Answered). (other.operation.lane == lane) && (other.operation.round == round)) those)

abbrev is_of : ℕ → ℕ → Answered → Bool
is_of lane round other = (other.operation.lane == lane) && (other.operation.round == round)

-- one more of another lane or round changes nothing, and one of it is the last
last_more : (lane round seen : ℕ) (those : List Answered) (here : Answered)
    → last_of lane round seen (those ++ here ∷ []) ≡ fold (λ w (other : Answered). other.reply.w) (last_of lane round seen those) (filter (is_of lane round) (here ∷ []))
last_more lane round seen those here =
    ap (fold (λ w (other : Answered). other.reply.w) seen) (filter-append (is_of lane round) those (here ∷ []))
    ∙ fold-append (λ w (other : Answered). other.reply.w) seen (filter (is_of lane round) those) (filter (is_of lane round) (here ∷ []))

-- what bounds the last position bounds it with one more, which isn't below it
bound_more : (lane round seen bound : ℕ) (those : List Answered) (here : Answered) → bound ≤ last_of lane round seen those
    → (is_of lane round here ≡ true → last_of lane round seen those ≤ here.reply.w) → bound ≤ last_of lane round seen (those ++ here ∷ [])
bound_more lane round seen bound those here low each =
    subst (λ (w : ℕ). bound ≤ w) (sym (last_more lane round seen those here))
    (cond_both (is_of lane round here) (here ∷ []) [] (λ (kept : List Answered). bound ≤ fold (λ w (other : Answered). other.reply.w) (last_of lane round seen those) kept)
    (λ yes. omega (arith, low, each yes))
    (λ no. low))

-- each of the lane and the round isn't below the last one before it
abbrev DontFall : ℕ → ℕ → ℕ → List Answered → Type 0
DontFall lane round seen those =
    (before later : List Answered) (here : Answered) → those ≡ before ++ here ∷ later → is_of lane round here ≡ true
    → last_of lane round seen before ≤ here.reply.w

-- so what bounds it goes on to
bound_stays : (lane round seen bound : ℕ) (those done middle behind : List Answered) → DontFall lane round seen those → those ≡ done ++ (middle ++ behind)
    → bound ≤ last_of lane round seen done → bound ≤ last_of lane round seen (done ++ middle)
bound_stays lane round seen bound those done [] behind each is low =
    subst (λ (xs : List Answered). bound ≤ last_of lane round seen xs) (sym (append-nil done)) low
bound_stays lane round seen bound those done (m ∷ middle) behind each is low =
    let more = bound_more lane round seen bound done m low (each done (middle ++ behind) m is) in
    let rest = bound_stays lane round seen bound those (done ++ m ∷ []) middle behind each (is ∙ sym (append_assoc done (m ∷ []) (middle ++ behind))) more in
    subst (λ (xs : List Answered). bound ≤ last_of lane round seen xs) (append_assoc done (m ∷ []) middle) rest

-- ---- runs ----

module _ (batch : Batch) (positions : EachInTurn batch HasPosition) where
  -- the positions of a lane in a round don't fall
  dont_fall : (lane round : ℕ) → DontFall lane round (start_of batch round) (answered batch)
  dont_fall lane round before later here is of =
      let parts = and_parts (here.operation.lane == lane) (here.operation.round == round) of in
      let lanes : here.operation.lane ≡ lane = eqb-true here.operation.lane lane parts.0 in
      let rounds : here.operation.round ≡ round = eqb-true here.operation.round round parts.1 in
      let P : ℕ → Type 0 = λ l. last_of l here.operation.round (start_of batch here.operation.round) before ≤ here.reply.w in
      let Q : ℕ → Type 0 = λ r. last_of lane r (start_of batch r) before ≤ here.reply.w in
      subst Q rounds (subst P lanes (positions before later here is).low)

  -- a later position of a lane in a round isn't below an earlier one
  pub later_in_lane : (front middle behind : List Answered) (first second : Answered) → answered batch ≡ front ++ first ∷ (middle ++ second ∷ behind)
      → first.operation.lane ≡ second.operation.lane → first.operation.round ≡ second.operation.round → first.reply.w ≤ second.reply.w
  later_in_lane front middle behind first second is lanes rounds =
      let lane = second.operation.lane in
      let round = second.operation.round in
      let of : is_of lane round first ≡ true = and_from (first.operation.lane == lane) (first.operation.round == round) (eq-eqb first.operation.lane lane lanes) (eq-eqb first.operation.round round rounds) in
      let seen = start_of batch round in
      let at : first.reply.w ≤ last_of lane round seen (front ++ first ∷ []) =
      subst (λ (w : ℕ). first.reply.w ≤ w) (sym (last_more lane round seen front first))
      (cond_both (is_of lane round first) (first ∷ []) [] (λ (kept : List Answered). first.reply.w ≤ fold (λ w (other : Answered). other.reply.w) (last_of lane round seen front) kept) (λ yes. omega arith) (λ no. cc)) in
      let split : answered batch ≡ (front ++ first ∷ []) ++ (middle ++ second ∷ behind) = is ∙ sym (append_assoc front (first ∷ []) (middle ++ second ∷ behind)) in
      let low = bound_stays lane round seen first.reply.w (answered batch) (front ++ first ∷ []) middle (second ∷ behind) (dont_fall lane round) split at in
      let here = positions ((front ++ first ∷ []) ++ middle) behind second (split ∙ sym (append_assoc (front ++ first ∷ []) middle (second ∷ behind))) in
      omega (arith, low, here.low)

  -- a position isn't below where its round starts
  pub from_start : (before later : List Answered) (here : Answered) → answered batch ≡ before ++ here ∷ later → start_of batch here.operation.round ≤ here.reply.w
  from_start before later here is =
      let lane = here.operation.lane in
      let round = here.operation.round in
      let seen = start_of batch round in
      let low = bound_stays lane round seen seen (answered batch) [] before (here ∷ later) (dont_fall lane round) is (omega arith) in
      omega (arith, low, (positions before later here is).low)

-- ---- rounds ----

abbrev one_if : Bool → ℕ
one_if test = cond test 1 0

-- a write told before a round is told before a later one
no_more : (early later tells : Bool) → (early ≡ true → later ≡ true) → one_if (early && tells) ≤ one_if (later && tells)
no_more true true tells h = omega arith
no_more true false tells h = let no = h refl in cc
no_more false true true h = omega arith
no_more false true false h = omega arith
no_more false false tells h = omega arith

-- so there are no fewer
pub starts_rise : (those : List Answered) (round next : ℕ) → round ≤ next → count_by (is_write_before round) those ≤ count_by (is_write_before next) those
starts_rise [] round next low = omega arith
starts_rise (here ∷ those) round next low =
    let one = no_more (nat_lt here.operation.round round) (nat_lt here.operation.round next) (tells_write here.reply.answer)
    (λ yes. lt-ltb here.operation.round next (omega (arith, low, ltb-true here.operation.round round yes))) in
    omega (arith, one, starts_rise those round next low, sum_by-cons (λ (it : Answered). one_if (is_write_before round it)) here those, sum_by-cons (λ (it : Answered). one_if (is_write_before next it)) here those)
