-- The writes that replies tell of, and how many of them each lane tells.
use Rattle.std.proofs.Common.{◌≡◌, ℕ, suc, ◌+◌, ◌-◌, ◌≤◌, ◌<◌, ◌==◌, Bool, true, false, cond, List, [], ◌∷◌, ◌++◌, length, Option, Some, None, is_some, count_by, refl, sym, ap, ◌∙◌, arith}
use Rattle.std.specs.Prelude.{All, filter_map}
use Rattle.std.specs.List.{cons_option}
use Rattle.std.proofs.lemmas.Bool.{eqb-true, eq-eqb}
use Rattle.std.proofs.lemmas.List.Elements.{All-head, All-tail, filter-append, filter_map-append}
use Rattle.std.proofs.lemmas.List.Sums.{sum_by-cons}
use Rattle.tz_lookup.specs.declared.found.Found.{Found}
use Rattle.tz_script.specs.declared.operation.Op.{Op}
use Rattle.tz_script.specs.declared.operation.Op.TheVariants as ops
use Rattle.tz_script.specs.declared.operation.Pick.{Pick}
use Rattle.pin_book.specs.declared.write.Write.{Write}
use Rattle.pin_book.specs.Replay.{Edition}
use Rattle.pin_book.specs.Sequence.{writes_by}
use Rattle.tz_batch.specs.Answering.{AnswersLook, AnswersHold, AnswersDrop, AnswersReload, AnswersErase, AnswersList, AnswersLookup, AnswersOp}
use Rattle.tz_batch.specs.Batch.{Answered, tells_write}
use Rattle.tz_batch.specs.Round.{Round}
use Rattle.tz_batch.specs.Run.{PlacedChange, change_told, change_told_in}
use Rattle.tz_batch.specs.declared.answer.Answer.{Answer}
use Rattle.tz_batch.specs.declared.answer.Answer.TheVariants as answers
use Rattle.tz_lane.specs.Lane.{changes_told_by, writes_from}
use Rattle.tz_rounds.specs.Rounds.{of_lane}
use Rattle.tz_rounds.proofs.Sums.{sum_below, sum_same, sum_both, sum_none, sum_one}

-- ---- by lane ----

-- what the replies of a lane tell, among those of all lanes
pub told_in_lane : (lane : ℕ) (those : List Answered) → filter_map (change_told_in lane) those ≡ changes_told_by (of_lane lane those)
told_in_lane lane [] = refl
told_in_lane lane (here ∷ later) = by_lane (told_in_lane lane later) (here.operation.lane == lane)
  where
    by_lane : filter_map (change_told_in lane) later ≡ changes_told_by (of_lane lane later) → (b : Bool)
        → cons_option (cond b (change_told here) None) (filter_map (change_told_in lane) later) ≡ changes_told_by (cond b (here ∷ of_lane lane later) (of_lane lane later))
    by_lane rest true = ap (cons_option (change_told here)) rest
    by_lane rest false = rest

-- in two parts
pub told_append : (lane : ℕ) (first second : List Answered) → changes_told_by (of_lane lane (first ++ second)) ≡ changes_told_by (of_lane lane first) ++ changes_told_by (of_lane lane second)
told_append lane first second =
    ap changes_told_by (filter-append (λ (here : Answered). here.operation.lane == lane) first second)
    ∙ filter_map-append change_told (of_lane lane first) (of_lane lane second)

-- as many writes as changes
pub as_many : (number count : ℕ) (those : List PlacedChange) → length (writes_from number count those) ≡ length those
as_many number count [] = refl
as_many number count (placed ∷ those) = ap suc (as_many number (count + 1) those)

-- ---- sums over lanes ----

-- 1 where there is a change
abbrev one_told : Option PlacedChange → ℕ
one_told change = cond (is_some change) 1 0

one_longer : (change : Option PlacedChange) (those : List PlacedChange) → length (cons_option change those) ≡ one_told change + length those
one_longer None those = omega arith
one_longer (Some change) those = omega arith

-- an operation counts in its own lane
in_own_lane : (lane : ℕ) (here : Answered) (those : List PlacedChange) → length (cons_option (change_told_in lane here) those) ≡ cond (here.operation.lane == lane) (one_told (change_told here)) 0 + length those
in_own_lane lane here those = by_lane (here.operation.lane == lane)
  where
    by_lane : (b : Bool) → length (cons_option (cond b (change_told here) None) those) ≡ cond b (one_told (change_told here)) 0 + length those
    by_lane true = one_longer (change_told here) those
    by_lane false = omega arith

-- the lane is one of so many
abbrev pub IsLane : ℕ → Answered → Type 0
IsLane lanes here = (1 ≤ here.operation.lane) × (here.operation.lane ≤ lanes)

-- All lanes together tell what all replies tell.
pub all_lanes : (lanes : ℕ) (those : List Answered) → All (IsLane lanes) those → sum_below (λ number. length (filter_map (change_told_in (number + 1)) those)) lanes ≡ length (changes_told_by those)
all_lanes lanes [] inside = sum_none lanes
all_lanes lanes (here ∷ later) inside =
    let one = one_told (change_told here) in
    let own = All-head (IsLane lanes) here later inside in
    let counts = λ (number : ℕ). cond (here.operation.lane == number + 1) one 0 in
    let rest = λ (number : ℕ). length (filter_map (change_told_in (number + 1)) later) in
    let parts : sum_below (λ number. length (filter_map (change_told_in (number + 1)) (here ∷ later))) lanes ≡ sum_below (λ number. counts number + rest number) lanes =
    sum_same (λ number. length (filter_map (change_told_in (number + 1)) (here ∷ later))) (λ number. counts number + rest number) lanes
    (λ number low. in_own_lane (number + 1) here (filter_map (change_told_in (number + 1)) later)) in
    let first : sum_below counts lanes ≡ one =
    sum_one (λ number. here.operation.lane == number + 1) one (here.operation.lane - 1) lanes (omega (arith, own.0, own.1))
    (eq-eqb here.operation.lane (here.operation.lane - 1 + 1) (omega (arith, own.0)))
    (λ number same. omega (arith, eqb-true here.operation.lane (number + 1) same)) in
    let second : sum_below rest lanes ≡ length (changes_told_by later) = all_lanes lanes later (All-tail (IsLane lanes) here later inside) in
    omega (arith, parts, sum_both counts rest lanes, first, second, one_longer (change_told here) (changes_told_by later))

-- a write counts for its own number
by_own_number : (number : ℕ) (write : Write) (journal : List Write) → length (writes_by number (write ∷ journal)) ≡ cond (write.by == number) 1 0 + length (writes_by number journal)
by_own_number number write journal = by_number (write.by == number)
  where
    by_number : (b : Bool) → length (cond b (write ∷ writes_by number journal) (writes_by number journal)) ≡ cond b 1 0 + length (writes_by number journal)
    by_number true = omega arith
    by_number false = omega arith

-- All numbers together have made all writes.
pub all_numbers : (lanes : ℕ) (journal : List Write) → All (λ (write : Write). write.by < lanes) journal → sum_below (λ number. length (writes_by number journal)) lanes ≡ length journal
all_numbers lanes [] inside = sum_none lanes
all_numbers lanes (write ∷ journal) inside =
    let counts = λ (number : ℕ). cond (write.by == number) 1 0 in
    let rest = λ (number : ℕ). length (writes_by number journal) in
    let parts : sum_below (λ number. length (writes_by number (write ∷ journal))) lanes ≡ sum_below (λ number. counts number + rest number) lanes =
    sum_same (λ number. length (writes_by number (write ∷ journal))) (λ number. counts number + rest number) lanes (λ number low. by_own_number number write journal) in
    let first : sum_below counts lanes ≡ 1 =
    sum_one (λ number. write.by == number) 1 write.by lanes (All-head (λ (it : Write). it.by < lanes) write journal inside) (eq-eqb write.by write.by refl)
    (λ number same. sym (eqb-true write.by number same)) in
    let second : sum_below rest lanes ≡ length journal = all_numbers lanes journal (All-tail (λ (it : Write). it.by < lanes) write journal inside) in
    omega (arith, parts, sum_both counts rest lanes, first, second)

-- ---- which replies tell of a write ----

-- the reply tells of a write where its answer does
abbrev pub TellsAsAnswered : Answered → Type 0
TellsAsAnswered here = tells_write here.reply.answer ≡ is_some (change_told here)

-- as many as are told
pub all_told_count : (those : List Answered) → All TellsAsAnswered those → length (changes_told_by those) ≡ count_by (λ (here : Answered). tells_write here.reply.answer) those
all_told_count [] tells = refl
all_told_count (here ∷ later) tells =
    let own : tells_write here.reply.answer ≡ is_some (change_told here) = All-head TellsAsAnswered here later tells in
    let one : cond (tells_write here.reply.answer) 1 0 ≡ one_told (change_told here) = ap (λ (b : Bool). cond b 1 0) own in
    let rest : length (changes_told_by later) ≡ count_by (λ (it : Answered). tells_write it.reply.answer) later = all_told_count later (All-tail TellsAsAnswered here later tells) in
    omega (arith, one_longer (change_told here) (changes_told_by later), sum_by-cons (λ (it : Answered). cond (tells_write it.reply.answer) 1 0) here later, one, rest)

module _ (round : Round) (last : ℕ) (holds : List ℕ → Edition → Type 0) (line number lane place w : ℕ) where
  -- an operation with an answer
  abbrev with_answer : Op → Answer → Answered
  with_answer op answer = record {
    operation = record { line = line; round = number; lane = lane; op = op };
    reply = record { line = place; w = w; answer = answer };
  }

  abbrev Tells : Op → Answer → Type 0
  Tells op answer = TellsAsAnswered (with_answer op answer)

  look_tells : (answer : Answer) → AnswersLook round w answer → Tells ops.Look answer
  look_tells (answers.Front n slot) right = refl
  look_tells _ right = absurd right

  hold_tells : (name : List ℕ) (answer : Answer) → AnswersHold round w answer → Tells (ops.Hold name) answer
  hold_tells name (answers.Held n slot) right = refl
  hold_tells name _ right = absurd right

  drop_tells : (name : List ℕ) (answer : Answer) → AnswersDrop holds name answer → Tells (ops.Drop name) answer
  drop_tells name (answers.Dropped n slot) right = refl
  drop_tells name _ right = absurd right

  list_tells : (answer : Answer) → AnswersList round w answer → Tells ops.List answer
  list_tells (answers.Listed listing) right = refl
  list_tells _ right = absurd right

  -- a lookup is answered in one form only
  only_on : (Q : Answer → Type 0) (pick : Pick) (finds : Edition → Found → Type 0) (answer : Answer) → ((n slot : ℕ) (found : Found) → Q (answers.On n slot found)) → AnswersLookup round holds w pick finds answer → Q answer
  only_on Q pick finds (answers.On n slot found) each right = each n slot found
  only_on Q pick finds _ each right = absurd right

reload_tells : (round : Round) (line number lane place src w : ℕ) (answer : Answer) → AnswersReload round src w answer → TellsAsAnswered (record { operation = record { line = line; round = number; lane = lane; op = ops.Reload src }; reply = record { line = place; w = w; answer = answer } })
reload_tells round line number lane place src w (answers.Refused file at cause) right = refl
reload_tells round line number lane place src w (answers.Same n) right = refl
reload_tells round line number lane place src (suc w) (answers.Pushed n slot) right = refl
reload_tells round line number lane place src w answers.Full right = refl
reload_tells round line number lane place src w _ right = absurd right

erase_tells : (round : Round) (last : ℕ) (holds : List ℕ → Edition → Type 0) (line number lane place : ℕ) (pick : Pick) (w : ℕ) (answer : Answer) → AnswersErase round last holds pick w answer → TellsAsAnswered (record { operation = record { line = line; round = number; lane = lane; op = ops.Erase pick }; reply = record { line = place; w = w; answer = answer } })
erase_tells round last holds line number lane place pick w (answers.NotListed n slot) right = refl
erase_tells round last holds line number lane place pick w (answers.Nothing n slot) right = refl
erase_tells round last holds line number lane place pick (suc w) (answers.Erased n slot gone) right = refl
erase_tells round last holds line number lane place pick w _ right = absurd right

-- A right answer tells of a write where its reply does.
pub answer_tells : (round : Round) (last : ℕ) (holds : List ℕ → Edition → Type 0) (line number lane place : ℕ) (op : Op) (w : ℕ) (answer : Answer) → AnswersOp round last holds op w answer → TellsAsAnswered (record { operation = record { line = line; round = number; lane = lane; op = op }; reply = record { line = place; w = w; answer = answer } })
answer_tells round last holds line number lane place ops.Look w answer right = look_tells round last holds line number lane place w answer right
answer_tells round last holds line number lane place (ops.Hold name) w answer right = hold_tells round last holds line number lane place w name answer right
answer_tells round last holds line number lane place (ops.Drop name) w answer right = drop_tells round last holds line number lane place w name answer right
answer_tells round last holds line number lane place (ops.Info v zone t) w answer right =
    only_on round last holds line number lane place w (Tells round last holds line number lane place w (ops.Info v zone t)) v _ answer (λ n slot found. refl) right
answer_tells round last holds line number lane place (ops.Local v zone l) w answer right =
    only_on round last holds line number lane place w (Tells round last holds line number lane place w (ops.Local v zone l)) v _ answer (λ n slot found. refl) right
answer_tells round last holds line number lane place (ops.Sys v zone l choose) w answer right =
    only_on round last holds line number lane place w (Tells round last holds line number lane place w (ops.Sys v zone l choose)) v _ answer (λ n slot found. refl) right
answer_tells round last holds line number lane place (ops.Scan v zone from step count) w answer right =
    only_on round last holds line number lane place w (Tells round last holds line number lane place w (ops.Scan v zone from step count)) v _ answer (λ n slot found. refl) right
answer_tells round last holds line number lane place (ops.Clock v conv x) w answer right =
    only_on round last holds line number lane place w (Tells round last holds line number lane place w (ops.Clock v conv x)) v _ answer (λ n slot found. refl) right
answer_tells round last holds line number lane place (ops.Reload src) w answer right = reload_tells round line number lane place src w answer right
answer_tells round last holds line number lane place (ops.Erase v) w answer right = erase_tells round last holds line number lane place v w answer right
answer_tells round last holds line number lane place ops.List w answer right = list_tells round last holds line number lane place w answer right
