-- A lane in its round, between two of its operations.
use Rattle.std.proofs.Common.{◌≡◌, ℕ, zero, suc, ◌+◌, ◌≤◌, ◌<◌, ◌==◌, Bool, true, false, not, cond, List, [], ◌∷◌, ◌++◌, length, map, take, drop, get_or, filter, Contains, IsPermutation, IsTrue, Some, None, Option, refl, sym, ap, subst, ◌∙◌, append_assoc, append-nil, take-append-drop, arith}
use Rattle.std.specs.Prelude.{IfSome}
use Rattle.std.specs.List.{list_all}
use Rattle.std.proofs.lemmas.Bool.{and_parts, cond-true, cond-false, eqb-true}
use Rattle.std.proofs.lemmas.List.{take_more, take_all, map-append, length-map}
use Rattle.std.proofs.lemmas.List.Sorted.{IsPermutation-refl}
use Rattle.std.proofs.lemmas.List.Elements.{Contains-append_left, Contains-append_right, All-contains, All-contains_itself, All-filter, filter-append}
use Rattle.std.proofs.lemmas.List.Sums.{sum_by-cons}
use Rattle.pin_core.specs.declared.view.View.{View}
use Rattle.pin_core.specs.declared.entry.Entry.{Entry}
use Rattle.pin_table.specs.declared.sitting.Plan.{Plan}
use Rattle.pin_table.specs.Handles.{pin_of}
use Rattle.pin_table.specs.declared.table.PinTable.{PinTable}
use Rattle.pin_table.specs.declared.reader.Reader.{Reader}
use Rattle.pin_table.specs.Reader.{reader_view}
use Rattle.pin_book.specs.declared.payload.Payload.{Ghosts}
use Rattle.std.specs.Prelude.{Vec}
use Rattle.std.specs.declared.alloc.Global.{Global}
use Rattle.pin_table.specs.Table.{plan as plan_of}
use Rattle.tz_script.specs.Inside.{change_count}
use Rattle.tz_script.specs.Keeping.{is_in, ops_in, may_stand, names_open, is_there, KeepsSources}
use Rattle.tz_script.specs.declared.limit.TheConstants.{MOST_HOLDS}
use Rattle.tz_script.specs.Line.{is_missing}
use Rattle.tz_script.specs.Operation.{is_change, source_asked}
use Rattle.tz_script.specs.Size.{IsSized}
use Rattle.tz_script.specs.declared.operation.Op.{Op}
use Rattle.tz_script.specs.declared.operation.Op.TheVariants as ops
use Rattle.tz_script.specs.declared.operation.Operation.{Operation}
use Rattle.tz_script.specs.declared.script.Script.{Script}
use Rattle.tz_script.proofs.Order.{lines_rise}
use Rattle.tz_version.specs.declared.sources.Sources.{Sources}
use Rattle.tz_version.specs.Release.{Release}
use Rattle.pin_book.specs.Replay.{Edition}
use Rattle.tz_batch.specs.Answering.{AnswersOp}
use Rattle.tz_batch.specs.Round.{Round}
use Rattle.tz_batch.specs.declared.answer.Answer.{Answer}
use Rattle.tz_batch.specs.declared.answer.Answer.TheVariants as answers
use Rattle.tz_batch.specs.Batch.{Answered, each_answered}
use Rattle.tz_batch.specs.declared.reply.Reply.{Reply}
use Rattle.tz_lane.specs.Holding.{names_of, AreHeld, LaneHoldsAs, HoldsAfter}
use Rattle.tz_lane.specs.Meeting.{lane_round, writes_made}
use Rattle.tz_lane.specs.Lane.{lane_operations, RunsLane}
use Rattle.tz_lane.specs.Parts.{StandTogether}
use Rattle.tz_lane.specs.Serving.{ServesInLane}
use Rattle.tz_lane.specs.declared.lane_hold.LaneHold.{LaneHold}
use Rattle.tz_lane.specs.declared.told.Told.{Told}
use Rattle.tz_lane.proofs.Mirrors.{IsOf, IsDropped}
use Rattle.tz_lane.proofs.Names.{few_held, same_count, Stand, stand_first, stand_next, may_stand_next, none_left, dropped_away}
use Rattle.tz_lane.proofs.Running.{HasRun, has_run_none, has_run_next, reply_of, answered_as}

-- What stands of a lane's round before the operation at this place: the replies so far, and what the reader knows and holds.
pub record Underway (plan : Plan Release) (sources : Sources) (number lane round : ℕ) (operations : List Operation) (v : View) (i : ℕ) (replies : List Reply) (now : View) (holds : List LaneHold) : Type 0 where
  pub lines : map (λ (reply : Reply). reply.line) replies ≡ map (λ (operation : Operation). operation.line) (lane_operations lane round (take i operations))
  pub run : HasRun plan sources number lane round v (each_answered (lane_operations lane round (take i operations)) replies) now holds
  pub stand : Stand (ops_in lane round (drop i operations)) (names_of holds)
  pub held : AreHeld plan now holds
  pub room : change_count (lane_operations lane round (drop i operations)) ≤ now.allowance

-- ---- lists ----

filter_has : {A : Type 0} (test : A → Bool) (xs : List A) (x : A) → Contains (filter test xs) x → Contains xs x
filter_has {A} test xs x has = All-contains (λ (y : A). Contains xs y) (filter test xs) x (All-filter test (λ (y : A). Contains xs y) xs (All-contains_itself xs)) has

split_at : {A : Type 0} (xs : List A) (x : A) → Contains xs x → (before : List A) × (behind : List A) × (xs ≡ before ++ x ∷ behind)
split_at [] x (k, low, at) = absurd (omega (arith, low))
split_at (y ∷ xs) x (zero, low, at) = ([], xs, ap (λ z. z ∷ xs) at)
split_at (y ∷ xs) x (suc k, low, at) = let rest = split_at xs x (k, omega (arith, low), at) in (y ∷ rest.0, rest.1, ap (λ (zs : List _). y ∷ zs) rest.2)

has_operation : (operations : List Operation) (replies : List Reply) (a : Answered) → Contains (each_answered operations replies) a → Contains operations a.operation
has_operation [] replies a (k, low, at) = absurd (omega (arith, low))
has_operation (operation ∷ operations) [] a (k, low, at) = absurd (omega (arith, low))
has_operation (operation ∷ operations) (reply ∷ replies) a (zero, low, at) = (zero, omega arith, ap (λ (x : Answered). x.operation) at)
has_operation (operation ∷ operations) (reply ∷ replies) a (suc k, low, at) =
    let rest = has_operation operations replies a (k, omega (arith, low), at) in (suc rest.0, omega (arith, rest.1), rest.2)

one_more_answered : (operations : List Operation) (replies : List Reply) (operation : Operation) (reply : Reply) → length replies ≡ length operations
    → each_answered (operations ++ operation ∷ []) (replies ++ reply ∷ []) ≡ each_answered operations replies ++ record { operation = operation; reply = reply } ∷ []
one_more_answered [] [] operation reply long = refl
one_more_answered [] (other ∷ replies) operation reply long = absurd (omega (arith, long))
one_more_answered (first ∷ operations) [] operation reply long = absurd (omega (arith, long))
one_more_answered (first ∷ operations) (other ∷ replies) operation reply long =
    ap (λ (more : List Answered). record { operation = first; reply = other } ∷ more) (one_more_answered operations replies operation reply (omega (arith, long)))

-- what is left from a place on begins with what stands there
dropped_from : (operations : List Operation) (i : ℕ) (here : Operation) → i < length operations → here ≡ get_or operations i here → drop i operations ≡ here ∷ drop (i + 1) operations
dropped_from [] i here low is = absurd (omega (arith, low))
dropped_from (operation ∷ operations) zero here low is = ap (λ (it : Operation). it ∷ operations) (sym is)
dropped_from (operation ∷ operations) (suc i) here low is = dropped_from operations i here (omega (arith, low)) is ∙ ap (λ (n : ℕ). here ∷ drop n (operation ∷ operations)) next
  where
    next : suc (i + 1) ≡ suc i + 1
    next = omega arith

taken_to : (operations : List Operation) (i : ℕ) (here : Operation) → i < length operations → here ≡ get_or operations i here → take (i + 1) operations ≡ take i operations ++ here ∷ []
taken_to operations i here low is = take_more operations i here low ∙ ap (λ (it : Operation). take i operations ++ it ∷ []) (sym is)

-- ---- one operation of the script ----

module _ (lane round : ℕ) (operations : List Operation) (i : ℕ) (here : Operation) (low : i < length operations) (is : here ≡ get_or operations i here) where
  -- one that isn't the lane's in the round
  passed_done : is_in lane round here ≡ false → lane_operations lane round (take (i + 1) operations) ≡ lane_operations lane round (take i operations)
  passed_done away =
      ap (lane_operations lane round) (taken_to operations i here low is) ∙ filter-append (is_in lane round) (take i operations) (here ∷ [])
      ∙ ap (λ (xs : List Operation). lane_operations lane round (take i operations) ++ xs) (cond-false (is_in lane round here) (here ∷ []) [] away)
      ∙ append-nil (lane_operations lane round (take i operations))

  passed_coming : is_in lane round here ≡ false → lane_operations lane round (drop i operations) ≡ lane_operations lane round (drop (i + 1) operations)
  passed_coming away =
      ap (lane_operations lane round) (dropped_from operations i here low is)
      ∙ cond-false (is_in lane round here) (here ∷ lane_operations lane round (drop (i + 1) operations)) (lane_operations lane round (drop (i + 1) operations)) away

  -- and one that is
  own_done : is_in lane round here ≡ true → lane_operations lane round (take (i + 1) operations) ≡ lane_operations lane round (take i operations) ++ here ∷ []
  own_done inside =
      ap (lane_operations lane round) (taken_to operations i here low is) ∙ filter-append (is_in lane round) (take i operations) (here ∷ [])
      ∙ ap (λ (xs : List Operation). lane_operations lane round (take i operations) ++ xs) (cond-true (is_in lane round here) (here ∷ []) [] inside)

  own_coming : is_in lane round here ≡ true → lane_operations lane round (drop i operations) ≡ here ∷ lane_operations lane round (drop (i + 1) operations)
  own_coming inside =
      ap (lane_operations lane round) (dropped_from operations i here low is)
      ∙ cond-true (is_in lane round here) (here ∷ lane_operations lane round (drop (i + 1) operations)) (lane_operations lane round (drop (i + 1) operations)) inside

-- ---- the loop ----

-- no operation makes a write but a change, and that makes one
pub made_few : (number : ℕ) (v : View) (q : Round) (last : ℕ) (held : List ℕ → Edition → Type 0) (w : ℕ) (op : Op) (answer : Answer) → AnswersOp q last held op w answer → length (writes_made number v op answer) ≤ cond (is_change op) 1 0
made_few number v q last held w (ops.Reload src) (answers.Pushed n slot) right = omega arith
made_few number v q last held w (ops.Reload src) (answers.Erased n slot gone) right = omega arith
made_few number v q last held w (ops.Reload src) answer right = omega arith
made_few number v q last held w (ops.Erase pick) (answers.Erased n slot gone) right = omega arith
made_few number v q last held w (ops.Erase pick) answer right = omega arith
made_few number v q last held w op (answers.Erased n slot gone) right = absurd right
made_few number v q last held w op answer right = omega arith

-- at first
pub underway_first : (plan : Plan Release) (sources : Sources) (number lane round : ℕ) (operations : List Operation) (v : View) → names_open [] (ops_in lane round operations) ≡ Some [] → AreHeld plan v []
    → change_count (lane_operations lane round operations) ≤ v.allowance → Underway plan sources number lane round operations v 0 [] v []
underway_first plan sources number lane round operations v names held room = record {
  lines = refl;
  run = has_run_none plan sources number lane round v;
  stand = stand_first (ops_in lane round operations) names;
  held = held;
  room = room;
}

is_dropped : (line w : ℕ) (op : Op) (more : List Op) (holds later : List LaneHold) → Stand (op ∷ more) (names_of holds) → HoldsAfter line op w holds later → IsDropped op later
is_dropped line w (ops.Drop name) more holds later stand (hold, named, s) = dropped_away holds later hold name (ops.Drop name) more stand named s
is_dropped line w op more holds later stand after = tt

module _ (plan : Plan Release) (sources : Sources) (number lane round : ℕ) (operations : List Operation) (v now : View) (i : ℕ) (replies : List Reply) (holds : List LaneHold) (here : Operation)
    (low : i < length operations) (is : here ≡ get_or operations i here) (underway : Underway plan sources number lane round operations v i replies now holds) where
  -- an operation of another lane is passed by
  pub underway_past : is_in lane round here ≡ false → Underway plan sources number lane round operations v (i + 1) replies now holds
  underway_past away =
      let done = passed_done lane round operations i here low is away in let coming = passed_coming lane round operations i here low is away in
      record {
        lines = underway.lines ∙ ap (map (λ (operation : Operation). operation.line)) (sym done);
        run = subst (λ (xs : List Operation). HasRun plan sources number lane round v (each_answered xs replies) now holds) (sym done) underway.run;
        stand = subst (λ (xs : List Operation). Stand (map (λ (operation : Operation). operation.op) xs) (names_of holds)) coming underway.stand;
        held = underway.held;
        room = subst (λ (xs : List Operation). change_count xs ≤ now.allowance) coming underway.room;
      }

  module _ (inside : is_in lane round here ≡ true) where
    coming : lane_operations lane round (drop i operations) ≡ here ∷ lane_operations lane round (drop (i + 1) operations)
    coming = own_coming lane round operations i here low is inside

    stand_here : Stand (here.op ∷ ops_in lane round (drop (i + 1) operations)) (names_of holds)
    stand_here = subst (λ (xs : List Operation). Stand (map (λ (operation : Operation). operation.op) xs) (names_of holds)) coming underway.stand

    -- what the next operation asks for
    pub may_stand_here : may_stand (names_of holds) here.op ≡ true
    may_stand_here = may_stand_next here.op (ops_in lane round (drop (i + 1) operations)) (names_of holds) stand_here

    count_here : change_count (lane_operations lane round (drop i operations)) ≡ cond (is_change here.op) 1 0 + change_count (lane_operations lane round (drop (i + 1) operations))
    count_here = ap change_count coming ∙ sum_by-cons (λ (it : Operation). cond (is_change it.op) 1 0) here (lane_operations lane round (drop (i + 1) operations))

    pub room_here : IsTrue (is_change here.op) → 0 < now.allowance
    room_here change = let one = cond-true {A = ℕ} (is_change here.op) 1 0 change in let room = underway.room in omega (arith, count_here, one, room)

    -- the lane's operations before it stand at lines before its own
    fresh : (script : Script) → StandTogether script.operations operations → (a : Answered) → Contains (each_answered (lane_operations lane round (take i operations)) replies) a → ¬ (a.operation.line ≡ here.line)
    fresh script together a has same =
        let before = filter_has (is_in lane round) (take i operations) a.operation (has_operation (lane_operations lane round (take i operations)) replies a has) in
        let split = split_at (take i operations) a.operation before in
        let whole : operations ≡ (split.0 ++ a.operation ∷ split.1) ++ here ∷ drop (i + 1) operations =
        sym (take-append-drop i operations) ∙ (λ j. split.2 j ++ dropped_from operations i here low is j) in
        let all : script.operations ≡ (together.before ++ split.0) ++ a.operation ∷ split.1 ++ here ∷ (drop (i + 1) operations ++ together.behind) =
        together.is ∙ ap (λ (xs : List Operation). together.before ++ xs ++ together.behind) whole ∙ regroup together.before split.0 split.1 (drop (i + 1) operations) together.behind a.operation here in
        let rise = lines_rise script.operations (together.before ++ split.0) split.1 (drop (i + 1) operations ++ together.behind) a.operation here script.sound.rising all in
        omega (arith, rise, same)
      where
        regroup : {A : Type 0} (a b c d e : List A) (x y : A) → a ++ ((b ++ x ∷ c) ++ y ∷ d) ++ e ≡ (a ++ b) ++ x ∷ c ++ y ∷ (d ++ e)
        regroup a b c d e x y =
            append_assoc a ((b ++ x ∷ c) ++ y ∷ d) e ∙ ap (λ (zs : List _). a ++ zs) (append_assoc (b ++ x ∷ c) (y ∷ d) e ∙ append_assoc b (x ∷ c) (y ∷ (d ++ e))) ∙ sym (append_assoc a b (x ∷ (c ++ y ∷ (d ++ e)))) ∙ sym (append_assoc (a ++ b) (x ∷ c) (y ∷ (d ++ e)))

    -- what is underway with one reply more
    pub underway_more : (script : Script) → StandTogether script.operations operations → (told : Told) (next : View) (later : List LaneHold) (more : List Reply)
        → ServesInLane plan sources number now holds here.line here.op told next later → AreHeld plan next later → more ≡ replies ++ reply_of here told ∷ []
        → Underway plan sources number lane round operations v (i + 1) more next later
    underway_more script together told next later more served held pushed =
        let done = own_done lane round operations i here low is inside in
        let lane_is = and_parts (here.lane == lane) (here.round == round) inside in
        let of : IsOf lane round (answered_as here told) = (eqb-true here.lane lane lane_is.0, eqb-true here.round round lane_is.1) in
        let long : length replies ≡ length (lane_operations lane round (take i operations)) = sym (length-map replies (λ (reply : Reply). reply.line)) ∙ ap length underway.lines ∙ length-map (lane_operations lane round (take i operations)) (λ (operation : Operation). operation.line) in
        let away = is_dropped here.line told.w here.op (ops_in lane round (drop (i + 1) operations)) holds later stand_here served.holds in
        let ran = has_run_next plan sources number lane round v now next (each_answered (lane_operations lane round (take i operations)) replies) holds later here told underway.run served of (fresh script together) away in
        let both : each_answered (lane_operations lane round (take (i + 1) operations)) more ≡ each_answered (lane_operations lane round (take i operations)) replies ++ answered_as here told ∷ [] =
        (λ j. each_answered (done j) (pushed j)) ∙ one_more_answered (lane_operations lane round (take i operations)) replies here (reply_of here told) long in
        let made = served.meets.allowance in let few = made_few number now (lane_round plan sources 0 next) (length now.seen) (LaneHoldsAs (lane_round plan sources 0 next) holds) told.w here.op told.answer (served.answer 0) in
        let room = underway.room in
        record {
          lines = ap (map (λ (reply : Reply). reply.line)) pushed ∙ map-append (λ (reply : Reply). reply.line) replies (reply_of here told ∷ [])
              ∙ ap (λ (xs : List ℕ). xs ++ here.line ∷ []) underway.lines ∙ sym (map-append (λ (operation : Operation). operation.line) (lane_operations lane round (take i operations)) (here ∷ []))
              ∙ ap (map (λ (operation : Operation). operation.line)) (sym done);
          run = subst (λ (those : List Answered). HasRun plan sources number lane round v those next later) (sym both) ran;
          stand = stand_next here.line told.w here.op (ops_in lane round (drop (i + 1) operations)) holds later stand_here served.holds;
          held = held;
          room = omega (arith, made, few, room, count_here);
        }

-- ---- what the loop asks of the script ----

-- an operation of those that stand together is one of the script's
part_has : (script : Script) (operations : List Operation) → StandTogether script.operations operations → (i : ℕ) (here : Operation) → i < length operations → here ≡ get_or operations i here → Contains script.operations here
part_has script operations together i here low is =
    subst (λ (xs : List Operation). Contains xs here) (sym together.is)
    (Contains-append_left (together.before ++ operations) together.behind here (Contains-append_right together.before operations here (i, low, sym is)))

there_if : (sources : ℕ) (asked : Option ℕ) → not (is_missing sources asked) ≡ true → IfSome asked (λ src. src < sources)
there_if sources None h = tt
there_if sources (Some src) h = grind arith

has_passed : {A : Type 0} (test : A → Bool) (xs : List A) (x : A) → Contains xs x → list_all test xs ≡ true → test x ≡ true
has_passed test [] x (k, low, at) all = absurd (omega (arith, low))
has_passed test (y ∷ xs) x (zero, low, at) all = ap test (sym at) ∙ (and_parts (test y) (list_all test xs) all).0
has_passed test (y ∷ xs) x (suc k, low, at) all = has_passed test xs x (k, omega (arith, low), at) (and_parts (test y) (list_all test xs) all).1

pub there_here : (sources : ℕ) (script : Script) (operations : List Operation) → StandTogether script.operations operations → (i : ℕ) (here : Operation) → i < length operations → here ≡ get_or operations i here → KeepsSources sources script.operations → IfSome (source_asked here.op) (λ src. src < sources)
there_here sources script operations together i here low is keeps =
    there_if sources (source_asked here.op) (has_passed (is_there sources) script.operations here (part_has script operations together i here low is) keeps)

pub sized_here : (script : Script) (operations : List Operation) → StandTogether script.operations operations → (i : ℕ) (here : Operation) → i < length operations → here ≡ get_or operations i here → IsSized here.op
sized_here script operations together i here low is = All-contains (λ (operation : Operation). IsSized operation.op) script.operations here script.sized (part_has script operations together i here low is)

pub few_here : (plan : Plan Release) (sources : Sources) (number lane round : ℕ) (operations : List Operation) (v now : View) (i : ℕ) (replies : List Reply) (holds : List LaneHold)
    → Underway plan sources number lane round operations v i replies now holds → length holds ≤ MOST_HOLDS
few_here plan sources number lane round operations v now i replies holds underway =
    let few = few_held (ops_in lane round (drop i operations)) (names_of holds) underway.stand in let long = length-map holds (λ (hold : LaneHold). hold.name) in omega (arith, few, long)

-- holds by one table are holds by the same one
pub held_by : (table later : PinTable Release Sources) → later ≡ table → (v : View) (holds : List LaneHold) → AreHeld (plan_of table) v holds → AreHeld (plan_of later) v holds
held_by table later same v holds held = subst (λ (it : PinTable Release Sources). AreHeld (plan_of it) v holds) (sym same) held

-- what a reader of that table and number is told
pub served_by : (table later : PinTable Release Sources) → later ≡ table → (number other : ℕ) → other ≡ number → (sources : Sources) (v : View) (holds : List LaneHold) (line : ℕ) (op : Op) (told : Told) (next : View) (left : List LaneHold)
    → ServesInLane (plan_of later) sources other v holds line op told next left → ServesInLane (plan_of table) sources number v holds line op told next left
served_by table later same number other alike sources v holds line op told next left served =
    subst (λ (it : PinTable Release Sources). ServesInLane (plan_of it) sources number v holds line op told next left) same
    (subst (λ (n : ℕ). ServesInLane (plan_of later) sources n v holds line op told next left) alike served)

-- ---- the beginning and the end ----

no_holds : (plan : Plan Release) (v : View) → v.entries ≡ [] → AreHeld plan v []
no_holds plan v free = record {
  pins = subst (IsPermutation []) (sym free) (IsPermutation-refl []);
  made = λ hold has. absurd (let low = has.1 in omega (arith, low));
}

pub underway_begins : (plan : Plan Release) (sources : Sources) (number lane round : ℕ) (script : Script) (operations : List Operation) (v : View) (holds : List LaneHold) (replies : List Reply)
    → ((other : ℕ) → lane_operations other round operations ≡ lane_operations other round script.operations) → v.entries ≡ [] → holds ≡ [] → change_count (lane_operations lane round script.operations) ≤ v.allowance → replies ≡ []
    → Underway plan sources number lane round operations v 0 replies v holds
underway_begins plan sources number lane round script operations v holds replies whole free none allowance empty =
    subst (λ (xs : List LaneHold). Underway plan sources number lane round operations v 0 replies v xs) (sym none)
    (subst (λ (xs : List Reply). Underway plan sources number lane round operations v 0 xs v []) (sym empty)
    (underway_first plan sources number lane round operations v
    (ap (λ (xs : List Operation). names_open [] (map (λ (operation : Operation). operation.op) xs)) (whole lane) ∙ script.holds_kept lane round)
    (no_holds plan v free) (subst (λ (xs : List Operation). change_count xs ≤ v.allowance) (sym (whole lane)) allowance)))

module _ (plan : Plan Release) (sources : Sources) (number lane round : ℕ) (script : Script) (operations : List Operation) (whole : (other : ℕ) → lane_operations other round operations ≡ lane_operations other round script.operations) (v now : View) (i : ℕ) (replies : List Reply) (holds : List LaneHold)
    (past : length operations ≤ i) (underway : Underway plan sources number lane round operations v i replies now holds) where
  all_done : lane_operations lane round (take i operations) ≡ lane_operations lane round script.operations
  all_done = ap (lane_operations lane round) (take_all i operations past) ∙ whole lane

  -- no hold is open at the end
  pub none_at_end : holds ≡ []
  none_at_end =
      let coming : drop i operations ≡ [] = drop_all i operations past in
      let none = none_left (names_of holds) (subst (λ (xs : List Operation). Stand (map (λ (operation : Operation). operation.op) (lane_operations lane round xs)) (names_of holds)) coming underway.stand) in
      no_names holds none
    where
      no_names : (xs : List LaneHold) → names_of xs ≡ [] → xs ≡ []
      no_names [] none = refl
      no_names (x ∷ xs) none = cc

      drop_all : {A : Type 0} (k : ℕ) (xs : List A) → length xs ≤ k → drop k xs ≡ []
      drop_all zero [] low = refl
      drop_all (suc k) [] low = refl
      drop_all zero (x ∷ xs) low = absurd (omega (arith, low))
      drop_all (suc k) (x ∷ xs) low = drop_all k xs (omega (arith, low))

  pub lines_at_end : map (λ (reply : Reply). reply.line) replies ≡ map (λ (operation : Operation). operation.line) (lane_operations lane round script.operations)
  lines_at_end = underway.lines ∙ ap (map (λ (operation : Operation). operation.line)) all_done

  -- so the reader has no handle left, and what the lane ran is whole
  pub runs_at_end : RunsLane plan sources number v (each_answered (lane_operations lane round script.operations) replies) now
  runs_at_end =
      let run : HasRun plan sources number lane round v (each_answered (lane_operations lane round script.operations) replies) now holds =
      subst (λ (xs : List Operation). HasRun plan sources number lane round v (each_answered xs replies) now holds) all_done underway.run in
      let pins = subst (λ (xs : List LaneHold). IsPermutation (map (λ (hold : LaneHold). pin_of hold.handle) xs) now.entries) none_at_end underway.held.pins in
      record {
        grows = run.grows;
        right = run.right;
        positions = run.positions;
        above = run.above;
        slots = run.slots;
        pushes = run.pushes;
        own = run.own;
        placed = run.placed;
        order = run.order;
        allowance = run.allowance;
        counts = run.counts;
        keeps = run.keeps;
        free = no_entries now.entries (sym (same_count [] now.entries pins));
      }
    where
      no_entries : (xs : List Entry) → length xs ≡ 0 → xs ≡ []
      no_entries [] long = refl
      no_entries (x ∷ xs) long = absurd (omega (arith, long))

-- what stands for a reader, its holds and its replies stands for those that are the same
pub turned : (plan : Plan Release) (sources : Sources) (number lane round : ℕ) (operations : List Operation) (v : View) (i : ℕ) (table : PinTable Release Sources) {meanings : Ghosts Release Sources}
    (reader now : Reader Release Sources meanings) → reader ≡ now → (holds left : List LaneHold) → holds ≡ left → (replies more : Vec Reply Global) → replies ≡ more
    → Underway plan sources number lane round operations v i more.items (reader_view now) left × (now.table.now ≡ table) × (now.number ≡ number)
    → Underway plan sources number lane round operations v i replies.items (reader_view reader) holds × (reader.table.now ≡ table) × (reader.number ≡ number)
turned plan sources number lane round operations v i table {meanings} reader now same_reader holds left same_holds replies more same_replies it =
    let P : Reader Release Sources meanings → List LaneHold → List Reply → Type 0 = λ r h xs. Underway plan sources number lane round operations v i xs (reader_view r) h × (r.table.now ≡ table) × (r.number ≡ number) in
    subst (λ (xs : List Reply). P reader holds xs) (sym (ap (λ (xs : Vec Reply Global). xs.items) same_replies))
    (subst (λ (h : List LaneHold). P reader h more.items) (sym same_holds) (subst (λ (r : Reader Release Sources meanings). P r left more.items) (sym same_reader) it))
