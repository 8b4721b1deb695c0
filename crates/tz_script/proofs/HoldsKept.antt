-- What the lines of a script give keeps the rules on holds, line by line.
use Rattle.std.proofs.Common.{◌≡◌, ℕ, ◌+◌, ◌<◌, ◌≤◌, ◌==◌, nat_le, nat_lt, Bool, true, false, not, ◌&&◌, if◌then◌else◌, ◌⊎◌, inl, inr, List, [], ◌∷◌, ◌++◌, length, Option, Some, None, Result, Ok, Err, refl, sym, ap, subst, ◌∙◌, ⊎_elim, option_map, arith}
use Rattle.std.proofs.lemmas.Bool.{cases_Bool, cases_lt}
use Rattle.std.specs.List.{list_all}
use Rattle.std.proofs.lemmas.Bool.Decides.{nat_tests}
use Rattle.std.proofs.lemmas.List.Folds.{list_all-append}
use Rattle.tz_types.specs.declared.fault.LineFault.{LineFault}
use Rattle.tz_specs.specs.Choice.{◌>>=◌}
use Rattle.tz_specs.specs.Day.{or_else}
use Rattle.tz_specs.specs.Line.{lines_of}
use Rattle.tz_script.specs.Cause.{least_script_cause, script_fault_at}
use Rattle.tz_script.specs.Contents.{ScriptContents, no_script_contents, first_left, with_line_said}
use Rattle.tz_script.specs.Holds.{is_open, longest_open_line, holds_after}
use Rattle.tz_script.specs.Keeping.{ops_in, is_among_names, may_begin, has_needed, may_stand, names_open, KeepsHolds, is_there, KeepsSources}
use Rattle.tz_script.specs.Line.{lanes_said, round_causes, lane_causes, operation_causes, operation_said, lane_of, is_round, word_causes, words_say, script_line_causes, unless_refused, script_line_says, is_held_twice, is_unknown, is_crowded, is_missing, is_late, standing_causes}
use Rattle.tz_script.specs.OpWords.{op_said}
use Rattle.tz_script.specs.Operation.{hold_begun, hold_needed, source_asked}
use Rattle.tz_script.specs.Script.{script_contents_after, script_contents_of, are_blank, blank_fault, whole_fault, ReadsScript}
use Rattle.tz_script.specs.Words.{line_words}
use Rattle.tz_script.specs.declared.cause.ScriptCause.{ScriptCause}
use Rattle.tz_script.specs.declared.cause.ScriptCause.TheVariants as causes
use Rattle.tz_script.specs.declared.limit.TheConstants.{MOST_HOLDS}
use Rattle.tz_script.specs.declared.holds.OpenHold.{OpenHold}
use Rattle.tz_script.specs.declared.operation.Op.{Op}
use Rattle.tz_script.specs.declared.operation.Operation.{Operation}
use Rattle.tz_script.specs.declared.statement.Statement.{Statement}
use Rattle.tz_script.specs.declared.statement.Statement.TheVariants as statements
use Rattle.tz_script.specs.declared.script.Script.{Script}
use Rattle.tz_script.proofs.Reading.{after_none, after_said, after_cause}
use Rattle.tz_script.proofs.HoldRules.{names_in, open_is_named, count_in, names_of_lane, names_of_others, pushed_in, pushed_elsewhere, open_pushed}

-- The operation that is said has no cause by what stands before it.
abbrev MayStand : ℕ → ScriptContents → Option Statement → Type 0
MayStand sources contents (Some (statements.Operation lane op)) = least_script_cause (standing_causes sources contents lane op) ≡ None
MayStand sources contents _ = Unit {0}

three_of_five : (a b c d e : Bool) → least_script_cause ((causes.HoldTwice, a) ∷ (causes.HoldUnknown, b) ∷ (causes.TooManyHolds, c) ∷ (causes.SourceIndex, d) ∷ (causes.Limit, e) ∷ []) ≡ None → (a ≡ false) × (b ≡ false) × (c ≡ false)
three_of_five false false false d e h = (refl, refl, refl)
three_of_five true b c d e h = cc
three_of_five false true c d e h = cc
three_of_five false false true d e h = cc

behind_two : (a b : Bool) (rows : List (ScriptCause × Bool)) → least_script_cause ((causes.Op, a) ∷ (causes.Operand, b) ∷ rows) ≡ None → least_script_cause rows ≡ None
behind_two false false rows h = h
behind_two true b rows h = cc
behind_two false true rows h = cc

begins_well : (lane : ℕ) (holds : List OpenHold) (begun : Option (List ℕ)) → is_held_twice lane holds begun ≡ false → is_crowded lane holds begun ≡ false → may_begin (names_in lane holds) begun ≡ true
begins_well lane holds None twice crowded = refl
begins_well lane holds (Some name) twice crowded =
    by_tests (is_open lane name holds) (is_among_names name (names_in lane holds)) (length (names_in lane holds)) (open_is_named lane name holds) twice (ap (λ (n : ℕ). not (is_open lane name holds) && nat_le MOST_HOLDS n) (count_in lane holds) ∙ crowded)
  where
    few : (count : ℕ) → nat_le MOST_HOLDS count ≡ false → nat_lt count MOST_HOLDS ≡ true
    few count crowded = grind arith

    by_tests : (here named : Bool) (count : ℕ) → here ≡ named → here ≡ false → (not here && nat_le MOST_HOLDS count) ≡ false → (not named && nat_lt count MOST_HOLDS) ≡ true
    by_tests true named count same twice crowded = cc
    by_tests false true count same twice crowded = cc
    by_tests false false count same twice crowded = few count crowded

needs_well : (lane : ℕ) (holds : List OpenHold) (needed : Option (List ℕ)) → is_unknown lane holds needed ≡ false → has_needed (names_in lane holds) needed ≡ true
needs_well lane holds None known = refl
needs_well lane holds (Some name) known =
    sym (open_is_named lane name holds) ∙ by_test (is_open lane name holds) known
  where
    by_test : (here : Bool) → not here ≡ false → here ≡ true
    by_test true h = refl
    by_test false h = cc

stands_well : (sources : ℕ) (contents : ScriptContents) (lane : ℕ) (op : Op) → least_script_cause (standing_causes sources contents lane op) ≡ None → may_stand (names_in lane contents.holds) op ≡ true
stands_well sources contents lane op none =
    let facts = three_of_five (is_held_twice lane contents.holds (hold_begun op)) (is_unknown lane contents.holds (hold_needed op)) (is_crowded lane contents.holds (hold_begun op)) (is_missing sources (source_asked op)) (is_late contents op) none in
    rw (begins_well lane contents.holds (hold_begun op) facts.0 facts.2) (needs_well lane contents.holds (hold_needed op) facts.1)

by_parts : (sources : ℕ) (contents : ScriptContents) (a b : Bool) (lane_word : Option ℕ) (op_words : Option Op) (lane : ℕ) (op : Op) → least_script_cause ((causes.Op, a) ∷ (causes.Operand, b) ∷ lane_causes sources contents lane_word op_words) ≡ None → (lane_word >>= λ it. op_words >>= λ does. Some (statements.Operation it does)) ≡ Some (statements.Operation lane op) → least_script_cause (standing_causes sources contents lane op) ≡ None
by_parts sources contents a b None op_words lane op none e = cc
by_parts sources contents a b (Some it) None lane op none e = cc
by_parts sources contents a b (Some it) (Some does) lane op none e =
    let same_lane : it ≡ lane = cc in
    let same_op : does ≡ op = cc in
    let stands = behind_two a b (standing_causes sources contents it does) none in
    rw (same_lane, same_op) at stands

not_lanes : (lanes : Option ℕ) (lane : ℕ) (op : Op) → option_map statements.Lanes lanes ≡ Some (statements.Operation lane op) → ⊥
not_lanes None lane op e = cc
not_lanes (Some lanes) lane op e = cc

by_round : (sources : ℕ) (contents : ScriptContents) (lanes : ℕ) (word : List ℕ) (words : List (List ℕ)) (round : Bool) (lane : ℕ) (op : Op) → least_script_cause (if round then round_causes contents words else operation_causes sources contents lanes word words) ≡ None → (if round then Some statements.Round else operation_said lanes word words) ≡ Some (statements.Operation lane op) → least_script_cause (standing_causes sources contents lane op) ≡ None
by_round sources contents lanes word words true lane op none e = cc
by_round sources contents lanes word words false lane op none e =
    by_parts sources contents _ _ (lane_of lanes word) (op_said words) lane op none e

by_words : (sources : ℕ) (contents : ScriptContents) (lanes : Option ℕ) (words : List (List ℕ)) (it : Option Statement) → least_script_cause (word_causes sources contents lanes words) ≡ None → words_say lanes words ≡ it → MayStand sources contents it
by_words sources contents lanes words None none e = tt
by_words sources contents lanes words (Some (statements.Lanes count)) none e = tt
by_words sources contents lanes words (Some statements.Round) none e = tt
by_words sources contents None [] (Some (statements.Operation lane op)) none e = cc
by_words sources contents (Some lanes) [] (Some (statements.Operation lane op)) none e = cc
by_words sources contents None (word ∷ words) (Some (statements.Operation lane op)) none e =
    absurd (not_lanes (lanes_said (word ∷ words)) lane op e)
by_words sources contents (Some lanes) (word ∷ words) (Some (statements.Operation lane op)) none e =
    by_round sources contents lanes word words (is_round word) lane op none e

ok_parts : (told : Option ScriptCause) (it other : Option Statement) → unless_refused told it ≡ Ok other → (told ≡ None) × (it ≡ other)
ok_parts None it other e = (refl, cc)
ok_parts (Some cause) it other e = cc

behind_one : (a : Bool) (rows : List (ScriptCause × Bool)) → least_script_cause ((causes.Line, a) ∷ rows) ≡ None → least_script_cause rows ≡ None
behind_one false rows h = h
behind_one true rows h = cc

-- what a line says may stand where it does
said_stands : (sources : ℕ) (contents : ScriptContents) (line : List ℕ) (it : Option Statement) → script_line_says sources contents line ≡ Ok it → MayStand sources contents it
unfolding script_line_says
said_stands sources contents line it e =
    let parts = ok_parts (least_script_cause (script_line_causes sources contents line)) (words_say contents.lanes (line_words line)) it e in
    by_words sources contents contents.lanes (line_words line) it (behind_one _ (word_causes sources contents contents.lanes (line_words line)) parts.0) parts.1

-- The round that was begun last has these holds open; those before it have none, where none was left open; and there is
-- none after it.
record AreKept (rounds : ℕ) (operations : List Operation) (holds : List OpenHold) (left : Option ℕ) : Type 0 where
  here : (lane : ℕ) → names_open [] (ops_in lane rounds operations) ≡ Some (names_in lane holds)
  earlier : left ≡ None → (lane round : ℕ) → round < rounds → names_open [] (ops_in lane round operations) ≡ Some []
  later : (lane round : ℕ) → rounds < round → ops_in lane round operations ≡ []

abbrev AreHeld : ScriptContents → Type 0
AreHeld contents = AreKept contents.rounds contents.operations contents.holds contents.left

none_left : (left : Option ℕ) (holds : List OpenHold) → or_else left (longest_open_line holds) ≡ None → (left ≡ None) × (holds ≡ [])
none_left None [] e = (refl, refl)
none_left None (hold ∷ holds) e = cc
none_left (Some line) holds e = cc

nothing_in : (lane : ℕ) (holds : List OpenHold) → holds ≡ [] → Some (names_in lane holds) ≡ Some []
nothing_in lane holds none = rw none refl

by_order : (a b : ℕ) → (a < b) ⊎ ((a ≡ b) ⊎ (b < a))
by_order a b =
    ⊎_elim (λ (lt : a < b). inl lt)
    (λ (le : b ≤ a). ⊎_elim (λ (gt : b < a). inr (inr gt)) (λ (ge : a ≤ b). inr (inl (omega arith))) (cases_lt b a))
    (cases_lt a b)

-- no hold is left open in any round
all_dropped : (rounds : ℕ) (operations : List Operation) (holds : List OpenHold) (left : Option ℕ) → AreKept rounds operations holds left → or_else left (longest_open_line holds) ≡ None → KeepsHolds operations
all_dropped rounds operations holds left kept e lane round =
    let parts = none_left left holds e in
    by_place (by_order round rounds) parts.0 parts.1
  where
    by_place : (round < rounds) ⊎ ((round ≡ rounds) ⊎ (rounds < round)) → left ≡ None → holds ≡ [] → names_open [] (ops_in lane round operations) ≡ Some []
    by_place (inl before) none empty = kept.earlier none lane round before
    by_place (inr (inl same)) none empty = rw same (kept.here lane ∙ nothing_in lane holds empty)
    by_place (inr (inr behind)) none empty = rw (kept.later lane round behind) refl

round_begun : (rounds : ℕ) (operations : List Operation) (holds : List OpenHold) (left : Option ℕ) → AreKept rounds operations holds left → AreKept (rounds + 1) operations [] (or_else left (longest_open_line holds))
round_begun rounds operations holds left kept =
    record {
      here = λ lane. rw (kept.later lane (rounds + 1) (omega arith)) refl;
      earlier = λ none lane round before. all_dropped rounds operations holds left kept none lane round;
      later = λ lane round behind. kept.later lane round (omega arith);
    }

other_round : (a b c : ℕ) (lane : Bool) → (c < a) ⊎ (a < c) → (lane && (a == c)) ≡ false
other_round a b c true apart = differ a c apart
  where
    differ : (a c : ℕ) → (c < a) ⊎ (a < c) → (a == c) ≡ false
    differ a c (inl lt) = grind (arith, nat_tests)
    differ a c (inr lt) = grind (arith, nat_tests)
other_round a b c false apart = refl

both_tests : (a b : Bool) → a ≡ true → b ≡ true → (a && b) ≡ true
both_tests a b h k = grind arith

first_test : (a b : Bool) → a ≡ false → (a && b) ≡ false
first_test a b h = grind arith

same_number : (n : ℕ) → (n == n) ≡ true
same_number n = grind (arith, nat_tests)

is_number : (a b : ℕ) → (a == b) ≡ true → a ≡ b
is_number a b same = grind (arith, nat_tests)

operation_done : (number rounds lane : ℕ) (op : Op) (operations : List Operation) (holds : List OpenHold) (left : Option ℕ) → may_stand (names_in lane holds) op ≡ true → AreKept rounds operations holds left → AreKept rounds (operations ++ record { line = number; round = rounds; lane = lane; op = op } ∷ []) (holds_after number lane op holds) left
operation_done number rounds lane op operations holds left may kept =
    record {
      here = λ other. by_lane other;
      earlier =
          λ none other round before.
          ap (names_open []) (pushed_elsewhere other round operations done (other_round rounds 0 round (lane == other) (inl before)))
          ∙ kept.earlier none other round before;
      later =
          λ other round behind.
          pushed_elsewhere other round operations done (other_round rounds 0 round (lane == other) (inr behind)) ∙ kept.later other round behind;
    }
  where
    done : Operation
    done = record { line = number; round = rounds; lane = lane; op = op }

    by_lane : (other : ℕ) → names_open [] (ops_in other rounds (operations ++ done ∷ [])) ≡ Some (names_in other (holds_after number lane op holds))
    by_lane other =
        ⊎_elim
        (λ (here : (lane == other) ≡ true).
        let same : lane ≡ other = is_number lane other here in
        let it : names_open [] (ops_in lane rounds (operations ++ done ∷ [])) ≡ Some (names_in lane (holds_after number lane op holds)) =
        ap (names_open []) (pushed_in lane rounds operations done (both_tests (lane == lane) (rounds == rounds) (same_number lane) (same_number rounds)))
        ∙ open_pushed [] (ops_in lane rounds operations) op (names_in lane holds) (kept.here lane) may
        ∙ ap Some (sym (names_of_lane number lane op holds)) in
        let P : ℕ → Type 0 = λ n. names_open [] (ops_in n rounds (operations ++ done ∷ [])) ≡ Some (names_in n (holds_after number lane op holds)) in
        subst P same it)
        (λ (there : (lane == other) ≡ false).
        ap (names_open []) (pushed_elsewhere other rounds operations done (first_test (lane == other) (rounds == rounds) there))
        ∙ kept.here other ∙ ap Some (sym (names_of_others number lane other op holds there)))
        (cases_Bool (lane == other))

-- one more line
still_held : (sources number : ℕ) (contents : ScriptContents) (it : Option Statement) → MayStand sources contents it → AreHeld contents → AreHeld (with_line_said number it contents)
still_held sources number contents None may held = held
still_held sources number contents (Some (statements.Lanes lanes)) may held = held
still_held sources number contents (Some statements.Round) may held =
    round_begun contents.rounds contents.operations contents.holds contents.left held
still_held sources number contents (Some (statements.Operation lane op)) may held =
    operation_done number contents.rounds lane op contents.operations contents.holds contents.left (stands_well sources contents lane op may) held

-- what each line keeps, all lines keep
kept_after : (P : ScriptContents → Type 0) (sources : ℕ) (step : (number : ℕ) (contents : ScriptContents) (it : Option Statement) → MayStand sources contents it → P contents → P (with_line_said number it contents)) (lines : List (List ℕ)) (contents : ScriptContents) (number : ℕ) (after : ScriptContents) → P contents → script_contents_after sources contents number lines ≡ Ok after → P after
kept_after P sources step [] contents number after kept e =
    let all : Ok contents ≡ Ok after = sym (after_none sources contents number) ∙ e in
    let same : contents ≡ after = cc in subst P same kept
kept_after P sources step (line ∷ lines) contents number after kept e =
    by_line (script_line_says sources contents line) refl e
    (λ (it : Option Statement) (next : P (with_line_said number it contents)) (given : script_contents_after sources (with_line_said number it contents) (number + 1) lines ≡ Ok after). kept_after P sources step lines (with_line_said number it contents) (number + 1) after next given)
  where
    by_line : (outcome : Result (Option Statement) ScriptCause) → script_line_says sources contents line ≡ outcome → script_contents_after sources contents number (line ∷ lines) ≡ Ok after → ((it : Option Statement) → P (with_line_said number it contents) → script_contents_after sources (with_line_said number it contents) (number + 1) lines ≡ Ok after → P after) → P after
    by_line (Ok it) says given next =
        next it (step number contents it (said_stands sources contents line it says) kept) (sym (after_said sources contents number line lines it says) ∙ given)
    by_line (Err cause) says given next =
        let fault : Err (script_fault_at number cause) ≡ Ok after = sym (after_cause sources contents number line lines cause says) ∙ given in
        cc

none_held : AreHeld no_script_contents
none_held =
    record {
      here = λ lane. refl;
      earlier = λ none lane round before. absurd (omega arith);
      later = λ lane round behind. refl;
    }

kept_of : (P : ScriptContents → Type 0) (sources : ℕ) (step : (number : ℕ) (contents : ScriptContents) (it : Option Statement) → MayStand sources contents it → P contents → P (with_line_said number it contents)) (text : List ℕ) (contents : ScriptContents) → P no_script_contents → script_contents_of sources text ≡ Ok contents → P contents
unfolding script_contents_of
kept_of P sources step text contents none e =
    by_test (are_blank (lines_of text)) (blank_fault (lines_of text)) (script_contents_after sources no_script_contents 1 (lines_of text)) e (λ (given : script_contents_after sources no_script_contents 1 (lines_of text) ≡ Ok contents). kept_after P sources step (lines_of text) no_script_contents 1 contents none given)
  where
    by_test : (blank : Bool) (fault : LineFault) (given : Result ScriptContents LineFault) → (if blank then Err fault else given) ≡ Ok contents → (given ≡ Ok contents → P contents) → P contents
    by_test true fault given e next = cc
    by_test false fault given e next = next e

no_left : (lanes left : Option ℕ) (contents : ScriptContents) → contents.lanes ≡ lanes → first_left contents ≡ left → whole_fault contents ≡ None → first_left contents ≡ None
no_left None left contents lanes is none = let told = rw lanes at none in cc
no_left (Some count) None contents lanes is none = is
no_left (Some count) (Some line) contents lanes is none = let told = rw (lanes, is) at none in cc

-- contents without a fault keep the rules on holds
pub contents_keep_holds : (sources : ℕ) (text : List ℕ) (contents : ScriptContents) → script_contents_of sources text ≡ Ok contents → whole_fault contents ≡ None → KeepsHolds contents.operations
contents_keep_holds sources text contents given no_fault =
    let held = kept_of AreHeld sources (still_held sources) text contents none_held given in
    let dropped = no_left contents.lanes (first_left contents) contents refl refl no_fault in
    all_dropped contents.rounds contents.operations contents.holds contents.left held dropped

-- a script that is read keeps the rules on holds
pub script_keeps_holds : (sources : ℕ) (text : List ℕ) (script : Script) → ReadsScript sources text script → KeepsHolds script.operations
script_keeps_holds sources text script read =
    rw read.operations (contents_keep_holds sources text read.contents read.given read.no_fault)

fourth_of_five : (a b c d e : Bool) → least_script_cause ((causes.HoldTwice, a) ∷ (causes.HoldUnknown, b) ∷ (causes.TooManyHolds, c) ∷ (causes.SourceIndex, d) ∷ (causes.Limit, e) ∷ []) ≡ None → d ≡ false
fourth_of_five a b c false e h = refl
fourth_of_five true b c true e h = cc
fourth_of_five false true c true e h = cc
fourth_of_five false false true true e h = cc
fourth_of_five false false false true e h = cc

abbrev AreKnown : ℕ → ScriptContents → Type 0
AreKnown sources contents = KeepsSources sources contents.operations

-- one more line asks for no text that isn't there
still_known : (sources number : ℕ) (contents : ScriptContents) (it : Option Statement) → MayStand sources contents it → AreKnown sources contents → AreKnown sources (with_line_said number it contents)
still_known sources number contents None may known = known
still_known sources number contents (Some (statements.Lanes lanes)) may known = known
still_known sources number contents (Some statements.Round) may known = known
still_known sources number contents (Some (statements.Operation lane op)) may known =
    let missing = fourth_of_five (is_held_twice lane contents.holds (hold_begun op)) (is_unknown lane contents.holds (hold_needed op)) (is_crowded lane contents.holds (hold_begun op)) (is_missing sources (source_asked op)) (is_late contents op) may in
    let done : Operation = record { line = number; round = contents.rounds; lane = lane; op = op } in
    list_all-append (is_there sources) contents.operations (done ∷ [])
    ∙ both_tests (list_all (is_there sources) contents.operations) (list_all (is_there sources) (done ∷ [])) known (rw missing refl)

-- a script that is read asks for no text that isn't there
pub script_keeps_sources : (sources : ℕ) (text : List ℕ) (script : Script) → ReadsScript sources text script → KeepsSources sources script.operations
script_keeps_sources sources text script read =
    rw read.operations (kept_of (AreKnown sources) sources (still_known sources) text read.contents refl read.given)
