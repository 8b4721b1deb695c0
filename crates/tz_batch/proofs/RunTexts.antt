-- What the text of a run settles.
use Rattle.std.proofs.Common.{◌≡◌, ℕ, ◌<◌, ◌^◌, List, [], ◌∷◌, ◌++◌, length, map, refl, sym, ap, ◌∙◌, append_assoc, arith}
use Rattle.std.specs.List.{flat_map}
use Rattle.std.specs.Fmt.{decimal}
use Rattle.std.specs.Prelude.{codes}
use Rattle.std.proofs.lemmas.List.{append_cancel_left}
use Rattle.tz_script.specs.Keeping.{KeepsSources}
use Rattle.tz_script.specs.declared.operation.Op.{Op}
use Rattle.tz_script.specs.declared.operation.Op.TheVariants as ops
use Rattle.tz_script.specs.declared.operation.Operation.{Operation}
use Rattle.tz_script.specs.declared.operation.Pick.{Pick}
use Rattle.tz_script.specs.declared.script.Script.{Script}
use Rattle.tz_version.specs.declared.sources.Sources.{Sources}
use Rattle.pin_book.specs.Replay.{Edition}
use Rattle.pin_book.specs.declared.write.Write.{Write}
use Rattle.tz_batch.specs.OutcomeText.{answer_text, reply_line, outcome_text}
use Rattle.tz_batch.specs.Batch.{Batch, Answered, each_answered, answered}
use Rattle.tz_batch.specs.Laws.{batch_of}
use Rattle.tz_batch.specs.Round.{Round, round_of, position_before}
use Rattle.tz_expand.specs.declared.compiled_zone.CompiledZone.{CompiledZone}
use Rattle.tz_batch.specs.Finding.{FindsInfo, FindsLocal, FindsSys, FindsScan, FindsInZone, FindsByClock}
use Rattle.tz_batch.specs.Answering.{IsRightReply, AnswersInZone}
use Rattle.tz_batch.specs.Held.{IsHeldAs}
use Rattle.tz_batch.specs.Run.{IsRun}
use Rattle.tz_batch.specs.declared.answer.Answer.{Answer}
use Rattle.tz_lookup.specs.declared.found.Found.{Found}
use Rattle.tz_batch.specs.declared.outcome.Outcome.{Outcome}
use Rattle.tz_batch.specs.declared.reply.Reply.{Reply}
use Rattle.tz_batch.proofs.NumberCuts.{rest_same, number_before}
use Rattle.tz_batch.proofs.OutcomeTexts.{FitsFront, parts_settled, replies_text, reply_laid, reply_is_laid}
use Rattle.tz_batch.proofs.JournalBounds.{journal_few, writes_fit, replies_few, position_low}
use Rattle.tz_batch.proofs.AnswerTexts.{AreAlike, HoldFronts, look_settled, hold_settled, drop_settled, lookup_settled, reload_settled, erase_settled, list_settled}
use Rattle.tz_batch.proofs.LanePositions.{both}
use Rattle.tz_batch.proofs.OneZone.{in_zone_settled}
use Rattle.tz_batch.proofs.FoundOnce.{info_once, local_once, sys_once, scan_once, by_clock_once}

abbrev operation_of : ℕ → ℕ → ℕ → Op → Operation
operation_of line round lane op = record { line = line; round = round; lane = lane; op = op }

abbrev reply_of : ℕ → ℕ → Answer → Reply
reply_of line w answer = record { line = line; w = w; answer = answer }

reply_same : (x y : Reply) → x.line ≡ y.line → x.w ≡ y.w → x.answer ≡ y.answer → x ≡ y
reply_same x y one two three =
    ap (λ line. reply_of line x.w x.answer) one ∙ ap (λ w. reply_of y.line w x.answer) two ∙ ap (λ answer. reply_of y.line y.w answer) three

first_line : (m n : ℕ) (p q : List ℕ) → m ∷ p ≡ n ∷ q → m ≡ n
first_line m n p q e = cc

later_lines : (m n : ℕ) (p q : List ℕ) → m ∷ p ≡ n ∷ q → p ≡ q
later_lines m n p q e = cc

longer : (x y : Reply) (p q : List Reply) → x ≡ y → p ≡ q → x ∷ p ≡ y ∷ q
longer x y p q one two = cc

abbrev lines_of : List Reply → List ℕ
lines_of replies = map (λ (reply : Reply). reply.line) replies

abbrev lines_asked : List Operation → List ℕ
lines_asked operations = map (λ (operation : Operation). operation.line) operations

-- two lines of replies to one operation settle the position, and the text that follows
position_cut : (x y : Reply) (z t : List ℕ) → x.line ≡ y.line → x.w < 2 ^ 64 → y.w < 2 ^ 64 → reply_line x ++ z ≡ reply_line y ++ t
    → (x.w ≡ y.w) × (answer_text x.answer ++ 10 ∷ z ≡ answer_text y.answer ++ 10 ∷ t)
position_cut x y z t line low_x low_y text =
    let behind_x : List ℕ = decimal x.w ++ 32 ∷ (answer_text x.answer ++ 10 ∷ z) in
    let behind_y : List ℕ = decimal y.w ++ 32 ∷ (answer_text y.answer ++ 10 ∷ t) in
    let laid : reply_laid x z ≡ reply_laid y t = sym (reply_is_laid x z) ∙ text ∙ reply_is_laid y t in
    let behind = append_cancel_left (decimal x.line) (32 ∷ 64 ∷ behind_x) (32 ∷ 64 ∷ behind_y) (laid ∙ ap (λ it. decimal it ++ 32 ∷ 64 ∷ behind_y) (sym line)) in
    number_before 32 x.w y.w (answer_text x.answer ++ 10 ∷ z) (answer_text y.answer ++ 10 ∷ t) (omega arith) low_x low_y
    (rest_same 64 64 behind_x behind_y (rest_same 32 32 (64 ∷ behind_x) (64 ∷ behind_y) behind))

-- what is held was at the front where the hold began
fronts_of : (round : Round) (before : List Answered) (operation : Operation) → HoldFronts round (IsHeldAs round before operation)
fronts_of round before operation name edition held = (held.begun.reply.w, held.version)

module _ (script : Script) (sources : Sources) (slots : ℕ) (a b : Outcome) (journals : a.journal ≡ b.journal) (run_a : IsRun script sources slots a) (run_b : IsRun script sources slots b) where
  abbrev batch_a : Batch
  batch_a = batch_of script sources slots a

  abbrev batch_b : Batch
  batch_b = batch_of script sources slots b

  alike : (number : ℕ) → AreAlike (round_of batch_a number) (round_of batch_b number)
  alike number = record { slots = refl; sources = refl; journal = journals; replay = run_a.replay; few = journal_few script sources slots a run_a }

  -- what the operation's lane holds
  abbrev held_in_a : ℕ → List Answered → Operation → List ℕ → Edition → Type 0
  held_in_a number before operation = IsHeldAs (round_of batch_a number) before operation

  abbrev held_in_b : ℕ → List Answered → Operation → List ℕ → Edition → Type 0
  held_in_b number before operation = IsHeldAs (round_of batch_b number) before operation

  -- answers to a lookup in a zone are settled by their text, where the zone settles what is found there
  zone_settled : (number : ℕ) (before : List Answered) (operation : Operation) (w v : ℕ) (pick : Pick) (zone : List ℕ) (finds : CompiledZone → Found → Type 0) (x y : Answer) (z t : List ℕ)
      → ((compiled : CompiledZone) (f g : Found) → finds compiled f → finds compiled g → f ≡ g)
      → AnswersInZone (round_of batch_a number) (held_in_a number before operation) w pick zone finds x
      → AnswersInZone (round_of batch_b number) (held_in_b number before operation) v pick zone finds y
      → answer_text x ++ z ≡ answer_text y ++ t → x ≡ y
  zone_settled number before operation w v pick zone finds x y z t once h k text =
      lookup_settled (round_of batch_a number) (round_of batch_b number) (alike number) (held_in_a number before operation) (held_in_b number before operation) (fronts_of (round_of batch_a number) before operation) (fronts_of (round_of batch_b number) before operation) w v pick (λ edition. FindsInZone sources edition.src zone finds) x y z t
      (λ (e o : Edition) (f g : Found) same one two. in_zone_settled sources e.src o.src zone finds f g once same one two) h k text

  -- the answers to an operation are settled by their text and their position
  answer_settled : (before : List Answered) (line round lane : ℕ) (op : Op) (x y : Reply) (z t : List ℕ) → x.w ≡ y.w
      → IsRightReply (round_of batch_a round) before (both (operation_of line round lane op) x)
      → IsRightReply (round_of batch_b round) before (both (operation_of line round lane op) y)
      → answer_text x.answer ++ z ≡ answer_text y.answer ++ t → x.answer ≡ y.answer
  answer_settled before line round lane ops.Look x y z t at h k text =
      look_settled (round_of batch_a round) (round_of batch_b round) (alike round) x.w y.w x.answer y.answer at h k
  answer_settled before line round lane (ops.Hold name) x y z t at h k text =
      hold_settled (round_of batch_a round) (round_of batch_b round) (alike round) x.w y.w x.answer y.answer at h k
  answer_settled before line round lane (ops.Drop name) x y z t at h k text =
      drop_settled (round_of batch_a round) (round_of batch_b round) (alike round) (held_in_a round before (operation_of line round lane (ops.Drop name))) (held_in_b round before (operation_of line round lane (ops.Drop name))) (fronts_of (round_of batch_a round) before (operation_of line round lane (ops.Drop name))) (fronts_of (round_of batch_b round) before (operation_of line round lane (ops.Drop name))) name x.answer y.answer z t h k text
  answer_settled before line round lane (ops.Info v zone l) x y z t at h k text =
      zone_settled round before (operation_of line round lane (ops.Info v zone l)) x.w y.w v zone (λ compiled. FindsInfo compiled l) x.answer y.answer z t (info_once l) h k text
  answer_settled before line round lane (ops.Local v zone l) x y z t at h k text =
      zone_settled round before (operation_of line round lane (ops.Local v zone l)) x.w y.w v zone (λ compiled. FindsLocal compiled l) x.answer y.answer z t (local_once l) h k text
  answer_settled before line round lane (ops.Sys v zone l choose) x y z t at h k text =
      zone_settled round before (operation_of line round lane (ops.Sys v zone l choose)) x.w y.w v zone (λ compiled. FindsSys compiled l choose) x.answer y.answer z t (sys_once l choose) h k text
  answer_settled before line round lane (ops.Scan v zone from step count) x y z t at h k text =
      zone_settled round before (operation_of line round lane (ops.Scan v zone from step count)) x.w y.w v zone (λ compiled. FindsScan compiled from step count) x.answer y.answer z t (scan_once from step count) h k text
  answer_settled before line round lane (ops.Clock v conv count) x y z t at h k text =
      lookup_settled (round_of batch_a round) (round_of batch_b round) (alike round) (held_in_a round before (operation_of line round lane (ops.Clock v conv count))) (held_in_b round before (operation_of line round lane (ops.Clock v conv count))) (fronts_of (round_of batch_a round) before (operation_of line round lane (ops.Clock v conv count))) (fronts_of (round_of batch_b round) before (operation_of line round lane (ops.Clock v conv count))) x.w y.w v (λ edition. FindsByClock sources conv count) x.answer y.answer z t
      (λ (e o : Edition) (f g : Found) same one two. by_clock_once sources conv count f g one two) h k text
  answer_settled before line round lane (ops.Reload src) x y z t at h k text =
      reload_settled (round_of batch_a round) (round_of batch_b round) (alike round) src x.w y.w x.answer y.answer z t at h k text
  answer_settled before line round lane (ops.Erase v) x y z t at h k text =
      erase_settled (round_of batch_a round) (round_of batch_b round) (alike round) (held_in_a round before (operation_of line round lane (ops.Erase v))) (held_in_b round before (operation_of line round lane (ops.Erase v))) (fronts_of (round_of batch_a round) before (operation_of line round lane (ops.Erase v))) (fronts_of (round_of batch_b round) before (operation_of line round lane (ops.Erase v))) (position_before (round_of batch_a round) before (operation_of line round lane (ops.Erase v))) (position_before (round_of batch_b round) before (operation_of line round lane (ops.Erase v))) v x.w y.w x.answer y.answer z t at h k text
  answer_settled before line round lane ops.List x y z t at h k text =
      list_settled (round_of batch_a round) (round_of batch_b round) (alike round) x.w y.w x.answer y.answer at h k

  -- replies to the same operations are settled by their lines, in their order
  replies_same : (before : List Answered) (operations : List Operation) (p q : List Reply)
      → answered batch_a ≡ before ++ each_answered operations p → answered batch_b ≡ before ++ each_answered operations q
      → lines_of p ≡ lines_asked operations → lines_of q ≡ lines_asked operations → replies_text p ≡ replies_text q → p ≡ q
  replies_same before [] [] [] is_a is_b lines_p lines_q text = refl
  replies_same before [] [] (y ∷ q) is_a is_b lines_p lines_q text = cc
  replies_same before [] (x ∷ p) q is_a is_b lines_p lines_q text = cc
  replies_same before (o ∷ operations) [] q is_a is_b lines_p lines_q text = cc
  replies_same before (o ∷ operations) (x ∷ p) [] is_a is_b lines_p lines_q text = cc
  replies_same before (o ∷ operations) (x ∷ p) (y ∷ q) is_a is_b lines_p lines_q text =
      let lines : x.line ≡ y.line = first_line x.line o.line (lines_of p) (lines_asked operations) lines_p ∙ sym (first_line y.line o.line (lines_of q) (lines_asked operations) lines_q) in
      let nested : reply_line x ++ replies_text p ≡ reply_line y ++ replies_text q = sym (append_assoc (reply_line x) (flat_map reply_line p) (codes "end\n")) ∙ text ∙ append_assoc (reply_line y) (flat_map reply_line q) (codes "end\n") in
      let low_x = position_low script sources slots a run_a before (each_answered operations p) (both o x) is_a in
      let low_y = position_low script sources slots b run_b before (each_answered operations q) (both o y) is_b in
      let cut = position_cut x y (replies_text p) (replies_text q) lines (omega (arith, low_x)) (omega (arith, low_y)) nested in
      let answer = answer_settled before o.line o.round o.lane o.op x y (10 ∷ replies_text p) (10 ∷ replies_text q) cut.0 (run_a.replies.right before (each_answered operations p) (both o x) is_a) (run_b.replies.right before (each_answered operations q) (both o y) is_b) cut.1 in
      let same : x ≡ y = reply_same x y lines cut.0 answer in
      let behind = append_cancel_left (reply_line x) (replies_text p) (replies_text q) (nested ∙ ap (λ (it : Reply). reply_line it ++ replies_text q) (sym same)) in
      let next_a : answered batch_a ≡ before ++ both o x ∷ [] ++ each_answered operations p = is_a ∙ sym (append_assoc before (both o x ∷ []) (each_answered operations p)) in
      let next_b : answered batch_b ≡ before ++ both o x ∷ [] ++ each_answered operations q = is_b ∙ ap (λ (it : Reply). before ++ both o it ∷ each_answered operations q) (sym same) ∙ sym (append_assoc before (both o x ∷ []) (each_answered operations q)) in
      longer x y p q same (replies_same (before ++ both o x ∷ []) operations p q next_a next_b (later_lines x.line o.line (lines_of p) (lines_asked operations) lines_p) (later_lines y.line o.line (lines_of q) (lines_asked operations) lines_q) behind)

outcome_of : List Write → List Reply → Outcome
outcome_of journal replies = record { journal = journal; replies = replies }

outcome_same : (a b : Outcome) → a.journal ≡ b.journal → a.replies ≡ b.replies → a ≡ b
unfolding outcome_of
outcome_same a b one two = ap (λ journal. outcome_of journal a.replies) one ∙ ap (λ replies. outcome_of b.journal replies) two

-- what a run prints before its replies fits
fits_front : (script : Script) (sources : Sources) (slots : ℕ) (outcome : Outcome) → KeepsSources (length sources.texts) script.operations
    → IsRun script sources slots outcome → FitsFront outcome
fits_front script sources slots outcome there run = record {
  few_writes = omega (arith, journal_few script sources slots outcome run);
  few_replies = omega (arith, replies_few script sources slots outcome run);
  writes = writes_fit script sources slots outcome run there;
}

-- two runs of a script that have the same text are the same
pub outcome_settled : (script : Script) (sources : Sources) (slots : ℕ) (a b : Outcome) → KeepsSources (length sources.texts) script.operations
    → IsRun script sources slots a → IsRun script sources slots b → outcome_text a ≡ outcome_text b → a ≡ b
outcome_settled script sources slots a b there run_a run_b e =
    let parts = parts_settled a b (fits_front script sources slots a there run_a) (fits_front script sources slots b there run_b) e in
    outcome_same a b parts.0 (replies_same script sources slots a b parts.0 run_a run_b [] script.operations a.replies b.replies refl refl run_a.replies.one_each run_b.replies.one_each parts.2)
