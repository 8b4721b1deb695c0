-- A whole run over a list.
use Rattle.std.proofs.Common.{◌≡◌, ℕ, refl, sym, ap, subst}
use Rattle.std.proofs.lemmas.Result.{IfOk-weaker}
use Rattle.std.specs.Prelude.{IsTrue}
use Rattle.pin_book.specs.Replay.{replays}
use Rattle.pin_book.specs.Book.{Chronicle}
use Rattle.pin_table.specs.Main.{main_view}
use Rattle.pin_table.specs.Table.{plan}
use Rattle.tz_batch.specs.Positions.{PositionsCountWrites}
use Rattle.tz_batch.specs.Run.{IsRun}
use Rattle.tz_batch.specs.declared.outcome.Outcome.{Outcome}
use Rattle.tz_rounds.specs.Sending.{HasNumbers}
use Rattle.tz_rounds.proofs.ScriptRun.{first_numbers, run_of_rounds, rounds_count}
use Rattle.tz_rounds.proofs.run.run_on.Goals as goal

pub run_rounds-requires-clause-numbers : goal.run_rounds-requires-clause-numbers
run_rounds-requires-clause-numbers g c κs within =
    subst (HasNumbers 0 c.args.script.now.lanes) (sym c.requires.knows) (first_numbers c.args.script.now.lanes (plan c.args.list.table).room)

pub returns-clause-run : goal.returns-clause-run
returns-clause-run g c =
    let script = c.args.script.now in let p = plan c.args.list.table in
    let main = main_view c.run_rounds.new.main in let journal = c.close-book.result.journal in
    let slots : c.close-book.result.slots ≡ p.slots = ap (λ (book : Chronicle). book.slots) c.close-book.ensures.book in
    let replay : IsTrue (replays p.slots journal) = subst (λ (n : ℕ). IsTrue (replays n journal)) slots c.outcome_of.ensures.book.replay in
    let made : Outcome = record { journal = journal; replies = c.in_ok-replies.replies.items } in
    let is : IsRun script c.args.list.sources p.slots made = run_of_rounds p c.args.list.sources script p.slots made main c.requires.lanes refl c.in_ok-replies.ensures.ran c.close-book.ensures.journal replay in
    IfOk-weaker c.outcome_of.result (λ (outcome : Outcome). outcome ≡ made) (IsRun script c.args.list.sources p.slots)
    (λ (outcome : Outcome) same. subst (IsRun script c.args.list.sources p.slots) (sym same) is) c.outcome_of.ensures.outcome

pub returns-clause-positions : goal.returns-clause-positions
returns-clause-positions g c =
    let script = c.args.script.now in let p = plan c.args.list.table in
    let main = main_view c.run_rounds.new.main in let journal = c.close-book.result.journal in
    let slots : c.close-book.result.slots ≡ p.slots = ap (λ (book : Chronicle). book.slots) c.close-book.ensures.book in
    let replay : IsTrue (replays p.slots journal) = subst (λ (n : ℕ). IsTrue (replays n journal)) slots c.outcome_of.ensures.book.replay in
    let made : Outcome = record { journal = journal; replies = c.in_ok-replies.replies.items } in
    let counts : PositionsCountWrites script.lanes made.replies = rounds_count p c.args.list.sources script p.slots made main c.requires.lanes refl c.in_ok-replies.ensures.ran c.close-book.ensures.journal replay in
    IfOk-weaker c.outcome_of.result (λ (outcome : Outcome). outcome ≡ made) (λ (outcome : Outcome). PositionsCountWrites script.lanes outcome.replies)
    (λ (outcome : Outcome) same. subst (λ (it : Outcome). PositionsCountWrites script.lanes it.replies) (sym same) counts) c.outcome_of.ensures.outcome
