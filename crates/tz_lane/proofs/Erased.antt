-- What the list answers to an erasure, as what its lane is told.
use Rattle.std.proofs.Common.{◌≡◌, ℕ, suc, ◌+◌, ◌<◌, ◌≤◌, Bool, true, false, not, ◌==◌, if◌then◌else◌, List, [], ◌∷◌, length, take, option_map, Result, Ok, Err, refl, sym, ap, ◌∙◌, subst, arith, length-append}
use Rattle.std.specs.Prelude.{slice_get}
use Rattle.std.proofs.lemmas.Bool.{eqb-true, eqb-false}
use Rattle.std.proofs.lemmas.List.{take_all}
use Rattle.tz_version.specs.declared.sources.Sources.{Sources}
use Rattle.tz_version.specs.Release.{Release}
use Rattle.pin_book.specs.declared.write.Change.TheVariants.{Erase}
use Rattle.pin_book.specs.declared.write.Write.{Write}
use Rattle.pin_book.specs.Replay.{Edition, state_after, replays, allowed, is_listed, greatest_below}
use Rattle.pin_book.proofs.BookLemmas.{asked_erase}
use Rattle.pin_core.specs.declared.view.View.{View}
use Rattle.pin_core.specs.Step.{got_turn, gave_turn}
use Rattle.pin_table.specs.declared.answers.Erased.{Erased}
use Rattle.pin_table.specs.declared.answers.EraseWhy.{EraseWhy}
use Rattle.pin_table.specs.declared.answers.EraseWhy.TheVariants as erase
use Rattle.pin_table.specs.declared.sitting.Plan.{Plan}
use Rattle.pin_table.specs.Handles.{Handle, MadeBy}
use Rattle.pin_table.specs.Turns.{FindsJournal, WaitsForTurn, AfterWait, Erases, listed_after, erase_answer, view_after_erase}
use Rattle.tz_batch.specs.Round.{newest_at}
use Rattle.tz_batch.specs.declared.answer.Answer.TheVariants as answers
use Rattle.tz_list.specs.Reload.{release_home, release_source}
use Rattle.tz_lane.specs.Changing.{ErasesInLane, AnswersEraseOf}
use Rattle.tz_lane.specs.Meeting.{lane_round, Meets}
use Rattle.tz_lane.proofs.Fronts.{handle_told}
use Rattle.tz_lane.proofs.Kept.{KeepsIn, one_told, handle_keeps}
use Rattle.tz_lane.proofs.Turned.{HadTurn, found_from, turned_idle, turned_write, found_before, met_idle, met_write, write_there, counted}

-- ---- what the table answers ----

-- what holds where an erase behind a number is answered so, by this journal
abbrev pub EraseFacts : ℕ → List Write → ℕ → ℕ → Result Erased EraseWhy → Type 0
EraseFacts slots journal allowance number (Ok erased) =
    (erased.w ≡ length journal + 1) × (allowed (state_after slots journal) (Erase number erased.gone) ≡ true)
EraseFacts slots journal allowance number (Err (erase.NotListed w)) = (w ≡ length journal) × (is_listed number (listed_after slots journal) ≡ false)
EraseFacts slots journal allowance number (Err (erase.Nothing w)) =
    (w ≡ length journal) × (is_listed number (listed_after slots journal) ≡ true) × (greatest_below number (listed_after slots journal) ≡ 0)
EraseFacts slots journal allowance number (Err (erase.JournalFull w)) = allowance ≡ 0
EraseFacts slots journal allowance number (Err (erase.Busy holder)) = ⊥

module _ (slots allowance number : ℕ) (journal : List Write) where
  abbrev listed : List Edition
  listed = listed_after slots journal

  abbrev behind : ℕ
  behind = greatest_below number listed

  by_tests : (among none full : Bool) → is_listed number listed ≡ among → (behind == 0) ≡ none → (allowance == 0) ≡ full
      → EraseFacts slots journal allowance number (if not among then Err (erase.NotListed (length journal)) else (if none then Err (erase.Nothing (length journal)) else (if full then Err (erase.JournalFull (length journal)) else Ok record { w = length journal + 1; gone = behind })))
  by_tests false none full is least may = (refl, is)
  by_tests true true full is least may = (refl, is, eqb-true behind 0 least)
  by_tests true false true is least may = eqb-true allowance 0 may
  by_tests true false false is least may =
      (refl, asked_erase (state_after slots journal) number behind record { listed = is; some = (let other = eqb-false behind 0 least in omega arith); next = refl })

  facts_of : (answer : Result Erased EraseWhy) → answer ≡ erase_answer slots journal allowance number → EraseFacts slots journal allowance number answer
  facts_of answer is = subst (EraseFacts slots journal allowance number) (sym is) (by_tests (is_listed number listed) (behind == 0) (allowance == 0) refl refl refl)

-- ---- as the lane meets it ----

module _ (plan : Plan Release) (number : ℕ) (handle : Handle Release) (v w v' : View) (journal : List Write) (waits : WaitsForTurn v w) (found : FindsJournal plan.slots v journal) (made : MadeBy release_home release_source plan v' handle) where
  keeps_up_to : (at : ℕ) → length v'.seen ≤ at → replays plan.slots v'.seen ≡ true → KeepsIn (state_after plan.slots (take at v'.seen)) handle.slot handle.number
  keeps_up_to at all replay = ap (λ (l : List Write). slice_get (state_after plan.slots l).kept handle.slot) (take_all at v'.seen all) ∙ handle_keeps plan v' handle made replay

  -- nothing was erased
  module _ (view : v' ≡ gave_turn (got_turn journal w)) where
    turn : HadTurn v v' journal []
    turn = turned_idle v w v' journal [] waits view

    met : Meets plan.slots v [] v' (length journal)
    met = met_idle plan.slots v v' journal found turn

    before : take (length journal) v'.seen ≡ journal
    before = found_before v v' journal [] turn

    same_long : length v'.seen ≤ length journal
    same_long = let long = ap (λ (x : View). length x.seen) view in omega arith

    pub erases_nothing : (p : ℕ) → p ≡ length journal → ErasesInLane plan number v (record { w = p; answer = answers.Nothing handle.number handle.slot }) v'
    erases_nothing p at = subst (λ (q : ℕ). ErasesInLane plan number v (record { w = q; answer = answers.Nothing handle.number handle.slot }) v') (sym at)
        (record {
          meets = λ pick. met;
          kept = λ sources begun. one_told (state_after plan.slots (take (length journal) v'.seen)) handle.number handle.slot (keeps_up_to (length journal) same_long met.replay);
          counts = λ pick. counted v v' journal [] turn;
        })

    pub erases_unlisted : (p : ℕ) → p ≡ length journal → ErasesInLane plan number v (record { w = p; answer = answers.NotListed handle.number handle.slot }) v'
    erases_unlisted p at = subst (λ (q : ℕ). ErasesInLane plan number v (record { w = q; answer = answers.NotListed handle.number handle.slot }) v') (sym at)
        (record {
          meets = λ pick. met;
          kept = λ sources begun. one_told (state_after plan.slots (take (length journal) v'.seen)) handle.number handle.slot (keeps_up_to (length journal) same_long met.replay);
          counts = λ pick. counted v v' journal [] turn;
        })

    pub answers_nothing : (sources : Sources) (begun p : ℕ) → p ≡ length journal → is_listed handle.number (listed_after plan.slots journal) ≡ true → greatest_below handle.number (listed_after plan.slots journal) ≡ 0
        → AnswersEraseOf (lane_round plan sources begun v') handle.position p (answers.Nothing handle.number handle.slot)
    answers_nothing sources begun p at among least = subst (λ (q : ℕ). AnswersEraseOf (lane_round plan sources begun v') handle.position q (answers.Nothing handle.number handle.slot)) (sym at) (
      (newest_at (lane_round plan sources begun v') handle.position, refl, handle_told plan v' handle made),
      ap (λ (l : List Write). is_listed handle.number (state_after plan.slots l).listed) before ∙ among,
      ap (λ (l : List Write). greatest_below handle.number (state_after plan.slots l).listed) before ∙ least,
    )

    pub answers_unlisted : (sources : Sources) (begun p : ℕ) → p ≡ length journal → is_listed handle.number (listed_after plan.slots journal) ≡ false
        → AnswersEraseOf (lane_round plan sources begun v') handle.position p (answers.NotListed handle.number handle.slot)
    answers_unlisted sources begun p at gone = subst (λ (q : ℕ). AnswersEraseOf (lane_round plan sources begun v') handle.position q (answers.NotListed handle.number handle.slot)) (sym at) (
      (newest_at (lane_round plan sources begun v') handle.position, refl, handle_told plan v' handle made),
      ap (λ (l : List Write). is_listed handle.number (state_after plan.slots l).listed) before ∙ gone,
    )

  -- one version was
  module _ (erased : Erased) (may : 0 < v.allowance) (allows : allowed (state_after plan.slots journal) (Erase handle.number erased.gone) ≡ true) (view : v' ≡ gave_turn (view_after_erase number handle.number (got_turn journal w) (Ok erased))) (at : erased.w ≡ length journal + 1) where
    abbrev write : Write
    write = record { by = number; seq = length v.own + 1; change = Erase handle.number erased.gone }

    wrote : HadTurn v v' journal (write ∷ [])
    wrote =
        let own : Write = record { by = number; seq = length w.own + 1; change = Erase handle.number erased.gone } in
        subst (λ (it : Write). HadTurn v v' journal (it ∷ [])) (ap (λ (x : View). record { by = number; seq = length x.own + 1; change = Erase handle.number erased.gone }) waits.view)
        (turned_write v w v' journal own [] w.claimed waits may view)

    met_behind : Meets plan.slots v (write ∷ []) v' (length journal + 1)
    met_behind = met_write plan.slots v v' journal write found allows wrote

    whole_long : length v'.seen ≤ length journal + 1
    whole_long = let long = ap (λ (l : List Write). length l) wrote.seen ∙ length-append journal (write ∷ []) in omega arith

    pub erases_one : ErasesInLane plan number v (record { w = erased.w; answer = answers.Erased handle.number handle.slot erased.gone }) v'
    erases_one = subst (λ (q : ℕ). ErasesInLane plan number v (record { w = q; answer = answers.Erased handle.number handle.slot erased.gone }) v') (sym at)
        (record {
          meets = λ pick. met_behind;
          kept = λ sources begun. one_told (state_after plan.slots (take (length journal + 1) v'.seen)) handle.number handle.slot (keeps_up_to (length journal + 1) whole_long met_behind.replay);
          counts = λ pick. counted v v' journal (write ∷ []) wrote;
        })

    pub answers_one : (sources : Sources) (begun : ℕ) → AnswersEraseOf (lane_round plan sources begun v') handle.position erased.w (answers.Erased handle.number handle.slot erased.gone)
    answers_one sources begun =
        let before = found_before v v' journal (write ∷ []) wrote in
        let next : erased.w ≡ suc (length journal) = omega (arith, at) in
        subst (λ (q : ℕ). AnswersEraseOf (lane_round plan sources begun v') handle.position q (answers.Erased handle.number handle.slot erased.gone)) (sym next) (
          (newest_at (lane_round plan sources begun v') handle.position, refl, handle_told plan v' handle made),
          ap (λ (l : List Write). allowed (state_after plan.slots l) (Erase handle.number erased.gone)) before ∙ allows,
          ap (option_map (λ (it : Write). it.change)) (write_there v v' journal write wrote),
        )

-- ---- as the table answers ----

module _ (plan table_plan : Plan Release) (number : ℕ) (handle : Handle Release) (v v' : View) (alike : table_plan ≡ plan) (made_there : MadeBy release_home release_source table_plan v' handle) where
  made_here : MadeBy release_home release_source plan v' handle
  made_here = subst (λ (p : Plan Release). MadeBy release_home release_source p v' handle) alike made_there

  pub told_nothing : (p : ℕ) → AfterWait v (λ w. Erases plan.slots number handle.number w v' (Err (erase.Nothing p)))
      → ErasesInLane plan number v (record { w = p; answer = answers.Nothing handle.number handle.slot }) v'
      × ((sources : Sources) (begun : ℕ) → AnswersEraseOf (lane_round plan sources begun v') handle.position p (answers.Nothing handle.number handle.slot))
  told_nothing p (w, waits, h) =
      let found = found_from plan.slots v w h.journal waits h.found in
      let facts = facts_of plan.slots w.allowance handle.number h.journal (Err (erase.Nothing p)) h.is in (
        erases_nothing plan number handle v w v' h.journal waits found made_here h.view p facts.0,
        λ sources begun. answers_nothing plan number handle v w v' h.journal waits found made_here h.view sources begun p facts.0 facts.1 facts.2,
      )

  pub told_unlisted : (p : ℕ) → AfterWait v (λ w. Erases plan.slots number handle.number w v' (Err (erase.NotListed p)))
      → ErasesInLane plan number v (record { w = p; answer = answers.NotListed handle.number handle.slot }) v'
      × ((sources : Sources) (begun : ℕ) → AnswersEraseOf (lane_round plan sources begun v') handle.position p (answers.NotListed handle.number handle.slot))
  told_unlisted p (w, waits, h) =
      let found = found_from plan.slots v w h.journal waits h.found in
      let facts = facts_of plan.slots w.allowance handle.number h.journal (Err (erase.NotListed p)) h.is in (
        erases_unlisted plan number handle v w v' h.journal waits found made_here h.view p facts.0,
        λ sources begun. answers_unlisted plan number handle v w v' h.journal waits found made_here h.view sources begun p facts.0 facts.1,
      )

  pub told_erased : (erased : Erased) → 0 < v.allowance → AfterWait v (λ w. Erases plan.slots number handle.number w v' (Ok erased))
      → ErasesInLane plan number v (record { w = erased.w; answer = answers.Erased handle.number handle.slot erased.gone }) v'
      × ((sources : Sources) (begun : ℕ) → AnswersEraseOf (lane_round plan sources begun v') handle.position erased.w (answers.Erased handle.number handle.slot erased.gone))
  told_erased erased may (w, waits, h) =
      let found = found_from plan.slots v w h.journal waits h.found in
      let facts = facts_of plan.slots w.allowance handle.number h.journal (Ok erased) h.is in (
        erases_one plan number handle v w v' h.journal waits found made_here erased may facts.1 h.view facts.0,
        λ sources begun. answers_one plan number handle v w v' h.journal waits found made_here erased may facts.1 h.view facts.0 sources begun,
      )
