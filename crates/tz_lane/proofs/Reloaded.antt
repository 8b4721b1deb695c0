-- What the list answers to a reload, as what its lane is told.
use Rattle.std.proofs.Common.{◌≡◌, ◌≢◌, ℕ, suc, ◌+◌, ◌-◌, ◌<◌, inl, inr, true, None, List, [], ◌∷◌, ◌++◌, length, take, option_map, Contains, Ok, Err, refl, sym, ap, ap₂, ◌∙◌, subst, arith, length-append}
use Rattle.std.specs.Prelude.{slice_get}
use Rattle.std.proofs.lemmas.List.{take_all}
use Rattle.tz_types.specs.declared.fault.Fault.{Fault}
use Rattle.tz_specs.proofs.LeapTextLemmas.{read_leaps_are_not_refused}
use Rattle.tz_version.specs.declared.sources.Sources.{Sources}
use Rattle.tz_version.specs.Release.{Release, IsVersionOf, version_name}
use Rattle.pin_book.specs.declared.write.Change.TheVariants.{Push}
use Rattle.pin_book.specs.declared.write.Write.{Write}
use Rattle.pin_book.specs.Replay.{Edition, front_of, state_after, replays, allowed, front_number}
use Rattle.pin_book.proofs.Journals as journals
use Rattle.pin_book.proofs.LawLemmas.{some_listed}
use Rattle.pin_book.proofs.SourceLemmas.{listed_source}
use Rattle.pin_core.specs.declared.view.View.{View}
use Rattle.pin_core.specs.Core.{held_at}
use Rattle.pin_core.specs.Step.{got_turn, gave_turn}
use Rattle.pin_table.specs.declared.answers.Pushed.{Pushed}
use Rattle.pin_table.specs.declared.answers.PushWhy.TheVariants as push
use Rattle.pin_table.specs.declared.sitting.Plan.{Plan}
use Rattle.pin_table.specs.Sources.{source_of}
use Rattle.pin_table.specs.Turns.{FindsJournal, WaitsForTurn, PushesSame, PushesIntoFull, PushesVersion, unlisted_below}
use Rattle.pin_table.proofs.PushLemmas.{push_allowed}
use Rattle.tz_batch.specs.Batch.{name_of_source}
use Rattle.tz_batch.specs.Answering.{IsAccepted, IsRefusedWith, HasNameOf}
use Rattle.tz_batch.specs.Run.{TakesFirstSlot}
use Rattle.tz_batch.specs.declared.answer.Answer.TheVariants as answers
use Rattle.tz_list.specs.Reload.{release_home, release_source, PushesSource}
use Rattle.tz_list.proofs.Errors.{not_both}
use Rattle.tz_lane.specs.Changing.{HasHandleAt, ReloadsInLane}
use Rattle.tz_lane.specs.Meeting.{lane_round, Meets}
use Rattle.tz_lane.proofs.Kept.{KeepsIn, keeps_here, one_told}
use Rattle.tz_lane.proofs.Passed.{passed_over, not_passed}
use Rattle.tz_lane.proofs.Turned.{found_from, HadTurn, turned_idle, turned_write, found_before, met_idle, met_write, write_there, counted}

-- a version is made only of what is accepted
accepted : (sources : Sources) (src : ℕ) (version : Release) → IsVersionOf sources src version → IsAccepted sources src
accepted sources src version is = λ fault refused. by_refusal fault refused
  where
    by_refusal : (fault : Fault) → IsRefusedWith sources src fault → ⊥
    by_refusal fault (inl leaps) =
        read_leaps_are_not_refused sources.leaps version.leaps (record { line = fault.line; cause = fault.cause }) is.leaps leaps.1
    by_refusal fault (inr text) = not_both sources src version fault is text

-- ---- names ----

first_among : (listed : List Edition) → 0 < length listed → Contains listed (front_of listed)
first_among [] some = absurd (omega arith)
first_among (edition ∷ older) some = (0, omega arith, refl)

-- the front bears the name of the source that the journal gives to its number
front_named : (home : Sources) (slots : ℕ) (journal : List Write) → 0 < slots → replays slots journal ≡ true
    → name_of_source home (front_of (state_after slots journal).listed).src ≡ version_name home (source_of journal (front_number slots journal))
unfolding front_number
front_named home slots journal some replay =
    let listed : List Edition = (state_after slots journal).listed in
    ap (version_name home) (listed_source slots journal (front_of listed) some replay (first_among listed (some_listed slots journal some replay)))

-- what a version of a source is called
named : (sources : Sources) (src : ℕ) (version : Release) → IsVersionOf sources src version → version_name version.sources version.src ≡ name_of_source sources src
named sources src version is = ap₂ version_name is.home is.place

-- ---- slots ----

-- the slot of a push keeps its number
push_kept : (slots n src slot : ℕ) (journal : List Write) (write : Write) → 0 < slots → replays slots journal ≡ true → replays slots (journal ++ write ∷ []) ≡ true → allowed (state_after slots journal) write.change ≡ true → write.change ≡ Push n src slot
    → KeepsIn (state_after slots (journal ++ write ∷ [])) slot n
push_kept slots n src slot journal write some replay again allows change =
    let left = journals.pushed slots journal write n src slot some replay allows change in
    keeps_here slots (journal ++ write ∷ []) n slot some again left.inside left.kept

module _ (plan : Plan Release) (sources : Sources) (src number : ℕ) (version : Release) (v w v' : View) (journal : List Write) (some : 0 < plan.slots) (home : plan.first.sources ≡ sources) (is : IsVersionOf sources src version) (waits : WaitsForTurn v w) (found : FindsJournal plan.slots v journal) where
  -- the name at the front that the turn found
  front_name_is : take (length journal) v'.seen ≡ journal → name_of_source sources (front_of (state_after plan.slots (take (length journal) v'.seen)).listed).src ≡ version_name plan.first.sources (source_of journal (front_number plan.slots journal))
  front_name_is before =
      ap (λ (l : List Write). name_of_source sources (front_of (state_after plan.slots l).listed).src) before
      ∙ (front_named sources plan.slots journal some found.replay
      ∙ ap (λ (s : Sources). version_name s (source_of journal (front_number plan.slots journal))) (sym home))

  lacks_name : (begun : ℕ) → take (length journal) v'.seen ≡ journal → version_name version.sources version.src ≢ version_name plan.first.sources (source_of journal (front_number plan.slots journal))
      → ¬ (HasNameOf (lane_round plan sources begun v') (length journal) src)
  lacks_name begun before other has = other (named sources src version is ∙ (sym has ∙ front_name_is before))

  entries_are : w.entries ≡ v.entries
  entries_are = ap (λ (x : View). x.entries) waits.view

  held_is : (slot : ℕ) → held_at slot w ≡ held_at slot v
  held_is slot = ap (λ (x : View). held_at slot x) waits.view

  -- the front has the version's name
  pub reloads_same : (p n : ℕ) (after : View) → PushesSame release_home release_source version_name plan (got_turn journal w) after version p n → v' ≡ gave_turn after
      → ReloadsInLane plan sources number v src (record { w = p; answer = answers.Same n }) v'
  unfolding front_number
  reloads_same p n after answer view =
      let turn : HadTurn v v' journal [] = turned_idle v w v' journal [] waits (view ∙ ap gave_turn answer.view) in
      let before = found_before v v' journal [] turn in
      subst (λ (at : ℕ). ReloadsInLane plan sources number v src (record { w = at; answer = answers.Same n }) v') (sym answer.is_w)
      (record {
        meets = met_idle plan.slots v v' journal found turn;
        answer = λ begun. (
          accepted sources src version is,
          front_name_is before ∙ (sym answer.same ∙ named sources src version is),
          ap (λ (l : List Write). (front_of (state_after plan.slots l).listed).n) before ∙ sym answer.is_n,
        );
        kept = λ begun told has. absurd (let none = has.1 in omega arith);
        passes = λ begun. tt;
        counts = counted v v' journal [] turn;
      })

  -- no slot was free
  pub reloads_full : (p : ℕ) (after : View) → PushesIntoFull release_home release_source version_name plan (got_turn journal w) after version p → v' ≡ gave_turn after
      → ReloadsInLane plan sources number v src (record { w = p; answer = answers.Full }) v'
  reloads_full p after answer view =
      let turn : HadTurn v v' journal [] = turned_idle v w v' journal (unlisted_below plan.slots journal plan.slots) waits (view ∙ ap gave_turn answer.view) in
      let before = found_before v v' journal [] turn in
      subst (λ (at : ℕ). ReloadsInLane plan sources number v src (record { w = at; answer = answers.Full }) v') (sym answer.is_w)
      (record {
        meets = met_idle plan.slots v v' journal found turn;
        answer = λ begun. (accepted sources src version is, lacks_name begun before answer.other);
        kept = λ begun told has. absurd (let none = has.1 in omega arith);
        passes = λ begun slot low. passed_over plan sources begun v v' w journal plan.slots slot entries_are (ap (λ (x : View). x.floor) waits.view ∙ sym turn.keeps.floor) before answer.pinned low;
        counts = counted v v' journal [] turn;
      })

  -- the version was pushed
  pub reloads_pushed : (pushed : Pushed) (after : View) → 0 < v.allowance → PushesVersion release_home release_source version_name plan number (got_turn journal w) after version pushed → v' ≡ gave_turn after
      → ReloadsInLane plan sources number v src (record { w = pushed.w; answer = answers.Pushed pushed.n pushed.slot }) v'
  reloads_pushed pushed after may answer view =
      let write : Write = record { by = number; seq = length v.own + 1; change = Push pushed.n src pushed.slot } in
      let made : Write = record { by = number; seq = length w.own + 1; change = Push pushed.n version.src pushed.slot } in
      let same : made ≡ write = ap₂ (λ (own : List Write) (s : ℕ). record { by = number; seq = length own + 1; change = Push pushed.n s pushed.slot }) (ap (λ (x : View). x.own) waits.view) is.place in
      let below = unlisted_below plan.slots journal pushed.slot in
      let turn : HadTurn v v' journal (write ∷ []) = subst (λ (it : Write). HadTurn v v' journal (it ∷ [])) same (turned_write v w v' journal made below None waits may (view ∙ ap gave_turn answer.view)) in
      let before = found_before v v' journal (write ∷ []) turn in
      let allows = push_allowed plan.slots pushed.n src pushed.slot journal some found.replay answer.is_n answer.inside answer.unlisted in
      let met = met_write plan.slots v v' journal write found allows turn in
      let next : pushed.w ≡ suc (length journal) = (let at = answer.is_w in omega arith) in
      let whole : take (suc (length journal)) v'.seen ≡ journal ++ write ∷ [] =
      (let long = ap (λ (l : List Write). length l) turn.seen ∙ length-append journal (write ∷ []) in take_all (suc (length journal)) v'.seen (omega arith)) ∙ turn.seen in
      let met_at : suc (length journal) - 1 ≡ length journal = omega arith in
      subst (λ (at : ℕ). ReloadsInLane plan sources number v src (record { w = at; answer = answers.Pushed pushed.n pushed.slot }) v') (sym next)
      (record {
        meets = subst (λ (at : ℕ). Meets plan.slots v (write ∷ []) v' at) (sym answer.is_w ∙ next) met;
        answer = λ begun. (
          accepted sources src version is,
          lacks_name begun before answer.other,
          ap (option_map (λ (it : Write). it.change)) (write_there v v' journal write turn),
        );
        kept = λ begun. one_told (state_after plan.slots (take (suc (length journal)) v'.seen)) pushed.n pushed.slot
            (ap (λ (l : List Write). slice_get (state_after plan.slots l).kept pushed.slot) whole
            ∙ push_kept plan.slots pushed.n src pushed.slot journal write some found.replay (ap (replays plan.slots) (sym turn.seen) ∙ met.replay) allows refl);
        passes = λ begun. subst (λ (met : ℕ). TakesFirstSlot (lane_round plan sources begun v') (HasHandleAt v) met pushed.slot) (sym met_at) (record {
          lower = λ other low. passed_over plan sources begun v v' w journal pushed.slot other entries_are (ap (λ (x : View). x.floor) waits.view ∙ sym turn.keeps.floor) before answer.pinned low;
          exact = λ one full. not_passed plan sources begun v v' w journal pushed.slot one before answer.unlisted (sym (held_is pushed.slot) ∙ answer.free) (full pushed.slot answer.inside);
        });
        counts = counted v v' journal (write ∷ []) turn;
      })

-- ---- as the list answers ----

module _ (plan list_plan : Plan Release) (sources : Sources) (src number : ℕ) (v v' : View) (alike : plan ≡ list_plan) (some : 0 < list_plan.slots) (home : list_plan.first.sources ≡ sources) where
  pub told_same : (w n : ℕ) → PushesSource list_plan sources src number v v' (Err (push.Same w n)) → ReloadsInLane plan sources number v src (record { w = w; answer = answers.Same n }) v'
  told_same w n h =
      let turn = h.pushes.2 in
      subst (λ (p : Plan Release). ReloadsInLane p sources number v src (record { w = w; answer = answers.Same n }) v') (sym alike)
      (reloads_same list_plan sources src number h.version v h.pushes.0 v' turn.journal some home h.is h.pushes.1 (found_from list_plan.slots v h.pushes.0 turn.journal h.pushes.1 turn.found) w n turn.after turn.is turn.view)

  pub told_full : (w : ℕ) → PushesSource list_plan sources src number v v' (Err (push.Full w)) → ReloadsInLane plan sources number v src (record { w = w; answer = answers.Full }) v'
  told_full w h =
      let turn = h.pushes.2 in
      subst (λ (p : Plan Release). ReloadsInLane p sources number v src (record { w = w; answer = answers.Full }) v') (sym alike)
      (reloads_full list_plan sources src number h.version v h.pushes.0 v' turn.journal some home h.is h.pushes.1 (found_from list_plan.slots v h.pushes.0 turn.journal h.pushes.1 turn.found) w turn.after turn.is turn.view)

  pub told_pushed : (pushed : Pushed) → 0 < v.allowance → PushesSource list_plan sources src number v v' (Ok pushed) → ReloadsInLane plan sources number v src (record { w = pushed.w; answer = answers.Pushed pushed.n pushed.slot }) v'
  told_pushed pushed may h =
      let turn = h.pushes.2 in
      subst (λ (p : Plan Release). ReloadsInLane p sources number v src (record { w = pushed.w; answer = answers.Pushed pushed.n pushed.slot }) v') (sym alike)
      (reloads_pushed list_plan sources src number h.version v h.pushes.0 v' turn.journal some home h.is h.pushes.1 (found_from list_plan.slots v h.pushes.0 turn.journal h.pushes.1 turn.found) pushed turn.after may turn.is turn.view)
