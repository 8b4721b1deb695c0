-- The run of a script with one look.
use Rattle.std.proofs.Common.{◌≡◌, ℕ, zero, suc, ◌+◌, ◌<◌, ◌==◌, Bool, true, false, List, [], ◌∷◌, ◌++◌, map, refl, sym, ap, subst, ◌∙◌, arith}
use Rattle.std.specs.Prelude.{Option, Some, None, Contains, slice_get, slice_set, replicate, filter_map, count_by, if◌then◌else◌}
use Rattle.std.specs.List.{cons_option}
use Rattle.tz_script.specs.declared.operation.Operation.{Operation}
use Rattle.tz_script.specs.declared.script.Script.{Script}
use Rattle.tz_version.specs.declared.sources.Sources.{Sources}
use Rattle.tz_batch.specs.Batch.{Batch, Answered, each_answered, answered, start_of, is_write_before}
use Rattle.tz_batch.specs.Round.{Round, round_of}
use Rattle.tz_batch.specs.Answering.{IsRightReply}
use Rattle.tz_batch.specs.Run.{EachInTurn, InSlot, PlacedChange, change_told_in, changes_told, HasPosition, SlotsKeep, PassesOver, IsRun}
use Rattle.tz_batch.specs.FirstLook.{lone_look, first_front, first_outcome}

abbrev batch_of : Script → Sources → ℕ → ℕ → Batch
batch_of script sources slots line =
    record {
      lanes = script.lanes;
      operations = script.operations;
      sources = sources;
      slots = slots;
      outcome = first_outcome line;
    }

abbrev looked : ℕ → Answered
looked line = record { operation = lone_look line; reply = first_front line }

-- one element stands behind no other
alone : (x here : Answered) (before later : List Answered) → x ∷ [] ≡ before ++ here ∷ later → (before ≡ []) × (here ≡ x)
alone x here [] later e = (refl, cc)
alone x here (other ∷ []) later e = cc
alone x here (other ∷ next ∷ before) later e = cc

only_one : (x here : Answered) → Contains (x ∷ []) here → here ≡ x
only_one x here (zero, low, e) = sym e
only_one x here (suc k, low, e) = absurd (omega arith)

only_version : (x told : InSlot) → Contains (x ∷ []) told → told ≡ x
only_version x told (zero, low, e) = sym e
only_version x told (suc k, low, e) = absurd (omega arith)

no_change : Option PlacedChange
no_change = None

none_either : (b : Bool) → (if b then no_change else no_change) ≡ no_change
none_either true = refl
none_either false = refl

none_told : (line lane : ℕ) → change_told_in lane (looked line) ≡ None
unfolding no_change
none_told line lane = none_either (1 == lane)

kept_first : (slots : ℕ) → 0 < slots → slice_get {X = ℕ} (slice_set (replicate slots 0) 0 1) 0 ≡ Some 1
kept_first zero h = absurd (omega arith)
kept_first (suc slots) h = refl

module _ (script : Script) (sources : Sources) (slots line : ℕ) (asks : script.operations ≡ lone_look line ∷ []) (some : 0 < slots) where
  answered_is : answered (batch_of script sources slots line) ≡ looked line ∷ []
  answered_is = ap (λ operations. each_answered operations (first_outcome line).replies) asks

  in_turn : (fact : Round → List Answered → Answered → Type 0) → fact (round_of (batch_of script sources slots line) 1) [] (looked line) → EachInTurn (batch_of script sources slots line) fact
  in_turn fact h before later here e =
      let only = alone (looked line) here before later (sym answered_is ∙ e) in
      let P : Answered → Type 0 = λ it. fact (round_of (batch_of script sources slots line) it.operation.round) before it in
      let Q : List Answered → Type 0 = λ those. fact (round_of (batch_of script sources slots line) 1) those (looked line) in
      subst P (sym only.1) (subst Q (sym only.0) h)

  nothing_told : (lane : ℕ) → changes_told (batch_of script sources slots line) lane ≡ []
  nothing_told lane =
      ap (filter_map (change_told_in lane)) answered_is ∙ ap (λ told. cons_option told []) (none_told line lane)

  starts : (round : ℕ) → start_of (batch_of script sources slots line) round ≡ count_by (is_write_before round) (looked line ∷ [])
  starts round = ap (count_by (is_write_before round)) answered_is

  kept : SlotsKeep (round_of (batch_of script sources slots line) 1) [] (looked line)
  kept told is_told = rw (only_version (record { n = 1; slot = 0 }) told is_told) (kept_first slots some)

  pub first_run : IsRun script sources slots (first_outcome line)
  first_run = record {
    replay = refl;
    writes = record {
      same = λ number low. nothing_told (number + 1);
      counted = λ number. refl;
      no_others = refl;
    };
    replies = record {
      one_each = sym (ap (map (λ (operation : Operation). operation.line)) asks);
      right = in_turn IsRightReply (refl, refl);
    };
    positions = in_turn HasPosition (record {
      low = omega (arith, starts 1);
      high = omega arith;
    });
    slots = in_turn SlotsKeep kept;
    pushes = in_turn PassesOver tt;
  }
