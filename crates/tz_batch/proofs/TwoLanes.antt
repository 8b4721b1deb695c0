-- A reload in one lane beside two looks in another.
use Rattle.std.proofs.Common.{◌≡◌, ℕ, zero, suc, ◌+◌, ◌≤◌, ◌<◌, ◌==◌, true, List, [], ◌∷◌, Contains, refl, subst, inl, arith}
use Rattle.std.specs.Prelude.{Some, slice_get}
use Rattle.std.proofs.lemmas.Bool.{cond_both}
use Rattle.tz_script.specs.declared.operation.Op.{Op}
use Rattle.tz_script.specs.declared.operation.Op.TheVariants as ops
use Rattle.tz_script.specs.declared.operation.Operation.{Operation}
use Rattle.pin_book.specs.declared.write.Write.{Write}
use Rattle.pin_book.specs.Sequence.{AreCounted, counts_from}
use Rattle.tz_version.specs.declared.sources.Sources.{Sources}
use Rattle.tz_batch.specs.Answering.{IsAccepted, IsRightReply}
use Rattle.tz_batch.specs.Batch.{Batch, Answered, name_of_source}
use Rattle.tz_batch.specs.Laws.{one_push, push_told, first_told, second_told, looks_around, looks_turned}
use Rattle.tz_batch.specs.PassedOver.{IsPassedOver}
use Rattle.tz_batch.specs.Round.{Round, round_of, list_at, InTurn}
use Rattle.tz_batch.specs.Run.{InSlot, changes_told, changes_by, HasPosition, SlotsKeep, PassesOver, IsRunOf}
use Rattle.tz_batch.specs.declared.reply.Reply.{Reply}

-- a fact of three operations
in_turn : (fact : List Answered → Answered → Type 0) (a b c : Answered) → fact [] a → fact (a ∷ []) b → fact (a ∷ b ∷ []) c → InTurn (a ∷ b ∷ c ∷ []) fact
in_turn fact a b c one two three [] later here is = let same : a ≡ here = cc in subst (λ (it : Answered). fact [] it) same one
in_turn fact a b c one two three (x ∷ []) later here is =
    let first : a ≡ x = cc in
    let same : b ≡ here = cc in
    subst (λ (it : Answered). fact (x ∷ []) it) same (subst (λ (it : Answered). fact (it ∷ []) b) first two)
in_turn fact a b c one two three (x ∷ y ∷ []) later here is =
    let first : a ≡ x = cc in
    let second : b ≡ y = cc in
    let same : c ≡ here = cc in
    subst (λ (it : Answered). fact (x ∷ y ∷ []) it) same (subst (λ (it : Answered). fact (x ∷ it ∷ []) c) second (subst (λ (it : Answered). fact (it ∷ b ∷ []) c) first three))
in_turn fact a b c one two three (x ∷ y ∷ z ∷ []) later here is = cc
in_turn fact a b c one two three (x ∷ y ∷ z ∷ w ∷ before) later here is = cc

-- a fact of the one version that is told
of_version : (P : InSlot → Type 0) (x : InSlot) → P x → (told : InSlot) → Contains (x ∷ []) told → P told
of_version P x fact told (zero, low, at) = subst P at fact
of_version P x fact told (suc k, low, at) = absurd (omega (arith, low))

counted : AreCounted one_push
counted number =
    cond_both (0 == number) one_push [] (λ (writes : List Write). counts_from 0 writes ≡ true) (λ own. refl) (λ other. refl)

module _ (sources : Sources) where
  abbrev batch : Batch
  batch = looks_around sources 2 2

  abbrev first : Round
  first = round_of batch 1

  -- a fact of an operation in its round
  abbrev of_round : (Round → List Answered → Answered → Type 0) → List Answered → Answered → Type 0
  of_round fact before here = fact (round_of batch here.operation.round) before here

  same : (number : ℕ) → number < 2 → changes_told batch (number + 1) ≡ changes_by number 1 one_push
  same zero low = refl
  same (suc zero) low = refl
  same (suc (suc number)) low = absurd (omega (arith, low))

  lower : (is_held : ℕ → Type 0) (slot : ℕ) → slot < 1 → IsPassedOver first is_held 0 slot
  lower is_held zero low = inl refl
  lower is_held (suc slot) low = absurd (omega (arith, low))

  -- the slot of a version that is told keeps its number
  abbrev KeepsIt : ℕ → InSlot → Type 0
  KeepsIt w told = slice_get (list_at first w).kept told.slot ≡ Some told.n

  -- two lanes may do so
  pub two_lanes_run : IsAccepted sources 1 → ¬ (name_of_source sources 0 ≡ name_of_source sources 1) → IsRunOf (looks_around sources 2 2)
  two_lanes_run accepted other = record {
    replay = refl;
    writes = record { same = same; counted = counted; no_others = refl };
    replies = record {
      one_each = refl;
      right = in_turn (of_round IsRightReply) _ _ _ (accepted, other, refl) (refl, refl) (refl, refl);
    };
    positions = in_turn (of_round HasPosition) _ _ _
        (record { low = omega arith; high = omega arith })
        (record { low = omega arith; high = omega arith })
        (record { low = omega arith; high = omega arith });
    slots = in_turn (of_round SlotsKeep) _ _ _
        (of_version (KeepsIt 1) (record { n = 2; slot = 1 }) refl)
        (of_version (KeepsIt 0) (record { n = 1; slot = 0 }) refl)
        (of_version (KeepsIt 1) (record { n = 2; slot = 1 }) refl);
    pushes = in_turn (of_round PassesOver) _ _ _
        (record { lower = lower _; exact = λ one. cc })
        tt
        tt;
  }

  abbrev told : ℕ → Op → ℕ → ℕ → Reply → Answered
  told line op lane round reply = record { operation = record { line = line; round = round; lane = lane; op = op }; reply = reply }

  -- one lane can't, since it would look back
  pub one_lane_does_not : IsRunOf (looks_around sources 1 1) → ⊥
  one_lane_does_not run =
      let low : 1 ≤ 0 = (run.positions (told 3 (ops.Reload 1) 1 1 push_told ∷ []) (told 5 ops.Look 1 1 (second_told 5) ∷ []) (told 4 ops.Look 1 1 (first_told 4)) refl).low in
      omega (arith, low)

  -- nor can a lane of two look back
  pub no_lane_looks_back : IsRunOf (looks_turned sources 2 2) → ⊥
  no_lane_looks_back run =
      let low : 1 ≤ 0 = (run.positions (told 3 (ops.Reload 1) 1 1 push_told ∷ told 4 ops.Look 2 1 (second_told 4) ∷ []) [] (told 5 ops.Look 2 1 (first_told 5)) refl).low in
      omega (arith, low)
