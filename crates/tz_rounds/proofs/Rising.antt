-- Rising positions in a journal at which one number's writes stand: they are no more than that number's writes, and all of
-- these where they are as many.
use Rattle.std.proofs.Common.{◌≡◌, ℕ, zero, suc, ◌+◌, ◌-◌, ◌≤◌, ◌<◌, ◌==◌, ⊎_elim, true, false, List, [], ◌∷◌, ◌++◌, length, drop, Some, refl, sym, ap, subst, ◌∙◌, arith}
use Rattle.std.specs.Prelude.{slice_get, All}
use Rattle.std.proofs.lemmas.Bool.{cases_order, cases_Bool, cond-true, cond-false, eq-eqb}
use Rattle.std.proofs.lemmas.List.Elements.{All-head, All-tail}
use Rattle.std.proofs.lemmas.Option.{same_Some}
use Rattle.pin_book.specs.declared.write.Change.{Change}
use Rattle.pin_book.specs.declared.write.Write.{Write}
use Rattle.pin_book.specs.Sequence.{writes_by}
use Rattle.tz_batch.specs.Run.{PlacedChange, changes_by}
use Rattle.tz_lane.specs.Lane.{IsPlacedIn, RiseAbove}

-- ---- rising positions with a fact of each ----

-- each position is above the one before it, the first one above this, and this holds of each
abbrev pub Stand : (PlacedChange → Type 0) → ℕ → List PlacedChange → Type 0
Stand At w [] = Unit {0}
Stand At w (placed ∷ later) = (w < placed.w) × At placed × Stand At placed.w later

-- positions that rise, with what holds of all
pub stand : (At : PlacedChange → Type 0) (w : ℕ) (those : List PlacedChange) → RiseAbove w those → All At those → Stand At w those
stand At w [] rise all = tt
stand At w (placed ∷ later) rise all =
    (rise.0, All-head At placed later all, stand At placed.w later rise.1 (All-tail At placed later all))

-- what follows of each above a position
pub stand_mapped : (At At' : PlacedChange → Type 0) (w : ℕ) (those : List PlacedChange) → ((placed : PlacedChange) → w < placed.w → At placed → At' placed) → Stand At w those → Stand At' w those
stand_mapped At At' w [] change stands = tt
stand_mapped At At' w (placed ∷ later) change stands = (
  stands.0,
  change placed stands.0 stands.1,
  stand_mapped At At' placed.w later (λ next above at. change next (omega (arith, above, stands.0)) at) stands.2,
)

-- the first one above a lower position
stand_lower : (At : PlacedChange → Type 0) (v w : ℕ) (those : List PlacedChange) → v ≤ w → Stand At w those → Stand At v those
stand_lower At v w [] low stands = tt
stand_lower At v w (placed ∷ later) low stands = (omega (arith, low, stands.0), stands.1, stands.2)

-- Positions up to one, and then those above it.
pub stand_append : (At At' : PlacedChange → Type 0) (v w : ℕ) (those later : List PlacedChange) → v ≤ w → ((placed : PlacedChange) → At placed → placed.w ≤ w) → ((placed : PlacedChange) → At placed → At' placed) → Stand At v those → Stand At' w later → Stand At' v (those ++ later)
stand_append At At' v w [] later low within change stands then = stand_lower At' v w later low then
stand_append At At' v w (placed ∷ those) later low within change stands then =
    (stands.0, change placed stands.1, stand_append At At' placed.w w those later (within placed stands.1) within change stands.2 then)

-- ---- in a part of a journal ----

-- the change is a write of the number in what stands behind so many writes, at its position
record IsPlacedBehind (number skipped : ℕ) (journal : List Write) (placed : PlacedChange) : Type 0 where
  write : Write
  there : slice_get journal (placed.w - suc skipped) ≡ Some write
  by : write.by ≡ number
  change : write.change ≡ placed.change

-- one write less is left behind one more
next_behind : (number skipped : ℕ) (write : Write) (journal : List Write) (placed : PlacedChange) → suc skipped < placed.w → IsPlacedBehind number skipped (write ∷ journal) placed → IsPlacedBehind number (suc skipped) journal placed
next_behind number skipped write journal placed above at =
    let steps : placed.w - suc skipped ≡ suc (placed.w - suc (suc skipped)) = omega arith in
    record {
      write = at.write;
      there = subst (λ (k : ℕ). slice_get (write ∷ journal) k ≡ Some at.write) steps at.there;
      by = at.by;
      change = at.change;
    }

-- the first of them, where its position is the next one, is the first write
first_behind : (number skipped : ℕ) (write : Write) (journal : List Write) (placed : PlacedChange) → placed.w ≡ suc skipped → IsPlacedBehind number skipped (write ∷ journal) placed → (write.by ≡ number) × (write.change ≡ placed.change)
first_behind number skipped write journal placed is at =
    let none : placed.w - suc skipped ≡ 0 = omega arith in
    let same : write ≡ at.write = same_Some write at.write (subst (λ (k : ℕ). slice_get (write ∷ journal) k ≡ Some at.write) none at.there) in
    (ap (λ (it : Write). it.by) same ∙ at.by, ap (λ (it : Write). it.change) same ∙ at.change)

-- nothing stands in no journal
none_behind : (number skipped : ℕ) (placed : PlacedChange) → IsPlacedBehind number skipped [] placed → ⊥
none_behind number skipped placed at = let there = at.there in cc

-- all of them behind one more write, where the first one's position is above it
all_behind : (number skipped w : ℕ) (write : Write) (journal : List Write) (those : List PlacedChange) → skipped < w → Stand (IsPlacedBehind number skipped (write ∷ journal)) w those → Stand (IsPlacedBehind number (suc skipped) journal) w those
all_behind number skipped w write journal those low stands =
    stand_mapped (IsPlacedBehind number skipped (write ∷ journal)) (IsPlacedBehind number (suc skipped) journal) w those
    (λ placed above at. next_behind number skipped write journal placed (omega (arith, above, low)) at) stands

-- ---- how many they are ----

-- a journal's first write, where it is by the number, and where it isn't
one_more : (number : ℕ) (write : Write) (journal : List Write) → write.by ≡ number → writes_by number (write ∷ journal) ≡ write ∷ writes_by number journal
one_more number write journal by = cond-true (write.by == number) _ _ (eq-eqb write.by number by)

no_fewer : (number : ℕ) (write : Write) (journal : List Write) → length (writes_by number journal) ≤ length (writes_by number (write ∷ journal))
no_fewer number write journal =
    ⊎_elim
    (λ (pass : (write.by == number) ≡ true). omega (arith, ap length (cond-true (write.by == number) (write ∷ writes_by number journal) (writes_by number journal) pass)))
    (λ (fail : (write.by == number) ≡ false). omega (arith, ap length (cond-false (write.by == number) (write ∷ writes_by number journal) (writes_by number journal) fail)))
    (cases_Bool (write.by == number))

-- the positions are no more than the number's writes
few_behind : (number skipped : ℕ) (journal : List Write) (those : List PlacedChange) → Stand (IsPlacedBehind number skipped journal) skipped those → length those ≤ length (writes_by number journal)
few_behind number skipped journal [] stands = omega arith
few_behind number skipped [] (placed ∷ those) stands = absurd (none_behind number skipped placed stands.1)
few_behind number skipped (write ∷ journal) (placed ∷ those) stands =
    ⊎_elim
    (λ (next : placed.w ≡ suc skipped).
    let first = first_behind number skipped write journal placed next stands.1 in
    let rest = subst (λ (w : ℕ). Stand (IsPlacedBehind number (suc skipped) journal) w those) next (all_behind number skipped placed.w write journal those stands.0 stands.2) in
    omega (arith, few_behind number (suc skipped) journal those rest, ap length (one_more number write journal first.0)))
    (⊎_elim
    (λ (below : placed.w < suc skipped). absurd (omega (arith, below, stands.0)))
    (λ (above : suc skipped < placed.w).
    let all : Stand (IsPlacedBehind number (suc skipped) journal) (suc skipped) (placed ∷ those) =
    (above, next_behind number skipped write journal placed above stands.1, all_behind number skipped placed.w write journal those stands.0 stands.2) in
    omega (arith, few_behind number (suc skipped) journal (placed ∷ those) all, no_fewer number write journal)))
    (cases_order placed.w (suc skipped))

-- where they are as many, they are all of them
all_told_behind : (number skipped : ℕ) (journal : List Write) (those : List PlacedChange) → Stand (IsPlacedBehind number skipped journal) skipped those → length those ≡ length (writes_by number journal) → those ≡ changes_by number (suc skipped) journal
all_told_behind number skipped [] [] stands many = refl
all_told_behind number skipped [] (placed ∷ those) stands many = absurd (none_behind number skipped placed stands.1)
all_told_behind number skipped (write ∷ journal) [] stands many =
    ⊎_elim
    (λ (pass : (write.by == number) ≡ true). absurd (omega (arith, many, ap length (cond-true (write.by == number) (write ∷ writes_by number journal) (writes_by number journal) pass))))
    (λ (fail : (write.by == number) ≡ false).
    let fewer : 0 ≡ length (writes_by number journal) = many ∙ ap length (cond-false (write.by == number) (write ∷ writes_by number journal) (writes_by number journal) fail) in
    all_told_behind number (suc skipped) journal [] tt fewer
    ∙ sym (cond-false (write.by == number) (record { w = suc skipped; change = write.change } ∷ changes_by number (suc (suc skipped)) journal) (changes_by number (suc (suc skipped)) journal) fail))
    (cases_Bool (write.by == number))
all_told_behind number skipped (write ∷ journal) (placed ∷ those) stands many =
    ⊎_elim
    (λ (next : placed.w ≡ suc skipped).
    let first = first_behind number skipped write journal placed next stands.1 in
    let rest = subst (λ (w : ℕ). Stand (IsPlacedBehind number (suc skipped) journal) w those) next (all_behind number skipped placed.w write journal those stands.0 stands.2) in
    let fewer : length those ≡ length (writes_by number journal) = omega (arith, many, ap length (one_more number write journal first.0)) in
    let later : those ≡ changes_by number (suc (suc skipped)) journal = all_told_behind number (suc skipped) journal those rest fewer in
    let here : placed ≡ record { w = suc skipped; change = write.change } =
    ap (λ (w : ℕ). record { w = w; change = placed.change }) next ∙ ap (λ (change : Change). record { w = suc skipped; change = change }) (sym first.1) in
    ap (λ (it : PlacedChange). it ∷ those) here
    ∙ ap (λ (more : List PlacedChange). record { w = suc skipped; change = write.change } ∷ more) later
    ∙ sym (cond-true (write.by == number) (record { w = suc skipped; change = write.change } ∷ changes_by number (suc (suc skipped)) journal) (changes_by number (suc (suc skipped)) journal) (eq-eqb write.by number first.0)))
    (⊎_elim
    (λ (below : placed.w < suc skipped). absurd (omega (arith, below, stands.0)))
    (λ (above : suc skipped < placed.w).
    let all : Stand (IsPlacedBehind number (suc skipped) journal) (suc skipped) (placed ∷ those) =
    (above, next_behind number skipped write journal placed above stands.1, all_behind number skipped placed.w write journal those stands.0 stands.2) in
    let few : suc (length those) ≤ length (writes_by number journal) = few_behind number (suc skipped) journal (placed ∷ those) all in
    ⊎_elim
    (λ (pass : (write.by == number) ≡ true). absurd (omega (arith, few, many, ap length (cond-true (write.by == number) (write ∷ writes_by number journal) (writes_by number journal) pass))))
    (λ (fail : (write.by == number) ≡ false).
    let same : length (placed ∷ those) ≡ length (writes_by number journal) = many ∙ ap length (cond-false (write.by == number) (write ∷ writes_by number journal) (writes_by number journal) fail) in
    all_told_behind number (suc skipped) journal (placed ∷ those) all same
    ∙ sym (cond-false (write.by == number) (record { w = suc skipped; change = write.change } ∷ changes_by number (suc (suc skipped)) journal) (changes_by number (suc (suc skipped)) journal) fail))
    (cases_Bool (write.by == number))))
    (cases_order placed.w (suc skipped))

-- ---- in a whole journal ----

-- behind no write
behind_none : (number : ℕ) (journal : List Write) (placed : PlacedChange) → IsPlacedIn journal number placed → IsPlacedBehind number 0 journal placed
behind_none number journal placed at = record { write = at.write; there = at.there; by = at.by; change = at.change }

-- behind more writes, where the first one's position is above them
behind_more : (number skipped more all w : ℕ) (journal : List Write) (those : List PlacedChange) → all ≡ skipped + more → all ≤ w → Stand (IsPlacedBehind number skipped journal) w those → Stand (IsPlacedBehind number all (drop more journal)) w those
behind_more number skipped zero all w journal those is low stands =
    let same : skipped ≡ all = omega (arith, is) in
    subst (λ (n : ℕ). Stand (IsPlacedBehind number n journal) w those) same stands
behind_more number skipped (suc more) all w [] [] is low stands = tt
behind_more number skipped (suc more) all w [] (placed ∷ those) is low stands = absurd (none_behind number skipped placed stands.1)
behind_more number skipped (suc more) all w (write ∷ journal) those is low stands =
    behind_more number (suc skipped) more all w journal those (omega (arith, is)) low
    (all_behind number skipped w write journal those (omega (arith, is, low)) stands)

-- The positions above one are no more than the number's writes from there on.
pub few_above : (number w : ℕ) (journal : List Write) (those : List PlacedChange) → Stand (IsPlacedIn journal number) w those → length those ≤ length (writes_by number (drop w journal))
few_above number w journal those stands =
    let behind = stand_mapped (IsPlacedIn journal number) (IsPlacedBehind number 0 journal) w those (λ placed above at. behind_none number journal placed at) stands in
    few_behind number w (drop w journal) those (behind_more number 0 w w w journal those (omega arith) (omega arith) behind)

-- Where all positions are as many as the number's writes, they are the positions of these writes.
pub all_told : (number : ℕ) (journal : List Write) (those : List PlacedChange) → Stand (IsPlacedIn journal number) 0 those → length those ≡ length (writes_by number journal) → those ≡ changes_by number 1 journal
all_told number journal those stands many =
    let behind = stand_mapped (IsPlacedIn journal number) (IsPlacedBehind number 0 journal) 0 those (λ placed above at. behind_none number journal placed at) stands in
    all_told_behind number 0 journal those behind many
