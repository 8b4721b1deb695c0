use Rattle.std.proofs.Common.{◌≡◌, ℕ, ◌+◌, ◌<◌, List, get_or, length, arith, ⊎_elim}
use Rattle.std.proofs.lemmas.Bool.{cases_lt}
use Rattle.tz_types.specs.Text.{IsText}
use Rattle.std.proofs.lemmas.List.{get_or_read}
use Rattle.std.proofs.lemmas.Grind.{common_steps}
use Rattle.tz_types.specs.declared.limit.TheConstants.{LONGEST_ABBREVIATION}
use Rattle.tz_tzif.proofs.designations.octets_of.Goals as goal

one_more : (designations : List (List ℕ)) (place : ℕ) (designation : List ℕ) → place < length designations → designation ≡ get_or designations place designation → IsText 0 LONGEST_ABBREVIATION designation → ((k : ℕ) (d : List ℕ) → k < place → IsText 0 LONGEST_ABBREVIATION (get_or designations k d)) → (k : ℕ) (d : List ℕ) → k < place + 1 → IsText 0 LONGEST_ABBREVIATION (get_or designations k d)
one_more designations place designation within is text before k d below =
    ⊎_elim (λ (lt : k < place). before k d lt)
    (λ le.
    let here : k ≡ place = omega arith in
    let read = get_or_read designations place designation within is d in
    rw (here, ← read) text)
    (cases_lt k place)

pub loop-designation-preserved : goal.loop-designation-preserved
loop-designation-preserved c = record {
  octets = grind (arith, common_steps);
  texts = one_more c.args.designations.now c.loop-designation.designation-index c.designation-item.result c.loop-designation-test.true c.designation-item.is (rw c.as_bytes.ensures.bytes at c.as_bytes.ensures.text) c.loop-designation.invariant.texts;
}
