-- Facts of each seat, after one seat knows something else.
use Rattle.std.proofs.Common.{◌≡◌, ◌≢◌, ℕ, List, set, length, ap, ◌∙◌, subst, ⊎_elim, arith, true}
use mathlib.Core.Option.{some}
use lib.ListN.{get_elem?}
use Rattle.pin_core.specs.declared.view.View.{View}
use Rattle.pin_core.specs.declared.view.Role.TheVariants as roles
use Rattle.std.specs.Prelude.{Option, is_some}
use Rattle.pin_book.specs.declared.write.Write.{Write}
use Rattle.pin_core.specs.Core.{one_if, times, mains, has_number, number_count, has_turn, is_main, EachSeat, IsReader}
use Rattle.pin_core.specs.Lawful.{HasOneTurn, HasOneOwner, KnowsWrites, SpentKnowNothing}
use Rattle.pin_core.proofs.Sums.{at_set, terms_le, one_if-le, total_kept}

-- each seat has P', where the one that is set has it, and each other one
pub each_set : (P : View → Type 0) (views : List View) (id : ℕ) (w : View) → P w → ((j : ℕ) (u : View) → j ≢ id → get_elem? views j ≡ some u → u.role ≢ roles.Spent → P u) → EachSeat P (set views id w)
each_set P views id w mine others j u at live =
    ⊎_elim (λ (x : (j ≡ id) × (w ≡ u)). subst P x.1 mine) (λ (x : (j ≢ id) × (get_elem? views j ≡ some u)). others j u x.0 x.1 live) (at_set views id j w u at)

-- a reader isn't spent
pub is_live : (number : ℕ) (v : View) → IsReader number v → v.role ≢ roles.Spent
is_live number v reader spent = let is = reader.0 in absurd (cc)

-- while one seat has the turn, no other has
pub idle : (slots : ℕ) (journal : List Write) (shown : ℕ → ℕ) (turn : Option ℕ) (views : List View) → HasOneTurn slots journal shown turn views
    → (id j : ℕ) (v u : View) → get_elem? views id ≡ some v → v.turn ≡ true → j ≢ id → get_elem? views j ≡ some u → u.turn ≢ true
idle slots journal shown turn views h id j v u at mine other there theirs =
    let both = terms_le has_turn views id j v u other at there in let one = h.one in let first = ap one_if mine in let second = ap one_if theirs in let most = one_if-le (is_some turn) in omega arith

-- each number still belongs to one seat where the seat that is set keeps its numbers and its role
pub owners_kept : (readers : ℕ) (journal : List Write) (views : List View) (id : ℕ) (v w : View) → HasOneOwner readers journal views → get_elem? views id ≡ some v
    → w.numbers ≡ v.numbers → w.role ≡ v.role → KnowsWrites readers journal w → HasOneOwner readers journal (set views id w)
owners_kept readers journal views id v w h at numbers role mine = record {
  numbers = λ r inside. total_kept (has_number r) views id v w at (ap (times r) numbers) ∙ h.numbers r inside;
  whole = total_kept number_count views id v w at (ap (λ (ns : List ℕ). length ns) numbers) ∙ h.whole;
  main = total_kept is_main views id v w at (ap mains role) ∙ h.main;
  writers = h.writers;
  counted = h.counted;
  each = each_set _ views id w mine (λ j u _ there. h.each j u there);
}

-- a spent seat knows nothing, where the seat that is set isn't spent
pub spent_kept : (views : List View) (id : ℕ) (w : View) → w.role ≢ roles.Spent → SpentKnowNothing views → SpentKnowNothing (set views id w)
spent_kept views id w live h j u at spent =
    ⊎_elim (λ (x : (j ≡ id) × (w ≡ u)). absurd (live (ap (λ (y : View). y.role) x.1 ∙ spent))) (λ (x : (j ≢ id) × (get_elem? views j ≡ some u)). h j u x.1 spent) (at_set views id j w u at)
