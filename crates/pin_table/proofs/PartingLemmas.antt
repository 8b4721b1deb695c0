-- A split and a join keep the rule.
use Rattle.std.proofs.Common.{subst, arith, length, ◌≡◌, ◌≢◌, ℕ, ◌^◌, ◌<◌, ◌≤◌, List, [], ◌∷◌, ◌++◌, map, set, refl, sym, ap, ◌∙◌, false, Some}
use Rattle.std.specs.Prelude.{nat_lt}
use Rattle.std.proofs.lemmas.Bool.{cond-true, cond-false, lt-ltb, le-ltb}
use Rattle.std.proofs.lemmas.List.{map-append}
use Rattle.pin_book.specs.declared.write.Write.{Write}
use Rattle.pin_table.specs.declared.position.Position.{Position}
use Rattle.pin_table.specs.Position.{IsAfter}
use mathlib.Core.Option.{some}
use lib.ListN.{get_elem?}
use lib.Seq.{map-set, set-get_or}
use Rattle.atomic_table.specs.Table.{State, Me, keeps, Allows, Splits, Joins}
use Rattle.atomic_table.proofs.Lists.{set_else, set_again}
use Rattle.pin_core.specs.declared.view.View.{View}
use Rattle.pin_core.specs.declared.view.Role.TheVariants as roles
use Rattle.pin_core.specs.Core.{allowance_of, has_number, spent}
use Rattle.pin_core.specs.Packing.{place}
use Rattle.pin_core.specs.Step.{MaySplit, MayJoin, left_over, split_off, taken_in, split, join}
use Rattle.pin_core.specs.Run.{moves_on, splits, joins}
use Rattle.pin_core.proofs.Sums.{term_le}
use Rattle.pin_core.proofs.AtHome.{split_home, join_home}
use Rattle.pin_table.specs.declared.cell.Cell.{Cell}
use Rattle.pin_table.specs.declared.sitting.Plan.{Plan}
use Rattle.pin_table.specs.declared.sitting.Sitting.{Sitting}
use Rattle.pin_table.specs.Seat.{view_of, spent_sitting}
use Rattle.pin_table.specs.Places.{IsPlaceAt}
use Rattle.pin_table.specs.Rule.{KeepsList}
use Rattle.pin_table.specs.Parting.{readers_of_plan, left_sitting, right_sitting, joined_sitting}
use Rattle.pin_table.proofs.KeptLemmas.{kept_sizes, kept_lawful, kept_view, has_once}

module _ {P H : Type 0} (home : P → H) (source : P → ℕ) (name_of : H → ℕ → List ℕ) (plan : Plan P) where
  pub splits_kept : (id number writes : ℕ) (v : Sitting P) → v.plan ≡ Some plan → v.core.role ≡ roles.Main → 0 < has_number number v.core → writes ≤ v.core.allowance
      → Splits (KeepsList home source name_of plan) id v (left_sitting number writes v) (right_sitting number writes v)
  splits_kept id number writes v planned main mine room s h at =
      let lawful = kept_lawful home source name_of plan s h in let sizes = kept_sizes home source name_of plan s h in
      let at' : get_elem? h.core.views id ≡ some v.core = kept_view home source name_of plan s h id v at in
      let live : v.core.role ≢ roles.Spent = main_lives v.core main in
      let once = (has_once h.core id number v.core lawful at' live mine).1 in
      let may : MaySplit number writes v.core = record { main = main; mine = once; room = room } in
      let readers : h.core.readers ≡ readers_of_plan v.plan = sizes.1 ∙ sym (ap readers_of_plan planned) in
      let views : (split h.core id v.core number writes).views ≡ map view_of (set s.views id (left_sitting number writes v) ++ right_sitting number writes v ∷ []) =
      (λ i. set (h.views i) id (left_over (readers i) number writes v.core) ++ split_off (readers i) number writes v.core ∷ [])
      ∙ sym (map-append view_of (set s.views id (left_sitting number writes v)) (right_sitting number writes v ∷ []) ∙ ap (λ (l : List View). l ++ view_of (right_sitting number writes v) ∷ []) (map-set view_of s.views id (left_sitting number writes v))) in
      record {
        core = split h.core id v.core number writes;
        sizes = h.sizes;
        reached = moves_on h.core (split h.core id v.core number writes) h.reached (splits id v.core number writes at' may);
        words = record { wide = h.words.wide; front = h.words.front; turn = h.words.turn; slots = h.words.slots };
        views = views;
        homes = record {
          deep = h.homes.deep;
          places = split_home (λ slot reader number'. IsPlaceAt home source s.homes (home plan.first) h.core.journal (place slot reader) number') h.core id number writes v.core lawful at' may h.homes.places;
          book = h.homes.book;
        };
      }
    where
      main_lives : (u : View) → u.role ≡ roles.Main → u.role ≢ roles.Spent
      main_lives u main spent = absurd (cc)

  pub joins_kept : (id other : ℕ) (v w : Sitting P) → v.plan ≡ Some plan → v.core.role ≡ roles.Main → w.core.role ≡ roles.Reader → w.core.entries ≡ [] → w.core.turn ≡ false
      → Joins (KeepsList home source name_of plan) id v other w (joined_sitting v w) spent_sitting
  joins_kept id other v w planned main reader unpinned idle s h at apart there =
      let lawful = kept_lawful home source name_of plan s h in
      let both : Sitting P = joined_sitting v w in
      let there' : get_elem? s.views other ≡ some w = sym (set_else s.views id other both apart) ∙ there in
      let mine : get_elem? h.core.views id ≡ some v.core = kept_view home source name_of plan s h id v at in
      let its : get_elem? h.core.views other ≡ some w.core = kept_view home source name_of plan s h other w there' in
      let may : MayJoin v.core w.core = record { main = main; reader = reader; unpinned = unpinned; turn = idle } in
      let views : (join h.core id v.core other w.core).views ≡ map view_of (set (set s.views id both) other spent_sitting) =
      ap (λ (l : List View). set (set l id (taken_in v.core w.core)) other spent) h.views
      ∙ sym (map-set view_of (set s.views id both) other spent_sitting ∙ ap (λ (l : List View). set l other spent) (map-set view_of s.views id both)) in
      record {
        core = join h.core id v.core other w.core;
        sizes = h.sizes;
        reached = moves_on h.core (join h.core id v.core other w.core) h.reached (joins id v.core other w.core mine its may);
        words = record { wide = h.words.wide; front = h.words.front; turn = h.words.turn; slots = h.words.slots };
        views = views;
        homes = record {
          deep = h.homes.deep;
          places = join_home (λ slot number number'. IsPlaceAt home source s.homes (home plan.first) h.core.journal (place slot number) number') h.core id other v.core w.core lawful mine its may h.homes.places;
          book = h.homes.book;
        };
      }

  -- a seat's allowance fits its type
  pub allowance_small : (id : ℕ) (v : Sitting P) (s : State (Cell P H) (Sitting P)) → KeepsList home source name_of plan s → get_elem? s.views id ≡ some v → v.core.allowance < 2 ^ 32
  allowance_small id v s h at =
      let lawful = kept_lawful home source name_of plan s h in let room = lawful.room in let size = (kept_sizes home source name_of plan s h).2 in let few = h.sizes.few_writes in
      let mine = term_le allowance_of h.core.views id v.core (kept_view home source name_of plan s h id v at) in omega arith

  -- a load that changes nothing tells so
  pub weighs : (slots id word : ℕ) (m : Me (Cell P H) (Sitting P)) → Allows (KeepsList home source name_of plan) slots id m word (λ n. n) (λ n m'. (m' ≡ m) × (m.0.core.allowance < 2 ^ 32))
  weighs slots id word m s h deep at fits = (
    m.0,
    keeps,
    tt,
    subst (λ (ws : List ℕ). KeepsList home source name_of plan record { words = ws; homes = s.homes; views = set s.views id m.0 }) (sym (set-get_or s.words word 0))
        (subst (λ (vs : List (Sitting P)). KeepsList home source name_of plan record { words = s.words; homes = s.homes; views = vs }) (sym (set_again s.views id m.0 at)) h),
    (refl, allowance_small id m.0 s h at),
  )

-- the later of two positions is that of the longer journal
pub later_position : (slots others : ℕ) (v w : View) (mine its : Position) → others ≡ slots → IsAfter slots v.seen mine → IsAfter others w.seen its → mine.w < its.w → IsAfter slots (taken_in v w).seen its
later_position slots others v w mine its same a b less = let short = a.w in let long = b.w in
    let seen : (taken_in v w).seen ≡ w.seen = cond-true (nat_lt (length v.seen) (length w.seen)) w.seen v.seen (lt-ltb _ _ (omega arith)) in
    subst (λ (l : List Write). IsAfter slots l its) (sym seen) (subst (λ n. IsAfter n w.seen its) same b)

pub same_position : (slots others : ℕ) (v w : View) (mine its : Position) → IsAfter slots v.seen mine → IsAfter others w.seen its → its.w ≤ mine.w → IsAfter slots (taken_in v w).seen mine
same_position slots others v w mine its a b most = let long = a.w in let short = b.w in
    let seen : (taken_in v w).seen ≡ v.seen = cond-false (nat_lt (length v.seen) (length w.seen)) w.seen v.seen (le-ltb _ _ (omega arith)) in
    subst (λ (l : List Write). IsAfter slots l mine) (sym seen) a
