-- A try for the turn, a turn given back and the store of an erase keep the rule.
use Rattle.std.proofs.Common.{◌≡◌, ◌≢◌, ℕ, ◌<◌, List, ◌∷◌, length, set, refl, sym, ap, ◌∙◌, subst, ⊎_elim, arith, length-set, ◌==◌, eq-eqb, ne_eqb, Option, Some, None}
use Rattle.std.specs.Prelude.{slice_index, is_some}
use Rattle.std.proofs.lemmas.Bool.{cases_eq, cond-true, cond-false}
use lib.Seq.{set-get_or}
use prog.Atomic.{either}
use mathlib.Core.Option as maybe
use mathlib.Core.Option.{some}
use lib.ListN.{get_elem?}
use Rattle.atomic_table.specs.Table.{State, Me, keeps, takes, gives, put_back, rest, Allows}
use Rattle.atomic_table.proofs.Lists.{set_else, set_here}
use Rattle.pin_core.specs.declared.view.View.{View}
use Rattle.pin_core.specs.Core.{CoreState, IsReader}
use Rattle.pin_core.specs.Lawful.{PlacesAtHome}
use Rattle.pin_core.specs.Step.{MayTakeTurn, MayGive, got_turn, was_refused, gave_turn, take_turn, miss_turn, exchange_turn, give_turn}
use Rattle.pin_core.specs.Run.{Moves, exchanges, gives_back}
use Rattle.pin_core.specs.Packing.{packed_turn, place, book_place}
use Rattle.pin_core.proofs.Packing.{turn_nobody, before_book}
use Rattle.pin_core.proofs.Holders.{holder_out, holder_other}
use Rattle.pin_core.proofs.AtHome.{exchange_home, give_home, give_book}
use Rattle.pin_table.specs.declared.cell.Cell.{Cell}
use Rattle.pin_table.specs.declared.cell.Cell.TheVariants.{Desk}
use Rattle.pin_table.specs.declared.sitting.Plan.{Plan}
use Rattle.pin_table.specs.declared.sitting.Sitting.{Sitting}
use Rattle.pin_table.specs.declared.layout.TheConstants.{TURN_WORD}
use Rattle.pin_table.specs.Seat.{knowing}
use Rattle.pin_table.specs.Sources.{book_of}
use Rattle.pin_table.specs.Places.{IsPlaceAt, StandsAtHome, IsBookAt}
use Rattle.pin_table.specs.Rule.{KeepsList}
use Rattle.pin_table.specs.Plays.{ForReader, TurnTaken, TurnMissed, TurnTried, TurnGiven, book_cell}
use Rattle.pin_table.proofs.FrontLoads.{goes_on}
use Rattle.pin_table.proofs.StepLemmas.{same_words, turn_written, Known, known, after_step, Steps, reader_inside, same_plan, for_step}

module _ {P H : Type 0} (home : P → H) (source : P → ℕ) (name_of : H → ℕ → List ℕ) (plan : Plan P) (s : State (Cell P H) (Sitting P)) (h : KeepsList home source name_of plan s)
    (id number : ℕ) (m : Me (Cell P H) (Sitting P)) (seated : get_elem? s.views id ≡ some m.0) (reader : IsReader number m.0.core) where
  abbrev core : CoreState
  core = h.core

  abbrev v : View
  v = m.0.core

  k : Known plan core id number v
  k = known home source name_of plan s h id number m.0 seated reader

  -- a place isn't where the book stands
  place_apart : (at r : ℕ) → at < core.slots → r < core.readers → place at r ≢ book_place plan.slots
  place_apart at r low mine same = let few = h.sizes in let numbers = few.few_readers in let readers = k.readers in let slots = k.slots in let below = before_book core.slots at r low (omega arith) in omega arith

  -- the places stay at home where only the book's place changes
  places_stay : (x : maybe.Option (Cell P H)) (t : CoreState) → t.slots ≡ core.slots → t.readers ≡ core.readers
      → PlacesAtHome (λ at r n. IsPlaceAt home source s.homes (home plan.first) core.journal (place at r) n) t
      → PlacesAtHome (λ at r n. IsPlaceAt home source (set s.homes (book_place plan.slots) x) (home plan.first) core.journal (place at r) n) t
  places_stay x t slots readers homes at r low mine none = let old = homes at r low mine none in record {
    cell = old.cell;
    here = set_else s.homes (book_place plan.slots) (place at r) x (place_apart at r (subst (λ n. at < n) slots low) (subst (λ n. r < n) readers mine)) ∙ old.here;
    stocked = old.stocked;
  }

  book_inside : book_place plan.slots < length s.homes
  book_inside = let deep = h.homes.deep in omega arith

  -- ---- the turn is free ----

  module _ (may : MayTakeTurn v) where
    abbrev word : ℕ
    word = slice_index s.words TURN_WORD

    abbrev new : ℕ
    new = packed_turn (Some number)

    module _ (won : word ≡ packed_turn None) where
      free : core.turn ≡ None
      free = (turn_nobody core.turn).0 (sym h.words.turn ∙ won)

      move_is : exchange_turn core id number v ≡ take_turn core id number v
      move_is = cond-false (is_some core.turn) (miss_turn core id v) (take_turn core id number v) (ap is_some free)

      abbrev w : Sitting P
      w = knowing (got_turn core.journal v) m.0

      abbrev homes' : List (maybe.Option (Cell P H))
      homes' = set s.homes (book_place plan.slots) maybe.none

      taken_home : StandsAtHome home source name_of plan homes' (take_turn core id number v)
      taken_home = record {
        deep = length-set s.homes (book_place plan.slots) maybe.none ∙ h.homes.deep;
        places = places_stay maybe.none (take_turn core id number v) refl refl
            (subst (PlacesAtHome (λ at r n. IsPlaceAt home source s.homes (home plan.first) core.journal (place at r) n)) move_is
            (exchange_home (λ at r n. IsPlaceAt home source s.homes (home plan.first) core.journal (place at r) n) core id number v k.has h.homes.places));
        book = λ nobody. absurd (cc);
      }

      taken_rule : KeepsList home source name_of plan record { words = set s.words TURN_WORD (either (word == packed_turn None) new word); homes = homes'; views = set s.views id w }
      taken_rule = subst (λ n. KeepsList home source name_of plan record { words = set s.words TURN_WORD n; homes = homes'; views = set s.views id w }) (sym (ap (λ b. either b new word) (eq-eqb word (packed_turn None) won)))
          (after_step home source name_of plan s h id w (take_turn core id number v) (set s.words TURN_WORD new) homes' (subst (Moves core) move_is (exchanges id number v k.has may)) refl
          (turn_written s.words core (take_turn core id number v) new h.words refl refl refl refl) taken_home)

      taken : TurnTaken home name_of plan number m (w, book_cell home name_of plan core.journal ∷ m.1)
      taken = record {
        journal = core.journal;
        seat = refl;
        goes_on = subst (λ (q : Plan P). Rattle.pin_table.specs.Plays.GoesOn q.slots q.room number v core.journal) (same_plan plan core id number v k) (goes_on plan core id number v h.sizes h.reached k);
      }

    module _ (lost : word ≢ packed_turn None) (holder : ℕ) (turn_is : core.turn ≡ Some holder) where
      move_else : exchange_turn core id number v ≡ miss_turn core id v
      move_else = cond-true (is_some core.turn) (miss_turn core id v) (take_turn core id number v) (ap is_some turn_is)

      abbrev w' : Sitting P
      w' = knowing (was_refused core.turn v) m.0

      missed_home : StandsAtHome home source name_of plan s.homes (miss_turn core id v)
      missed_home = record {
        deep = h.homes.deep;
        places = subst (PlacesAtHome (λ at r n. IsPlaceAt home source s.homes (home plan.first) core.journal (place at r) n)) move_else
            (exchange_home (λ at r n. IsPlaceAt home source s.homes (home plan.first) core.journal (place at r) n) core id number v k.has h.homes.places);
        book = h.homes.book;
      }

      missed_rule : KeepsList home source name_of plan record { words = set s.words TURN_WORD (either (word == packed_turn None) new word); homes = s.homes; views = set s.views id w' }
      missed_rule = subst (λ ws. KeepsList home source name_of plan record { words = ws; homes = s.homes; views = set s.views id w' })
          (sym (ap (λ b. set s.words TURN_WORD (either b new word)) (ne_eqb word (packed_turn None) lost) ∙ set-get_or s.words TURN_WORD 0))
          (after_step home source name_of plan s h id w' (miss_turn core id v) s.words s.homes (subst (Moves core) move_else (exchanges id number v k.has may)) refl
          (same_words s.words core (miss_turn core id v) h.words refl refl refl refl) missed_home)

      missed : TurnMissed plan number m word (w', m.1)
      missed = record {
        holder = holder;
        seat = ap (λ t. (knowing (was_refused t v) m.0, m.1)) turn_is;
        named = h.words.turn ∙ ap packed_turn turn_is;
        other = holder_other core id number holder v k.lawful k.has may.idle turn_is;
        inside = (let readers = k.readers in let low = (holder_out core holder k.lawful turn_is).4 in omega arith);
        several = (let readers = k.readers in let low = (holder_out core holder k.lawful turn_is).4 in let mine = reader_inside plan core id number v k in
            let other = holder_other core id number holder v k.lawful k.has may.idle turn_is in omega arith);
      }

    pub tries_at : Steps (KeepsList home source name_of plan) s id m TURN_WORD (λ n. either (n == packed_turn None) new n) (λ n m'. TurnTried home name_of plan number m n m')
    tries_at = ⊎_elim
        (λ (won : word ≡ packed_turn None). (
          w won,
          takes (book_place plan.slots) (Desk (book_of name_of (home plan.first) plan.slots plan.room core.journal)),
          h.homes.book (free won),
          taken_rule won,
          record { won = λ _. taken won; lost = λ lost. absurd (lost won) },
        ))
        (λ (lost : word ≢ packed_turn None). by_turn lost core.turn refl)
        (cases_eq word (packed_turn None))
      where
        by_turn : word ≢ packed_turn None → (turn : Option ℕ) → core.turn ≡ turn → Steps (KeepsList home source name_of plan) s id m TURN_WORD (λ n. either (n == packed_turn None) new n) (λ n m'. TurnTried home name_of plan number m n m')
        by_turn lost None is = absurd (lost (h.words.turn ∙ ap packed_turn is))
        by_turn lost (Some holder) is = (w' lost holder is, keeps, tt, missed_rule lost holder is, record { won = λ won. absurd (lost won); lost = λ _. missed lost holder is })

  -- ---- the turn is given back ----

  module _ (may : MayGive v) (give : m.1 ≡ book_cell home name_of plan v.seen ∷ rest m.1) where
    abbrev cell : Cell P H
    cell = Desk (book_of name_of (home plan.first) plan.slots plan.room v.seen)

    abbrev homes'' : List (maybe.Option (Cell P H))
    homes'' = set s.homes (book_place plan.slots) (some cell)

    given_home : StandsAtHome home source name_of plan homes'' (give_turn core id v)
    given_home = record {
      deep = length-set s.homes (book_place plan.slots) (some cell) ∙ h.homes.deep;
      places = places_stay (some cell) (give_turn core id v) refl refl (give_home (λ at r n. IsPlaceAt home source s.homes (home plan.first) core.journal (place at r) n) core id number v k.has h.homes.places);
      book = give_book (IsBookAt home source name_of homes'' plan) core id number v k.lawful k.has may.turn (set_here s.homes (book_place plan.slots) (some cell) book_inside);
    }

    pub gives_at : Steps (KeepsList home source name_of plan) s id m TURN_WORD (λ _. packed_turn None) (λ n m'. TurnGiven m m')
    gives_at = (
      knowing (gave_turn v) m.0,
      gives,
      tt,
      subst (λ hs. KeepsList home source name_of plan record { words = set s.words TURN_WORD (packed_turn None); homes = hs; views = set s.views id (knowing (gave_turn v) m.0) }) (sym (ap (put_back s.homes) give))
          (after_step home source name_of plan s h id (knowing (gave_turn v) m.0) (give_turn core id v) (set s.words TURN_WORD (packed_turn None)) homes'' (gives_back id number v k.has may) refl
          (turn_written s.words core (give_turn core id v) (packed_turn None) h.words refl refl refl refl) given_home),
      refl,
    )

module _ {P H : Type 0} (home : P → H) (source : P → ℕ) (name_of : H → ℕ → List ℕ) where
  pub tries_turn : (plan : Plan P) (slots id number : ℕ) (m : Me (Cell P H) (Sitting P)) → m.0.plan ≡ Some plan → IsReader number m.0.core → MayTakeTurn m.0.core
      → Allows (KeepsList home source name_of plan) slots id m TURN_WORD (λ n. either (n == packed_turn None) (packed_turn (Some number)) n) (λ n m'. ForReader m.0 (λ p r. TurnTried home name_of p r m n m'))
  tries_turn plan slots id number m of_plan reader may s h deep at fits =
      for_step (KeepsList home source name_of plan) s id TURN_WORD m (λ n. either (n == packed_turn None) (packed_turn (Some number)) n) (λ p r n m'. TurnTried home name_of p r m n m') plan plan number of_plan reader refl
      (tries_at home source name_of plan s h id number m at reader may)

  pub gives_turn : (plan : Plan P) (slots id number : ℕ) (m : Me (Cell P H) (Sitting P)) → IsReader number m.0.core → MayGive m.0.core → m.1 ≡ book_cell home name_of plan m.0.core.seen ∷ rest m.1
      → Allows (KeepsList home source name_of plan) slots id m TURN_WORD (λ _. packed_turn None) (λ n m'. TurnGiven m m')
  gives_turn plan slots id number m reader may give s h deep at fits = gives_at home source name_of plan s h id number m at reader may give
