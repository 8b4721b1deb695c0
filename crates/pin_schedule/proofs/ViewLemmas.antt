-- What is told of a state: of one reader, and after one reader's seat knows something else.
use Rattle.std.proofs.Common.{◌≡◌, ◌≢◌, ℕ, zero, suc, ◌+◌, ◌<◌, List, [], ◌∷◌, length, map, drop, set, get_or, sym, refl, ap, ◌∙◌, subst, ⊎_elim, arith, Option, Some, None}
use mathlib.Core.Option.{some}
use lib.ListN.{get_elem?}
use Rattle.std.proofs.lemmas.Bool.{cases_eq}
use Rattle.std.proofs.lemmas.List.{length-set, length-map, map-set, get_or-map, get_or-set_same, get_or-set_other, set-get_or}
use Rattle.pin_core.specs.declared.entry.SlotWord.{SlotWord}
use Rattle.pin_book.specs.declared.write.Write.{Write}
use Rattle.pin_core.specs.declared.view.View.{View}
use Rattle.pin_book.specs.Replay.{Edition, state_after, front_of, front_number, front_slot}
use Rattle.pin_core.specs.Core.{CoreState, Front, spent, IsReader}
use Rattle.pin_core.specs.Lawful.{Lawful}
use Rattle.pin_core.specs.Step.{HasReader}
use Rattle.pin_schedule.specs.declared.core_reader.CoreReader.{CoreReader}
use Rattle.pin_schedule.specs.declared.row.Row.{Row}
use Rattle.pin_schedule.specs.Answer.{view_of, reader_of, claimed_by}
use Rattle.pin_schedule.specs.Progress.{reader_at, front_at, newest, listed_row, seen_front, progress_of, Amounts, IsPlayed}

-- ---- lists of views ----

pub drop_set : (views : List View) (reader : ℕ) (w : View) → drop 1 (set views (suc reader) w) ≡ set (drop 1 views) reader w
drop_set [] reader w = refl
drop_set (x ∷ xs) reader w = refl

drop_get : (views : List View) (reader : ℕ) (d : View) → get_or (drop 1 views) reader d ≡ get_or views (suc reader) d
drop_get [] reader d = refl
drop_get (x ∷ xs) reader d = refl

drop_length : (views : List View) (n : ℕ) → length views ≡ n + 1 → length (drop 1 views) ≡ n
drop_length [] n long = omega (arith, long)
drop_length (x ∷ xs) n long = omega (arith, long)

pub elem_there : (views : List View) (i : ℕ) (d : View) → i < length views → get_elem? views i ≡ some (get_or views i d)
elem_there [] i d low = absurd (omega arith)
elem_there (x ∷ xs) zero d low = refl
elem_there (x ∷ xs) (suc i) d low = elem_there xs i d (omega arith)

pub newest_placed : (es : List Edition) → get_or (map listed_row es) 0 record { n = 0; slot = 0 } ≡ record { n = (front_of es).n; slot = (front_of es).slot }
newest_placed [] = refl
newest_placed (e ∷ es) = refl

module _ (made room : ℕ) (s : CoreState) (played : IsPlayed made room s) where
  -- the front, as it is kept at hand
  pub newest_told : newest (progress_of room s) ≡ record { n = front_number s.slots s.journal; slot = front_slot s.slots s.journal }
  unfolding front_number front_slot
  newest_told = newest_placed (state_after s.slots s.journal).listed

  pub readers_long : length (progress_of room s).core.readers ≡ s.readers
  readers_long = length-map (drop 1 s.views) reader_of ∙ drop_length s.views s.readers played.seats

  pub fronts_long : length (progress_of room s).fronts ≡ s.readers
  fronts_long = length-map (drop 1 s.views) (seen_front s.slots) ∙ drop_length s.views s.readers played.seats

  module _ (reader : ℕ) (inside : reader < s.readers) where
    v : View
    v = view_of s reader

    low : suc reader < length s.views
    low = omega (arith, played.seats, inside)

    row : reader < length (drop 1 s.views)
    row = omega (arith, drop_length s.views s.readers played.seats, inside)

    -- what is told of the reader, and the front that it has seen last
    pub reader_told : reader_at (progress_of room s) reader ≡ reader_of (view_of s reader)
    reader_told = get_or-map reader_of (drop 1 s.views) reader spent (reader_of spent) row ∙ ap reader_of (drop_get s.views reader spent)

    pub front_told : front_at (progress_of room s) reader ≡ seen_front s.slots (view_of s reader)
    front_told = get_or-map (seen_front s.slots) (drop 1 s.views) reader spent record { n = 0; slot = 0 } row ∙ ap (seen_front s.slots) (drop_get s.views reader spent)

    -- nothing else is told where the reader is told the same, or has seen the same front
    pub readers_kept : map reader_of (drop 1 s.views) ≡ set (map reader_of (drop 1 s.views)) reader (reader_of (view_of s reader))
    readers_kept = sym (ap (λ (r : CoreReader). set (map reader_of (drop 1 s.views)) reader r) (sym reader_told) ∙ set-get_or (map reader_of (drop 1 s.views)) reader (reader_of spent))

    pub fronts_kept : map (seen_front s.slots) (drop 1 s.views) ≡ set (map (seen_front s.slots) (drop 1 s.views)) reader (seen_front s.slots (view_of s reader))
    fronts_kept = sym (ap (λ (f : Row). set (map (seen_front s.slots) (drop 1 s.views)) reader f) (sym front_told) ∙ set-get_or (map (seen_front s.slots) (drop 1 s.views)) reader record { n = 0; slot = 0 })

    -- ---- another state, where this reader knows w ----
    module _ (front : Front) (words : List SlotWord) (turn : Option ℕ) (journal : List Write) (w : View) where
      abbrev pub changed : CoreState
      changed = record s { front = front; words = words; turn = turn; journal = journal; views = set s.views (suc reader) w }

      view_here : view_of changed reader ≡ w
      view_here = get_or-set_same s.views (suc reader) w spent low

      view_else : (other : ℕ) → other ≢ reader → view_of changed other ≡ view_of s other
      view_else other apart = get_or-set_other s.views (suc reader) (suc other) w spent (λ e. apart (omega (arith, e)))

      pub changed_told : progress_of room changed ≡ record {
        room = room;
        core = record {
          journal = journal;
          words = words;
          turn = turn;
          claimed = claimed_by changed turn;
          readers = set (map reader_of (drop 1 s.views)) reader (reader_of w);
        };
        fronts = set (map (seen_front s.slots) (drop 1 s.views)) reader (seen_front s.slots w);
        listed = map listed_row (state_after s.slots journal).listed;
      }
      changed_told =
          let readers : map reader_of (drop 1 (set s.views (suc reader) w)) ≡ set (map reader_of (drop 1 s.views)) reader (reader_of w) =
          ap (map reader_of) (drop_set s.views reader w) ∙ map-set reader_of (drop 1 s.views) reader w in
          let fronts : map (seen_front s.slots) (drop 1 (set s.views (suc reader) w)) ≡ set (map (seen_front s.slots) (drop 1 s.views)) reader (seen_front s.slots w) =
          ap (map (seen_front s.slots)) (drop_set s.views reader w) ∙ map-set (seen_front s.slots) (drop 1 s.views) reader w in
          λ i. record {
            room = room;
            core = record {
              journal = journal;
              words = words;
              turn = turn;
              claimed = claimed_by changed turn;
              readers = readers i;
            };
            fronts = fronts i;
            listed = map listed_row (state_after s.slots journal).listed;
          }

      -- the claimed slot is that of the turn's holder
      pub claimed_here : claimed_by changed (Some reader) ≡ w.claimed
      claimed_here = ap (λ (u : View). u.claimed) view_here

      pub claimed_kept : w.claimed ≡ (view_of s reader).claimed → claimed_by s turn ≡ claimed_by changed turn
      claimed_kept same = by_turn turn
        where
          by_turn : (holder : Option ℕ) → claimed_by s holder ≡ claimed_by changed holder
          by_turn None = refl
          by_turn (Some other) = ⊎_elim
              (λ (is : other ≡ reader). ap (λ n. (view_of s n).claimed) is ∙ sym same ∙ sym (ap (λ (u : View). u.claimed) view_here) ∙ ap (λ n. (view_of changed n).claimed) (sym is))
              (λ (no : other ≢ reader). ap (λ (u : View). u.claimed) (sym (view_else other no))) (cases_eq other reader)

      pub changed_played : Lawful changed → IsReader reader w → Amounts (made + 1) room w → IsPlayed (made + 1) room changed
      changed_played lawful mine amounts = record {
        lawful = lawful;
        seats = length-set s.views (suc reader) w ∙ played.seats;
        out = λ other within. ⊎_elim
            (λ (is : other ≡ reader). subst (λ n. HasReader changed (suc n) n (view_of changed n)) (sym is) here)
            (λ (no : other ≢ reader). else other within no) (cases_eq other reader);
        amounts = λ other within. ⊎_elim
            (λ (is : other ≡ reader). subst (λ n. Amounts (made + 1) room (view_of changed n)) (sym is) (subst (λ (u : View). Amounts (made + 1) room u) (sym view_here) amounts))
            (λ (no : other ≢ reader). subst (λ (u : View). Amounts (made + 1) room u) (sym (view_else other no)) (later (view_of s other) (played.amounts other within))) (cases_eq other reader);
        slots = played.slots;
        readers = played.readers;
        writes = played.writes;
      }
        where
          long : length (set s.views (suc reader) w) ≡ length s.views
          long = length-set s.views (suc reader) w

          here : HasReader changed (suc reader) reader (view_of changed reader)
          here = record {
            here = elem_there (set s.views (suc reader) w) (suc reader) spent (omega (arith, long, low));
            reader = subst (λ (u : View). IsReader reader u) (sym view_here) mine;
          }

          else : (other : ℕ) → other < s.readers → other ≢ reader → HasReader changed (suc other) other (view_of changed other)
          else other within apart = record {
            here = elem_there (set s.views (suc reader) w) (suc other) spent (omega (arith, long, played.seats, within));
            reader = subst (λ (u : View). IsReader other u) (sym (view_else other apart)) (played.out other within).reader;
          }

          later : (u : View) → Amounts made room u → Amounts (made + 1) room u
          later u a = record {
            loads = omega (arith, a.loads);
            pins = omega (arith, a.pins);
            taken = omega (arith, a.taken);
            refused = omega (arith, a.refused);
            writes = a.writes;
          }
