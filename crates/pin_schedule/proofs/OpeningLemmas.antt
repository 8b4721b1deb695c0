-- What is kept at hand before any event.
use Rattle.std.proofs.Common.{◌≡◌, ℕ, zero, suc, ◌+◌, ◌≤◌, ◌<◌, List, [], ◌∷◌, map, set, get_or, replicate, sym, refl, ap, ◌∙◌, subst, arith, None}
use Rattle.std.specs.List.{range_with_len}
use mathlib.Core.Option.{some}
use lib.ListN.{get_elem?}
use Rattle.std.proofs.Math.Nat.{mul-le-mul}
use Rattle.std.proofs.lemmas.List.{length-map}
use Rattle.std.proofs.lemmas.List.FromFn.{length-range_with_len}
use Rattle.pin_core.specs.declared.view.View.{View}
use Rattle.pin_book.specs.Replay.{front_number, front_slot}
use Rattle.pin_core.specs.Core.{CoreState, spent, IsReader}
use Rattle.pin_core.specs.Step.{reader_at_first, opening_with_readers}
use Rattle.pin_book.specs.declared.limits.TheConstants.{MOST_SLOTS, MOST_WRITES, READER_NUMBERS}
use Rattle.pin_core.proofs.Opening.{opens_with_readers}
use Rattle.pin_schedule.specs.declared.core_reader.CoreReader.{CoreReader}
use Rattle.pin_schedule.specs.declared.row.Row.{Row}
use Rattle.pin_schedule.specs.Answer.{view_of, reader_of}
use Rattle.pin_schedule.specs.Progress.{seen_front, progress_of, Amounts, IsPlayed}

module _ (writes : ℕ) where
  readers_told : (from count : ℕ) → map reader_of (map (reader_at_first writes) (range_with_len from count)) ≡ replicate count (reader_of (reader_at_first writes 0))
  readers_told from zero = refl
  readers_told from (suc count) = ap (λ (rs : List CoreReader). reader_of (reader_at_first writes 0) ∷ rs) (readers_told (from + 1) count)

  fronts_told : (slots from count : ℕ) → map (seen_front slots) (map (reader_at_first writes) (range_with_len from count)) ≡ replicate count record { n = 1; slot = 0 }
  unfolding front_number front_slot
  fronts_told slots from zero = refl
  fronts_told slots from (suc count) = ap (λ (fs : List Row). record { n = 1; slot = 0 } ∷ fs) (fronts_told slots (from + 1) count)

  -- before any event
  pub opening_told : (slots readers : ℕ) → record {
    room = writes;
    core = record {
      journal = [];
      words = set (replicate slots record { number = 0; count = 0 }) 0 record { number = 1; count = 0 };
      turn = None;
      claimed = None;
      readers = replicate readers (reader_of (reader_at_first writes 0));
    };
    fronts = replicate readers record { n = 1; slot = 0 };
    listed = record { n = 1; slot = 0 } ∷ [];
  } ≡ progress_of writes (opening_with_readers slots readers writes)
  opening_told slots readers = λ i. record {
    room = writes;
    core = record {
      journal = [];
      words = set (replicate slots record { number = 0; count = 0 }) 0 record { number = 1; count = 0 };
      turn = None;
      claimed = None;
      readers = sym (readers_told 0 readers) i;
    };
    fronts = sym (fronts_told slots 0 readers) i;
    listed = record { n = 1; slot = 0 } ∷ [];
  }

  views_at : (from count number : ℕ) → number < count → get_elem? (map (reader_at_first writes) (range_with_len from count)) number ≡ some (reader_at_first writes (from + number))
  views_at from zero number low = absurd (omega arith)
  views_at from (suc count) zero low = ap (λ n. some (reader_at_first writes n)) (omega arith)
  views_at from (suc count) (suc number) low = views_at (from + 1) count number (omega arith) ∙ ap (λ n. some (reader_at_first writes n)) (omega arith)

  view_at : (from count number : ℕ) → number < count → get_or (map (reader_at_first writes) (range_with_len from count)) number spent ≡ reader_at_first writes (from + number)
  view_at from zero number low = absurd (omega arith)
  view_at from (suc count) zero low = ap (reader_at_first writes) (omega arith)
  view_at from (suc count) (suc number) low = view_at (from + 1) count number (omega arith) ∙ ap (reader_at_first writes) (omega arith)

  module _ (slots readers : ℕ) (some_slot : 0 < slots) (few_slots : slots ≤ MOST_SLOTS) (few_readers : readers ≤ READER_NUMBERS) (few_writes : writes ≤ MOST_WRITES) where
    abbrev s : CoreState
    s = opening_with_readers slots readers writes

    is_first : (number : ℕ) → number < readers → view_of s number ≡ reader_at_first writes number
    is_first number low = view_at 0 readers number low ∙ ap (reader_at_first writes) (omega arith)

    pub opening_played : IsPlayed 0 writes s
    opening_played = record {
      lawful = opens_with_readers slots readers writes some_slot;
      seats = (let long = length-range_with_len 0 readers in let all = length-map (range_with_len 0 readers) (reader_at_first writes) in omega arith);
      out = λ number low. record {
        here = views_at 0 readers number low ∙ ap (λ n. some (reader_at_first writes n)) (omega arith) ∙ ap some (sym (is_first number low));
        reader = subst (λ (u : View). IsReader number u) (sym (is_first number low)) (refl, refl);
      };
      amounts = λ number low. subst (λ (u : View). Amounts 0 writes u) (sym (is_first number low)) record {
        loads = omega arith;
        pins = omega arith;
        taken = omega arith;
        refused = omega arith;
        writes = omega arith;
      };
      slots = few_slots;
      readers = few_readers;
      writes = (let most = mul-le-mul few_readers few_writes in most);
    }
