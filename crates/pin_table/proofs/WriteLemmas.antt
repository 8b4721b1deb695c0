-- What the reader that has the turn needs for a write, and what a write leaves.
use Rattle.std.proofs.Common.{◌≡◌, ℕ, ◌^◌, ◌<◌, ◌≤◌, List, [], ◌∷◌, ◌++◌, length, take, sym, ap, ◌∙◌, subst, arith, true, false, None}
use Rattle.std.specs.List.{Contains}
use Rattle.std.proofs.lemmas.List.{take-append-le}
use Rattle.pin_book.specs.declared.write.Write.{Write}
use Rattle.pin_book.specs.Replay.{replays, front_number, kept_number}
use Rattle.pin_book.proofs.BookLemmas.{pushes_le}
use Rattle.pin_book.proofs.Journals.{front_slot_inside}
use Rattle.pin_book.proofs.ReplayLemmas.{replay_orderly}
use Rattle.pin_core.specs.declared.entry.Entry.{Entry}
use Rattle.pin_core.specs.declared.view.View.{View}
use Rattle.pin_core.specs.Lawful.{entry_number}
use Rattle.pin_table.specs.declared.position.Position.{Position}
use Rattle.pin_table.specs.Position.{IsAfter}
use Rattle.pin_table.specs.Plays.{GoesOn}
use Rattle.pin_table.specs.Idle.{IsIdle}
use Rattle.pin_table.proofs.PlaceLemmas.{no_shorter}
use Rattle.pin_table.proofs.HandLemmas.{LeavesHandles}

-- the front of a journal fits the front word
pub front_fits : (slots room : ℕ) (journal : List Write) (position : Position) → IsAfter slots journal position → 0 < slots → slots ≤ 64 → replays slots journal ≡ true → length journal ≤ room → room ≤ 4096
    → (position.n < 2 ^ 26) × (position.slot < 2 ^ 6)
unfolding front_number
front_fits slots room journal position is some_slot few replay within most =
    let front = (replay_orderly slots journal some_slot replay).front in let pushed = pushes_le journal in let inside = front_slot_inside slots journal some_slot replay in let n = is.n in let slot = is.slot in
    (omega arith, omega arith)

-- a turn with a write leaves the handles, where their slots keep what they kept
pub write_leaves : (slots room number : ℕ) (journal : List Write) (write : Write) (v v' : View) → IsIdle slots number v → GoesOn slots room number v journal
    → v'.role ≡ v.role → v'.numbers ≡ v.numbers → v'.entries ≡ v.entries → v'.turn ≡ false → v'.claimed ≡ None → v'.seen ≡ journal ++ write ∷ []
    → ((e : Entry) → Contains v.entries e → kept_number slots (journal ++ write ∷ []) e.slot ≡ kept_number slots journal e.slot) → LeavesHandles slots v v'
write_leaves slots room number journal write v v' h goes role numbers entries turn claimed seen kept =
    let longer = no_shorter v.seen journal goes.grows in record {
      role = role;
      numbers = numbers;
      entries = entries;
      turn = turn;
      claimed = claimed;
      grows = ap (take (length v.seen)) seen ∙ (take-append-le (length v.seen) journal (write ∷ []) longer ∙ goes.grows);
      kept = λ e among. let mine = h.handles e among in let told = mine.told in let early : e.position ≤ length journal = omega arith in
          subst (λ (l : List Write). kept_number slots l e.slot ≡ entry_number slots l e) (sym seen)
          (kept e among ∙ (goes.handles e among mine.held ∙ ap (front_number slots) (sym (take-append-le e.position journal (write ∷ []) early))));
    }
