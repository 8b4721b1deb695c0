-- Whose writes a journal has: each is by a reader's number, and bears the count of that number's writes.
use Rattle.std.specs.Prelude.{◌≡◌, ℕ, ◌+◌, Bool, true, ◌&&◌, ◌==◌, List, [], ◌∷◌, length, filter}
use Rattle.pin_book.specs.declared.write.Write.{Write}

-- the writes by this number, in order
abbrev pub writes_by : ℕ → List Write → List Write
writes_by number journal = filter (λ write. write.by == number) journal

-- the count that the next write by this number bears
abbrev pub next_seq : ℕ → List Write → ℕ
next_seq number journal = length (writes_by number journal) + 1

-- the first of these writes bears the count after `before`, and each later one the next
abbrev pub counts_from : ℕ → List Write → Bool
counts_from before [] = true
counts_from before (write ∷ later) = (write.seq == before + 1) && counts_from (before + 1) later

-- the writes of each number bear 1, 2, 3 .. in order
abbrev pub AreCounted : List Write → Type 0
AreCounted journal = (number : ℕ) → counts_from 0 (writes_by number journal) ≡ true
