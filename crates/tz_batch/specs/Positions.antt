-- Positions where one lane serves all operations, each one before the next.
use Rattle.std.specs.Prelude.{◌≡◌, ℕ, List, [], ◌∷◌, ◌++◌, count_by}
use Rattle.tz_batch.specs.Batch.{tells_write}
use Rattle.tz_batch.specs.declared.reply.Reply.{Reply}

-- With one lane each position is how many writes the replies up to that one tell of, so that no reply meets a write of a
-- later one.
abbrev pub PositionsCountWrites : ℕ → List Reply → Type 0
PositionsCountWrites lanes replies =
    lanes ≡ 1 → (before later : List Reply) (here : Reply) → replies ≡ before ++ here ∷ later
    → here.w ≡ count_by (λ (reply : Reply). tells_write reply.answer) (before ++ here ∷ [])
