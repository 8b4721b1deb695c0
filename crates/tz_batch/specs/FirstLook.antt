-- A script with one operation, `look` in the first lane and round, and what it gives.
use Rattle.std.specs.Prelude.{ℕ, [], ◌∷◌}
use Rattle.tz_script.specs.declared.operation.Op.TheVariants as ops
use Rattle.tz_script.specs.declared.operation.Operation.{Operation}
use Rattle.tz_batch.specs.declared.answer.Answer.TheVariants as answers
use Rattle.tz_batch.specs.declared.outcome.Outcome.{Outcome}
use Rattle.tz_batch.specs.declared.reply.Reply.{Reply}

-- `look`, at that line
abbrev pub lone_look : ℕ → Operation
lone_look line = record { line = line; round = 1; lane = 1; op = ops.Look }

-- version 1 in slot 0 is at the front, before any write
abbrev pub first_front : ℕ → Reply
first_front line = record { line = line; w = 0; answer = answers.Front 1 0 }

-- no write, and that reply
abbrev pub first_outcome : ℕ → Outcome
first_outcome line = record { journal = []; replies = first_front line ∷ [] }
