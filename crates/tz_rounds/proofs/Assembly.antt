-- A batch whose rounds were run lane by lane is a run.
use Rattle.std.proofs.Common.{◌≡◌, ℕ, ◌<◌, nat_lt, true, arith}
use Rattle.std.proofs.lemmas.Bool.{lt-ltb}
use Rattle.std.proofs.lemmas.List.Elements.{All-weaker}
use Rattle.std.proofs.lemmas.List.Sums.{list_all-from_AllPass}
use Rattle.pin_book.specs.declared.write.Write.{Write}
use Rattle.pin_core.specs.declared.view.View.{View}
use Rattle.pin_table.specs.declared.sitting.Plan.{Plan}
use Rattle.tz_batch.specs.Batch.{Batch, answered}
use Rattle.tz_batch.specs.Run.{WritesAreReplies, IsRunOf}
use Rattle.tz_rounds.specs.Rounds.{RanRounds}
use Rattle.tz_rounds.proofs.Lanes.{is_right, has_position, slots_keep, passes_over}
use Rattle.tz_rounds.proofs.Written.{told_as_written}

module _ {P : Type 0} (plan : Plan P) (batch : Batch) (rounds : ℕ) (main : View) (ran : RanRounds plan batch rounds main) where
  -- the writes are those that replies tell of
  writes_are_replies : WritesAreReplies batch
  writes_are_replies = record {
    same = λ number low. told_as_written plan batch.sources rounds (answered batch) main batch.outcome.journal ran.ran ran.whole number (omega (arith, low, ran.lanes));
    counted = ran.whole.counted;
    no_others = list_all-from_AllPass (λ (write : Write). nat_lt write.by batch.lanes) batch.outcome.journal
        (All-weaker (λ (write : Write). write.by < plan.readers) (λ (write : Write). nat_lt write.by batch.lanes ≡ true)
        (λ write inside. lt-ltb write.by batch.lanes (omega (arith, inside, ran.lanes))) batch.outcome.journal ran.whole.writers);
  }

  -- All rounds together make a run.
  pub rounds_make_a_run : IsRunOf batch
  rounds_make_a_run = record {
    replay = ran.replay;
    writes = writes_are_replies;
    replies = record {
      one_each = ran.one_each;
      right = λ before later here is. is_right plan batch rounds main ran before later here is;
    };
    positions = λ before later here is. has_position plan batch rounds main ran before later here is;
    slots = λ before later here is. slots_keep plan batch rounds main ran before later here is;
    pushes = λ before later here is. passes_over plan batch rounds main ran before later here is;
  }
