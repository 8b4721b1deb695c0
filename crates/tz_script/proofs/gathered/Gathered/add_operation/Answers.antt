use Rattle.std.proofs.Common.{◌≡◌, ◌+◌, ℕ, [], ◌∷◌, ◌++◌, cond, refl, sym, ap, ◌∙◌}
use Rattle.tz_script.specs.Gathered.{script_contents_gathered}
use Rattle.tz_script.specs.Inside.{lane_count, change_count}
use Rattle.tz_script.specs.Operation.{is_change}
use Rattle.tz_script.specs.declared.operation.Operation.{Operation}
use Rattle.tz_script.proofs.Soundness.{sound_operation, counted_pushed, room_for_operation, room_for_change, before_pushed, sized_pushed, rounds_pushed}
use Rattle.tz_script.proofs.gathered.Gathered.add_operation.Goals as goal

pub invariant_of-self-2 : goal.invariant_of-self-2
invariant_of-self-2 c =
    let before = c.args.self.now in
    let op = c.args.op in
    let operation : Operation = record { line = c.args.line; round = before.rounds; lane = c.args.lane; op = op } in
    let pushed : c.push.new.self ≡ before.operations ++ operation ∷ [] = c.in_ok-push.ensures.ok in
    let changes : c.changes_with-changes.result ≡ before.changes + cond (is_change op) 1 0 = c.changes_with-changes.ensures in
    let count : change_count c.push.new.self ≡ change_count before.operations + cond (is_change op) 1 0 = ap change_count pushed ∙ counted_pushed before.operations operation in
    record {
      few_rounds = before.few_rounds;
      few_changes = rw changes (room_for_change (script_contents_gathered before) op c.requires.may.2 before.few_changes);
      counted = changes ∙ ap (λ (n : ℕ). n + cond (is_change op) 1 0) before.counted ∙ sym count;
      sound = rw pushed (sound_operation before.lanes before.rounds before.operations operation before.sound (room_for_operation (script_contents_gathered before) op c.requires.may.2) refl c.requires.may.0 c.requires.may.1.0 c.requires.may.1.1 c.requires.before);
      sized = rw pushed (sized_pushed before.operations operation before.sized c.requires.may.3);
      in_rounds = rw pushed (rounds_pushed (lane_count before.lanes) before.rounds before.operations operation before.in_rounds before.sound.inside refl);
    }

pub returns-clause-before : goal.returns-clause-before
returns-clause-before c =
    let before = c.args.self.now in
    let operation : Operation = record { line = c.args.line; round = before.rounds; lane = c.args.lane; op = c.args.op } in
    let pushed : c.push.new.self ≡ before.operations ++ operation ∷ [] = c.in_ok-push.ensures.ok in
    rw pushed (before_pushed c.args.line before.operations operation refl c.requires.before)
