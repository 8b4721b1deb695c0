use Rattle.std.proofs.Common.{ℕ, List, inl, inr, ◌++◌, take, codes, refl, ap, rules, FitsSigned}
use Rattle.std.specs.Int.{w64}
use Rattle.std.proofs.lemmas.Int.{to_z-of_z}
use Rattle.tz_words.specs.declared.status.Status.{Status}
use Rattle.tz_words.specs.declared.status.Status.TheVariants as statuses
use Rattle.tz_cli.specs.Dumping.{compiled_texts}
use Rattle.tz_cli.specs.Outcome.{Exactly}
use Rattle.tz_cli.specs.Output.{TellsOutput}
use Rattle.tz_cli.specs.declared.output.Output.TheVariants as outputs
use Rattle.tz_cli.proofs.Outputs.{prints_behind}
use Rattle.tz_cli.proofs.output.print_dump.Goals as goal

pub returns-in-Ok : goal.returns-in-Ok
returns-in-Ok g c =
    let dump = c.args.dump.now in
    let from_fits : FitsSigned w64 dump.from = search rules in
    let to_fits : FitsSigned w64 dump.to = search rules in
    let whole = simp to_z-of_z at (rw c.as_slice.ensures.value at c.in-Ok.ensures.ok) in
    (compiled_texts dump.from dump.to dump.zones.items, inl (refl, refl), whole)

pub returns-in-Err-Write : goal.returns-in-Err-Write
returns-in-Err-Write g c =
    let dump = c.args.dump.now in
    let from_fits : FitsSigned w64 dump.from = search rules in
    let to_fits : FitsSigned w64 dump.to = search rules in
    let stopped = simp to_z-of_z at (rw (c.in-Err-Write.field-0-is, c.as_slice.ensures.value) at c.in-Err-Write.ensures.stopped) in
    (statuses.Ok, compiled_texts dump.from dump.to dump.zones.items, inl (refl, refl), stopped)

pub returns-in-Err-Memory : goal.returns-in-Err-Memory
returns-in-Err-Memory g c =
    let dump = c.args.dump.now in
    let text = compiled_texts dump.from dump.to dump.zones.items in
    let from_fits : FitsSigned w64 dump.from = search rules in
    let to_fits : FitsSigned w64 dump.to = search rules in
    let stopped = simp to_z-of_z at (rw (c.in-Err-Memory.field-0-is, c.as_slice.ensures.value) at c.in-Err-Memory.ensures.stopped) in
    let those = λ (status : Status) (line : List ℕ) (exactly : Exactly statuses.Memory (codes "memory\n") status line). inr (refl, stopped.0, (exactly.0, ap (λ (bytes : List ℕ). take stopped.0 text ++ bytes) exactly.1)) in
    prints_behind (Exactly statuses.Memory (codes "memory\n")) (TellsOutput (outputs.Zones dump)) c.print.result (g.S.Sink.state c.args.sink.now) (g.S.Sink.state c.write_zones.new.sink) (g.S.Sink.state c.print.new.sink) (take stopped.0 text) stopped.1 those c.print.ensures
