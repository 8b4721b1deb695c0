use Rattle.std.proofs.Common.{◌≡◌, [], ◌++◌, ℕ, List, FitsSigned, refl, sym, subst, ◌∙◌, rules}
use Rattle.std.specs.Int.{w64}
use Rattle.std.proofs.lemmas.Int.{to_z-of_z}
use Rattle.std.proofs.lemmas.List.{append-nil}
use Rattle.std.proofs.lemmas.Result.{err_from_is_err_and}
use Rattle.tz_cli.specs.Dumping.{compiled_texts, IsStopped}
use Rattle.tz_cli.specs.declared.dump.Stop.TheVariants as stops
use Rattle.tz_cli.proofs.Dumps.{next_group, group_before}
use Rattle.tz_cli.proofs.Waiting.{none_left, none_put, put_then, put_stopped, put_whole_stopped}
use Rattle.tz_cli.proofs.dump.write_zones.Goals as goal

pub loop-rest-preserved : goal.loop-rest-preserved
loop-rest-preserved g c =
    let from_fits : FitsSigned w64 c.args.from = c.ranges.from in
    let to_fits : FitsSigned w64 c.args.to = c.ranges.to in
    let kept = c.loop-rest.invariant in
    let group = c.split_at.result.0.now in
    let later = c.split_at.result.1.now in
    let text = compiled_texts c.args.from c.args.to group in
    let all = simp to_z-of_z at kept.all in
    record {
      done = kept.done ++ text;
      put = put_then (g.S.Sink.state c.args.sink.now) (g.S.Sink.state c.loop-rest.sink) (g.S.Sink.state c.put_group.new.sink) [] c.loop-rest.waiting.items c.put_group.new.waiting.items kept.done text kept.put (simp to_z-of_z at c.in_ok-put_group.ensures.ok);
      all = simp to_z-of_z (next_group c.args.from c.args.to c.min.result c.args.zones.now c.loop-rest.rest.now group later kept.done c.split_at.ensures.front c.split_at.ensures.back all);
    }

pub returns-in_err-put_group-clause-stopped : goal.returns-in_err-put_group-clause-stopped
returns-in_err-put_group-clause-stopped g c =
    let from_fits : FitsSigned w64 c.args.from = c.ranges.from in
    let to_fits : FitsSigned w64 c.args.to = c.ranges.to in
    let kept = c.loop-rest.invariant in
    let group = c.split_at.result.0.now in
    let later = c.split_at.result.1.now in
    let before = g.S.Sink.state c.args.sink.now in
    let after = g.S.Sink.state c.put_group.new.sink in
    let left = compiled_texts c.args.from c.args.to c.loop-rest.rest.now in
    let all = simp to_z-of_z at kept.all in
    let whole = group_before c.args.from c.args.to c.min.result c.loop-rest.rest.now group later c.split_at.ensures.front c.split_at.ensures.back in
    let stopped = (simp to_z-of_z at c.in_err-put_group.ensures.stopped) (compiled_texts c.args.from c.args.to later) in
    let here = rw whole at stopped in
    let stop = err_from_is_err_and c.from_residual-in_err-put_group.result c.from_residual-in_err-put_group.ensures.1 in
    rw (stop.1, stop.2) (subst (λ (text : List ℕ). IsStopped c.in_err-put_group.field-0.0 before after text) all (put_stopped c.in_err-put_group.field-0.0 before (g.S.Sink.state c.loop-rest.sink) after [] c.loop-rest.waiting.items kept.done left kept.put here))

pub returns-in_err-write_text-clause-stopped : goal.returns-in_err-write_text-clause-stopped
returns-in_err-write_text-clause-stopped g c =
    let from_fits : FitsSigned w64 c.args.from = c.ranges.from in
    let to_fits : FitsSigned w64 c.args.to = c.ranges.to in
    let kept = c.loop-rest.invariant in
    let before = g.S.Sink.state c.args.sink.now in
    let after = g.S.Sink.state c.write_text.new.sink in
    let none : c.loop-rest.rest.now ≡ [] = none_left c.loop-rest.rest.now (search rules) in
    let all = rw none at (simp to_z-of_z at kept.all) in
    let at = rw c.as_slice.ensures.value at c.in_err-write_text.ensures.err in
    let stopped = put_whole_stopped c.in_err-write_text.field-0.0 before (g.S.Sink.state c.loop-rest.sink) after c.loop-rest.waiting.items kept.done kept.put at in
    let stop = err_from_is_err_and c.from_residual-in_err-write_text.result c.from_residual-in_err-write_text.ensures.1 in
    rw (stop.1, stop.2) (subst (λ (text : List ℕ). IsStopped stops.Write before after text) (sym (append-nil kept.done) ∙ all) stopped)

pub loop-rest-init : goal.loop-rest-init
loop-rest-init g c = record { done = []; put = rw c.in_ok-waiting.ensures (none_put (g.S.Sink.state c.args.sink.now) []); all = refl }
