use Rattle.std.proofs.Common.{◌-◌, ◌<◌, length, refl, arith}
use Rattle.std.proofs.lemmas.Result.{on_ok_weaker, on_err_weaker}
use Rattle.tz_lines.proofs.LastZone.{names_set, lines_set, added_line, still_some_line, still_few_lines, room_of_last}
use Rattle.tz_lines.proofs.last_zone.continue_last.Goals as goal

pub invariant_of-zone : goal.invariant_of-zone
invariant_of-zone c =
    let zone = c.in-Some.zone.now in
    let some : 0 < length c.args.zones.now = c.in-Some.ensures.there.0 refl in
    record {
      some_line = still_some_line c.push.result zone.lines c.push.new.self c.args.line c.push.ensures.ok c.push.ensures.err zone.some_line;
      few_lines = still_few_lines c.push.result zone.lines c.push.new.self c.args.line c.push.ensures.ok c.push.ensures.err (room_of_last c.args.zones.now zone some c.in-Some.ensures.element c.requires);
    }

pub returns-in-Some-clause-names : goal.returns-in-Some-clause-names
returns-in-Some-clause-names c =
    let zones = c.args.zones.now in
    let zone = c.in-Some.zone.now in
    let some : 0 < length zones = c.in-Some.ensures.there.0 refl in
    names_set zones (length zones - 1) zone (record { name = zone.name; lines = c.push.new.self; some_line = _; few_lines = _ }) (omega arith) c.in-Some.ensures.element refl

pub returns-in-Some-clause-ok : goal.returns-in-Some-clause-ok
returns-in-Some-clause-ok c =
    let zones = c.args.zones.now in
    let zone = c.in-Some.zone.now in
    let some : 0 < length zones = c.in-Some.ensures.there.0 refl in
    on_ok_weaker c.push.result (λ lines. added_line zones c.args.line (length zones - 1) zone (record { name = zone.name; lines = c.push.new.self; some_line = _; few_lines = _ }) (omega arith) c.in-Some.ensures.element lines) c.push.ensures.ok

pub returns-in-Some-clause-err : goal.returns-in-Some-clause-err
returns-in-Some-clause-err c =
    let zones = c.args.zones.now in
    let zone = c.in-Some.zone.now in
    let some : 0 < length zones = c.in-Some.ensures.there.0 refl in
    on_err_weaker c.push.result (λ lines. lines_set zones (length zones - 1) zone (record { name = zone.name; lines = c.push.new.self; some_line = _; few_lines = _ }) (omega arith) c.in-Some.ensures.element lines) c.push.ensures.err
