use Rattle.std.proofs.Common.{◌≡◌, None, sym, ◌∙◌}
use Rattle.std.proofs.lemmas.Result.{on_ok_weaker}
use Rattle.tz_lines.specs.NameIndex.{name_position}
use Rattle.tz_lines.proofs.NameIndex.{found_there}
use Rattle.tz_lines.proofs.SetNames.{known_kept, new_pushed, added_place}
use Rattle.tz_lines.proofs.set_names.SetNames.search.Goals as goal

pub returns-in-Some-clause-place : goal.returns-in-Some-clause-place
returns-in-Some-clause-place c =
    let names = c.args.self.now in
    found_there names.labels.items c.in-Some.place c.args.name.bytes.now (sym (names.placed c.args.name.bytes.now) ∙ sym (rw c.as_bytes.ensures at c.in-Some.ensures))

pub returns-in-Some-clause-labels : goal.returns-in-Some-clause-labels
returns-in-Some-clause-labels c =
    let names = c.args.self.now in
    known_kept names.labels.items c.in-Some.place c.args.name.bytes.now (found_there names.labels.items c.in-Some.place c.args.name.bytes.now (sym (names.placed c.args.name.bytes.now) ∙ sym (rw c.as_bytes.ensures at c.in-Some.ensures)))

pub add-requires-clause-missing : goal.add-requires-clause-missing
add-requires-clause-missing c =
    let names = c.args.self.now in
    rw c.label.ensures (sym (names.placed c.args.name.bytes.now) ∙ sym (rw c.as_bytes.ensures at c.in-None.ensures))

pub returns-in-None-clause-place : goal.returns-in-None-clause-place
returns-in-None-clause-place c =
    rw (← c.label.ensures) (added_place c.add.result c.args.self.now.labels.items c.add.new.self.labels.items c.label.result c.add.ensures.place c.add.ensures.ok)

pub returns-in-None-clause-labels : goal.returns-in-None-clause-labels
returns-in-None-clause-labels c =
    let names = c.args.self.now in
    let missing : name_position c.label.result names.labels.items ≡ None = rw c.label.ensures (sym (names.placed c.args.name.bytes.now) ∙ sym (rw c.as_bytes.ensures at c.in-None.ensures)) in
    rw (← c.label.ensures) (on_ok_weaker c.add.result (λ pushed. pushed ∙ new_pushed names.labels.items c.label.result missing) c.add.ensures.ok)
