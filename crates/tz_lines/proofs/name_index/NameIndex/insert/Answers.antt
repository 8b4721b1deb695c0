use Rattle.std.proofs.Common.{Some}
use Rattle.tz_lines.proofs.NameIndex.{set_at_bytes}
use Rattle.tz_lines.proofs.name_index.NameIndex.insert.Goals as goal

pub returns-clause-ok : goal.returns-clause-ok
returns-clause-ok c =
    let key = c.in_ok-key.key.items in
    let noted = set_at_bytes key c.args.self.now.places c.insert.new.self (Some c.args.place) c.in_ok-insert.ensures.updates in
    λ other. rw c.in_ok-key.ensures.items at (noted other)
