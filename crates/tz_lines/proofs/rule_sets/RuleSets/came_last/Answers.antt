use Rattle.std.proofs.Common.{◌≡◌, ◌<◌, length, get_or, sym, ◌∙◌}
use Rattle.std.proofs.lemmas.Slice.Eq.{bytes_eq-Decides}
use Rattle.tz_lines.proofs.RuleSets.{named_last}
use Rattle.tz_lines.proofs.rule_sets.RuleSets.came_last.Goals as goal

pub returns-in-Some : goal.returns-in-Some
returns-in-Some c = λ same.
    let sets = c.args.self.now.sets.items in
    let set = c.in-Some.set.now in
    let found = c.in-Some.ensures.lookup in
    let within : c.args.self.now.last < length sets = rw c.deref.ensures.value at found.3.0 in
    let is : set ≡ get_or sets c.args.self.now.last set = rw c.deref.ensures.value at found.1 in
    let equal : set.name ≡ c.args.name.now = (bytes_eq-Decides set.name c.args.name.now).0 (sym (rw c.as_bytes.ensures.bytes at c.eq.ensures) ∙ same) in
    named_last sets c.args.self.now.last set c.args.name.now within is equal
