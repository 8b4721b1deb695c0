use Rattle.std.proofs.Common.{◌≡◌, ◌<◌, length, get_or, Some, sym, ap, ◌∙◌}
use Rattle.std.proofs.lemmas.Option.{slice_get-get_or}
use Rattle.std.proofs.lemmas.Slice.Eq.{bytes_eq-Decides}
use Rattle.tz_lines.proofs.set_names.SetNames.came_last.Goals as goal

pub returns-in-Some : goal.returns-in-Some
returns-in-Some c = λ same.
    let labels = c.args.self.now.labels.items in
    let label = c.in-Some.label.now in
    let found = c.in-Some.ensures.lookup in
    let within : c.args.self.now.last < length labels = rw c.deref.ensures.value at found.3.0 in
    let is : label ≡ get_or labels c.args.self.now.last label = rw c.deref.ensures.value at found.1 in
    let equal : label ≡ c.args.name.now = (bytes_eq-Decides label c.args.name.now).0 (sym (rw c.as_bytes.ensures.bytes at c.eq.ensures) ∙ same) in
    slice_get-get_or labels c.args.self.now.last label within ∙ ap Some (sym is ∙ equal)
