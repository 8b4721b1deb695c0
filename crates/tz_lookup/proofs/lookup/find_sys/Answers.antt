use Rattle.std.proofs.Common.{◌≡◌, rules, Err, FitsSigned}
use Rattle.std.specs.Int.{w64}
use Rattle.std.proofs.lemmas.Int.{to_z-of_z}
use Rattle.tz_local.specs.declared.instant.ToSysError.TheVariants.{Undecided}
use Rattle.tz_lookup.proofs.lookup.find_sys.Goals as goal

pub returns-in-Err-Undecided : goal.returns-in-Err-Undecided
returns-in-Err-Undecided c =
    let fits : FitsSigned w64 c.args.l = c.ranges.l in
    let info = c.in-Err-Undecided.info in
    let is : c.to_sys.result ≡ Err (Undecided info) = search rules in
    let facts = (c.to_sys.ensures.undecided info).0 is in
    let needs = simp to_z-of_z at facts.1 in
    (facts.0, needs.0, needs.1, needs.2)
