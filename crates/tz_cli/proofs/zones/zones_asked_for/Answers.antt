use Rattle.std.proofs.Common.{◌≡◌, false, nat_eq, codes, refl, sym, arith, Some}
use Rattle.std.specs.Cmp.Lexicographic.{pointwise}
use Rattle.tz_cli.specs.Dump.{asked_for}
use Rattle.tz_cli.proofs.Texts.{place_within}
use Rattle.tz_cli.proofs.Asked.{one_asked}
use Rattle.tz_cli.proofs.zones.zones_asked_for.Goals as goal

pub returns-in-Some-clause-are : goal.returns-in-Some-clause-are
returns-in-Some-clause-are c =
    let db = c.args.db.now in
    let name = c.args.word.now in
    let named = sym c.in-Some.ensures in
    let other : pointwise nat_eq name (codes "-") ≡ false = sym (rw c.as_slice.ensures at c.if-eq.ensures) in
    let asked : asked_for name ≡ Some name = rw other refl in
    rw asked (one_asked db name c.in-Some.first named (place_within name db c.in-Some.first c.requires named))

pub returns-in-Some-clause-there : goal.returns-in-Some-clause-there
returns-in-Some-clause-there c =
    let low = place_within c.args.word.now c.args.db.now c.in-Some.first c.requires (sym c.in-Some.ensures) in
    omega (arith, low)
