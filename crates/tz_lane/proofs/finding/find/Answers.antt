use Rattle.std.proofs.Common.{rules, sym, subst, FitsSigned}
use Rattle.std.specs.Int.{w64}
use Rattle.std.proofs.lemmas.Int.{to_z-of_z}
use Rattle.tz_script.specs.declared.operation.Op.{Op}
use Rattle.tz_lane.specs.LaneLookup.{FindsFor}
use Rattle.tz_lane.proofs.finding.find.Goals as goal

pub returns-in-Info : goal.returns-in-Info
returns-in-Info c =
    let fits : FitsSigned w64 c.in-Info.t = search rules in
    subst (λ (op : Op). FindsFor op c.args.version.now.sources c.args.version.now.src c.find_info.result) (sym c.in-Info.is)
    (simp (to_z-of_z, c.as_bytes.ensures.bytes) at c.find_info.ensures)

pub returns-in-Local : goal.returns-in-Local
returns-in-Local c =
    let fits : FitsSigned w64 c.in-Local.l = search rules in
    subst (λ (op : Op). FindsFor op c.args.version.now.sources c.args.version.now.src c.find_local.result) (sym c.in-Local.is)
    (simp (to_z-of_z, c.as_bytes-in-Local.ensures.bytes) at c.find_local.ensures)

pub returns-in-Sys : goal.returns-in-Sys
returns-in-Sys c =
    let fits : FitsSigned w64 c.in-Sys.l = search rules in
    subst (λ (op : Op). FindsFor op c.args.version.now.sources c.args.version.now.src c.find_sys.result) (sym c.in-Sys.is)
    (simp (to_z-of_z, c.as_bytes-in-Sys.ensures.bytes) at c.find_sys.ensures)

pub returns-in-Scan : goal.returns-in-Scan
returns-in-Scan c =
    let fits : FitsSigned w64 c.in-Scan.from = search rules in
    subst (λ (op : Op). FindsFor op c.args.version.now.sources c.args.version.now.src c.find_scan.result) (sym c.in-Scan.is)
    (simp (to_z-of_z, c.as_bytes-in-Scan.ensures.bytes) at c.find_scan.ensures)

pub returns-in-Clock : goal.returns-in-Clock
returns-in-Clock c =
    let fits : FitsSigned w64 c.in-Clock.x = search rules in
    subst (λ (op : Op). FindsFor op c.args.version.now.sources c.args.version.now.src c.find_by_clock.result) (sym c.in-Clock.is)
    (simp to_z-of_z at c.find_by_clock.ensures)
