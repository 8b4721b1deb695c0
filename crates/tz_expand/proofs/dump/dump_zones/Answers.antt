use Rattle.std.proofs.Common.{◌≡◌, List, [], ◌∷◌, map, Vec, Global, Result, Ok, ap, ◌∙◌, FitsSigned}
use Rattle.std.specs.Int.{w64}
use Rattle.std.specs.List.{AllZip}
use Rattle.std.specs.Result.{IfOk}
use Rattle.std.proofs.lemmas.Int.{to_z-of_z}
use Rattle.std.proofs.lemmas.Result.{MatchResult-weaker}
use Rattle.rayon.proofs.ListFacts.{AllZip-weaken}
use Rattle.rayon.proofs.ToStd.{slice-AllZip}
use Rattle.tz_types.specs.declared.range.SysInfo.{SysInfo}
use Rattle.tz_types.specs.declared.memory.NoMemory.{NoMemory}
use Rattle.tz_expand.specs.declared.compiled_zone.CompiledZone.{CompiledZone}
use Rattle.tz_expand.specs.Stretch.{ranges_between}
use Rattle.tz_expand.proofs.dump.dump_zones.Goals as goal

-- where each answer is an `Ok`, its fact is one on what it holds
ok_each : {X Y E : Type 0} (R : X → Result Y E → Type 0) (xs : List X) (ys : List Y) → AllZip R xs (map Ok ys) → AllZip (λ x y. R x (Ok y)) xs ys
ok_each R [] [] h = h
ok_each R [] (y ∷ ys) h = h
ok_each R (x ∷ xs) [] h = h
ok_each R (x ∷ xs) (y ∷ ys) h = (h.0, ok_each R xs ys h.1)

pub returns : goal.returns
returns g c =
    let from = c.args.from in
    let to = c.args.to in
    let from_fits : FitsSigned w64 from = c.ranges.from in
    let to_fits : FitsSigned w64 to = c.ranges.to in
    let found = c.in_ok-collect.ensures in
    let chain = rw (c.map.ensures.base, c.map.ensures.f) at found.1 in
    let slice = chain.1 ∙ ap (λ it. it.slice.now) c.with_min_len.ensures.base ∙ c.par_iter.ensures in
    let expands = λ (zone : CompiledZone) (r : Result (Vec SysInfo Global) NoMemory). IfOk r (λ ranges. ranges.items ≡ ranges_between zone from to) in
    MatchResult-weaker c.in_ok-collect.field-0 found.2
    (λ dump ok.
    let told : AllZip expands c.args.zones.now found.0 = slice-AllZip chain.0 c.args.zones.now slice expands found.0 (AllZip-weaken _ (λ z r. expands z.now r) (λ z r p. simp to_z-of_z at p) chain.0 found.0 chain.2) in
    let oks : AllZip expands c.args.zones.now (map Ok ok.0) = rw ok.1 at told in
    rw ok.2 (ok_each expands c.args.zones.now ok.0 oks))
    (λ e has. tt)
