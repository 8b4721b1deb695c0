-- The seconds of a day, range by range.
use Rattle.std.proofs.Common.{rules, FitsSigned, neg_ℤ, ◌≡◌, inl, inr, refl, sym, ap, ◌∙◌, arith, List, [], ◌∷◌, ◌++◌, append_assoc, Some, ℤ, pos, ◌+ℤ◌, ◌-ℤ◌, ◌≤ℤ◌}
use Rattle.std.specs.Int.{w64, int_max, int_min}
use Rattle.std.proofs.lemmas.Int.{ints, clamps}
use Rattle.jiff_core.specs.Calendar.{IsWithin}
use Rattle.jiff_core.proofs.SignedLemmas.{signed_arith}
use Rattle.tz_types.specs.declared.limit.TheConstants.{LONGEST_OFFSET}
use Rattle.tz_types.specs.declared.range.SysInfo.{SysInfo}
use Rattle.tz_specs.specs.Expansion.{first_instant, end_of_time, range_at}
use Rattle.tz_specs.specs.Cover.{Covers}
use Rattle.tz_specs.proofs.ListLemmas.{In, In-append_left, In-append_right}
use Rattle.tz_specs.proofs.CoverLemmas.{Covers-append, covers_ordered}
use Rattle.tz_expand.specs.declared.compiled_zone.CompiledZone.{CompiledZone}
use Rattle.tz_expand.specs.Zone.{expansion_of}
use Rattle.tz_local.proofs.InfoLemmas.{zone_covers, found_among, next_head, range_at-past, begun_from, ended_by}
use Rattle.tz_expand.proofs.ZoneOffsets.{offset_near}
use Rattle.tz_moves.specs.Day.{midnight, seconds_in, day_seconds}

-- ---- what two stretches share
abbrev pub shared : ℤ → ℤ → ℤ → ℤ → ℤ
shared begin end low high = int_max (int_min end high -ℤ int_max begin low) (pos 0)

-- an instant, moved into the stretch and two days round it
reached : ℤ → ℤ → ℤ → ℤ
reached low high t = int_max (low -ℤ pos LONGEST_OFFSET) (int_min t (high +ℤ pos LONGEST_OFFSET))

pub shared_early : (begin end low high : ℤ) → end ≤ℤ low → shared begin end low high ≡ pos 0
shared_early begin end low high early = omega (arith, ints, clamps)

pub shared_late : (begin end low high : ℤ) → high ≤ℤ begin → shared begin end low high ≡ pos 0
shared_late begin end low high late = omega (arith, ints, clamps)

pub shared_low : (begin end low high : ℤ) → pos 0 ≤ℤ shared begin end low high
shared_low begin end low high = omega (arith, ints, clamps)

pub shared_high : (begin end low high : ℤ) → low ≤ℤ high → shared begin end low high ≤ℤ (high -ℤ low)
shared_high begin end low high ordered = omega (arith, ints, clamps)

shared_reached : (begin end offset low high : ℤ) → low ≤ℤ high → begin ≤ℤ end → IsWithin LONGEST_OFFSET offset → shared (begin +ℤ offset) (end +ℤ offset) low high ≤ℤ (reached low high end -ℤ reached low high begin)
unfolding reached
shared_reached begin end offset low high ordered takes near = omega (arith, ints, clamps, near)

reached_all : (low high a b : ℤ) → low ≤ℤ high → (reached low high b -ℤ reached low high a) ≤ℤ ((high -ℤ low) +ℤ pos 345_600)
unfolding reached
reached_all low high a b ordered = omega (arith, ints, clamps)

-- amounts of this size don't overflow
pub fits_small : (z : ℤ) → neg_ℤ (pos 1_000_000_000_000) ≤ℤ z → z ≤ℤ pos 1_000_000_000_000 → FitsSigned w64 z
fits_small z low high = search rules

pub day_long : (day : ℤ) → midnight (day +ℤ pos 1) ≡ (midnight day +ℤ pos 86_400)
day_long day = omega (arith, ints, signed_arith)

-- ---- lists of ranges
pub day_seconds-append : (day : ℤ) (xs ys : List SysInfo) → day_seconds day (xs ++ ys) ≡ (day_seconds day xs +ℤ day_seconds day ys)
day_seconds-append day [] ys = omega (arith, ints)
day_seconds-append day (x ∷ xs) ys =
    let rest = day_seconds-append day xs ys in
    ap (λ (s : ℤ). seconds_in day x +ℤ s) rest ∙ regrouped (seconds_in day x) (day_seconds day xs) (day_seconds day ys)
  where
    regrouped : (a b c : ℤ) → (a +ℤ (b +ℤ c)) ≡ ((a +ℤ b) +ℤ c)
    regrouped a b c = omega (arith, ints)

pub none_seen : (day : ℤ) (ranges : List SysInfo) → ((range : SysInfo) → In range ranges → seconds_in day range ≡ pos 0) → day_seconds day ranges ≡ pos 0
none_seen day [] none = refl
none_seen day (range ∷ ranges) none =
    let here : seconds_in day range ≡ pos 0 = none range (inl refl) in
    let rest : day_seconds day ranges ≡ pos 0 = none_seen day ranges (λ other has. none other (inr has)) in
    rw (here, rest) refl

seconds_early : (day : ℤ) (range : SysInfo) → IsWithin LONGEST_OFFSET range.offset → range.end ≤ℤ (midnight day -ℤ pos LONGEST_OFFSET) → seconds_in day range ≡ pos 0
seconds_early day range near early =
    shared_early (range.begin +ℤ range.offset) (range.end +ℤ range.offset) (midnight day) (midnight (day +ℤ pos 1)) (over (midnight day) range.end range.offset near early)
  where
    over : (low end offset : ℤ) → IsWithin LONGEST_OFFSET offset → end ≤ℤ (low -ℤ pos LONGEST_OFFSET) → (end +ℤ offset) ≤ℤ low
    over low end offset near early = omega (arith, ints, near)

seconds_late : (day : ℤ) (range : SysInfo) → IsWithin LONGEST_OFFSET range.offset → (midnight (day +ℤ pos 1) +ℤ pos LONGEST_OFFSET) ≤ℤ range.begin → seconds_in day range ≡ pos 0
seconds_late day range near late =
    shared_late (range.begin +ℤ range.offset) (range.end +ℤ range.offset) (midnight day) (midnight (day +ℤ pos 1)) (under (midnight (day +ℤ pos 1)) range.begin range.offset near late)
  where
    under : (high begin offset : ℤ) → IsWithin LONGEST_OFFSET offset → (high +ℤ pos LONGEST_OFFSET) ≤ℤ begin → high ≤ℤ (begin +ℤ offset)
    under high begin offset near late = omega (arith, ints, near)

few_seconds : (day a b : ℤ) (ranges : List SysInfo) → Covers a b ranges → ((range : SysInfo) → In range ranges → IsWithin LONGEST_OFFSET range.offset) → (pos 0 ≤ℤ day_seconds day ranges) × (day_seconds day ranges ≤ℤ (reached (midnight day) (midnight (day +ℤ pos 1)) b -ℤ reached (midnight day) (midnight (day +ℤ pos 1)) a))
few_seconds day a b [] covers near =
    let same : reached (midnight day) (midnight (day +ℤ pos 1)) a ≡ reached (midnight day) (midnight (day +ℤ pos 1)) b = ap (reached (midnight day) (midnight (day +ℤ pos 1))) covers in
    (omega (arith, ints), omega (arith, ints, same))
few_seconds day a b (range ∷ ranges) covers near =
    let low = midnight day in
    let high = midnight (day +ℤ pos 1) in
    let rest = few_seconds day range.end b ranges covers.2 (λ other has. near other (inr has)) in
    let ordered : low ≤ℤ high = omega (arith, ints, day_long day) in
    let takes : range.begin ≤ℤ range.end = omega (arith, ints, covers.1) in
    let begins : reached low high range.begin ≡ reached low high a = ap (reached low high) covers.0 in
    let none : pos 0 ≤ℤ seconds_in day range = shared_low (range.begin +ℤ range.offset) (range.end +ℤ range.offset) low high in
    let here : seconds_in day range ≤ℤ (reached low high range.end -ℤ reached low high range.begin) = shared_reached range.begin range.end range.offset low high ordered takes (near range (inl refl)) in
    (sum_low (seconds_in day range) (day_seconds day ranges) none rest.0, sum_high (seconds_in day range) (day_seconds day ranges) (reached low high a) (reached low high range.begin) (reached low high range.end) (reached low high b) begins here rest.1)
  where
    sum_low : (x y : ℤ) → pos 0 ≤ℤ x → pos 0 ≤ℤ y → pos 0 ≤ℤ (x +ℤ y)
    sum_low x y first second = omega (arith, ints)

    sum_high : (x y a begin end b : ℤ) → begin ≡ a → x ≤ℤ (end -ℤ begin) → y ≤ℤ (b -ℤ end) → (x +ℤ y) ≤ℤ (b -ℤ a)
    sum_high x y a begin end b begins first second = omega (arith, ints)

-- ---- how far the walk has come
pub record IsSummed (zone : CompiledZone) (day end seconds : ℤ) : Type 0 where
  pub seen : List SysInfo
  pub ahead : List SysInfo
  pub split : expansion_of zone ≡ seen ++ ahead
  pub covered : Covers first_instant end seen
  pub covers : Covers end end_of_time ahead
  pub sum : seconds ≡ day_seconds day seen

pub first_summed : (zone : CompiledZone) (day seconds : ℤ) (range : SysInfo) → range_at (expansion_of zone) (midnight day -ℤ pos LONGEST_OFFSET) ≡ Some range → seconds ≡ seconds_in day range → IsSummed zone day range.end seconds
first_summed zone day seconds range found told =
    let t = midnight day -ℤ pos LONGEST_OFFSET in
    let among = found_among first_instant end_of_time t (expansion_of zone) range (zone_covers zone) found in
    let none : day_seconds day among.before ≡ pos 0 = none_seen day among.before
    (λ other has.
    let there : In other (among.before ++ range ∷ among.later) = In-append_left among.before (range ∷ among.later) other has in
    let near = offset_near zone other (rw among.split there) in
    let ended : other.end ≤ℤ range.begin = ended_by first_instant range.begin among.before other among.covered has in
    let begun : range.begin ≤ℤ t = among.begun in
    seconds_early day other near (omega (arith, ints))) in
    record {
      seen = among.before ++ range ∷ [];
      ahead = among.later;
      split = among.split ∙ sym (append_assoc among.before (range ∷ []) among.later);
      covered = Covers-append first_instant range.begin range.end among.before (range ∷ []) among.covered (refl, among.takes, refl);
      covers = among.covers;
      sum = told
          ∙ one_more (seconds_in day range) (day_seconds day among.before) none ∙ sym (day_seconds-append day among.before (range ∷ []));
    }
  where
    one_more : (s before : ℤ) → before ≡ pos 0 → s ≡ (before +ℤ (s +ℤ pos 0))
    one_more s before none = omega (arith, ints)

pub next_summed : (zone : CompiledZone) (day end seconds more : ℤ) (range : SysInfo) → IsSummed zone day end seconds → range_at (expansion_of zone) end ≡ Some range → more ≡ seconds_in day range → IsSummed zone day range.end (seconds +ℤ more)
next_summed zone day end seconds more range walk found told =
    let whole : range_at (walk.seen ++ walk.ahead) end ≡ Some range = rw walk.split at found in
    let ahead = sym (range_at-past first_instant end end walk.seen walk.ahead walk.covered (omega (arith, ints))) ∙ whole in
    let head = next_head end_of_time end walk.ahead range walk.covers ahead in
    let begins : end ≡ range.begin = sym head.2 in
    let covered : Covers first_instant range.begin walk.seen = rw begins at walk.covered in
    record {
      seen = walk.seen ++ range ∷ [];
      ahead = head.0;
      split = walk.split ∙ ap (λ (rs : List SysInfo). walk.seen ++ rs) head.1 ∙ sym (append_assoc walk.seen (range ∷ []) head.0);
      covered = Covers-append first_instant range.begin range.end walk.seen (range ∷ []) covered (refl, head.3, refl);
      covers = head.4;
      sum = one_more seconds (day_seconds day walk.seen) more (seconds_in day range) walk.sum told ∙ sym (day_seconds-append day walk.seen (range ∷ []));
    }
  where
    one_more : (seconds before more s : ℤ) → seconds ≡ before → more ≡ s → (seconds +ℤ more) ≡ (before +ℤ (s +ℤ pos 0))
    one_more seconds before more s is told = omega (arith, ints)

pub all_summed : (zone : CompiledZone) (day end seconds : ℤ) → IsSummed zone day end seconds → (midnight (day +ℤ pos 1) +ℤ pos LONGEST_OFFSET) ≤ℤ end → seconds ≡ day_seconds day (expansion_of zone)
all_summed zone day end seconds walk past =
    let none : day_seconds day walk.ahead ≡ pos 0 = none_seen day walk.ahead
    (λ other has.
    let there : In other (walk.seen ++ walk.ahead) = In-append_right walk.seen walk.ahead other has in
    let near = offset_near zone other (rw walk.split there) in
    let begun : end ≤ℤ other.begin = begun_from end end_of_time walk.ahead other walk.covers has in
    seconds_late day other near (omega (arith, ints))) in
    walk.sum
    ∙ nothing_more (day_seconds day walk.seen) (day_seconds day walk.ahead) none
    ∙ sym (day_seconds-append day walk.seen walk.ahead)
    ∙ sym (ap (day_seconds day) walk.split)
  where
    nothing_more : (s more : ℤ) → more ≡ pos 0 → s ≡ (s +ℤ more)
    nothing_more s more none = omega (arith, ints)

pub few_summed : (zone : CompiledZone) (day end seconds : ℤ) → IsSummed zone day end seconds → (pos 0 ≤ℤ seconds) × (seconds ≤ℤ pos 432_000)
few_summed zone day end seconds walk =
    let low = midnight day in
    let high = midnight (day +ℤ pos 1) in
    let few = few_seconds day first_instant end walk.seen walk.covered
    (λ other has.
    let there : In other (walk.seen ++ walk.ahead) = In-append_left walk.seen walk.ahead other has in
    offset_near zone other (rw walk.split there)) in
    let ordered : low ≤ℤ high = omega (arith, ints, day_long day) in
    let all = reached_all low high first_instant end ordered in
    within seconds (day_seconds day walk.seen) (reached low high end -ℤ reached low high first_instant) low high walk.sum few.0 few.1 all (day_long day)
  where
    within : (s sum reach low high : ℤ) → s ≡ sum → pos 0 ≤ℤ sum → sum ≤ℤ reach → reach ≤ℤ ((high -ℤ low) +ℤ pos 345_600) → high ≡ (low +ℤ pos 86_400) → (pos 0 ≤ℤ s) × (s ≤ℤ pos 432_000)
    within s sum reach low high is some few all long = (omega (arith, ints), omega (arith, ints))

pub end_begun : (zone : CompiledZone) (day end seconds : ℤ) → IsSummed zone day end seconds → first_instant ≤ℤ end
end_begun zone day end seconds walk = covers_ordered first_instant end walk.seen walk.covered
