-- What ranges or a leap table settle: each lookup finds one thing there.
use Rattle.std.proofs.Common.{◌≡◌, ℕ, ◌⊎◌, List, Option, Some, None, refl, sym, ap, ◌∙◌, inl, inr, subst, ℤ}
use Rattle.std.proofs.lemmas.Option.{same_Some}
use Rattle.tz_types.specs.declared.range.SysInfo.{SysInfo}
use Rattle.tz_types.specs.declared.range.LocalInfo.{LocalInfo}
use Rattle.tz_types.specs.declared.range.LocalInfo.TheVariants.{Unique, Nonexistent, Ambiguous}
use Rattle.tz_types.specs.declared.range.Choose.{Choose}
use Rattle.tz_types.specs.declared.leaps.Leaps.{Leaps}
use Rattle.tz_types.specs.declared.leap_info.LeapInfo.{LeapInfo}
use Rattle.tz_specs.specs.Expansion.{IsInstant, range_at}
use Rattle.tz_specs.specs.Local.{local_info, chosen_instant}
use Rattle.tz_specs.specs.LeapSecond.{IsLeapInfo, is_past}
use Rattle.tz_specs.proofs.LeapLemmas.{system_time_once}
use Rattle.tz_specs.proofs.LeapTextLemmas.{one_leap_table}
use Rattle.tz_local.specs.Choice.{IsNotUnique}
use Rattle.tz_local.specs.LocalTime.{IsLocalTime}
use Rattle.tz_lookup.specs.declared.conversion.Conversion.{Conversion}
use Rattle.tz_lookup.specs.declared.conversion.Conversion.TheVariants as conversions
use Rattle.tz_lookup.specs.Finding.{IsInfoFound, IsLocalFound, IsSysFound, IsCountOf, ConvertsTo, IsCountFound, IsFoundByLeaps}
use Rattle.tz_lookup.specs.declared.found.Found.{Found}
use Rattle.tz_lookup.specs.declared.found.Found.TheVariants as found

-- ---- in range, or out of it ----

-- a lookup in range finds what fits, and one out of range nothing
abbrev FindsOrNot : Type 0 → (Found → Type 0) → Found → Type 0
FindsOrNot inside fits f = (inside × fits f) ⊎ ((f ≡ found.Range) × ¬ inside)

-- where one thing fits, such a lookup finds one thing
found_once : (inside : Type 0) (fits : Found → Type 0) (f g : Found) → (fits f → fits g → f ≡ g)
    → FindsOrNot inside fits f → FindsOrNot inside fits g → f ≡ g
found_once inside fits f g once (inl h) (inl k) = once h.1 k.1
found_once inside fits f g once (inl h) (inr k) = absurd (k.1 h.0)
found_once inside fits f g once (inr h) (inl k) = absurd (h.1 k.0)
found_once inside fits f g once (inr h) (inr k) = h.0 ∙ sym k.0

-- what is found is made of what there is
abbrev IsMadeOf : {X : Type 0} → (X → Found) → Option X → Found → Type 0
IsMadeOf {X = X} make there f = (x : X) × (there ≡ Some x) × (f ≡ make x)

made_once : {X : Type 0} (make : X → Found) (there : Option X) (f g : Found) → IsMadeOf make there f → IsMadeOf make there g → f ≡ g
made_once make there f g h k = h.2 ∙ ap make (same_Some h.0 k.0 (sym h.1 ∙ k.1)) ∙ sym k.2

-- ---- zones ----

info_or_not : (t : ℤ) (ranges : List SysInfo) (f : Found) → IsInfoFound ranges t f → FindsOrNot (IsInstant t) (IsMadeOf found.Info (range_at ranges t)) f
info_or_not t ranges (found.Info range) h = inl (h.0, (range, h.1, refl))
info_or_not t ranges (found.Local info) h = absurd h
info_or_not t ranges (found.Sys time) h = absurd h
info_or_not t ranges (found.Undecided info) h = absurd h
info_or_not t ranges (found.Scan scan) h = absurd h
info_or_not t ranges (found.Clock count) h = absurd h
info_or_not t ranges (found.Leap info) h = absurd h
info_or_not t ranges found.NoZone h = absurd h
info_or_not t ranges found.Range h = inr (refl, h)

-- a lookup of an instant finds one thing in a zone
pub info_once : (t : ℤ) (ranges : List SysInfo) (f g : Found) → IsInfoFound ranges t f → IsInfoFound ranges t g → f ≡ g
info_once t ranges f g h k =
    found_once (IsInstant t) (IsMadeOf found.Info (range_at ranges t)) f g
    (made_once found.Info (range_at ranges t) f g) (info_or_not t ranges f h) (info_or_not t ranges g k)

local_or_not : (l : ℤ) (ranges : List SysInfo) (f : Found) → IsLocalFound ranges l f → FindsOrNot (IsLocalTime l) (IsMadeOf found.Local (local_info ranges l)) f
local_or_not l ranges (found.Info range) h = absurd h
local_or_not l ranges (found.Local info) h = inl (h.0, (info, h.1, refl))
local_or_not l ranges (found.Sys time) h = absurd h
local_or_not l ranges (found.Undecided info) h = absurd h
local_or_not l ranges (found.Scan scan) h = absurd h
local_or_not l ranges (found.Clock count) h = absurd h
local_or_not l ranges (found.Leap info) h = absurd h
local_or_not l ranges found.NoZone h = absurd h
local_or_not l ranges found.Range h = inr (refl, h)

-- a lookup of a local time does
pub local_once : (l : ℤ) (ranges : List SysInfo) (f g : Found) → IsLocalFound ranges l f → IsLocalFound ranges l g → f ≡ g
local_once l ranges f g h k =
    found_once (IsLocalTime l) (IsMadeOf found.Local (local_info ranges l)) f g
    (made_once found.Local (local_info ranges l) f g) (local_or_not l ranges f h) (local_or_not l ranges g k)

-- the instant, where there is one, or else all there is to know
abbrev instant_or : LocalInfo → Option ℤ → Found
instant_or info None = found.Undecided info
instant_or info (Some t) = found.Sys t

abbrev sys_found : ℤ → Option Choose → LocalInfo → Found
sys_found l choose info = instant_or info (chosen_instant info l choose)

-- without a choice a local time that isn't unique has no instant
no_instant : (info : LocalInfo) (l : ℤ) → IsNotUnique info → chosen_instant info l None ≡ None
unfolding chosen_instant
no_instant (Unique range) l h = absurd h
no_instant (Nonexistent first second) l h = refl
no_instant (Ambiguous first second) l h = refl

sys_or_not : (l : ℤ) (choose : Option Choose) (ranges : List SysInfo) (f : Found) → IsSysFound ranges l choose f
    → FindsOrNot (IsLocalTime l) (IsMadeOf (sys_found l choose) (local_info ranges l)) f
sys_or_not l choose ranges (found.Info range) h = absurd h
sys_or_not l choose ranges (found.Local info) h = absurd h
sys_or_not l choose ranges (found.Sys time) h = inl (h.0, (h.1, h.2, sym (ap (instant_or h.1) h.3)))
sys_or_not l choose ranges (found.Undecided info) h = inl (h.1, (info, h.2, sym (ap (instant_or info) (ap (chosen_instant info l) h.0 ∙ no_instant info l h.3))))
sys_or_not l choose ranges (found.Scan scan) h = absurd h
sys_or_not l choose ranges (found.Clock count) h = absurd h
sys_or_not l choose ranges (found.Leap info) h = absurd h
sys_or_not l choose ranges found.NoZone h = absurd h
sys_or_not l choose ranges found.Range h = inr (refl, h)

-- a lookup of the instant of a local time does
pub sys_once : (l : ℤ) (choose : Option Choose) (ranges : List SysInfo) (f g : Found) → IsSysFound ranges l choose f → IsSysFound ranges l choose g → f ≡ g
sys_once l choose ranges f g h k =
    found_once (IsLocalTime l) (IsMadeOf (sys_found l choose) (local_info ranges l)) f g
    (made_once (sys_found l choose) (local_info ranges l) f g) (sys_or_not l choose ranges f h) (sys_or_not l choose ranges g k)

-- ---- clocks ----

-- a count is converted to one count
converts_once : (conversion : Conversion) (leaps : Leaps) (x y z : ℤ) → ConvertsTo conversion leaps x y → ConvertsTo conversion leaps x z → y ≡ z
converts_once conversions.SysToUtc leaps x y z h k = h ∙ sym k
converts_once conversions.UtcToSys leaps x y z h k = system_time_once leaps.entries x y z leaps.ascending h k
converts_once conversions.UtcInfo leaps x y z h k = absurd h
converts_once conversions.UtcToTai leaps x y z h k = h ∙ sym k
converts_once conversions.TaiToUtc leaps x y z h k = h ∙ sym k
converts_once conversions.UtcToGps leaps x y z h k = h ∙ sym k
converts_once conversions.GpsToUtc leaps x y z h k = h ∙ sym k

-- there is one leap info of a UTC count
leap_info_once : (leaps : Leaps) (x : ℤ) (a b : LeapInfo) → IsLeapInfo leaps x a → IsLeapInfo leaps x b → a ≡ b
leap_info_once leaps x a b h k =
    let is_leap : a.is_leap ≡ b.is_leap = h.is_leap ∙ sym k.is_leap in
    let elapsed : a.elapsed ≡ b.elapsed = h.elapsed ∙ sym k.elapsed in
    let time = system_time_once leaps.entries x h.time k.time leaps.ascending h.is_time k.is_time in
    let expired : a.expired ≡ b.expired = h.expired ∙ ap (is_past leaps.expires) time ∙ sym k.expired in
    λ i. record { is_leap = is_leap i; elapsed = elapsed i; expired = expired i }

-- what fits a count in range: the count of the other clock, or what there is to know of it
abbrev FitsClock : Conversion → Leaps → ℤ → Found → Type 0
FitsClock conversion leaps x f =
    ((y : ℤ) × (f ≡ found.Clock y) × ConvertsTo conversion leaps x y)
    ⊎ ((info : LeapInfo) × (f ≡ found.Leap info) × (conversion ≡ conversions.UtcInfo) × IsLeapInfo leaps x info)

no_count : (conversion : Conversion) (leaps : Leaps) (x y : ℤ) → conversion ≡ conversions.UtcInfo → ConvertsTo conversion leaps x y → ⊥
no_count conversion leaps x y e h = subst (λ (it : Conversion). ConvertsTo it leaps x y) e h

fits_once : (conversion : Conversion) (leaps : Leaps) (x : ℤ) (f g : Found) → FitsClock conversion leaps x f → FitsClock conversion leaps x g → f ≡ g
fits_once conversion leaps x f g (inl h) (inl k) =
    h.1 ∙ ap found.Clock (converts_once conversion leaps x h.0 k.0 h.2 k.2) ∙ sym k.1
fits_once conversion leaps x f g (inl h) (inr k) = absurd (no_count conversion leaps x h.0 k.2 h.2)
fits_once conversion leaps x f g (inr h) (inl k) = absurd (no_count conversion leaps x k.0 h.2 k.2)
fits_once conversion leaps x f g (inr h) (inr k) =
    h.1 ∙ ap found.Leap (leap_info_once leaps x h.0 k.0 h.3 k.3) ∙ sym k.1

count_or_not : (conversion : Conversion) (leaps : Leaps) (x : ℤ) (f : Found) → IsCountFound conversion leaps x f
    → FindsOrNot (IsCountOf conversion leaps x) (FitsClock conversion leaps x) f
count_or_not conversion leaps x (found.Info range) h = absurd h
count_or_not conversion leaps x (found.Local info) h = absurd h
count_or_not conversion leaps x (found.Sys time) h = absurd h
count_or_not conversion leaps x (found.Undecided info) h = absurd h
count_or_not conversion leaps x (found.Scan scan) h = absurd h
count_or_not conversion leaps x (found.Clock count) h = inl (h.0, inl (count, refl, h.1))
count_or_not conversion leaps x (found.Leap info) h = inl (subst (λ (it : Conversion). IsCountOf it leaps x) (sym h.0) h.1, inr (info, refl, h.0, h.2))
count_or_not conversion leaps x found.NoZone h = absurd h
count_or_not conversion leaps x found.Range h = inr (refl, h)

-- a conversion finds one thing over a leap table
pub count_once : (conversion : Conversion) (leaps : Leaps) (x : ℤ) (f g : Found) → IsCountFound conversion leaps x f → IsCountFound conversion leaps x g → f ≡ g
count_once conversion leaps x f g h k =
    found_once (IsCountOf conversion leaps x) (FitsClock conversion leaps x) f g (fits_once conversion leaps x f g) (count_or_not conversion leaps x f h) (count_or_not conversion leaps x g k)

-- and over a leap text
pub by_leaps_once : (text : List ℕ) (conversion : Conversion) (x : ℤ) (f g : Found) → IsFoundByLeaps text conversion x f → IsFoundByLeaps text conversion x g → f ≡ g
by_leaps_once text conversion x f g h k =
    let tables = one_leap_table text h.0 k.0 h.1 k.1 in
    count_once conversion k.0 x f g (subst (λ (leaps : Leaps). IsCountFound conversion leaps x f) tables h.2) k.2
