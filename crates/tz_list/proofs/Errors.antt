-- Errors of making a version, as others pass them on.
use Rattle.std.proofs.Common.{◌≡◌, ℕ, ◌↔◌, Result, Ok, Err, ap, refl, sym, subst}
use Rattle.std.proofs.lemmas.Grind.{not_there}
use Rattle.tz_types.specs.declared.fault.Fault.{Fault}
use Rattle.tz_specs.proofs.LeapTextLemmas.{read_leaps_are_not_refused}
use Rattle.tz_version.specs.declared.sources.Sources.{Sources}
use Rattle.tz_version.specs.declared.error.MakeError.{MakeError}
use Rattle.tz_version.specs.declared.error.MakeError.TheVariants as make
use Rattle.tz_version.specs.Release.{Release, IsVersionOf}
use Rattle.tz_version.specs.Refusal.{RefusesLeapText, RefusesSource}
use Rattle.tz_version.proofs.Refusals.{exact_text}
use Rattle.tz_list.specs.declared.error.ReloadError.{ReloadError}
use Rattle.tz_list.specs.declared.error.ReloadError.TheVariants as reload
use Rattle.tz_list.specs.Reload.{LacksVersion}

same_inside : {A E : Type 0} (e f : E) → ◌≡◌ {A = Result A E} (Err e) (Err f) → e ≡ f
same_inside e f same = cc

-- an error but one comes exactly where it came before
pub same_error : {A B E : Type 0} (e none f : E) (P : Type 0) → (¬ (◌≡◌ {A = Result A E} (Err e) (Err none)) → (◌≡◌ {A = Result A E} (Err e) (Err f)) ↔ P) → ¬ (◌≡◌ {A = Result B E} (Err e) (Err none)) → (◌≡◌ {A = Result B E} (Err e) (Err f)) ↔ P
same_error e none f P exactly some =
    let before = exactly (λ same. some (ap Err (same_inside e none same))) in
    ((λ same. before.0 (ap Err (same_inside e f same))), (λ holds. ap Err (same_inside e f (before.1 holds))))

-- the leap text of a list's sources is read already
pub leaps_are_accepted : (sources : Sources) (first : Release) (fault : Fault) → ∥ IsVersionOf sources 0 first ∥₁ → RefusesLeapText sources.leaps fault → ⊥
leaps_are_accepted sources first fault some refused =
    not_there some (λ is. read_leaps_are_not_refused sources.leaps first.leaps _ is.leaps refused.1)

-- a source isn't both made a version of and refused
pub not_both : (sources : Sources) (src : ℕ) (version : Release) (fault : Fault) → IsVersionOf sources src version → RefusesSource sources src fault → ⊥
not_both sources src version fault is refused =
    let same = (exact_text sources src (Ok version) fault is (λ never. cc)).1 refused in cc

-- the two errors of making a version, as errors of a reload
pub lacks_version : (sources : Sources) (src : ℕ) (e : MakeError) (r : ReloadError) → ((fault : Fault) → ¬ (e ≡ make.Leaps fault)) → (e ≡ make.NoMemory → r ≡ reload.NoMemory) → ((fault : Fault) → e ≡ make.Text fault → r ≡ reload.Text fault)
    → ((fault : Fault) → ¬ (◌≡◌ {A = Result Release MakeError} (Err e) (Err make.NoMemory)) → (◌≡◌ {A = Result Release MakeError} (Err e) (Err (make.Text fault))) ↔ RefusesSource sources src fault) → LacksVersion sources src r
lacks_version sources src make.NoMemory r never memory text exact = subst (LacksVersion sources src) (sym (memory refl)) tt
lacks_version sources src (make.Leaps fault) r never memory text exact = absurd (never fault refl)
lacks_version sources src (make.Text fault) r never memory text exact = subst (LacksVersion sources src) (sym (text fault refl)) ((exact fault (λ same. cc)).0 refl)

-- a source is refused exactly where that is the answer, memory aside
pub exact_lack : {A : Type 0} (sources : Sources) (src : ℕ) (e : ReloadError) (fault : Fault) → LacksVersion sources src e → ¬ (◌≡◌ {A = Result A ReloadError} (Err e) (Err reload.NoMemory)) → (◌≡◌ {A = Result A ReloadError} (Err e) (Err (reload.Text fault))) ↔ RefusesSource sources src fault
exact_lack sources src reload.NoMemory fault lacks some = absurd (some refl)
exact_lack sources src (reload.Text other) fault lacks some =
    let exact = exact_text sources src (Err (make.Text other)) fault lacks (λ same. cc) in (
      (λ same. let one : other ≡ fault = cc in exact.0 (ap (λ (f : Fault). Err (make.Text f)) one)),
      (λ refused. let same = exact.1 refused in let one : other ≡ fault = cc in ap (λ (f : Fault). Err (reload.Text f)) one),
    )
exact_lack sources src (reload.Same w n) fault lacks some = absurd lacks
exact_lack sources src (reload.JournalFull w) fault lacks some = absurd lacks
exact_lack sources src (reload.Full w) fault lacks some = absurd lacks
