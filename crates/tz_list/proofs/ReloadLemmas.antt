-- What a push of a source's version answers, as what a reload answers.
use Rattle.std.proofs.Common.{◌≡◌, ℕ, ◌↔◌, Result, Err, refl, sym, subst}
use Rattle.tz_types.specs.declared.fault.Fault.{Fault}
use Rattle.pin_core.specs.declared.view.View.{View}
use Rattle.pin_table.specs.declared.answers.Pushed.{Pushed}
use Rattle.pin_table.specs.declared.answers.PushWhy.{PushWhy}
use Rattle.pin_table.specs.declared.answers.PushWhy.TheVariants as push
use Rattle.pin_table.specs.declared.sitting.Plan.{Plan}
use Rattle.pin_table.specs.Turns.{Pushes, AfterWait}
use Rattle.tz_version.specs.declared.sources.Sources.{Sources}
use Rattle.tz_version.specs.Release.{Release, IsVersionOf, version_name}
use Rattle.tz_version.specs.Refusal.{RefusesSource}
use Rattle.tz_list.specs.declared.error.ReloadError.{ReloadError}
use Rattle.tz_list.specs.declared.error.ReloadError.TheVariants as reload
use Rattle.tz_list.specs.Reload.{release_home, release_source, PushesSource, Reloads}
use Rattle.tz_list.proofs.Errors.{not_both}

-- copies of the source's version are pushed at the table of the list
pub pushes_source : (plan table_plan : Plan Release) (sources : Sources) (src by : ℕ) (v v' : View) (copied version : Release) (answer : Result Pushed PushWhy)
    → table_plan ≡ plan → copied ≡ version → IsVersionOf sources src version
    → AfterWait v (λ turn. Pushes release_home release_source version_name table_plan by turn v' copied answer) → PushesSource plan sources src by v v' answer
pushes_source plan table_plan sources src by v v' copied version answer alike same is pushes = record {
  version = copied;
  is = subst (IsVersionOf sources src) (sym same) is;
  pushes = subst (λ (p : Plan Release). AfterWait v (λ turn. Pushes release_home release_source version_name p by turn v' copied answer)) alike pushes;
}

-- a refusal is told as it is
pub reloads_refused : (plan : Plan Release) (sources : Sources) (src by : ℕ) (v v' : View) (why : PushWhy) (r : ReloadError)
    → ((w n : ℕ) → why ≡ push.Same w n → r ≡ reload.Same w n) → ((w : ℕ) → why ≡ push.JournalFull w → r ≡ reload.JournalFull w) → ((w : ℕ) → why ≡ push.Full w → r ≡ reload.Full w)
    → PushesSource plan sources src by v v' (Err why) → Reloads plan sources src by v v' (Err r)
reloads_refused plan sources src by v v' (push.Busy holder) r same journal_full full h = absurd h.pushes.2.is
reloads_refused plan sources src by v v' (push.Same w n) r same journal_full full h = subst (λ (e : ReloadError). Reloads plan sources src by v v' (Err e)) (sym (same w n refl)) h
reloads_refused plan sources src by v v' (push.JournalFull w) r same journal_full full h = subst (λ (e : ReloadError). Reloads plan sources src by v v' (Err e)) (sym (journal_full w refl)) h
reloads_refused plan sources src by v v' (push.Full w) r same journal_full full h = subst (λ (e : ReloadError). Reloads plan sources src by v v' (Err e)) (sym (full w refl)) h

-- no refusal of a push tells that the source is refused, and it isn't
pub not_refused : {A : Type 0} (plan : Plan Release) (sources : Sources) (src by : ℕ) (v v' : View) (why : PushWhy) (r : ReloadError) (fault : Fault)
    → ((w n : ℕ) → why ≡ push.Same w n → r ≡ reload.Same w n) → ((w : ℕ) → why ≡ push.JournalFull w → r ≡ reload.JournalFull w) → ((w : ℕ) → why ≡ push.Full w → r ≡ reload.Full w)
    → PushesSource plan sources src by v v' (Err why) → (◌≡◌ {A = Result A ReloadError} (Err r) (Err (reload.Text fault))) ↔ RefusesSource sources src fault
not_refused plan sources src by v v' (push.Busy holder) r fault same journal_full full h = absurd h.pushes.2.is
not_refused plan sources src by v v' (push.Same w n) r fault same journal_full full h =
    let told = same w n refl in ((λ never. cc), (λ refused. absurd (not_both sources src h.version fault h.is refused)))
not_refused plan sources src by v v' (push.JournalFull w) r fault same journal_full full h =
    let told = journal_full w refl in ((λ never. cc), (λ refused. absurd (not_both sources src h.version fault h.is refused)))
not_refused plan sources src by v v' (push.Full w) r fault same journal_full full h =
    let told = full w refl in ((λ never. cc), (λ refused. absurd (not_both sources src h.version fault h.is refused)))
