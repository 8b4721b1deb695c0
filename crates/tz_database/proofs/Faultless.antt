-- Contents without a fault, kind by kind.
use Rattle.std.proofs.Common.{◌≡◌, ℕ, ◌<◌, Bool, true, false, List, [], ◌∷◌, ◌++◌, length, get_or, zero, suc, Option, Some, None, refl, arith}
use Rattle.std.specs.List.{filter_map, flat_map, cons_option}
use Rattle.tz_types.specs.declared.cause.Cause.{Cause}
use Rattle.tz_types.specs.declared.rule_set.RuleSet.{RuleSet}
use Rattle.tz_specs.specs.Expansion.{first_instant}
use Rattle.tz_specs.specs.Contents.{Contents}
use Rattle.tz_specs.specs.Whole.{fault_where, missing_continuation, unknown_rule, names_given, repeated_name, missing_target, late_lines, whole_faults}

pub none_first : {A : Type 0} (first second : List A) → first ++ second ≡ [] → first ≡ []
none_first {A} [] second e = refl
none_first {A} (x ∷ first) second e = cc

pub none_second : {A : Type 0} (first second : List A) → first ++ second ≡ [] → second ≡ []
none_second {A} [] second e = e
none_second {A} (x ∷ first) second e = cc

-- no element has one

pub none_of_first : {A : Type 0} (here : Option A) (rest : List A) → cons_option here rest ≡ [] → here ≡ None
none_of_first {A} None rest e = refl
none_of_first {A} (Some x) rest e = cc

pub none_of_rest : {A : Type 0} (here : Option A) (rest : List A) → cons_option here rest ≡ [] → rest ≡ []
none_of_rest {A} None rest e = e
none_of_rest {A} (Some x) rest e = cc

pub none_at : {A B : Type 0} (f : A → Option B) (xs : List A) (k : ℕ) (d : A) → filter_map f xs ≡ [] → k < length xs → f (get_or xs k d) ≡ None
none_at {A} {B} f [] k d e low = absurd (omega arith)
none_at {A} {B} f (x ∷ xs) zero d e low = none_of_first (f x) (filter_map f xs) e
none_at {A} {B} f (x ∷ xs) (suc k) d e low = none_at f xs k d (none_of_rest (f x) (filter_map f xs) e) (omega arith)

-- the test of a fault fails, where there is none
pub no_fault : (holds : Bool) (number : ℕ) (cause : Cause) → fault_where holds number cause ≡ None → holds ≡ false
no_fault true number cause e = cc
no_fault false number cause e = refl

-- each kind of fault is missing
pub record Faultless (sets : List RuleSet) (contents : Contents) : Type 0 where
  pub finished : filter_map missing_continuation contents.zones ≡ []
  pub known : flat_map (λ zone. filter_map (unknown_rule sets) zone.lines) contents.zones ≡ []
  pub apart : filter_map (repeated_name (names_given contents)) (names_given contents) ≡ []
  pub reached : filter_map (missing_target contents) contents.links ≡ []
  pub timely : flat_map (λ zone. late_lines sets first_instant zone.lines) contents.zones ≡ []

pub faultless : (sets : List RuleSet) (contents : Contents) → whole_faults sets contents ≡ [] → Faultless sets contents
unfolding whole_faults
faultless sets contents none =
    let finished = filter_map missing_continuation contents.zones in
    let known = flat_map (λ zone. filter_map (unknown_rule sets) zone.lines) contents.zones in
    let apart = filter_map (repeated_name (names_given contents)) (names_given contents) in
    let reached = filter_map (missing_target contents) contents.links in
    let timely = flat_map (λ zone. late_lines sets first_instant zone.lines) contents.zones in
    let before_timely = none_first (finished ++ known ++ apart ++ reached) timely none in
    let before_reached = none_first (finished ++ known ++ apart) reached before_timely in
    let before_apart = none_first (finished ++ known) apart before_reached in
    record {
      finished = none_first finished known before_apart;
      known = none_second finished known before_apart;
      apart = none_second (finished ++ known) apart before_reached;
      reached = none_second (finished ++ known ++ apart) reached before_timely;
      timely = none_second (finished ++ known ++ apart ++ reached) timely none;
    }
