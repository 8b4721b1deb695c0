-- Errors that are passed on as another result's.
use Rattle.std.proofs.Common.{◌≡◌, ◌↔◌, Result, Err, ap}

same_inside : {A E : Type 0} (e f : E) → ◌≡◌ {A = Result A E} (Err e) (Err f) → e ≡ f
same_inside e f same = cc

-- an error but one comes exactly where it came before
pub passed_on : {A B E : Type 0} (e none f : E) (P : Type 0) → (¬ (◌≡◌ {A = Result A E} (Err e) (Err none)) → (◌≡◌ {A = Result A E} (Err e) (Err f)) ↔ P) → ¬ (◌≡◌ {A = Result B E} (Err e) (Err none)) → (◌≡◌ {A = Result B E} (Err e) (Err f)) ↔ P
passed_on e none f P exactly some =
    let before = exactly (λ same. some (ap Err (same_inside e none same))) in
    ((λ same. before.0 (ap Err (same_inside e f same))), (λ holds. ap Err (same_inside e f (before.1 holds))))
