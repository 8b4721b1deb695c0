-- The least of all faults that were told.
use Rattle.std.proofs.Common.{◌≡◌, true, false, IsTrue, List, [], ◌∷◌, ⊎_elim, Option, Some, None, refl, subst, arith, Contains}
use Rattle.std.proofs.lemmas.Bool.{cases_Bool}
use Rattle.std.proofs.lemmas.Bool.Decides.{nat_tests}
use Rattle.std.proofs.lemmas.List.Elements.{All-cons, All-head, All-tail, All-nil}
use Rattle.tz_types.specs.declared.fault.LineFault.{LineFault}
use Rattle.tz_specs.specs.Whole.{is_told_before, IsLeast}
use Rattle.tz_specs.proofs.AscendingLemmas.{first_or_later, is_first, is_later}
use Rattle.tz_database.specs.LeastFault.{told_with, IsLeastOf}

before_itself : (fault : LineFault) → IsTrue (is_told_before fault fault)
before_itself fault = grind (arith, nat_tests)

before_both : (a b c : LineFault) → IsTrue (is_told_before a b) → IsTrue (is_told_before b c) → IsTrue (is_told_before a c)
before_both a b c h k = grind (arith, nat_tests)

before_else : (a b : LineFault) → is_told_before a b ≡ false → IsTrue (is_told_before b a)
before_else a b h = grind (arith, nat_tests)

past_second : {A : Type 0} (x y z : A) (xs : List A) → Contains (x ∷ xs) z → Contains (x ∷ y ∷ xs) z
past_second {A} x y z xs h =
    ⊎_elim (λ (same : x ≡ z). subst (Contains (x ∷ y ∷ xs)) same (is_first x (y ∷ xs))) (λ (later : Contains xs z). is_later x z (y ∷ xs) (is_later y z xs later)) (first_or_later x z xs h)

-- the least of one and some more
record LeastIs (least : Option LineFault) (faults : List LineFault) : Type 0 where
  pub fault : LineFault
  pub is : least ≡ Some fault
  pub all : IsLeast faults fault

keeps_first : (first fault : LineFault) (faults : List LineFault) (least : Option LineFault) → IsTrue (is_told_before first fault) → LeastIs least (first ∷ faults) → LeastIs least (first ∷ fault ∷ faults)
keeps_first first fault faults least before found =
    let here = found.fault in
    let upto = All-head (λ other. IsTrue (is_told_before here other)) first faults found.all.least in
    let later = All-tail (λ other. IsTrue (is_told_before here other)) first faults found.all.least in
    record {
      fault = here;
      is = found.is;
      all = record {
        among = past_second first fault here faults found.all.among;
        least = All-cons (λ other. IsTrue (is_told_before here other)) first (fault ∷ faults) upto (All-cons (λ other. IsTrue (is_told_before here other)) fault faults (before_both here first fault upto before) later);
      };
    }

takes_next : (first fault : LineFault) (faults : List LineFault) (least : Option LineFault) → is_told_before first fault ≡ false → LeastIs least (fault ∷ faults) → LeastIs least (first ∷ fault ∷ faults)
takes_next first fault faults least not_before found =
    let here = found.fault in
    let upto = All-head (λ other. IsTrue (is_told_before here other)) fault faults found.all.least in
    record {
      fault = here;
      is = found.is;
      all = record {
        among = is_later first here (fault ∷ faults) found.all.among;
        least = All-cons (λ other. IsTrue (is_told_before here other)) first (fault ∷ faults) (before_both here fault first upto (before_else first fault not_before)) found.all.least;
      };
    }

told_first : (first : LineFault) (faults : List LineFault) → LeastIs (told_with (Some first) faults) (first ∷ faults)
told_first first [] =
    record {
      fault = first;
      is = refl;
      all = record { among = is_first first []; least = All-cons (λ other. IsTrue (is_told_before first other)) first [] (before_itself first) (All-nil (λ other. IsTrue (is_told_before first other))) };
    }
told_first first (fault ∷ faults) =
    ⊎_elim
    (λ (e : is_told_before first fault ≡ true). rw e (keeps_first first fault faults (told_with (Some first) faults) e (told_first first faults)))
    (λ (e : is_told_before first fault ≡ false). rw e (takes_next first fault faults (told_with (Some fault) faults) e (told_first fault faults)))
    (cases_Bool (is_told_before first fault))

-- what was told is the least of all
pub least_told : (faults : List LineFault) (least : Option LineFault) → least ≡ told_with None faults → IsLeastOf faults least
least_told [] least e = rw e refl
least_told (fault ∷ faults) least e =
    let found = told_first fault faults in
    rw e (rw found.is found.all)
