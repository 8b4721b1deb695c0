-- Of some faults one is told before the others.
use Rattle.std.proofs.Common.{◌≡◌, ℕ, zero, suc, true, false, ◌&&◌, ◌||◌, ◌==◌, nat_le, nat_lt, IsTrue, List, [], ◌∷◌, get_or, ⊎_elim, arith}
use Rattle.std.specs.List.{All}
use Rattle.std.proofs.lemmas.Bool.{cases_Bool}
use Rattle.std.proofs.lemmas.Bool.Decides.{nat_tests}
use Rattle.tz_types.specs.declared.fault.LineFault.{LineFault}
use Rattle.tz_specs.specs.Whole.{is_told_before, IsLeast}
use Rattle.tz_specs.proofs.AscendingLemmas.{is_first, is_later}

before_both : (a b c : LineFault) → IsTrue (is_told_before a b) → IsTrue (is_told_before b c) → IsTrue (is_told_before a c)
before_both a b c first second = on_numbers a.line b.line c.line a.cause b.cause c.cause first second
  where
    on_numbers : (a b c d e f : ℕ) → IsTrue (nat_lt a b || ((a == b) && nat_le d e)) → IsTrue (nat_lt b c || ((b == c) && nat_le e f)) → IsTrue (nat_lt a c || ((a == c) && nat_le d f))
    on_numbers a b c d e f first second = grind (arith, nat_tests)

before_else : (a b : LineFault) → is_told_before a b ≡ false → IsTrue (is_told_before b a)
before_else a b h = on_numbers a.line b.line a.cause b.cause h
  where
    on_numbers : (a b d e : ℕ) → (nat_lt a b || ((a == b) && nat_le d e)) ≡ false → IsTrue (nat_lt b a || ((b == a) && nat_le e d))
    on_numbers a b d e h = grind (arith, nat_tests)

before_itself : (a : LineFault) → IsTrue (is_told_before a a)
before_itself a = on_numbers a.line a.cause
  where
    on_numbers : (a d : ℕ) → IsTrue (nat_lt a a || ((a == a) && nat_le d d))
    on_numbers a d = grind (arith, nat_tests)

-- one more fault that comes later
all_more : (a fault : LineFault) (faults : List LineFault) → IsTrue (is_told_before a fault) → All (λ other. IsTrue (is_told_before a other)) faults → All (λ other. IsTrue (is_told_before a other)) (fault ∷ faults)
all_more a fault faults here all zero d within = here
all_more a fault faults here all (suc k) d within = all k d (omega (arith, within))

all_after : (a b : LineFault) (faults : List LineFault) → IsTrue (is_told_before a b) → All (λ other. IsTrue (is_told_before b other)) faults → All (λ other. IsTrue (is_told_before a other)) faults
all_after a b faults first all k d within = before_both a b (get_or faults k d) first (all k d within)

pub least_exists : (fault : LineFault) (faults : List LineFault) → (least : LineFault) × IsLeast (fault ∷ faults) least
least_exists fault [] = (
  fault,
  record { among = is_first fault []; least = all_more fault fault [] (before_itself fault) (λ k d within. absurd (omega (arith, within))) },
)
least_exists fault (next ∷ faults) =
    let found = least_exists next faults in
    let is = found.1 in
    ⊎_elim
    (λ (here : is_told_before fault found.0 ≡ true). (
      fault,
      record {
        among = is_first fault (next ∷ faults);
        least = all_more fault fault (next ∷ faults) (before_itself fault) (all_after fault found.0 (next ∷ faults) here is.least);
      },
    ))
    (λ (there : is_told_before fault found.0 ≡ false). (
      found.0,
      record {
        among = is_later fault found.0 (next ∷ faults) is.among;
        least = all_more found.0 fault (next ∷ faults) (before_else fault found.0 there) is.least;
      },
    ))
    (cases_Bool (is_told_before fault found.0))
