-- A run of the base's slots that stand side by side, taken and given back in one step.
use Rattle.std.specs.Prelude.{◌≡◌, ℕ, zero, suc, ◌+◌, ◌<◌, ◌≤◌, List, [], ◌∷◌, ◌++◌, length, drop}
use Rattle.pin_core.specs.Core.{times}
use Rattle.pin_table.specs.Carried.{slots_of}
use Rattle.atomic_table.specs.Table.{Act, keeps, takes, gives, chain}

-- the numbers of so many slots from this one on
abbrev pub run_slots : ℕ → ℕ → List ℕ
run_slots base zero = []
run_slots base (suc n) = base ∷ run_slots (suc base) n

module _ {S : Type 0} where
  -- the slots from this one on, with these values
  abbrev pub run_from : ℕ → List S → List (ℕ × S)
  run_from base [] = []
  run_from base (x ∷ xs) = (base, x) ∷ run_from (suc base) xs

  -- A seat carries so many slots from this one on first, and none of them a second time.
  pub record CarriesRun (base count : ℕ) (carried : List (ℕ × S)) : Type 0 where
    pub held : List S
    pub many : length held ≡ count
    pub is : carried ≡ run_from base held ++ drop count carried
    pub apart : (slot : ℕ) → base ≤ slot → slot < base + count → times slot (slots_of (drop count carried)) ≡ 0

  -- takes them, so that the first is taken last
  abbrev pub takes_run : ℕ → List S → Act S
  takes_run base [] = keeps
  takes_run base (x ∷ xs) = chain (takes_run (suc base) xs) (takes base x)

  -- gives so many slots back, the one taken last first
  abbrev pub gives_run : ℕ → Act S
  gives_run zero = keeps
  gives_run (suc n) = chain gives (gives_run n)
