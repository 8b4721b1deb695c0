-- What is generated, line by line. All numbers are decimal, and each line ends with a newline.
use Rattle.std.specs.Prelude.{ℕ, ◌+◌, ◌*◌, ◌%◌, ℤ, pos, ◌-ℤ◌, List, ◌∷◌, ◌++◌, map, codes}
use Rattle.std.specs.List.{flat_map, range_with_len}
use Rattle.std.specs.Fmt.{decimal, signed_decimal}
use Rattle.tz_gen.specs.declared.sizes.TheConstants.{GENERATED_TEXTS, GENERATED_ROUNDS, GENERATED_LANES}

-- the bytes of lines
abbrev pub bytes_of_lines : List (List ℕ) → List ℕ
bytes_of_lines lines = flat_map (λ line. line ++ codes "\n") lines

-- ---- the texts ----

-- how many hours the zone at a place is ahead: from -12 to 12, and then again
abbrev pub hours_ahead : ℕ → ℤ
hours_ahead place = pos (place % 25) -ℤ pos 12

-- `Zone Gen/PLACE HOURS:00 G G%sT`
unfoldable pub zone_record : ℕ → List ℕ
zone_record place =
    codes "Zone Gen/" ++ decimal place ++ codes " " ++ signed_decimal (hours_ahead place) ++ codes ":00 G G%sT"

-- the text of a number: its version, a rule set with two rules, and n zones that follow it
unfoldable pub text_lines : ℕ → ℕ → List (List ℕ)
text_lines n number =
    (codes "# version g" ++ decimal number)
    ∷ codes "Rule G 1970 max - Mar lastSun 1:00u 1:00 S"
    ∷ codes "Rule G 1970 max - Oct lastSun 1:00u 0 -"
    ∷ map zone_record (range_with_len 0 n)

-- ---- the script ----

-- `LANE info front Gen/PLACE T`: the index-th lookup of a lane in a round
unfoldable pub lookup_words : ℕ → ℕ → ℕ → ℕ → List ℕ
lookup_words n round lane index =
    decimal lane ++ codes " info front Gen/" ++ decimal ((7 * lane + index) % n)
    ++ codes " " ++ decimal (86400 * (30 * index + 7 * round + lane))

-- the n lookups of a lane in a round
unfoldable pub lane_lines : ℕ → ℕ → ℕ → List (List ℕ)
lane_lines n round lane = map (lookup_words n round lane) (range_with_len 0 n)

-- a round: one lane reloads a text, another holds a version, erases the one behind it and drops it, and then all look
unfoldable pub round_lines : ℕ → ℕ → List (List ℕ)
round_lines n round =
    codes "round"
    ∷ (codes "1 reload " ++ decimal (round % GENERATED_TEXTS))
    ∷ codes "2 hold a"
    ∷ codes "2 erase a"
    ∷ codes "2 drop a"
    ∷ flat_map (lane_lines n round) (range_with_len 1 GENERATED_LANES)

-- the script: how many lanes it has, and its rounds
unfoldable pub script_lines : ℕ → List (List ℕ)
script_lines n =
    (codes "lanes " ++ decimal GENERATED_LANES) ∷ flat_map (round_lines n) (range_with_len 1 GENERATED_ROUNDS)
