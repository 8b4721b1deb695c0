-- How many bytes lines have at most.
use Rattle.std.proofs.Common.{◌≡◌, ℕ, zero, suc, ◌+◌, ◌*◌, ◌%◌, ◌≤◌, ◌<◌, ◌^◌, List, ◌++◌, map, codes, length, get_or, ap, sym, subst, ◌∙◌, arith, lit<}
use Rattle.std.specs.Prelude.{All, ℤ, pos, negsuc, ◌≤ℤ◌, neg_ℤ}
use Rattle.std.specs.Fmt.{decimal, signed_decimal}
use Rattle.std.specs.List.{flat_map, range_with_len}
use Rattle.std.proofs.lemmas.Fmt.{length-decimal-le}
use Rattle.std.proofs.lemmas.Grind.{flat_map-append}
use Rattle.std.proofs.lemmas.List.{length-append}
use Rattle.std.proofs.lemmas.List.Elements.{All-map}
use Rattle.std.proofs.lemmas.List.FromFn.{get_or-range_with_len}
use Rattle.std.proofs.lemmas.Nat.{mod_below}
use Rattle.std.proofs.lemmas.Int.{ints}
use Rattle.tz_gen.specs.Generated.{bytes_of_lines, hours_ahead, zone_record, text_lines, lookup_words, lane_lines, round_lines, script_lines}

-- so many lines, each of so many bytes at most
map_bytes : (f : ℕ → List ℕ) (most a n : ℕ) → ((k : ℕ) → k < a + n → length (f k) ≤ most) → length (bytes_of_lines (map f (range_with_len a n))) ≤ n * (most + 1)
map_bytes f most a zero few = omega arith
map_bytes f most a (suc n) few =
    let rest : List ℕ = bytes_of_lines (map f (range_with_len (a + 1) n)) in
    let first : length (f a) ≤ most = few a (omega arith) in
    let later : length rest ≤ n * (most + 1) = map_bytes f most (a + 1) n (λ k below. few k (omega arith)) in
    let size = length-append (f a ++ codes "\n") rest ∙ ap (λ k. k + length rest) (length-append (f a) (codes "\n")) in
    omega (arith, size)

-- so many blocks of lines, each of so many bytes at most
block_bytes : (f : ℕ → List (List ℕ)) (most a n : ℕ) → ((k : ℕ) → k < a + n → length (bytes_of_lines (f k)) ≤ most) → length (bytes_of_lines (flat_map f (range_with_len a n))) ≤ n * most
block_bytes f most a zero few = omega arith
block_bytes f most a (suc n) few =
    let others : List (List ℕ) = flat_map f (range_with_len (a + 1) n) in
    let first : length (bytes_of_lines (f a)) ≤ most = few a (omega arith) in
    let later : length (bytes_of_lines others) ≤ n * most = block_bytes f most (a + 1) n (λ k below. few k (omega arith)) in
    let size = ap length (flat_map-append (λ (line : List ℕ). line ++ codes "\n") (f a) others) ∙ length-append (bytes_of_lines (f a)) (bytes_of_lines others) in
    omega (arith, size)

decimal_size : (n : ℕ) → n < 10 ^ 10 → length (decimal n) ≤ 10
decimal_size n small = length-decimal-le 10 n (lit< tt) small (omega arith)

five_pieces : (a b c d e : List ℕ) → length (a ++ b ++ c ++ d ++ e) ≡ length a + length b + length c + length d + length e
five_pieces a b c d e = simp length-append

-- ---- texts ----

signed_size : (z : ℤ) → z ≤ℤ pos 12 → neg_ℤ (pos 12) ≤ℤ z → length (signed_decimal z) ≤ 11
signed_size (pos n) high low = let small : n < 10 ^ 10 = omega (arith, ints) in let size = decimal_size n small in omega arith
signed_size (negsuc n) high low = let small : suc n < 10 ^ 10 = omega (arith, ints) in let size = decimal_size (suc n) small in omega arith

zone_size : (place : ℕ) → place < 1024 → length (zone_record place) ≤ 41
unfolding zone_record
zone_size place few =
    let below : place % 25 < 25 = mod_below place 25 (lit< tt) in
    let hours = signed_size (hours_ahead place) (omega (arith, ints)) (omega (arith, ints)) in
    let name = decimal_size place (omega arith) in
    omega (arith, five_pieces (codes "Zone Gen/") (decimal place) (codes " ") (signed_decimal (hours_ahead place)) (codes ":00 G G%sT"))

four_pieces : (a b c d : List ℕ) → length (a ++ (b ++ (c ++ d))) ≡ length a + length b + length c + length d
four_pieces a b c d = simp length-append (omega arith)

pub text_size : (n number : ℕ) → n ≤ 1024 → number < 4 → length (bytes_of_lines (text_lines n number)) ≤ 4194304
unfolding text_lines
text_size n number few small =
    let name = decimal_size number (omega arith) in
    let head = length-append (codes "# version g") (decimal number) in
    let zones : length (bytes_of_lines (map zone_record (range_with_len 0 n))) ≤ n * 42 = map_bytes zone_record 41 0 n (λ k below. zone_size k (omega arith)) in
    let all = four_pieces ((codes "# version g" ++ decimal number) ++ codes "\n") (codes "Rule G 1970 max - Mar lastSun 1:00u 1:00 S" ++ codes "\n") (codes "Rule G 1970 max - Oct lastSun 1:00u 0 -" ++ codes "\n") (bytes_of_lines (map zone_record (range_with_len 0 n))) in
    let first = length-append (codes "# version g" ++ decimal number) (codes "\n") in
    omega (arith, all, first, head)

-- ---- the script ----

lookup_size : (n round lane index : ℕ) → n ≤ 1024 → round ≤ 4 → lane ≤ 8 → index < n → length (lookup_words n round lane index) ≤ 47
unfolding lookup_words
lookup_size n round lane index few rounds lanes below =
    let place : (7 * lane + index) % n < n = mod_below (7 * lane + index) n (omega arith) in
    let a = decimal_size lane (omega arith) in
    let b = decimal_size ((7 * lane + index) % n) (omega arith) in
    let c = decimal_size (86400 * (30 * index + 7 * round + lane)) (omega arith) in
    omega (arith, five_pieces (decimal lane) (codes " info front Gen/") (decimal ((7 * lane + index) % n)) (codes " ") (decimal (86400 * (30 * index + 7 * round + lane))))

lane_size : (n round lane : ℕ) → n ≤ 1024 → round ≤ 4 → lane ≤ 8 → length (bytes_of_lines (lane_lines n round lane)) ≤ 49152
unfolding lane_lines
lane_size n round lane few rounds lanes =
    let all : length (bytes_of_lines (map (lookup_words n round lane) (range_with_len 0 n))) ≤ n * 48 = map_bytes (lookup_words n round lane) 47 0 n (λ k below. lookup_size n round lane k few rounds lanes (omega arith)) in
    omega arith

six_pieces : (a b c d e f : List ℕ) → length (a ++ (b ++ (c ++ (d ++ (e ++ f))))) ≡ length a + length b + length c + length d + length e + length f
six_pieces a b c d e f = simp length-append (omega arith)

round_size : (n round : ℕ) → n ≤ 1024 → round ≤ 4 → length (bytes_of_lines (round_lines n round)) ≤ 394000
unfolding round_lines
round_size n round few rounds =
    let source : round % 4 < 4 = mod_below round 4 (lit< tt) in
    let lanes : length (bytes_of_lines (flat_map (lane_lines n round) (range_with_len 1 8))) ≤ 8 * 49152 = block_bytes (lane_lines n round) 49152 1 8 (λ k below. lane_size n round k few rounds (omega arith)) in
    let name = decimal_size (round % 4) (omega arith) in
    let reload = length-append (codes "1 reload ") (decimal (round % 4)) in
    let second = length-append (codes "1 reload " ++ decimal (round % 4)) (codes "\n") in
    let all = six_pieces (codes "round" ++ codes "\n") ((codes "1 reload " ++ decimal (round % 4)) ++ codes "\n") (codes "2 hold a" ++ codes "\n") (codes "2 erase a" ++ codes "\n") (codes "2 drop a" ++ codes "\n") (bytes_of_lines (flat_map (lane_lines n round) (range_with_len 1 8))) in
    omega (arith, all, second, reload)

pub script_size : (n : ℕ) → n ≤ 1024 → length (bytes_of_lines (script_lines n)) ≤ 4194304
unfolding script_lines
script_size n few =
    let rounds : length (bytes_of_lines (flat_map (round_lines n) (range_with_len 1 4))) ≤ 4 * 394000 = block_bytes (round_lines n) 394000 1 4 (λ k below. round_size n k few (omega arith)) in
    let name = decimal_size 8 (lit< tt) in
    let all = length-append ((codes "lanes " ++ decimal 8) ++ codes "\n") (bytes_of_lines (flat_map (round_lines n) (range_with_len 1 4))) in
    let first = length-append (codes "lanes " ++ decimal 8) (codes "\n") in
    let head = length-append (codes "lanes ") (decimal 8) in
    omega (arith, all, first, head)

pub texts_size : (n : ℕ) (texts : List (List ℕ)) → n ≤ 1024 → texts ≡ map (λ number. bytes_of_lines (text_lines n number)) (range_with_len 0 4) → All (λ text. length text ≤ 4194304) texts
texts_size n texts few are =
    let fits : List ℕ → Type 0 = λ text. length text ≤ 4194304 in
    subst (All fits) (sym are) (All-map fits (λ number. bytes_of_lines (text_lines n number)) (range_with_len 0 4)
    (λ k d below. let is : get_or (range_with_len 0 4) k d ≡ 0 + k = get_or-range_with_len 0 4 k d below in text_size n (get_or (range_with_len 0 4) k d) few (omega arith)))
