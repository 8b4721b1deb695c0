use Rattle.std.proofs.Common.{◌≡◌, ℕ, ◌≤◌, ◌++◌, List, length, take, ap, ◌∙◌, arith, append_assoc, codes, replicate}
use Rattle.std.specs.List.{flat_map}
use Rattle.std.proofs.lemmas.List.{take_all}
use Rattle.tz_tzif.specs.File.{header, count_octets}
use Rattle.tz_tzif.proofs.octets.put_header.Goals as goal

whole : (start before : List ℕ) (counts : List ℕ) (place : ℕ) → length counts ≤ place → before ≡ (start ++ (codes "TZif2" ++ replicate 15 0)) ++ flat_map count_octets (take place counts) → before ≡ start ++ header counts
unfolding header
whole start before counts place over so_far =
    so_far ∙ ap (λ xs. (start ++ (codes "TZif2" ++ replicate 15 0)) ++ flat_map count_octets xs) (take_all place counts over)
    ∙ append_assoc start (codes "TZif2" ++ replicate 15 0) (flat_map count_octets counts)

pub returns : goal.returns
returns c = whole c.args.file.now.items c.loop-count.file.items c.args.counts c.loop-count.count-index (omega arith) c.loop-count.invariant
