use Rattle.std.proofs.Common.{rules, ◌≡◌, ℕ, map, filter, fold, max, ltb, arith}
use Rattle.pin_book.specs.Replay.{greatest_number}
use Rattle.pin_schedule.specs.declared.row.Row.{Row}
use Rattle.pin_schedule.proofs.ListedLemmas.{fold_greatest}
use Rattle.pin_schedule.proofs.course.greatest_under.Goals as goal

pub returns : goal.returns
returns c =
    let numbers = filter (λ other. ltb other c.args.number) (map (λ (row : Row). row.n) c.args.listed.now) in
    let is : c.fold.result ≡ fold (λ (a b : ℕ). max a b) 0 numbers = search rules in
    let greater : fold (λ (a b : ℕ). max a b) 0 numbers ≡ max 0 (greatest_number numbers) = fold_greatest 0 numbers in
    omega (arith, is, greater)
