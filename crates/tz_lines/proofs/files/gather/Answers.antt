use Rattle.std.proofs.Common.{◌≡◌, ◌+◌, ◌<◌, ◌≤◌, ◌∷◌, List, ℕ, suc, take, drop, drop-cons, length, sum_by, get_or, sym, ap, ◌∙◌, arith, rules}
use Rattle.std.proofs.lemmas.List.{drop_all}
use Rattle.std.proofs.lemmas.List.Sums.{sum_by_more, sum_by-take-le}
use Rattle.tz_types.specs.declared.limit.TheConstants.{MOST_BYTES}
use Rattle.tz_types.specs.Source.{bytes_together}
use Rattle.tz_specs.specs.Contents.{Contents, contents_over, contents_of}
use Rattle.tz_lines.specs.Gathered.{contents_gathered}
use Rattle.tz_lines.specs.RecordOrder.{are_before}
use Rattle.tz_lines.proofs.GatheredLines.{from_none, over_all}
use Rattle.tz_lines.proofs.files.gather.Goals as goal

pub loop-text-init : goal.loop-text-init
loop-text-init c =
    record {
      same = from_none (contents_gathered c.new-gathered.result) c.args.files.now c.new-gathered.ensures.contents;
      ended = ap (λ (it : Contents). it.begun) c.new-gathered.ensures.contents;
      before = ap (λ (it : Contents). are_before 1 it.sets) c.new-gathered.ensures.contents;
      names = rw c.new-gathered.ensures.names (omega arith);
      within = omega arith;
    }

-- one more file has few enough bytes
few_more : (texts : List (List ℕ)) (place number : ℕ) (text : List ℕ) → place < length texts → text ≡ get_or texts place text → number ≤ 1 + sum_by length (take place texts) → bytes_together texts ≤ MOST_BYTES → number + length text ≤ MOST_BYTES + 1
few_more texts place number text within is before few =
    let next = sum_by_more length texts place text within in
    let count : length text ≡ length (get_or texts place text) = ap length is in
    let part = sum_by-take-le length texts (place + 1) in
    omega (arith, next, count, before, part, few)

pub take_file-requires-clause-few : goal.take_file-requires-clause-few
take_file-requires-clause-few c =
    let few = few_more c.args.files.now c.loop-text.text-index c.loop-text.number c.text-item.result c.loop-text-test.true c.text-item.is c.loop-text.invariant.within c.requires in
    rw c.as_slice.ensures few

pub returns-clause-ok : goal.returns-clause-ok
returns-clause-ok c =
    let contents = contents_gathered c.loop-text.gathered in
    sym c.loop-text.invariant.same ∙ ap (contents_over contents c.loop-text.number) (drop_all c.loop-text.text-index c.args.files.now c.loop-text-test.false) ∙ over_all contents c.loop-text.number

pub returns-in_err-number-clause-err : goal.returns-in_err-number-clause-err
returns-in_err-number-clause-err c =
    let files = c.args.files.now in
    let place = c.loop-text.text-index in
    let before = contents_gathered c.loop-text.gathered in
    let behind = drop (suc place) files in
    let texts : drop place files ≡ c.as_slice.result.now ∷ behind = drop-cons files place c.text-item.result c.loop-text-test.true ∙ ap (λ (text : List ℕ). text ∷ behind) (sym c.text-item.is ∙ sym c.as_slice.ensures) in
    let outcome : contents_of files ≡ contents_over before c.loop-text.number (c.as_slice.result.now ∷ behind) = sym c.loop-text.invariant.same ∙ ap (contents_over before c.loop-text.number) texts in
    let refused = c.in_err-number.ensures.err behind in
    rw outcome (search (rules, refused))
