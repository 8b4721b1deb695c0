use Rattle.std.proofs.Common.{◌≡◌, ◌+◌, true, None, [], length, sym, ap, arith, rules}
use Rattle.tz_words.specs.NamedText.{parts_of, parts_left, are_names}
use Rattle.tz_words.proofs.Parts.{some_part, fit_names}
use Rattle.tz_words.proofs.text_word.are_file_names.Goals as goal

pub returns : goal.returns
returns c =
    let names = parts_of c.args.names.now in
    let none : c.loop-rest.rest ≡ None = search rules in
    let nothing : parts_left c.loop-rest.rest ≡ [] = ap parts_left none in
    let counted : length names ≡ c.loop-rest.count + 0 = rw nothing at c.loop-rest.invariant.counted in
    let are : are_names names ≡ true = rw nothing at c.loop-rest.invariant.named in
    let few = c.loop-rest.invariant.few in
    sym (fit_names names (some_part c.args.names.now) (omega (arith, counted, few)) are)
