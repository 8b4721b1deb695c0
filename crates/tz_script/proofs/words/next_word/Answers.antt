use Rattle.std.proofs.Common.{◌≡◌, Some, None, drop, sym}
use Rattle.std.specs.List.{position}
use Rattle.std.proofs.lemmas.List.{take_rest}
use Rattle.std.proofs.Math.Numerals.{add-one}
use Rattle.tz_script.specs.Words.{is_space}
use Rattle.tz_script.proofs.WordCuts.{is_of_word, nowhere, only_spaces, word_cut, word_last, words_none, nothing_behind}
use Rattle.tz_script.proofs.words.next_word.Goals as goal

pub returns-in_err-begin-clause-none : goal.returns-in_err-begin-clause-none
returns-in_err-begin-clause-none c = λ _. only_spaces c.args.text.now (nowhere is_of_word c.args.text.now (sym c.in_err-begin.ensures))

pub returns-in-Some-clause-some : goal.returns-in-Some-clause-some
returns-in-Some-clause-some c =
    let text = c.args.text.now in
    let begin = c.in_ok-begin.begin in
    let end : Some c.in-Some.end ≡ position is_space (drop begin text) = rw (take_rest text begin) at c.in-Some.ensures in
    simp (take_rest, add-one) (word_cut text begin c.in-Some.end (sym c.in_ok-begin.ensures) (sym end))

pub returns-in-None-clause-some : goal.returns-in-None-clause-some
returns-in-None-clause-some c =
    let text = c.args.text.now in
    let begin = c.in_ok-begin.begin in
    let none : None ≡ position is_space (drop begin text) = rw (take_rest text begin) at c.in-None.ensures in
    simp take_rest (simp (nothing_behind, words_none) (word_last text begin (sym c.in_ok-begin.ensures) (sym none)))
