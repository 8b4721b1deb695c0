use Rattle.std.proofs.Common.{◌≡◌, true, false, refl}
use Rattle.std.specs.List.{list_all}
use Rattle.tz_types.specs.Text.{IsText}
use Rattle.tz_script.specs.declared.limit.TheConstants.{LONGEST_HOLD_NAME}
use Rattle.tz_script.specs.HoldName.{is_letter_or_digit, is_hold_name}
use Rattle.tz_script.proofs.HoldNames.{no_text}
use Rattle.tz_script.proofs.hold_name.HoldName.new.Goals as goal

pub returns-in-Err : goal.returns-in-Err
returns-in-Err c =
    let letters : list_all is_letter_or_digit c.args.word.now ≡ true = cc in
    let other : is_hold_name c.args.word.now ≡ false = no_text c.args.word.now letters (λ (text : IsText 1 LONGEST_HOLD_NAME c.args.word.now). let no : false ≡ true = c.in-Err.ensures.accepted.1 text in cc) in
    rw other refl
