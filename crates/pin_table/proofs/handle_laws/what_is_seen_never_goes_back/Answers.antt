use Rattle.std.proofs.Common.{◌∙◌, length, arith}
use Rattle.pin_table.proofs.PlaceLemmas.{take_seen, no_shorter}
use Rattle.pin_table.proofs.handle_laws.what_is_seen_never_goes_back.Goals as goal

pub returns : goal.returns
returns c first later last one two = let longer = no_shorter first later one in let more = no_shorter later last two in
    (take_seen (length first) later last longer two ∙ one, (omega arith))
