use Rattle.std.proofs.Common.{◌∙◌, ap, sym}
use Rattle.pin_table.proofs.HandPins.{all_counted}
use Rattle.pin_table.proofs.reader.Reader.held.Goals as goal

pub returns : goal.returns
returns g c = let reader = c.args.self.now in
    c.len.ensures.value ∙ ap (λ l. Rattle.std.proofs.Common.length l) reader.pins ∙ sym (all_counted reader.hand.seat.me.0.core.entries (λ e among. (reader.handles e among).held))
