use Rattle.std.proofs.Common.{◌∙◌, sym, ap, subst, refl}
use Rattle.pin_core.specs.Step.{loaded}
use Rattle.pin_table.specs.Carried.{slots_of}
use Rattle.pin_table.specs.Handles.{CarriesPlaces}
use Rattle.pin_table.specs.Plays.{ForReader}
use Rattle.pin_table.proofs.PlaceLemmas.{places_later}
use Rattle.pin_table.proofs.hand.Hand.load.Goals as goal

pub invariant_of-self : goal.invariant_of-self
invariant_of-self g c =
    let old = c.args.self.now in let found = c.load_front.ensures.loaded in let v = old.seat.me.0.core in record {
      listed = old.listed ∙ ap (λ m. slots_of m.1) (sym found.seat);
      places = subst (λ m. ForReader m.0 (λ p r. CarriesPlaces g.P.Payload.home g.P.Payload.source p r m.0.core m.1)) (sym found.seat)
          (λ p r of_plan is. places_later g.P.Payload.home g.P.Payload.source p r v (loaded found.journal v) (λ e among. (c.requires.held e among).told) found.goes_on.grows old.seat.me.1 refl (old.places p r of_plan is));
    }
