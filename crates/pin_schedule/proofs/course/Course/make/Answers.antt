use Rattle.pin_schedule.proofs.MakeLemmas.{still_ok, has_reach, has_inside, has_count, has_pin, has_left, has_claimed, makes_load, makes_pin, makes_take, makes_exchange, makes_claim, makes_push, makes_erase, makes_give}
use Rattle.pin_schedule.proofs.course.Course.make.Goals as goal

pub load_front-requires : goal.load_front-requires
load_front-requires c = has_reach c.args.self.now c.args.event c.requires

pub add_pin-requires-clause-reach : goal.add_pin-requires-clause-reach
add_pin-requires-clause-reach c = has_reach c.args.self.now c.args.event c.requires

pub add_pin-requires-clause-inside : goal.add_pin-requires-clause-inside
add_pin-requires-clause-inside c = has_inside c.args.self.now c.args.event c.requires

pub add_pin-requires-clause-count : goal.add_pin-requires-clause-count
add_pin-requires-clause-count c = has_count c.args.self.now c.args.event c.requires

pub take_pin-requires-clause-count : goal.take_pin-requires-clause-count
take_pin-requires-clause-count c = has_pin c.args.self.now c.args.event c.requires c.in-TakePin.slot c.in-TakePin.is

pub exchange_turn-requires : goal.exchange_turn-requires
exchange_turn-requires c = has_reach c.args.self.now c.args.event c.requires

pub claim-requires-clause-reach : goal.claim-requires-clause-reach
claim-requires-clause-reach c = has_reach c.args.self.now c.args.event c.requires

pub push-requires-clause-reach : goal.push-requires-clause-reach
push-requires-clause-reach c = has_reach c.args.self.now c.args.event c.requires

pub push-requires-clause-claimed : goal.push-requires-clause-claimed
push-requires-clause-claimed c = has_claimed c.args.self.now c.args.event c.requires c.in-StorePush.src c.in-StorePush.is

pub erase-requires-clause-reach : goal.erase-requires-clause-reach
erase-requires-clause-reach c = has_reach c.args.self.now c.args.event c.requires

pub erase-requires-clause-left : goal.erase-requires-clause-left
erase-requires-clause-left c = has_left c.args.self.now c.args.event c.requires c.in-StoreErase.after c.in-StoreErase.is

pub returns-in-LoadFront : goal.returns-in-LoadFront
returns-in-LoadFront c = λ made room s stands allowed.
    makes_load made room s c.args.self.now c.args.event stands allowed c.load_front.new.self c.in-LoadFront.is c.load_front.ensures

pub returns-in-AddPin : goal.returns-in-AddPin
returns-in-AddPin c = λ made room s stands allowed.
    still_ok c.add_pin.result _ _ (makes_pin made room s c.args.self.now c.args.event stands allowed c.add_pin.new.self c.in-AddPin.is) c.add_pin.ensures

pub returns-in-TakePin : goal.returns-in-TakePin
returns-in-TakePin c = λ made room s stands allowed.
    makes_take made room s c.args.self.now c.args.event stands allowed c.take_pin.new.self c.in-TakePin.slot c.in-TakePin.is c.take_pin.ensures

pub returns-in-TakeTurn : goal.returns-in-TakeTurn
returns-in-TakeTurn c = λ made room s stands allowed.
    makes_exchange made room s c.args.self.now c.args.event stands allowed c.exchange_turn.new.self c.in-TakeTurn.is c.exchange_turn.ensures.taken c.exchange_turn.ensures.free

pub returns-in-Claim : goal.returns-in-Claim
returns-in-Claim c = λ made room s stands allowed.
    makes_claim made room s c.args.self.now c.args.event stands allowed c.claim.new.self c.claim.result c.in-Claim.slot c.in-Claim.is c.claim.ensures.free c.claim.ensures.pinned

pub returns-in-StorePush : goal.returns-in-StorePush
returns-in-StorePush c = λ made room s stands allowed.
    makes_push made room s c.args.self.now c.args.event stands allowed c.push.new.self c.push.result c.in-StorePush.src c.in-StorePush.is c.push.ensures

pub returns-in-StoreErase : goal.returns-in-StoreErase
returns-in-StoreErase c = λ made room s stands allowed.
    makes_erase made room s c.args.self.now c.args.event stands allowed c.erase.new.self c.erase.result c.in-StoreErase.after c.in-StoreErase.is c.erase.ensures

pub returns-in-StoreTurn : goal.returns-in-StoreTurn
returns-in-StoreTurn c = λ made room s stands allowed.
    makes_give made room s c.args.self.now c.args.event stands allowed c.give_turn.new.self c.in-StoreTurn.is c.give_turn.ensures
