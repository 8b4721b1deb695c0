use Rattle.std.proofs.Common.{refl}
use Rattle.pin_table.specs.Table.{plan}
use Rattle.pin_table.proofs.SlotLemmas.{passes_more}
use Rattle.pin_table.proofs.slot_claims.claim_least.Goals as goal

pub loop-slot-preserved : goal.loop-slot-preserved
loop-slot-preserved g c = record {
  own = c.try_slot.ensures.own;
  listed = c.try_slot.ensures.listed;
  passed = passes_more (plan c.args.table.now) c.args.seat.now.me c.requires.held c.loop-slot.slot _ c.loop-slot.seat.me c.try_slot.new.seat.me refl c.loop-slot.invariant.passed (c.try_slot.ensures.passed c.if-try_slot.false);
}
