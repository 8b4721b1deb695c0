use Rattle.std.proofs.Common.{rules}
use Rattle.tz_tzif.specs.File.{type_octets}
use Rattle.tz_tzif.proofs.PieceLemmas.{pieces-more}
use Rattle.tz_tzif.proofs.RefusalLemmas.{none-more, told-more}
use Rattle.tz_tzif.proofs.octets.put_types.Goals as goal

pub returns-in_err-put_type-clause-refused : goal.returns-in_err-put_type-clause-refused
returns-in_err-put_type-clause-refused c =
    let told = told-more c.args.designations.now c.args.types.now c.loop-local_type.local_type-index c.local_type-item.result c.in_err-put_type.field-0.0 c.loop-local_type-test.true c.local_type-item.is c.loop-local_type.invariant.1 c.in_err-put_type.ensures.refused in
    search (rules, told)

pub loop-local_type-preserved : goal.loop-local_type-preserved
loop-local_type-preserved c = (
  pieces-more (type_octets c.args.designations.now) c.args.file.now.items c.loop-local_type.file.items c.put_type.new.file.items c.args.types.now c.loop-local_type.local_type-index c.local_type-item.result c.loop-local_type-test.true c.local_type-item.is c.loop-local_type.invariant.0 c.in_ok-put_type.ensures.put,
  none-more c.args.designations.now c.args.types.now c.loop-local_type.local_type-index c.local_type-item.result c.loop-local_type-test.true c.local_type-item.is c.loop-local_type.invariant.1 c.in_ok-put_type.ensures.held,
)
