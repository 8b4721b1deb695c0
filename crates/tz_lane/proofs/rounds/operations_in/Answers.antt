use Rattle.tz_lane.proofs.RoundParts.{slice_doesnt_fall, slice_together, slice_whole, slice_is}
use Rattle.tz_lane.proofs.rounds.operations_in.Goals as goal

pub count_before-requires-2 : goal.count_before-requires-2
count_before-requires-2 c =
    slice_doesnt_fall c.count_before.result c.args.script.now.operations c.as_slice-all.result.now c.as_slice-all.ensures c.args.script.now.in_rounds

pub returns-clause-is : goal.returns-clause-is
returns-clause-is c =
    slice_is c.count_before.result c.args.script.now.operations c.as_slice-all.result.now c.as_slice-all.ensures c.count_before-2.result c.args.round c.count_before.ensures.earlier c.count_before.ensures.others c.count_before-2.ensures.earlier c.count_before-2.ensures.others

pub returns-clause-part : goal.returns-clause-part
returns-clause-part c =
    slice_together c.count_before.result c.args.script.now.operations c.as_slice-all.result.now c.as_slice-all.ensures c.count_before-2.result

pub returns-clause-whole : goal.returns-clause-whole
returns-clause-whole c =
    slice_whole c.count_before.result c.args.script.now.operations c.as_slice-all.result.now c.as_slice-all.ensures c.count_before-2.result c.args.round c.count_before.ensures.earlier c.count_before-2.ensures.others
