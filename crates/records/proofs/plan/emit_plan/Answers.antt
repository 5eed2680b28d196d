use Rattle.records.specs.Writing.Plan.{planned}
use Rattle.records.specs.Writing.PlanLaws.{limited_long, limited_whole}
use Rattle.records.specs.Writing.EmittedLaws.{emitted_short, emitted_long, emitted_whole, put_record}
use Rattle.records.proofs.plan.emit_plan.Goals as goal

pub returns-then-out-lt-RECORD_LIMIT : goal.returns-then-out-lt-RECORD_LIMIT
returns-then-out-lt-RECORD_LIMIT c = emitted_short _ c.if-out-lt-RECORD_LIMIT.true

pub returns-then-n-gt-RECORD_LIMIT : goal.returns-then-n-gt-RECORD_LIMIT
returns-then-n-gt-RECORD_LIMIT c = emitted_long _ c.if-out-lt-RECORD_LIMIT.false (limited_long c.requires c.measure_plan-n.ensures c.if-n-gt-RECORD_LIMIT.true)

pub returns : goal.returns
unfolding planned
returns c =
    let e = limited_whole c.requires c.measure_plan-n.ensures c.if-n-gt-RECORD_LIMIT.false in
    let put = put_record e c.put_record_head-body_at.ensures c.put_body.ensures in
    emitted_whole c.if-out-lt-RECORD_LIMIT.false (rw e at c.if-n-gt-RECORD_LIMIT.false) put
