use Rattle.std.proofs.Common.{◌≡◌, ◌+◌, ◌-◌, refl, ap, ◌∙◌, arith}
use Rattle.book.specs.Racks.{rack_of}
use Rattle.dates.specs.Phases.{phase_dates}
use Rattle.calendars.specs.declared.phase.PhaseCalendar.{PhaseCalendar}
use Rattle.refusal.proofs.Fine.{is_ok, ok_is}
use Rattle.printout.proofs.Advances.{own_opens, own_lawful, count_some, count_is, upto_none, next, next_fits, upto_next, upto_all}
use Rattle.printout.proofs.groups.group_lines.Goals as goal

pub unwrap-roster-requires : goal.unwrap-roster-requires
unwrap-roster-requires c = is_ok _ _ c.open.result (own_opens c.args.plan.now _ c.of_set-calendar.ensures.spacings) c.open.ensures

pub loop-group-init : goal.loop-group-init
loop-group-init c =
    let opened = ok_is _ _ c.unwrap-roster.result c.unwrap-roster.ensures c.open.ensures in
    record { upto = upto_none _ _ _ _ 7062 _ c.requires (record { plan' = opened.plan'; calendar' = refl; order' = refl; is = opened.is }); long = refl; roomy = refl }

pub answer_lines-requires-clause-whole : goal.answer_lines-requires-clause-whole
answer_lines-requires-clause-whole c =
    let opened = ok_is _ _ c.unwrap-roster.result c.unwrap-roster.ensures c.open.ensures in
    let dates = ap (λ (x : PhaseCalendar). phase_dates x.phases) opened.calendar' ∙ c.of_set-calendar.ensures.dates in
    let l = c.loop-group in
    (next _ _ _ _ dates refl l.auto.group l.invariant.long l.invariant.roomy l.invariant.upto c.advance-answer.ensures.keeps).has.whole

pub answer_lines-requires-clause-room : goal.answer_lines-requires-clause-room
answer_lines-requires-clause-room c =
    let opened = ok_is _ _ c.unwrap-roster.result c.unwrap-roster.ensures c.open.ensures in
    let dates = ap (λ (x : PhaseCalendar). phase_dates x.phases) opened.calendar' ∙ c.of_set-calendar.ensures.dates in
    let lawful = own_lawful c.args.plan.now c.of_set-calendar.result.phases c.of_set-calendar.ensures.dates c.of_set-calendar.ensures.spacings in
    let count = count_is c.args.plan.now c.group_count-group-end.result c.group_count-group-end.ensures in
    let l = c.loop-group in
    let due = next _ _ _ _ dates refl l.auto.group l.invariant.long l.invariant.roomy l.invariant.upto c.advance-answer.ensures.keeps in
    next_fits _ _ _ _ due lawful c.requires (omega (arith, l.auto.group-end, c.loop-group-test.true, count))

pub loop-group-preserved : goal.loop-group-preserved
loop-group-preserved c =
    let opened = ok_is _ _ c.unwrap-roster.result c.unwrap-roster.ensures c.open.ensures in
    let dates = ap (λ (x : PhaseCalendar). phase_dates x.phases) opened.calendar' ∙ c.of_set-calendar.ensures.dates in
    let l = c.loop-group in
    let due = next _ _ _ _ dates refl l.auto.group l.invariant.long l.invariant.roomy l.invariant.upto c.advance-answer.ensures.keeps in
    let last : l.group + 1 - 1 ≡ l.group = omega arith in
    rw last (record {
      upto = upto_next _ _ _ _ due c.answer_lines.ensures;
      long = c.advance-answer.ensures.room.0 ∙ l.invariant.long;
      roomy = c.advance-answer.ensures.room.1 ∙ l.invariant.roomy;
    })

pub returns : goal.returns
returns c =
    let some = count_some c.args.plan.now c.group_count-group-end.result c.group_count-group-end.ensures in
    absurd (omega (arith, c.loop-group-test.false, c.loop-group.auto.group-end some))

pub returns-2 : goal.returns-2
returns-2 c =
    let opened = ok_is _ _ c.unwrap-roster.result c.unwrap-roster.ensures c.open.ensures in
    let dates = ap (λ (x : PhaseCalendar). phase_dates x.phases) opened.calendar' ∙ c.of_set-calendar.ensures.dates in
    let lawful = own_lawful c.args.plan.now c.of_set-calendar.result.phases c.of_set-calendar.ensures.dates c.of_set-calendar.ensures.spacings in
    let count = count_is c.args.plan.now c.group_count-group-end.result c.group_count-group-end.ensures in
    let l = c.loop-group in
    let due = next _ _ _ _ dates refl l.auto.group l.invariant.long l.invariant.roomy l.invariant.upto c.advance-answer.ensures.keeps in
    let all : l.group ≡ (rack_of c.args.plan.now).group (rack_of c.args.plan.now).workers = omega (arith, count, c.if-group-group-end.false, c.loop-group-test.true) in
    upto_all _ _ _ _ lawful all (upto_next _ _ _ _ due c.answer_lines.ensures)
