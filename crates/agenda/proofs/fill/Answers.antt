use Rattle.std.proofs.Common.{Some, length, sym, ap, ◌∙◌}
use Rattle.queue.specs.Queues.{things_of}
use Rattle.refusal.specs.Refusals.{told}
use Rattle.dates.proofs.Agendas.{agenda_of-IsAgenda}
use Rattle.agenda.proofs.Filled.{some_wait, all_counted, all_fit, all_filled, crowded, first_filled}
use Rattle.agenda.proofs.fill.Goals as goal

pub returns-then-not-is_empty-clause-answers : goal.returns-then-not-is_empty-clause-answers
returns-then-not-is_empty-clause-answers g c =
    let laws = g.met.C.Calendar.laws c.args.calendar.now in
    let some = some_wait c.is_empty.result (length (things_of c.merge-count.new.queue)) c.if-not-is_empty.true c.is_empty.ensures.1 in
    rw (c.in_ok-check.ensures.0) (crowded laws _ _ _ _ _ _ c.merge-count.ensures.gives some ∙ ap (λ r. Some (told r)) (sym c.at.ensures))

pub returns-then-not-is_empty-clause-fills : goal.returns-then-not-is_empty-clause-fills
returns-then-not-is_empty-clause-fills g c =
    let laws = g.met.C.Calendar.laws c.args.calendar.now in
    let some = some_wait c.is_empty.result (length (things_of c.merge-count.new.queue)) c.if-not-is_empty.true c.is_empty.ensures.1 in
    rw (c.in_ok-check.ensures.0) (first_filled laws _ _ _ _ _ _ c.merge-count.ensures.gives some)

pub returns-clause-answers : goal.returns-clause-answers
returns-clause-answers g c =
    let laws = g.met.C.Calendar.laws c.args.calendar.now in
    let none = c.is_empty.ensures.0 c.if-not-is_empty.false in
    (rw (c.in_ok-check.ensures.0) (all_fit laws _ _ _ _ _ _ c.merge-count.ensures.gives none), all_counted laws _ _ _ _ _ _ c.merge-count.ensures.gives none)

pub returns-clause-fills : goal.returns-clause-fills
returns-clause-fills g c =
    let laws = g.met.C.Calendar.laws c.args.calendar.now in
    let none = c.is_empty.ensures.0 c.if-not-is_empty.false in
    rw (c.in_ok-check.ensures.0) (all_filled laws _ _ _ _ _ _ c.merge-count.ensures.gives none)

pub returns-in_err-check-clause-whole : goal.returns-in_err-check-clause-whole
returns-in_err-check-clause-whole g c = agenda_of-IsAgenda (g.met.C.Calendar.laws c.args.calendar.now) c.args.span.start c.args.span.end

pub returns-then-not-is_empty-clause-whole : goal.returns-then-not-is_empty-clause-whole
returns-then-not-is_empty-clause-whole g c = agenda_of-IsAgenda (g.met.C.Calendar.laws c.args.calendar.now) c.args.span.start c.args.span.end

pub returns-clause-whole : goal.returns-clause-whole
returns-clause-whole g c = agenda_of-IsAgenda (g.met.C.Calendar.laws c.args.calendar.now) c.args.span.start c.args.span.end
