use Rattle.std.proofs.Common.{◌+◌, ◌∙◌, ap, refl, sym, drop, arith}
use Rattle.std.proofs.lemmas.List.{length-set, drop-set-lt, drop-drop}
use Rattle.book.specs.Laws.{Lawful}
use Rattle.season.specs.declared.entry.Entry.{Entry}
use Rattle.season.proofs.Performing.{told_none, told_more, told_all}
use Rattle.season.proofs.perform.Goals as goal

pub loop-entry-init : goal.loop-entry-init
loop-entry-init g c = record { told = told_none _ _ _ _ c.in_ok-roster.ensures.1; rest = refl; long = refl }

pub loop-entry-preserved : goal.loop-entry-preserved
loop-entry-preserved g c =
    let l = c.loop-entry in
    let k = l.entry-index in
    record {
      told = told_more _ _ _ c.args.entries.now l.entries _ _ k _ c.perform.new.self c.loop-entry-test.true l.invariant.long l.invariant.rest l.invariant.told c.perform.ensures;
      rest = drop-set-lt (k + 1) l.entries k c.perform.new.self (omega arith) ∙ sym (drop-drop 1 k l.entries) ∙ ap (drop {A = Entry} 1) l.invariant.rest ∙ drop-drop 1 k c.args.entries.now;
      long = length-set l.entries k c.perform.new.self ∙ l.invariant.long;
    }

pub returns-clause-performs : goal.returns-clause-performs
returns-clause-performs g c =
    let l = c.loop-entry in
    let fine = c.in_ok-roster.ensures.0 in
    let lawful : Lawful c.args.plan.now (g.C.Calendar.dates c.args.calendar.now) (g.C.Calendar.spacings c.args.calendar.now) (g.O.Order.precedes c.args.order.now) = record { calendar = g.met.C.Calendar.laws c.args.calendar.now; order = g.met.O.Order.laws c.args.order.now; spaced = fine } in
    (fine, told_all c.args.plan.now c.args.calendar.now c.args.order.now (g.C.Calendar.spacings c.args.calendar.now) lawful c.args.entries.now l.entries l.roster l.entry-index c.loop-entry-test.false l.invariant.long l.invariant.told)
