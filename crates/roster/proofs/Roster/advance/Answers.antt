use Rattle.std.proofs.Common.{◌≡◌, ◌-◌, ◌+◌, ◌*◌, ◌^◌, ◌≤◌, ap, ◌∙◌, refl, subst, length, arith}
use mathlib.Core.Logic.{∥∥₁_elim, ∥∥₁_map}
use Rattle.std.proofs.Props.{props}
use Rattle.std.proofs.lemmas.Result.{err_from_is_err_and}
use Rattle.std.proofs.lemmas.Nat.{mul-le}
use Rattle.std.proofs.lemmas.List.{length-set}
use Rattle.std.specs.Prelude.{slice_index}
use Rattle.refusal.specs.Refusals.{told}
use Rattle.book.specs.Sheets.{Sheet}
use Rattle.book.specs.Books.{entered}
use Rattle.book.specs.Calls.{Advanced}
use Rattle.book.proofs.Racks.{rack_of-IsRack}
use Rattle.roster.specs.Records.{phase_at, served_in}
use Rattle.roster.specs.Tables.{rows_of}
use Rattle.roster.proofs.Reports.{lawful_over, small}
use Rattle.roster.proofs.Keeping.{keeps_so}
use Rattle.roster.proofs.Checking.{lent_enough}
use Rattle.roster.proofs.Parts.{rows_rise, all_rise-prop, gets_few, gets_model}
use Rattle.roster.proofs.Advancing.{advance_declines, advance_rests, sheet, advanced}
use Rattle.roster.proofs.Roster.advance.Goals as goal

pub returns-in_err-group-clause-keeps : goal.returns-in_err-group-clause-keeps
returns-in_err-group-clause-keeps g c =
    let p = err_from_is_err_and c.from_residual.result c.from_residual.ensures.1 in
    rw (p.1, p.2) (advance_declines c.args.self.now c.args.group c.args.sheet.now c.args.scratch.now c.in_err-group.field-0.0 c.in_err-group.ensures)

pub returns-in_default-clause-keeps : goal.returns-in_default-clause-keeps
returns-in_default-clause-keeps g c =
    let x = c.args.self.now in
    let w = c.in_ok-group in
    let fine = rw (← w.ensures.1.0) at w.ensures.0 in
    rw (← w.ensures.1.0) (advance_rests x w.group.number c.args.sheet.now c.args.scratch.now c.at.result fine (ap told c.at.ensures) c.in_default.ensures.next)

pub serve-requires : goal.serve-requires
serve-requires g c =
    let x = c.args.self.now in
    let sizes = x.plan.now.set.sizes in
    let ok = rack_of-IsRack x.plan.now in
    let dates = g.C.Calendar.dates x.calendar.now in
    let precedes = g.O.Order.precedes x.order.now in
    let lawful = lawful_over (g.met.C.Calendar.laws x.calendar.now) (g.met.O.Order.laws x.order.now) x.spaced in
    let group = c.in_ok-group.group in
    let ticks = c.in-Some.end - slice_index x.presents (group.number - 1) in
    let first = group.workers.first in
    let rows = rows_of c.rows-rows.result in
    record {
      rises = ∥∥₁_elim x.booked (all_rise-prop rows) (λ t. rows_rise ok dates precedes t.0 ticks first rows (c.rows-rows.ensures.rows t.0 t.1));
      room = λ k l some. ∥∥₁_elim x.booked (hlevel props) (λ t.
          let are = c.rows-rows.ensures.rows t.0 t.1 in
          let e : k + 1 - 1 ≡ k = omega arith in
          let model = gets_model ok dates precedes t.0 ticks first rows are (k + 1) (omega arith) some in
          let few = subst (λ j. served_in (phase_at x.models.records j) ≤ 100800 * 100800) e (small t.0 t.1 (k + 1) model (g.C.Calendar.spacings x.calendar.now) lawful) in
          omega (arith, few, gets_few ok dates precedes t.0 ticks first rows are (k + 1) (omega arith), mul-le sizes.grain ticks 100800 (2 ^ 32) sizes.small_grain (omega arith)));
    }

pub invariant_of-self : goal.invariant_of-self
invariant_of-self g c =
    let x = c.args.self.now in
    let lawful = lawful_over (g.met.C.Calendar.laws x.calendar.now) (g.met.O.Order.laws x.order.now) x.spaced in
    let w = c.in_ok-group in
    let rows = rows_of c.rows-rows.result in
    let fine = rw (← w.ensures.1.0) at w.ensures.0 in
    record {
      groups = length-set x.presents (w.group.number - 1) c.in-Some.end ∙ x.groups;
      flags = length-set x.mirrored (w.group.number - 1) _ ∙ x.flags;
      chained = x.chained;
      grouped = x.grouped;
      spaced = x.spaced;
      booked = ∥∥₁_map x.booked (λ t.
          let done = advanced x (g.C.Calendar.spacings x.calendar.now) lawful w.group w.ensures.1.1 c.in-Some.end (length c.args.sheet.now) (length c.args.scratch.now) rows c.serve.new.self.records c.settle.new.models.records fine c.rows-rows.ensures.all
          c.serve.ensures c.coming-coming.result.dates c.coming-coming.ensures c.settle.ensures t.0 t.1 (c.in-Some.ensures.next t.0 t.1) (c.rows-rows.ensures.rows t.0 t.1) in
          (entered t.0 (sheet x (g.C.Calendar.spacings x.calendar.now) lawful w.group w.ensures.1.1 c.in-Some.end (length c.args.sheet.now) (length c.args.scratch.now) rows c.serve.new.self.records c.settle.new.models.records fine c.rows-rows.ensures.all), done.1));
    }

pub returns-clause-keeps : goal.returns-clause-keeps
returns-clause-keeps g c =
    let x = c.args.self.now in
    let lawful = lawful_over (g.met.C.Calendar.laws x.calendar.now) (g.met.O.Order.laws x.order.now) x.spaced in
    let w = c.in_ok-group in
    let rows = rows_of c.rows-rows.result in
    let fine = rw (← w.ensures.1.0) at w.ensures.0 in
    let s : Sheet = record { group = w.group.number; start = slice_index x.presents (w.group.number - 1); end = c.in-Some.end; first = w.group.workers.first; rows = rows } in
    rw (← w.ensures.1.0) (keeps_so refl refl refl (λ b tells.
    let done = advanced x (g.C.Calendar.spacings x.calendar.now) lawful w.group w.ensures.1.1 c.in-Some.end (length c.args.sheet.now) (length c.args.scratch.now) rows c.serve.new.self.records c.settle.new.models.records fine c.rows-rows.ensures.all
    c.serve.ensures c.coming-coming.result.dates c.coming-coming.ensures c.settle.ensures b tells (c.in-Some.ensures.next b tells) (c.rows-rows.ensures.rows b tells) in
    record {
      answer = Advanced s;
      after = entered b s;
      step = done.0;
      gives' = record { agrees = (s, (refl, ap (λ n. (s.start, s.end, s.first, n)) c.write-written.ensures.counts)); leaves = record { in_words = c.write-written.ensures.writes; in_scratch = c.rows-rows.ensures.scratch } };
      is = done.1;
    }))

pub rows-rows-requires-clause-room : goal.rows-rows-requires-clause-room
rows-rows-requires-clause-room g c = (lent_enough c.args.self.now.plan.now c.args.group (length c.args.sheet.now) (length c.args.scratch.now) c.in_ok-group.ensures.0).1
