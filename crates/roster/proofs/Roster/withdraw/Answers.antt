use Rattle.std.proofs.Common.{Some, sym, ap, ◌∙◌, refl}
use mathlib.Core.Logic.{∥∥₁_map}
use Rattle.refusal.specs.Refusals.{told}
use Rattle.book.specs.Racks.{rack_of}
use Rattle.book.specs.Books.{without}
use Rattle.book.specs.Calls.{Withdrew, withdraws}
use Rattle.roster.specs.Records.{met, phase_at, altered}
use Rattle.roster.specs.declared.event.Event.TheVariants.{Withdrawal}
use Rattle.roster.proofs.Keeping.{keeps_so}
use Rattle.roster.proofs.Withdrawing.{has_model, no_model, about_none, about_gone, about_kept, phase_gone, phase_kept, withdrawn_says, refused}
use Rattle.roster.proofs.Roster.withdraw.Goals as goal

pub returns-in_default-clause-keeps : goal.returns-in_default-clause-keeps
returns-in_default-clause-keeps g c =
    let x = c.args.self.now in
    refused x _ _ (λ b tells. about_none (rack_of x.plan.now) (g.C.Calendar.dates x.calendar.now) b _ (no_model x.plan.now _ c.in_default.ensures) ∙ ap (λ e. Some (told e)) (sym c.at.ensures)) _ refl

pub returns-in-Withdrawn-clause-keeps : goal.returns-in-Withdrawn-clause-keeps
returns-in-Withdrawn-clause-keeps g c =
    let x = c.args.self.now in
    let some = c.in-Some.ensures in
    let model = has_model x.plan.now c.args.model some.0 in
    let is = ap (phase_at x.models.records) (sym some.1) ∙ sym c.phase.ensures ∙ c.in-Withdrawn.is in
    refused x _ _ (λ b tells. about_gone (rack_of x.plan.now) (g.C.Calendar.dates x.calendar.now) b _ model (phase_gone (rack_of x.plan.now) (g.C.Calendar.dates x.calendar.now) b _ (sym (tells.phases _ model) ∙ is)) ∙ ap (λ e. Some (told e)) (sym c.at-in-Withdrawn.ensures)) _ refl

pub invariant_of-self : goal.invariant_of-self
invariant_of-self g c =
    let x = c.args.self.now in
    let dates = g.C.Calendar.dates x.calendar.now in
    let some = c.in-Some.ensures in
    let model = has_model x.plan.now c.args.model some.0 in
    let is = c.meet.ensures ∙ ap (λ k. altered x.models.records k (λ p. met p Withdrawal)) some.1 in
    record {
      groups = x.groups;
      flags = x.flags;
      chained = x.chained;
      grouped = x.grouped;
      spaced = x.spaced;
      booked = ∥∥₁_map x.booked (λ t.
          let b = t.0 in
          let kept = phase_kept (rack_of x.plan.now) dates b _ (λ gone. c.in_default-phase.not-Withdrawn (c.phase.ensures ∙ ap (phase_at x.models.records) some.1 ∙ t.1.phases _ model ∙ gone)) in
          (without b c.args.model, withdrawn_says x.models.records _ b _ t.1 x.models.full model (about_kept (rack_of x.plan.now) dates b _ model kept) is));
    }

pub returns : goal.returns
returns g c =
    let x = c.args.self.now in
    let dates = g.C.Calendar.dates x.calendar.now in
    let some = c.in-Some.ensures in
    let model = has_model x.plan.now c.args.model some.0 in
    let is = c.meet.ensures ∙ ap (λ k. altered x.models.records k (λ p. met p Withdrawal)) some.1 in
    record {
      keeps = keeps_so refl refl refl (λ b tells.
          let kept = phase_kept (rack_of x.plan.now) dates b _ (λ gone. c.in_default-phase.not-Withdrawn (c.phase.ensures ∙ ap (phase_at x.models.records) some.1 ∙ tells.phases _ model ∙ gone)) in
          let fine = about_kept (rack_of x.plan.now) dates b _ model kept in
          record { answer = Withdrew; after = without b c.args.model; step = withdraws c.args.model fine; gives' = refl; is = withdrawn_says x.models.records _ b _ tells x.models.full model fine is });
      unchanged = tt;
    }
