use Rattle.std.proofs.Common.{length}
use Rattle.std.proofs.lemmas.Iterator.{YieldsList-from_slice, YieldsList-from_zip}
use Rattle.std.proofs.lemmas.Iterator.Consumers.{YieldsList-from_enumerate, YieldsList-turn}
use Rattle.std.proofs.lemmas.List.{length_push}
use Rattle.std.proofs.lemmas.Result.{err_from_is_err_and}
use Rattle.refusal.proofs.Firsts.{first_more, first_stays}
use Rattle.set.proofs.Slots.{item}
use Rattle.set.proofs.figures.Figures.check_models.Goals as goal

pub returns-in_err-check_model : goal.returns-in_err-check_model
returns-in_err-check_model c =
    let costs = c.args.self.now.costs.now in
    let periods = c.args.self.now.periods.now in
    let t = YieldsList-turn (YieldsList-from_enumerate (YieldsList-from_zip (YieldsList-from_slice costs cc) (YieldsList-from_slice periods cc)) cc) c.loop-i.yielded _ c.loop-i.yielded_by _ c.next.new.self _ c.in-Some.is c.next.ensures.steps in
    let at = item costs periods (length c.loop-i.yielded) c.in-Some.i _ _ c.requires t in
    let p = err_from_is_err_and c.from_residual.result c.from_residual.ensures.1 in
    rw (p.1, p.2)
    (first_stays _ _ (length c.loop-i.yielded) _ at.0 c.loop-i.invariant (rw (at.1, at.2, at.3) at c.in_err-check_model.ensures))

pub loop-i-preserved : goal.loop-i-preserved
loop-i-preserved c =
    let costs = c.args.self.now.costs.now in
    let periods = c.args.self.now.periods.now in
    let t = YieldsList-turn (YieldsList-from_enumerate (YieldsList-from_zip (YieldsList-from_slice costs cc) (YieldsList-from_slice periods cc)) cc) c.loop-i.yielded _ c.loop-i.yielded_by _ c.next.new.self _ c.in-Some.is c.next.ensures.steps in
    let at = item costs periods (length c.loop-i.yielded) c.in-Some.i _ _ c.requires t in
    rw (length_push c.loop-i.yielded _)
    (first_more _ (length c.loop-i.yielded) c.loop-i.invariant (rw (at.1, at.2, at.3) at c.in_ok-check_model.ensures.0))
