use Rattle.std.proofs.Common.{sym, ◌∙◌, arith}
use Rattle.placement.proofs.Keeps.{heavies_le}
use Rattle.placement.proofs.Steps.{slot_weight, heavies_same, light_told, cursor_moves, cursor_ready, moved_ready}
use Rattle.placement.proofs.seating.Walk.seat.Goals as goal

pub overflow_add-self : goal.overflow_add-self
overflow_add-self c =
    let set = c.args.counted.now.grouping.set.now in
    omega (arith, c.requires.heavies, heavies_le set c.args.i, c.requires.model, set.sizes.few_models)

pub seat-requires : goal.seat-requires
seat-requires c =
    let counted = c.args.counted.now in
    let set = counted.grouping.set.now in
    let weighs = slot_weight set c.args.i _ c.known_weight-weight.ensures.is in
    let ready = cursor_ready set c.args.i _ _ weighs c.is_heavy.ensures c.if-is_heavy.false c.args.self.now.cursor c.requires.cursor counted.grouping.alone counted.grouping.counted c.requires.model counted.roomy c.requires.before in
    record {
      floor = ready.0;
      last = ready.1;
      room = ready.2;
      light = c.known_weight-weight.ensures.fits;
    }

pub moved-self-requires : goal.moved-self-requires
moved-self-requires c =
    let counted = c.args.counted.now in
    let set = counted.grouping.set.now in
    let weighs = slot_weight set c.args.i _ c.known_weight-weight.ensures.is in
    let same = light_told set c.args.i _ _ weighs c.is_heavy.ensures c.if-is_heavy.false c.args.self.now.cursor c.requires.cursor counted.grouping.alone counted.grouping.counted in
    let ready = moved_ready set c.args.i _ _ weighs c.is_heavy.ensures c.if-is_heavy.false c.args.self.now.cursor c.requires.cursor counted.grouping.alone counted.grouping.counted c.requires.model counted.roomy c.requires.before c.in_ok-seated.seated c.in_ok-seated.ensures.1 (sym same ∙ c.in_ok-seated.ensures.0) in
    record { worker = omega (arith, ready.0, set.sizes.few_workers); load = omega (arith, ready.1, set.sizes.small_grain) }

pub returns-clause-heavies : goal.returns-clause-heavies
returns-clause-heavies c =
    let set = c.args.counted.now.grouping.set.now in
    let weighs = slot_weight set c.args.i _ c.known_weight-weight.ensures.is in
    c.requires.heavies ∙ sym (heavies_same set c.args.i _ _ weighs c.is_heavy.ensures c.if-is_heavy.false)

pub returns-clause-cursor : goal.returns-clause-cursor
returns-clause-cursor c =
    let counted = c.args.counted.now in
    let set = counted.grouping.set.now in
    let weighs = slot_weight set c.args.i _ c.known_weight-weight.ensures.is in
    c.moved-self.ensures ∙ cursor_moves set c.args.i _ _ weighs c.is_heavy.ensures c.if-is_heavy.false c.args.self.now.cursor c.requires.cursor counted.grouping.alone counted.grouping.counted c.in_ok-seated.seated c.in_ok-seated.ensures.1
