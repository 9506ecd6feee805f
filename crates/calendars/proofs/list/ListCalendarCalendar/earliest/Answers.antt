use Rattle.std.proofs.Common.{◌≡◌, ◌-◌, ◌∙◌, length, drop, nat_lt, rules, tests, arith}
use Rattle.std.specs.Option.{option_map}
use Rattle.std.proofs.lemmas.Iterator.{YieldsList-from_slice, first_from_find}
use Rattle.std.proofs.lemmas.List.{take_all, length-drop}
use Rattle.std.proofs.lemmas.List.Sorted.{IsPartitionPoint-from_clause, IsPartitionedBy-ltb}
use Rattle.kinds.specs.declared.entries.Entry.{Entry}
use Rattle.dates.proofs.Lists.{none_so}
use Rattle.dates.proofs.Finds.{rising, found_first}
use Rattle.calendars.proofs.list.ListCalendarCalendar.earliest.Goals as goal

pub returns : goal.returns
returns c =
    let entries = c.args.self.now.entries.now in
    let from = c.args.from in
    let start = c.partition_point-start.result in
    let sound = none_so _ c.args.self.now.sound in
    let sorted = IsPartitionedBy-ltb (λ (e : Entry). e.tick) entries from (rising c.args.self.now.spacings entries sound) in
    let point = IsPartitionPoint-from_clause (λ (e : Entry). nat_lt e.tick from) entries start c.partition_point-start.ensures.partitioned sorted (λ a r q k. search rules) in
    let rest = c.iter.ensures.rest ∙ take_all (length entries - start) (drop start entries) (omega (arith, length-drop start entries)) in
    let found = first_from_find _ _ c.find.result (λ (e : Entry). e.model ≡ c.args.model) (λ (e : Entry). e.model ≡ c.args.model → ⊥) c.find.ensures.ran (YieldsList-from_slice (drop start entries) rest) (λ x q k. search (rules, tests)) (λ x q k. search (rules, tests)) in
    let same : c.map.result ≡ option_map (λ x. x.now.tick) c.find.result = search rules in
    let answer = found_first c.args.self.now.spacings entries sound c.args.model from start point (λ x. x.now) c.find.result found c.map.result same in
    record { date = answer.0; none = answer.1 }
