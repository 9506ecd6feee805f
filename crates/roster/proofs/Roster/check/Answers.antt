use Rattle.std.proofs.Common.{ℕ, Some, subst, refl, ap, sym, ◌∙◌}
use Rattle.set.specs.declared.sets.Set.{Set}
use Rattle.plan.specs.Groups.{GroupIn, NoGroupIn}
use Rattle.refusal.specs.Refusals.{told}
use Rattle.refusal.specs.declared.Refusal.{Refusal}
use Rattle.refusal.specs.declared.Fault.TheVariants.{Memory}
use Rattle.refusal.specs.declared.Layer.TheVariants.{Running}
use Rattle.roster.proofs.Checking.{is_none, is_one, group_some, group_last, no_group, few_words, few_things, all_fine}
use Rattle.roster.proofs.Roster.check.Goals as goal

-- the refusal of lent memory, by its place
abbrev memory : ℕ → Refusal
memory place = record { fault = Memory; layer = Running; place = place }

pub returns-in_default : goal.returns-in_default
returns-in_default g c =
    let a = c.args in
    let none = subst (λ (set : Set). NoGroupIn set a.group) a.self.now.grouped c.in_default.ensures in
    no_group a.self.now.plan.now a.group a.words a.things (is_none a.self.now.plan.now a.group none) ∙ ap (λ e. Some (told e)) (sym c.at.ensures)

pub returns-then-words-lt-SHEET_WORDS : goal.returns-then-words-lt-SHEET_WORDS
returns-then-words-lt-SHEET_WORDS g c =
    let a = c.args in
    let inside = subst (λ (set : Set). GroupIn set a.group c.in-Some.workers.first c.in-Some.workers.last) a.self.now.grouped c.in-Some.ensures in
    few_words a.self.now.plan.now a.group a.words a.things (is_one a.self.now.plan.now a.group _ _ inside) c.if-words-lt-SHEET_WORDS.true ∙ ap (λ e. Some (told e)) (sym (c.at-then-words-lt-SHEET_WORDS.ensures ∙ ap memory c.place.ensures))

pub returns-then-things-lt-SCRATCH_RUNS : goal.returns-then-things-lt-SCRATCH_RUNS
returns-then-things-lt-SCRATCH_RUNS g c =
    let a = c.args in
    let inside = subst (λ (set : Set). GroupIn set a.group c.in-Some.workers.first c.in-Some.workers.last) a.self.now.grouped c.in-Some.ensures in
    few_things a.self.now.plan.now a.group a.words a.things (is_one a.self.now.plan.now a.group _ _ inside) c.if-words-lt-SHEET_WORDS.false c.if-things-lt-SCRATCH_RUNS.true
    ∙ ap (λ e. Some (told e)) (sym (c.at-then-things-lt-SCRATCH_RUNS.ensures ∙ ap memory c.place-then-things-lt-SCRATCH_RUNS.ensures))

pub invariant_of-result : goal.invariant_of-result
invariant_of-result g c =
    let a = c.args in
    record { inside = subst (λ (set : Set). GroupIn set a.group c.in-Some.workers.first c.in-Some.workers.last) a.self.now.grouped c.in-Some.ensures }

pub returns : goal.returns
returns g c =
    let a = c.args in
    let plan = a.self.now.plan.now in
    let inside = subst (λ (set : Set). GroupIn set a.group c.in-Some.workers.first c.in-Some.workers.last) a.self.now.grouped c.in-Some.ensures in
    let is = is_one plan a.group _ _ inside in
    (all_fine plan a.group a.words a.things is c.if-words-lt-SHEET_WORDS.false c.if-things-lt-SCRATCH_RUNS.false, (refl, record { plan' = refl; some = group_some plan a.group is; few = group_last plan a.group is }))
