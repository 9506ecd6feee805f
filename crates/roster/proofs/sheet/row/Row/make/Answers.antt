use Rattle.std.proofs.Common.{ℕ, Bool, [], refl, sym, ◌∙◌, arith}
use Rattle.std.proofs.lemmas.Bool.{ne_eqb}
use Rattle.book.specs.Sheets.{Says}
use Rattle.roster.specs.Spans.{spans_of}
use Rattle.roster.proofs.sheet.row.Row.make.Goals as goal

-- no spans say all of no parts
says_none : (has : ℕ → ℕ → Bool) → Says 0 has []
says_none has = record { tiles = refl; says = λ i x some l. absurd (omega arith) }

pub returns-clause-says : goal.returns-clause-says
returns-clause-says g c = λ has divides.
    let ends = c.args.ends in
    let none : Says 0 has (spans_of c.clear.new.self) = rw c.clear.ensures.none (says_none has) in
    let front = c.reach.ensures.says has (λ i x some low high. divides.front i x some high) none in
    let turns = c.take_turns-reached.ensures.says has divides.turns front in
    let idle = c.reach-2.ensures.says has (λ i x some low high. ne_eqb 0 i (λ e. omega arith) ∙ sym (divides.idle i x some (omega (arith, c.take_turns-reached.ensures.ends)) high)) turns in
    c.reach-3.ensures.says has divides.back idle
