use Rattle.std.proofs.Common.{◌≡◌, ◌++◌, decimal, rules}
use Rattle.std.proofs.Math.Logic.{⊎_map}
use Rattle.book.specs.Reading.{row_from}
use Rattle.printout.specs.Texts.{row_text}
use Rattle.printout.proofs.Begun.{Begun, begun, begun_more, begun_all, last_fits}
use Rattle.printout.proofs.Rows.{spans_text, span_fits, spans_more, spans_end}
use Rattle.printout.proofs.groups.row_line.Goals as goal

pub loop-end-init : goal.loop-end-init
loop-end-init c =
    let all = row_text c.args.worker (row_from c.args.ends.now c.args.models.now) in
    let spans = spans_text c.args.ends.now c.args.models.now in
    let first : Begun c.args.page.now all (decimal c.args.worker ++ spans) c.put.new.self = begun _ c.put.ensures in
    let second : Begun c.args.page.now all spans c.number.new.self = begun_more _ first c.number.ensures in
    let ends : c.into_iter-end-iterator.result.a.rest.now ≡ c.args.ends.now = search rules in
    let models : c.into_iter-end-iterator.result.b.rest.now ≡ c.args.models.now = search rules in
    rw (ends, models) (record { begun' = second; level = c.requires.long })

pub span_words-requires : goal.span_words-requires
span_words-requires c =
    let e = c.in-Some.ensures.steps in
    span_fits _ _ c.requires.room (rw (e.0, e.1) at c.loop-end.invariant)

pub loop-end-preserved : goal.loop-end-preserved
loop-end-preserved c =
    let e = c.in-Some.ensures.steps in
    spans_more _ _ (rw (e.0, e.1) at c.loop-end.invariant) c.span_words.ensures

pub put-requires-2 : goal.put-requires-2
put-requires-2 c =
    let end = spans_end (⊎_map (λ h. h.1.0) (λ h. h.1.0) c.in-None.ensures.steps) c.loop-end.invariant in
    last_fits _ end c.requires.room

pub returns : goal.returns
returns c =
    let end = spans_end (⊎_map (λ h. h.1.0) (λ h. h.1.0) c.in-None.ensures.steps) c.loop-end.invariant in
    begun_all _ end c.put-2.ensures
