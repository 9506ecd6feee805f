use Rattle.std.proofs.Common.{◌≡◌, ◌+◌, ℕ, List, [], ◌∷◌, ◌++◌, length, map, take, drop, sym, ap, ◌∙◌, length-append, arith}
use Rattle.std.proofs.lemmas.List.{length-map, length-take-le}
use Rattle.roster.specs.declared.sheet.span.Span.{Span}
use Rattle.roster.specs.declared.sheet.rows.Rows.{Rows}
use Rattle.roster.specs.Tables.{rows_of, words_in}
use Rattle.roster.proofs.Words.{words_of_pieces, written}
use Rattle.roster.proofs.sheet.rows.Rows.write.Goals as goal

abbrev sizes : Rows → List ℕ
sizes t = take t.count t.sizes

abbrev ends : Rows → List ℕ
ends t = map (λ (span : Span). span.end) (take t.total t.spans)

abbrev models : Rows → List ℕ
models t = map (λ (span : Span). span.model) (take t.total t.spans)

few : (t : Rows) → length (sizes t) ≡ t.count
few t = length-take-le t.count t.sizes (omega (arith, t.few, t.full_sizes))

all : (t : Rows) → length (take t.total t.spans) ≡ t.total
all t = length-take-le t.total t.spans (omega (arith, t.small, t.full_spans))

words : (t : Rows) → words_in (rows_of t) ≡ (((t.count ∷ []) ++ sizes t) ++ ends t) ++ models t
words t = words_of_pieces (sizes t) (take t.total t.spans) (t.adds ∙ sym (all t)) ∙ ap (λ n. (((n ∷ []) ++ sizes t) ++ ends t) ++ models t) (few t)

many : (t : Rows) → length (words_in (rows_of t)) ≡ 1 + t.count + t.total + t.total
many t = ap length (words t) ∙ omega (arith, length-append (((t.count ∷ []) ++ sizes t) ++ ends t) (models t), length-append ((t.count ∷ []) ++ sizes t) (ends t), few t, all t, length-map (take t.total t.spans) (λ (span : Span). span.end), length-map (take t.total t.spans) (λ (span : Span). span.model))

pub returns-clause-writes : goal.returns-clause-writes
returns-clause-writes c =
    let t = c.args.self.now in
    let ended : length (ends t) ≡ t.total = length-map (take t.total t.spans) (λ (span : Span). span.end) ∙ all t in
    let named : length (models t) ≡ t.total = length-map (take t.total t.spans) (λ (span : Span). span.model) ∙ all t in
    rw (c.put_sizes.ensures, c.put_ends.ensures, c.put_models.ensures)
    (written c.args.sheet.now t.count t.total (sizes t) (ends t) (models t) (omega (arith, c.requires)) (few t) ended named
    ∙ ap (λ n. ((((t.count ∷ []) ++ sizes t) ++ ends t) ++ models t) ++ drop n c.args.sheet.now) (sym (many t))
    ∙ ap (λ ws. ws ++ drop (length (words_in (rows_of t))) c.args.sheet.now) (sym (words t)))

pub returns-clause-counts : goal.returns-clause-counts
returns-clause-counts c = sym (many c.args.self.now)
