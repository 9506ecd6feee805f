-- How much room the lines of all groups take.
use Rattle.std.proofs.Common.{◌≡◌, ℕ, zero, suc, ◌+◌, ◌-◌, ◌*◌, ◌^◌, ◌<◌, ◌≤◌, Bool, List, [], ◌∷◌, ◌++◌, length, map, None, codes, decimal, inl, inr, refl, ap, ◌∙◌, lit≤, arith}
use Rattle.std.specs.Bool.{IsTrue}
use Rattle.std.specs.List.{All, flat_map, range_with_len}
use Rattle.std.proofs.lemmas.Bool.{cases_lt, and_from, le-leb}
use Rattle.std.proofs.lemmas.Fmt.{length-decimal-le}
use Rattle.std.proofs.lemmas.List.{length-append}
use Rattle.std.proofs.lemmas.List.Elements.{All-head, All-tail}
use Rattle.std.proofs.lemmas.Nat.{mul-le}
use Rattle.refusal.proofs.Firsts.{not_both}
use Rattle.set.specs.Heavy.{heavy_count_of}
use Rattle.kinds.specs.declared.runs.Run.{Run}
use Rattle.plan.specs.declared.plans.Plan.{Plan}
use Rattle.plan.specs.Groups.{Group}
use Rattle.plan.proofs.Spans.{group_rises, counts}
use Rattle.book.specs.Sums.{total}
use Rattle.book.specs.Racks.{Rack, rack_of}
use Rattle.book.specs.Sheets.{Span, Row, Sheet}
use Rattle.book.specs.Books.{Book, blank}
use Rattle.book.specs.Turns.{IsNext}
use Rattle.book.specs.Calls.{Advance, Answer, Step, declines, advances, rests, Leads, ends, goes, about, is_group}
use Rattle.book.specs.Laws.{Lawful, FitsWords}
use Rattle.book.proofs.Sums.{total_add, total_same}
use Rattle.book.proofs.Racks.{IsRack, rack_of-IsRack}
use Rattle.book.proofs.Rows.{spans_in}
use Rattle.book.proofs.Exists.{moment_early}
use Rattle.book.proofs.Fits.{stands, stands_split, models_stand, rows_spans, rows_within, sheet_fits}
use Rattle.printout.specs.Lines.{spaced, line_of}
use Rattle.printout.specs.Texts.{span_text, row_text, rows_text, sheet_text, answer_text}
use Rattle.printout.specs.Printing.{one_of_each}
use Rattle.printout.proofs.Lengths.{length_spaced_le, length_line_le}

-- the numbers of a span fit words
abbrev Narrow : Span → Type 0
Narrow span = (span.end ≤ 2 ^ 64 - 1) × (span.model ≤ 2 ^ 64 - 1)

abbrev NarrowRow : Row → Type 0
NarrowRow row = (length row ≤ 2 ^ 64 - 1) × All Narrow row

span_most : (span : Span) → Narrow span → length (span_text span) ≤ 42
span_most span narrow =
    let end = length_spaced_le 20 span.end (omega arith) (omega (arith, narrow.0)) (omega (arith, narrow.0)) in
    let model = length-decimal-le 20 span.model (omega arith) (omega (arith, narrow.1)) (omega (arith, narrow.1)) in
    omega (arith, end, model, length-append (spaced span.end) (codes ":" ++ decimal span.model))

spans_most : (row : Row) → All Narrow row → length (flat_map span_text row) ≤ 42 * length row
spans_most [] narrow = omega arith
spans_most (span ∷ row) narrow =
    omega (arith, span_most span (All-head Narrow span row narrow), spans_most row (All-tail Narrow span row narrow), length-append (span_text span) (flat_map span_text row))

-- beside its spans a row has its word, the worker's number of at most ten digits, and the end of the line
row_most : (worker : ℕ) (row : Row) → worker < 2 ^ 32 → All Narrow row → length (row_text worker row) ≤ 15 + 42 * length row
row_most worker row small narrow =
    let number = length_spaced_le 10 worker (omega arith) (omega arith) (omega arith) in
    let spans = flat_map span_text row in
    omega (arith, number, spans_most row narrow, length-append (spaced worker) (spans ++ (10 ∷ [])), length-append spans (10 ∷ []))

rows_most : (worker : ℕ) (rows : List Row) → worker + length rows ≤ 2 ^ 32 → All NarrowRow rows → length (rows_text worker rows) ≤ 15 * length rows + 42 * spans_in rows
rows_most worker [] small narrow = omega arith
rows_most worker (row ∷ rows) small narrow =
    omega (arith, row_most worker row (omega arith) (All-head NarrowRow row rows narrow).1, rows_most (worker + 1) rows (omega arith) (All-tail NarrowRow row rows narrow), length-append (row_text worker row) (rows_text (worker + 1) rows))

-- three numbers of at most ten digits
group_most : (g start end : ℕ) → g < 2 ^ 32 → start < 2 ^ 32 → end < 2 ^ 32 → length (line_of (codes "group") (g ∷ (start ∷ (end ∷ [])))) ≤ 39
group_most g start end a b c = length_line_le 10 (codes "group") (g ∷ (start ∷ (end ∷ []))) (omega arith) (lit≤ tt) (omega arith, (omega arith, (omega arith, tt)))

rest_most : (g : ℕ) → g < 2 ^ 32 → length (line_of (codes "rest") (g ∷ [])) ≤ 39
rest_most g small = let line = length_line_le 10 (codes "rest") (g ∷ []) (omega arith) (lit≤ tt) (omega arith, tt) in omega arith

sheet_most : (s : Sheet) → s.group < 2 ^ 32 → s.first + length s.rows ≤ 2 ^ 32 → FitsWords s → All NarrowRow s.rows → length (sheet_text s) ≤ 39 + 15 * length s.rows + 42 * spans_in s.rows
sheet_most s group small fits narrow =
    omega (arith, group_most s.group s.start s.end group fits.start' fits.end', rows_most s.first s.rows small narrow, length-append (line_of (codes "group") (s.group ∷ (s.start ∷ (s.end ∷ [])))) (rows_text s.first s.rows))

module _ (plan : Plan) where
  abbrev rack : Rack
  rack = rack_of plan

  ok : IsRack rack
  ok = rack_of-IsRack plan

  rises : (p q : ℕ) → p ≤ q → rack.group p ≤ rack.group q
  rises = group_rises (heavy_count_of plan.set) plan.set.sizes.group_size plan.set.sizes.some_group

  -- group g begins behind worker p
  record Begins (g p : ℕ) : Type 0 where
    some : 1 ≤ g
    low : g ≤ p + 1
    before : (q : ℕ) → 1 ≤ q → q ≤ p → rack.group q < g
    behind : (q : ℕ) → p < q → q ≤ rack.workers → g ≤ rack.group q

  begins_one : Begins 1 0
  begins_one = record {
    some = omega arith;
    low = omega arith;
    before = λ q some le. absurd (omega arith);
    behind = λ q some le. ((counts (heavy_count_of plan.set) plan.set.sizes.group_size plan.set.sizes.some_group rack.workers (rack.group rack.workers) plan.set.sizes.some_workers refl).every q some le).0;
  }

  module _ {g p first last : ℕ} (begins : Begins g p) (group : Group rack.group rack.workers g first last) where
    first_is : first ≡ p + 1
    first_is = elim (cases_lt p first) [
      | inl behind ↦
          let here = group.inside first (omega arith) group.some in
          let least = begins.behind (p + 1) (omega arith) (omega (arith, group.some, group.within)) in
          let most = rises (p + 1) first (omega arith) in
          omega (arith, (group.only (p + 1) (omega arith) (omega (arith, group.some, group.within)) (omega arith)).0)
      | inr among ↦ absurd (omega (arith, begins.before first group.from_one among, group.inside first (omega arith) group.some))
    ]

    begins_next : Begins (g + 1) last
    begins_next =
        let at_last = group.inside last group.some (omega arith) in
        record {
          some = omega arith;
          low = omega (arith, begins.low, first_is, group.some);
          before = λ q some le. omega (arith, rises q last le, at_last);
          behind = λ q later le. elim (cases_lt g (rack.group q)) [
            | inl above ↦ omega arith
            | inr below ↦
                let same : rack.group q ≡ g = omega (arith, rises last q (omega arith), at_last) in
                absurd (omega (arith, (group.only q (omega arith) le same).1))
          ];
        }

  -- on how many of the m workers behind p each model stands, in all
  abbrev stood : ℕ → ℕ → ℕ
  stood m p = total rack.models (λ k. stands m (p + 1) (rack.pieces (k + 1)))

  stood_more : (m n p : ℕ) → stood (m + n) p ≡ stood m p + stood n (p + m)
  stood_more m n p =
      let each = total_same rack.models (λ k. stands (m + n) (p + 1) (rack.pieces (k + 1))) (λ k. stands m (p + 1) (rack.pieces (k + 1)) + stands n (p + m + 1) (rack.pieces (k + 1)))
      (λ k l. stands_split m n (p + 1) (rack.pieces (k + 1)) ∙ ap (λ q. stands m (p + 1) (rack.pieces (k + 1)) + stands n q (rack.pieces (k + 1))) (omega arith)) in
      each ∙ total_add rack.models (λ k. stands m (p + 1) (rack.pieces (k + 1))) (λ k. stands n (p + m + 1) (rack.pieces (k + 1)))

  -- a text has the room of the m workers behind p: for each of them the line of a group, a row and a span (39 + 15 + 42), and a span more for each model that stands there
  record Takes (p m : ℕ) (text : List ℕ) : Type 0 where
    within : p + m ≤ rack.workers
    short : length text ≤ 96 * m + 42 * stood m p

  takes_more : (p m n : ℕ) (s t : List ℕ) → Takes p m s → Takes (p + m) n t → Takes p (m + n) (s ++ t)
  takes_more p m n s t one more = record {
    within = omega (arith, more.within);
    short = omega (arith, one.short, more.short, stood_more m n p, length-append s t);
  }

  -- the text of group g has the room of its workers, who begin behind p
  record Told (g p : ℕ) (text : List ℕ) : Type 0 where
    workers : ℕ
    takes : Takes p workers text
    next : Begins (g + 1) (p + workers)

  told : {g p first last : ℕ} → Begins g p → Group rack.group rack.workers g first last → (m : ℕ) (text : List ℕ) → p + m ≡ last → length text ≤ 96 * m + 42 * stood m p → Told g p text
  told begins group m text all short = record {
    workers = m;
    takes = record { within = omega (arith, all, group.within); short = short };
    next = rw all (begins_next begins group);
  }

  module _ {dates : ℕ → ℕ → Bool} {spacings : ℕ → ℕ} {precedes : Run → Run → Bool} (lawful : Lawful plan dates spacings precedes) where
    next_narrow : (b : Book) (g : ℕ) (s : Sheet) → IsNext rack dates precedes b g s → All NarrowRow s.rows
    next_narrow b g s next =
        let D = s.end - s.start in
        let early = moment_early ok dates b lawful.calendar g s.end next.moment.date in
        let long : rack.grain * D ≤ 2 ^ 64 - 1 = omega (arith, mul-le rack.grain D 100800 (2 ^ 30 + 100801) ok.small_grain (omega arith)) in
        rows_within ok dates b precedes lawful.order D (2 ^ 64 - 1) s.first s.rows (omega arith) long next.rows'

    module _ (b : Book) {g p : ℕ} (begins : Begins g p) where
      next_told : (s : Sheet) → IsNext rack dates precedes b g s → Told g p (sheet_text s)
      next_told s next =
          let workers = next.workers in
          let m = length s.rows in
          let first = first_is begins workers in
          let fits = sheet_fits ok dates precedes lawful.order b g s next (moment_early ok dates b lawful.calendar g s.end next.moment.date) in
          let text = sheet_most s (omega (arith, next.group', begins.low, first, workers.some, workers.within, ok.few_workers)) (omega (arith, next.all, workers.within, ok.few_workers)) fits (next_narrow b g s next) in
          let spans = rows_spans ok dates b precedes lawful.order (s.end - s.start) s.first s.rows next.rows' in
          let here : total rack.models (λ k. stands m s.first (rack.pieces (k + 1))) ≡ stood m p = ap (λ q. total rack.models (λ k. stands m q (rack.pieces (k + 1)))) first in
          told begins workers m (sheet_text s) (omega (arith, next.all, first)) (omega (arith, text, spans, here, first, next.all, workers.some))

      module _ (top : g ≤ rack.group rack.workers) where
        numbered : IsTrue (is_group rack g)
        numbered = and_from _ _ (le-leb _ _ begins.some) (le-leb _ _ top)

        none_wrong : about rack b (Advance g 512 64) ≡ None
        none_wrong = rw numbered refl

        rest_told : Told g p (line_of (codes "rest") (g ∷ []))
        rest_told =
            let (first, (last, group)) = ok.groups g numbered in
            let from = first_is begins group in
            let line = rest_most g (omega (arith, begins.low, from, group.some, group.within, ok.few_workers)) in
            told begins group (last - p) (line_of (codes "rest") (g ∷ [])) (omega (arith, from, group.some)) (omega (arith, line, from, group.some))

        step_told : (answer : Answer) (c : Book) → Step rack dates precedes b (Advance g 512 64) answer c → Told g p (answer_text answer)
        step_told _ _ (declines _ complaint why) = absurd (not_both (about rack b (Advance g 512 64)) complaint why none_wrong)
        step_told _ _ (advances _ _ _ s none next) = next_told s next
        step_told _ _ (rests _ _ _ none last) = rest_told

    -- the groups from g on
    groups_take : (n g p : ℕ) (b e : Book) (answers : List Answer) → Begins g p → p ≤ rack.workers → g + n ≤ rack.group rack.workers + 1
        → Leads rack dates precedes b (map (λ g. Advance g 512 64) (range_with_len g n)) answers e → (m : ℕ) × Takes p m (flat_map answer_text answers)
    groups_take zero g p b e _ begins within top (ends _) = (0, record { within = omega arith; short = omega arith })
    groups_take (suc n) g p b e _ begins within top (goes _ c _ _ answer _ answers step rest) =
        let one = step_told b begins (omega arith) answer c step in
        let m = one.workers in
        let (others, more) = groups_take n (g + 1) (p + m) c e answers one.next one.takes.within (omega arith) rest in
        (m + others, takes_more p m others (answer_text answer) (flat_map answer_text answers) one.takes more)

-- the answers to one advance of each of the first groups, on a roster that is newly opened
pub groups_most : (plan : Plan) (dates : ℕ → ℕ → Bool) (spacings : ℕ → ℕ) (precedes : Run → Run → Bool) → Lawful plan dates spacings precedes
    → (n : ℕ) → n ≤ (rack_of plan).group (rack_of plan).workers → (answers : List Answer) (e : Book)
    → Leads (rack_of plan) dates precedes blank (one_of_each n) answers e → length (flat_map answer_text answers) ≤ 7062
groups_most plan dates spacings precedes lawful n top answers e led =
    let (m, all) = groups_take plan lawful n 1 0 blank e answers (begins_one plan) (omega arith) (omega arith) led in
    omega (arith, all.short, all.within, models_stand (ok plan) m 1, (ok plan).few_workers)
