-- Calls have one list of answers at most.
use Rattle.std.proofs.Common.{◌≡◌, ℕ, ◌+◌, ◌-◌, ◌*◌, Bool, List, [], ◌∷◌, length, refl, sym, ◌∙◌, ap, arith}
use Rattle.std.proofs.lemmas.Bool.{both_ways}
use Rattle.kinds.specs.declared.runs.Run.{Run}
use Rattle.plan.specs.Groups.{Group}
use Rattle.dates.proofs.Earliest.{earliest_once}
use Rattle.book.specs.Racks.{Rack}
use Rattle.book.specs.Sheets.{Row, Sheet}
use Rattle.book.specs.Books.{Book, entered, is_moment}
use Rattle.book.specs.Turns.{AreRows, IsNext, has}
use Rattle.book.specs.Calls.{Call, Answer, Step, Leads}
use Rattle.book.specs.Calls.Answer.{Advanced}
use Rattle.book.specs.Calls.Step.{declines, advances, rests, withdraws, stands}
use Rattle.book.specs.Calls.Leads.{ends, goes}
use Rattle.book.proofs.Rows.{same_row}

-- a group has one first worker and one last
group_once : (group : ℕ → ℕ) (m g first last first' last' : ℕ) → Group group m g first last → Group group m g first' last' → (first ≡ first') × (last ≡ last')
group_once group m g first last first' last' h k =
    let front = k.only first h.from_one (omega (arith, h.some, h.within)) (h.inside first (omega arith) h.some) in
    let back = k.only last (omega (arith, h.some, h.from_one)) h.within (h.inside last h.some (omega arith)) in
    let front' = h.only first' k.from_one (omega (arith, k.some, k.within)) (k.inside first' (omega arith) k.some) in
    let back' = h.only last' (omega (arith, k.some, k.from_one)) k.within (k.inside last' k.some (omega arith)) in
    (omega arith, omega arith)

module _ (rack : Rack) (dates : ℕ → ℕ → Bool) (precedes : Run → Run → Bool) where
  module _ (b : Book) where
    -- as many workers have one list of rows at most
    rows_once : (D p : ℕ) (rows rows' : List Row) → length rows ≡ length rows' → AreRows rack dates precedes b D p rows → AreRows rack dates precedes b D p rows' → rows ≡ rows'
    rows_once D p [] [] e h k = refl
    rows_once D p [] (row' ∷ rows') e h k = absurd (omega arith)
    rows_once D p (row ∷ rows) [] e h k = absurd (omega arith)
    rows_once D p (row ∷ rows) (row' ∷ rows') e h k = λ i.
        same_row (rack.grain * D) (has rack dates precedes b D p) row row' h.0 k.0 i
        ∷ rows_once D (p + 1) rows rows' (omega arith) h.1 k.1 i

    -- a group has one next sheet at most
    next_once : (g : ℕ) (s s' : Sheet) → IsNext rack dates precedes b g s → IsNext rack dates precedes b g s' → s ≡ s'
    next_once g s s' h k =
        let group : s.group ≡ s'.group = h.group' ∙ sym k.group' in
        let start : s.start ≡ s'.start = h.start' ∙ sym k.start' in
        let end = earliest_once (is_moment rack dates b g) (b.present g + 1) s.end s'.end h.moment k.moment in
        let workers = group_once rack.group rack.workers g s.first h.last s'.first k.last h.workers k.workers in
        let rows = rows_once (s.end - s.start) s.first s.rows s'.rows (omega (arith, h.all, k.all)) h.rows' (rw (end, start, workers.0) k.rows') in
        λ i. record { group = group i; start = start i; end = end i; first = workers.0 i; rows = rows i }

    -- a call answers one thing, and one book comes after it
    step_once : (call : Call) (a a' : Answer) (c c' : Book) → Step rack dates precedes b call a c → Step rack dates precedes b call a' c' → (a ≡ a') × (c ≡ c')
    step_once call a a' c c' (declines _ x e) (declines _ y f) = (cc, refl)
    step_once call a a' c c' (declines _ x e) (advances g words things s f k) = absurd (cc)
    step_once call a a' c c' (declines _ x e) (rests g words things f k) = absurd (cc)
    step_once call a a' c c' (declines _ x e) (withdraws i f) = absurd (cc)
    step_once call a a' c c' (declines _ x e) (stands i f) = absurd (cc)
    step_once call a a' c c' (advances g words things s e h) (declines _ y f) = absurd (cc)
    step_once call a a' c c' (rests g words things e h) (declines _ y f) = absurd (cc)
    step_once call a a' c c' (withdraws i e) (declines _ y f) = absurd (cc)
    step_once call a a' c c' (stands i e) (declines _ y f) = absurd (cc)
    step_once call a a' c c' (advances g words things s e h) (advances _ _ _ s' f k) = let same = next_once g s s' h k in (ap Advanced same, ap (entered b) same)
    step_once call a a' c c' (advances g words things s e h) (rests _ _ _ f k) = absurd (both_ways (is_moment rack dates b g s.end) (k s.end h.moment.later) h.moment.date)
    step_once call a a' c c' (rests g words things e h) (advances _ _ _ s f k) = absurd (both_ways (is_moment rack dates b g s.end) (h s.end k.moment.later) k.moment.date)
    step_once call a a' c c' (rests g words things e h) (rests _ _ _ f k) = (refl, refl)
    step_once call a a' c c' (withdraws i e) (withdraws _ f) = (refl, refl)
    step_once call a a' c c' (stands i e) (stands _ f) = (refl, refl)

  -- and so do calls one after another
  pub leads_once : (b : Book) (calls : List Call) (xs ys : List Answer) (e e' : Book) → Leads rack dates precedes b calls xs e → Leads rack dates precedes b calls ys e' → (xs ≡ ys) × (e ≡ e')
  leads_once b calls xs ys e e' (ends _) (ends _) = (refl, refl)
  leads_once b calls xs ys e e' (goes _ c _ call x calls₁ xs₁ first rest) (goes _ c' _ _ y _ ys₁ first' rest') =
      let one = step_once b call x y c c' first first' in
      let others = leads_once c calls₁ xs₁ ys₁ e e' rest (rw one.1 rest') in
      (λ i. one.0 i ∷ others.0 i, others.1)
