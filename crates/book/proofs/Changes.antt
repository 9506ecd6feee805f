-- Which models have a run after an interval.
use Rattle.std.proofs.Common.{◌≡◌, ℕ, ◌+◌, ◌<◌, ◌≤◌, Bool, ◌&&◌, inl, inr, ap, sym, ◌∙◌, subst, arith}
use Rattle.std.specs.Bool.{IsTrue, IsFalse, nat_lt}
use Rattle.std.proofs.lemmas.Bool.{cases_Bool, cases_lt, cases_eq, both_ways, false_from_ne_true}
use Rattle.kinds.specs.declared.runs.Run.{Run}
use Rattle.book.specs.Sums.{latest}
use Rattle.book.specs.Racks.{Rack}
use Rattle.book.specs.Sheets.{Sheet}
use Rattle.book.specs.Books.{Book, entered, group_with, present_of, in_use, date_of, deadline_of, is_live, is_moment}
use Rattle.book.specs.Turns.{IsNext}
use Rattle.book.proofs.Racks.{IsRack}
use Rattle.book.proofs.Holders.{fine_of}
use Rattle.book.proofs.Lives.{KeepsApart, lives, used_model, live_from, past_dates, moment_at_date, moment_at_deadline}
use Rattle.book.proofs.Entered.{rises, present_here, present_elsewhere}

module _ {rack : Rack} (ok : IsRack rack) {dates : ℕ → ℕ → Bool} (apart : KeepsApart rack dates) (precedes : Run → Run → Bool) (b : Book) (g : ℕ) (s : Sheet) (next : IsNext rack dates precedes b g s) where
  abbrev Live : Book → ℕ → Type 0
  Live c i = IsTrue (is_live rack dates c i)

  abbrev Dead : Book → ℕ → Type 0
  Dead c i = IsFalse (is_live rack dates c i)

  -- what becomes of a model of the group
  pub data Change (i : ℕ) : Type 0 where
    -- its run goes on
    stays : Live b i → s.end < deadline_of rack dates b i → Live (entered b s) i → date_of rack dates (entered b s) i ≡ date_of rack dates b i → Change i
    -- its run ends, and no other begins, or one does
    stops : Live b i → deadline_of rack dates b i ≡ s.end → Dead (entered b s) i → Change i
    renews : Live b i → deadline_of rack dates b i ≡ s.end → Live (entered b s) i → date_of rack dates (entered b s) i ≡ s.end → Change i
    -- it has no run, and none begins, or one does
    waits : Dead b i → Dead (entered b s) i → Change i
    begins : Dead b i → Live (entered b s) i → date_of rack dates (entered b s) i ≡ s.end → Change i

  module _ (i : ℕ) (used : IsTrue (in_use rack b i)) (here : group_with rack i ≡ g) where
    now : present_of rack b i ≡ s.start
    now = ap b.present here ∙ sym next.start'

    then : present_of rack (entered b s) i ≡ s.end
    then = present_here ok dates precedes b g s next i here

    grows : s.start < s.end
    grows = rises ok dates precedes b g s next

    some_period : 1 ≤ rack.period i
    some_period = (fine_of ok i (used_model rack b i used)).some_period

    -- no moment of the group lies within the interval
    none_within : (t : ℕ) → s.start < t → t < s.end → IsTrue (is_moment rack dates b (group_with rack i) t) → ⊥
    none_within t low high m = both_ways _ (next.moment.first t (omega (arith, next.start')) high) (subst (λ h. IsTrue (is_moment rack dates b h t)) here m)

    pub no_date_within : (t : ℕ) → s.start < t → t < s.end → IsTrue (dates i t) → ⊥
    no_date_within t low high date = none_within t low high (moment_at_date rack dates b i t used date)

    -- no run ends within the interval
    pub not_sooner : Live b i → s.end ≤ deadline_of rack dates b i
    not_sooner live = elim (cases_lt (deadline_of rack dates b i) s.end) [
      | inl sooner ↦
          let l = lives rack dates b i live in
          absurd (none_within (deadline_of rack dates b i) (omega (arith, l.goes, now)) sooner (moment_at_deadline rack dates b i live))
      | inr later ↦ later
    ]

    -- if no date is at the interval's end, a run after it began by its start
    date_then : IsFalse (dates i s.end) → Live (entered b s) i → (date_of rack dates (entered b s) i ≤ s.start) × (s.end < date_of rack dates (entered b s) i + rack.period i) × IsTrue (dates i (date_of rack dates (entered b s) i))
    date_then none live =
        let l = lives rack dates (entered b s) i live in
        let d = date_of rack dates (entered b s) i in
        let begun : d ≤ s.end = omega (arith, l.begun, then) in
        let goes : s.end < d + rack.period i = omega (arith, l.goes, then) in
        elim (cases_eq d s.end) [
          | inl last ↦ absurd (both_ways _ none (rw last at l.date))
          | inr other ↦ elim (cases_lt s.start d) [
            | inl within ↦ absurd (no_date_within d within (omega arith) l.date)
            | inr before ↦ (before, goes, l.date)
          ]
        ]

    begins_then : IsTrue (dates i s.end) → Live (entered b s) i × (date_of rack dates (entered b s) i ≡ s.end)
    begins_then date = live_from apart (entered b s) i s.end used date (omega (arith, then)) (omega (arith, then, some_period))

    live_change : Live b i → Change i
    live_change live =
        let l = lives rack dates b i live in
        let d = date_of rack dates b i in
        elim (cases_Bool (dates i s.end)) [
          | inl date ↦
              let early = apart.period_apart i d s.end (used_model rack b i used) (omega (arith, l.begun, now, grows)) l.date date in
              let new = begins_then date in
              renews live (omega (arith, not_sooner live, early)) new.0 new.1
          | inr none ↦ elim (cases_lt s.end (deadline_of rack dates b i)) [
            | inl later ↦
                let same = live_from apart (entered b s) i d used l.date (omega (arith, then, l.begun, now, grows)) (omega (arith, then, later)) in
                stays live later same.0 same.1
            | inr over ↦ stops live (omega (arith, not_sooner live, over)) (false_from_ne_true _ (λ again.
                let t = date_then none again in
                let same = live_from apart b i _ used t.2 (omega (arith, now, t.0)) (omega (arith, now, grows, t.1)) in
                absurd (omega (arith, same.1, t.1, over))))
          ]
        ]

    dead_change : Dead b i → Change i
    dead_change dead = elim (cases_Bool (dates i s.end)) [
      | inl date ↦ let new = begins_then date in begins dead new.0 new.1
      | inr none ↦ waits dead (false_from_ne_true _ (λ again.
          let t = date_then none again in
          absurd (omega (arith, past_dates apart b i _ used dead t.2 (omega (arith, now, t.0)), t.1, now, grows))))
    ]

    pub change : Change i
    change = elim (cases_Bool (is_live rack dates b i)) [
      | inl live ↦ live_change live
      | inr dead ↦ dead_change dead
    ]

  -- nothing changes in other groups
  pub same_live : (i : ℕ) → (group_with rack i ≡ g → ⊥) → is_live rack dates (entered b s) i ≡ is_live rack dates b i
  same_live i other = ap (λ t. in_use rack b i && (dates i (latest (dates i) t) && nat_lt t (latest (dates i) t + rack.period i))) (present_elsewhere ok dates precedes b g s next i other)

  pub same_date : (i : ℕ) → (group_with rack i ≡ g → ⊥) → date_of rack dates (entered b s) i ≡ date_of rack dates b i
  same_date i other = ap (latest (dates i)) (present_elsewhere ok dates precedes b g s next i other)
