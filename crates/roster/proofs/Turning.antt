-- What an interval makes of a model's phase, by the book.
use Rattle.std.proofs.Common.{◌≡◌, ◌≢◌, ℕ, ◌+◌, ◌-◌, ◌*◌, ◌≤◌, Bool, true, false, not, refl, ap, sym, ◌∙◌, subst, mul-le-mul_right, arith}
use Rattle.std.specs.Prelude.{if◌then◌else◌, ◌==◌}
use Rattle.std.specs.Bool.{IsTrue, IsFalse}
use Rattle.std.proofs.lemmas.Bool.{both_ways, eq-eqb, ne_eqb, and_from, false_from_ne_true}
use Rattle.kinds.specs.declared.runs.Run.{Run}
use Rattle.book.specs.Sums.{total}
use Rattle.book.specs.Racks.{Rack}
use Rattle.book.specs.Sheets.{Sheet, rows_with, got}
use Rattle.book.specs.Books.{Book, entered, is_model_of, group_with, present_of, in_use, date_of, deadline_of, is_live, served}
use Rattle.book.specs.Turns.{IsNext}
use Rattle.book.proofs.Racks.{IsRack}
use Rattle.book.proofs.Holders.{model_bounds, fine_of}
use Rattle.book.proofs.Lives.{KeepsApart, lives, live_from}
use Rattle.book.proofs.Entered.{present_here, present_elsewhere, got_elsewhere, got_through}
use Rattle.book.proofs.Changes.{Change, stays, stops, renews, waits, begins, change, same_live, same_date}
use Rattle.book.proofs.Sound.{Sound, got_empty}
use Rattle.roster.specs.declared.phase.Phase.{Phase}
use Rattle.roster.specs.declared.phase.Phase.TheVariants.{Waiting, Live, Withdrawn}
use Rattle.roster.specs.Telling.{phase_of}

-- at tick t, where a date may be: a run that ends there ends first, and then one may begin; a run that goes on got so many parts
abbrev pub turned : (period : ℕ) → (dated : Bool) → (t parts : ℕ) → Phase → Phase
turned period dated t parts Waiting = if dated then Live t 0 else Waiting
turned period dated t parts (Live date served) = if date + period == t then (if dated then Live t 0 else Waiting) else Live date (served + parts)
turned period dated t parts Withdrawn = Withdrawn

-- the phase of a model that is withdrawn, or has a run
abbrev pub pick : Bool → Bool → ℕ → ℕ → Phase
pick gone live d x = if gone then Withdrawn else if live then Live d x else Waiting

pick_live : (gone live : Bool) (d x : ℕ) → gone ≡ false → live ≡ true → pick gone live d x ≡ Live d x
pick_live gone live d x e f = rw (e, f) refl

pick_dead : (gone live : Bool) (d x : ℕ) → gone ≡ false → live ≡ false → pick gone live d x ≡ Waiting
pick_dead gone live d x e f = rw (e, f) refl

turned_on : (period t parts d x : ℕ) (dated : Bool) → d + period ≢ t → turned period dated t parts (Live d x) ≡ Live d (x + parts)
turned_on period t parts d x dated ne = rw (ne_eqb (d + period) t ne) refl

turned_over : (period t parts d x : ℕ) (dated : Bool) → d + period ≡ t → turned period dated t parts (Live d x) ≡ turned period dated t parts Waiting
turned_over period t parts d x dated e = rw (eq-eqb (d + period) t e) refl

pick_same : (gone l m : Bool) (d e x y : ℕ) → l ≡ m → d ≡ e → x ≡ y → pick gone l d x ≡ pick gone m e y
pick_same gone l m d e x y p q r = cc

live_same : (d e x y : ℕ) → d ≡ e → x ≡ y → Live d x ≡ Live e y
live_same d e x y p q = cc

module _ {rack : Rack} (ok : IsRack rack) {dates : ℕ → ℕ → Bool} (apart : KeepsApart rack dates) (precedes : Run → Run → Bool) (b : Book) (sound : Sound rack dates b) (g : ℕ) (s : Sheet) (next : IsNext rack dates precedes b g s) (i : ℕ) (model : IsTrue (is_model_of rack i)) where
  abbrev after : Book
  after = entered b s

  abbrev parts : ℕ
  parts = total (rack.grain * (s.end - s.start)) (rows_with s.rows i)

  module _ (kept : IsFalse (b.withdrawn i)) (here : group_with rack i ≡ g) where
    used : IsTrue (in_use rack b i)
    used = and_from _ _ model (ap not kept)

    now : present_of rack after i ≡ s.end
    now = present_here ok dates precedes b g s next i here

    -- a model without a run afterwards has no date at the end
    none_dated : IsFalse (is_live rack dates after i) → dates i s.end ≡ false
    none_dated dead = false_from_ne_true _ (λ date. absurd (both_ways _ dead (live_from apart after i s.end used date (omega (arith, now)) (omega (arith, now, (fine_of ok i model).some_period))).0))

    dated : IsTrue (is_live rack dates after i) → date_of rack dates after i ≡ s.end → dates i s.end ≡ true
    dated live e = subst (λ t. IsTrue (dates i t)) e (lives rack dates after i live).date

    -- a run that begins at the end got nothing yet
    fresh : date_of rack dates after i ≡ s.end → served rack dates after i ≡ 0
    fresh e = got_empty ok apart after.sheets i _ _ (ap (λ t. t * rack.grain) (e ∙ sym now))

    is_live_after : IsTrue (is_live rack dates after i) → phase_of rack dates after i ≡ Live (date_of rack dates after i) (served rack dates after i)
    is_live_after live = pick_live (b.withdrawn i) (is_live rack dates after i) _ _ kept live

    is_live_before : IsTrue (is_live rack dates b i) → phase_of rack dates b i ≡ Live (date_of rack dates b i) (served rack dates b i)
    is_live_before live = pick_live (b.withdrawn i) (is_live rack dates b i) _ _ kept live

    abbrev Turned : Phase → Phase
    Turned p = turned (rack.period i) (dates i s.end) s.end parts p

    begun_now : IsTrue (is_live rack dates after i) → date_of rack dates after i ≡ s.end → phase_of rack dates after i ≡ Turned Waiting
    begun_now live e = is_live_after live ∙ live_same _ _ _ _ e (fresh e) ∙ sym (rw (dated live e) refl)

    waiting_now : IsFalse (is_live rack dates after i) → phase_of rack dates after i ≡ Turned Waiting
    waiting_now dead = pick_dead (b.withdrawn i) (is_live rack dates after i) _ _ kept dead ∙ sym (rw (none_dated dead) refl)

    over : IsTrue (is_live rack dates b i) → deadline_of rack dates b i ≡ s.end → Turned (phase_of rack dates b i) ≡ Turned Waiting
    over live e = ap Turned (is_live_before live) ∙ turned_over (rack.period i) s.end parts _ _ (dates i s.end) e

    idle : IsFalse (is_live rack dates b i) → Turned (phase_of rack dates b i) ≡ Turned Waiting
    idle dead = ap Turned (pick_dead (b.withdrawn i) (is_live rack dates b i) _ _ kept dead)

    -- a run that goes on got what the sheet gives it
    more : IsTrue (is_live rack dates b i) → date_of rack dates after i ≡ date_of rack dates b i → served rack dates after i ≡ served rack dates b i + parts
    more live same =
        let bounds = model_bounds ok i model in
        let l = lives rack dates b i live in
        let from : present_of rack b i ≡ s.start = ap b.present here ∙ sym next.start' in
        let early : date_of rack dates b i ≤ s.start = omega (arith, l.begun, from) in
        ap (λ t. got rack.grain after.sheets i (t * rack.grain) (present_of rack after i * rack.grain)) same
        ∙ ap (λ t. got rack.grain after.sheets i (date_of rack dates b i * rack.grain) (t * rack.grain)) now
        ∙ got_through ok dates precedes b g s next i (date_of rack dates b i * rack.grain) bounds.0 here (mul-le-mul_right rack.grain early) (λ y. sound.past i y bounds.0)

    by_change : Change ok apart precedes b g s next i → phase_of rack dates after i ≡ Turned (phase_of rack dates b i)
    by_change (stays live later still same) = is_live_after still ∙ live_same _ _ _ _ same (more live same) ∙ sym (ap Turned (is_live_before live) ∙ turned_on (rack.period i) s.end parts _ _ (dates i s.end) (λ e. absurd (omega arith)))
    by_change (stops live e dead) = waiting_now dead ∙ sym (over live e)
    by_change (renews live e still at) = begun_now still at ∙ sym (over live e)
    by_change (waits dead still) = waiting_now still ∙ sym (idle dead)
    by_change (begins dead live at) = begun_now live at ∙ sym (idle dead)

    pub turned_here : phase_of rack dates after i ≡ Turned (phase_of rack dates b i)
    turned_here = by_change (change ok apart precedes b g s next i used here)

  pub gone_here : IsTrue (b.withdrawn i) → phase_of rack dates after i ≡ Withdrawn
  gone_here gone = rw gone refl

  -- and nothing of a model of another group
  pub turned_elsewhere : (group_with rack i ≡ g → ⊥) → phase_of rack dates after i ≡ phase_of rack dates b i
  turned_elsewhere other =
      let live = same_live ok apart precedes b g s next i other in
      let date = same_date ok apart precedes b g s next i other in
      let present = present_elsewhere ok dates precedes b g s next i other in
      let same =
      ap (λ t. got rack.grain after.sheets i (t * rack.grain) (present_of rack after i * rack.grain)) date
      ∙ ap (λ t. got rack.grain after.sheets i (date_of rack dates b i * rack.grain) (t * rack.grain)) present
      ∙ got_elsewhere ok dates precedes b g s next i _ _ (model_bounds ok i model).0 other in
      pick_same (b.withdrawn i) _ _ _ _ _ _ live date same
