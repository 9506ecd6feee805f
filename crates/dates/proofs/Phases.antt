-- Dates at an even pace keep the laws.
use Rattle.std.proofs.Common.{◌≡◌, ℕ, ◌+◌, ◌-◌, ◌%◌, ◌^◌, ◌<◌, ◌≤◌, true, false, List, nat_lt, ap, ◌∙◌, arith}
use Rattle.std.proofs.lemmas.Bool.{and_parts, ltb-true, leb-true, eqb-true, lt-ltb, cond_both, cond-true, cond-false, true_from_ne_false, false_from_ne_true}
use Rattle.std.proofs.lemmas.Bool.Decides.{nat_tests}
use Rattle.std.specs.Int.{next_multiple_of}
use Rattle.dates.specs.Dates.{is_model, CalendarLaws, Earliest, NoneFrom}
use Rattle.dates.specs.declared.phase.Phase.{Phase}
use Rattle.dates.specs.Phases.{no_phase, is_beat, pace, phase_at, phase_dates, phase_spacings}
use Rattle.dates.proofs.Multiples.{multiples_apart, round_is_multiple, round_from, round_least}

-- what the test of a date says
pub record Beat (p : Phase) (t : ℕ) : Type 0 where
  pub paced : 0 < p.period
  pub later : p.first ≤ t
  pub whole : (t - p.first) % p.period ≡ 0
  pub early : t < 2 ^ 30

is_beat-true : (p : Phase) (t : ℕ) → is_beat p t ≡ true → Beat p t
is_beat-true p t h =
    let a = and_parts _ _ h in
    let b = and_parts _ _ (a.0) in
    let c = and_parts _ _ (b.0) in
    record { paced = ltb-true _ _ (c.0); later = leb-true _ _ (c.1); whole = eqb-true _ _ (b.1); early = ltb-true _ _ (a.1) }

true-is_beat : (p : Phase) (t : ℕ) → Beat p t → is_beat p t ≡ true
true-is_beat p t h =
    let a = h.paced in
    let b = h.later in
    let c = h.whole in
    let d = h.early in
    grind (arith, nat_tests)

beats_apart : (p : Phase) (a b : ℕ) → a < b → Beat p a → Beat p b → a + pace p ≤ b
beats_apart p a b lt x y =
    let low = x.later in
    let paced : pace p ≡ p.period = cond-true _ _ _ (lt-ltb 0 p.period x.paced) in
    omega (arith, multiples_apart p.period (a - p.first) (b - p.first) x.whole y.whole (omega (arith, y.later)))

pace_small : (p : Phase) → pace p < 2 ^ 32
pace_small p = cond_both (nat_lt 0 p.period) p.period (2 ^ 30) (λ n. n < 2 ^ 32) (λ _. p.narrow) (λ _. omega arith)

-- a number that is no model's has the period 0
unknown : (phases : List Phase) (m : ℕ) → is_model m ≡ false → phase_at phases m ≡ no_phase
unknown phases m h = cond-false _ _ _ h

pub phase-CalendarLaws : (phases : List Phase) → CalendarLaws (phase_dates phases) (phase_spacings phases)
phase-CalendarLaws phases = record {
  apart = λ m a b lt x y. beats_apart (phase_at phases m) a b lt (is_beat-true _ a x) (is_beat-true _ b y);
  early = λ m t x. (is_beat-true (phase_at phases m) t x).early;
  known = λ m t x. true_from_ne_false _ (λ h. omega (arith, (is_beat-true (phase_at phases m) t x).paced, ap (λ (p : Phase). p.period) (unknown phases m h)));
  unknown = λ m h. ap pace (unknown phases m h);
  small = λ m. pace_small (phase_at phases m);
}

-- the first date that is at or after a tick, if it is below 2^30
abbrev pub beat_from : Phase → ℕ → ℕ
beat_from p from = p.first + next_multiple_of (from - p.first) p.period

module _ (p : Phase) (from : ℕ) where
  -- no date at or after the tick comes before it
  beat_from_least : (t : ℕ) → from ≤ t → Beat p t → beat_from p from ≤ t
  beat_from_least t le h =
      let low = h.later in
      omega (arith, round_least p.period (from - p.first) h.paced (t - p.first) h.whole (omega arith))

  no_beat : (0 < p.period → beat_from p from < 2 ^ 30 → ⊥) → NoneFrom (is_beat p) from
  no_beat none t le = false_from_ne_true _ (λ h. let b = is_beat-true p t h in
      let early = b.early in
      none b.paced (omega (arith, beat_from_least t le b)))

  pub no_number : ((0 < p.period) × (next_multiple_of (from - p.first) p.period < 2 ^ 32) → ⊥) → NoneFrom (is_beat p) from
  no_number none = no_beat (λ paced early. none (paced, omega arith))

  pub too_late : 2 ^ 30 ≤ beat_from p from → NoneFrom (is_beat p) from
  too_late late = no_beat (λ _ early. omega arith)

  pub beat_is_earliest : 0 < p.period → beat_from p from < 2 ^ 30 → Earliest (is_beat p) from (beat_from p from)
  beat_is_earliest paced early =
      let on = round_from p.period (from - p.first) paced in
      let steps : beat_from p from - p.first ≡ next_multiple_of (from - p.first) p.period = omega arith in
      record {
        later = omega arith;
        date = true-is_beat p _ (record { paced = paced; later = omega arith; whole = ap (λ n. n % p.period) steps ∙ round_is_multiple p.period (from - p.first) paced; early = early });
        first = λ t le lt. false_from_ne_true _ (λ h. omega (arith, beat_from_least t le (is_beat-true p t h)));
      }
