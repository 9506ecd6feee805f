-- A plan has one text, and a file has one.
use Rattle.std.proofs.Common.{◌≡◌, ℕ, zero, suc, ◌+◌, ◌-◌, ◌<◌, ◌≤◌, List, [], ◌∷◌, ◌++◌, get_or, Some, Ok, Err, codes, Option, Result, inl, inr, sym, refl, ap, ◌∙◌, subst, arith}
use Rattle.std.specs.List.{range_with_len, flat_map}
use Rattle.std.proofs.lemmas.Bool.{cases_lt}
use Rattle.order.specs.Keys.{by_keys}
use Rattle.kinds.specs.Keys.{keys_by_model}
use Rattle.refusal.specs.declared.Refusal.{Refusal}
use Rattle.refusal.specs.Refusals.{Complaint, told}
use Rattle.refusal.proofs.Firsts.{not_both}
use Rattle.set.specs.declared.sets.Set.{Set}
use Rattle.set.specs.Sets.{models_of, worker_count_of, grain_of, period_of, parts_of, weight_of}
use Rattle.setfile.specs.Reading.{Reads}
use Rattle.setfile.proofs.Files.{one_set}
use Rattle.plan.specs.declared.plans.Plan.{Plan}
use Rattle.plan.specs.Shares.{pieces_at, carried}
use Rattle.plan.specs.Groups.{group_in}
use Rattle.placement.specs.Placing.{Follows, Places, PlacesRead}
use Rattle.placement.proofs.Carries.{carried_same}
use Rattle.calendars.specs.Periods.{own_dates}
use Rattle.book.specs.Racks.{Rack, rack_of}
use Rattle.book.specs.Books.{blank}
use Rattle.book.specs.Calls.{Answer, Leads}
use Rattle.printout.specs.Lines.{line_of}
use Rattle.printout.specs.Printing.{one_of_each, first_advances, IsPlanText, IsText, IsFileText}
use Rattle.printout.specs.Texts.{complaint_text, pieces_text, sizes_text, load_text, loads_text, model_text, models_text, answer_text, plan_text, refusal_text}

-- a plan's calls have one list of answers, so it has one text
pub one_text : (plan : Plan) (text other : List ℕ) → IsPlanText plan text → IsPlanText plan other → other ≡ text
one_text plan text other is is' = is'.tells ∙ ap (plan_text plan) (is.answered.only is'.answered.answers is'.answered.end is'.answered.led).0 ∙ sym is.tells

joined_same : (f g : ℕ → List ℕ) (a n : ℕ) → ((i : ℕ) → a ≤ i → i < a + n → f i ≡ g i) → flat_map f (range_with_len a n) ≡ flat_map g (range_with_len a n)
joined_same f g a zero same = refl
joined_same f g a (suc n) same =
    let first = same a (omega arith) (omega arith) in
    let rest = joined_same f g (a + 1) n (λ i low high. same i (omega arith) (omega arith)) in
    λ k. first k ++ rest k

module _ (set : Set) (p q : Plan) (fp : Follows set p) (fq : Follows set q) where
  same_set : p.set ≡ q.set
  same_set = fp.same ∙ sym fq.same

  one_model : (i : ℕ) → i < models_of set → pieces_at p.pieces i ≡ pieces_at q.pieces i
  one_model i h = fp.seated'.each i h ∙ sym (fq.seated'.each i h)

  one_load : (i : ℕ) → i < 32 → get_or p.loads i 0 ≡ get_or q.loads i 0
  one_load i h =
      (p.loaded i h).0
      ∙ ap (λ n. carried (pieces_at p.pieces) (i + 1) n) (ap models_of fp.same)
      ∙ carried_same (pieces_at p.pieces) (pieces_at q.pieces) (i + 1) (models_of set) one_model
      ∙ ap (λ n. carried (pieces_at q.pieces) (i + 1) n) (ap models_of (sym fq.same))
      ∙ sym (q.loaded i h).0

  few : worker_count_of p.set ≤ 32
  few = p.set.sizes.few_workers

  one_loads : loads_text p ≡ loads_text q
  one_loads =
      joined_same (load_text p) (load_text q) 0 (worker_count_of p.set) (λ i low high. ap (λ x. line_of (codes "load") ((i + 1) ∷ (x ∷ []))) (one_load i (omega (arith, few))))
      ∙ ap (λ n. flat_map (load_text q) (range_with_len 0 n)) (ap worker_count_of same_set)

  one_models : models_text p ≡ models_text q
  one_models =
      joined_same (model_text p) (model_text q) 0 (models_of p.set) (λ i low high. ap (pieces_text (i + 1)) (one_model i (omega (arith, ap models_of fp.same))))
      ∙ ap (λ n. flat_map (model_text q) (range_with_len 0 n)) (ap models_of same_set)

  one_sizes : sizes_text p ≡ sizes_text q
  one_sizes = ap (λ (s : Set). line_of (codes "plan") (s.sizes.models ∷ (s.sizes.workers ∷ (s.sizes.group_size ∷ (s.sizes.grain ∷ []))))) same_set

  -- with the same answers they have the same text
  one_plan : (answers : List Answer) → plan_text p answers ≡ plan_text q answers
  one_plan answers = λ k. one_sizes k ++ (one_loads k ++ (one_models k ++ (flat_map answer_text answers ++ line_of (codes "end") [])))

  -- behind the last model both have nothing
  one_slot : (i : ℕ) → pieces_at p.pieces i ≡ pieces_at q.pieces i
  one_slot i = elim (cases_lt i (models_of set)) [
    | inl among ↦ one_model i among
    | inr behind ↦ fp.seated'.behind i behind ∙ sym (fq.seated'.behind i behind)
  ]

  -- so the book reads the same of them
  one_rack : rack_of p ≡ rack_of q
  one_rack = λ k. record {
    models = models_of (same_set k);
    workers = worker_count_of (same_set k);
    grain = grain_of (same_set k);
    group = group_in (same_set k);
    period = λ i. period_of (same_set k) (i - 1);
    parts = λ i. parts_of (same_set k) (i - 1);
    weight = λ i. weight_of (same_set k) (i - 1);
    pieces = λ i. one_slot (i - 1) k;
  }

  -- and they have the same text
  one_plan_text : (text other : List ℕ) → IsPlanText p text → IsPlanText q other → other ≡ text
  one_plan_text text other is is' =
      let told = is.answered in
      let calls = ap (λ (rack : Rack). one_of_each (rack.group rack.workers)) one_rack in
      let led : Leads (rack_of q) (own_dates q.set) (by_keys keys_by_model) blank (first_advances q) told.answers told.end =
      subst (λ cs. Leads (rack_of q) (own_dates q.set) (by_keys keys_by_model) blank cs told.answers told.end) calls
      (subst (λ (s : Set). Leads (rack_of q) (own_dates s) (by_keys keys_by_model) blank (first_advances p) told.answers told.end) same_set
      (subst (λ rack. Leads rack (own_dates p.set) (by_keys keys_by_model) blank (first_advances p) told.answers told.end) one_rack told.led)) in
      is'.tells ∙ ap (plan_text q) (sym (is'.answered.only told.answers told.end led).0) ∙ sym (one_plan told.answers) ∙ sym is.tells

some_same : (a : Option Complaint) (c d : Complaint) → a ≡ Some c → a ≡ Some d → c ≡ d
some_same a c d p q = cc

one_placing : (set : Set) (r s : Result Plan Refusal) (text other : List ℕ) → Places set r → Places set s → IsText r text → IsText s other → other ≡ text
one_placing set (Ok p) (Ok q) text other fp fq is is' = one_plan_text set p q fp.1 fq.1 text other is is'
one_placing set (Ok p) (Err f) text other fp ff is is' = absurd (not_both _ _ ff fp.0)
one_placing set (Err e) (Ok q) text other fe fq is is' = absurd (not_both _ _ fe fq.0)
one_placing set (Err e) (Err f) text other fe ff is is' = is' ∙ ap complaint_text (some_same _ (told f) (told e) ff fe) ∙ sym is

one_reading : (bytes : List ℕ) (a b : Result Set Refusal) (r s : Result Plan Refusal) (text other : List ℕ) → Reads bytes a → Reads bytes b → PlacesRead a r → PlacesRead b s
    → IsText r text → IsText s other → other ≡ text
one_reading bytes (Ok x) (Ok y) r s text other ra rb pa pb is is' = one_placing x r s text other pa (subst (λ (t : Set). Places t s) (one_set bytes y x rb.1 ra.1) pb) is is'
one_reading bytes (Ok x) (Err f) r s text other ra rb pa pb is is' = absurd (not_both _ _ rb ra.0)
one_reading bytes (Err e) (Ok y) r s text other ra rb pa pb is is' = absurd (not_both _ _ ra rb.0)
one_reading bytes (Err e) (Err f) r s text other ra rb pa pb is is' =
    let first : text ≡ refusal_text e = rw pa at is in
    let second : other ≡ refusal_text f = rw pb at is' in
    second ∙ ap complaint_text (some_same _ (told f) (told e) rb ra) ∙ sym first

pub one_file_text : (bytes text other : List ℕ) → IsFileText bytes text → IsFileText bytes other → other ≡ text
one_file_text bytes text other a b = one_reading bytes a.places.read b.places.read a.placed b.placed text other a.places.reads b.places.reads a.places.places b.places.places a.tells b.tells
