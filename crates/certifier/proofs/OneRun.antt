-- A new machine has one run by its events, so that a refusal rules out what it says
use Rattle.machine_model.proofs.Words.{◌≡◌, ◌≢◌, ℕ, zero, suc, ◌+◌, ◌<◌, ◌≤◌, ◌==◌, Bool, true, false, cond, List, [], ◌∷◌, ◌++◌, inl, inr, refl, sym, subst}
use Rattle.machine_model.proofs.Words.{ap, ◌∙◌, arith, length, get_or, None, Option, nat_lt, nat_tests, add-one, append_assoc, cases_lt, ⊎_elim, PageInfo}
use Rattle.machine_model.proofs.Words.{Slots, World, new_world}
use Rattle.machine_model.specs.declared.event.Event.{Event}
use Rattle.machine_model.specs.declared.event.Outcome.{Outcome}
use Rattle.live_levels.specs.declared.close.SlotHistory.{SlotHistory}
use Rattle.slot_lock.proofs.Edits.{same_slots}
use Rattle.refcache.specs.Sound.{AreReached}
use Rattle.radix_range.specs.Folds.{CanFold, FoldsNode}
use Rattle.radix_range.specs.Found.{in_512}
use Rattle.machine_model.specs.Sound.{IsReached}
use Rattle.machine_model.proofs.SoundKept.{reached_fine, reached_opening, reached_step}
use Rattle.machine_model.specs.declared.setup.Setup.{Setup}
use Rattle.core_steps.specs.Running.{RunsAsMap}
use Rattle.machine_model.specs.Setups.{fault_of, made_of}
use Rattle.core_steps.proofs.Reached.{few_cores}
use Rattle.seats.specs.declared.noted.Noted.{Noted}
use Rattle.certifier.specs.declared.result.CertifyFault.TheVariants as By
use Rattle.certifier.specs.Following.{AreStates, DiffersAt, GoesAstray, IsNewTree, Leads, events_in_order, events_of, maps_of, one_if, outcomes_in_order}
use Rattle.certifier.specs.Following.{outcomes_of}
use Rattle.certifier.specs.Histories.{AllGoAlong, IsFirstAstray, Strays}
use Rattle.certifier.specs.Laws.{RefusalsAreExact, RulesOut, RunsAreExact, RunsOverTree, StepsAreExact}
use Rattle.certifier.specs.Order.{AreNumbered, in_order, with_ticket}
use Rattle.certifier.proofs.OneSlots.{one_fold}
use Rattle.certifier.proofs.OneStep.{one_step}

-- ---- steps and runs over a tree

abbrev AsTree : World → List Event → List Outcome → World → Type 0
AsTree = RunsAsMap in_512 CanFold FoldsNode

abbrev LeadsAsTree : World → Event → Outcome → World → Type 0
LeadsAsTree = Leads in_512 CanFold FoldsNode

counts_reached : (w : World) → IsReached w → AreReached w.memory.counts
counts_reached w r = (reached_fine w r).order.memory.reached

pub steps_exact : StepsAreExact
steps_exact w u v e o p r h k = one_step CanFold FoldsNode one_fold in_512 w e o p u v (counts_reached w r) h.step k.step h.joins k.joins h.divides k.divides

-- the first step of a run
first_step : (e : Event) (es : List Event) (o : Outcome) (os : List Outcome) (w v : World) → (h : AsTree w (e ∷ es) (o ∷ os) v) → LeadsAsTree w e o h.0
first_step e es o os w v h = record { step = h.1; joins = h.2; divides = h.3 }

one_run : (es : List Event) (os ps : List Outcome) (w u v : World) → IsReached w → AsTree w es os u → AsTree w es ps v → (os ≡ ps) × (u ≡ v)
one_run [] [] [] w u v r h k = (refl, h ∙ sym k)
one_run [] [] (p ∷ ps) w u v r h k = absurd k
one_run [] (o ∷ os) ps w u v r h k = absurd h
one_run (e ∷ es) [] ps w u v r h k = absurd h
one_run (e ∷ es) (o ∷ os) [] w u v r h k = absurd k
one_run (e ∷ es) (o ∷ os) (p ∷ ps) w u v r h k =
    let same = steps_exact w h.0 k.0 e o p r (first_step e es o os w u h) (first_step e es p ps w v k) in
    let rest = one_run es os ps h.0 u v (reached_step w h.0 e o r h.1) h.4 (subst (λ m. AsTree m es ps v) (sym same.1) k.4) in
    (ap (λ x. x ∷ os) same.0 ∙ ap (λ xs. p ∷ xs) rest.0, rest.1)

run_reached : (es : List Event) (os : List Outcome) (w v : World) → IsReached w → AsTree w es os v → IsReached v
run_reached [] [] w v r h = subst IsReached (sym h) r
run_reached [] (o ∷ os) w v r h = absurd h
run_reached (e ∷ es) [] w v r h = absurd h
run_reached (e ∷ es) (o ∷ os) w v r h = run_reached es os h.0 v (reached_step w h.0 e o r h.1) h.4

one_tree : (s t : Slots) → IsNewTree s → IsNewTree t → s ≡ t
one_tree s t h k =
    same_slots t s (λ p. h.new.unmapped p ∙ sym (k.new.unmapped p)) (λ p. h.new.free p ∙ sym (k.new.free p)) (λ p. ap (λ f. f p) (h.edges ∙ sym k.edges))

module _ {A : Type 0} where
  new_reached : (setup : Setup A) (slots : Slots) → fault_of setup ≡ None → IsNewTree slots → IsReached (new_world (made_of setup) slots)
  new_reached setup slots fine new = reached_opening (made_of setup) slots (few_cores setup fine) new.new

  -- over the slots of another new tree
  over : (setup : Setup A) (events : List Event) (outcomes : List Outcome) (w : World) (slots : Slots) → IsNewTree slots → RunsOverTree setup events outcomes w
      → AsTree (new_world (made_of setup) slots) events outcomes w
  over setup events outcomes w slots new h =
      subst (λ s. AsTree (new_world (made_of setup) s) events outcomes w) (one_tree h.slots slots h.new new) h.run

  pub runs_exact : RunsAreExact A
  runs_exact setup events outcomes others u v fine h k =
      one_run events outcomes others _ u v (new_reached setup h.slots fine h.new) h.run (over setup events others v h.slots h.new k)

-- ---- notes in order of tickets

-- how many notes have tickets below n
below : ℕ → List Noted → ℕ
below zero notes = 0
below (suc n) notes = below n notes + length (with_ticket n notes)

below_none : (n : ℕ) → below n [] ≡ 0
unfolding below
below_none zero = refl
below_none (suc n) = let none = below_none n in omega (arith, none)

ticket_more : (t : ℕ) (x : Noted) (notes : List Noted) → length (with_ticket t (x ∷ notes)) ≡ one_if (x.ticket == t) + length (with_ticket t notes)
ticket_more t x notes = go (x.ticket == t)
  where
    go : (b : Bool) → length (cond b (x ∷ with_ticket t notes) (with_ticket t notes)) ≡ one_if b + length (with_ticket t notes)
    go true = omega arith
    go false = omega arith

-- one note more
below_more : (n : ℕ) (x : Noted) (notes : List Noted) → below n (x ∷ notes) ≡ one_if (nat_lt x.ticket n) + below n notes
unfolding below
below_more zero x notes = go (nat_lt x.ticket 0) refl
  where
    go : (b : Bool) → nat_lt x.ticket 0 ≡ b → 0 ≡ one_if b + 0
    go true e = let never : x.ticket < 0 = grind (arith, nat_tests) in absurd (omega (arith, never))
    go false e = refl
below_more (suc n) x notes = go (nat_lt x.ticket n) (x.ticket == n) (nat_lt x.ticket (suc n)) refl refl refl (below_more n x notes) (ticket_more n x notes)
  where
    go : (a b c : Bool) → nat_lt x.ticket n ≡ a → (x.ticket == n) ≡ b → nat_lt x.ticket (suc n) ≡ c
        → below n (x ∷ notes) ≡ one_if (nat_lt x.ticket n) + below n notes
        → length (with_ticket n (x ∷ notes)) ≡ one_if (x.ticket == n) + length (with_ticket n notes)
        → below n (x ∷ notes) + length (with_ticket n (x ∷ notes)) ≡ one_if (nat_lt x.ticket (suc n)) + (below n notes + length (with_ticket n notes))
    go a b c ea eb ec h k =
        let sum : one_if (nat_lt x.ticket (suc n)) ≡ one_if (nat_lt x.ticket n) + one_if (x.ticket == n) = rw (ea, eb, ec) (parts a b c ea eb ec) in
        omega (arith, sum, h, k)
      where
        parts : (a b c : Bool) → nat_lt x.ticket n ≡ a → (x.ticket == n) ≡ b → nat_lt x.ticket (suc n) ≡ c → one_if c ≡ one_if a + one_if b
        parts true false true ea eb ec = refl
        parts false true true ea eb ec = refl
        parts false false false ea eb ec = refl
        parts true true c ea eb ec =
            let less : x.ticket < n = grind (arith, nat_tests) in let same : x.ticket ≡ n = grind (arith, nat_tests) in absurd (omega (arith, less, same))
        parts true false false ea eb ec =
            let less : x.ticket < n = grind (arith, nat_tests) in let not_less : suc n ≤ x.ticket = grind (arith, nat_tests) in
            absurd (omega (arith, less, not_less))
        parts false true false ea eb ec =
            let same : x.ticket ≡ n = grind (arith, nat_tests) in let not_less : suc n ≤ x.ticket = grind (arith, nat_tests) in
            absurd (omega (arith, same, not_less))
        parts false false true ea eb ec =
            let not_less : n ≤ x.ticket = grind (arith, nat_tests) in let other : x.ticket ≢ n = grind (arith, nat_tests) in
            let less : x.ticket < suc n = grind (arith, nat_tests) in absurd (omega (arith, not_less, other, less))

-- notes with tickets below n are others than those with a later one
below_beside : (n t : ℕ) (notes : List Noted) → n ≤ t → below n notes + length (with_ticket t notes) ≤ length notes
below_beside n t [] le = let none = below_none n in omega (arith, none)
below_beside n t (x ∷ notes) le = go (nat_lt x.ticket n) (x.ticket == t) refl refl (below_beside n t notes le) (below_more n x notes) (ticket_more t x notes)
  where
    go : (a b : Bool) → nat_lt x.ticket n ≡ a → (x.ticket == t) ≡ b → below n notes + length (with_ticket t notes) ≤ length notes
        → below n (x ∷ notes) ≡ one_if (nat_lt x.ticket n) + below n notes
        → length (with_ticket t (x ∷ notes)) ≡ one_if (x.ticket == t) + length (with_ticket t notes)
        → below n (x ∷ notes) + length (with_ticket t (x ∷ notes)) ≤ suc (length notes)
    go a b ea eb h i j =
        let few : one_if (nat_lt x.ticket n) + one_if (x.ticket == t) ≤ 1 = rw (ea, eb) (at_most a b ea eb) in
        omega (arith, few, h, i, j)
      where
        at_most : (a b : Bool) → nat_lt x.ticket n ≡ a → (x.ticket == t) ≡ b → one_if a + one_if b ≤ 1
        at_most true false ea eb = omega arith
        at_most false b ea eb = few b
          where
            few : (b : Bool) → one_if false + one_if b ≤ 1
            few true = omega arith
            few false = omega arith
        at_most true true ea eb =
            let less : x.ticket < n = grind (arith, nat_tests) in let same : x.ticket ≡ t = grind (arith, nat_tests) in absurd (omega (arith, le, less, same))

below_all : (notes : List Noted) → AreNumbered notes → (n : ℕ) → n ≤ length notes → below n notes ≡ n
unfolding below
below_all notes all zero le = refl
below_all notes all (suc n) le =
    let before = below_all notes all n (omega (arith, le)) in
    let one = all n (omega (arith, le)) in
    omega (arith, before, one)

-- where each ticket below their number stands once, no note has another
ticket_within : (notes : List Noted) (t : ℕ) (x : Noted) → AreNumbered notes → with_ticket t notes ≡ x ∷ [] → t < length notes
ticket_within notes t x all is = ⊎_elim (λ (l : t < length notes). l)
    (λ (l : length notes ≤ t).
    let full = below_all notes all (length notes) (omega arith) in
    let beside = below_beside (length notes) t notes l in
    let one : length (with_ticket t notes) ≡ 1 = ap length is in
    absurd (omega (arith, full, beside, one)))
    (cases_lt t (length notes))

-- the notes up to this one, and those after it
order_split : (n t : ℕ) (notes : List Noted) (x : Noted) → t < n → with_ticket t notes ≡ x ∷ []
    → (rest : List Noted) × (in_order n notes ≡ in_order t notes ++ x ∷ rest)
order_split zero t notes x lt is = absurd (omega (arith, lt))
order_split (suc n) t notes x lt is = ⊎_elim
    (λ (l : t < n).
    let h = order_split n t notes x l is in
    (h.0 ++ with_ticket n notes, ap (λ ys. ys ++ with_ticket n notes) h.1 ∙ append_assoc (in_order t notes) (x ∷ h.0) (with_ticket n notes)))
    (λ (l : n ≤ t).
    let same : t ≡ n = omega (arith, l, lt) in
    ([], ap (λ k. in_order k notes ++ with_ticket k notes) (sym same) ∙ ap (λ ys. in_order t notes ++ ys) is))
    (cases_lt t n)

-- what is known of a run of notes where this one comes
record ComesTo (w : World) (before : List Noted) (x : Noted) : Type 0 where
  pub at : World
  pub after : World
  pub run : AsTree w (events_of before) (outcomes_of before) at
  pub leads : LeadsAsTree at x.event x.outcome after

run_split : (before rest : List Noted) (x : Noted) (w v : World) → AsTree w (events_of (before ++ x ∷ rest)) (outcomes_of (before ++ x ∷ rest)) v
    → ComesTo w before x
run_split [] rest x w v h = record { at = w; after = h.0; run = refl; leads = record { step = h.1; joins = h.2; divides = h.3 } }
run_split (y ∷ before) rest x w v h =
    let then = run_split before rest x h.0 v h.4 in
    record { at = then.at; after = then.after; run = (h.0, h.1, h.2, h.3, then.run); leads = then.leads }

-- ---- the states of a run of notes

only : (x y : Noted) → x ∷ [] ≡ y ∷ [] → x ≡ y
only x y e = cc

-- states of the run of notes
one_states : (new first : World) (notes : List Noted) (n : ℕ) (s t : ℕ → World) → first ≡ new → IsReached new
    → AreStates in_512 CanFold FoldsNode new notes n s → AreStates in_512 CanFold FoldsNode first notes n t → (k : ℕ) → k ≤ n → (s k ≡ t k) × IsReached (s k)
one_states new first notes n s t e r a b zero le = (a.first ∙ sym e ∙ sym b.first, subst IsReached (sym a.first) r)
one_states new first notes n s t e r a b (suc k) le =
    let before = one_states new first notes n s t e r a b k (omega (arith, le)) in
    let x = a.each k (omega (arith, le)) in
    let y = b.each k (omega (arith, le)) in
    let note : y.note ≡ x.note = only y.note x.note (sym y.ticket ∙ x.ticket) in
    let other : LeadsAsTree (s k) x.note.event x.note.outcome (t (k + 1))
    = subst (λ m. LeadsAsTree m x.note.event x.note.outcome (t (k + 1))) (sym before.0)
    (subst (λ (z : Noted). LeadsAsTree (t k) z.event z.outcome (t (k + 1))) note y.leads) in
    let same = steps_exact (s k) (s (k + 1)) (t (k + 1)) x.note.event x.note.outcome x.note.outcome before.1 x.leads other in
    subst (λ j. (s j ≡ t j) × IsReached (s j)) (add-one k) (same.1, reached_step (s k) (s (k + 1)) x.note.event x.note.outcome before.1 x.leads.step)

-- ---- refusals

module _ {A : Type 0} where
  -- notes of which an outcome differs are no run
  differing : (setup : Setup A) (notes : List Noted) (t : ℕ) (noted expected : Outcome) → fault_of setup ≡ None → AreNumbered notes
      → DiffersAt in_512 CanFold FoldsNode setup notes t noted expected → (w : World)
      → ¬ RunsOverTree setup (events_in_order notes) (outcomes_in_order notes) w
  differing setup notes t noted expected fine all d w h =
      let split = order_split (length notes) t notes d.note (ticket_within notes t d.note all d.ticket) d.ticket in
      let new = new_world (made_of setup) d.slots in
      let run : AsTree new (events_of (in_order t notes ++ d.note ∷ split.0)) (outcomes_of (in_order t notes ++ d.note ∷ split.0)) w
      = subst (λ ns. AsTree new (events_of ns) (outcomes_of ns) w) split.1 (over setup _ _ w d.slots d.new h) in
      let there = run_split (in_order t notes) split.0 d.note new w run in
      let first = new_reached setup d.slots fine d.new in
      let same : there.at ≡ d.before = (one_run _ _ _ new there.at d.before first there.run d.run).1 in
      let reached = run_reached _ _ new d.before first d.run in
      let one = steps_exact d.before there.after d.after d.note.event d.note.outcome expected reached
      (subst (λ m. LeadsAsTree m d.note.event d.note.outcome there.after) same there.leads) (record { step = d.step; joins = d.joins; divides = d.divides }) in
      d.differs (sym one.0 ∙ d.noted_so)

  some_slot : (slots : List (SlotHistory A)) (at : ℕ) → at < length slots → SlotHistory A
  some_slot [] at lt = absurd (omega (arith, lt))
  some_slot (s ∷ slots) at lt = s

  -- a slot that strays from a run doesn't go along with it
  strays_not : (n : ℕ) (maps others : ℕ → ℕ → Option PageInfo) (slots : List (SlotHistory A)) (page : ℕ)
      → ((t p : ℕ) → t < n → others t p ≡ maps t p) → IsFirstAstray n maps slots page → ¬ AllGoAlong n others slots
  strays_not n maps others slots page same first all = go (first.strays d)
    where
      d : SlotHistory A
      d = some_slot slots first.at first.within

      go : Strays n maps (get_or slots first.at d) → ⊥
      go (inl undated) = undated (all first.at d page first.within (first.page_of d).has).dated
      go (inr x) =
          let along = all first.at d page first.within (first.page_of d).has in
          x.differs (sym (same x.ticket x.page x.within) ∙ along.agrees x.ticket x.within x.begun x.page x.has)

  straying : (setup : Setup A) (notes : List Noted) (histories : List (SlotHistory A)) (page : ℕ) → fault_of setup ≡ None
      → GoesAstray in_512 CanFold FoldsNode setup notes histories page → RulesOut setup notes histories (By.Slot page)
  straying setup notes histories page fine g slots states new are all =
      let opening : new_world (made_of setup) slots ≡ new_world (made_of setup) g.slots = ap (new_world (made_of setup)) (one_tree slots g.slots new g.new) in
      let each = one_states _ _ notes (length notes) g.states states opening (new_reached setup g.slots fine g.new) g.are_states are in
      strays_not (length notes) (maps_of g.states) (maps_of states) histories page
      (λ t p less. ap (λ (w : World). w.slots.info p) (sym (each (t + 1) (omega (arith, less))).0)) g.first all

  pub refusals_exact : RefusalsAreExact A
  refusals_exact setup notes histories (By.Setup fault) h = λ none. let e = sym h ∙ none in absurd (cc)
  refusals_exact setup notes histories (By.Ticket t) h = λ all. h.1.amiss (all t h.1.within)
  refusals_exact setup notes histories (By.Differs t noted expected) h = differing setup notes t noted expected h.0 h.1 h.2
  refusals_exact setup notes histories (By.Slot page) h = straying setup notes histories page h.0 h.2
  refusals_exact setup notes histories By.NoMemory h = tt
