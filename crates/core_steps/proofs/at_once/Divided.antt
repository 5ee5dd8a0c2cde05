-- Steps of a call after which slots begin where they began divide none, and so they divide as any map does
use Rattle.machine_model.proofs.Words.{◌≡◌, ℕ, zero, suc, ◌+◌, Bool, true, false, cond, refl, sym, subst, ap, ◌∙◌, arith, ◌⊎◌, inl, inr, Ok, Some, fun_ext}
use Rattle.machine_model.proofs.Words.{add-one, PageRange, Request, Locked, Held, goal_range, Slots, Divides, Locks}
use Rattle.machine_model.proofs.Words.{Idles, World, Goes, Step, StepsTo, event_limit, is_here, with_event}
use Rattle.machine_model.specs.declared.event.Event.TheVariants.{Call, Go}
use Rattle.machine_model.specs.declared.event.Outcome.{Outcome}
use Rattle.machine_model.specs.declared.event.Outcome.TheVariants.{Full, Stepped}
use Rattle.machine_model.specs.declared.phase.Phase.{Phase}
use Rattle.std.proofs.Common.{nat_lt}
use Rattle.std.specs.Prelude.{◌≢◌}
use Rattle.slot_lock.specs.declared.slot_map.Got.TheVariants.{Split}
use Rattle.slot_lock.specs.declared.slot_map.Fit.TheVariants as fit
use Rattle.machine_model.specs.declared.phase.Phase.TheVariants as At
use Rattle.core_steps.specs.declared.machine.Finished.TheVariants.{Last}
use Rattle.core_steps.specs.declared.at_once.starting.Started.{Started}
use Rattle.core_steps.specs.declared.at_once.starting.Started.TheVariants.{Begun, Ended}
use Rattle.core_steps.specs.AtOnce.{Starts, StartsAsMap}
use Rattle.core_steps.specs.Dividing.{DividesAsMap, GoesAsMap, StepsAsMap}
use Rattle.core_steps.specs.Finishing.{CallsAsMap, FinishesAfter}
use Rattle.core_steps.proofs.Keeping.{stays}

-- ---- where slots begin before a step and after it

rising : (w v : World) (c n : ℕ) → StepsTo w c n v → (p : ℕ) → w.slots.edge p ≡ true → v.slots.edge p ≡ true
rising w v c zero same p h = ap (λ (x : World). x.slots.edge p) same ∙ h
rising w v c (suc n) (m, before, s) p h = stays m (Go c) Stepped v (λ p e. cc) s p (rising w m c n before p h)

-- what is the same at the end was the same between
between : (s t u : Slots) → ((p : ℕ) → s.edge p ≡ true → t.edge p ≡ true) → ((p : ℕ) → t.edge p ≡ true → u.edge p ≡ true)
    → u.edge ≡ s.edge → t.edge ≡ s.edge
between s t u up on same = fun_ext (λ p. go p (s.edge p) (t.edge p) refl refl)
  where
    go : (p : ℕ) (a b : Bool) → s.edge p ≡ a → t.edge p ≡ b → t.edge p ≡ s.edge p
    go p true b i j = up p i ∙ sym i
    go p false false i j = j ∙ sym i
    go p false true i j = absurd (let last = on p j in let first = ap (λ f. f p) same in cc)

-- ---- a step that divides none

not_new : (s t : Slots) (owner : _) (at : ℕ) → Divides s t owner at → t.edge ≡ s.edge → ⊥
not_new s t owner at d same = let now = d.begins in let was = d.was_inside in let e = ap (λ f. f at) same in cc

module _ (parts : PageRange → ℕ → ℕ → Bool) where
  exact : (w v : World) (c : ℕ) (o : Outcome) (phase : Phase) → (o ≢ Stepped) ⊎ Goes w c phase o v → v.slots.edge ≡ w.slots.edge
      → GoesAsMap parts w.slots c phase o v.slots
  exact w v c o (At.Lock goal cursor) (inl other) same = λ e. absurd (other e)
  exact w v c o (At.Lock goal cursor) (inr (Split, (t, s, h))) same =
      λ e. absurd (not_new w.slots t _ s.divides.0 s.divides.2 (sym (ap (λ (x : World). x.slots.edge) h.1) ∙ same))
  exact w v c o (At.Lock goal cursor) (inr (Locked b, (t, l, h))) same =
      λ e. inr (b, subst (λ x. Locks w.slots x c cursor (goal_range goal).end b) (sym (ap (λ (x : World). x.slots) h.1)) l)
  exact w v c o (At.Lock goal cursor) (inr (Held by, (t, s, h))) same = λ e. absurd (let waits = h.0 in cc)
  exact w v c o (At.Cut place target range) (inl other) same = λ e. absurd (other e)
  exact w v c o (At.Cut place target range) (inr (fit.Cut, (t, s, h))) same =
      λ e. absurd (not_new w.slots t _ s.divides.0 s.divides.2 (sym (ap (λ (x : World). x.slots.edge) h.1) ∙ same))
  exact w v c o (At.Cut place target range) (inr (fit.Fits, (t, s, h))) same = λ e. inr (s.0, ap (λ (x : World). x.slots) h.1)
  exact w v c o phase h same = tt

  undivided : (w v : World) (c : ℕ) (o : Outcome) → Step w (Go c) o v → v.slots.edge ≡ w.slots.edge → DividesAsMap parts w (Go c) o v
  undivided w v c o s same = go (nat_lt w.calls.events event_limit) (is_here w.made (Some c)) s
    where
      go : (a b : Bool) → cond a (cond b (Goes (with_event w) c (w.calls.phase c) o v) (Idles (with_event w) o v)) ((o ≡ Full) × (v ≡ w))
          → GoesAsMap parts w.slots c (w.calls.phase c) o v.slots
      go true true g = exact (with_event w) v c o (w.calls.phase c) (inr g) same
      go true false i = exact (with_event w) v c o (w.calls.phase c) (inl (λ e. let idle = i.0 in cc)) same
      go false b i = exact (with_event w) v c o (w.calls.phase c) (inl (λ e. let full = i.0 in cc)) same

  pub none_divided : (w v : World) (c n : ℕ) → StepsTo w c n v → v.slots.edge ≡ w.slots.edge → StepsAsMap parts w c n v
  none_divided w v c zero steps same = steps
  none_divided w v c (suc n) (m, before, s) same =
      let half : m.slots.edge ≡ w.slots.edge = between w.slots m.slots v.slots (rising w m c n before) (stays m (Go c) Stepped v (λ p e. cc) s) same in
      (m, none_divided w m c n before half, s, undivided m v c Stepped s (same ∙ sym half))

  -- ---- one after another

  pub as_map_more : (was now new : World) (c n : ℕ) (o : Outcome) → o ≡ Stepped → StepsAsMap parts was c n now → Step now (Go c) o new
      → DividesAsMap parts now (Go c) o new → StepsAsMap parts was c (n + 1) new
  as_map_more was now new c n o e s step divided =
      subst (λ k. StepsAsMap parts was c k new) (sym (add-one n))
      (now, s, subst (λ o. Step now (Go c) o new) e step, subst (λ o. DividesAsMap parts now (Go c) o new) e divided)

  pub as_map_join : (was now new : World) (c n k : ℕ) → StepsAsMap parts was c n now → StepsAsMap parts now c k new → StepsAsMap parts was c (n + k) new
  as_map_join was now new c n k s more = let swap : k + n ≡ n + k = omega arith in subst (λ j. StepsAsMap parts was c j new) swap (go k new more)
    where
      go : (k : ℕ) (v : World) → StepsAsMap parts now c k v → StepsAsMap parts was c (k + n) v
      go zero v same =
          let sum : n ≡ 0 + n = omega arith in subst (λ j. StepsAsMap parts was c j v) sum (subst (StepsAsMap parts was c n) (sym same) s)
      go (suc k) v (m, before, step, divided) =
          let sum : suc (k + n) ≡ suc k + n = omega arith in subst (λ j. StepsAsMap parts was c j v) sum (m, go k m before, step, divided)

  -- ---- a call that was begun

  ended : (w m v : World) (c : ℕ) (request : Request) (p o : Outcome) → Step w (Call c request) p m → FinishesAfter m c p (Last o) v
      → v.slots.edge ≡ w.slots.edge → CallsAsMap parts w c request (Ok (Last o)) v
  ended w m v c request Stepped o s (n, (few, other, (x, steps, last))) same =
      let on : (p : ℕ) → m.slots.edge p ≡ true → v.slots.edge p ≡ true = λ p h. stays x (Go c) o v (λ p e. cc) last p (rising m x c n steps p h) in
      let first : m.slots.edge ≡ w.slots.edge = between w.slots m.slots v.slots (stays w (Call c request) Stepped m (λ p e. cc) s) on same in
      let left : v.slots.edge ≡ m.slots.edge = same ∙ sym first in
      let half : x.slots.edge ≡ m.slots.edge = between m.slots x.slots v.slots (rising m x c n steps) (stays x (Go c) o v (λ p e. cc) last) left in
      inr (m, s, (n, (x, none_divided m x c n steps half, last, undivided x v c o last (left ∙ sym half))))
  ended w m v c request p o s h same =
      let is : o ≡ p = let last = h.1 in cc in
      inl (o, (λ e. cc), subst (λ x. Step w (Call c request) x v) (sym is) (subst (Step w (Call c request) p) (sym h.0) s), refl)

  pub starts_undivided : (w v : World) (c : ℕ) (request : Request) (started : Started) → Starts w c request started v → v.slots.edge ≡ w.slots.edge
      → StartsAsMap parts w c request started v
  starts_undivided w v c request (Begun n) (few, (m, begun, steps)) same =
      let half : m.slots.edge ≡ w.slots.edge =
      between w.slots m.slots v.slots (stays w (Call c request) Stepped m (λ p e. cc) begun) (rising m v c n steps) same in
      (m, begun, none_divided m v c n steps (same ∙ sym half))
  starts_undivided w v c request (Ended o) (p, m, s, h) same = ended w m v c request p o s h same
