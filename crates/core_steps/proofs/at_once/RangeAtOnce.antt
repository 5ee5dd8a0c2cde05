-- The steps of a change of a range, made at once: the states that they pass, and the one that is left
use Rattle.machine_model.proofs.Words.{◌≡◌, ℕ, zero, suc, ◌+◌, ◌*◌, ◌-◌, ◌<◌, ◌≤◌, ◌==◌, [], ◌∷◌, ◌++◌, true, false, Bool, Option, Some, None, inl, refl, sym}
use Rattle.machine_model.proofs.Words.{subst, ap, ◌∙◌, arith, cond, if◌then◌else◌, nat_tests, fun_ext, PageInfo, PageRange, Errno, Reply, Refused}
use Rattle.machine_model.proofs.Words.{has, has_in, in_has, File, Decision, Change, Put, Clear, Protect, range_of, Slots, Act, Refuse}
use Rattle.machine_model.proofs.Words.{Counts, Hardware, Memory, World, Goes, StepsTo}
use Rattle.machine_model.proofs.Words.{after_reply, to, AwaitsNobody, CountsLost, reply_to, slots_after, held_after, let_go, event_limit, with_event}
use Rattle.machine_model.proofs.Words.{after_shot, with_hardware, between, with_owner, Locks, Unlocks}
use Rattle.machine_model.specs.declared.event.Outcome.TheVariants.{Stepped}
use Rattle.machine_model.specs.declared.phase.Phase.{Phase}
use Rattle.machine_model.specs.declared.phase.Phase.TheVariants.{Acks, Answer, Decide, Lock, Post, Unlock}
use Rattle.std.proofs.Common.{nat_le}
use Rattle.vm_base.specs.declared.log.Entry.TheVariants as EntryOf
use Rattle.slot_lock.specs.declared.plan.Goal.TheVariants as To
use Rattle.slot_lock.specs.declared.survey.Survey.{Survey}
use Rattle.slot_lock.specs.Edges.{edges_below}
use Rattle.slot_lock.specs.SlotRuns.{OneByOne}
use Rattle.slot_lock.specs.Surveys.{AreFree}
use Rattle.slot_lock.proofs.Ranges.{each_slot}
use Rattle.slot_lock.proofs.Surveys.{edges_next, edges_rise, one_if}
use Rattle.vm_calls.specs.Decisions.{DecidesChange}
use Rattle.vm_calls.specs.Decisions.DecidesProtect.{acts, no_page, no_write}
use Rattle.slot_lock.proofs.Changes.{sound_pages}
use Rattle.core_steps.specs.Moving.{IsAt}
use Rattle.core_steps.specs.OnePage.{later, replied}
use Rattle.core_steps.specs.PageChange.{IsAlone}
use Rattle.core_steps.specs.RangeChange.{IsFreeRange, IsRangeChange}
use Rattle.core_steps.proofs.engine.Each.{own_dropped}
use Rattle.core_steps.proofs.Reached.{steps_join}
use Rattle.core_steps.proofs.at_once.ChangeAtOnce.{change_held}
use Rattle.core_steps.proofs.at_once.AtOnce.{goes, having, held, holding, locks, passed, steps, unlocks_on}

-- ---- the slots

-- as many begin where the same begin
edges_same : (s t : Slots) → t.edge ≡ s.edge → (n : ℕ) → edges_below t n ≡ edges_below s n
unfolding edges_below
edges_same s t e zero = refl
edges_same s t e (suc n) = let one = ap (λ f. one_if (f n)) e in let rest = edges_same s t e n in omega (arith, one, rest)

-- there is one
pub survey_some : (s : Slots) (r : PageRange) (found : Survey) → r.first < r.end → AreFree s r found → 1 ≤ found.slots
survey_some s r found some h =
    let one = edges_next s r.first (r.first + 1) refl in
    let begins = ap one_if h.cut.begins in
    let last : r.first + 1 + (r.end - (r.first + 1)) ≡ r.end = omega (arith, some) in
    let rise = edges_rise s (r.first + 1) (r.end - (r.first + 1)) in
    let most : edges_below s (r.first + 1) ≤ edges_below s r.end = subst (λ n. edges_below s (r.first + 1) ≤ edges_below s n) last rise in
    let count = h.survey.slots in
    omega (arith, one, begins, most, count)

module _ (s : Slots) (r : PageRange) (found : Survey) (some : r.first < r.end) (h : AreFree s r found) where
  -- they are locked one after another
  locks_all : (c : ℕ) → OneByOne (λ x y a b. Locks x y c a r.end b) s (held s c r) r.first found.slots r.end
  locks_all c =
      each_slot s r.first r.end None (Some c) (λ x y a b. Locks x y c a r.end b) h.cut.begins h.survey.free
      (λ x y a b slot low free now. record { slot = slot; by_end = low; was_free = free; now = now })
      found.slots (omega (arith, some)) h.cut.ends h.survey.slots

  -- once they are let go, they are nobody's again
  free_again : (c : ℕ) (info : ℕ → Option PageInfo)
      → with_owner (held (record s { info = info }) c r) r.first r.end None ≡ record s { info = info }
  free_again c info = ap (λ o. record s { info = info; owner = o }) (fun_ext (λ p. go p (has r p) refl))
    where
      go : (p : ℕ) (b : Bool) → has r p ≡ b → cond b None (cond b (Some c) (s.owner p)) ≡ s.owner p
      go p true e = let ends = has_in r p e in sym (h.survey.free p ends.0 ends.1)
      go p false e = refl

  -- they are let go one after another, whatever their pages have
  unlocks_all : (c : ℕ) (info : ℕ → Option PageInfo)
      → OneByOne (λ x y a b. Unlocks x y c a r.end b) (held (record s { info = info }) c r) (record s { info = info }) r.first found.slots r.end
  unlocks_all c info =
      let x = held (record s { info = info }) c r in
      let same = edges_same s x refl in
      let count : edges_below x r.end ≡ edges_below x r.first + found.slots =
      same r.end ∙ (h.survey.slots ∙ ap (λ n. n + found.slots) (sym (same r.first))) in
      subst (λ y. OneByOne (λ x y a b. Unlocks x y c a r.end b) x y r.first found.slots r.end) (free_again c info)
      (each_slot x r.first r.end (Some c) None (λ x y a b. Unlocks x y c a r.end b) h.cut.begins (λ p low high. rw (in_has r p low high) refl)
      (λ x y a b slot low mine now. record { slot = slot; by_end = low; was_held = mine; now = now })
      found.slots (omega (arith, some)) h.cut.ends count)

-- ---- from the reply on

-- The call's reply is logged by the step after these, after which the pages have this, and its slots are let go by those after it.
answered_all : (from x : World) (info : ℕ → Option PageInfo) (memory : Memory) (c n : ℕ) (r : PageRange) (found : Survey) (a : Phase) (reply : Reply)
    → StepsTo from c n (to c a (later n (holding c r x))) → x.calls.events + (n + 1 + found.slots) ≤ event_limit → c < x.made.cores
    → r.first < r.end → AreFree x.slots r found → Goes (to c a (with_event (later n (holding c r x)))) c a Stepped
    (after_reply c (Some r) reply (to c a (with_event (later n (holding c r (having x.slots info (record x { memory = memory })))))))
    → StepsTo from c (n + 1 + found.slots)
    (later (found.slots - 1) (replied c reply (n + 1) (having x.slots info (record x { memory = memory }))))
answered_all from x info memory c n r found a reply before room here some h logs =
    let y = having x.slots info (logged (suc (x.calls.events + n))) in
    let u = later (n + 1) (holding c r y) in
    let first : StepsTo from c (n + 1) (to c (Unlock r reply) u) =
    subst (λ k. StepsTo from c k (to c (Unlock r reply) u)) (next n) (
      to c a (later n (holding c r x)),
      before,
      goes (holding c r x) (holding c r y) c n a (Unlock r reply) (omega (arith, room, few)) here logs,
    ) in
    let rest : StepsTo (to c (let_go (held_after r r.first) reply) u) c found.slots (to c (let_go (held_after r r.end) reply) (passed y.slots found.slots u)) =
    steps u c r.end (λ a. let_go (held_after r a) reply) (λ a. Unlock (between a r.end) reply) (unlocks_on r reply) (λ s t a b. Unlocks s t c a r.end b)
    (λ s t a b l. (l.slot.ordered, l.by_end, ap (λ (s : Slots). s.edge) l.now)) (λ v t a b l. (b, (t, l, (refl, refl)))) here r.first
    found.slots y.slots r.end (omega (arith, room)) (unlocks_all x.slots r found some h c info) in
    let begins : let_go (held_after r r.first) reply ≡ Unlock r reply = unlocks_on r reply r.first some in
    let whole : (r.end == r.end) ≡ true = grind (arith, nat_tests) in
    let ends : let_go (held_after r r.end) reply ≡ Answer reply = ap (λ b. let_go (if b then None else Some (between r.end r.end)) reply) whole in
    let same : suc (x.calls.events + n) ≡ x.calls.events + (n + 1) = omega arith in
    let more : x.calls.events + (n + 1) + found.slots ≡ x.calls.events + (n + 1) + 1 + (found.slots - 1) = omega (arith, few) in
    subst (StepsTo from c (n + 1 + found.slots))
    (ap (λ k. left k (x.calls.events + (n + 1) + found.slots)) same ∙ ap (left (x.calls.events + (n + 1))) more)
    (steps_join from (to c (Unlock r reply) u) _ c (n + 1) found.slots first
    (subst (λ p. StepsTo (to c (Unlock r reply) u) c found.slots (to c p (passed y.slots found.slots u))) ends
    (subst (λ p. StepsTo (to c p u) c found.slots (to c (let_go (held_after r r.end) reply) (passed y.slots found.slots u))) begins rest)))
  where
    few : 1 ≤ found.slots
    few = survey_some x.slots r found some h

    next : (k : ℕ) → suc k ≡ k + 1
    next k = omega arith

    -- with the number of this event
    logged : ℕ → World
    logged step = record x {
      memory = memory;
      calls = record x.calls { log = x.calls.log ++ EntryOf.Answer step (x.calls.number c) c reply ∷ [] };
    }

    left : ℕ → ℕ → World
    left step events = let v = having x.slots info (logged step) in to c (Answer reply) (record v { calls = record v.calls { events = events } })

-- ---- the locks, and what is decided then

module _ {w : World} {c : ℕ} {change : Change} {found : Survey} {d : Decision} (i : IsRangeChange w c change found d) where
  pub some : (range_of change).first < (range_of change).end
  some = (sound_pages change i.range.at.goal.plan).some

  locked : StepsTo w c found.slots (to c (Decide change) (later found.slots (holding c (range_of change) w)))
  locked =
      let r = range_of change in
      let past : nat_le r.end r.end ≡ true = grind (arith, nat_tests) in
      let room = i.range.room in
      (locks w (to c (Decide change) (later found.slots (holding c r w))) c (To.Change change) r.first found.slots (held w.slots c r) r.end found.slots
      (Decide change) i.range.at (omega arith) (omega (arith, room)) (locks_all w.slots r found some i.range.free c)
      (sym (ap (λ b. if b then Decide change else Lock (To.Change change) r.end) past)) refl).0

  pub some_slot : 1 ≤ found.slots
  some_slot = survey_some w.slots (range_of change) found some i.range.free

-- a decision looks at what pages have alone
decided_held : (files : ℕ → Option File) (change : Change) (s : Slots) (c : ℕ) (r : PageRange) (d : Decision) → DecidesChange files s change d
    → DecidesChange files (held s c r) change d
decided_held files (Put range meta) s c r d h = h
decided_held files (Clear range) s c r d h = h
decided_held files (Protect range prot) s c r d (no_page a e) = no_page a e
decided_held files (Protect range prot) s c r d (no_write a x b e) = no_write a x b e
decided_held files (Protect range prot) s c r d (acts a b k) = acts a b k

-- ---- a change that is refused

pub refuses_range : {w v : World} {c : ℕ} {change : Change} {found : Survey} {errno : Errno} → IsRangeChange w c change found (Refuse errno)
    → v ≡ later (found.slots - 1) (replied c (Refused errno) (found.slots + 1) w) → StepsTo w c (2 * found.slots + 1) v × (v.slots.edge ≡ w.slots.edge)
refuses_range {w} {v} {c} {change} {found} {errno} i left =
    let r = range_of change in
    let room = i.range.room in
    let sum : found.slots + 1 + found.slots ≡ 2 * found.slots + 1 = omega arith in (
      subst (λ n. StepsTo w c n v) sum (subst (StepsTo w c (found.slots + 1 + found.slots)) (sym left)
          (answered_all w w w.slots.info w.memory c found.slots r found (Decide change) (Refused errno) (locked i) (omega (arith, room)) i.range.at.here
          (some i) i.range.free (Refuse errno, decided_held w.made.file change w.slots c r (Refuse errno) i.decides, (refl, refl)))),
      ap (λ (x : World). x.slots.edge) left,
    )

-- ---- one that is made

module _ {w : World} {c shoot : ℕ} {change : Change} {found : Survey}
    (i : IsRangeChange w c change found (Act (range_of change) shoot)) (alone : IsAlone shoot c) where
  abbrev told : World
  told = with_hardware (after_shot w.hardware c shoot (range_of change)) w

  tells : StepsTo w c (found.slots + 2) (to c (Acks (To.Change change) change) (later (found.slots + 2) (holding c (range_of change) told)))
  tells =
      let r = range_of change in
      let x = holding c r w in
      let n = found.slots in
      let room = i.range.room in
      let decided = decided_held w.made.file change w.slots c r (Act r shoot) i.decides in
      let two : n + 1 + 1 ≡ n + 2 = omega arith in
      let two_too : suc (suc n) ≡ n + 2 = omega arith in
      subst (λ k. StepsTo w c k (to c (Acks (To.Change change) change) (later (n + 2) (holding c r told)))) two_too
      (subst (λ k. StepsTo w c (suc (suc n)) (to c (Acks (To.Change change) change) (later k (holding c r told)))) two (
        to c (Post change shoot) (later (n + 1) x),
        (
          to c (Decide change) (later n x),
          locked i,
          goes x x c n (Decide change) (Post change shoot) (omega (arith, room)) i.range.at.here (Act r shoot, decided, (refl, refl)),
        ),
        goes x (holding c r told) c (n + 1) (Post change shoot) (Acks (To.Change change) change) (omega (arith, room)) i.range.at.here (refl, refl),
      ))

  -- what is left, but for the reply
  abbrev made : Counts → Hardware → Slots → World
  made counts h slots = record w { slots = slots; hardware = h; memory = record w.memory { counts = counts } }

  pub makes_range : (counts : Counts) (h : Hardware) (range : PageRange) (slots : Slots) (reply : Reply) (v : World)
      → CountsLost c change w counts → range ≡ range_of change → h ≡ after_shot w.hardware c shoot range → slots ≡ slots_after change w.slots
      → reply ≡ reply_to change → v ≡ later (found.slots - 1) (replied c reply (found.slots + 3) (made counts h slots))
      → StepsTo w c (2 * found.slots + 3) v × (v.slots.edge ≡ w.slots.edge)
  makes_range counts h range slots reply v lost same shot changed replies now =
      let r = range_of change in
      let n = found.slots in
      let room = i.range.room in
      let memory = record w.memory { counts = counts } in
      let phase = Acks (To.Change change) change in
      let m = to c phase (with_event (later (n + 2) (holding c r told))) in
      let infos = (slots_after change w.slots).info in
      let after = change_held change w.slots c r in
      let third : n + 2 + 1 ≡ n + 3 = omega arith in
      let sum : n + 2 + 1 + n ≡ 2 * n + 3 = omega arith in
      let left : v ≡ later (n - 1) (replied c (reply_to change) (n + 2 + 1) (made counts (after_shot w.hardware c shoot r) (record w.slots { info = infos }))) =
      rw (now, changed, replies, shot, same, third)
      (ap (λ s. later (n - 1) (replied c (reply_to change) (n + 3) (made counts (after_shot w.hardware c shoot r) s))) after.0) in (
        subst (λ k. StepsTo w c k v) sum (subst (StepsTo w c (n + 2 + 1 + n)) (sym left)
            (answered_all w told infos memory c (n + 2) r found phase (reply_to change) tells (omega (arith, room)) i.range.at.here (some i) i.range.free (inl (
              -- the call awaits nobody, as before
              subst (λ h. AwaitsNobody h c) (sym (own_dropped w.hardware c shoot r alone)) (i.range.at.idle refl),
              (counts, lost, (refl, ap (λ s. after_reply c (Some r) (reply_to change) (record m { slots = s; memory = memory })) after.1)),
            )))),
        ap (λ (x : World). x.slots.edge) left,
      )

-- ---- what it is to know

-- what was found of its slots is known of the change, whose range is this
pub free_range : {w : World} {c cursor : ℕ} {change : Change} {range : PageRange} {found : Survey} (most : ℕ)
    → IsAt w c (Lock (To.Change change) cursor) → range ≡ range_of change → cursor ≡ range.first → AreFree w.slots range found
    → IsAlone found.cores c → w.calls.events + most ≤ event_limit → 2 * found.slots + 3 ≤ most → IsFreeRange w c change found
free_range {w} {c} {cursor} {change} {range} {found} most i same start free alone room enough = record {
  at = subst (λ p. IsAt w c (Lock (To.Change change) p)) (start ∙ ap (λ (r : PageRange). r.first) same) i;
  free = subst (λ r. AreFree w.slots r found) same free;
  alone = alone;
  room = omega (arith, room, enough);
}
