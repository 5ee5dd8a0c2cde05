-- The steps of a change of one page, made at once: the states that they pass, and the one that is left
use Rattle.machine_model.proofs.Words.{◌≡◌, ℕ, ◌+◌, ◌-◌, ◌≤◌, [], ◌∷◌, true, false, Bool, List, Option, Some, None, inl, refl, sym, subst, ap, ◌∙◌, arith}
use Rattle.machine_model.proofs.Words.{IfSome, ∥∥₁_elim, props, PageRange, Errno, Reply, Refused, members, has, put, frame_of, is_recorded, members-empty}
use Rattle.machine_model.proofs.Words.{Change, Put, range_of, Slots, Decision, Act, Refuse, Counts, Translation, TlbEntry, Hardware}
use Rattle.machine_model.proofs.Words.{World, after_reply, to, AwaitsNobody, reply_to, slots_after, frame_lost, locking, StepsTo, event_limit, with_event}
use Rattle.machine_model.proofs.Words.{after_shot, with_hardware}
use Rattle.machine_model.specs.declared.phase.Phase.TheVariants.{Acks, Decide, Lock, Post}
use Rattle.slot_lock.specs.declared.plan.Goal.TheVariants as To
use Rattle.slot_lock.specs.declared.slot_map.FreePage.{FreePage}
use Rattle.slot_lock.specs.Slots.{IsFreePage}
use Rattle.vm_calls.specs.Decisions.{DecidesChange, DecidesPage}
use Rattle.machine_model.specs.Counting.{CountsDown}
use Rattle.machine_model.specs.Coherent.{Every, HasDropped, IsSoundEntry}
use Rattle.machine_model.specs.Invariant.{IsWellFormed}
use Rattle.core_steps.specs.Moving.{IsAt}
use Rattle.core_steps.specs.OnePage.{later, replied}
use Rattle.core_steps.specs.PageChange.{IsAlone, IsPageChange}
use Rattle.core_steps.specs.Taking.{IsCounted}
use Rattle.core_steps.proofs.engine.Each.{own_dropped}
use Rattle.core_steps.proofs.rows.Known.{only_page, page_counted, shot_just}
use Rattle.core_steps.proofs.at_once.AtOnce.{answered, goes, held, holding, locked, to_same}

-- a change changes nothing but what pages have, whoever holds them
pub change_held : (change : Change) (s : Slots) (c : ℕ) (r : PageRange) → (slots_after change s ≡ record s { info = (slots_after change s).info })
    × (held (record s { info = (slots_after change s).info }) c r ≡ slots_after change (held s c r))
change_held (Put range meta) s c r = (refl, refl)
change_held change s c r = (refl, refl)

-- ---- the lock, and what is decided then

module _ {w : World} {c : ℕ} {change : Change} {page : FreePage} {d : Decision} (i : IsPageChange w c change page d) where
  locks : StepsTo w c 1 (to c (Decide change) (later 1 (holding c (range_of change) w)))
  locks =
      subst (λ x. StepsTo x c 1 (to c (Decide change) (later 1 (holding c (range_of change) w)))) (to_same w c (locking (To.Change change)) i.at.phase)
      (locked w c (To.Change change) (omega arith) i.at.here i.one i.found.alone)

  -- its frame is one of the machine's that some page has
  pub is_counted : IfSome (frame_of page.info) (IsCounted w.memory.counts)
  is_counted = go (frame_of page.info) refl
    where
      go : (o : Option ℕ) → frame_of page.info ≡ o → IfSome o (IsCounted w.memory.counts)
      go None e = tt
      go (Some f) e =
          page_counted w (range_of change).first f i.at.well (ap frame_of (sym i.found.info) ∙ e)

-- ---- a change that is refused

pub refuses_at_once : {w v : World} {c : ℕ} {change : Change} {page : FreePage} {errno : Errno} → IsPageChange w c change page (Refuse errno)
    → v ≡ replied c (Refused errno) 2 w → StepsTo w c 3 v × (v.slots.edge ≡ w.slots.edge)
refuses_at_once {w} {v} {c} {change} {page} {errno} i left =
    let r = range_of change in (
      subst (StepsTo w c 3) (sym left)
          (answered w w w.slots.info w.memory c 1 r (Decide change) (Refused errno) (locks i) (omega arith) i.at.here i.one i.found.alone
          (Refuse errno, i.decides (held w.slots c r) (sym i.found.info), (refl, refl))),
      ap (λ (x : World). x.slots.edge) left,
    )

-- ---- one that is made

module _ {w : World} {c shoot : ℕ} {change : Change} {page : FreePage}
    (i : IsPageChange w c change page (Act (range_of change) shoot)) (alone : IsAlone shoot c) where
  abbrev told : World
  told = with_hardware (after_shot w.hardware c shoot (range_of change)) w

  tells : StepsTo w c 3 (to c (Acks (To.Change change) change) (later 3 (holding c (range_of change) told)))
  tells =
      let r = range_of change in
      let x = holding c r w in
      let decided = i.decides (held w.slots c r) (sym i.found.info) in (
        to c (Post change shoot) (later 2 x),
        (
          to c (Decide change) (later 1 x),
          locks i,
          goes x x c 1 (Decide change) (Post change shoot) (omega arith) i.at.here (Act r shoot, decided, (refl, refl)),
        ),
        goes x (holding c r told) c 2 (Post change shoot) (Acks (To.Change change) change) (omega arith) i.at.here (refl, refl),
      )

  -- what is left, but for the reply
  abbrev made : Counts → Hardware → Slots → World
  made counts h slots = record w { slots = slots; hardware = h; memory = record w.memory { counts = counts } }

  pub makes_at_once : (counts : Counts) (h : Hardware) (range : PageRange) (slots : Slots) (reply : Reply) (v : World)
      → CountsDown c (frame_lost change w.slots.info) (range_of change).first 1 w.memory.counts counts → range ≡ range_of change
      → h ≡ after_shot w.hardware c shoot range → slots ≡ slots_after change w.slots → reply ≡ reply_to change
      → v ≡ replied c reply 4 (made counts h slots) → StepsTo w c 5 v × (v.slots.edge ≡ w.slots.edge)
  makes_at_once counts h range slots reply v lost same shot changed replies now =
      let r = range_of change in
      let size : 1 ≡ r.end - r.first = omega arith in
      let memory = record w.memory { counts = counts } in
      let phase = Acks (To.Change change) change in
      let m = to c phase (with_event (later 3 (holding c r told))) in
      let infos = (slots_after change w.slots).info in
      let after = change_held change w.slots c r in
      let left : v ≡ replied c (reply_to change) 4 (made counts (after_shot w.hardware c shoot r) (record w.slots { info = infos })) =
      rw (now, changed, replies, shot, same) (ap (λ s. replied c (reply_to change) 4 (made counts (after_shot w.hardware c shoot r) s)) after.0) in (
        subst (StepsTo w c 5) (sym left)
            (answered w told infos memory c 3 r phase (reply_to change) tells (omega arith) i.at.here i.one i.found.alone (inl (
              -- the call awaits nobody, as before
              subst (λ h. AwaitsNobody h c) (sym (own_dropped w.hardware c shoot r alone)) (i.at.idle refl),
              (
                counts,
                subst (λ n. CountsDown c (frame_lost change w.slots.info) r.first n w.memory.counts counts) size lost,
                (refl, ap (λ s. after_reply c (Some r) (reply_to change) (record m { slots = s; memory = memory })) after.1),
              ),
            ))),
        ap (λ (x : World). x.slots.edge) left,
      )

-- ---- what it is to know

-- what was found of it is known of the change, whose range is this
pub page_change : {w : World} {c cursor : ℕ} {change : Change} {range : PageRange} {page : FreePage} {d : Decision} (most : ℕ)
    → IsAt w c (Lock (To.Change change) cursor) → range ≡ range_of change → range.end - range.first ≡ 1 → IsFreePage w.slots range.first page
    → DecidesPage w.made.file change page.info d → w.calls.events + most ≤ event_limit → 5 ≤ most → IsPageChange w c change page d
page_change {w} {c} {cursor} {change} {range} {page} {d} most i same size found decides room enough =
    let one : (range_of change).end ≡ (range_of change).first + 1 = omega (arith, rw same at size) in
    record {
      at = subst (λ p. IsAt w c (Lock (To.Change change) p)) (only_page w c (To.Change change) cursor i one) i;
      one = one;
      found = subst (λ r. IsFreePage w.slots r.first page) same found;
      decides = decides;
      room = omega (arith, room, enough);
    }

-- it is none of the others' where the others are nobody
pub alone_by : (core set others : ℕ) → members others ≡ put (members set) core false → others ≡ 0 → IsAlone set core
alone_by core set others e none d = sym (ap (λ f. f d) e) ∙ (ap (λ s. members s d) none ∙ members-empty d)

-- a core that isn't recorded on the pages has no translation of them
pub nothing_left : (w : World) (c shoot : ℕ) (change : Change) → ∥ IsWellFormed w ∥₁ → DecidesChange w.made.file w.slots change (Act (range_of change) shoot)
    → members shoot c ≡ false → HasDropped (w.hardware.table c) (w.hardware.tlb c) (range_of change) None
nothing_left w c shoot change well decided out = (
  λ p h. no_entry p h (w.hardware.table c p) refl,
  no_tlb (w.hardware.tlb c) (λ g. g.coherent.tlbs c),
)
  where
    outside : (p : ℕ) (b : Bool) → has (range_of change) p ≡ b → is_recorded (w.slots.info p) c ≡ true → b ≡ false
    outside p false h r = refl
    outside p true h r = let in' = (shot_just w.made.file w.slots change shoot decided c).1 (p, h, r) in absurd cc

    no_entry : (p : ℕ) → has (range_of change) p ≡ true → (o : Option Translation) → w.hardware.table c p ≡ o → o ≡ None
    no_entry p h None e = refl
    no_entry p h (Some t) e = ∥∥₁_elim well (hlevel props) (λ g. let none = outside p true h (g.coherent.tables c p t e).recorded in absurd cc)

    no_tlb : (es : List TlbEntry)
        → (IsWellFormed w → Every (IsSoundEntry w.memory.cached w.slots.info c (w.hardware.table c) (w.hardware.inbox c)) es)
        → Every (λ (e : TlbEntry). has (range_of change) e.page ≡ false) es
    no_tlb [] sound = tt
    no_tlb (e ∷ es) sound = (
      ∥∥₁_elim well (hlevel props) (λ g. outside e.page (has (range_of change) e.page) refl (sound g).0.0.recorded),
      no_tlb es (λ g. (sound g).1),
    )
