-- What a step of a call does beside which no other call runs: after it fewer are left, and "no frame" isn't its reply where one was free.
use Rattle.machine_model.proofs.Words.{◌≡◌, ℕ, ◌≤◌, ◌<◌, ◌+◌, ◌^◌, ◌⊎◌, Bool, true, false, cond, refl, sym, subst, ap, arith, Some, None, Option, Ok, ◌∙◌, inl}
use Rattle.machine_model.proofs.Words.{inr, is_some, nat_le, ◌&&◌, if◌then◌else◌, Back, Private, PageInfo, PageRange, Reply, Access, Prot}
use Rattle.machine_model.proofs.Words.{is_allowed, Translation, Translated, permits, translation_of, translated, tlb_at, put, File, mode_of}
use Rattle.machine_model.proofs.Words.{put_same, Touch, target_range, goal_range, goal_plan, HasTarget, IsSoundGoal, Put, Place, Hint, Window, Request}
use Rattle.machine_model.proofs.Words.{back_to, guess_of, trying, Slots, is_private_store, Settled, AccErr, Go, Goal, Phase, Check}
use Rattle.machine_model.proofs.Words.{Lock, Guess, Find, Cut, Decide, Post, Acks, Unlock, Answer, Try, Settle, Want, Fill, CopyPost, CopyAcks, Install}
use Rattle.machine_model.proofs.Words.{Release, NoneFree, found_at, after_frame, after_install, reply_of, memory_after, info_with_core, is_private}
use Rattle.machine_model.proofs.Words.{prot_installed, prot_shown, shows_some, after_zeros, after_first_copy, after_caching, after_sharing, after_copy_post}
use Rattle.machine_model.proofs.Words.{after_copy, to, let_go, after_reply, with_entry, detach_entry, checked_by, slots_after, after_post, reply_to}
use Rattle.machine_model.proofs.Words.{with_counts, frame_reached, after_translating, entry_for, entry_of_page, locking, all_locked, locked_to, held_after}
use Rattle.machine_model.proofs.Words.{World, Hardware, Memory, sound_pages}
use Rattle.mmu.specs.declared.translated.Translated.TheVariants.{Hit, Fill as ByTables, Fault}
use Rattle.vm_base.specs.declared.rights.Access.TheVariants.{Load, Store, Fetch}
use Rattle.machine_model.proofs.Going.{call_sound, has_core, passed_on}
use Rattle.machine_model.proofs.Deciding.{goal_valid}
use Rattle.vm_calls.specs.declared.fault.Settled.TheVariants.{MapErr, Bus}
use Rattle.vm_base.specs.declared.log.Entry.TheVariants as EntryOf
use Rattle.slot_lock.specs.declared.plan.Goal.TheVariants as To
use Rattle.machine_model.specs.declared.phase.Phase.TheVariants.{Back as Leaving}
use Rattle.machine_model.specs.Coherent.{IsBacked, IsSoundEntry}
use Rattle.machine_model.specs.Orderly.{IsUsable}
use Rattle.machine_model.proofs.Deciding.{change_sound}
use Rattle.machine_model.proofs.Moves.{IsCallOf, call_at}
use Rattle.machine_model.proofs.Shapes.{IsFault, Moves, locks, tries, hints, seeks, guesses, turns, chooses, acts, finds, lacks, shows}
use Rattle.machine_model.proofs.Shapes.{Replies, refuses, no_place, declines, fails, no_frame, LetsGo, unlocks, returns, releases, GoesBy}
use Rattle.machine_model.proofs.Shapes.{moves, divides, cuts, fits, owns, lets_go, answers, posts, commits, takes, zeroes, first_copies}
use Rattle.machine_model.proofs.Shapes.{caches, shares, posts_copy, copies, installs, accesses, faults}
use Rattle.machine_model.specs.Sound.{IsDue}
use Rattle.machine_model.specs.Invariant.{IsWellFormed}
use Rattle.machine_model.proofs.Accesses.{byte_is_reply}
use Rattle.machine_model.proofs.Reaching.{at_page}
use Rattle.machine_model.proofs.Replies.{IsReply, due_so, refused, reply_is}
use Rattle.machine_model.proofs.Rank.{missing, missing_same, missing_less, missing_most, reach_of, hits, rank, rank_of, lock_less}
use Rattle.machine_model.proofs.Rank.{unlock_less, back_all, back_less, turn_less, find_more, guess_less, seek_less, hint_less}
use Rattle.machine_model.proofs.Storing.{IsStorable, IsStorableOf, shows_for}

abbrev pub IsDueReply : (ℕ → Bool) → Reply → Type 0
IsDueReply is_free reply = (core step call : ℕ) → IsDue (Go core) is_free (EntryOf.Answer step call core reply)

-- of the frames that were free, at first, the call has taken this one, if any
abbrev pub HasTaken : (ℕ → Bool) → (ℕ → Bool) → Option ℕ → Type 0
HasTaken first free None = free ≡ first
HasTaken first free (Some f) = (first f ≡ true) × (free ≡ put first f false)

-- Frames are free as at the beginning until the call takes one. Then its access will find one, so "no frame" isn't its reply.
abbrev pub IsSure : (ℕ → Bool) → (ℕ → Bool) → (Touch → Option ℕ) → Phase → Type 0
IsSure first free reach (Unlock held reply) = IsDueReply first reply
IsSure first free reach (Answer reply) = IsDueReply first reply
IsSure first free reach (Try touch) = (free ≡ first) ⊎ (hits reach touch ≡ true)
IsSure first free reach (Fill touch frame) = HasTaken first free frame
IsSure first free reach (CopyPost touch frame) = HasTaken first free (Some frame)
IsSure first free reach (CopyAcks touch frame) = HasTaken first free (Some frame)
IsSure first free reach (Install touch) = Unit {0}
IsSure first free reach (Release touch) = hits reach touch ≡ true
IsSure first free reach _ = free ≡ first

-- of core c's call
abbrev pub IsSureOf : (ℕ → Bool) → ℕ → World → Type 0
IsSureOf first c w = IsSure first w.memory.is_free (reach_of w.hardware c) (w.calls.phase c)

-- how many steps core c's call has left
abbrev pub left_of : World → ℕ → ℕ
left_of w c = rank_of w.slots (reach_of w.hardware c) (w.calls.phase c)

-- core c's call has fewer steps left in v than in w
pub record Nears (first : ℕ → Bool) (w : World) (c : ℕ) (v : World) : Type 0 where
  pub made : v.made ≡ w.made
  pub less : left_of v c < left_of w c
  pub sure : IsSureOf first c v

-- from this phase to a new one, over these slots, this hardware and this memory
nears : (first : ℕ → Bool) (w : World) (c : ℕ) (old new : Phase) (t : Slots) (h : Hardware) (m : Memory) (v : World) → w.calls.phase c ≡ old
    → v ≡ to c new (record w { slots = t; hardware = h; memory = m })
    → rank_of t (reach_of h c) new < rank_of w.slots (reach_of w.hardware c) old → IsSure first m.is_free (reach_of h c) new → Nears first w c v
nears first w c old new t h m v e k less sure =
    let now : put w.calls.phase c new c ≡ new = put_same w.calls.phase c new in
    subst (Nears first w c) (sym k) (record {
      made = refl;
      less = subst (λ p. rank_of t (reach_of h c) (put w.calls.phase c new c) < rank_of w.slots (reach_of w.hardware c) p) (sym e)
          (subst (λ p. rank_of t (reach_of h c) p < rank_of w.slots (reach_of w.hardware c) old) (sym now) less);
      sure = subst (IsSure first m.is_free (reach_of h c)) (sym now) sure;
    })

-- what is sure of the phase in which the call is
pub sure_at : (first : ℕ → Bool) (w : World) (c : ℕ) (old : Phase) → w.calls.phase c ≡ old → IsSureOf first c w
    → IsSure first w.memory.is_free (reach_of w.hardware c) old
sure_at first w c old e h = subst (IsSure first w.memory.is_free (reach_of w.hardware c)) e h

-- ---- moves

tried_most : (m : ℕ) (reach : Touch → Option ℕ) (touch : Touch) → m ≤ 2 ^ 35 → rank m reach (Try touch) < 2 ^ 38
tried_most m reach touch l = go (hits reach touch)
  where
    go : (b : Bool) → cond b 2 (m + 14) < 2 ^ 38
    go true = omega arith
    go false = omega (arith, l)

-- what the check of the arguments lets through is sound
place_sound : (w : World) (c : ℕ) (request : Request) (place : Place) (goal : Goal) → IsWellFormed w → w.calls.phase c ≡ Check request
    → checked_by w.made c request ≡ Ok (goal_plan goal) → HasTarget goal → IsSoundGoal goal
place_sound w c request place goal f e passed aim =
    call_sound w c goal f.order (has_core w c f.order (λ k. let a = sym e ∙ k in cc))
    (record { request = request; number = (call_at w c (Check request) e f.order).asked; passed = passed }) aim

moves_near : (first : ℕ → Bool) (w : World) (c : ℕ) (new : Phase) (v : World) → IsWellFormed w → IsSureOf first c w → Moves w c new → v ≡ to c new w
    → Nears first w c v
moves_near first w c new v f sure (locks request change e n passed) h =
    let range = sound_pages change (change_sound (λ k. mode_of (w.made.file k)) c request change passed) in
    let high = range.high in
    let most = missing_most w.slots in
    nears first w c (Check request) (locking (To.Change change)) w.slots w.hardware w.memory v e (rw (h, n) refl)
    (omega (arith, high, most)) (sure_at first w c (Check request) e sure)
moves_near first w c new v f sure (tries request touch e n passed) h =
    nears first w c (Check request) (Try touch) w.slots w.hardware w.memory v e (rw (h, n) refl)
    (tried_most (missing w.slots) (reach_of w.hardware c) touch (missing_most w.slots)) (inl (sure_at first w c (Check request) e sure))
moves_near first w c new v f sure (hints request place range e n i passed) h =
    let sound = place_sound w c request place (To.Place place (Hint range)) f e passed i in
    nears first w c (Check request) (trying place (Hint range)) w.slots w.hardware w.memory v e (rw (h, n) refl)
    (hint_less (missing w.slots) (reach_of w.hardware c) place range (missing_most w.slots) sound.plan
    (goal_valid (To.Place place (Hint range)) sound))
    (sure_at first w c (Check request) e sure)
moves_near first w c new v f sure (seeks request place e n passed) h =
    nears first w c (Check request) (Guess place) w.slots w.hardware w.memory v e (rw (h, n) refl)
    (seek_less (missing w.slots) (reach_of w.hardware c) place (missing_most w.slots)
    (place_sound w c request place (To.Place place Window) f e passed tt).plan) (sure_at first w c (Check request) e sure)
moves_near first w c new v f sure (guesses place found e n least) h =
    nears first w c (Guess place) (trying place (guess_of place found)) w.slots w.hardware w.memory v e (rw (h, n) refl)
    (guess_less (missing w.slots) (reach_of w.hardware c) (reach_of w.hardware c) place found) (sure_at first w c (Guess place) e sure)
moves_near first w c new v f sure (turns place target e n d) h =
    nears first w c (Find place target) (Leaving place target (target_range place target)) w.slots w.hardware w.memory v e (rw (h, n) refl)
    (turn_less (missing w.slots) (reach_of w.hardware c) (reach_of w.hardware c) place target (passed_on w.slots place target d))
    (sure_at first w c (Find place target) e sure)
moves_near first w c new v f sure (chooses place target range shoot e n d) h =
    nears first w c (Find place target) (Cut place target range) w.slots w.hardware w.memory v e (rw (h, n) refl)
    (find_more (missing w.slots) (reach_of w.hardware c) place target) (sure_at first w c (Find place target) e sure)
moves_near first w c new v f sure (acts change range shoot e n d) h =
    nears first w c (Decide change) (Post change shoot) w.slots w.hardware w.memory v e (rw (h, n) refl)
    (omega arith) (sure_at first w c (Decide change) e sure)
moves_near first w c new v f sure (finds touch x e n u) h =
    nears first w c (Settle touch) (Install touch) w.slots w.hardware w.memory v e (rw (h, n) refl) (omega arith) tt
moves_near first w c new v f sure (lacks touch old e n u k) h =
    nears first w c (Settle touch) (Want touch old) w.slots w.hardware w.memory v e (rw (h, n) refl)
    (omega arith) (sure_at first w c (Settle touch) e sure)
moves_near first w c new v f sure (shows touch e n u k) h =
    nears first w c (Settle touch) (Fill touch None) w.slots w.hardware w.memory v e (rw (h, n) refl)
    (omega arith) (sure_at first w c (Settle touch) e sure)

-- ---- replies

due_reply : (first : ℕ → Bool) (reply : Reply) → IsReply reply → IsDueReply first reply
due_reply first reply i core step call = due_so (Go core) first step call core reply i

sure_gone : (first free : ℕ → Bool) (reach : Touch → Option ℕ) (held : Option PageRange) (reply : Reply) → IsDueReply first reply
    → IsSure first free reach (let_go held reply)
sure_gone first free reach None reply h = h
sure_gone first free reach (Some held) reply h = h

fault_is_reply : (s : Settled) (reply : Reply) → IsFault s reply → IsReply reply
fault_is_reply MapErr reply h = subst IsReply (sym h) tt
fault_is_reply AccErr reply h = subst IsReply (sym h) tt
fault_is_reply Bus reply h = subst IsReply (sym h) tt
fault_is_reply _ reply h = absurd h

-- a reply in phase old, after which these slots, this hardware and this memory are there
tells_near : (first : ℕ → Bool) (w : World) (c : ℕ) (old : Phase) (held : Option PageRange) (reply : Reply) (t : Slots) (h : Hardware) (m : Memory) (v : World)
    → w.calls.phase c ≡ old → v ≡ after_reply c held reply (record w { slots = t; hardware = h; memory = m })
    → rank_of t (reach_of h c) (let_go held reply) < rank_of w.slots (reach_of w.hardware c) old → IsDueReply first reply → Nears first w c v
tells_near first w c old held reply t h m v e k less due =
    logged (nears first w c old (let_go held reply) t h m (to c (let_go held reply) (record w { slots = t; hardware = h; memory = m })) e refl less
    (sure_gone first m.is_free (reach_of h c) held reply due))
  where
    logged : Nears first w c (to c (let_go held reply) (record w { slots = t; hardware = h; memory = m })) → Nears first w c v
    logged n = subst (Nears first w c) (sym k) (record { made = n.made; less = n.less; sure = n.sure })

replies_near : (first : ℕ → Bool) (w : World) (c : ℕ) (held : Option PageRange) (reply : Reply) (v : World) → IsWellFormed w → IsSureOf first c w
    → Replies w c held reply → v ≡ after_reply c held reply w → Nears first w c v
replies_near first w c held reply v f sure (refuses request e h j) k =
    tells_near first w c (Check request) held reply w.slots w.hardware w.memory v e k
    (subst (λ o. rank_of w.slots (reach_of w.hardware c) (let_go o reply) < 2 ^ 38) (sym h) (omega arith))
    (due_reply first reply (refused w f.plain c request reply f.good j).0)
replies_near first w c held reply v f sure (no_place place target errno e h r d) k =
    tells_near first w c (Find place target) held reply w.slots w.hardware w.memory v e k
    (subst (λ o. rank_of w.slots (reach_of w.hardware c) (let_go o reply) < rank_of w.slots (reach_of w.hardware c) (Find place target))
    (sym h) (let a = find_more (missing w.slots) (reach_of w.hardware c) place target in omega (arith, a)))
    (due_reply first reply (subst IsReply (sym r) tt))
replies_near first w c held reply v f sure (declines change errno e h r d) k =
    tells_near first w c (Decide change) held reply w.slots w.hardware w.memory v e k
    (subst (λ o. rank_of w.slots (reach_of w.hardware c) (let_go o reply) < rank_of w.slots (reach_of w.hardware c) (Decide change))
    (sym h) (omega arith)) (due_reply first reply (subst IsReply (sym r) tt))
replies_near first w c held reply v f sure (fails touch e h x) k =
    tells_near first w c (Settle touch) held reply w.slots w.hardware w.memory v e k
    (subst (λ o. rank_of w.slots (reach_of w.hardware c) (let_go o reply) < 12) (sym h) (omega arith))
    (due_reply first reply (fault_is_reply (found_at w touch) reply x))
replies_near first w c held reply v f sure (no_frame touch old e h r none) k =
    let same : w.memory.is_free ≡ first = sure_at first w c (Want touch old) e sure in
    tells_near first w c (Want touch old) held reply w.slots w.hardware w.memory v e k
    (subst (λ o. rank_of w.slots (reach_of w.hardware c) (let_go o reply) < 11) (sym h) (omega arith))
    (subst (λ y. IsDueReply first y) (sym r) (λ core step call. subst NoneFree same none))

-- ---- locks

owns_sure : (first free : ℕ → Bool) (reach : Touch → Option ℕ) (goal : Goal) (b : ℕ) → free ≡ first → IsSure first free reach (locked_to goal b)
owns_sure first free reach goal b h = go goal (nat_le (goal_range goal).end b)
  where
    go : (goal : Goal) (p : Bool) → IsSure first free reach (cond p (all_locked goal) (Lock goal b))
    go (To.Place place target) true = h
    go (To.Change change) true = h
    go (To.Access touch) true = h
    go goal false = h

-- a slot is divided, and the call is where it was
stays_near : (first : ℕ → Bool) (w : World) (c : ℕ) (old : Phase) (t : Slots) (v : World) → w.calls.phase c ≡ old → IsSureOf first c w
    → rank_of t (reach_of w.hardware c) old < rank_of w.slots (reach_of w.hardware c) old → v ≡ record w { slots = t } → Nears first w c v
stays_near first w c old t v e sure fewer h = subst (Nears first w c) (sym h) (record {
  made = refl;
  less = subst (λ p. rank_of t (reach_of w.hardware c) p < rank_of w.slots (reach_of w.hardware c) p) (sym e) fewer;
  sure = sure;
})

lets_go_near : (first : ℕ → Bool) (w : World) (c : ℕ) (held : PageRange) (b : ℕ) (t : Slots) (new : Phase) (v : World) → IsSureOf first c w
    → LetsGo (w.calls.phase c) held b new → held.first < b → b ≤ held.end → missing t ≡ missing w.slots
    → v ≡ to c new (record w { slots = t })
    → Nears first w c v
lets_go_near first w c held b t new v sure (unlocks reply e n) l m same h =
    nears first w c (Unlock held reply) (let_go (held_after held b) reply) t w.hardware w.memory v e (rw (h, n) refl)
    (unlock_less (missing t) (missing w.slots) (reach_of w.hardware c) (reach_of w.hardware c) held reply b l m)
    (sure_gone first w.memory.is_free (reach_of w.hardware c) (held_after held b) reply (sure_at first w c (Unlock held reply) e sure))
lets_go_near first w c held b t new v sure (returns place target e n) l m same h =
    let reach : Touch → Option ℕ = reach_of w.hardware c in
    nears first w c (Leaving place target held) (back_to place target (held_after held b)) t w.hardware w.memory v e (rw (h, n) refl)
    (subst (λ z. rank z reach (back_to place target (held_after held b)) < rank_of w.slots reach (Leaving place target held))
    (sym same) (back_less (missing w.slots) reach reach place target held b l m))
    (back_all (IsSure first w.memory.is_free (reach_of w.hardware c)) place target (held_after held b)
    (sure_at first w c (Leaving place target held) e sure) (sure_at first w c (Leaving place target held) e sure)
    (λ k. sure_at first w c (Leaving place target held) e sure))
lets_go_near first w c held b t new v sure (releases touch e at n) l m same h =
    let hit : hits (reach_of w.hardware c) touch ≡ true = sure_at first w c (Release touch) e sure in
    nears first w c (Release touch) (Try touch) t w.hardware w.memory v e (rw (h, n) refl)
    (let a : rank_of t (reach_of w.hardware c) (Try touch) ≡ 2 = ap (λ b. cond b 2 (missing t + 14)) hit in omega (arith, a)) (inr hit)

-- ---- frames

-- an access that the page allows is permitted by the page's translation, unless it is a store to a private page that shows its file's
permitted : (shown : Bool) (prot : Prot) (f : ℕ) (access : Access) → is_allowed prot access ≡ true → (access ≡ Store → shown ≡ false)
    → permits (translation_of f (prot_shown shown prot)) access ≡ true
permitted shown prot f Load h own = refl
permitted shown prot f Store h own = subst (λ b. permits (translation_of f (prot_shown b prot)) Store ≡ true) (sym (own refl)) h
permitted true prot f Fetch h own = h
permitted false prot f Fetch h own = h

-- what a store doesn't find
stored_to : (back : Back) (b : Bool) (access : Access) → (is_private_store back access && b) ≡ false → access ≡ Store → (is_private back && b) ≡ false
stored_to (Private n k) b access h e = subst (λ a. (is_private_store (Private n k) a && b) ≡ false) e h
stored_to _ b access h e = refl

-- where the tables have the page, and the TLB has nothing else of it, the access reaches its frame
reaches_own : (h : Hardware) (c : ℕ) (touch : Touch) (t : Translation) → h.table c touch.page ≡ Some t
    → ((u : Translation) → tlb_at (h.tlb c) touch.page ≡ Some u → u ≡ t) → permits t touch.access ≡ true → hits (reach_of h c) touch ≡ true
reaches_own h c touch t at same allowed = go (tlb_at (h.tlb c) touch.page) (h.table c touch.page) refl at
  where
    by : (b : Bool) (x y : Translated) → b ≡ true → is_some (frame_reached x) ≡ true → is_some (frame_reached (if b then x else y)) ≡ true
    by true x y e k = k
    by false x y e k = absurd cc

    go : (cached entry : Option Translation) → tlb_at (h.tlb c) touch.page ≡ cached → entry ≡ Some t
        → is_some (frame_reached (translated cached entry touch.access)) ≡ true
    go (Some u) entry e k = by (permits u touch.access) (Hit u.frame) Fault (ap (λ x. permits x touch.access) (same u e) ∙ allowed) refl
    go None entry e k =
        subst (λ o. is_some (frame_reached (translated None o touch.access)) ≡ true) (sym k) (by (permits t touch.access) (ByTables t.frame) Fault allowed refl)

-- what a usable page with a frame gives
usable_entry : (file : ℕ → Option File) (cached : ℕ → ℕ → Option ℕ) (access : Access) (o : Option PageInfo) (f c : ℕ) → IsUsable file o access (Some f)
    → shows_for cached o access ≡ false
    → (t : Translation) × (entry_of_page cached o ≡ Some t) × (entry_of_page cached (info_with_core c o) ≡ Some t) × (permits t access ≡ true)
usable_entry file cached access None f c u own = absurd u
usable_entry file cached access (Some info) f c u own =
    let prot : Prot = prot_installed cached info in (
      translation_of f prot,
      ap (entry_for prot) u.2,
      ap (entry_for prot) u.2,
      permitted (is_private info.meta.back && shows_some cached info.meta.back info.frame) info.meta.prot f access u.0
          (stored_to info.meta.back (shows_some cached info.meta.back info.frame) access own),
    )

-- once the page's entry is installed, the access reaches it
installed_hits : (w : World) (c : ℕ) (touch : Touch) → IsCallOf w c (Install touch) → IsWellFormed (after_install c touch w)
    → shows_for w.memory.cached (w.slots.info touch.page) touch.access ≡ false → hits (reach_of (after_install c touch w).hardware c) touch ≡ true
installed_hits w c touch k after own =
    let z = usable_entry w.made.file w.memory.cached touch.access (w.slots.info touch.page) k.ready.0 c k.ready.1 own in
    reaches_own (after_install c touch w).hardware c touch z.0 (at_table ∙ z.1)
    (λ u e. let backed : IsBacked w.memory.cached (put w.slots.info touch.page (info_with_core c (w.slots.info touch.page)) touch.page) c u =
    (at_page (IsSoundEntry w.memory.cached (after_install c touch w).slots.info c ((after_install c touch w).hardware.table c) (w.hardware.inbox c))
    (w.hardware.tlb c) touch.page u
    (after.coherent.tlbs c) e).0 in
    let entry : entry_of_page w.memory.cached (info_with_core c (w.slots.info touch.page)) ≡ Some u =
    ap (entry_of_page w.memory.cached) (sym (put_same w.slots.info touch.page (info_with_core c (w.slots.info touch.page)))) ∙ backed.entry in
    let both = z.2 in cc)
    z.3
  where
    at_table : (after_install c touch w).hardware.table c touch.page ≡ entry_of_page w.memory.cached (w.slots.info touch.page)
    at_table = ap (λ f. f touch.page)
        (put_same w.hardware.table c (put (w.hardware.table c) touch.page (entry_of_page w.memory.cached (w.slots.info touch.page))))
        ∙ put_same (w.hardware.table c) touch.page (entry_of_page w.memory.cached (w.slots.info touch.page))

-- the frame is taken for a page without one, or for a copy
takes_near : (first : ℕ → Bool) (w : World) (c : ℕ) (touch : Touch) (old : Option ℕ) (x : ℕ) (v : World) → w.calls.phase c ≡ Want touch old
    → w.memory.is_free ≡ first → w.memory.is_free x ≡ true → v ≡ after_frame c touch old x w → Nears first w c v
takes_near first w c touch None x v e same l h =
    nears first w c (Want touch None) (Fill touch (Some x)) w.slots w.hardware (after_frame c touch None x w).memory v e (rw h refl) (omega arith)
    (ap (λ f. f x) (sym same) ∙ l, ap (λ f. put f x false) same)
takes_near first w c touch (Some g) x v e same l h =
    nears first w c (Want touch (Some g)) (CopyPost touch x) w.slots w.hardware (after_frame c touch (Some g) x w).memory v e (rw h refl) (omega arith)
    (ap (λ f. f x) (sym same) ∙ l, ap (λ f. put f x false) same)

-- the page has got a copy, and the log says so
copied_near : (first : ℕ → Bool) (w : World) (c : ℕ) (old : Phase) (touch : Touch) (t : Slots) (m : Memory) (v : World)
    → w.calls.phase c ≡ old → v ≡ to c (Install touch) (with_entry (detach_entry w c touch.page) (record w { slots = t; memory = m }))
    → 7 < rank_of w.slots (reach_of w.hardware c) old → Nears first w c v
copied_near first w c old touch t m v e k less =
    noted (nears first w c old (Install touch) t w.hardware m (to c (Install touch) (record w { slots = t; memory = m })) e refl less tt)
  where
    noted : Nears first w c (to c (Install touch) (record w { slots = t; memory = m })) → Nears first w c v
    noted n = subst (Nears first w c) (sym k) (record { made = n.made; less = n.less; sure = n.sure })

-- ---- every plain step

pub goes_near : (first : ℕ → Bool) (w : World) (c : ℕ) (v : World) → IsWellFormed w → IsWellFormed v → IsSureOf first c w → IsStorableOf c w → GoesBy w c v
    → Nears first w c v
goes_near first w c v f after sure own (moves new m h) = moves_near first w c new v f sure m h
goes_near first w c v f after sure own (divides goal cursor t e s h) =
    let fewer = missing_less w.slots t None s.divides.0 s.divides.1.1 s.divides.2 in
    stays_near first w c (Lock goal cursor) t v e sure (omega (arith, fewer)) h
goes_near first w c v f after sure own (cuts place target range t e s h) =
    let fewer = missing_less w.slots t (Some c) s.divides.0 s.divides.1.1 s.divides.2 in
    stays_near first w c (Cut place target range) t v e sure (omega (arith, fewer)) h
goes_near first w c v f after sure own (fits place target range e i h) =
    nears first w c (Cut place target range) (Acks (To.Place place target) (Put range place.meta)) w.slots w.hardware w.memory v e
    (rw h refl) (omega arith) (sure_at first w c (Cut place target range) e sure)
goes_near first w c v f after sure own (owns goal cursor b t e l h) =
    let edge : t.edge ≡ w.slots.edge = ap (λ (x : Slots). x.edge) l.now in
    let same : missing t ≡ missing w.slots = missing_same w.slots t edge in
    nears first w c (Lock goal cursor) (locked_to goal b) t w.hardware w.memory v e (rw h refl)
    (subst (λ m. rank m (reach_of w.hardware c) (locked_to goal b) < rank_of w.slots (reach_of w.hardware c) (Lock goal cursor)) (sym same)
    (lock_less (missing w.slots) (reach_of w.hardware c) (reach_of w.hardware c) goal cursor b l.slot.ordered l.by_end))
    (owns_sure first w.memory.is_free (reach_of w.hardware c) goal b (sure_at first w c (Lock goal cursor) e sure))
goes_near first w c v f after sure own (lets_go held b t new l u h) = lets_go_near first w c held b t new v sure l u.slot.ordered u.by_end
    (missing_same w.slots t (ap (λ (x : Slots). x.edge) u.now)) h
goes_near first w c v f after sure own (answers held reply r h) = replies_near first w c held reply v f sure r h
goes_near first w c v f after sure own (posts change shoot e h) =
    nears first w c (Post change shoot) (Acks (To.Change change) change) w.slots (after_post c change shoot w).hardware w.memory v e
    (rw h refl) (omega arith) (sure_at first w c (Post change shoot) e sure)
goes_near first w c v f after sure own (commits goal change counts e n l h) =
    tells_near first w c (Acks goal change) (Some (goal_range goal)) (reply_to change) (slots_after change w.slots) w.hardware
    (with_counts counts w).memory v e h (omega arith) (due_reply first (reply_to change) (reply_is change))
goes_near first w c v f after sure own (takes touch old x e l h) = takes_near first w c touch old x v e (sure_at first w c (Want touch old) e sure) l h
goes_near first w c v f after sure own (zeroes touch x counts e b t h) =
    nears first w c (Fill touch (Some x)) (Install touch) (after_zeros c touch x counts w).slots w.hardware
    (after_zeros c touch x counts w).memory v e (rw h refl)
    (omega arith) tt
goes_near first w c v f after sure own (first_copies touch x counts e b t h) =
    copied_near first w c (Fill touch (Some x)) touch (after_first_copy c touch x counts w).slots (after_first_copy c touch x counts w).memory v e (rw h refl)
    (omega arith)
goes_near first w c v f after sure own (caches touch x counts e s n t h) =
    nears first w c (Fill touch (Some x)) (Install touch) (after_caching c touch x counts w).slots w.hardware
    (after_caching c touch x counts w).memory v e (rw h refl)
    (omega arith) tt
goes_near first w c v f after sure own (shares touch mine x counts e s n t h) =
    nears first w c (Fill touch mine) (Install touch) (after_sharing c touch mine x counts w).slots w.hardware
    (after_sharing c touch mine x counts w).memory v e
    (rw h refl) (omega arith) tt
goes_near first w c v f after sure own (posts_copy touch x e h) =
    nears first w c (CopyPost touch x) (CopyAcks touch x) w.slots (after_copy_post c touch x w).hardware w.memory v e (rw h refl)
    (omega arith) (sure_at first w c (CopyPost touch x) e sure)
goes_near first w c v f after sure own (copies touch x g counts e n a t h) =
    copied_near first w c (CopyAcks touch x) touch (after_copy c touch x g counts w).slots (after_copy c touch x g counts w).memory v e (rw h refl)
    (omega arith)
goes_near first w c v f after sure own (installs touch e h) =
    nears first w c (Install touch) (Release touch) (after_install c touch w).slots (after_install c touch w).hardware w.memory v e (rw h refl) (omega arith)
    (installed_hits w c touch (call_at w c (Install touch) e f.order) (subst IsWellFormed h after) (subst (IsStorable w.memory.cached w.slots.info) e own))
goes_near first w c v f after sure own (accesses touch x e i h) =
    tells_near first w c (Try touch) None (reply_of touch x w.memory) w.slots (after_translating w.hardware c touch) (memory_after touch x w.memory) v e h
    (let a : rank_of w.slots (reach_of w.hardware c) (Try touch) ≡ 2 = ap (λ (o : Option ℕ). cond (is_some o) 2 (missing w.slots + 14)) i in omega (arith, a))
    (due_reply first (reply_of touch x w.memory) (byte_is_reply touch.access (w.memory.bytes x touch.offset)))
goes_near first w c v f after sure own (faults touch e k h) =
    let none : hits (reach_of w.hardware c) touch ≡ false = ap is_some k in
    let was : (w.memory.is_free ≡ first) ⊎ (hits (reach_of w.hardware c) touch ≡ true) = sure_at first w c (Try touch) e sure in
    nears first w c (Try touch) (locking (To.Access touch)) w.slots (after_translating w.hardware c touch) w.memory v e (rw h refl)
    (let a : rank_of w.slots (reach_of w.hardware c) (Try touch) ≡ missing w.slots + 14 = ap (λ b. cond b 2 (missing w.slots + 14)) none in omega (arith, a))
    (elim was [
      | inl same ↦ same
      | inr hit ↦ absurd (cc (none, hit))
    ])
