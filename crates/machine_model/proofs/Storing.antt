-- Before its entry is installed, a page that is to be stored to doesn't show its file's page as a private one: a copy was made, if one was due.
use Rattle.machine_model.proofs.Words.{◌≡◌, ◌≢◌, ℕ, Bool, true, false, cond, refl, sym, ap, subst, Some, None, Option, ◌∙◌, nat_le, if◌then◌else◌, Back, Anon}
use Rattle.machine_model.proofs.Words.{Shared, Private, PageInfo, PageRange, Reply, Access, is_anonymous, frame_of, info_with_frame, info_with_copy}
use Rattle.machine_model.proofs.Words.{is_allowed, put_same, Touch, Settled, AccErr, Has, Copies, is_private_store, settled, source, goal_range}
use Rattle.machine_model.proofs.Words.{Stepped, Goal, Phase, Lock, Acks, Unlock, CopyAcks, Install, after_finding, found_at, is_past_end, taken_for, to}
use Rattle.machine_model.proofs.Words.{let_go, back_of, file_frame, shows_some, taken_in, all_locked, held_after, locked_to, World, Goes}
use Rattle.std.proofs.Common.{◌&&◌}
use Rattle.vm_calls.specs.declared.fault.Settled.TheVariants.{Bus}
use Rattle.slot_lock.specs.declared.plan.Goal.TheVariants as To
use Rattle.machine_model.proofs.Shapes.{Moves, locks, tries, hints, seeks, guesses, turns, chooses, acts, finds, lacks, shows, LetsGo, unlocks}
use Rattle.machine_model.proofs.Shapes.{returns, releases, GoesBy, moves, divides, cuts, fits, owns, lets_go, answers, posts, commits, takes, zeroes}
use Rattle.machine_model.proofs.Shapes.{first_copies, caches, shares, posts_copy, copies, installs, accesses, faults}
use Rattle.machine_model.specs.Invariant.{IsWellFormed}
use Rattle.machine_model.proofs.Rank.{back_all}
use Rattle.machine_model.proofs.Fills.{uncached, unshown}
use Rattle.machine_model.proofs.SoundMoves.{shown}

-- the access is a store to a private page that shows its file's page
abbrev pub shows_for : (ℕ → ℕ → Option ℕ) → Option PageInfo → Access → Bool
shows_for cached info access = is_private_store (back_of info) access && shows_some cached (back_of info) (frame_of info)

abbrev pub IsStorable : (ℕ → ℕ → Option ℕ) → (ℕ → Option PageInfo) → Phase → Type 0
IsStorable cached info (Install touch) = shows_for cached (info touch.page) touch.access ≡ false
IsStorable cached info _ = Unit {0}

-- of core c's call
abbrev pub IsStorableOf : ℕ → World → Type 0
IsStorableOf c w = IsStorable w.memory.cached w.slots.info (w.calls.phase c)

-- ---- what an access finds

and_false : (b : Bool) → (b && false) ≡ false
and_false true = refl
and_false false = refl

source_stores : (cached : ℕ → ℕ → Option ℕ) (back : Back) (frame : Option ℕ) (access : Access) (f : ℕ)
    → source back frame access (file_frame cached back) ≡ Has f → (is_private_store back access && shows_some cached back frame) ≡ false
source_stores cached back None access f h = and_false (is_private_store back access)
source_stores cached back (Some g) access f h = go (is_private_store back access && shows_some cached back (Some g)) h
  where
    go : (b : Bool) → (if b then Copies g else Has g) ≡ Has f → b ≡ false
    go true e = absurd cc
    go false e = refl

has_stores : (cached : ℕ → ℕ → Option ℕ) (o : Option PageInfo) (access : Access) (past : Bool) (f : ℕ)
    → settled o access past (file_frame cached (back_of o)) ≡ Has f → shows_for cached o access ≡ false
has_stores cached None access past f h = absurd cc
has_stores cached (Some info) access past f h = go (is_allowed info.meta.prot access) past h
  where
    go : (a p : Bool) → (if a then (if p then Bus else source info.meta.back info.frame access (file_frame cached info.meta.back)) else AccErr) ≡ Has f
        → shows_for cached (Some info) access ≡ false
    go true true e = absurd cc
    go true false e = source_stores cached info.meta.back info.frame access f e
    go false p e = absurd cc

-- what the call went on to
went : (c : ℕ) (new old : Phase) (x v : World) → v ≡ to c new x → v.calls.phase c ≡ old → new ≡ old
went c new old x v h e = sym (put_same x.calls.phase c new) ∙ (sym (ap (λ (v : World). v.calls.phase c) h) ∙ e)

-- a page that can be installed at once has its frame
found_has : (w : World) (c : ℕ) (touch : Touch) (s : Settled) (v : World) → v ≡ after_finding c touch s w → v.calls.phase c ≡ Install touch
    → (f : ℕ) × (s ≡ Has f)
found_has w c touch (Has f) v h e = (f, refl)
found_has w c touch _ v h e = absurd (let k = went c _ (Install touch) _ v h e in cc)

-- ---- a page with a new frame

-- no private store
filled_stores : (cached : ℕ → ℕ → Option ℕ) (o : Option PageInfo) (access : Access) (f : ℕ) → is_private_store (back_of o) access ≡ false
    → shows_for cached (info_with_frame f o) access ≡ false
filled_stores cached None access f h = refl
filled_stores cached (Some info) access f h = ap (λ b. b && shows_some cached info.meta.back (Some f)) h

-- a frame that caches no file page
fresh_stores : (cached : ℕ → ℕ → Option ℕ) (o : Option PageInfo) (access : Access) (f : ℕ) → ((n k : ℕ) → cached n k ≢ Some f)
    → (shows_for cached (info_with_frame f o) access ≡ false) × (shows_for cached (info_with_copy f o) access ≡ false)
fresh_stores cached None access f none = (refl, refl)
fresh_stores cached (Some info) access f none =
    let e : (is_private_store info.meta.back access && shows_some cached info.meta.back (Some f)) ≡ false =
    ap (λ b. is_private_store info.meta.back access && b) (unshown cached info.meta.back f none) ∙ and_false (is_private_store info.meta.back access) in
    (e, e)

anon_stores : (o : Option PageInfo) (access : Access) → is_anonymous (back_of o) ≡ true → is_private_store (back_of o) access ≡ false
anon_stores o access h = go (back_of o) h
  where
    go : (back : Back) → is_anonymous back ≡ true → is_private_store back access ≡ false
    go Anon e = refl
    go (Shared n k) e = absurd cc
    go (Private n k) e = absurd cc

-- ---- every plain step

storable_to : (c : ℕ) (new : Phase) (x v : World) → v ≡ to c new x → IsStorable x.memory.cached x.slots.info new → IsStorableOf c v
storable_to c new x v h k =
    subst (IsStorableOf c) (sym h) (subst (IsStorable x.memory.cached x.slots.info) (sym (put_same x.calls.phase c new)) k)

-- the page has this now
storable_page : (c : ℕ) (touch : Touch) (info : ℕ → Option PageInfo) (new : Option PageInfo) (x v : World) → v ≡ to c (Install touch) x
    → x.slots.info touch.page ≡ new → shows_for x.memory.cached new touch.access ≡ false → IsStorableOf c v
storable_page c touch info new x v h e k =
    storable_to c (Install touch) x v h (subst (λ o. shows_for x.memory.cached o touch.access ≡ false) (sym e) k)

moves_storable : (w : World) (c : ℕ) (new : Phase) (v : World) → Goes w c (w.calls.phase c) Stepped v → Moves w c new → v ≡ to c new w → IsStorableOf c v
moves_storable w c new v g (locks request change e n k) h = storable_to c new w v h (subst (IsStorable w.memory.cached w.slots.info) (sym n) tt)
moves_storable w c new v g (tries request touch e n k) h = storable_to c new w v h (subst (IsStorable w.memory.cached w.slots.info) (sym n) tt)
moves_storable w c new v g (hints request place range e n i k) h =
    storable_to c new w v h (subst (IsStorable w.memory.cached w.slots.info) (sym n) tt)
moves_storable w c new v g (seeks request place e n k) h =
    storable_to c new w v h (subst (IsStorable w.memory.cached w.slots.info) (sym n) tt)
moves_storable w c new v g (guesses place found e n least) h =
    storable_to c new w v h (subst (IsStorable w.memory.cached w.slots.info) (sym n) tt)
moves_storable w c new v g (turns place target e n d) h =
    storable_to c new w v h (subst (IsStorable w.memory.cached w.slots.info) (sym n) tt)
moves_storable w c new v g (chooses place target range shoot e n d) h =
    storable_to c new w v h (subst (IsStorable w.memory.cached w.slots.info) (sym n) tt)
moves_storable w c new v g (acts change range shoot e n d) h = storable_to c new w v h (subst (IsStorable w.memory.cached w.slots.info) (sym n) tt)
moves_storable w c new v g (finds touch f e n u) h =
    let b = subst (λ phase. Goes w c phase Stepped v) e g in
    let at : v.calls.phase c ≡ Install touch = ap (λ (v : World). v.calls.phase c) h ∙ (put_same w.calls.phase c new ∙ n) in
    let k = found_has w c touch (found_at w touch) v b.1 at in
    storable_to c new w v h (subst (IsStorable w.memory.cached w.slots.info) (sym n)
    (has_stores w.memory.cached (w.slots.info touch.page) touch.access (is_past_end w.made.file (w.slots.info touch.page)) k.0 k.1))
moves_storable w c new v g (lacks touch old e n u k) h = storable_to c new w v h (subst (IsStorable w.memory.cached w.slots.info) (sym n) tt)
moves_storable w c new v g (shows touch e n u k) h = storable_to c new w v h (subst (IsStorable w.memory.cached w.slots.info) (sym n) tt)

locked_storable : (cached : ℕ → ℕ → Option ℕ) (info : ℕ → Option PageInfo) (goal : Goal) (b : ℕ) → IsStorable cached info (locked_to goal b)
locked_storable cached info goal b = go goal (nat_le (goal_range goal).end b)
  where
    go : (goal : Goal) (p : Bool) → IsStorable cached info (cond p (all_locked goal) (Lock goal b))
    go (To.Place place target) true = tt
    go (To.Change change) true = tt
    go (To.Access touch) true = tt
    go goal false = tt

gone_storable : (cached : ℕ → ℕ → Option ℕ) (info : ℕ → Option PageInfo) (held : Option PageRange) (reply : Reply) → IsStorable cached info (let_go held reply)
gone_storable cached info None reply = tt
gone_storable cached info (Some held) reply = tt

lets_go_storable : (cached : ℕ → ℕ → Option ℕ) (info : ℕ → Option PageInfo) (old : Phase) (held : PageRange) (b : ℕ) (new : Phase) → LetsGo old held b new
    → IsStorable cached info new
lets_go_storable cached info old held b new (unlocks reply e n) = subst (IsStorable cached info) (sym n) (gone_storable cached info (held_after held b) reply)
lets_go_storable cached info old held b new (returns place target e n) =
    subst (IsStorable cached info) (sym n) (back_all (IsStorable cached info) place target (held_after held b) tt tt (λ held. tt))
lets_go_storable cached info old held b new (releases touch e h n) = subst (IsStorable cached info) (sym n) tt

taken_storable : (cached : ℕ → ℕ → Option ℕ) (info : ℕ → Option PageInfo) (touch : Touch) (old : Option ℕ) (f : ℕ)
    → IsStorable cached info (taken_for touch old f)
taken_storable cached info touch None f = tt
taken_storable cached info touch (Some g) f = tt

pub storable_on : (w : World) (c : ℕ) (v : World) → IsWellFormed w → Goes w c (w.calls.phase c) Stepped v → GoesBy w c v → IsStorableOf c v
storable_on w c v f g (moves new m h) = moves_storable w c new v g m h
storable_on w c v f g (divides goal cursor t e s h) =
    subst (IsStorableOf c) (sym h) (subst (IsStorable w.memory.cached t.info) (sym e) tt)
storable_on w c v f g (cuts place target range t e s h) =
    subst (IsStorableOf c) (sym h) (subst (IsStorable w.memory.cached t.info) (sym e) tt)
storable_on w c v f g (fits place target range e i h) = storable_to c (Acks _ _) _ v h tt
storable_on w c v f g (owns goal cursor b t e l h) = storable_to c (locked_to goal b) _ v h (locked_storable w.memory.cached t.info goal b)
storable_on w c v f g (lets_go held b t new l u h) = storable_to c new _ v h (lets_go_storable w.memory.cached t.info (w.calls.phase c) held b new l)
storable_on w c v f g (answers held reply r h) = storable_to c (let_go held reply) _ v h (gone_storable w.memory.cached w.slots.info held reply)
storable_on w c v f g (posts change shoot e h) = storable_to c _ _ v h tt
storable_on w c v f g (commits goal change counts e n l h) = storable_to c (Unlock (goal_range goal) _) _ v h tt
storable_on w c v f g (takes touch old x e l h) = storable_to c (taken_for touch old x) _ v h (taken_storable w.memory.cached w.slots.info touch old x)
storable_on w c v f g (zeroes touch x counts e b t h) =
    storable_page c touch w.slots.info (info_with_frame x (w.slots.info touch.page)) _ v h (put_same w.slots.info touch.page _)
    (filled_stores w.memory.cached (w.slots.info touch.page) touch.access x (anon_stores (w.slots.info touch.page) touch.access (ap is_anonymous b)))
storable_on w c v f g (first_copies touch x counts e b t h) =
    storable_page c touch w.slots.info (info_with_frame x (w.slots.info touch.page)) _ v h (put_same w.slots.info touch.page _)
    (fresh_stores w.memory.cached (w.slots.info touch.page) touch.access x (uncached w x (shown w f) c (ap taken_in e))).0
storable_on w c v f g (caches touch x counts e s n t h) =
    storable_page c touch w.slots.info (info_with_frame x (w.slots.info touch.page)) _ v h (put_same w.slots.info touch.page _)
    (filled_stores _ (w.slots.info touch.page) touch.access x s.no_copy)
storable_on w c v f g (shares touch own x counts e s n t h) =
    storable_page c touch w.slots.info (info_with_frame x (w.slots.info touch.page)) _ v h (put_same w.slots.info touch.page _)
    (filled_stores w.memory.cached (w.slots.info touch.page) touch.access x s.no_copy)
storable_on w c v f g (posts_copy touch x e h) = storable_to c (CopyAcks touch x) _ v h tt
storable_on w c v f g (copies touch x y counts e n a t h) =
    storable_page c touch w.slots.info (info_with_copy x (w.slots.info touch.page)) _ v h (put_same w.slots.info touch.page _)
    (fresh_stores w.memory.cached (w.slots.info touch.page) touch.access x (uncached w x (shown w f) c (ap taken_in e))).1
storable_on w c v f g (installs touch e h) = storable_to c _ _ v h tt
storable_on w c v f g (accesses touch x e i h) = storable_to c (let_go None _) _ v h tt
storable_on w c v f g (faults touch e i h) = storable_to c _ _ v h tt
