-- What holds of one call, and that the order stays where one call moves on
use Rattle.machine_model.proofs.Words.{◌≡◌, ◌≢◌, ℕ, ◌≤◌, ◌<◌, ◌+◌, Bool, true, cond, refl, sym, ap, subst, arith, Some, None, Option, List, ◌∙◌, [], ◌∷◌, ◌++◌}
use Rattle.machine_model.proofs.Words.{Back, Anon, Shared, Private, PageInfo, PageRange, Access, Act, is_cached, Reply, Request, put, has, IsPageRange, File}
use Rattle.machine_model.proofs.Words.{put_all, in_has, Goal, Touch, range_of, goal_range, Slots, Entry, Phase, Free, Cut}
use Rattle.machine_model.proofs.Words.{Post, Acks, Want, Fill, CopyPost, CopyAcks, Install, World, Made, Memory, Detach}
use Rattle.machine_model.proofs.Words.{let_go, back_of, file_frame, shows_file, holds, some_has, range_held, awaits_in, taken_in, is_open, page_of_touch}
use Rattle.slot_lock.specs.declared.plan.Goal.TheVariants as To
use Rattle.vm_base.specs.declared.log.Entry.TheVariants.{Answer as Told}
use Rattle.machine_model.specs.Orderly.{Order, IsOrderly, IsAsked, IsCutFor, IsReady, IsUsable, IsCopyDue, IsWanted}
use Rattle.machine_model.specs.Orderly.{IsFillable, IsChosen, BelongsTo, IsMemory, answer_count}
use Rattle.machine_model.proofs.Deciding.{decides_kept, acts_in}
use Rattle.machine_model.proofs.OpenCalls.{one, open_put}

-- ---- one call

-- the call of core c in this phase, over these slots
pub record IsCall (made : Made) (s : Slots) (cached : ℕ → ℕ → Option ℕ) (requests : List Request) (c call : ℕ) (phase : Phase) : Type 0 where
  pub asked : IsAsked made requests c call phase
  pub owned : (p : ℕ) → holds phase p ≡ true → s.owner p ≡ Some c
  pub only : (p : ℕ) → s.owner p ≡ Some c → holds phase p ≡ true
  pub cut : IsCutFor s.edge (range_held phase)
  pub cut_out : IsCutFor s.edge (awaits_in phase)
  pub ready : IsReady made s cached phase
  pub taken : (f : ℕ) → taken_in phase ≡ Some f → f < made.frames

-- the call of core c in state w
abbrev pub IsCallOf : World → ℕ → Phase → Type 0
IsCallOf w c phase = IsCall w.made w.slots w.memory.cached w.calls.requests c (w.calls.number c) phase

pub call_at : (w : World) (c : ℕ) (phase : Phase) → w.calls.phase c ≡ phase → IsOrderly w → IsCallOf w c phase
call_at w c phase e g =
    subst (IsCallOf w c) e
    (record { asked = g.asked c; owned = g.owned c; only = g.only c; cut = g.cut c; cut_out = g.cut_out c; ready = g.ready c; taken = g.taken c })

-- ---- a step of core c changes only what c owns, and adds edges

pub record Touches (s t : Slots) (c : ℕ) : Type 0 where
  pub info : (p : ℕ) → s.owner p ≢ Some c → t.info p ≡ s.info p
  pub now : (d p : ℕ) → d ≢ c → t.owner p ≡ Some d → s.owner p ≡ Some d
  pub still : (d p : ℕ) → d ≢ c → s.owner p ≡ Some d → t.owner p ≡ Some d
  pub edge : (p : ℕ) → s.edge p ≡ true → t.edge p ≡ true

pub untouched : (s : Slots) (c : ℕ) → Touches s s c
untouched s c = record { info = λ p h. refl; now = λ d p ne h. h; still = λ d p ne h. h; edge = λ p h. h }

-- ---- another call is as it was

pub cut_kept : (e e2 : ℕ → Bool) → ((p : ℕ) → e p ≡ true → e2 p ≡ true) → (held : Option PageRange) → IsCutFor e held → IsCutFor e2 held
cut_kept e e2 more None h = h
cut_kept e e2 more (Some r) h = λ some. let k = h some in (more r.first k.0, more r.end k.1)

pub page_is : (touch : Touch) → has (page_of_touch touch) touch.page ≡ true
page_is touch = in_has (page_of_touch touch) touch.page (omega arith) (omega arith)

usable_kept : (file : ℕ → Option File) (s t : Slots) (touch : Touch) (frame : Option ℕ) → ((p : ℕ) → has (page_of_touch touch) p ≡ true → t.info p ≡ s.info p)
    → IsUsable file (s.info touch.page) touch.access frame → IsUsable file (t.info touch.page) touch.access frame
usable_kept file s t touch frame same h = subst (λ o. IsUsable file o touch.access frame) (sym (same touch.page (page_is touch))) h

copying_kept : (made : Made) (cached : ℕ → ℕ → Option ℕ) (touch : Touch) (old new : Option PageInfo) → new ≡ old
    → (g : ℕ) × IsUsable made.file old touch.access (Some g) × IsCopyDue cached old touch.access g
    → (g : ℕ) × IsUsable made.file new touch.access (Some g) × IsCopyDue cached new touch.access g
copying_kept made cached touch old new e h =
    subst (λ o. (g : ℕ) × IsUsable made.file o touch.access (Some g) × IsCopyDue cached o touch.access g) (sym e) h

-- a frame that caches a file's page goes on caching it
abbrev pub KeepsCached : (ℕ → ℕ → Option ℕ) → (ℕ → ℕ → Option ℕ) → Type 0
KeepsCached cached now = (n k g : ℕ) → cached n k ≡ Some g → now n k ≡ Some g

pub frame_kept : (cached now : ℕ → ℕ → Option ℕ) → KeepsCached cached now → (back : Back) (g : ℕ) → file_frame cached back ≡ Some g
    → file_frame now back ≡ Some g
frame_kept cached now keeps Anon g h = h
frame_kept cached now keeps (Shared n k) g h = keeps n k g h
frame_kept cached now keeps (Private n k) g h = keeps n k g h

-- a frame that shows a file's page goes on showing it
pub shows_kept : (cached now : ℕ → ℕ → Option ℕ) → KeepsCached cached now → (back : Back) (g : ℕ) → shows_file cached back g ≡ true
    → shows_file now back g ≡ true
shows_kept cached now keeps back g h = go (file_frame cached back) refl h
  where
    go : (o : Option ℕ) → file_frame cached back ≡ o → is_cached o g ≡ true → shows_file now back g ≡ true
    go None e i = absurd cc
    go (Some x) e i = ap (λ o. is_cached o g) (frame_kept cached now keeps back x e) ∙ i

copy_kept : (cached now : ℕ → ℕ → Option ℕ) → KeepsCached cached now → (info : Option PageInfo) (access : Access) (g : ℕ)
    → IsCopyDue cached info access g → IsCopyDue now info access g
copy_kept cached now keeps info access g h = record { store = h.store; shown = shows_kept cached now keeps (back_of info) g h.shown }

wanted_kept : (cached now : ℕ → ℕ → Option ℕ) → KeepsCached cached now → (info : Option PageInfo) (access : Access) (old : Option ℕ)
    → IsWanted cached info access old → IsWanted now info access old
wanted_kept cached now keeps info access None h = h
wanted_kept cached now keeps info access (Some old) h = copy_kept cached now keeps info access old h

fillable_kept : (cached now : ℕ → ℕ → Option ℕ) → KeepsCached cached now → (info : Option PageInfo) (access : Access) (frame : Option ℕ)
    → IsFillable cached info access frame → IsFillable now info access frame
fillable_kept cached now keeps info access (Some f) h = h
fillable_kept cached now keeps info access None h = (h.0, (h.1.0, frame_kept cached now keeps (back_of info) h.1.0 h.1.1))

-- where more file pages are cached
pub ready_cached : (made : Made) (s : Slots) (cached now : ℕ → ℕ → Option ℕ) → KeepsCached cached now → (phase : Phase)
    → IsReady made s cached phase → IsReady made s now phase
ready_cached made s cached now keeps (Want touch old) h = (h.0, wanted_kept cached now keeps (s.info touch.page) touch.access old h.1)
ready_cached made s cached now keeps (Fill touch frame) h = (h.0, fillable_kept cached now keeps (s.info touch.page) touch.access frame h.1)
ready_cached made s cached now keeps (CopyPost touch frame) h = (h.0, h.1, copy_kept cached now keeps (s.info touch.page) touch.access h.0 h.2)
ready_cached made s cached now keeps (CopyAcks touch frame) h = (h.0, h.1, copy_kept cached now keeps (s.info touch.page) touch.access h.0 h.2)
ready_cached made s cached now keeps _ h = h

chosen_kept : (made : Made) (s t : Slots) (goal : Goal) (range : PageRange) → ((p : ℕ) → has (goal_range goal) p ≡ true → t.info p ≡ s.info p)
    → IsChosen made s goal range → IsChosen made t goal range
chosen_kept made s t goal range same h = (h.0, decides_kept made.file s t goal (Act range h.0) same h.1)

-- where the pages that the call holds have the same
pub ready_kept : (made : Made) (s t : Slots) (cached : ℕ → ℕ → Option ℕ) (phase : Phase)
    → ((p : ℕ) → holds phase p ≡ true → t.info p ≡ s.info p) → IsReady made s cached phase → IsReady made t cached phase
ready_kept made s t cached (Cut place target range) same h = (h.0, chosen_kept made s t (To.Place place target) range same h.1)
ready_kept made s t cached (Post change shoot) same h = decides_kept made.file s t (To.Change change) _ same h
ready_kept made s t cached (Acks goal change) same h = (h.0, h.1, chosen_kept made s t goal (range_of change) same h.2)
ready_kept made s t cached (Want touch old) same h =
    subst (λ o. IsUsable made.file o touch.access old × IsWanted cached o touch.access old) (sym (same touch.page (page_is touch))) h
ready_kept made s t cached (Fill touch frame) same h =
    subst (λ o. IsUsable made.file o touch.access None × IsFillable cached o touch.access frame) (sym (same touch.page (page_is touch))) h
ready_kept made s t cached (CopyPost touch frame) same h =
    copying_kept made cached touch (s.info touch.page) (t.info touch.page) (same touch.page (page_is touch)) h
ready_kept made s t cached (CopyAcks touch frame) same h =
    copying_kept made cached touch (s.info touch.page) (t.info touch.page) (same touch.page (page_is touch)) h
ready_kept made s t cached (Install touch) same h = (h.0, usable_kept made.file s t touch (Some h.0) same h.1)
ready_kept made s t cached _ same h = h

-- what changes once other cores have acknowledged is held
pub awaits_held : (made : Made) (s : Slots) (cached : ℕ → ℕ → Option ℕ) (phase : Phase) (p : ℕ) → IsReady made s cached phase
    → some_has (awaits_in phase) p ≡ true
    → holds phase p ≡ true
awaits_held made s cached (Acks goal change) p r h = acts_in made.file s goal (range_of change) r.2.0 p r.2.1 h
awaits_held made s cached (CopyAcks touch frame) p r h = h
awaits_held made s cached _ p r h = absurd cc

other_call : (made : Made) (s t : Slots) (cached now : ℕ → ℕ → Option ℕ) (requests : List Request) (c d call : ℕ) (phase : Phase) → d ≢ c
    → Touches s t c → KeepsCached cached now → IsCall made s cached requests d call phase → IsCall made t now requests d call phase
other_call made s t cached now requests c d call phase ne h keeps k = record {
  asked = k.asked;
  owned = λ p i. h.still d p ne (k.owned p i);
  only = λ p i. k.only p (h.now d p ne i);
  cut = cut_kept s.edge t.edge h.edge (range_held phase) k.cut;
  cut_out = cut_kept s.edge t.edge h.edge (awaits_in phase) k.cut_out;
  ready = ready_cached made t cached now keeps phase
      (ready_kept made s t cached phase (λ p i. h.info p (λ e. ne (let a = k.owned p i in cc))) k.ready);
  taken = k.taken;
}

-- ---- the call of core c moves on

pub moved : (w : World) (c : ℕ) (new : Phase) (t : Slots) (m : Memory) (log : List Entry) → IsOrderly w → c < w.made.cores → Touches w.slots t c
    → KeepsCached w.memory.cached m.cached → IsCall w.made t m.cached w.calls.requests c (w.calls.number c) new
    → ((p : ℕ) → BelongsTo w.made p (t.info p)) → IsMemory w.made m
    → answer_count log + one new ≤ answer_count w.calls.log + one (w.calls.phase c)
    → Order w.made t m (put w.calls.phase c new) w.calls.number w.calls.requests log
moved w c new t m log g lt touches keeps call pages memory more = record {
  asked = λ d. (calls d).asked;
  owned = λ d. (calls d).owned;
  only = λ d. (calls d).only;
  cut = λ d. (calls d).cut;
  cut_out = λ d. (calls d).cut_out;
  ready = λ d. (calls d).ready;
  pages = pages;
  taken = λ d. (calls d).taken;
  memory = memory;
  outside = put_all (λ d x. w.made.cores ≤ d → x ≡ Free) w.calls.phase c new (λ h. absurd (omega (arith, h, lt))) (λ d ne. g.outside d);
  few = g.few;
  room = let a = open_put w.calls.phase c new w.made.cores lt in let b = g.room in omega (arith, a, b, more);
  limit = g.limit;
}
  where
    calls : (d : ℕ) → IsCall w.made t m.cached w.calls.requests d (w.calls.number d) (put w.calls.phase c new d)
    calls = put_all (λ d x. IsCall w.made t m.cached w.calls.requests d (w.calls.number d) x) w.calls.phase c new call
        (λ d ne. other_call w.made w.slots t w.memory.cached m.cached w.calls.requests c d (w.calls.number d) (w.calls.phase d) ne touches keeps
        (call_at w d (w.calls.phase d) refl g))

-- without a reply
pub goes_on : (w : World) (c : ℕ) (new : Phase) (t : Slots) (m : Memory) → IsOrderly w → c < w.made.cores → is_open new ≡ is_open (w.calls.phase c)
    → Touches w.slots t c → KeepsCached w.memory.cached m.cached → IsCall w.made t m.cached w.calls.requests c (w.calls.number c) new
    → ((p : ℕ) → BelongsTo w.made p (t.info p)) → IsMemory w.made m
    → Order w.made t m (put w.calls.phase c new) w.calls.number w.calls.requests w.calls.log
goes_on w c new t m g lt same touches keeps call pages memory =
    moved w c new t m w.calls.log g lt touches keeps call pages memory (let a : one new ≡ one (w.calls.phase c) = ap (λ b. cond b 1 0) same in omega (arith, a))

one_gone : (held : Option PageRange) (reply : Reply) → one (let_go held reply) ≡ 0
one_gone None reply = refl
one_gone (Some held) reply = refl

pub answers_more : (log : List Entry) (entry : Entry) → answer_count (log ++ entry ∷ []) ≡ answer_count log + answer_count (entry ∷ [])
answers_more [] entry = omega arith
answers_more (Told step call core reply ∷ es) entry = let ih = answers_more es entry in omega (arith, ih)
answers_more (Detach step call page ∷ es) entry = answers_more es entry

-- with a copy for its store
pub copies_on : (w : World) (c : ℕ) (new : Phase) (t : Slots) (m : Memory) (step call page : ℕ) → IsOrderly w → c < w.made.cores
    → is_open new ≡ is_open (w.calls.phase c) → Touches w.slots t c → KeepsCached w.memory.cached m.cached
    → IsCall w.made t m.cached w.calls.requests c (w.calls.number c) new → ((p : ℕ) → BelongsTo w.made p (t.info p)) → IsMemory w.made m
    → Order w.made t m (put w.calls.phase c new) w.calls.number w.calls.requests (w.calls.log ++ Detach step call page ∷ [])
copies_on w c new t m step call page g lt same touches keeps its pages memory =
    moved w c new t m (w.calls.log ++ Detach step call page ∷ []) g lt touches keeps its pages memory
    (let a : one new ≡ one (w.calls.phase c) = ap (λ b. cond b 1 0) same in
    let b = answers_more w.calls.log (Detach step call page) in
    omega (arith, a, b))

-- with its reply
pub tells : (w : World) (c : ℕ) (held : Option PageRange) (reply : Reply) (t : Slots) (m : Memory) (step call core : ℕ) → IsOrderly w
    → c < w.made.cores → is_open (w.calls.phase c) ≡ true → Touches w.slots t c → KeepsCached w.memory.cached m.cached
    → IsCall w.made t m.cached w.calls.requests c (w.calls.number c) (let_go held reply)
    → ((p : ℕ) → BelongsTo w.made p (t.info p)) → IsMemory w.made m
    → Order w.made t m (put w.calls.phase c (let_go held reply)) w.calls.number w.calls.requests (w.calls.log ++ Told step call core reply ∷ [])
tells w c held reply t m step call core g lt was touches keeps its pages memory =
    moved w c (let_go held reply) t m (w.calls.log ++ Told step call core reply ∷ []) g lt touches keeps its pages memory
    (let a : one (w.calls.phase c) ≡ 1 = ap (λ b. cond b 1 0) was in
    let b = one_gone held reply in
    let d = answers_more w.calls.log (Told step call core reply) in
    omega (arith, a, b, d))

-- ---- a call that holds the same pages as before

-- over pages that have this
pub same_range : (w : World) (c : ℕ) (old new : Phase) (info : ℕ → Option PageInfo) (cached : ℕ → ℕ → Option ℕ) → IsCallOf w c old
    → range_held new ≡ range_held old → IsCutFor w.slots.edge (awaits_in new)
    → IsAsked w.made w.calls.requests c (w.calls.number c) new → IsReady w.made (record w.slots { info = info }) cached new
    → ((f : ℕ) → taken_in new ≡ Some f → f < w.made.frames)
    → IsCall w.made (record w.slots { info = info }) cached w.calls.requests c (w.calls.number c) new
same_range w c old new info cached k same out asked ready taken = record {
  asked = asked;
  owned = λ p h. k.owned p (sym (ap (λ r. some_has r p) same) ∙ h);
  only = λ p h. ap (λ r. some_has r p) same ∙ k.only p h;
  cut = subst (IsCutFor w.slots.edge) (sym same) k.cut;
  cut_out = out;
  ready = ready;
  taken = taken;
}

-- over pages that have what they had
pub same_pages : (w : World) (c : ℕ) (old new : Phase) → IsCallOf w c old → range_held new ≡ range_held old → IsCutFor w.slots.edge (awaits_in new)
    → IsAsked w.made w.calls.requests c (w.calls.number c) new
    → IsReady w.made w.slots w.memory.cached new → ((f : ℕ) → taken_in new ≡ Some f → f < w.made.frames) → IsCallOf w c new
same_pages w c old new = same_range w c old new w.slots.info w.memory.cached

-- a call that has a reply has taken no frame, and asks for nothing more
pub none_taken : (held : Option PageRange) (reply : Reply) (f : ℕ) → taken_in (let_go held reply) ≡ Some f → ⊥
none_taken None reply f h = cc
none_taken (Some held) reply f h = cc

pub asked_gone : (made : Made) (requests : List Request) (c call : ℕ) (held : Option PageRange) (reply : Reply)
    → IsAsked made requests c call (let_go held reply)
asked_gone made requests c call None reply = tt
asked_gone made requests c call (Some held) reply = tt

pub held_gone : (held : Option PageRange) (reply : Reply) → range_held (let_go held reply) ≡ held
held_gone None reply = refl
held_gone (Some held) reply = refl

pub out_gone : (edge : ℕ → Bool) (held : Option PageRange) (reply : Reply) → IsCutFor edge (awaits_in (let_go held reply))
out_gone edge None reply = tt
out_gone edge (Some held) reply = tt

-- what it still holds are valid pages
abbrev pub IsHeldRange : Option PageRange → Type 0
IsHeldRange None = Unit {0}
IsHeldRange (Some held) = IsPageRange held

pub ready_gone : (made : Made) (s : Slots) (cached : ℕ → ℕ → Option ℕ) (held : Option PageRange) (reply : Reply) → IsHeldRange held
    → IsReady made s cached (let_go held reply)
ready_gone made s cached None reply h = tt
ready_gone made s cached (Some held) reply h = h
