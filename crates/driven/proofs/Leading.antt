-- Steps of a core's call, beside hardware that does its duties, are the library's steps of a driven run
use Rattle.machine_model.proofs.Words.{◌≡◌, ℕ, ◌⊎◌, ◌&&◌, ◌||◌, ◌==◌, refl, sym, ap, subst, ◌∙◌, inl, inr, Bool, true, false, arith, Some, None, Option}
use Rattle.machine_model.proofs.Words.{zero, suc, List, [], ◌∷◌, ◌++◌, slice_get, props, ∥∥₁_elim, IfSome, Result, Ok, Err, PageRange, has, some_has}
use Rattle.machine_model.proofs.Words.{put, put_all}
use Rattle.machine_model.proofs.Words.{eq_true, frame_of, is_some, nat_tests, PageInfo, Bytes, zeros, World, Made, Step, Request, is_page, IsPage}
use Rattle.vm_base.specs.declared.memory.NoMemory.{NoMemory as MemoryFault}
use Rattle.vm_base.specs.Plain.{File}
use Rattle.machine_model.specs.declared.event.Event.{Event}
use Rattle.machine_model.specs.declared.event.Event.TheVariants.{Call, Go, Evict, Flush, Review, Fold}
use Rattle.machine_model.specs.declared.event.Outcome.{Outcome}
use Rattle.machine_model.specs.declared.event.Outcome.TheVariants.{Stepped, Wait, Idle, Answered, Full}
use Rattle.machine_model.specs.Sound.{IsReached}
use Rattle.machine_model.proofs.SoundKept.{reached_fine, reached_step}
use Rattle.core_steps.proofs.Keeping.{step_made}
use Rattle.real_mmu.specs.Fills.{Fills, Filled, Source, zeroes, file_page, copy_of, first_page, bytes_from, due_at}
use Rattle.real_mmu.specs.Remembered.{own_range, drops}
use Rattle.real_mmu.specs.Waiting.{Waiting, HasSeen}
use Rattle.real_mmu.specs.Driven.{Driven, Act, library, Does, IsFlushed, Stage, Drives as Runs, is_owed, with_range, owed_after, acknowledges}
use Rattle.real_mmu.proofs.Due.{fills_are_due}
use Rattle.driven.specs.declared.telling.Origin.{Origin}
use Rattle.driven.specs.declared.telling.Origin.TheVariants as From
use Rattle.driven.specs.declared.telling.FrameFill.{FrameFill}
use Rattle.driven.specs.declared.telling.Told.{Told}
use Rattle.driven.specs.Telling.{origin_of, TellsFill, StepTells, nothing_told, IsOne, Joins, StepsTell, LastTells, GoesTelling, GoesAfter, CallsTelling}
use Rattle.driven.specs.Duties.{unless_step, beside_steps, end_of}

-- ---- parts of runs

-- from w on a part of a run leads to x, and does this beside the library's steps
pub record Led (w x : Driven) (did : List Act → List Act) : Type 0 where
  pub grow : List Stage → List Stage
  pub runs : (rest : List Stage) → Runs x rest → Runs w (grow rest)
  pub acts : (rest : List Stage) → beside_steps (grow rest) ≡ did (beside_steps rest)
  pub ends : (rest : List Stage) → end_of w (grow rest) ≡ end_of x rest

-- nothing
abbrev pub same : List Act → List Act
same as_is = as_is

pub stay : (w : Driven) → Led w w same
stay w = record { grow = λ r. r; runs = λ r h. h; acts = λ r. refl; ends = λ r. refl }

pub then_led : (w x y : Driven) (f g : List Act → List Act) → Led w x f → Led x y g → Led w y (λ l. f (g l))
then_led w x y f g a b = record {
  grow = λ r. a.grow (b.grow r);
  runs = λ r h. a.runs (b.grow r) (b.runs r h);
  acts = λ r. a.acts (b.grow r) ∙ ap f (b.acts r);
  ends = λ r. a.ends (b.grow r) ∙ b.ends r;
}

pub by_act : (w x : Driven) (a : Act) → unless_step a ≡ a ∷ [] → Does w a x → Led w x (λ l. a ∷ l)
by_act w x a is h = record {
  grow = λ r. record { what = a; after = x } ∷ r;
  runs = λ r k. (h, k);
  acts = λ r. ap (λ l. l ++ beside_steps r) is;
  ends = λ r. refl;
}

-- ---- one step of the library

by_step : (w : Driven) (e : Event) (o : Outcome) (v : World) (bytes : ℕ → Bytes) → Step w.inside e o v → Filled w.inside v w.bytes bytes
    → ((c p : ℕ) → acknowledges w.inside e c p ≡ true → IsFlushed w c p) → ((c : ℕ) → HasSeen w.inside e c (w.waiting c))
    → Led w (record w { inside = v; bytes = bytes; owed = owed_after w.inside e w.owed }) same
by_step w e o v bytes s f flushed seen =
    let x : Driven = record w { inside = v; bytes = bytes; owed = owed_after w.inside e w.owed } in
    record {
      grow = λ r. record { what = library e o; after = x } ∷ r;
      runs = λ r k. ((s, f, flushed, seen, refl), k);
      acts = λ r. refl;
      ends = λ r. refl;
    }

-- one at which no page gets a frame, and no core comes to owe anything
pub by_still : (w : Driven) (e : Event) (o : Outcome) (v : World) → IsReached w.inside → Step w.inside e o v → due_at w.inside e ≡ None
    → owed_after w.inside e w.owed ≡ w.owed → ((c p : ℕ) → acknowledges w.inside e c p ≡ true → IsFlushed w c p)
    → ((c : ℕ) → HasSeen w.inside e c (w.waiting c)) → Led w (record w { inside = v }) same
by_still w e o v r s due owed flushed seen =
    subst (λ owes. Led w (record w { inside = v; owed = owes }) same) owed (by_step w e o v w.bytes s (inr (none, refl)) flushed seen)
  where
    none : (p f : ℕ) → Fills w.inside v p f → ⊥
    none p f k = let z = (fills_are_due w.inside v e o r s p f).0 k in cc

-- one that isn't of a core's call, nor a take
abbrev pub IsQuiet : Event → Type 0
IsQuiet (Call c request) = Unit {0}
IsQuiet (Evict c p) = Unit {0}
IsQuiet (Flush c) = Unit {0}
IsQuiet (Review c) = Unit {0}
IsQuiet (Fold p) = Unit {0}
IsQuiet _ = ⊥

pub by_quiet : (w : Driven) (e : Event) (o : Outcome) (v : World) → IsQuiet e → IsReached w.inside → Step w.inside e o v
    → Led w (record w { inside = v }) same
by_quiet w (Call c request) o v q r s = by_still w (Call c request) o v r s refl refl (λ c p h. absurd cc) (λ c i x at h. cc)
by_quiet w (Evict c p) o v q r s = by_still w (Evict c p) o v r s refl refl (λ c p h. absurd cc) (λ c i x at h. cc)
by_quiet w (Flush c) o v q r s = by_still w (Flush c) o v r s refl refl (λ c p h. absurd cc) (λ c i x at h. cc)
by_quiet w (Review c) o v q r s = by_still w (Review c) o v r s refl refl (λ c p h. absurd cc) (λ c i x at h. cc)
by_quiet w (Fold p) o v q r s = by_still w (Fold p) o v r s refl refl (λ c p h. absurd cc) (λ c i x at h. cc)
by_quiet w _ o v q r s = absurd q

-- ---- fills

abbrev pub origin_bytes : (ℕ → Option File) → (ℕ → Bytes) → Origin → Bytes
origin_bytes files bytes From.Zero = zeros
origin_bytes files bytes (From.Frame g) = bytes g
origin_bytes files bytes (From.File n k) = first_page (files n) k

-- the frames' bytes with a fill made
abbrev pub made_by : (ℕ → Option File) → Option FrameFill → (ℕ → Bytes) → ℕ → Bytes
made_by files None bytes = bytes
made_by files (Some x) bytes = put bytes x.frame (origin_bytes files bytes x.from)

source_bytes : (files : ℕ → Option File) (bytes : ℕ → Bytes) (s : Source) → origin_bytes files bytes (origin_of s) ≡ bytes_from files bytes s
source_bytes files bytes zeroes = refl
source_bytes files bytes (file_page n k) = refl
source_bytes files bytes (copy_of g) = refl

-- what is told is there, without a squash
pub told_fill : (w v : World) (f : Option FrameFill) → ∥ TellsFill w v f ∥₁ → TellsFill w v f
told_fill w v None t = ∥∥₁_elim t (hlevel props) (λ h. h)
told_fill w v (Some x) t = (
  record {
    now = ∥∥₁_elim t (hlevel props) (λ h. h.0.now);
    before = ∥∥₁_elim t (hlevel props) (λ h. h.0.before);
    uncached = ∥∥₁_elim t (hlevel props) (λ h. h.0.uncached);
  },
  ∥∥₁_elim t (hlevel props) (λ h. h.1),
)

filled : (w v : World) (f : Option FrameFill) (bytes : ℕ → Bytes) → TellsFill w v f → Filled w v bytes (made_by w.made.file f bytes)
filled w v None bytes h = inr (h, refl)
filled w v (Some x) bytes h =
    inl (x.page, x.frame, h.0, ap (put bytes x.frame) (ap (origin_bytes w.made.file bytes) h.1 ∙ source_bytes w.made.file bytes _))

page_valid : (p : ℕ) → IsPage p → is_page p ≡ true
page_valid p h = let low = h.0 in let high = h.1 in grind (arith, nat_tests)

-- a page that got a frame is one
filled_page : (v : World) (p f : ℕ) → IsReached v → frame_of (v.slots.info p) ≡ Some f → is_page p ≡ true
filled_page v p f r h = valid (v.slots.info p) refl
  where
    valid : (i : Option PageInfo) → v.slots.info p ≡ i → is_page p ≡ true
    valid None e = let z : frame_of None ≡ Some f = ap frame_of (sym e) ∙ h in absurd cc
    valid (Some info) e = page_valid p (((reached_fine v r).order.pages p).valid (ap is_some e))

fill_page : (w v : World) (f : Option FrameFill) → IsReached v → TellsFill w v f → IfSome f (λ x. is_page x.page ≡ true)
fill_page w v None r h = tt
fill_page w v (Some x) r h = filled_page v x.page x.frame r h.0.now

-- ---- what is owed

and_left : (a b : Bool) → (a && b) ≡ true → a ≡ true
and_left true b h = refl
and_left false b h = absurd cc

-- a core whose store buffer is empty drops no page while its store to it waits, and no other core drops any
pub empty_seen : (w : World) (e : Event) (d : ℕ) (waiting : ℕ → List Waiting) → waiting d ≡ []
    → ((c p : ℕ) → drops w e c p ≡ true → c ≡ d) → (c : ℕ) → HasSeen w e c (waiting c)
empty_seen w e d waiting empty only c i x at h =
    let z : slice_get (waiting d) i ≡ Some x = subst (λ c. slice_get (waiting c) i ≡ Some x) (only c x.page h) at in
    let y : slice_get [] i ≡ Some x = subst (λ l. slice_get l i ≡ Some x) empty z in cc

-- what is owed by then was owed before, or is of the range
abbrev pub IsWithin : (ℕ → List PageRange) → (ℕ → List PageRange) → ℕ → Option PageRange → Type 0
IsWithin owes owed core range =
    (c p : ℕ) → is_owed (owes c) p ≡ true → (is_owed (owed c) p ≡ true) ⊎ ((c ≡ core) × (some_has range p ≡ true))

own_within : (owed : ℕ → List PageRange) (core : ℕ) (range : Option PageRange) → IsWithin (put owed core (with_range range (owed core))) owed core range
own_within owed core range c p =
    put_all (λ c rs. is_owed rs p ≡ true → (is_owed (owed c) p ≡ true) ⊎ ((c ≡ core) × (some_has range p ≡ true))) owed core
    (with_range range (owed core)) (here range) (λ c ne h. inl h) c
  where
    either : (a b : Bool) → (a || b) ≡ true → (b ≡ true) ⊎ (a ≡ true)
    either true b h = inr refl
    either false b h = inl h

    here : (range : Option PageRange) → is_owed (with_range range (owed core)) p ≡ true
        → (is_owed (owed core) p ≡ true) ⊎ ((core ≡ core) × (some_has range p ≡ true))
    here None h = inl h
    here (Some r) h = elim (either (has r p) (is_owed (owed core) p) h) [ inl old ↦ inl old | inr new ↦ inr (refl, new) ]

-- ---- steps of a call

-- core's steps from w on told this, and left v
pub record Went (w : Driven) (core : ℕ) (all : Told) (v : World) : Type 0 where
  pub owed : ℕ → List PageRange
  pub led : Led w (record w { inside = v; bytes = made_by w.inside.made.file all.fill w.bytes; owed = owed }) same
  pub within : IsWithin owed w.owed core all.own
  pub reached : IsReached v
  pub made : v.made ≡ w.inside.made
  pub page : IfSome all.fill (λ x. is_page x.page ≡ true)

one_step : (w : Driven) (core : ℕ) (now : Told) (o : Outcome) (v : World) → IsReached w.inside → w.waiting core ≡ []
    → StepTells w.inside core now o v → Went w core now v
one_step w core now o v r empty s =
    let t = told_fill w.inside v now.fill s.fill in
    let after = reached_step w.inside v (Go core) o r s.step in
    record {
      owed = owed_after w.inside (Go core) w.owed;
      led = by_step w (Go core) o v (made_by w.inside.made.file now.fill w.bytes) s.step (filled w.inside v now.fill w.bytes t) (λ c p h. absurd cc)
          (empty_seen w.inside (Go core) core w.waiting empty
          (λ c p h. eq_true c core (and_left (c == core) (some_has (own_range (w.inside.calls.phase core)) p) h)));
      within = subst (IsWithin (owed_after w.inside (Go core) w.owed) w.owed core) (sym s.own)
          (own_within w.owed core (own_range (w.inside.calls.phase core)));
      reached = after;
      made = step_made w.inside (Go core) o v s.step;
      page = fill_page w.inside v now.fill after t;
    }

made_once : (files : ℕ → Option File) (bytes : ℕ → Bytes) (before now all : Option FrameFill) → IsOne before now all
    → made_by files now (made_by files before bytes) ≡ made_by files all bytes
made_once files bytes None None all h = ap (λ f. made_by files f bytes) (sym h)
made_once files bytes (Some y) None all h = ap (λ f. made_by files f bytes) (sym h)
made_once files bytes None (Some x) all h = ap (λ f. made_by files f bytes) (sym h)
made_once files bytes (Some y) (Some x) all h = absurd h

-- what holds of both holds of the one that there is
pub one_has : {A : Type 0} (P : Option A → Type 0) (before now all : Option A) → IsOne before now all → P before → P now → P all
one_has P None None all h a b = subst P (sym h) a
one_has P (Some y) None all h a b = subst P (sym h) a
one_has P None (Some x) all h a b = subst P (sym h) b
one_has P (Some y) (Some x) all h a b = absurd h

one_old : (before now all : Option PageRange) (p : ℕ) → IsOne before now all → some_has before p ≡ true → some_has all p ≡ true
one_old None now all p h i = absurd cc
one_old (Some y) None all p h i = ap (λ r. some_has r p) h ∙ i
one_old (Some y) (Some x) all p h i = absurd h

one_new : (before now all : Option PageRange) (p : ℕ) → IsOne before now all → some_has now p ≡ true → some_has all p ≡ true
one_new before None all p h i = absurd cc
one_new None (Some x) all p h i = ap (λ r. some_has r p) h ∙ i
one_new (Some y) (Some x) all p h i = absurd h

-- where the steps so far lead
abbrev gone : (w : Driven) (core : ℕ) (before : Told) (m : World) → Went w core before m → Driven
gone w core before m a = record w { inside = m; bytes = made_by w.inside.made.file before.fill w.bytes; owed = a.owed }

went_on : (w : Driven) (core : ℕ) (before now all : Told) (m v : World) (a : Went w core before m) → Went (gone w core before m a) core now v
    → Joins before now all → Went w core all v
went_on w core before now all m v a b j = record {
  owed = b.owed;
  led = subst (λ bytes. Led w (record w { inside = v; bytes = bytes; owed = b.owed }) same)
      (ap (λ (x : Made). made_by x.file now.fill (made_by w.inside.made.file before.fill w.bytes)) a.made
      ∙ made_once w.inside.made.file w.bytes before.fill now.fill all.fill j.fill)
      (then_led w (gone w core before m a) _ same same a.led b.led);
  within = λ c p h. elim (b.within c p h) [
    | inl old ↦ elim (a.within c p old) [
      | inl older ↦ inl older
      | inr own ↦ inr (own.0, one_old before.own now.own all.own p j.own own.1)
    ]
    | inr own ↦ inr (own.0, one_new before.own now.own all.own p j.own own.1)
  ];
  reached = b.reached;
  made = b.made ∙ a.made;
  page = one_has (λ f. IfSome f (λ x. is_page x.page ≡ true)) before.fill now.fill all.fill j.fill a.page b.page;
}

nothing_went : (w : Driven) (core : ℕ) → IsReached w.inside → Went w core nothing_told w.inside
nothing_went w core r = record {
  owed = w.owed;
  led = stay w;
  within = λ c p h. inl h;
  reached = r;
  made = refl;
  page = tt;
}

-- what is told, and where it leads, are these
went_so : (w : Driven) (core : ℕ) (told all : Told) (m v : World) → v ≡ m → all ≡ told → Went w core told m → Went w core all v
went_so w core told all m v at is a = subst (λ all. Went w core all v) (sym is) (subst (Went w core told) (sym at) a)

steps_went : (n : ℕ) (w : Driven) (core : ℕ) (all : Told) (v : World) → IsReached w.inside → w.waiting core ≡ []
    → StepsTell w.inside core n all v → Went w core all v
steps_went zero w core all v r empty h = went_so w core nothing_told all w.inside v h.0 h.1 (nothing_went w core r)
steps_went (suc n) w core all v r empty (m, before, now, s, t, j) =
    let a = steps_went n w core before m r empty s in
    went_on w core before now all m v a (one_step (gone w core before m a) core now Stepped v a.reached empty t) j

last_went : (w : Driven) (core n : ℕ) (before all : Told) (m v : World) (o : Outcome) → w.waiting core ≡ [] → Went w core before m
    → LastTells m core n before all o v → Went w core all v
last_went w core n before all m v o empty a h = by o h
  where
    more : (o : Outcome) → (now : Told) × StepTells m core now o v × Joins before now all → Went w core all v
    more o (now, t, j) = went_on w core before now all m v a (one_step (gone w core before m a) core now o v a.reached empty t) j

    by : (o : Outcome) → LastTells m core n before all o v → Went w core all v
    by Stepped h = went_so w core before all m v h.0 h.1 a
    by (Wait b) h = more (Wait b) h
    by Idle h = more Idle h
    by Full h = more Full h
    by (Answered reply) h = more (Answered reply) h

pub goes_went : (keeps : Bool) (w : Driven) (core : ℕ) (all : Told) (ended : Result Outcome MemoryFault) (v : World) → IsReached w.inside
    → w.waiting core ≡ [] → GoesTelling keeps w.inside core all ended v → Went w core all v
goes_went keeps w core all (Ok o) v r empty (n, m, before, s, l) =
    last_went w core n before all m v o empty (steps_went n w core before m r empty s) l
goes_went keeps w core all (Err e) v r empty (n, s, wants) = steps_went n w core all v r empty s

-- a step before which nothing is told
pub went_after : (w : Driven) (core : ℕ) (all : Told) (m v : World) → Led w (record w { inside = m }) same → m.made ≡ w.inside.made
    → Went (record w { inside = m }) core all v → Went w core all v
went_after w core all m v l same_made a = record {
  owed = a.owed;
  led = subst (λ bytes. Led w (record w { inside = v; bytes = bytes; owed = a.owed }) same)
      (ap (λ (x : Made). made_by x.file all.fill w.bytes) same_made) (then_led w (record w { inside = m }) _ same same l a.led);
  within = a.within;
  reached = a.reached;
  made = a.made ∙ same_made;
  page = a.page;
}

pub calls_went : (keeps : Bool) (w : Driven) (core : ℕ) (request : Request) (all : Told) (ended : Result Outcome MemoryFault) (v : World)
    → IsReached w.inside → w.waiting core ≡ [] → CallsTelling keeps w.inside core request all ended v → Went w core all v
calls_went keeps w core request all ended v r empty (o, m, s, g) =
    went_after w core all m v (by_quiet w (Call core request) o m tt r s) (step_made w.inside (Call core request) o m s) (by o s g)
  where
    still : (o : Outcome) → Step w.inside (Call core request) o m → v ≡ m → all ≡ nothing_told → Went (record w { inside = m }) core all v
    still o s at is = went_so (record w { inside = m }) core nothing_told all m v at is
        (nothing_went (record w { inside = m }) core (reached_step w.inside m (Call core request) o r s))

    by : (o : Outcome) → Step w.inside (Call core request) o m → GoesAfter keeps m core o all ended v → Went (record w { inside = m }) core all v
    by Stepped s g = goes_went keeps (record w { inside = m }) core all ended v (reached_step w.inside m (Call core request) Stepped r s) empty g
    by (Wait b) s g = still (Wait b) s g.0 g.1
    by Idle s g = still Idle s g.0 g.1
    by Full s g = still Full s g.0 g.1
    by (Answered reply) s g = still (Answered reply) s g.0 g.1
