-- Cores that are locked one after another, and then told
use Rattle.std.proofs.Common.{◌≡◌, ◌≢◌, ◌⊎◌, inl, inr, ℕ, zero, suc, ◌+◌, ◌<◌, ◌≤◌, List, [], ◌∷◌, ◌++◌, map, length, get_or, set, Bool, true, false}
use Rattle.std.proofs.Common.{Option, Some}
use Rattle.std.proofs.Common.{refl, ap, sym, ◌∙◌, subst, arith}
use Rattle.std.specs.Prelude.{All, IsSome}
use Rattle.std.specs.List.{Contains, refill}
use Rattle.std.specs.Sync.Mutex.{mutex_guard_value}
use Rattle.std.proofs.lemmas.Bool.{cases_lt}
use Rattle.std.proofs.lemmas.List.{get_or-set_other, length-map}
use Rattle.std.proofs.lemmas.List.Elements.{All-push, All-nil, Contains-append_left, Contains-append_right}
use Rattle.vm_base.specs.Cores.{members}
use Rattle.vm_base.specs.declared.page.PageRange.{PageRange}
use Rattle.mmu.specs.declared.cpu.Cpu.{Cpu}
use Rattle.mmu.specs.declared.entry.Translation.{Translation}
use Rattle.mmu.specs.declared.tlb.TlbEntry.{TlbEntry}
use Rattle.machine_model.specs.Translating.{after_shot}
use Rattle.live_tree.proofs.Along.{so_far}
use Rattle.live_tree.proofs.Refilled.{refilled}
use Rattle.refcache.specs.Pieces.{Core}
use Rattle.live_pages.specs.declared.telling.LockedCore.{LockedCore}
use Rattle.live_pages.specs.declared.pieces.CoreState.{CoreState}
use Rattle.live_pages.specs.OneCore.{OneCore, one_core, after_on}
use Rattle.live_pages.specs.Posting.{AreLocked, CanBeTold, LocksCore, core_of, core_with, inbox_of, number_of, told}

map_push : {X Y : Type 0} (f : X → Y) (xs : List X) (x : X) → map f (xs ++ x ∷ []) ≡ map f xs ++ f x ∷ []
map_push f [] x = refl
map_push f (y ∷ ys) x = ap (λ l. f y ∷ l) (map_push f ys x)

module _ {A : Type 0} (c set : ℕ) where
  -- before the first core none is locked
  pub none_locked : (ps : List (Option (LockedCore A))) → ps ≡ [] → AreLocked c set 0 ps
  none_locked ps e = subst (AreLocked c set 0) (sym e) (record {
    some = All-nil IsSome;
    each = λ d lt. absurd (omega (arith, lt));
    others = All-nil (λ p. members set (number_of p) ≡ true);
    ready = All-nil (λ p. CanBeTold c (inbox_of p));
  })

  with_one : (i : ℕ) (ps : List (Option (LockedCore A))) (p : LockedCore A) → p.number ≡ i → members set i ≡ true → CanBeTold c (inbox_of (Some p))
      → AreLocked c set i ps → AreLocked c set (i + 1) (ps ++ Some p ∷ [])
  with_one i ps p is member ready h = record {
    some = All-push IsSome ps (Some p) h.some refl;
    each = λ d lt m. subst (λ l. Contains l d) (sym (map_push number_of ps (Some p))) (by_place d m (cases_lt d i) lt);
    others = All-push (λ p. members set (number_of p) ≡ true) ps (Some p) h.others (subst (λ n. members set n ≡ true) (sym is) member);
    ready = All-push (λ p. CanBeTold c (inbox_of p)) ps (Some p) h.ready ready;
  }
    where
      by_place : (d : ℕ) → members set d ≡ true → (d < i) ⊎ (i ≤ d) → d < i + 1 → Contains (map number_of ps ++ p.number ∷ []) d
      by_place d m (inl below) lt = Contains-append_left (map number_of ps) (p.number ∷ []) d (h.each d below m)
      by_place d m (inr from) lt = let here : p.number ≡ d = is ∙ omega (arith, from, lt) in
          Contains-append_right (map number_of ps) (p.number ∷ []) d (0, omega arith, here)

  without_one : (i : ℕ) (ps : List (Option (LockedCore A))) → members set i ≡ false → AreLocked c set i ps → AreLocked c set (i + 1) ps
  without_one i ps other h = record {
    some = h.some;
    each = λ d lt m. by_place d m (cases_lt d i) lt;
    others = h.others;
    ready = h.ready;
  }
    where
      by_place : (d : ℕ) → members set d ≡ true → (d < i) ⊎ (i ≤ d) → d < i + 1 → Contains (map number_of ps) d
      by_place d m (inl below) lt = h.each d below m
      by_place d m (inr from) lt = let same : d ≡ i = omega (arith, from, lt) in
          absurd (let both : true ≡ false = sym m ∙ (ap (members set) same ∙ other) in cc)

  -- one core more is looked at
  pub next_core : (i : ℕ) (ps qs : List (Option (LockedCore A))) → AreLocked c set i ps → (members set i ≡ true → LocksCore c i ps qs)
      → (members set i ≡ false → qs ≡ ps) → AreLocked c set (i + 1) qs
  next_core i ps qs h locks stays = go (members set i) refl
    where
      go : (b : Bool) → members set i ≡ b → AreLocked c set (i + 1) qs
      go true member = let l = locks member in subst (AreLocked c set (i + 1)) (sym l.now) (with_one i ps l.place l.is member l.ready h)
      go false other = subst (AreLocked c set (i + 1)) (sym (stays other)) (without_one i ps other h)

-- a locked core was told
pub told_at : {A : Type 0} (table : Cpu A → ℕ → Option Translation) (tlb : Cpu A → List TlbEntry) (p : Option (LockedCore A)) (q : LockedCore A)
    (s t : CoreState A) (c set : ℕ) (range : PageRange) → p ≡ Some q → s ≡ mutex_guard_value q.state
    → (members set q.number ≡ true → one_core (table t.cpu) (tlb t.cpu) t.inbox
    ≡ after_on q.number (λ h. after_shot h c set range) (one_core (table s.cpu) (tlb s.cpu) s.inbox)) → t.counts ≡ s.counts
    → members set (number_of p) ≡ true → core_with table tlb q.number t ≡ told c set range (core_of table tlb p)
told_at {A = A} table tlb p q s t c set range is value step same member =
    let here : members set q.number ≡ true = subst (λ x. members set (number_of x) ≡ true) is member in
    let has : OneCore = after_on q.number (λ h. after_shot h c set range) (one_core (table s.cpu) (tlb s.cpu) s.inbox) in
    ap (λ (k : OneCore). record { number = q.number; counts = t.counts; has = k }) (step here)
    ∙ (ap (λ (n : Core). record { number = q.number; counts = n; has = has }) same
    ∙ (ap (λ (x : CoreState A). told c set range (core_with table tlb q.number x)) value
    ∙ ap (λ (x : Option (LockedCore A)). told c set range (core_of table tlb x)) (sym is)))

module _ {X : Type 0} where
  -- the items from here on are as at the beginning
  pub rest_after : (xs ys : List X) (i : ℕ) (x : X) → ((k : ℕ) (d : X) → i ≤ k → get_or xs k d ≡ get_or ys k d)
      → (k : ℕ) (d : X) → i + 1 ≤ k → get_or (set xs i x) k d ≡ get_or ys k d
  rest_after xs ys i x rest k d le = let ne : k ≢ i = λ e. omega (arith, le, e) in
      get_or-set_other xs i k x d ne ∙ rest k d (omega (arith, le))

module _ {X Y : Type 0} (f : X → Y) (h : Y → Y) where
  all_so_far : (ys : List Y) (i : ℕ) → length ys ≤ i → so_far f h i ys ≡ map h ys
  all_so_far [] zero le = refl
  all_so_far [] (suc i) le = refl
  all_so_far (y ∷ ys) zero le = absurd (omega (arith, le))
  all_so_far (y ∷ ys) (suc i) le = ap (λ l. h y ∷ l) (all_so_far ys i (omega (arith, le)))

  -- all items were changed and written back
  pub all_changed : (items ys ws : List X) (i : ℕ) → ys ≡ items → length ws ≡ length ys → length ys ≤ i → map f ws ≡ so_far f h i (map f ys)
      → map f (refill (length items) items ws) ≡ map h (map f items)
  all_changed items ys ws i is same le inv =
      let even : length ws ≡ length items = same ∙ ap length is in
      let le' : length (map f items) ≤ i = omega (arith, le, ap length is, length-map items f) in
      ap (map f) (refilled items ws even) ∙ (inv ∙ (ap (λ l. so_far f h i (map f l)) is ∙ all_so_far (map f items) i le'))
