-- What is read of each core, after one core changed
use Rattle.machine_model.proofs.Words.{◌≡◌, ℕ, zero, suc, ◌<◌, Bool, true, false, List, [], ◌∷◌, ◌++◌, length, map, get_or, refl, sym, ap, subst, ◌∙◌, Option}
use Rattle.machine_model.proofs.Words.{None, slice_set, if◌then◌else◌, fun_ext, length-map, PageRange, members, has, over, put, over_all, put_all, put_both}
use Rattle.machine_model.proofs.Words.{put_other, Translation, TlbEntry, tlb_without, Message, posted, Hardware, with_table, tables_cleared, tlb_invalidated}
use Rattle.machine_model.proofs.Words.{after_eviction, after_shot}
use Rattle.std.proofs.lemmas.List.{map-set, get_or-map}
use Rattle.mmu.specs.Tlb.{is_at}
use Rattle.mmu.specs.Messages.{InboxOf}
use Rattle.mmu.specs.Inboxes.{inbox, sent}
use Rattle.machine_model.specs.World.{no_translations}
use Rattle.machine_model.specs.Translating.{with_tlb}
use Rattle.machine_model.specs.Coherent.{Every, HasDropped}
use Rattle.core_steps.specs.Cores.{of_each, parts_of}
use Rattle.core_steps.specs.PageChange.{IsAlone}
use Rattle.core_steps.proofs.engine.Lists.{set_is_put}

-- ---- one function

-- of two changes at one place the later stays
pub put_twice : {V : Type 0} (f : ℕ → V) (k : ℕ) (a b : V) → put f k b ≡ put (put f k a) k b
put_twice f k a b = fun_ext (put_both (λ j x y. x ≡ y) f (put f k a) k b b refl (λ j other. sym (put_other f k a j other)))

-- what is there already
pub put_id : {V : Type 0} (f : ℕ → V) (k : ℕ) (v : V) → v ≡ f k → put f k v ≡ f
put_id f k v e = fun_ext (put_all (λ j x. x ≡ f j) f k v e (λ j ne. refl))

pub each_at : {C V : Type 0} (read : C → V) (none : V) (cpus : List C) (k : ℕ) (y : C) → k < length cpus → y ≡ get_or cpus k y
    → of_each read none cpus k ≡ read y
each_at read none cpus k y h e = get_or-map read cpus k y none h ∙ ap read (sym e)

each_set : {C V : Type 0} (read : C → V) (none : V) (cpus : List C) (k : ℕ) (x : C) → k < length cpus
    → of_each read none (slice_set cpus k x) ≡ put (of_each read none cpus) k (read x)
each_set read none cpus k x h =
    ap (λ vs. (λ j. get_or vs j none)) (map-set read cpus k x)
    ∙ set_is_put (map read cpus) none k (read x) (subst (λ n. k < n) (sym (length-map cpus read)) h)

-- each core has just this, and one more
pub each_none : {C V : Type 0} (read : C → V) (none : V) (cpus : List C) (x : C) → read x ≡ none → ((c : ℕ) → of_each read none cpus c ≡ none)
    → (c : ℕ) → of_each read none (cpus ++ x ∷ []) c ≡ none
each_none read none [] x e h zero = e
each_none read none [] x e h (suc c) = refl
each_none read none (y ∷ cpus) x e h zero = h 0
each_none read none (y ∷ cpus) x e h (suc c) = each_none read none cpus x e (λ j. h (suc j)) c

pub one_more : {C V : Type 0} (read : C → V) (none : V) (cpus more : List C) (x : C) → more ≡ cpus ++ x ∷ [] → read x ≡ none
    → ((c : ℕ) → of_each read none cpus c ≡ none) → (c : ℕ) → of_each read none more c ≡ none
one_more read none cpus more x e h all c = ap (λ xs. of_each read none xs c) e ∙ each_none read none cpus x h all c

pub bare_parts : {C : Type 0} (table : C → ℕ → Option Translation) (tlb : C → List TlbEntry) (cpus : List C) (boxes : List InboxOf)
    → ((c : ℕ) → of_each table (λ p. None) cpus c ≡ (λ p. None)) → ((c : ℕ) → of_each tlb [] cpus c ≡ []) → ((d : ℕ) → inbox boxes d ≡ [])
    → (parts_of table tlb cpus boxes).hardware ≡ no_translations
bare_parts table tlb cpus boxes a b d =
    ap (λ t. record (parts_of table tlb cpus boxes).hardware { table = t }) (fun_ext a)
    ∙ (ap (λ l. record { table = λ c p. None; tlb = l; inbox = inbox boxes }) (fun_ext b)
    ∙ ap (λ m. record { table = λ c p. None; tlb = λ c. []; inbox = m }) (fun_ext d))

-- ---- core k, which was y, is x now; i is the index of k

module _ {C : Type 0} (table : C → ℕ → Option Translation) (tlb : C → List TlbEntry) (cpus : List C) (boxes : List InboxOf) (i k : ℕ) (x y : C)
    (h : k < length cpus) (same : i ≡ k) (was : y ≡ get_or cpus i y) where
  was_at : y ≡ get_or cpus k y
  was_at = was ∙ ap (λ j. get_or cpus j y) same

  seen_table : of_each table (λ p. None) cpus k ≡ table y
  seen_table = each_at table (λ p. None) cpus k y h was_at

  seen_tlb : of_each tlb [] cpus k ≡ tlb y
  seen_tlb = each_at tlb [] cpus k y h was_at

  abbrev Old : Hardware
  Old = (parts_of table tlb cpus boxes).hardware

  abbrev New : Hardware
  New = (parts_of table tlb (slice_set cpus i x) boxes).hardware

  both_set : New ≡ with_tlb (with_table Old k (table x)) k (tlb x)
  both_set =
      ap (λ j. (parts_of table tlb (slice_set cpus j x) boxes).hardware) same
      ∙ (ap (λ f. record (parts_of table tlb (slice_set cpus k x) boxes).hardware { table = f }) (each_set table (λ p. None) cpus k x h)
      ∙ ap (λ f. record (with_table Old k (table x)) { tlb = f }) (each_set tlb [] cpus k x h))

  pub table_set : (F : (ℕ → Option Translation) → ℕ → Option Translation) → table x ≡ F (table y) → tlb x ≡ tlb y → New ≡ with_table Old k (F (Old.table k))
  table_set F et el =
      both_set
      ∙ (ap (λ f. record (with_table Old k (table x)) { tlb = f }) (put_id (of_each tlb [] cpus) k (tlb x) (el ∙ sym seen_tlb))
      ∙ ap (λ t. with_table Old k t) (et ∙ ap F (sym seen_table)))

  pub tlb_set : (F : (ℕ → Option Translation) → List TlbEntry → List TlbEntry) → table x ≡ table y → tlb x ≡ F (table y) (tlb y)
      → New ≡ with_tlb Old k (F (Old.table k) (Old.tlb k))
  tlb_set F et el =
      both_set
      ∙ (ap (λ f. record (with_tlb Old k (tlb x)) { table = f }) (put_id (of_each table (λ p. None) cpus) k (table x) (et ∙ sym seen_table))
      ∙ ap (λ l. with_tlb Old k l) (el ∙ (ap (λ t. F t (tlb y)) (sym seen_table) ∙ ap (λ l. F (Old.table k) l) (sym seen_tlb))))

  pub none_set : table x ≡ table y → tlb x ≡ tlb y → New ≡ Old
  none_set et el =
      table_set (λ t. t) et el ∙ ap (λ f. record Old { table = f }) (put_id (of_each table (λ p. None) cpus) k (Old.table k) refl)

  pub evict_set : (p : ℕ) (r : Bool) → table x ≡ table y → tlb x ≡ (if r then tlb_without (is_at p) (tlb y) else tlb y)
      → New ≡ (if r then after_eviction Old k p else Old)
  evict_set p true et el = tlb_set (λ t l. tlb_without (is_at p) l) et el
  evict_set p false et el = none_set et el

-- ---- a core that has nothing of a range

-- of changes to what is there already
over_id : {V : Type 0} (f : ℕ → V) (s : ℕ → Bool) (v : V) → ((j : ℕ) → s j ≡ true → f j ≡ v) → over f s v ≡ f
over_id f s v same = fun_ext (over_all (λ j x. x ≡ f j) f s v (λ j e. sym (same j e)) (λ j e. refl))

without_none : (s : ℕ → Bool) (es : List TlbEntry) → Every (λ (e : TlbEntry). s e.page ≡ false) es → tlb_without s es ≡ es
without_none s [] none = refl
without_none s (e ∷ es) none = rw none.0 (ap (λ xs. e ∷ xs) (without_none s es none.1))

pub nothing_dropped : (h : Hardware) (core : ℕ) (range : PageRange) → HasDropped (h.table core) (h.tlb core) range None
    → tlb_invalidated (tables_cleared h core range) core range ≡ h
nothing_dropped h core range none =
    ap (λ t. tlb_invalidated (record h { table = t }) core range) (put_id h.table core _ (over_id (h.table core) (has range) None none.0))
    ∙ ap (λ l. record h { tlb = l }) (put_id h.tlb core _ (without_none (has range) (h.tlb core) none.1))

-- ---- a shootdown

pub own_dropped : (h : Hardware) (core set : ℕ) (range : PageRange) → IsAlone set core
    → after_shot h core set range ≡ tlb_invalidated (tables_cleared h core range) core range
own_dropped h core set range alone =
    ap (λ b. record (tlb_invalidated (tables_cleared h core range) core range) { inbox = b }) (fun_ext (λ d. rw (alone d) refl))

pub shot_set : (h0 h2 : Hardware) (core set to : ℕ) (range : PageRange) (boxes : ℕ → List Message)
    → h2 ≡ tlb_invalidated (tables_cleared h0 core range) core range
    → members to ≡ put (members set) core false → boxes ≡ sent core to range h2.inbox → record h2 { inbox = boxes } ≡ after_shot h0 core set range
shot_set h0 h2 core set to range boxes e em eb =
    ap {A = Hardware} (λ h. record h { inbox = boxes }) e
    ∙ ap {A = ℕ → List Message} (λ b. record (tlb_invalidated (tables_cleared h0 core range) core range) { inbox = b })
    (eb ∙ (ap {A = Hardware} (λ h. sent core to range h.inbox) e
    ∙ ap {A = ℕ → Bool} (λ m. (λ d. if m d then h0.inbox d ++ posted core range ∷ [] else h0.inbox d)) em))
