-- What the pages of a range have together, by those of its parts
use Rattle.slot_lock.proofs.Words.{◌≡◌, ℕ, zero, suc, ◌+◌, ◌-◌, ◌<◌, ◌≤◌, ◌||◌, ◌↔◌, ⊎_elim, ◌⊎◌, inl, inr, Bool, true, false, not, is_some, Option, Some, None}
use Rattle.slot_lock.proofs.Words.{refl, sym, ap, ◌∙◌, arith, cases_lt, PageInfo, Back, Anon, Shared, Private, members, info_from}
use Rattle.slot_lock.proofs.Words.{is_recorded, has_in, in_has}
use Rattle.std.proofs.Common.{if◌then◌else◌}
use Rattle.slot_lock.specs.declared.survey.Survey.{Survey}
use Rattle.slot_lock.specs.Slots.{Slots, between}
use Rattle.slot_lock.specs.Edges.{edges_below}
use Rattle.slot_lock.specs.Surveys.{HasSome, IsSurvey, is_framed, is_gap, is_shared, is_user}
use Rattle.slot_lock.proofs.Facts.{either_left, either_right}
use Rattle.slot_lock.proofs.EdgeCounts.{edges_below-most}
use Rattle.slot_lock.proofs.Walks.{is_some-from, frame_of-from, is_recorded-from}

-- ---- pages that pass a test

pub has_none : (test : Option PageInfo → Bool) (s : Slots) (at : ℕ) (b : Bool) → b ≡ false → (b ≡ true) ↔ HasSome test s (between at at)
has_none test s at b e = (
  λ h. absurd (let wrong : false ≡ true = sym e ∙ h in cc),
  λ w. let m = has_in (between at at) w.0 w.1 in absurd (omega (arith, m.0, m.1)),
)

which : (a b : Bool) → a || b ≡ true → (a ≡ true) ⊎ (b ≡ true)
which true b e = inl refl
which false b e = inr e

pub either_true : (a b : Bool) → a ≡ true → a ≡ (a || b)
either_true true b e = refl
either_true false b e = absurd cc

pub either_false : (a b : Bool) → a ≡ false → b ≡ (a || b)
either_false a b e = rw e refl

pub has_both : (test : Option PageInfo → Bool) (s : Slots) (first middle end : ℕ) (x y b : Bool) → first ≤ middle → middle ≤ end → b ≡ (x || y)
    → ((x ≡ true) ↔ HasSome test s (between first middle)) → ((y ≡ true) ↔ HasSome test s (between middle end))
    → (b ≡ true) ↔ HasSome test s (between first end)
has_both test s first middle end x y b low high e h k = (
  λ t. ⊎_elim
      (λ (l : x ≡ true). let w = h.0 l in let m = has_in (between first middle) w.0 w.1 in
      (w.0, in_has (between first end) w.0 m.0 (omega (arith, m.1)), w.2))
      (λ (r : y ≡ true). let w = k.0 r in let m = has_in (between middle end) w.0 w.1 in
      (w.0, in_has (between first end) w.0 (omega (arith, m.0)) m.1, w.2))
      (which x y (sym e ∙ t)),
  λ w. let m = has_in (between first end) w.0 w.1 in e ∙ ⊎_elim
      (λ (l : w.0 < middle). either_left x y (h.1 (w.0, in_has (between first middle) w.0 m.0 l, w.2)))
      (λ (r : middle ≤ w.0). either_right x y (k.1 (w.0, in_has (between middle end) w.0 r m.1, w.2)))
      (cases_lt w.0 middle),
)

-- pages that say the same
pub has_one : (test : Option PageInfo → Bool) (s : Slots) (first end : ℕ) (b : Bool) → first < end
    → ((p : ℕ) → first ≤ p → p < end → test (s.info p) ≡ b) → (b ≡ true) ↔ HasSome test s (between first end)
has_one test s first end b some all = (
  λ t. (first, in_has (between first end) first (omega arith) some, all first (omega arith) some ∙ t),
  λ w. let m = has_in (between first end) w.0 w.1 in sym (all w.0 m.0 m.1) ∙ w.2,
)

-- the same pages, counted from another one on
pub has_moved : (test : Option PageInfo → Bool) (s t : Slots) (base first end : ℕ) (b : Bool)
    → ((q : ℕ) → first ≤ q → q < end → s.info (base + q) ≡ t.info q) → ((b ≡ true) ↔ HasSome test t (between first end))
    → (b ≡ true) ↔ HasSome test s (between (base + first) (base + end))
has_moved test s t base first end b same h = (
  λ e. let w = h.0 e in let m = has_in (between first end) w.0 w.1 in (
    base + w.0,
    in_has (between (base + first) (base + end)) (base + w.0) (omega (arith, m.0)) (omega (arith, m.1)),
    ap test (same w.0 m.0 m.1) ∙ w.2,
  ),
  λ w. let m = has_in (between (base + first) (base + end)) w.0 w.1 in
      let low : first ≤ w.0 - base = omega (arith, m.0) in
      let high : w.0 - base < end = omega (arith, m.0, m.1) in
      let at : base + (w.0 - base) ≡ w.0 = omega (arith, m.0) in
      h.1 (w.0 - base, in_has (between first end) (w.0 - base) low high, ap test (sym (same (w.0 - base) low high) ∙ ap s.info at) ∙ w.2),
)

-- ---- how many slots begin

abbrev pub one_if : Bool → ℕ
one_if b = if b then 1 else 0

-- one more page
pub edges_next : (s : Slots) (n m : ℕ) → m ≡ n + 1 → edges_below s m ≡ edges_below s n + one_if (s.edge n)
unfolding edges_below
edges_next s n m e =
    let k : m ≡ suc n = omega arith in
    let sum : one_if (s.edge n) + edges_below s n ≡ edges_below s n + one_if (s.edge n) = omega arith in
    ap (edges_below s) k ∙ sum

-- as many as in other slots, whose pages are counted from another one on
pub edges_moved : (s t : Slots) (a b n : ℕ) → ((i : ℕ) → i < n → s.edge (a + i) ≡ t.edge (b + i))
    → edges_below s (a + n) + edges_below t b ≡ edges_below s a + edges_below t (b + n)
edges_moved s t a b zero same =
    let e : a + 0 ≡ a = omega arith in let f : b + 0 ≡ b = omega arith in rw (e, f) refl
edges_moved s t a b (suc n) same =
    let x = edges_next s (a + n) (a + suc n) (omega arith) in
    let y = edges_next t (b + n) (b + suc n) (omega arith) in
    let z = ap one_if (same n (omega arith)) in
    let rest = edges_moved s t a b n (λ i l. same i (omega arith)) in
    omega (arith, x, y, z, rest)

-- none begins
pub edges_none : (s : Slots) (a n : ℕ) → ((i : ℕ) → i < n → s.edge (a + i) ≡ false) → edges_below s (a + n) ≡ edges_below s a
edges_none s a zero none = let e : a + 0 ≡ a = omega arith in ap (edges_below s) e
edges_none s a (suc n) none =
    let x = edges_next s (a + n) (a + suc n) (omega arith) in
    let z = ap one_if (none n (omega arith)) in
    let rest = edges_none s a n (λ i l. none i (omega arith)) in
    omega (arith, x, z, rest)

-- of one slot's pages only the first may begin it
pub edges_one : (s : Slots) (first end : ℕ) → first < end → ((p : ℕ) → first < p → p < end → s.edge p ≡ false)
    → edges_below s end ≡ edges_below s first + one_if (s.edge first)
edges_one s first end some inside =
    let last : first + 1 + (end - (first + 1)) ≡ end = omega arith in
    let none = edges_none s (first + 1) (end - (first + 1)) (λ i l. inside (first + 1 + i) (omega arith) (omega arith)) in
    ap (edges_below s) (sym last) ∙ none ∙ edges_next s first (first + 1) refl

pub edges_rise : (s : Slots) (a n : ℕ) → edges_below s a ≤ edges_below s (a + n)
edges_rise s a zero = let e : a + 0 ≡ a = omega arith in rw e (omega arith)
edges_rise s a (suc n) =
    let x = edges_next s (a + n) (a + suc n) (omega arith) in
    let rest = edges_rise s a n in
    omega (arith, x, rest)

-- ---- surveys

pub survey_none : (s : Slots) (at : ℕ) (found : Survey) → found.slots ≡ 0 → ((core : ℕ) → members found.cores core ≡ false) → found.gap ≡ false
    → found.framed ≡ false → found.shared ≡ false → IsSurvey s (between at at) found
survey_none s at found none cores gap framed shared = record {
  free = λ p a b. absurd (omega (arith, a, b));
  slots = omega (arith, none);
  cores = λ core. has_none (is_user core) s at (members found.cores core) (cores core);
  gap = has_none is_gap s at found.gap gap;
  framed = has_none is_framed s at found.framed framed;
  shared = has_none is_shared s at found.shared shared;
}

pub survey_both : (s : Slots) (first middle end : ℕ) (x y found : Survey) → first ≤ middle → middle ≤ end → found.slots ≡ x.slots + y.slots
    → ((core : ℕ) → members found.cores core ≡ (members x.cores core || members y.cores core)) → found.gap ≡ (x.gap || y.gap)
    → found.framed ≡ (x.framed || y.framed) → found.shared ≡ (x.shared || y.shared)
    → IsSurvey s (between first middle) x → IsSurvey s (between middle end) y → IsSurvey s (between first end) found
survey_both s first middle end x y found low high slots cores gap framed shared h k = record {
  free = λ p a b. ⊎_elim (λ (l : p < middle). h.free p a l) (λ (r : middle ≤ p). k.free p r b) (cases_lt p middle);
  slots = omega (arith, slots, h.slots, k.slots);
  cores = λ core. has_both (is_user core) s first middle end _ _ _ low high (cores core) (h.cores core) (k.cores core);
  gap = has_both is_gap s first middle end _ _ _ low high gap h.gap k.gap;
  framed = has_both is_framed s first middle end _ _ _ low high framed h.framed k.framed;
  shared = has_both is_shared s first middle end _ _ _ low high shared h.shared k.shared;
}

pub survey_moved : (s t : Slots) (base first end : ℕ) (found : Survey) → first ≤ end
    → ((q : ℕ) → first ≤ q → q < end → (s.info (base + q) ≡ t.info q) × (s.owner (base + q) ≡ t.owner q) × (s.edge (base + q) ≡ t.edge q))
    → IsSurvey t (between first end) found → IsSurvey s (between (base + first) (base + end)) found
survey_moved s t base first end found order same h = record {
  free = λ p a b.
      let low : first ≤ p - base = omega (arith, a) in
      let high : p - base < end = omega (arith, a, b) in
      let at : base + (p - base) ≡ p = omega (arith, a) in
      ap s.owner (sym at) ∙ (same (p - base) low high).1 ∙ h.free (p - base) low high;
  slots =
      let last : base + first + (end - first) ≡ base + end = omega arith in
      let last_too : first + (end - first) ≡ end = omega arith in
      let moved = edges_moved s t (base + first) first (end - first) (λ i l.
      let at : base + first + i ≡ base + (first + i) = omega arith in
      ap s.edge at ∙ (same (first + i) (omega arith) (omega arith)).2) in
      let whole : edges_below s (base + end) + edges_below t first ≡ edges_below s (base + first) + edges_below t end =
      rw (last, last_too) at moved in
      omega (arith, whole, h.slots);
  cores = λ core. has_moved (is_user core) s t base first end _ infos (h.cores core);
  gap = has_moved is_gap s t base first end _ infos h.gap;
  framed = has_moved is_framed s t base first end _ infos h.framed;
  shared = has_moved is_shared s t base first end _ infos h.shared;
}
  where
    infos : (q : ℕ) → first ≤ q → q < end → s.info (base + q) ≡ t.info q
    infos q a b = (same q a b).0

-- pages of one slot, which nobody holds
pub survey_one : (s : Slots) (first end : ℕ) (info : Option PageInfo) (found : Survey) → first < end
    → ((p : ℕ) → first ≤ p → p < end → (s.owner p ≡ None) × ((n : ℕ) × (s.info p ≡ info_from info n)))
    → ((p : ℕ) → first < p → p < end → s.edge p ≡ false) → found.slots ≡ one_if (s.edge first)
    → ((core : ℕ) → members found.cores core ≡ is_recorded info core) → found.gap ≡ is_gap info → found.framed ≡ is_framed info
    → found.shared ≡ is_shared info → IsSurvey s (between first end) found
survey_one s first end info found some all inside slots cores gap framed shared = record {
  free = λ p a b. (all p a b).0;
  slots = edges_one s first end some inside ∙ ap (λ n. edges_below s first + n) (sym slots);
  cores = λ core. has_one (is_user core) s first end _ some (λ p a b.
      let w = (all p a b).1 in ap (is_user core) w.1 ∙ is_recorded-from info w.0 core ∙ sym (cores core));
  gap = has_one is_gap s first end _ some (λ p a b. let w = (all p a b).1 in ap is_gap w.1 ∙ ap not (is_some-from info w.0) ∙ sym gap);
  framed = has_one is_framed s first end _ some (λ p a b.
      let w = (all p a b).1 in ap is_framed w.1 ∙ ap is_some (frame_of-from info w.0) ∙ sym framed);
  shared = has_one is_shared s first end _ some (λ p a b. let w = (all p a b).1 in ap is_shared w.1 ∙ is_shared-from info w.0 ∙ sym shared);
}
  where
    is_shared-from : (o : Option PageInfo) (n : ℕ) → is_shared (info_from o n) ≡ is_shared o
    is_shared-from None n = refl
    is_shared-from (Some i) n = go i.meta.back refl
      where
        go : (b : Back) → i.meta.back ≡ b → is_shared (info_from (Some i) n) ≡ is_shared (Some i)
        go Anon e = rw e refl
        go (Shared file page) e = rw e refl
        go (Private file page) e = rw e refl

-- no more slots than pages
pub survey_few : (s : Slots) (first end : ℕ) (found : Survey) → IsSurvey s (between first end) found → found.slots ≤ end
survey_few s first end found h = let most = edges_below-most s end in omega (arith, most, h.slots)
