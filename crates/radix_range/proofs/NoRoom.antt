-- Where no room begins: what keeps it known, and what it spares a search
use Rattle.slot_lock.proofs.Words.{◌≡◌, ℕ, ◌+◌, ◌<◌, ◌≤◌, ◌⊎◌, inl, inr, ⊎_elim, Bool, true, false, Option, Some, None, is_some, List, All, sym, ap}
use Rattle.slot_lock.proofs.Words.{◌∙◌, subst, refl}
use Rattle.slot_lock.proofs.Words.{arith, cases_lt, PageRange, PageInfo, Prot, Meta, NoneIn, by_test, has, has_in, in_has, info_with_prot}
use Rattle.std.proofs.Common.{IfSome, IfNone, ◌==◌}
use Rattle.std.proofs.lemmas.List.Elements.{All-weaker}
use Rattle.slot_lock.specs.declared.plan.Change.{Change}
use Rattle.slot_lock.specs.declared.plan.Change.TheVariants.{Put, Clear, Protect}
use Rattle.slot_lock.specs.Slots.{Slots, AllMapped, IsFreeRun, between, cleared, mapped, protected, with_info}
use Rattle.slot_lock.specs.Changes.{changed}
use Rattle.slot_lock.proofs.Facts.{no_some, two}
use Rattle.radix_range.specs.declared.tight.Tight.{Tight}
use Rattle.radix_range.specs.Tight.{IsTight, IsTightBeside, IsTightBut}

-- ---- what keeps it

-- no page is unmapped
pub kept : (s t : Slots) → ((p : ℕ) → t.info p ≡ None → s.info p ≡ None) → (x : Tight) → IsTight s x → IsTight t x
kept s t only x a = record { some = a.some; none = λ p l h free. a.none p l h (λ q u v. only q (free q u v)) }

pub all_kept : (s t : Slots) → ((p : ℕ) → t.info p ≡ None → s.info p ≡ None) → (xs : List Tight) → All (IsTight s) xs → All (IsTight t) xs
all_kept s t only xs h = All-weaker (IsTight s) (IsTight t) (kept s t only) xs h

pub by_leaf : (s : Slots) (page : ℕ) (x : PageInfo) (p : ℕ) → (with_info s page (Some x)).info p ≡ None → s.info p ≡ None
by_leaf s page x p = by_test (λ (o : Option PageInfo). o ≡ None → s.info p ≡ None) (p == page) (Some x) (s.info p)
    (λ _ h. absurd (no_some (Some x) refl h)) (λ _ h. h)

pub by_put : (s : Slots) (range : PageRange) (meta : Meta) (p : ℕ) → (mapped s range meta).info p ≡ None → s.info p ≡ None
by_put s range meta p = by_test (λ (o : Option PageInfo). o ≡ None → s.info p ≡ None) (has range p) _ (s.info p)
    (λ _ h. absurd (no_some _ refl h)) (λ _ h. h)

no_prot : (prot : Prot) (o : Option PageInfo) → info_with_prot prot o ≡ None → o ≡ None
no_prot prot None h = h
no_prot prot (Some x) h = absurd (no_some _ refl h)

pub by_protect : (s : Slots) (range : PageRange) (prot : Prot) (p : ℕ) → (protected s range prot).info p ≡ None → s.info p ≡ None
by_protect s range prot p = by_test (λ (o : Option PageInfo). o ≡ None → s.info p ≡ None) (has range p) (info_with_prot prot (s.info p)) (s.info p)
    (λ _ h. no_prot prot (s.info p) h) (λ _ h. h)

-- pages of a range are
pub beside : (s : Slots) (range : PageRange) (x : Tight) → IsTight s x → IsTightBeside (cleared s range) range x
beside s range x a = record {
  some = a.some;
  none = λ p l h side free. a.none p l h (λ q u v. by_test (λ (o : Option PageInfo). o ≡ None → s.info q ≡ None) (has range q) None (s.info q)
      (λ e _. absurd (outside p q u v side (has_in range q e))) (λ _ e. e) (free q u v));
}
  where
    outside : (p q : ℕ) → p ≤ q → q < p + x.n → (p + x.n ≤ range.first) ⊎ (range.end ≤ p) → (range.first ≤ q) × (q < range.end) → ⊥
    outside p q u v (inl b) (low, high) = omega arith
    outside p q u v (inr b) (low, high) = omega arith

pub all_beside : (s : Slots) (range : PageRange) (xs : List Tight) → All (IsTight s) xs → All (IsTightBeside (cleared s range) range) xs
all_beside s range xs h = All-weaker (IsTight s) (IsTightBeside (cleared s range) range) (beside s range) xs h

-- ---- what is known still

pub nothing_opened : (s : Slots) (range none : PageRange) (x : Tight) → IsTightBeside s range x → none.end ≤ none.first
    → ((r : ℕ) → x.first ≤ r → r < x.end → range.first < r + x.n → r < range.end → ¬ NoneIn s.info r (r + x.n)) → IsTightBut s none x
nothing_opened s range none x a e near = record {
  some = a.some;
  none = λ p l h _ free. ⊎_elim
      (λ (u : p < range.end). ⊎_elim
      (λ (v : range.first < p + x.n). near p l h v u free)
      (λ (v : p + x.n ≤ range.first). a.none p l h (inl v) free)
      (cases_lt range.first (p + x.n)))
      (λ (u : range.end ≤ p). a.none p l h (inr u) free)
      (cases_lt p range.end);
}

-- from the first page on, as far as the range
pub opened_from : (s : Slots) (range : PageRange) (first : ℕ) (x : Tight) → IsTightBeside s range x
    → ((r : ℕ) → r < first → range.first < r + x.n → ¬ NoneIn s.info r (r + x.n)) → IsTightBut s (between first range.end) x
opened_from s range first x a before = record {
  some = a.some;
  none = λ p l h out free. ⊎_elim
      (λ (u : p < range.end). ⊎_elim
      (λ (v : range.first < p + x.n). ⊎_elim
      (λ (w : p < first). before p w v free)
      (λ (w : first ≤ p). two _ out (in_has (between first range.end) p w u))
      (cases_lt p first))
      (λ (v : p + x.n ≤ range.first). a.none p l h (inl v) free)
      (cases_lt range.first (p + x.n)))
      (λ (u : range.end ≤ p). a.none p l h (inr u) free)
      (cases_lt p range.end);
}

no_page : (range : PageRange) (p : ℕ) → (p < range.first) ⊎ (range.end ≤ p) → has range p ≡ false
no_page range p side = ⊎_elim
    (λ (e : has range p ≡ true). absurd (out (has_in range p e) side))
    (λ (e : has range p ≡ false). e)
    (cases (has range p))
  where
    out : (range.first ≤ p) × (p < range.end) → (p < range.first) ⊎ (range.end ≤ p) → ⊥
    out (low, high) (inl b) = omega arith
    out (low, high) (inr b) = omega arith

    cases : (b : Bool) → (b ≡ true) ⊎ (b ≡ false)
    cases true = inl refl
    cases false = inr refl

pub still_before : (s : Slots) (range : PageRange) (x : Tight) (end : ℕ) → IsTightBut s range x → end ≤ x.end → end ≤ range.first
    → IsTight s (record x { end = end })
still_before s range x end a low high = record {
  some = a.some;
  none = λ p l h free. a.none p l (omega arith) (no_page range p (inl (omega arith))) free;
}

pub still_behind : (s : Slots) (range : PageRange) (x : Tight) (first : ℕ) → IsTightBut s range x → x.first ≤ first → range.end ≤ first
    → IsTight s (record x { first = first })
still_behind s range x first a low high = record {
  some = a.some;
  none = λ p l h free. a.none p (omega arith) h (no_page range p (inr (omega arith))) free;
}

-- ---- what was looked through in vain

-- up to the first room, or to the end of the pages, which are mapped
pub up_to_room : (s : Slots) (first end n start : ℕ) → 1 ≤ n → IsFreeRun s (between first end) n start
    → ((r : ℕ) → r < start → ¬ IsFreeRun s (between first end) n r) → IsTight s (record { n = n; first = first; end = start })
up_to_room s first end n start some f least = record {
  some = some;
  none = λ p l h free. least p h (record { inside = record { low = l; high = omega (arith, h, f.inside.high) }; free = free });
}

pub up_to_end : (s : Slots) (first n : ℕ) (range : PageRange) → range.first < range.end → n + range.first ≡ range.end → AllMapped s range
    → ((r : ℕ) → ¬ IsFreeRun s (between first range.end) n r) → IsTight s (record { n = n; first = first; end = range.end })
up_to_end s first n range some count all none = record {
  some = omega arith;
  none = λ p l h free. ⊎_elim
      (λ (u : p < range.first + 1). none p (record { inside = record { low = l; high = omega (arith, u, count) }; free = free }))
      (λ (u : range.first + 1 ≤ p). no_some (s.info p) (all p (in_has range p (omega arith) h)) (free p (omega arith) (omega arith)))
      (cases_lt p (range.first + 1));
}

-- ---- what a search is spared: no room of the range begins in front of the end of one, if it begins in the range ...

pub within : (s : Slots) (range : PageRange) (x : Tight) (n : ℕ) → IsTight s x → x.n ≤ n → x.first ≤ range.first
    → (r : ℕ) → IsFreeRun s range n r → x.end ≤ r
within s range x n a few low r f = ⊎_elim
    (λ (u : r < x.end). absurd (a.none r (omega (arith, low, f.inside.low)) u (λ q v w. f.free q v (omega (arith, w, few)))))
    (λ (u : x.end ≤ r). u)
    (cases_lt r x.end)

-- ... or if no room is found in front of it, which can't reach far into it
pub beyond : (s : Slots) (range : PageRange) (x : Tight) (n end : ℕ) → IsTight s x → x.n ≤ n → x.first < x.end
    → (range.end ≤ end) ⊎ (x.first + x.n ≤ end) → ((r : ℕ) → ¬ IsFreeRun s (between range.first end) n r)
    → (r : ℕ) → IsFreeRun s range n r → x.end ≤ r
beyond s range x n end a few some far none r f = ⊎_elim
    (λ (u : r < x.first). ⊎_elim
    (λ (v : end < r + n). absurd (a.none x.first (omega arith) some (λ q k l. f.free q (omega (arith, k, u)) (reaches q l v far))))
    (λ (v : r + n ≤ end). absurd (none r (record { inside = record { low = f.inside.low; high = v }; free = f.free })))
    (cases_lt end (r + n)))
    (λ (u : x.first ≤ r). ⊎_elim
    (λ (v : r < x.end). absurd (a.none r u v (λ q k l. f.free q k (omega (arith, l, few)))))
    (λ (v : x.end ≤ r). v)
    (cases_lt r x.end))
    (cases_lt r x.first)
  where
    reaches : (q : ℕ) → q < x.first + x.n → end < r + n → (range.end ≤ end) ⊎ (x.first + x.n ≤ end) → q < r + n
    reaches q l v (inl e) = omega (arith, f.inside.high)
    reaches q l v (inr e) = omega arith

pub beyond_none : (s : Slots) (range : PageRange) (x : Tight) (n end : ℕ) (o : Option ℕ) → IsTight s x → x.n ≤ n → x.first < x.end
    → (range.end ≤ end) ⊎ (x.first + x.n ≤ end) → IfNone o ((r : ℕ) → ¬ IsFreeRun s (between range.first end) n r)
    → IfNone o ((r : ℕ) → IsFreeRun s range n r → x.end ≤ r)
beyond_none s range x n end None a few some far none = beyond s range x n end a few some far none
beyond_none s range x n end (Some y) a few some far none = none

-- ---- room among some pages of the range, if none of the range begins before them, is the range's

pub found_among : (s : Slots) (range : PageRange) (n from end : ℕ) (o : Option ℕ) → range.first ≤ from → end ≤ range.end
    → IfSome o (IsFreeRun s (between from end) n) → IfSome o (IsFreeRun s range n)
found_among s range n from end None low high f = f
found_among s range n from end (Some x) low high f = record {
  inside = record { low = omega (arith, low, f.inside.low); high = omega (arith, high, f.inside.high) };
  free = f.free;
}

pub least_among : (s : Slots) (range : PageRange) (n from end : ℕ) (o : Option ℕ) → ((r : ℕ) → IsFreeRun s range n r → from ≤ r)
    → IfSome o (IsFreeRun s (between from end) n)
    → IfSome o (λ x. (r : ℕ) → r < x → ¬ IsFreeRun s (between from end) n r) → IfSome o (λ x. (r : ℕ) → r < x → ¬ IsFreeRun s range n r)
least_among s range n from end None before f least = least
least_among s range n from end (Some x) before f least =
    λ r l g. least r l (record { inside = record { low = before r g; high = omega (arith, l, f.inside.high) }; free = g.free })

pub none_among : (s : Slots) (range : PageRange) (n from : ℕ) (o : Option ℕ) → ((r : ℕ) → IsFreeRun s range n r → from ≤ r)
    → IfNone o ((r : ℕ) → ¬ IsFreeRun s (between from range.end) n r) → IfNone o ((r : ℕ) → ¬ IsFreeRun s range n r)
none_among s range n from None before none =
    λ r g. none r (record { inside = record { low = before r g; high = g.inside.high }; free = g.free })
none_among s range n from (Some x) before none = none

pub found_in : (s : Slots) (range : PageRange) (n from start : ℕ) → range.first ≤ from → IsFreeRun s (between from range.end) n start
    → IsFreeRun s range n start
found_in s range n from start low f = record { inside = record { low = omega (arith, low, f.inside.low); high = f.inside.high }; free = f.free }

pub least_in : (s : Slots) (range : PageRange) (n from start : ℕ) → ((r : ℕ) → IsFreeRun s range n r → from ≤ r)
    → ((r : ℕ) → r < start → ¬ IsFreeRun s (between from range.end) n r) → (r : ℕ) → r < start → ¬ IsFreeRun s range n r
least_in s range n from start before least r l g =
    least r l (record { inside = record { low = before r g; high = g.inside.high }; free = g.free })

pub passed : (s : Slots) (range : PageRange) (n from next : ℕ) → ((r : ℕ) → IsFreeRun s range n r → from ≤ r)
    → ((r : ℕ) → IsFreeRun s (between from range.end) n r → next ≤ r) → (r : ℕ) → IsFreeRun s range n r → next ≤ r
passed s range n from next before among r f =
    among r (record { inside = record { low = before r f; high = f.inside.high }; free = f.free })

-- ---- what is known of a change

pub after_put : (s t : Slots) (change : Change) (range : PageRange) (meta : Meta) (xs : List Tight) → change ≡ Put range meta → t ≡ changed s change
    → All (IsTight s) xs → All (IsTight t) xs
after_put s t change range meta xs is now a =
    subst (λ (u : Slots). All (IsTight u) xs) (sym (now ∙ ap (changed s) is)) (all_kept s (mapped s range meta) (by_put s range meta) xs a)

pub put_mapped : (s t : Slots) (change : Change) (range : PageRange) (meta : Meta) → change ≡ Put range meta → t ≡ changed s change
    → AllMapped t range
put_mapped s t change range meta is now = subst (λ (u : Slots). AllMapped u range) (sym (now ∙ ap (changed s) is))
    (λ p h. by_test (λ (o : Option PageInfo). is_some o ≡ true) (has range p) _ (s.info p) (λ _. refl) (λ e. absurd (two _ e h)))

pub after_clear : (s t : Slots) (change : Change) (range : PageRange) (xs : List Tight) → change ≡ Clear range → t ≡ changed s change
    → All (IsTight s) xs → All (IsTightBeside t range) xs
after_clear s t change range xs is now a =
    subst (λ (u : Slots). All (IsTightBeside u range) xs) (sym (now ∙ ap (changed s) is)) (all_beside s range xs a)

pub after_protect : (s t : Slots) (change : Change) (range : PageRange) (prot : Prot) (xs : List Tight) → change ≡ Protect range prot
    → t ≡ changed s change → All (IsTight s) xs → All (IsTight t) xs
after_protect s t change range prot xs is now a =
    subst (λ (u : Slots). All (IsTight u) xs) (sym (now ∙ ap (changed s) is)) (all_kept s (protected s range prot) (by_protect s range prot) xs a)
