-- An order that begins anew with the places that are held
use Rattle.std.proofs.Common.{◌≡◌, ◌≢◌, ℕ, ◌+◌, ◌<◌, suc, ◌≤◌, List, [], ◌∷◌, ◌++◌, length, take}
use Rattle.std.proofs.Common.{◌⊎◌, inl, inr, refl, sym, ◌∙◌, ap, subst, arith, slice_index, slice_set}
use Rattle.std.proofs.lemmas.List.{length-append, take_all, take_more, append-nil, get_or-set_other, get_or_append_left, get_or_push}
use Rattle.std.proofs.lemmas.List.Elements.{filter_map-append}
use Rattle.std.proofs.lemmas.Grind.{get_or-set_at}
use Rattle.std.proofs.lemmas.Bool.{cases_lt}
use Rattle.std.proofs.Math.ListN.{length-set}
use Rattle.std.specs.List.{cons_option}
use Rattle.vm_base.specs.Cores.{members}
use Rattle.mmu.specs.declared.tlb.TlbEntry.{TlbEntry}
use Rattle.mmu.specs.Fills.{entries_of, entry_at, filled_at, IsHeld, NoneBefore, AreOrdered, IsMovedUp}
use Rattle.mmu.proofs.Orders.{none_before, pushed}
use Rattle.mmu.proofs.Filings.{filled_here, filled_none}

-- before the first place
pub moved_none : (fs at : List ℕ) (first : ℕ) → length at ≡ 64 → first ≤ length fs → NoneBefore first fs → IsMovedUp fs at first [] at
moved_none fs at first even le none = record {
  even = even;
  few = omega arith;
  there = λ k l. absurd (omega arith);
  held = λ i l lt. let big : 64 ≤ slice_index fs i = none i l (omega arith) in absurd (omega arith);
  same = λ places. sym (none_before (filled_at places) fs first (filled_none places) none);
}

-- where one was dropped
pub moved_past : (fs at : List ℕ) (i : ℕ) (moved new : List ℕ) → IsMovedUp fs at i moved new → i < length fs → 64 ≤ slice_index fs i
    → IsMovedUp fs at (i + 1) moved new
moved_past fs at i moved new w l past_all = record {
  even = w.even;
  few = omega (arith, w.few);
  there = λ k lt. let v = w.there k lt in (v.0, omega (arith, v.1), v.2, v.3);
  held = λ j lt small. by j lt small (cases_lt j i);
  same = λ places. w.same places ∙ sym (past places);
}
  where
    by : (j : ℕ) → j < i + 1 → slice_index fs j < 64 → (j < i) ⊎ (i ≤ j)
        → (slice_index new (slice_index fs j) < length moved) × (slice_index moved (slice_index new (slice_index fs j)) ≡ slice_index fs j)
    by j lt small (inl before) = w.held j before small
    by j lt small (inr here) =
        let same : j ≡ i = omega arith in
        let big : 64 ≤ slice_index fs j = subst (λ n. 64 ≤ slice_index fs n) (sym same) past_all in
        absurd (omega arith)

    past : (places : List TlbEntry) → entries_of places (take (i + 1) fs) ≡ entries_of places (take i fs)
    past places =
        ap (entries_of places) (take_more fs i 0 l) ∙ filter_map-append (filled_at places) (take i fs) (slice_index fs i ∷ [])
        ∙ ap (λ o. entries_of places (take i fs) ++ cons_option o []) (filled_none places (slice_index fs i) past_all)
        ∙ append-nil (entries_of places (take i fs))

-- a place more
pub moved_more : (fs at : List ℕ) (i b : ℕ) (moved new : List ℕ) → IsMovedUp fs at i moved new → i < length fs → slice_index fs i ≡ b → b < 64
    → slice_index at b ≡ i → IsMovedUp fs at (i + 1) (moved ++ b ∷ []) (slice_set new b (length moved))
moved_more fs at i b moved new w l is small stood = record {
  even = length-set new b (length moved) ∙ w.even;
  few = omega (arith, w.few, length-append moved (b ∷ []));
  there = λ k lt. there k (omega (arith, length-append moved (b ∷ []))) (cases_lt k (length moved));
  held = λ j lt few. held j lt few (cases_lt j i);
  same = λ places. pushed (filled_at places) moved b (entry_at places b) (filled_here places b small)
      ∙ ap (λ es. es ++ entry_at places b ∷ []) (w.same places) ∙ sym (more places);
}
  where
    here : slice_index (slice_set new b (length moved)) b ≡ length moved
    here = get_or-set_at new b b (length moved) 0 refl (omega (arith, w.even))

    elsewhere : (c : ℕ) → c ≢ b → slice_index (slice_set new b (length moved)) c ≡ slice_index new c
    elsewhere c ne = get_or-set_other new b c (length moved) 0 ne

    there : (k : ℕ) → k < length moved + 1 → (k < length moved) ⊎ (length moved ≤ k)
        → (slice_index (moved ++ b ∷ []) k < 64) × (slice_index at (slice_index (moved ++ b ∷ []) k) < i + 1)
        × (slice_index fs (slice_index at (slice_index (moved ++ b ∷ []) k)) ≡ slice_index (moved ++ b ∷ []) k)
        × (slice_index (slice_set new b (length moved)) (slice_index (moved ++ b ∷ []) k) ≡ k)
    there k lt (inl before) =
        let v = w.there k before in
        let ne : slice_index moved k ≢ b = λ f. apart (slice_index moved k) v.1 f in
        subst (λ m. (m < 64) × (slice_index at m < i + 1) × (slice_index fs (slice_index at m) ≡ m) × (slice_index (slice_set new b (length moved)) m ≡ k))
        (sym (get_or_append_left moved (b ∷ []) 0 k before)) (v.0, omega (arith, v.1), v.2, elsewhere (slice_index moved k) ne ∙ v.3)
      where
        apart : (m : ℕ) → slice_index at m < i → m ≢ b
        apart m lower same =
            let e : slice_index at m ≡ i = ap (slice_index at) same ∙ stood in
            absurd (omega arith)
    there k lt (inr past) =
        let e : length moved ≡ k = omega arith in
        subst (λ m. (m < 64) × (slice_index at m < i + 1) × (slice_index fs (slice_index at m) ≡ m) × (slice_index (slice_set new b (length moved)) m ≡ k))
        (sym (get_or_push moved b 0 k e)) (small, omega (arith, stood), ap (slice_index fs) stood ∙ is, here ∙ e)

    held : (j : ℕ) → j < i + 1 → slice_index fs j < 64 → (j < i) ⊎ (i ≤ j)
        → (slice_index (slice_set new b (length moved)) (slice_index fs j) < length (moved ++ b ∷ []))
        × (slice_index (moved ++ b ∷ []) (slice_index (slice_set new b (length moved)) (slice_index fs j)) ≡ slice_index fs j)
    held j lt few (inl before) =
        let v = w.held j before few in
        let low : slice_index at (slice_index fs j) < i =
        subst (λ m. slice_index at m < i) v.1 (w.there (slice_index new (slice_index fs j)) v.0).1 in
        let ne : slice_index fs j ≢ b = λ f. apart (slice_index fs j) low f in
        let same : slice_index (slice_set new b (length moved)) (slice_index fs j) ≡ slice_index new (slice_index fs j) = elsewhere (slice_index fs j) ne in (
          omega (arith, length-append moved (b ∷ []), v.0),
          ap (slice_index (moved ++ b ∷ [])) same ∙ get_or_append_left moved (b ∷ []) 0 (slice_index new (slice_index fs j)) v.0 ∙ v.1,
        )
      where
        apart : (m : ℕ) → slice_index at m < i → m ≢ b
        apart m lower same =
            let e : slice_index at m ≡ i = ap (slice_index at) same ∙ stood in
            absurd (omega arith)
    held j lt few (inr past) =
        let same : j ≡ i = omega arith in
        let e : slice_index fs j ≡ b = ap (slice_index fs) same ∙ is in
        let at_end : slice_index (slice_set new b (length moved)) (slice_index fs j) ≡ length moved =
        ap (slice_index (slice_set new b (length moved))) e ∙ here in (
          omega (arith, length-append moved (b ∷ [])),
          ap (slice_index (moved ++ b ∷ [])) at_end ∙ get_or_push moved b 0 (length moved) refl ∙ sym e,
        )

    more : (places : List TlbEntry) → entries_of places (take (i + 1) fs) ≡ entries_of places (take i fs) ++ entry_at places b ∷ []
    more places =
        ap (entries_of places) (take_more fs i 0 l ∙ ap (λ n. take i fs ++ n ∷ []) is)
        ∙ pushed (filled_at places) (take i fs) b (entry_at places b) (filled_here places b small)

-- ---- what stands in the new order

pub moved_entries : (fs at moved new : List ℕ) (places : List TlbEntry) → IsMovedUp fs at (length fs) moved new
    → entries_of places moved ≡ entries_of places fs
moved_entries fs at moved new places w = w.same places ∙ ap (entries_of places) (take_all (length fs) fs (omega arith))

pub ordered_moved : (fs at moved new : List ℕ) (free : ℕ) → AreOrdered fs at free → IsMovedUp fs at (length fs) moved new → AreOrdered moved new free
ordered_moved fs at moved new free o w = record {
  even = w.even;
  held = held;
  there = λ k l small.
      let v = w.there k l in
      let place : slice_index fs (slice_index at (slice_index moved k)) < 64 = subst (λ n. n < 64) (sym v.2) v.0 in
      (ap (members free) (sym v.2) ∙ (o.there (slice_index at (slice_index moved k)) v.1 place).0, v.3);
}
  where
    held : (b : ℕ) → IsHeld free b → (slice_index new b < length moved) × (slice_index moved (slice_index new b) ≡ b)
    held b h =
        let v = o.held b h in
        let place : slice_index fs (slice_index at b) < 64 = subst (λ n. n < 64) (sym v.1) h.0 in
        let u = w.held (slice_index at b) v.0 place in (
          subst (λ n. slice_index new n < length moved) v.1 u.0,
          subst (λ n. slice_index moved (slice_index new n) ≡ n) v.1 u.1,
        )

-- each is a translation
all_filled : (places : List TlbEntry) (fs : List ℕ) → ((k : ℕ) → k < length fs → slice_index fs k < 64) → length (entries_of places fs) ≡ length fs
all_filled places [] all = refl
all_filled places (x ∷ xs) all =
    ap (λ o. length (cons_option o (entries_of places xs))) (filled_here places x (all 0 (omega arith)))
    ∙ ap (λ n. suc n) (all_filled places xs (λ k l. all (suc k) (omega arith)))

pub moved_short : (fs at moved new : List ℕ) (places : List TlbEntry) → IsMovedUp fs at (length fs) moved new
    → length moved ≡ length (entries_of places fs)
moved_short fs at moved new places w =
    sym (all_filled places moved (λ k l. (w.there k l).0)) ∙ ap length (moved_entries fs at moved new places w)
