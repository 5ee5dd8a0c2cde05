-- The pages of frames, and what a new page makes of them
use Rattle.std.proofs.Common.{◌≡◌, ◌≢◌, ℕ, zero, suc, ◌+◌, ◌<◌, ◌≤◌, ◌⊎◌, inl, inr, cond, List, [], length, get_or, set, replicate, Option}
use Rattle.std.proofs.Common.{Some, None, is_some, arith, refl, sym, subst, ◌∙◌, ap}
use Rattle.std.specs.List.{count_by}
use Rattle.std.proofs.Math.Path.{fun_ext}
use Rattle.std.proofs.lemmas.Bool.{cases_lt}
use Rattle.std.proofs.lemmas.List.{get_or-set_same, get_or-set_other, length-set, length-replicate}
use Rattle.std.proofs.lemmas.List.Folds.{sum_by-replicate}
use Rattle.std.proofs.lemmas.List.Sums.{sum_by-set, count_by-le-length}
use Rattle.vm_base.specs.Functions.{put}
use Rattle.vm_base.specs.Plain.{Bytes, zeros}
use Rattle.vm_base.proofs.Functions.{put_all, put_same, put_other}
use Rattle.frames.specs.Pages.{Stored, IsStored, stored_bytes, bytes_at, all_pages}

same_or_not : (j k : ℕ) → (j ≡ k) ⊎ (j ≢ k)
same_or_not j k = by (cases_lt j k) (cases_lt k j)
  where
    by : (j < k) ⊎ (k ≤ j) → (k < j) ⊎ (j ≤ k) → (j ≡ k) ⊎ (j ≢ k)
    by (inl lt) q = inr (λ e. absurd (omega (arith, lt, e)))
    by (inr le) (inl lt) = inr (λ e. absurd (omega (arith, lt, e)))
    by (inr le) (inr ge) = inl (omega (arith, le, ge))

some-same : {a b : ℕ} → ◌≡◌ {A = Option ℕ} (Some a) (Some b) → a ≡ b
some-same e = cc

none-some : {a : ℕ} → ◌≡◌ {A = Option ℕ} None (Some a) → ⊥
none-some e = cc

-- ---- one page changes

pub stored-at : (s : Stored) (f k : ℕ) → get_or s.places f None ≡ Some k → stored_bytes s f ≡ all_pages s.pages k
unfolding stored_bytes
stored-at s f k e = ap (bytes_at s.pages) e

pub stored-none : (s : Stored) (f : ℕ) → get_or s.places f None ≡ None → stored_bytes s f ≡ zeros
unfolding stored_bytes
stored-none s f e = ap (bytes_at s.pages) e

pub stored-put : (s t : Stored) (f k : ℕ) (page : Bytes) → IsStored s → get_or s.places f None ≡ Some k → t.places ≡ s.places
    → all_pages t.pages ≡ put (all_pages s.pages) k page
    → stored_bytes t ≡ put (stored_bytes s) f page
unfolding stored_bytes
stored-put s t f k page ok at places pages = fun_ext (put_all (λ g v. stored_bytes t g ≡ v) (stored_bytes s) f page here there)
  where
    now : (g j : ℕ) → get_or s.places g None ≡ Some j → stored_bytes t g ≡ put (all_pages s.pages) k page j
    now g j e = ap (λ ps. bytes_at t.pages (get_or ps g None)) places ∙ (ap (bytes_at t.pages) e ∙ ap (λ b. b j) pages)

    here : stored_bytes t f ≡ page
    here = now f k at ∙ put_same (all_pages s.pages) k page

    there : (g : ℕ) → g ≢ f → stored_bytes t g ≡ stored_bytes s g
    there g ne = go (get_or s.places g None) refl
      where
        go : (p : Option ℕ) → get_or s.places g None ≡ p → stored_bytes t g ≡ stored_bytes s g
        go None e = ap (λ ps. bytes_at t.pages (get_or ps g None)) places ∙ (ap (bytes_at t.pages) e ∙ sym (ap (bytes_at s.pages) e))
        go (Some j) e = now g j e ∙ (put_other (all_pages s.pages) k page j (λ same. ne (ok.apart g f k (e ∙ ap Some same) at)) ∙ sym (ap (bytes_at s.pages) e))

-- ---- a frame that is read or written, of a store that is seen as a value

-- its bytes are those of its page
pub stored-held : {s v : Stored} (f k : ℕ) → s ≡ v → get_or s.places f None ≡ Some k → stored_bytes v f ≡ all_pages s.pages k
stored-held {s} {v} f k view at = ap (λ v. stored_bytes v f) (sym view) ∙ stored-at s f k at

pub stored-empty : {s v : Stored} (f : ℕ) → s ≡ v → get_or s.places f None ≡ None → stored_bytes v f ≡ zeros
stored-empty {s} {v} f view none = ap (λ v. stored_bytes v f) (sym view) ∙ stored-none s f none

-- a write of its page is one of its bytes
pub stored-written : {s v : Stored} (t : Stored) (f k : ℕ) (page : Bytes) → IsStored s → s ≡ v → get_or s.places f None ≡ Some k
    → t.places ≡ s.places → all_pages t.pages ≡ put (all_pages s.pages) k page → stored_bytes t ≡ put (stored_bytes v) f page
stored-written {s} t f k page ok view at places pages =
    stored-put s t f k page ok at places pages ∙ ap (λ v. put (stored_bytes v) f page) view

-- a frame without a page has zeros already
pub stored-zero : (s : Stored) (f : ℕ) → get_or s.places f None ≡ None → stored_bytes s ≡ put (stored_bytes s) f zeros
stored-zero s f none = fun_ext (put_all (λ g v. stored_bytes s g ≡ v) (stored_bytes s) f zeros (stored-none s f none) (λ g ne. refl))

pub stored-still : {s v : Stored} (f : ℕ) → s ≡ v → get_or s.places f None ≡ None → stored_bytes s ≡ put (stored_bytes v) f zeros
stored-still {s} f view none = stored-zero s f none ∙ ap (λ v. put (stored_bytes v) f zeros) view

zero-put : (k : ℕ) → zeros ≡ put zeros k 0
zero-put k = fun_ext (put_all (λ i b. zeros i ≡ b) zeros k 0 refl (λ i ne. refl))

-- and one of them that is set to 0 changes nothing
pub stored-zero-byte : {s v : Stored} (f k b : ℕ) → s ≡ v → get_or s.places f None ≡ None → b ≡ 0
    → stored_bytes v ≡ put (stored_bytes v) f (put (stored_bytes v f) k b)
stored-zero-byte {s} {v} f k b view none is = stored-zero v f here ∙ ap (put (stored_bytes v) f) bytes
  where
    here : get_or v.places f None ≡ None
    here = ap (λ (x : Stored). get_or x.places f None) (sym view) ∙ none

    bytes : zeros ≡ put (stored_bytes v f) k b
    bytes = zero-put k ∙ (ap (λ x. put x k 0) (sym (stored-none v f here)) ∙ ap (put (stored_bytes v f) k) (sym is))

-- the same frames have pages
pub stored-kept : (s t : Stored) → IsStored s → t.places ≡ s.places → length t.pages ≡ length s.pages → t.capacity ≡ s.capacity → IsStored t
stored-kept s t ok places len capacity = record {
  used = len ∙ ok.used ∙ ap (count_by is_some) (sym places);
  below = λ f k e. subst (λ n. k < n) (sym len) (ok.below f k (ap (λ ps. get_or ps f None) (sym places) ∙ e));
  apart = λ f g k e h. ok.apart f g k (ap (λ ps. get_or ps f None) (sym places) ∙ e) (ap (λ ps. get_or ps g None) (sym places) ∙ h);
  room = let r = ok.room in let l = ap length places in omega (arith, r, l, capacity);
  few = let r = ok.few in let l = ap length places in omega (arith, r, l);
}

-- ---- a new page

counted-more : (places : List (Option ℕ)) (f k : ℕ) → f < length places → get_or places f None ≡ None
    → count_by is_some (set places f (Some k)) ≡ count_by is_some places + 1
counted-more places f k lt none =
    let one : Option ℕ → ℕ = λ x. cond (is_some x) 1 0 in
    let sums = sum_by-set one places f (Some k) None lt in
    let zero : one (get_or places f None) ≡ 0 = ap one none in
    omega (arith, sums, zero)

counted-less : (places : List (Option ℕ)) (f : ℕ) → f < length places → get_or places f None ≡ None → count_by is_some places < length places
counted-less places f lt none =
    let more = counted-more places f 0 lt none in
    let few = count_by-le-length is_some (set places f (Some 0)) in
    let same = length-set places f (Some 0) in
    omega (arith, more, few, same)

-- there is memory for it
pub stored-room : (s : Stored) (f : ℕ) → IsStored s → f < length s.places → get_or s.places f None ≡ None → (length s.pages < s.capacity)
    × (length s.pages < 65536)
stored-room s f ok lt none =
    let l = counted-less s.places f lt none in
    let u = ok.used in
    let r = ok.room in
    let w = ok.few in
    (omega (arith, l, u, r), omega (arith, l, u, w))

pub stored-add : (s t : Stored) (f : ℕ) (page : Bytes) → IsStored s → f < length s.places → get_or s.places f None ≡ None
    → t.places ≡ set s.places f (Some (length s.pages))
    → all_pages t.pages ≡ put (all_pages s.pages) (length s.pages) page → stored_bytes t ≡ put (stored_bytes s) f page
unfolding stored_bytes
stored-add s t f page ok lt none places pages = fun_ext (put_all (λ g v. stored_bytes t g ≡ v) (stored_bytes s) f page here there)
  where
    at : (g : ℕ) (p : Option ℕ) → get_or (set s.places f (Some (length s.pages))) g None ≡ p → stored_bytes t g ≡ bytes_at t.pages p
    at g p e = ap (λ ps. bytes_at t.pages (get_or ps g None)) places ∙ ap (bytes_at t.pages) e

    here : stored_bytes t f ≡ page
    here = at f (Some (length s.pages)) (get_or-set_same s.places f (Some (length s.pages)) None lt)
        ∙ (ap (λ b. b (length s.pages)) pages ∙ put_same (all_pages s.pages) (length s.pages) page)

    there : (g : ℕ) → g ≢ f → stored_bytes t g ≡ stored_bytes s g
    there g ne = go (get_or s.places g None) refl
      where
        kept : get_or (set s.places f (Some (length s.pages))) g None ≡ get_or s.places g None
        kept = get_or-set_other s.places f g (Some (length s.pages)) None ne

        go : (p : Option ℕ) → get_or s.places g None ≡ p → stored_bytes t g ≡ stored_bytes s g
        go None e = at g None (kept ∙ e) ∙ sym (ap (bytes_at s.pages) e)
        go (Some j) e =
            let less : j < length s.pages = ok.below g j e in
            at g (Some j) (kept ∙ e)
            ∙ (ap (λ b. b j) pages
            ∙ (put_other (all_pages s.pages) (length s.pages) page j (λ same. absurd (omega (arith, less, same)))
            ∙ sym (ap (bytes_at s.pages) e)))

pub stored-added : (s t : Stored) (f : ℕ) → IsStored s → f < length s.places → get_or s.places f None ≡ None → t.places ≡ set s.places f (Some (length s.pages))
    → length t.pages ≡ length s.pages + 1 → t.capacity ≡ s.capacity → IsStored t
stored-added s t f ok lt none places len capacity = record {
  used = let u = ok.used in let more = ap (count_by is_some) places ∙ counted-more s.places f (length s.pages) lt none in omega (arith, len, u, more);
  below = λ g k e. below g k e (same_or_not g f);
  apart = λ g h k e d. apart g h k e d (same_or_not g f) (same_or_not h f);
  room = let r = ok.room in let l = ap length places ∙ length-set s.places f (Some (length s.pages)) in omega (arith, r, l, capacity);
  few = let r = ok.few in let l = ap length places ∙ length-set s.places f (Some (length s.pages)) in omega (arith, r, l);
}
  where
    same : (g : ℕ) → g ≡ f → get_or t.places g None ≡ Some (length s.pages)
    same g e = ap (λ ps. get_or ps g None) places ∙ (ap (λ j. get_or (set s.places f (Some (length s.pages))) j None) e
        ∙ get_or-set_same s.places f (Some (length s.pages)) None lt)

    other : (g k : ℕ) → g ≢ f → get_or t.places g None ≡ Some k → get_or s.places g None ≡ Some k
    other g k ne e = sym (ap (λ ps. get_or ps g None) places ∙ get_or-set_other s.places f g (Some (length s.pages)) None ne) ∙ e

    below : (g k : ℕ) → get_or t.places g None ≡ Some k → (g ≡ f) ⊎ (g ≢ f) → k < length t.pages
    below g k e (inl is) = let n = some-same (sym (same g is) ∙ e) in omega (arith, len, n)
    below g k e (inr ne) = let n = ok.below g k (other g k ne e) in omega (arith, len, n)

    apart : (g h k : ℕ) → get_or t.places g None ≡ Some k → get_or t.places h None ≡ Some k → (g ≡ f) ⊎ (g ≢ f) → (h ≡ f) ⊎ (h ≢ f) → g ≡ h
    apart g h k e d (inl a) (inl b) = a ∙ sym b
    apart g h k e d (inl a) (inr b) = let n = some-same (sym (same g a) ∙ e) in let l = ok.below h k (other h k b d) in absurd (omega (arith, n, l))
    apart g h k e d (inr a) (inl b) = let n = some-same (sym (same h b) ∙ d) in let l = ok.below g k (other g k a e) in absurd (omega (arith, n, l))
    apart g h k e d (inr a) (inr b) = ok.apart g h k (other g k a e) (other h k b d)

-- ---- before the first write

no-place : (n f : ℕ) → ◌≡◌ {A = Option ℕ} (get_or (replicate n None) f None) None
no-place zero f = refl
no-place (suc n) zero = refl
no-place (suc n) (suc f) = no-place n f

no-count : (n : ℕ) → count_by is_some (replicate {A = Option ℕ} n None) ≡ 0
no-count n = let e = sum_by-replicate {X = Option ℕ} (λ x. cond (is_some x) 1 0) n None in omega (arith, e)

pub stored-new : (s : Stored) (n : ℕ) → s.places ≡ replicate n None → s.pages ≡ [] → stored_bytes s ≡ (λ f. zeros)
unfolding stored_bytes
stored-new s n places pages = fun_ext (λ f. ap (bytes_at s.pages) (ap (λ ps. get_or ps f None) places ∙ no-place n f))

pub stored-opened : (s : Stored) (n : ℕ) → s.places ≡ replicate n None → s.pages ≡ [] → n ≤ s.capacity → n ≤ 65536 → IsStored s
stored-opened s n places pages room few = record {
  used = ap length pages ∙ sym (ap (count_by is_some) places ∙ no-count n);
  below = λ f k e. absurd (none-some (sym (none f) ∙ e));
  apart = λ f g k e h. absurd (none-some (sym (none f) ∙ e));
  room = let l = ap length places ∙ length-replicate {A = Option ℕ} n None in omega (arith, l, room);
  few = let l = ap length places ∙ length-replicate {A = Option ℕ} n None in omega (arith, l, few);
}
  where
    none : (f : ℕ) → get_or s.places f None ≡ None
    none f = ap (λ ps. get_or ps f None) places ∙ no-place n f
