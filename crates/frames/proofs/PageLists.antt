-- Pages of bytes
use Rattle.std.proofs.Common.{◌≡◌, ◌≢◌, ℕ, ◌+◌, ◌-◌, ◌*◌, ◌<◌, ◌≤◌, cond, ◌⊎◌, inl, inr, List, [], ◌∷◌, ◌++◌, length, get_or, set, take}
use Rattle.std.proofs.Common.{drop, replicate, arith, refl, sym, ◌∙◌, ap}
use Rattle.std.proofs.Math.Path.{fun_ext}
use Rattle.std.proofs.Math.Seq.{take-append_seam}
use Rattle.std.proofs.lemmas.Bool.{cases_lt, lt-ltb, le-ltb}
use Rattle.std.proofs.lemmas.List.{get_or_past, get_or-set_same, get_or-set_other, get_or_push, get_or_append_left, length_push, length-replicate}
use Rattle.vm_base.specs.Functions.{put}
use Rattle.vm_base.specs.Plain.{Bytes, zeros, page_bytes}
use Rattle.vm_base.proofs.Functions.{put_all, put_same, put_other}
use Rattle.frames.specs.Pages.{all_pages}
use Rattle.frames.proofs.BitSets.{zero_words}

pub page-inside : (page : List ℕ) (i : ℕ) → i < 4096 → page_bytes page 0 i ≡ get_or page i 0
page-inside page i lt =
    let at : 0 * 4096 + i ≡ i = omega arith in
    ap (λ b. cond b (get_or page (0 * 4096 + i) 0) 0) (lt-ltb i 4096 lt) ∙ ap (λ n. get_or page n 0) at

pub page-past : (page : List ℕ) (i : ℕ) → 4096 ≤ i → page_bytes page 0 i ≡ 0
page-past page i le = ap (λ b. cond b (get_or page (0 * 4096 + i) 0) 0) (le-ltb i 4096 le)

-- a page with these bytes
pub page-is : (page : List ℕ) (bytes : Bytes) → ((i : ℕ) → i < 4096 → get_or page i 0 ≡ bytes i) → ((i : ℕ) → 4096 ≤ i → bytes i ≡ 0)
    → page_bytes page 0 ≡ bytes
page-is page bytes inside past = fun_ext (λ i. by i (cases_lt i 4096))
  where
    by : (i : ℕ) → (i < 4096) ⊎ (4096 ≤ i) → page_bytes page 0 i ≡ bytes i
    by i (inl lt) = page-inside page i lt ∙ inside i lt
    by i (inr le) = page-past page i le ∙ sym (past i le)

pub page-filled : (page from : List ℕ) → length from ≤ 4096 → ((i : ℕ) → i < length from → get_or page i 0 ≡ get_or from i 0)
    → ((i : ℕ) → length from ≤ i → get_or page i 0 ≡ 0) → page_bytes page 0 ≡ page_bytes from 0
page-filled page from short front rest = page-is page (page_bytes from 0) (λ i lt. by i lt (cases_lt i (length from))) (λ i le. page-past from i le)
  where
    by : (i : ℕ) → i < 4096 → (i < length from) ⊎ (length from ≤ i) → get_or page i 0 ≡ page_bytes from 0 i
    by i lt (inl less) = front i less ∙ sym (page-inside from i lt)
    by i lt (inr le) = rest i le ∙ sym (page-inside from i lt ∙ get_or_past from i 0 le)

-- one byte written
pub page-set : (page : List ℕ) (i b : ℕ) → i < 4096 → 4096 ≤ length page → page_bytes (set page i b) 0 ≡ put (page_bytes page 0) i b
page-set page i b lt long = page-is (set page i b) (put (page_bytes page 0) i b)
    (λ j less. put_all (λ n v. n < 4096 → get_or (set page i b) n 0 ≡ v) (page_bytes page 0) i b
    (λ h. get_or-set_same page i b 0 (omega arith)) (λ n ne h. get_or-set_other page i n b 0 ne ∙ sym (page-inside page n h)) j less)
    (λ j le. put_other (page_bytes page 0) i b j (omega arith) ∙ page-past page j le)

pub page-zero : (n : ℕ) → page_bytes (replicate n 0) 0 ≡ zeros
page-zero n = page-is (replicate n 0) zeros (λ i lt. zero_words n i) (λ i le. refl)

-- one page changes
pub pages-set : (pages : List (List ℕ)) (k : ℕ) (page : List ℕ) → k < length pages → all_pages (set pages k page) ≡ put (all_pages pages) k (page_bytes page 0)
pages-set pages k page lt = fun_ext (put_all (λ j v. all_pages (set pages k page) j ≡ v) (all_pages pages) k (page_bytes page 0)
    (ap (λ p. page_bytes p 0) (get_or-set_same pages k page [] lt)) (λ j ne. ap (λ p. page_bytes p 0) (get_or-set_other pages k j page [] ne)))

-- one more page
pub pages-push : (pages : List (List ℕ)) (page : List ℕ) → all_pages (pages ++ page ∷ []) ≡ put (all_pages pages) (length pages) (page_bytes page 0)
pages-push pages page = fun_ext (put_all (λ j v. all_pages (pages ++ page ∷ []) j ≡ v) (all_pages pages) (length pages) (page_bytes page 0)
    (ap (λ p. page_bytes p 0) (get_or_push pages page [] (length pages) refl)) (λ j ne. ap (λ p. page_bytes p 0) (other j ne (cases_lt j (length pages)))))
  where
    other : (j : ℕ) → j ≢ length pages → (j < length pages) ⊎ (length pages ≤ j) → get_or (pages ++ page ∷ []) j [] ≡ get_or pages j []
    other j ne (inl lt) = get_or_append_left pages (page ∷ []) [] j lt
    other j ne (inr le) = get_or_past (pages ++ page ∷ []) j [] (omega (arith, length_push pages page)) ∙ sym (get_or_past pages j [] le)

-- a page copied to another place
pub pages-copied : (pages copied : List (List ℕ)) (from to : ℕ) → ((k : ℕ) (d : List ℕ) → to ≤ k → k < to + (from + 1 - from)
    → get_or copied k d ≡ get_or pages (from + (k - to)) d)
    → ((k : ℕ) (d : List ℕ) → k < to → get_or copied k d ≡ get_or pages k d) → ((k : ℕ) (d : List ℕ) → to + (from + 1 - from) ≤ k
    → get_or copied k d ≡ get_or pages k d)
    → all_pages copied ≡ put (all_pages pages) to (all_pages pages from)
pages-copied pages copied from to here below above = fun_ext (put_all (λ j v. all_pages copied j ≡ v) (all_pages pages) to (all_pages pages from)
    (let at : from + (to - to) ≡ from = omega arith in ap (λ p. page_bytes p 0) (here to [] (omega arith) (omega arith) ∙ ap (λ k. get_or pages k []) at))
    (λ j ne. ap (λ p. page_bytes p 0) (other j ne (cases_lt j to))))
  where
    other : (j : ℕ) → j ≢ to → (j < to) ⊎ (to ≤ j) → get_or copied j [] ≡ get_or pages j []
    other j ne (inl lt) = below j [] lt
    other j ne (inr le) = above j [] (omega arith)

-- a page of zeros with one other byte
pub page-with : (page : List ℕ) (i b : ℕ) → page ≡ replicate 4096 0 → i < 4096 → page_bytes (set page i b) 0 ≡ put zeros i b
page-with page i b e lt =
    let long : length page ≡ 4096 = ap length e ∙ length-replicate {A = ℕ} 4096 0 in
    page-set page i b lt (omega (arith, long)) ∙ ap (λ bytes. put bytes i b) (ap (λ p. page_bytes p 0) e ∙ page-zero 4096)

pub page-none : page_bytes [] 0 ≡ zeros
page-none = page-is [] zeros (λ i lt. refl) (λ i le. refl)

-- the first page
pub pages-first : (old new : List (List ℕ)) (n : ℕ) (bytes : Bytes) → all_pages new ≡ put (all_pages old) n bytes → n ≡ 0 → all_pages new 0 ≡ bytes
pages-first old new n bytes e zero = ap (λ b. b 0) e ∙ (ap (λ k. put (all_pages old) k bytes 0) zero ∙ put_same (all_pages old) 0 bytes)

pub pages-empty : (pages : List (List ℕ)) → length pages ≡ 0 → all_pages pages 0 ≡ zeros
pages-empty pages e = ap (λ p. page_bytes p 0) (get_or_past pages 0 [] (omega (arith, e))) ∙ page-none

-- what a slice of a whole Vec leaves in the Vec
pub whole-vec : (new old : List ℕ) (n : ℕ) → length new ≡ n → take n (new ++ drop (length new) old) ≡ new
whole-vec new old n e = ap (λ m. take m (new ++ drop (length new) old)) (sym e) ∙ take-append_seam new (drop (length new) old)
