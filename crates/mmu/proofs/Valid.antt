-- Changes of the tables at valid pages
use Rattle.std.proofs.Common.{◌≡◌, ◌≢◌, ℕ, ◌<◌, ◌≤◌, ◌^◌, ◌==◌, Bool, true, false, cond, Option, None, refl, arith}
use Rattle.std.specs.Prelude.{Result, Ok, Err, OnOk, OnErr}
use Rattle.std.proofs.Math.Path.{fun_ext}
use Rattle.std.proofs.lemmas.Bool.Decides.{nat_tests}
use Rattle.vm_base.specs.declared.page.PageRange.{PageRange}
use Rattle.vm_base.specs.Functions.{put, over, has}
use Rattle.vm_base.specs.Pages.{is_page}
use Rattle.vm_base.proofs.Functions.{put_all, eq_true, eq_false}
use Rattle.mmu.specs.declared.entry.Translation.{Translation}
use Rattle.mmu.specs.Tables.{on_pages}

pub below : (N q : ℕ) → 2 ^ 35 ≤ N → is_page q ≡ true → q < N
below N q h e = grind (arith, nat_tests)

-- tables that agree on valid pages
pub same_pages : (N : ℕ) (f g : ℕ → Option Translation) → 2 ^ 35 ≤ N → ((q : ℕ) → q < N → g q ≡ f q) → on_pages g ≡ on_pages f
same_pages N f g h e = fun_ext (λ q. at q (is_page q) refl)
  where
    at : (q : ℕ) (b : Bool) → is_page q ≡ b → cond b (g q) None ≡ cond b (f q) None
    at q true t = e q (below N q h t)
    at q false t = refl

-- the entries of a range are gone
pub over_pages : (N : ℕ) (f g : ℕ → Option Translation) (r : PageRange) → 2 ^ 35 ≤ N → ((q : ℕ) → q < N → g q ≡ over f (has r) None q)
    → on_pages g ≡ over (on_pages f) (has r) None
over_pages N f g r h e = fun_ext (λ q. at q (is_page q) refl)
  where
    none : (b : Bool) → ◌≡◌ {A = Option Translation} None (cond b None None)
    none true = refl
    none false = refl

    at : (q : ℕ) (b : Bool) → is_page q ≡ b → cond b (g q) None ≡ cond (has r q) None (cond b (f q) None)
    at q true t = e q (below N q h t)
    at q false t = none (has r q)

-- one entry is set
pub put_pages : (N : ℕ) (f g : ℕ → Option Translation) (p : ℕ) (t : Option Translation) → 2 ^ 35 ≤ N → is_page p ≡ true → g p ≡ t
    → ((q : ℕ) → q < N → q ≢ p → g q ≡ f q) → on_pages g ≡ put (on_pages f) p t
put_pages N f g p t h v here there = fun_ext (put_all (λ q x. on_pages g q ≡ x) (on_pages f) p t (rw v here) (λ q ne. at q ne (is_page q) refl))
  where
    at : (q : ℕ) → q ≢ p → (b : Bool) → is_page q ≡ b → cond b (g q) None ≡ cond b (f q) None
    at q ne true s = there q (below N q h s) ne
    at q ne false s = refl

-- nothing is set
pub keep_pages : (N : ℕ) (f g : ℕ → Option Translation) (p : ℕ) → 2 ^ 35 ≤ N → g p ≡ f p → ((q : ℕ) → q < N → q ≢ p → g q ≡ f q) → on_pages g ≡ on_pages f
keep_pages N f g p h here there = same_pages N f g h (λ q l. at q l (q == p) refl)
  where
    at : (q : ℕ) → q < N → (b : Bool) → (q == p) ≡ b → g q ≡ f q
    at q l true s = rw (eq_true q p s) here
    at q l false s = there q l (eq_false q p s)

pub on_ok : {T E : Type 0} {P Q : Type 0} (r : Result T E) → (P → Q) → OnOk r P → OnOk r Q
on_ok (Ok x) f p = f p
on_ok (Err e) f p = tt

pub on_err : {T E : Type 0} {P Q : Type 0} (r : Result T E) → (P → Q) → OnErr r P → OnErr r Q
on_err (Ok x) f p = tt
on_err (Err e) f p = f p
