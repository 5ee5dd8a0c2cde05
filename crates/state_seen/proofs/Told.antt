-- Cores that are told one after another
use Rattle.std.proofs.Common.{◌≡◌, ◌≢◌, ℕ, ◌+◌, ◌<◌, ◌≤◌, Bool, true, false, cond, ◌&&◌, ◌==◌, nat_lt, refl, sym, ap, ◌∙◌, arith}
use Rattle.std.proofs.Math.Path.{fun_ext}
use Rattle.std.proofs.lemmas.Bool.Decides.{nat_tests}
use Rattle.vm_base.specs.declared.page.PageRange.{PageRange}
use Rattle.vm_base.specs.Functions.{put}
use Rattle.vm_base.proofs.Functions.{put_all}
use Rattle.state_seen.specs.Held.{Holds, told, told_by, told_one}

-- those of a set that are below a number
abbrev pub below : (ℕ → Bool) → ℕ → ℕ → Bool
below to n d = to d && nat_lt d n

none_below : (b : Bool) (d : ℕ) → b && nat_lt d 0 ≡ false
none_below true d = grind (arith, nat_tests)
none_below false d = refl

not_yet : (b : Bool) (n : ℕ) → b && nat_lt n n ≡ false
not_yet true n = grind (arith, nat_tests)
not_yet false n = refl

now_it : (b : Bool) (n : ℕ) → b && nat_lt n (n + 1) ≡ b
now_it true n = grind (arith, nat_tests)
now_it false n = refl

others : (d n : ℕ) → d ≢ n → nat_lt d (n + 1) ≡ nat_lt d n
others d n ne = grind (arith, nat_tests)

-- none is told yet
pub told_none : (from : ℕ) (to : ℕ → Bool) (range : PageRange) (h : ℕ → Holds) → h ≡ told_by from (below to 0) range h
told_none from to range h = fun_ext (λ d. ap (λ b. cond b (told from range (h d)) (h d)) (sym (none_below (to d) d)))

-- one more is told
told_more : (from : ℕ) (to : ℕ → Bool) (range : PageRange) (h : ℕ → Holds) (n : ℕ) → to n ≡ true
    → put (told_by from (below to n) range h) n (told from range (told_by from (below to n) range h n)) ≡ told_by from (below to (n + 1)) range h
told_more from to range h n e = fun_ext (put_all (λ d x. x ≡ told_by from (below to (n + 1)) range h d) (told_by from (below to n) range h) n
    (told from range (told_by from (below to n) range h n)) here there)
  where
    here : told from range (told_by from (below to n) range h n) ≡ told_by from (below to (n + 1)) range h n
    here = ap (λ b. told from range (cond b (told from range (h n)) (h n))) (not_yet (to n) n)
        ∙ ap (λ b. cond b (told from range (h n)) (h n)) (sym (now_it (to n) n ∙ e))

    there : (d : ℕ) → d ≢ n → told_by from (below to n) range h d ≡ told_by from (below to (n + 1)) range h d
    there d ne = ap (λ b. cond (to d && b) (told from range (h d)) (h d)) (sym (others d n ne))

-- one isn't to be told
told_skip : (from : ℕ) (to : ℕ → Bool) (range : PageRange) (h : ℕ → Holds) (n : ℕ) → to n ≡ false
    → told_by from (below to n) range h ≡ told_by from (below to (n + 1)) range h
told_skip from to range h n e = fun_ext (λ d. ap (λ b. cond b (told from range (h d)) (h d)) (same d (d == n) refl))
  where
    same : (d : ℕ) (b : Bool) → (d == n) ≡ b → below to n d ≡ below to (n + 1) d
    same d true t =
        let is : d ≡ n = grind (arith, nat_tests) in
        ap (below to n) is ∙ not_yet (to n) n ∙ sym (now_it (to n) n ∙ e) ∙ ap (below to (n + 1)) (sym is)
    same d false t = let isnt : d ≢ n = grind (arith, nat_tests) in ap (λ b. to d && b) (sym (others d n isnt))

-- one more was looked at
pub told_next : (from : ℕ) (to : ℕ → Bool) (range : PageRange) (h : ℕ → Holds) (n : ℕ)
    → told_one from (to n) range (told_by from (below to n) range h) n ≡ told_by from (below to (n + 1)) range h
told_next from to range h n = go (to n) refl
  where
    go : (b : Bool) → to n ≡ b → told_one from b range (told_by from (below to n) range h) n ≡ told_by from (below to (n + 1)) range h
    go true e = told_more from to range h n e
    go false e = told_skip from to range h n e

-- all are told
pub told_all : (from : ℕ) (to : ℕ → Bool) (range : PageRange) (h : ℕ → Holds) (n d : ℕ) → 64 ≤ n → d < 64
    → told_by from (below to n) range h d ≡ told_by from to range h d
told_all from to range h n d all lt = ap (λ b. cond b (told from range (h d)) (h d)) (keep (to d))
  where
    keep : (b : Bool) → b && nat_lt d n ≡ b
    keep true = grind (arith, nat_tests)
    keep false = refl
