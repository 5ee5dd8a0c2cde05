-- What is kept, one after another
use Rattle.slot_lock.proofs.Words.{◌≡◌, ◌≢◌, ◌==◌, ◌∙◌, ℕ, ◌+◌, ◌<◌, ◌≤◌, Bool, true, false, List, [], ◌∷◌, ◌++◌, ap, drop, get_or, length, map, not}
use Rattle.slot_lock.proofs.Words.{refl, set, subst, suc, sym, take, take_all, zero, eq_false, arith}
use Rattle.std.proofs.Common.{append-nil}
use Rattle.std.proofs.lemmas.List.{drop_all}
use Rattle.std.specs.List.{filter}
use Rattle.std.proofs.lemmas.List.Elements.{All-filter, filter_passes}
use Rattle.loose_orders.specs.declared.keeping.Kept.{Kept}
use Rattle.loose_orders.specs.Kept.{AllKept, IsKept}
use Rattle.loose_orders.proofs.StepLemmas.{Forgets}

-- ---- those of another call

other_call : (call other : ℕ) → not (other == call) ≡ true → other ≢ call
other_call call other h = go (other == call) refl h
  where
    go : (b : Bool) → (other == call) ≡ b → not b ≡ true → other ≢ call
    go true e k = absurd cc
    go false e k = eq_false other call e

pub kept_others : (call : ℕ) (kept left : List Kept) → left ≡ filter (λ (k : Kept). not (k.call == call)) kept → Forgets call kept left
kept_others call kept left is old new same all =
    subst (AllKept new) (sym is) (λ k d l. stays (get_or (filter (λ (x : Kept). not (x.call == call)) kept) k d)
    (All-filter (λ (x : Kept). not (x.call == call)) (IsKept old) kept all k d l)
    (other_call call (get_or (filter (λ (x : Kept). not (x.call == call)) kept) k d).call (filter_passes (λ (x : Kept). not (x.call == call)) kept k d l)))
  where
    stays : (x : Kept) → IsKept old x → x.call ≢ call → IsKept new x
    stays x kx ne = record { valid = kx.valid; entry = kx.entry; is_old = same x.call x.page ne ∙ kx.is_old; was = kx.was }

-- ---- all changed, one after another

pub mapped_more : {X : Type 0} (f : X → X) (xs : List X) (at : ℕ) (d : X) → at < length xs
    → set (map f (take at xs) ++ drop at xs) at (f (get_or xs at d)) ≡ map f (take (at + 1) xs) ++ drop (at + 1) xs
mapped_more f [] at d l = absurd (omega (arith, l))
mapped_more f (x ∷ xs) zero d l = refl
mapped_more {X} f (x ∷ xs) (suc at) d l =
    let next : suc (at + 1) ≡ suc at + 1 = omega arith in
    subst (λ (n : ℕ). set (map f (take (suc at) (x ∷ xs)) ++ drop (suc at) (x ∷ xs)) (suc at) (f (get_or (x ∷ xs) (suc at) d))
    ≡ map f (take n (x ∷ xs)) ++ drop n (x ∷ xs)) next
    (ap (λ (ys : List X). f x ∷ ys) (mapped_more f xs at d (omega (arith, l))))

pub mapped_at : {X : Type 0} (f : X → X) (xs : List X) (at : ℕ) (d : X) → at < length xs → get_or (map f (take at xs) ++ drop at xs) at d ≡ get_or xs at d
mapped_at f [] at d l = absurd (omega (arith, l))
mapped_at f (x ∷ xs) zero d l = refl
mapped_at f (x ∷ xs) (suc at) d l = mapped_at f xs at d (omega (arith, l))

-- the next is changed
pub mapped_on : {X : Type 0} (f : X → X) (xs now : List X) (at : ℕ) (d v : X) → at < length xs → now ≡ map f (take at xs) ++ drop at xs
    → v ≡ f (get_or now at d) → set now at v ≡ map f (take (at + 1) xs) ++ drop (at + 1) xs
mapped_on {X} f xs now at d v l is made =
    let old : get_or now at d ≡ get_or xs at d = ap (λ (ys : List X). get_or ys at d) is ∙ mapped_at f xs at d l in
    ap (λ (ys : List X). set ys at v) is ∙ (ap (λ (y : X). set (map f (take at xs) ++ drop at xs) at y) (made ∙ ap f old) ∙ mapped_more f xs at d l)

pub all_mapped : {X : Type 0} (f : X → X) (xs now : List X) (at : ℕ) → length xs ≤ at → now ≡ map f (take at xs) ++ drop at xs → now ≡ map f xs
all_mapped {X} f xs now at past is =
    is ∙ (ap (λ (ys : List X). map f ys ++ drop at xs) (take_all at xs past) ∙ (ap (λ (ys : List X). map f xs ++ ys)
    (drop_all at xs past) ∙ append-nil (map f xs)))
