-- Numbers of ends
use Rattle.std.proofs.Common.{◌≡◌, ◌≢◌, ℕ, zero, suc, ◌+◌, ◌<◌, ◌≤◌, ◌⊎◌, inl, inr, List, [], ◌∷◌, ◌++◌, Option, Some, ap, arith, get_or, length}
use Rattle.std.proofs.Common.{refl, slice_get, subst, sym, take, ◌∙◌}
use Rattle.std.proofs.lemmas.List.{take_all, take_more}
use Rattle.vm_base.specs.declared.replies.Reply.{Reply}
use Rattle.slot_lock.specs.declared.map_list.MapLine.{MapLine}
use Rattle.litmus_merges.specs.declared.ending.End.{End}
use Rattle.litmus_merges.specs.Numbers.{AreNumbered, mixed, mixed_all, number_of}
use Rattle.litmus_merges.proofs.Ended.{IsThis}
use Rattle.litmus_merges.proofs.Lists.{get_new, get_old, old_or_new}

push : (n : ℕ) (xs : List Reply) (y : Reply) → mixed_all n (xs ++ y ∷ []) ≡ mixed (mixed_all n xs) y
push n [] y = refl
push n (x ∷ xs) y = push (mixed n x) xs y

mixed_more : (n : ℕ) (xs : List Reply) (k : ℕ) (d : Reply) → k < length xs
    → mixed_all n (take (k + 1) xs) ≡ mixed (mixed_all n (take k xs)) (get_or xs k d)
mixed_more n xs k d l = ap (mixed_all n) (take_more xs k d l) ∙ push n (take k xs) (get_or xs k d)

-- one more
pub mixed_next : (n all r : ℕ) (xs : List Reply) (k : ℕ) (d : Reply) → k < length xs → r ≡ mixed all (get_or xs k d) → all ≡ mixed_all n (take k xs)
    → r ≡ mixed_all n (take (k + 1) xs)
mixed_next n all r xs k d l e f = e ∙ (ap (λ (m : ℕ). mixed m (get_or xs k d)) f ∙ sym (mixed_more n xs k d l))

pub mixed_end : (n : ℕ) (xs : List Reply) (k : ℕ) → length xs ≤ k → mixed_all n (take k xs) ≡ mixed_all n xs
mixed_end n xs k l = ap (mixed_all n) (take_all k xs l)

-- an end with another number isn't the one with these replies, finals and mappings
pub other_number : {A : Type 0} (end : End A) (n m : ℕ) (replies finals : List Reply) (lines : List MapLine) → n ≡ number_of end.replies.items end.finals.items
    → m ≡ number_of replies finals → n ≢ m → ¬ IsThis end replies finals lines
other_number {A} end n m replies finals lines its number ne same =
    ne (its ∙ (ap (λ (xs : List Reply). number_of xs end.finals.items) same.0 ∙ (ap (number_of replies) same.1 ∙ sym number)))

got : (xs : List ℕ) (k n d : ℕ) → slice_get xs k ≡ Some n → get_or xs k d ≡ n
got [] k n d e = absurd cc
got (x ∷ xs) zero n d e = let same : x ≡ n = cc in same
got (x ∷ xs) (suc k) n d e = got xs k n d e

-- what is read there is the end's number
pub its_number : {A : Type 0} (ends : List (End A)) (numbers : List ℕ) (k d : ℕ) (end : End A) → AreNumbered ends numbers → slice_get ends k ≡ Some end
    → get_or numbers k d ≡ number_of end.replies.items end.finals.items
its_number {A} ends numbers k d end h is = got numbers k (number_of end.replies.items end.finals.items) d (h.each k end is)

pub none_numbered : {A : Type 0} (ends : List (End A)) (numbers : List ℕ) → ends ≡ [] → numbers ≡ [] → AreNumbered ends numbers
none_numbered ends numbers e f = record {
  count = ap length f ∙ sym (ap length e);
  each = λ k end is. let wrong : slice_get [] k ≡ Some end = sym (ap (λ xs. slice_get xs k) e) ∙ is in absurd cc;
}

pub one_numbered : {A : Type 0} (ends new : List (End A)) (numbers more : List ℕ) (end : End A) (n : ℕ) → AreNumbered ends numbers
    → new ≡ ends ++ end ∷ [] → more ≡ numbers ++ n ∷ [] → n ≡ number_of end.replies.items end.finals.items → AreNumbered new more
one_numbered {A} ends new numbers more end n h e f is = subst (λ xs. AreNumbered xs more) (sym e) (subst (AreNumbered (ends ++ end ∷ [])) (sym f) (record {
  count = count;
  each = λ k other g. each k other (old_or_new ends end other k g);
}))
  where
    longer : {B : Type 0} (xs : List B) (y : B) → length (xs ++ y ∷ []) ≡ suc (length xs)
    longer [] y = refl
    longer (x ∷ xs) y = ap suc (longer xs y)

    count : length (numbers ++ n ∷ []) ≡ length (ends ++ end ∷ [])
    count = longer numbers n ∙ (ap suc h.count ∙ sym (longer ends end))

    each : (k : ℕ) (other : End A) → (slice_get ends k ≡ Some other) ⊎ ((k ≡ length ends) × (end ≡ other))
        → slice_get (numbers ++ n ∷ []) k ≡ Some (number_of other.replies.items other.finals.items)
    each k other (inl old) = get_old numbers n (number_of other.replies.items other.finals.items) k (h.each k other old)
    each k other (inr now) =
        subst (λ (x : End A). slice_get (numbers ++ n ∷ []) k ≡ Some (number_of x.replies.items x.finals.items)) now.1
        (ap (slice_get (numbers ++ n ∷ [])) (now.0 ∙ sym h.count) ∙ (get_new numbers n ∙ ap Some is))
