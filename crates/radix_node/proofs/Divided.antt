-- A slot as 512 slots
use Rattle.slot_lock.proofs.Words.{◌≡◌, ℕ, ◌+◌, ◌*◌, ◌^◌, ◌<◌, ◌≤◌, false, List, [], ◌∷◌, ◌++◌, length, map, get_or, refl, sym, ap, ◌∙◌, subst, arith}
use Rattle.slot_lock.proofs.Words.{mul-le-mul_right, length-map, get_or-map, info_file_page, is_leaf}
use Rattle.std.specs.List.{range_with_len}
use Rattle.std.proofs.lemmas.List.FromFn.{get_or-map-range_with_len, map-range_with_len_more}
use Rattle.radix_node.specs.declared.node.Slot.{Slot}
use Rattle.radix_node.specs.declared.node.Slot.TheVariants.{Own as OwnSlot, Child}
use Rattle.radix_node.specs.declared.state.SlotState.{SlotState}
use Rattle.radix_node.specs.State.{State, state_of, state_from}
use Rattle.radix_node.specs.Run.{Run, width_of, divided, FitsWidth}
use Rattle.radix_node.specs.Node.{Part, Own, flatten, owns, owns_divided, IsSoundPart}
use Rattle.radix_node.specs.Slots.{part_of, parts_of, IsLower, IsNode}
use Rattle.slot_lock.proofs.Facts.{two}
use Rattle.slot_lock.proofs.ListLaws.{is_leaf-info_from, file_page_on}

-- the k-th of 512 slots ends by the end of the last
pub part_ends : (w k : ℕ) → k < 512 → k * w + w ≤ 512 * w
part_ends w k h = omega (arith, mul-le-mul_right w (let q : k + 1 ≤ 512 = omega arith in q))

-- what 512 slots of w pages can carry on
pub record CanDivide (w : ℕ) (s : State) : Type 0 where
  pub no_leaf : is_leaf s.info ≡ false
  pub fits : info_file_page s.info + 512 * w ≤ 2 ^ 36

-- slots are such, up to the n-th
pub record Carries {A : Type 0} (w n : ℕ) (s : State) (ss : List (Slot A)) : Type 0 where
  pub count : length ss ≡ n
  pub parts : parts_of ss ≡ owns w s n

pub carries-more : {A : Type 0} (w n m : ℕ) (s : State) (ss ts : List (Slot A)) (x : SlotState) → Carries w n s ss
    → ts ≡ ss ++ OwnSlot x ∷ [] → state_of x ≡ state_from s (n * w) → m ≡ n + 1 → Carries w m s ts
carries-more w n m s ss ts x h e is next = rw (e, next) (record {
  count = more_one ss ∙ ap (λ k. k + 1) h.count;
  parts = parts_more ss ∙ ap (λ (xs : List Part). xs ++ Own (state_of x) ∷ []) h.parts ∙ ap (λ y. owns w s n ++ Own y ∷ []) is
      ∙ sym (map-range_with_len_more (λ k. Own (state_from s (k * w))) 0 n n (omega arith));
})
  where
    more_one : {B : Type 0} (xs : List (Slot B)) → length (xs ++ OwnSlot x ∷ []) ≡ length xs + 1
    more_one [] = refl
    more_one (y ∷ ys) = omega (arith, more_one ys)

    parts_more : {B : Type 0} (xs : List (Slot B)) → parts_of (xs ++ OwnSlot x ∷ []) ≡ parts_of xs ++ Own (state_of x) ∷ []
    parts_more [] = refl
    parts_more (y ∷ ys) = ap (λ (l : List Part). part_of y ∷ l) (parts_more ys)

-- each part of what 512 slots carry on
pub carried_sound : (w k : ℕ) (s : State) → CanDivide w s → k < 512 → FitsWidth w (state_from s (k * w))
carried_sound w k s h l = record {
  fits = omega (arith, file_page_on s.info (k * w), part_ends w k l, h.fits);
  alone = λ leaf. absurd (two _ h.no_leaf (sym (is_leaf-info_from s.info (k * w)) ∙ leaf));
}

all_own : {A : Type 0} (level : ℕ) (ss : List (Slot A)) (q : ℕ → State) (ks : List ℕ) → parts_of ss ≡ map (λ k. Own (q k)) ks
    → (k : ℕ) (d : Slot A) → k < length ss → IsLower level (get_or ss k d)
all_own {A} level ss q ks e k d l = lower (get_or ss k d) (owned (get_or ss k d) (sym (get_or-map part_of ss k d (part_of d) l)
    ∙ ap (λ xs. get_or xs k (part_of d)) e) k_in)
  where
    len : length ks ≡ length ss
    len = sym (length-map ks (λ k. Own (q k))) ∙ sym (ap length e) ∙ length-map ss part_of

    k_in : k < length ks
    k_in = omega (arith, len)

    owned : (x : Slot A) → part_of x ≡ get_or (map (λ k. Own (q k)) ks) k (part_of d) → k < length ks → part_of x ≡ Own (q (get_or ks k 0))
    owned x h m = h ∙ get_or-map (λ k. Own (q k)) ks k 0 (part_of d) m

    lower : (x : Slot A) → part_of x ≡ Own (q (get_or ks k 0)) → IsLower level x
    lower (OwnSlot s) h = tt
    lower (Child b) h = absurd cc

pub carries-IsNode : {A : Type 0} (level n : ℕ) (s : State) (ss : List (Slot A)) → level ≤ 3 → CanDivide (width_of level) s → n ≡ 512
    → Carries (width_of level) n s ss → IsNode level ss
carries-IsNode level n s ss low h full c = record {
  low = low;
  full = c.count ∙ full;
  lower = all_own level ss (λ k. state_from s (k * width_of level)) (range_with_len 0 n) c.parts;
  fit = λ k d l.
      subst (IsSoundPart level)
      (sym (ap (λ xs. get_or xs k d) c.parts ∙ get_or-map-range_with_len (λ k. Own (state_from s (k * width_of level))) 0 n k k d
      (inside k l) (omega arith))) (carried_sound (width_of level) k s h (omega (arith, inside k l, full)));
}
  where
    inside : (k : ℕ) → k < length (parts_of ss) → k < n
    inside k l = omega (arith, length-map ss part_of, c.count)

pub owns-divided : (w n : ℕ) (s : State) (xs : List Part) → xs ≡ owns w s n → n ≡ 512 → xs ≡ owns_divided w s
unfolding owns_divided
owns-divided w n s xs e full = e ∙ ap (owns w s) full

flatten_own : (w : ℕ) (q : ℕ → State) (ks : List ℕ) → flatten w (map (λ k. Own (q k)) ks) ≡ map (λ k. record { width = w; state = q k }) ks
flatten_own w q [] = refl
flatten_own w q (k ∷ ks) = ap (λ (l : List Run). (record { width = w; state = q k }) ∷ l) (flatten_own w q ks)

-- the runs of 512 slots that carry on what one says
pub runs-divided : (w : ℕ) (s : State) → flatten w (owns_divided w s) ≡ divided w s
unfolding owns_divided divided
runs-divided w s = flatten_own w (λ k. state_from s (k * w)) (range_with_len 0 512)
