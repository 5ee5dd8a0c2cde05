-- A draw and a split keep the rule of the ticket word
use Rattle.std.proofs.Common.{◌≡◌, ◌≢◌, ℕ, zero, suc, ◌+◌, ◌-◌, ◌*◌, ◌%◌, ◌^◌, ◌<◌, ◌≤◌, ◌==◌, cond, List, [], ◌∷◌, ◌++◌, length, set, get_or, refl}
use Rattle.std.proofs.Common.{sym, ap, ◌∙◌, subst, ⊎_elim, arith, length-set, length-append, get_or-set_same}
use Rattle.std.specs.Prelude.{slice_index, All, sum_by}
use Rattle.std.proofs.lemmas.List.Sums.{sum_by-append, sum_by-cons, sum_by_push}
use Rattle.std.proofs.lemmas.List.Elements.{All-append, All-nil}
use Rattle.std.proofs.lemmas.Bool.Decides.{nat_tests}
use mathlib.Core.Option.{some, none, some-ne-none, some-injective}
use lib.ListN.{get_elem?}
use Rattle.atomic_table.specs.Table.{Me, step, keeps, Allows, Joins, Splits}
use Rattle.atomic_table.proofs.Lists.{at_set, at_snoc, set_again}
use Rattle.seats.specs.declared.tickets.Drawn.{Drawn}
use Rattle.seats.specs.Tickets.{middle, times, times_in, count_in, once_below, own, weight, Rises, drawn, AreDealt, Dealt, Draws, Counts}

-- a total after a change of one item
pub sum_at : {A : Type 0} (f : A → ℕ) (l : List A) (i : ℕ) (v w : A) → get_elem? l i ≡ some v → sum_by f (set l i w) + f v ≡ sum_by f l + f w
sum_at f [] i v w e = absurd (some-ne-none v (sym e))
sum_at f (x ∷ xs) zero v w e =
    let same : f x ≡ f v = ap f (some-injective x v e) in
    let a = sum_by-cons f w xs in
    let b = sum_by-cons f x xs in
    omega arith
sum_at f (x ∷ xs) (suc i) v w e =
    let a = sum_by-cons f x (set xs i w) in
    let b = sum_by-cons f x xs in
    let c = sum_at f xs i v w e in
    omega arith

-- lists are at most as long as they are many
few_in : (ls : List (List ℕ)) → All (λ l. length l ≤ 2 ^ 32) ls → count_in ls ≤ 4294967296 * length ls
few_in [] h = omega arith
few_in (l ∷ ls) h =
    let a = sum_by-cons (λ (l : List ℕ). length l) l ls in
    let b = few_in ls (λ k d lt. h (suc k) d (omega (arith, lt))) in
    let c : length l ≤ 4294967296 = h 0 l (omega arith) in
    omega arith

-- the tickets are as many as the seats and their spare ones allow
pub few : (l : List Drawn) → ((k : ℕ) (v : Drawn) → get_elem? l k ≡ some v → All (λ l. length l ≤ 2 ^ 32) v.lists)
    → sum_by (λ v. count_in v.lists) l ≤ 4294967296 * sum_by weight l
few [] h = omega arith
few (x ∷ xs) h =
    let a = sum_by-cons (λ (v : Drawn). count_in v.lists) x xs in
    let b = sum_by-cons weight x xs in
    let c = few xs (λ k v e. h (suc k) v e) in
    let d = few_in x.lists (h 0 x refl) in
    omega arith

pub once_more : (x n : ℕ) → once_below x (n + 1) ≡ once_below x n + cond (n == x) 1 0
once_more x n = grind (arith, nat_tests)

-- a fact of each view, after a change of one
pub each_set : {A : Type 0} (P : A → Type 0) (l : List A) (i : ℕ) (w : A) → ((k : ℕ) (v : A) → get_elem? l k ≡ some v → P v) → P w
    → (k : ℕ) (v : A) → get_elem? (set l i w) k ≡ some v → P v
each_set P l i w h mine k v e =
    ⊎_elim (λ (t : (k ≡ i) × (w ≡ v)). subst P t.1 mine) (λ (t : (k ≢ i) × (get_elem? l k ≡ some v)). h k v t.1) (at_set l i k w v e)

all_below_more : (xs : List ℕ) (n m : ℕ) → n ≤ m → All (λ t. t < n) xs → All (λ t. t < m) xs
all_below_more xs n m le h k d lt = let a = h k d lt in omega arith

all_lists_more : (ls : List (List ℕ)) (n m : ℕ) → n ≤ m → All (λ l. All (λ t. t < n) l) ls → All (λ l. All (λ t. t < m) l) ls
all_lists_more ls n m le h k d lt = all_below_more (get_or ls k d) n m le (h k d lt)

all_one : (n m : ℕ) → n < m → All (λ t. t < m) (n ∷ [])
all_one n m lt zero d h = lt
all_one n m lt (suc k) d h = absurd (omega arith)

pub Rises-push : (xs : List ℕ) (n : ℕ) → Rises xs → All (λ t. t < n) xs → Rises (xs ++ n ∷ [])
Rises-push [] n r h = tt
Rises-push (x ∷ []) n r h = (h 0 0 (omega arith), tt)
Rises-push (x ∷ y ∷ ys) n r h = (r.0, Rises-push (y ∷ ys) n r.1 (λ k d lt. h (suc k) d (omega arith)))

-- the only one of one list
one_list : (P : List ℕ → Type 0) (l : List ℕ) → P l → All P (l ∷ [])
one_list P l p zero d h = p
one_list P l p (suc k) d h = absurd (omega arith)

all_own : (P : List ℕ → Type 0) (v : Drawn) → v.lists ≡ own v ∷ [] → All P v.lists → P (own v)
all_own P v mine h = subst (λ ls. All P ls) mine h 0 [] (omega arith)

pub draws : (slots id : ℕ) (me : Me (Unit {0}) Drawn) → me.0.lists ≡ own me.0 ∷ [] → length (own me.0) < 2 ^ 32
    → Allows Dealt slots id me middle (λ n. (n + 1) % 2 ^ 64) (Draws (step slots middle 1 0 none) me)
draws slots id me mine room s h _ at small =
    let n : ℕ = slice_index s.words middle in
    let v : Drawn = me.0 in
    let ts : List ℕ = own v in
    let w : Drawn = drawn ((ts ++ n ∷ []) ∷ []) v.spare in
    let bound : n ≤ 274877906944 = (let f = few s.views h.short in let c = h.counted in let t = h.seats in omega arith) in
    let m : ℕ = (n + 1) % 2 ^ 64 in
    let next : m ≡ n + 1 = omega arith in
    let row = h.row in
    let word : slice_index (set s.words middle m) middle ≡ n + 1 = get_or-set_same s.words middle m 0 (omega (arith, row)) ∙ next in
    let len : length (ts ++ n ∷ []) ≡ length ts + 1 = length-append ts (n ∷ []) in
    let below : All (λ t. t < n) ts = all_own (λ l. All (λ t. t < n) l) v mine (h.below id v at) in
    let weights : length v.lists ≡ 1 = ap length mine in (
      w,
      keeps,
      tt,
      record {
        row = length-set s.words middle m ∙ row;
        each_once = λ x.
            (let c = h.each_once x in
            let p = sum_by_push (λ (y : ℕ). cond (y == x) 1 0) ts n in
            let q = sum_at (λ (u : Drawn). times_in x u.lists) s.views id v w at in
            let f : times_in x v.lists ≡ 0 + times x ts = ap (times_in x) mine in
            let g : times_in x w.lists ≡ 0 + times x (ts ++ n ∷ []) = refl in
            let r = once_more x n in
            let e = ap (once_below x) word in
            omega arith);
        counted =
            (let c = h.counted in
            let q = sum_at (λ (u : Drawn). count_in u.lists) s.views id v w at in
            let f : count_in v.lists ≡ 0 + length ts = ap count_in mine in
            let g : count_in w.lists ≡ 0 + length (ts ++ n ∷ []) = refl in
            omega arith);
        below =
            subst (λ (z : ℕ). (k : ℕ) (u : Drawn) → get_elem? (set s.views id w) k ≡ some u → All (λ l. All (λ t. t < z) l) u.lists) (sym word)
            (each_set (λ (u : Drawn). All (λ l. All (λ t. t < n + 1) l) u.lists) s.views id w
            (λ k u e. all_lists_more u.lists n (n + 1) (omega arith) (h.below k u e))
            (one_list (λ l. All (λ t. t < n + 1) l) (ts ++ n ∷ [])
            (All-append (λ (t : ℕ). t < n + 1) ts (n ∷ []) (all_below_more ts n (n + 1) (omega arith) below) (all_one n (n + 1) (omega arith)))));
        rising = each_set (λ (u : Drawn). All Rises u.lists) s.views id w h.rising
            (one_list Rises (ts ++ n ∷ []) (Rises-push ts n (all_own Rises v mine (h.rising id v at)) below));
        seats =
            (let q = sum_at weight s.views id v w at in
            let t = h.seats in
            omega arith);
        short = each_set (λ (u : Drawn). All (λ l. length l ≤ 2 ^ 32) u.lists) s.views id w h.short
            (one_list (λ l. length l ≤ 2 ^ 32) (ts ++ n ∷ []) (omega (arith, room, len)));
      },
      record { now = refl; later = below; small = omega (arith, bound) },
    )

pub splits : (id : ℕ) (v : Drawn) → 0 < v.spare → Splits Dealt id v (drawn v.lists (v.spare - 1)) (drawn ([] ∷ []) 0)
splits id v some_spare s h at =
    let left : Drawn = drawn v.lists (v.spare - 1) in
    let right : Drawn = drawn ([] ∷ []) 0 in
    let vs : List Drawn = set s.views id left in
    record {
      row = h.row;
      each_once = λ x.
          (let c = h.each_once x in
          let p = sum_by_push (λ (u : Drawn). times_in x u.lists) vs right in
          let q = sum_at (λ (u : Drawn). times_in x u.lists) s.views id v left at in
          omega arith);
      counted =
          (let c = h.counted in
          let p = sum_by_push (λ (u : Drawn). count_in u.lists) vs right in
          let q = sum_at (λ (u : Drawn). count_in u.lists) s.views id v left at in
          omega arith);
      below = λ k u e. ⊎_elim (each_set (λ (u : Drawn). All (λ l. All (λ t. t < slice_index s.words middle) l) u.lists) s.views id left h.below (h.below id v at) k u)
          (λ (t : right ≡ u). subst (λ (u : Drawn). All (λ l. All (λ t. t < slice_index s.words middle) l) u.lists) t
          (one_list (λ l. All (λ t. t < slice_index s.words middle) l) [] (All-nil (λ t. t < slice_index s.words middle)))) (at_snoc vs right u k e);
      rising = λ k u e. ⊎_elim (each_set (λ (u : Drawn). All Rises u.lists) s.views id left h.rising (h.rising id v at) k u)
          (λ (t : right ≡ u). subst (λ (u : Drawn). All Rises u.lists) t (one_list Rises [] tt)) (at_snoc vs right u k e);
      seats =
          (let t = h.seats in
          let p = sum_by_push weight vs right in
          let q = sum_at weight s.views id v left at in
          omega arith);
      short = λ k u e. ⊎_elim (each_set (λ (u : Drawn). All (λ l. length l ≤ 2 ^ 32) u.lists) s.views id left h.short (h.short id v at) k u)
          (λ (t : right ≡ u). subst (λ (u : Drawn). All (λ l. length l ≤ 2 ^ 32) u.lists) t (one_list (λ l. length l ≤ 2 ^ 32) [] (omega arith)))
          (at_snoc vs right u k e);
    }

-- ---- ticketers are joined

-- what holds of the lists of each view holds of those that were joined
each_join : (P : List ℕ → Type 0) (l : List Drawn) (i j : ℕ) (v w : Drawn) (n : ℕ) → ((k : ℕ) (u : Drawn) → get_elem? l k ≡ some u → All P u.lists)
    → get_elem? l i ≡ some v → ¬ (j ≡ i) → get_elem? (set l i (drawn (v.lists ++ w.lists) n)) j ≡ some w
    → (k : ℕ) (u : Drawn) → get_elem? (set (set l i (drawn (v.lists ++ w.lists) n)) j (drawn [] 0)) k ≡ some u → All P u.lists
each_join P l i j v w n h at other there =
    let both : Drawn = drawn (v.lists ++ w.lists) n in
    let of_w : All P w.lists = ⊎_elim (λ (t : (j ≡ i) × (both ≡ w)). absurd (other t.0))
    (λ (t : (j ≢ i) × (get_elem? l j ≡ some w)). h j w t.1) (at_set l i j both w there) in
    each_set (λ (u : Drawn). All P u.lists) (set l i both) j (drawn [] 0)
    (each_set (λ (u : Drawn). All P u.lists) l i both h (All-append P v.lists w.lists (h i v at) of_w)) (All-nil P)

-- a sum that is that of the lists doesn't change
sum_join : (f : Drawn → ℕ) (l : List Drawn) (i j : ℕ) (v w both spent : Drawn) → f both ≡ f v + f w → f spent ≡ 0 → get_elem? l i ≡ some v
    → get_elem? (set l i both) j ≡ some w → sum_by f (set (set l i both) j spent) ≡ sum_by f l
sum_join f l i j v w both spent adds nothing at there =
    let p = sum_at f l i v both at in
    let q = sum_at f (set l i both) j w spent there in
    omega arith

pub joins : (id other : ℕ) (v w : Drawn) → Joins Dealt id v other w (drawn (v.lists ++ w.lists) (v.spare + w.spare)) (drawn [] 0)
joins id other v w s h at apart there =
    let both : Drawn = drawn (v.lists ++ w.lists) (v.spare + w.spare) in
    let spent : Drawn = drawn [] 0 in
    record {
      row = h.row;
      each_once = λ x. sum_join (λ u. times_in x u.lists) s.views id other v w both spent (sum_by-append (λ l. times x l) v.lists w.lists) refl at there
          ∙ h.each_once x;
      counted = sum_join (λ u. count_in u.lists) s.views id other v w both spent (sum_by-append (λ l. length l) v.lists w.lists) refl at there ∙ h.counted;
      below = each_join (λ l. All (λ t. t < slice_index s.words middle) l) s.views id other v w (v.spare + w.spare) h.below at apart there;
      rising = each_join Rises s.views id other v w (v.spare + w.spare) h.rising at apart there;
      seats =
          (let t = h.seats in
          let len = length-append v.lists w.lists in
          let sum = sum_join weight s.views id other v w both spent (omega (arith, len)) refl at there in
          omega (arith, t, sum));
      short = each_join (λ l. length l ≤ 2 ^ 32) s.views id other v w (v.spare + w.spare) h.short at apart there;
    }

-- ---- all tickets

-- where no view stands for a ticketer none has a ticket
none_left : (f : Drawn → ℕ) → ((u : Drawn) → weight u ≡ 0 → f u ≡ 0) → (l : List Drawn) → sum_by weight l ≡ 0 → sum_by f l ≡ 0
none_left f no_ticket [] e = refl
none_left f no_ticket (x ∷ xs) e =
    let a = sum_by-cons weight x xs in
    let b = sum_by-cons f x xs in
    let c = no_ticket x (omega (arith, a, e)) in
    let d = none_left f no_ticket xs (omega (arith, a, e)) in
    omega (arith, b, c, d)

no_lists : {X : Type 0} (l : List X) → length l ≡ 0 → l ≡ []
no_lists [] e = refl
no_lists (x ∷ xs) e = absurd (omega arith)

-- a view that stands for all ticketers has all tickets
all_of : (f : Drawn → ℕ) → ((u : Drawn) → weight u ≡ 0 → f u ≡ 0) → (l : List Drawn) (i : ℕ) (v : Drawn) → get_elem? l i ≡ some v
    → sum_by weight l ≤ 64 → weight v ≡ 64 → f v ≡ sum_by f l
all_of f no_ticket l i v at most all =
    let spent : Drawn = drawn [] 0 in
    let w = sum_at weight l i v spent at in
    let s = sum_at f l i v spent at in
    let nothing = none_left f no_ticket (set l i spent) (omega (arith, w, most, all)) in
    let zero_f = no_ticket spent refl in
    omega (arith, s, nothing, zero_f)

pub counts : (slots id : ℕ) (me : Me (Unit {0}) Drawn) → me.0.spare + length me.0.lists ≡ 64
    → Allows Dealt slots id me middle (λ n. n) (Counts (step slots middle 0 0 none) me)
counts slots id me all s h _ at small =
    let n : ℕ = slice_index s.words middle in
    let row = h.row in
    let word : slice_index (set s.words middle n) middle ≡ n = get_or-set_same s.words middle n 0 (omega (arith, row)) in (
      me.0,
      keeps,
      tt,
      subst (λ (vs : List Drawn). Dealt (record { words = set s.words middle n; homes = s.homes; views = vs })) (sym (set_again s.views id me.0 at))
          (record {
            row = length-set s.words middle n ∙ row;
            each_once = λ x. h.each_once x ∙ sym (ap (once_below x) word);
            counted = h.counted ∙ sym word;
            below = subst (λ (z : ℕ). (k : ℕ) (u : Drawn) → get_elem? s.views k ≡ some u → All (λ l. All (λ t. t < z) l) u.lists) (sym word) h.below;
            rising = h.rising;
            seats = h.seats;
            short = h.short;
          }),
      record {
        now = refl;
        dealt = record {
          each_once = λ x. all_of (λ u. times_in x u.lists)
              (λ u e. ap (times_in x) (no_lists u.lists (omega (arith, e)))) s.views id me.0 at h.seats all ∙ h.each_once x;
          counted = all_of (λ u. count_in u.lists) (λ u e. ap count_in (no_lists u.lists (omega (arith, e)))) s.views id me.0 at h.seats all ∙ h.counted;
        };
      },
    )
