-- Some calls of an order, by new numbers
use Rattle.std.proofs.Common.{◌≡◌, ◌∙◌, ℕ, zero, suc, ◌+◌, ◌<◌, ◌⊎◌, inl, inr, ◌==◌, cond, Bool, true, false, List, [], ◌∷◌, Option, None, Some}
use Rattle.std.proofs.Common.{ap, arith, length, refl, slice_get, subst, sym}
use Rattle.std.specs.Prelude.{option_map}
use Rattle.vm_base.proofs.Functions.{eq_false, eq_true}
use Rattle.orders.specs.declared.history.Item.{Item}
use Rattle.orders.specs.declared.history.Item.TheVariants.{Reply, Copy}
use Rattle.orders.specs.declared.history.Timed.{Timed}
use Rattle.orders.specs.Orders.{EachOnce, IsOf, KeepsTime, call_of}
use Rattle.orders.proofs.Lists.{get_within}

-- ---- the items that stay: replies alone

abbrev pub add : Option ℕ → List Item → List Item
add None ys = ys
add (Some j) ys = Reply j ∷ ys

abbrev pub pick : (ℕ → Option ℕ) → List Item → List Item
pick g [] = []
pick g (Reply i ∷ xs) = add (g i) (pick g xs)
pick g (Copy i ∷ xs) = pick g xs

-- where one of them was
abbrev skip : Option ℕ → (ℕ → ℕ) → ℕ → ℕ
skip None f k = suc (f k)
skip (Some j) f zero = zero
skip (Some j) f (suc k) = suc (f k)

abbrev place : (ℕ → Option ℕ) → List Item → ℕ → ℕ
place g [] k = k
place g (Reply i ∷ xs) k = skip (g i) (place g xs) k
place g (Copy i ∷ xs) k = suc (place g xs k)

record IsPicked (g : ℕ → Option ℕ) (xs : List Item) (n : ℕ) (y : Item) : Type 0 where
  call : ℕ
  number : ℕ
  at : slice_get xs n ≡ Some (Reply call)
  new : g call ≡ Some number
  is : y ≡ Reply number

later : (g : ℕ → Option ℕ) (x : Item) (xs : List Item) (n : ℕ) (y : Item) → IsPicked g xs n y → IsPicked g (x ∷ xs) (suc n) y
later g x xs n y p = record { call = p.call; number = p.number; at = p.at; new = p.new; is = p.is }

picked_at : (g : ℕ → Option ℕ) (xs : List Item) (k : ℕ) (y : Item) → slice_get (pick g xs) k ≡ Some y → IsPicked g xs (place g xs k) y
picked_at g [] k y e = absurd cc
picked_at g (Copy i ∷ xs) k y e = later g (Copy i) xs (place g xs k) y (picked_at g xs k y e)
picked_at g (Reply i ∷ xs) k y e = go (λ n h. picked_at g xs n y h) (g i) refl k e
  where
    go : ((n : ℕ) → slice_get (pick g xs) n ≡ Some y → IsPicked g xs (place g xs n) y) → (o : Option ℕ) → g i ≡ o → (n : ℕ)
        → slice_get (add o (pick g xs)) n ≡ Some y → IsPicked g (Reply i ∷ xs) (skip o (place g xs) n) y
    go more None f n h = later g (Reply i) xs (place g xs n) y (more n h)
    go more (Some j) f zero h =
        let both : Some (Reply j) ≡ Some y = h in
        let same : y ≡ Reply j = cc in record { call = i; number = j; at = refl; new = f; is = same }
    go more (Some j) f (suc n) h = later g (Reply i) xs (place g xs n) y (more n h)

-- they stay in order
rises : (g : ℕ → Option ℕ) (xs : List Item) (j k : ℕ) → j < k → k < length (pick g xs) → place g xs j < place g xs k
rises g [] j k l m = l
rises g (Copy i ∷ xs) j k l m = let more = rises g xs j k l m in omega (arith, more)
rises g (Reply i ∷ xs) j k l m = go (rises g xs) (g i) j k l m
  where
    go : ((a b : ℕ) → a < b → b < length (pick g xs) → place g xs a < place g xs b) → (o : Option ℕ) (a b : ℕ) → a < b → b < length (add o (pick g xs))
        → skip o (place g xs) a < skip o (place g xs) b
    go up None a b c d = let more = up a b c d in omega (arith, more)
    go up (Some n) zero zero c d = absurd (omega (arith, c))
    go up (Some n) zero (suc b) c d = omega arith
    go up (Some n) (suc a) zero c d = absurd (omega (arith, c))
    go up (Some n) (suc a) (suc b) c d = let more = up a b (omega (arith, c)) (omega (arith, d)) in omega (arith, more)

one_place : (g : ℕ → Option ℕ) (xs : List Item) (j k : ℕ) → j < length (pick g xs) → k < length (pick g xs) → place g xs j ≡ place g xs k → j ≡ k
one_place g xs j k a b e = by (which j k)
  where
    which : (m n : ℕ) → (m < n) ⊎ (m ≡ n) ⊎ (n < m)
    which m n = grind arith

    by : (j < k) ⊎ (j ≡ k) ⊎ (k < j) → j ≡ k
    by (inl l) = let less = rises g xs j k l b in absurd (omega (arith, less, e))
    by (inr (inl same)) = same
    by (inr (inr l)) = let less = rises g xs k j l a in absurd (omega (arith, less, e))

-- and all are there
picks : (g : ℕ → Option ℕ) (xs : List Item) (n i j : ℕ) → slice_get xs n ≡ Some (Reply i) → g i ≡ Some j
    → (k : ℕ) × (slice_get (pick g xs) k ≡ Some (Reply j))
picks g [] n i j e f = absurd cc
picks g (Copy c ∷ xs) zero i j e f = absurd cc
picks g (Copy c ∷ xs) (suc n) i j e f = picks g xs n i j e f
picks g (Reply c ∷ xs) zero i j e f = go (g c) (ap g that ∙ f)
  where
    that : c ≡ i
    that = let both : Some (Reply c) ≡ Some (Reply i) = e in cc

    go : (o : Option ℕ) → o ≡ Some j → (k : ℕ) × (slice_get (add o (pick g xs)) k ≡ Some (Reply j))
    go None h = absurd cc
    go (Some m) h = let same : m ≡ j = cc in (0, ap (λ (x : ℕ). Some (Reply x)) same)
picks g (Reply c ∷ xs) (suc n) i j e f = go (g c) (picks g xs n i j e f)
  where
    go : (o : Option ℕ) → (k : ℕ) × (slice_get (pick g xs) k ≡ Some (Reply j)) → (k : ℕ) × (slice_get (add o (pick g xs)) k ≡ Some (Reply j))
    go None h = h
    go (Some m) h = (suc h.0, h.1)

-- ---- an order of the calls that stay

-- These items stand in an order from one place on, and the calls of new numbers have the times of the old ones.
pub record Stay (h k : List Timed) (items xs : List Item) (from : ℕ) (g : ℕ → Option ℕ) : Type 0 where
  pub there : (n : ℕ) (x : Item) → slice_get xs n ≡ Some x → slice_get items (from + n) ≡ Some x
  pub times : (i j : ℕ) (d : Timed) → g i ≡ Some j → slice_get k j ≡ Some d
      → (c : Timed) × (slice_get h i ≡ Some c) × (c.begin ≡ d.begin) × (c.end ≡ d.end)
  pub known : (i j : ℕ) → g i ≡ Some j → j < length k
  pub one : (i j m : ℕ) → g i ≡ Some m → g j ≡ Some m → i ≡ j
  pub all : (j : ℕ) → j < length k → (i : ℕ) × (n : ℕ) × (g i ≡ Some j) × (slice_get xs n ≡ Some (Reply i))

number_same : (x y : Item) (a b : ℕ) → x ≡ Reply a → x ≡ Reply b → a ≡ b
number_same x y a b e f = let both : Reply a ≡ Reply b = sym e ∙ f in cc

pub stay_once : (h k : List Timed) (items xs : List Item) (from : ℕ) (g : ℕ → Option ℕ) → Stay h k items xs from g → EachOnce (length h) items
    → EachOnce (length k) (pick g xs)
stay_once h k items xs from g s o = record {
  known = known;
  some = λ j l. let a = s.all j l in picks g xs a.1 a.0 j a.3 a.2;
  once = once;
  copies = copies;
}
  where
    known : (n : ℕ) (y : Item) → slice_get (pick g xs) n ≡ Some y → call_of y < length k
    known n y e =
        let p = picked_at g xs n y e in
        let less = s.known p.call p.number p.new in
        subst (λ (x : Item). call_of x < length k) (sym p.is) less

    once : (i j n : ℕ) → slice_get (pick g xs) j ≡ Some (Reply i) → slice_get (pick g xs) n ≡ Some (Reply i) → j ≡ n
    once i j n e f =
        let p = picked_at g xs j (Reply i) e in
        let q = picked_at g xs n (Reply i) f in
        let a : i ≡ p.number = number_same (Reply i) (Reply i) i p.number refl p.is in
        let b : i ≡ q.number = number_same (Reply i) (Reply i) i q.number refl q.is in
        let calls : p.call ≡ q.call = s.one p.call q.call i (p.new ∙ ap Some (sym a)) (q.new ∙ ap Some (sym b)) in
        let here = s.there (place g xs j) (Reply p.call) p.at in
        let there = s.there (place g xs n) (Reply q.call) q.at in
        let places = o.once p.call (from + place g xs j) (from + place g xs n) here
        (subst (λ (c : ℕ). slice_get items (from + place g xs n) ≡ Some (Reply c)) (sym calls) there) in
        one_place g xs j n (get_within (pick g xs) j (Reply i) e) (get_within (pick g xs) n (Reply i) f) (omega (arith, places))

    copies : (i j n : ℕ) → slice_get (pick g xs) j ≡ Some (Copy i) → slice_get (pick g xs) n ≡ Some (Reply i) → j < n
    copies i j n e f = let p = picked_at g xs j (Copy i) e in let wrong : Copy i ≡ Reply p.number = p.is in absurd cc

-- the call of an item that stays
record WasOf (h : List Timed) (items xs : List Item) (from n : ℕ) (a : Timed) : Type 0 where
  call : Timed
  of : IsOf h items (from + n) call
  begins : call.begin ≡ a.begin
  ends : call.end ≡ a.end

was_of : (h k : List Timed) (items xs : List Item) (from : ℕ) (g : ℕ → Option ℕ) (n : ℕ) (a : Timed) → Stay h k items xs from g
    → IsOf k (pick g xs) n a → WasOf h items xs from (place g xs n) a
was_of h k items xs from g n a s o =
    let p = picked_at g xs n o.item o.at in
    let number : call_of o.item ≡ p.number = ap call_of p.is in
    let got : slice_get k p.number ≡ Some a = ap (slice_get k) (sym number) ∙ o.call in
    let t = s.times p.call p.number a p.new got in
    record {
      call = t.0;
      of = record { item = Reply p.call; at = s.there (place g xs n) (Reply p.call) p.at; call = t.1 };
      begins = t.2;
      ends = t.3;
    }

pub stay_time : (h k : List Timed) (items xs : List Item) (from : ℕ) (g : ℕ → Option ℕ) → Stay h k items xs from g → KeepsTime h items
    → KeepsTime k (pick g xs)
stay_time h k items xs from g s keeps i j a b l oa ob early =
    let x = was_of h k items xs from g i a s oa in
    let y = was_of h k items xs from g j b s ob in
    let less = rises g xs i j l (get_within (pick g xs) j ob.item ob.at) in
    let begins = x.begins in
    let ends = y.ends in
    keeps (from + place g xs i) (from + place g xs j) x.call y.call (omega (arith, less)) x.of y.of (omega (arith, begins, ends, early))

-- ---- numbers in a list

abbrev pub number_in : List ℕ → ℕ → Option ℕ
number_in [] i = None
number_in (x ∷ xs) i = cond (x == i) (Some 0) (option_map suc (number_in xs i))

pub number_got : (xs : List ℕ) (i j : ℕ) → number_in xs i ≡ Some j → slice_get xs j ≡ Some i
number_got [] i j e = absurd cc
number_got (x ∷ xs) i j e = go (number_got xs i) (x == i) refl e
  where
    after : ((m : ℕ) → number_in xs i ≡ Some m → slice_get xs m ≡ Some i) → (o : Option ℕ) → number_in xs i ≡ o → option_map suc o ≡ Some j
        → slice_get (x ∷ xs) j ≡ Some i
    after more None f h = absurd cc
    after more (Some m) f h =
        let both : Some (suc m) ≡ Some j = h in
        let same : suc m ≡ j = cc in
        subst (λ (n : ℕ). slice_get (x ∷ xs) n ≡ Some i) same (more m f)

    go : ((m : ℕ) → number_in xs i ≡ Some m → slice_get xs m ≡ Some i) → (b : Bool) → (x == i) ≡ b
        → cond b (Some 0) (option_map suc (number_in xs i)) ≡ Some j → slice_get (x ∷ xs) j ≡ Some i
    go more true f h =
        let both : Some 0 ≡ Some j = h in
        let same : 0 ≡ j = cc in
        subst (λ (n : ℕ). slice_get (x ∷ xs) n ≡ Some i) same (ap Some (eq_true x i f))
    go more false f h = after more (number_in xs i) refl h

pub number_there : (xs : List ℕ) (i n : ℕ) → slice_get xs n ≡ Some i → (j : ℕ) × (number_in xs i ≡ Some j)
number_there [] i n e = absurd cc
number_there (x ∷ xs) i n e = go (number_there xs i) (x == i) refl n e
  where
    go : ((m : ℕ) → slice_get xs m ≡ Some i → (j : ℕ) × (number_in xs i ≡ Some j)) → (b : Bool) → (x == i) ≡ b → (m : ℕ) → slice_get (x ∷ xs) m ≡ Some i
        → (j : ℕ) × (cond b (Some 0) (option_map suc (number_in xs i)) ≡ Some j)
    go more true f m h = (0, refl)
    go more false f zero h = let both : Some x ≡ Some i = h in let same : x ≡ i = cc in absurd (eq_false x i f same)
    go more false f (suc m) h = let r = more m h in (suc r.0, ap (option_map suc) r.1)

-- each once
abbrev pub AreDistinct : List ℕ → Type 0
AreDistinct xs = (j k i : ℕ) → slice_get xs j ≡ Some i → slice_get xs k ≡ Some i → j ≡ k

pub number_at : (xs : List ℕ) (i n : ℕ) → AreDistinct xs → slice_get xs n ≡ Some i → number_in xs i ≡ Some n
number_at xs i n d e =
    let r = number_there xs i n e in r.1 ∙ ap Some (d r.0 n i (number_got xs i r.0 r.1) e)
