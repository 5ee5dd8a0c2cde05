-- A core without an order shows that its history has none
use Rattle.std.proofs.Common.{◌≡◌, ◌∙◌, ℕ, zero, suc, ◌+◌, ◌<◌, ◌≤◌, ◌⊎◌, inl, inr, ◌||◌, cond, nat_le, nat_lt, Bool, true, false}
use Rattle.std.proofs.Common.{List, [], ◌∷◌, ◌++◌, Option, None, Some, ap, arith, length, map, refl, slice_get, subst, sym}
use Rattle.std.specs.Prelude.{option_map}
use Rattle.std.proofs.lemmas.Bool.Decides.{nat_tests}
use Rattle.std.proofs.lemmas.Option.{slice_get-map}
use Rattle.vm_base.specs.declared.page.PageRange.{PageRange}
use Rattle.vm_base.specs.Log.{RepliesBy}
use Rattle.vm_base.specs.Places.{PlaceRule}
use Rattle.vm_base.specs.Plain.{Plain}
use Rattle.orders.specs.declared.history.Item.{Item}
use Rattle.orders.specs.declared.history.Item.TheVariants.{Reply}
use Rattle.orders.specs.declared.history.Timed.{Timed}
use Rattle.orders.specs.Orders.{HasOrder, IsOf, IsOrder, LeadAll, Leads, call_of}
use Rattle.orders.proofs.Lists.{get_within}
use Rattle.no_order.proofs.Fronts.{front_leads, get_front}
use Rattle.audit.specs.Placing.{rule_of}
use Rattle.vm_base.specs.Plain.{File, nothing_mapped}
use Rattle.cores.specs.declared.kept.Kept.{Kept}
use Rattle.cores.specs.declared.finding.Core.{Core}
use Rattle.cores.specs.Shown.{IsShown}
use Rattle.cores.specs.Cores.{AreTimely, HasNone, IsAmong, IsBase, IsBuilt, IsBuiltBy, IsChoice, IsCore, IsKept, IsTimely}
use Rattle.cores.specs.Cores.{is_left_out, timed_of}
use Rattle.cores.specs.Parts.{IsPart, IsResetAt, is_aside}
use Rattle.cores.proofs.Agreeing.{reset_goes}
use Rattle.cores.proofs.Leading.{Follows, Grows, IsTimelyCall, WillReset, lead_grow, lead_on}
use Rattle.cores.proofs.Choosing.{at_stands, choose, choose_in, choose_of, choose_rises, is_choice, rises_distinct, stands, stands_at}
use Rattle.cores.proofs.Picking.{AreDistinct, Stay, number_at, number_got, number_in, number_there, pick, add, stay_once, stay_time}

-- ---- items until the cut

abbrev unless_late : ℕ → Option Timed → Item → List Item → List Item
unless_late cut None x ys = []
unless_late cut (Some c) x ys = cond (nat_lt cut c.begin) [] (x ∷ ys)

abbrev until : ℕ → List Timed → List Item → List Item
until cut h [] = []
until cut h (x ∷ xs) = unless_late cut (slice_get h (call_of x)) x (until cut h xs)

-- they are the first ones
until_first : (cut : ℕ) (h : List Timed) (xs : List Item) → (post : List Item) × (until cut h xs ++ post ≡ xs)
until_first cut h [] = ([], refl)
until_first cut h (x ∷ xs) = go (slice_get h (call_of x)) (until_first cut h xs)
  where
    late : (b : Bool) → (post : List Item) × (until cut h xs ++ post ≡ xs) → (post : List Item) × (cond b [] (x ∷ until cut h xs) ++ post ≡ x ∷ xs)
    late true r = (x ∷ xs, refl)
    late false r = (r.0, ap (λ (ys : List Item). x ∷ ys) r.1)

    go : (o : Option Timed) → (post : List Item) × (until cut h xs ++ post ≡ xs)
        → (post : List Item) × (unless_late cut o x (until cut h xs) ++ post ≡ x ∷ xs)
    go None r = (x ∷ xs, refl)
    go (Some c) r = late (nat_lt cut c.begin) r

-- none of them began later
until_early : (cut : ℕ) (h : List Timed) (xs : List Item) (n : ℕ) (y : Item) (d : Timed) → slice_get (until cut h xs) n ≡ Some y
    → slice_get h (call_of y) ≡ Some d → nat_lt cut d.begin ≡ false
until_early cut h [] n y d e f = absurd cc
until_early cut h (x ∷ xs) n y d e f = go (λ m g. until_early cut h xs m y d g f) (slice_get h (call_of x)) refl e
  where
    late : ((m : ℕ) → slice_get (until cut h xs) m ≡ Some y → nat_lt cut d.begin ≡ false) → (c : Timed) (b : Bool) → nat_lt cut c.begin ≡ b
        → slice_get h (call_of x) ≡ Some c → (m : ℕ)
        → slice_get (cond b [] (x ∷ until cut h xs)) m ≡ Some y → nat_lt cut d.begin ≡ false
    late more c true is got m g = absurd cc
    late more c false is got zero g =
        let both : Some x ≡ Some y = g in
        let same : x ≡ y = cc in
        let calls : Some c ≡ Some d = sym got ∙ (ap (λ (z : Item). slice_get h (call_of z)) same ∙ f) in
        let that : c ≡ d = cc in
        subst (λ (z : Timed). nat_lt cut z.begin ≡ false) that is
    late more c false is got (suc m) g = more m g

    go : ((m : ℕ) → slice_get (until cut h xs) m ≡ Some y → nat_lt cut d.begin ≡ false) → (o : Option Timed) → slice_get h (call_of x) ≡ o
        → slice_get (unless_late cut o x (until cut h xs)) n ≡ Some y → nat_lt cut d.begin ≡ false
    go more None got g = absurd cc
    go more (Some c) got g = late more c (nat_lt cut c.begin) refl got n g

until_next : (cut : ℕ) (h : List Timed) (x : Item) (xs : List Item) (n : ℕ) (y : Item)
    → (c : Timed) × (slice_get h (call_of x) ≡ Some c) × (nat_lt cut c.begin ≡ false) → slice_get (x ∷ until cut h xs) n ≡ Some y
    → slice_get (until cut h (x ∷ xs)) n ≡ Some y
until_next cut h x xs n y r e =
    subst (λ (o : Option Timed). slice_get (unless_late cut o x (until cut h xs)) n ≡ Some y) (sym r.1)
    (subst (λ (b : Bool). slice_get (cond b [] (x ∷ until cut h xs)) n ≡ Some y) (sym r.2) e)

-- one before which none began later is there
until_has : (cut : ℕ) (h : List Timed) (xs : List Item) (n : ℕ) (y : Item) → slice_get xs n ≡ Some y
    → ((m : ℕ) (x : Item) → m ≤ n → slice_get xs m ≡ Some x → (c : Timed) × (slice_get h (call_of x) ≡ Some c) × (nat_lt cut c.begin ≡ false))
    → slice_get (until cut h xs) n ≡ Some y
until_has cut h [] n y e early = absurd cc
until_has cut h (x ∷ xs) zero y e early = until_next cut h x xs zero y (early 0 x (omega arith) refl) e
until_has cut h (x ∷ xs) (suc n) y e early =
    until_next cut h x xs (suc n) y (early 0 x (omega arith) refl) (until_has cut h xs n y e (λ k z l g. early (suc k) z (omega (arith, l)) g))

-- ---- an order from one item on

record IsSplit (items : List Item) (at : ℕ) (x : Item) : Type 0 where
  pre : List Item
  rest : List Item
  whole : pre ++ x ∷ rest ≡ items
  from : (n : ℕ) (y : Item) → slice_get rest n ≡ Some y → slice_get items (at + 1 + n) ≡ Some y
  back : (n : ℕ) (y : Item) → at < n → slice_get items n ≡ Some y → (m : ℕ) × (n ≡ at + 1 + m) × (slice_get rest m ≡ Some y)

split_later : (y : Item) (ys : List Item) (at : ℕ) (x : Item) → IsSplit ys at x → IsSplit (y ∷ ys) (suc at) x
split_later y ys at x s = record {
  pre = y ∷ s.pre;
  rest = s.rest;
  whole = ap (λ (zs : List Item). y ∷ zs) s.whole;
  from = λ n z f. later n z f;
  back = λ n z l f. earlier n z l f;
}
  where
    later : (n : ℕ) (z : Item) → slice_get s.rest n ≡ Some z → slice_get (y ∷ ys) (suc at + 1 + n) ≡ Some z
    later n z f =
        let e2 : suc at + 1 + n ≡ suc (at + 1 + n) = omega arith in
        subst (λ (k : ℕ). slice_get (y ∷ ys) k ≡ Some z) (sym e2) (s.from n z f)

    earlier : (n : ℕ) (z : Item) → suc at < n → slice_get (y ∷ ys) n ≡ Some z → (m : ℕ) × (n ≡ suc at + 1 + m) × (slice_get s.rest m ≡ Some z)
    earlier zero z l f = absurd (omega (arith, l))
    earlier (suc n) z l f = let r = s.back n z (omega (arith, l)) f in let is = r.1 in (r.0, omega (arith, is), r.2)

split_at : (items : List Item) (at : ℕ) (x : Item) → slice_get items at ≡ Some x → IsSplit items at x
split_at [] at x e = absurd cc
split_at (y ∷ ys) zero x e =
    let both : Some y ≡ Some x = e in
    let same : y ≡ x = cc in
    record {
      pre = [];
      rest = ys;
      whole = ap (λ (z : Item). z ∷ ys) (sym same);
      from = λ n z f. later n z f;
      back = λ n z l f. earlier n z l f;
    }
  where
    later : (n : ℕ) (z : Item) → slice_get ys n ≡ Some z → slice_get (y ∷ ys) (0 + 1 + n) ≡ Some z
    later n z f = let e2 : 0 + 1 + n ≡ suc n = omega arith in subst (λ (k : ℕ). slice_get (y ∷ ys) k ≡ Some z) (sym e2) f

    earlier : (n : ℕ) (z : Item) → 0 < n → slice_get (y ∷ ys) n ≡ Some z → (m : ℕ) × (n ≡ 0 + 1 + m) × (slice_get ys m ≡ Some z)
    earlier zero z l f = absurd (omega (arith, l))
    earlier (suc n) z l f = (n, omega arith, f)
split_at (y ∷ ys) (suc at) x e = split_later y ys at x (split_at ys at x e)

-- ---- the core of an order

either_way : (a b c : Bool) → (a || b || c) ≡ true → a ≡ false → b ≡ false → c ≡ true
either_way a b c e f g =
    subst (λ (x : Bool). (x || c) ≡ true) g (subst (λ (x : Bool). (x || b || c) ≡ true) f e)

not_less : (m n : ℕ) → ¬ (m < n) → nat_lt m n ≡ false
not_less m n l = go (nat_lt m n) refl
  where
    go : (b : Bool) → nat_lt m n ≡ b → b ≡ false
    go true e = let less : m < n = grind (arith, nat_tests) in absurd (l less)
    go false e = refl

-- two names of one call
timed_same : (a b : Timed) → Some a ≡ Some b → a ≡ b
timed_same a b e = cc

-- a call that builds the map
record Builds (x built : ℕ) (ks : List Kept) : Type 0 where
  at : ℕ
  call : Kept
  is : slice_get ks at ≡ Some call
  early : nat_le call.timed.end built ≡ true
  closed : call.is_open ≡ false
  resets : IsResetAt x call.timed.call.request call.timed.call.reply

pub closed_if : (built : ℕ) (k : Kept) → IsTimely built k → nat_le k.timed.end built ≡ true → k.is_open ≡ false
closed_if built k (inl early) e = early.1
closed_if built k (inr late) e = let wrong : true ≡ false = sym e ∙ late.0 in absurd cc

builds_later : (x built : ℕ) (k : Kept) (ks : List Kept) → Builds x built ks → Builds x built (k ∷ ks)
builds_later x built k ks b =
    record { at = suc b.at; call = b.call; is = b.is; early = b.early; closed = b.closed; resets = b.resets }

built_by : (x built : ℕ) (ks : List Kept) → AreTimely built ks → IsBuiltBy x built ks → Builds x built ks
built_by x built [] timely none = absurd none
built_by x built (k ∷ ks) timely (inl here) =
    record { at = 0; call = k; is = refl; early = here.0; closed = closed_if built k timely.0 here.0; resets = here.1 }
built_by x built (k ∷ ks) timely (inr more) = builds_later x built k ks (built_by x built ks timely.1 more)

timely_call : (built : ℕ) (k : Kept) → IsTimely built k → IsTimelyCall built k.timed
timely_call built k (inl early) = inl (early.0, early.2)
timely_call built k (inr late) = inr late

timely_at : (built : ℕ) (ks : List Kept) (n : ℕ) (k : Kept) → AreTimely built ks → slice_get ks n ≡ Some k → IsTimelyCall built k.timed
timely_at built [] n k timely e = absurd cc
timely_at built (d ∷ ds) zero k timely e =
    let both : Some d ≡ Some k = e in
    let same : d ≡ k = cc in
    timely_call built k (subst (λ (x : Kept). IsTimely built x) same timely.0)
timely_at built (d ∷ ds) (suc n) k timely e = timely_at built ds n k timely.1 e

pub core_order : (rule : PlaceRule) (t z : Plain) (h : List Timed) (p : PageRange) (number : ℕ) (first start : Timed) (built cut : ℕ)
    (ks : List Kept) → IsCore h p number first start built cut ks → HasOrder rule t h
    → (chosen : List Kept) × IsChoice ks chosen × HasOrder rule z (start ∷ map timed_of chosen)
core_order rule t z h p number first start built cut ks core has_order = (chosen, is_choice (stands mid) ks sure_stands, record { items = pick g seg; is_order = order })
  where
    items : List Item
    items = has_order.items

    o : IsOrder rule t h items
    o = has_order.is_order

    -- where the first call takes effect
    found : (a : ℕ) × (slice_get items a ≡ Some (Reply number))
    found = o.each_once.some number (get_within h number first core.at)

    a : ℕ
    a = found.0

    s : IsSplit items a (Reply number)
    s = split_at items a (Reply number) found.1

    mid : List Item
    mid = until cut h s.rest

    post : (post : List Item) × (mid ++ post ≡ s.rest)
    post = until_first cut h s.rest

    seg : List Item
    seg = Reply number ∷ mid

    chosen : List Kept
    chosen = choose (stands mid) ks

    names : List ℕ
    names = number ∷ map (λ (k : Kept). k.number) chosen

    g : ℕ → Option ℕ
    g = number_in names

    core_calls : List Timed
    core_calls = start ∷ map timed_of chosen

    mid_at : (n : ℕ) (y : Item) → slice_get mid n ≡ Some y → slice_get items (a + 1 + n) ≡ Some y
    mid_at n y e = s.from n y (subst (λ (ys : List Item). slice_get ys n ≡ Some y) post.1 (get_front mid post.0 n y e))

    call_known : (n : ℕ) (y : Item) → slice_get items n ≡ Some y → (c : Timed) × (slice_get h (call_of y) ≡ Some c)
    call_known n y e = go h (call_of y) (o.each_once.known n y e)
      where
        go : (xs : List Timed) (i : ℕ) → i < length xs → (c : Timed) × (slice_get xs i ≡ Some c)
        go [] i l = absurd (omega (arith, l))
        go (x ∷ xs) zero l = (x, refl)
        go (x ∷ xs) (suc i) l = go xs i (omega (arith, l))

    first_of : IsOf h items a first
    first_of = record { item = Reply number; at = found.1; call = core.at }

    -- a call that has surely taken effect stands behind the first, and before the cut
    sure_stands : (n : ℕ) (k : Kept) → slice_get ks n ≡ Some k → k.is_open ≡ false → stands mid k.number ≡ true
    sure_stands n k e closed = by (which b a)
      where
        kept : IsKept h p number first cut k
        kept = core.all.kept n k e

        times : (first.end < kept.whole.begin) × (kept.whole.begin ≤ cut) × (kept.whole.end ≤ cut)
        times = kept.sure closed

        it : (b : ℕ) × (slice_get items b ≡ Some (Reply k.number))
        it = o.each_once.some k.number (get_within h k.number kept.whole kept.at)

        b : ℕ
        b = it.0

        it_of : IsOf h items b kept.whole
        it_of = record { item = Reply k.number; at = it.1; call = kept.at }

        which : (m n : ℕ) → (m < n) ⊎ (m ≡ n) ⊎ (n < m)
        which m n = grind arith

        early : (m : ℕ) → b ≡ a + 1 + m → (x : ℕ) (y : Item) → x ≤ m → slice_get s.rest x ≡ Some y
            → (c : Timed) × (slice_get h (call_of y) ≡ Some c) × (nat_lt cut c.begin ≡ false)
        early m is x y l f = at_place (which x m)
          where
            where_at : slice_get items (a + 1 + x) ≡ Some y
            where_at = s.from x y f

            c : (c : Timed) × (slice_get h (call_of y) ≡ Some c)
            c = call_known (a + 1 + x) y where_at

            c_of : IsOf h items (a + 1 + x) c.0
            c_of = record { item = y; at = where_at; call = c.1 }

            at_place : (x < m) ⊎ (x ≡ m) ⊎ (m < x) → (c : Timed) × (slice_get h (call_of y) ≡ Some c) × (nat_lt cut c.begin ≡ false)
            at_place (inl less) = (
              c.0,
              c.1,
              not_less cut c.0.begin (λ late.
                  let ended = times.2 in
                  o.keeps_time (a + 1 + x) b c.0 kept.whole (omega (arith, less, is)) c_of it_of (omega (arith, ended, late))),
            )
            at_place (inr (inl same)) =
                let here : slice_get items b ≡ Some y =
                subst (λ (i : ℕ). slice_get items i ≡ Some y) (omega (arith, same, is)) where_at in
                let both : Some y ≡ Some (Reply k.number) = sym here ∙ it.1 in
                let that : y ≡ Reply k.number = cc in
                let begun = times.1 in
                (kept.whole, ap (λ (i : Item). slice_get h (call_of i)) that ∙ kept.at, not_less cut kept.whole.begin (λ late. omega (arith, begun, late)))
            at_place (inr (inr more)) = absurd (omega (arith, more, l))

        by : (b < a) ⊎ (b ≡ a) ⊎ (a < b) → stands mid k.number ≡ true
        by (inl less) = absurd (o.keeps_time b a kept.whole first less it_of first_of times.0)
        by (inr (inl same)) =
            let both : Some (Reply k.number) ≡ Some (Reply number) = sym it.1 ∙ (ap (slice_get items) same ∙ found.1) in
            let numbers : k.number ≡ number = cc in
            absurd (kept.other numbers)
        by (inr (inr more)) =
            let r = s.back b (Reply k.number) more it.1 in
            at_stands mid k.number r.0 (until_has cut h s.rest r.0 (Reply k.number) r.2 (early r.0 r.1))

    -- a chosen call
    named : (m i : ℕ) → slice_get (map (λ (k : Kept). k.number) chosen) m ≡ Some i → (k : Kept) × (slice_get chosen m ≡ Some k) × (k.number ≡ i)
    named m i e = go (slice_get chosen m) refl (sym (slice_get-map (λ (k : Kept). k.number) chosen m) ∙ e)
      where
        go : (q : Option Kept) → slice_get chosen m ≡ q → option_map (λ (k : Kept). k.number) q ≡ Some i
            → (k : Kept) × (slice_get chosen m ≡ Some k) × (k.number ≡ i)
        go None f h2 = absurd cc
        go (Some k) f h2 = let both : Some k.number ≡ Some i = h2 in let same : k.number ≡ i = cc in (k, f, same)

    timed_at : (m : ℕ) (k : Kept) → slice_get chosen m ≡ Some k → slice_get (map timed_of chosen) m ≡ Some k.timed
    timed_at m k e = slice_get-map timed_of chosen m ∙ ap (option_map timed_of) e

    kept_of : (m : ℕ) (k : Kept) → slice_get chosen m ≡ Some k → IsKept h p number first cut k
    kept_of m k e = let w = choose_of (stands mid) ks m k e in core.all.kept w.at k w.is

    distinct : AreDistinct names
    distinct zero zero i e f = refl
    distinct zero (suc n) i e f =
        let k = named n i f in
        let both : Some number ≡ Some i = e in
        let same : number ≡ i = cc in
        absurd ((kept_of n k.0 k.1).other (k.2 ∙ sym same))
    distinct (suc j) zero i e f =
        let k = named j i e in
        let both : Some number ≡ Some i = f in
        let same : number ≡ i = cc in
        absurd ((kept_of j k.0 k.1).other (k.2 ∙ sym same))
    distinct (suc j) (suc n) i e f =
        let k = named j i e in
        let d = named n i f in
        ap suc (rises_distinct 0 chosen j n k.0 d.0 (choose_rises 0 (stands mid) ks core.all.rises) k.1 d.1 (k.2 ∙ sym d.2))

    -- what a number stands for
    is_of : (i j : ℕ) → slice_get names j ≡ Some i
        → (c : Timed) × (d : Timed) × (slice_get h i ≡ Some c) × (slice_get core_calls j ≡ Some d) × (c.begin ≡ d.begin) × (c.end ≡ d.end)
        × IsPart p c.call d.call
    is_of i zero e =
        let both : Some number ≡ Some i = e in
        let same : number ≡ i = cc in
        (first, start, ap (slice_get h) (sym same) ∙ core.at, refl, sym core.starts.begins, sym core.starts.ends, core.starts.part)
    is_of i (suc m) e =
        let k = named m i e in
        let kept = kept_of m k.0 k.1 in
        (kept.whole, k.0.timed, ap (slice_get h) (sym k.2) ∙ kept.at, timed_at m k.0 k.1, sym kept.begins, sym kept.ends, kept.part)

    long : (j : ℕ) → j < length core_calls → (i : ℕ) × (slice_get names j ≡ Some i)
    long zero l = (number, refl)
    long (suc m) l = go (slice_get chosen m) refl
      where
        has_it : (xs : List Kept) (n : ℕ) → n < length (map timed_of xs) → (k : Kept) × (slice_get xs n ≡ Some k)
        has_it [] n less = absurd (omega (arith, less))
        has_it (x ∷ xs) zero less = (x, refl)
        has_it (x ∷ xs) (suc n) less = has_it xs n (omega (arith, less))

        go : (q : Option Kept) → slice_get chosen m ≡ q → (i : ℕ) × (slice_get names (suc m) ≡ Some i)
        go q f =
            let k = has_it chosen m (omega (arith, l)) in
            (k.0.number, slice_get-map (λ (k : Kept). k.number) chosen m ∙ ap (option_map (λ (k : Kept). k.number)) k.1)

    stay : Stay h core_calls items seg a g
    stay = record { there = there; times = times; known = known; one = one; all = all }
      where
        there : (n : ℕ) (x : Item) → slice_get seg n ≡ Some x → slice_get items (a + n) ≡ Some x
        there zero x e = let is : a + 0 ≡ a = omega arith in subst (λ (i : ℕ). slice_get items i ≡ Some x) (sym is) (found.1 ∙ e)
        there (suc n) x e =
            let is : a + suc n ≡ a + 1 + n = omega arith in subst (λ (i : ℕ). slice_get items i ≡ Some x) (sym is) (mid_at n x e)

        times : (i j : ℕ) (d : Timed) → g i ≡ Some j → slice_get core_calls j ≡ Some d
            → (c : Timed) × (slice_get h i ≡ Some c) × (c.begin ≡ d.begin) × (c.end ≡ d.end)
        times i j d e f =
            let r = is_of i j (number_got names i j e) in
            let both : Some r.1 ≡ Some d = sym r.3 ∙ f in
            let same : r.1 ≡ d = cc in
            (r.0, r.2, r.4 ∙ ap (λ (x : Timed). x.begin) same, r.5 ∙ ap (λ (x : Timed). x.end) same)

        known : (i j : ℕ) → g i ≡ Some j → j < length core_calls
        known i j e = let r = is_of i j (number_got names i j e) in get_within core_calls j r.1 r.3

        one : (i j m : ℕ) → g i ≡ Some m → g j ≡ Some m → i ≡ j
        one i j m e f =
            let both : Some i ≡ Some j = sym (number_got names i m e) ∙ number_got names j m f in cc

        all : (j : ℕ) → j < length core_calls → (i : ℕ) × (n : ℕ) × (g i ≡ Some j) × (slice_get seg n ≡ Some (Reply i))
        all zero l = (number, 0, number_at names number 0 distinct refl, refl)
        all (suc m) l =
            let r = long (suc m) l in
            let k = named m r.0 r.1 in
            let w = choose_of (stands mid) ks m k.0 k.1 in
            let stood = stands_at mid k.0.number w.stood in
            (r.0, suc stood.0, number_at names r.0 (suc m) distinct r.1, stood.1 ∙ ap (λ (i : ℕ). Some (Reply i)) k.2)

    follows : Follows p h core_calls g mid
    follows = record { stays = stays; goes = goes }
      where
        stays : (i j : ℕ) (c : Timed) → g i ≡ Some j → slice_get h i ≡ Some c → (d : Timed) × (slice_get core_calls j ≡ Some d) × IsPart p c.call d.call
        stays i j c e f =
            let r = is_of i j (number_got names i j e) in
            let both : Some r.0 ≡ Some c = sym r.2 ∙ f in
            let same : r.0 ≡ c = cc in
            (r.1, r.3, subst (λ (x : Timed). IsPart p x.call r.1.call) same r.6)

        goes : (n i : ℕ) (c : Timed) → slice_get mid n ≡ Some (Reply i) → g i ≡ None → slice_get h i ≡ Some c → is_aside p c.call ≡ true
        goes n i c e none got = by (core.all.all i c got)
          where
            never : (j : ℕ) → slice_get names j ≡ Some i → ⊥
            never j f = let r = number_there names i j f in let wrong : None ≡ Some r.0 = sym none ∙ r.1 in absurd cc

            behind : ¬ (c.end < first.begin)
            behind ended =
                o.keeps_time a (a + 1 + n) first c (omega arith) first_of (record { item = Reply i; at = mid_at n (Reply i) e; call = got }) ended

            by : (i ≡ number) ⊎ (is_left_out p first cut c ≡ true) ⊎ IsAmong i ks → is_aside p c.call ≡ true
            by (inl same) = absurd (never 0 (ap Some (sym same)))
            by (inr (inl out)) =
                either_way (nat_lt c.end first.begin) (nat_lt cut c.begin) (is_aside p c.call) out (not_less c.end first.begin behind)
                (until_early cut h s.rest n (Reply i) c e got)
            by (inr (inr among)) =
                let stood : stands mid among.1.number ≡ true = ap (stands mid) among.3 ∙ at_stands mid i n e in
                let r = choose_in (stands mid) ks among.0 among.1 among.2 stood in
                absurd (never (suc r.0) (slice_get-map (λ (k : Kept). k.number) chosen r.0 ∙ (ap (option_map (λ (k : Kept). k.number)) r.1 ∙ ap Some among.3)))

    new_first : g number ≡ Some 0
    new_first = number_at names number 0 distinct refl

    -- the calls that build the map
    follows_first : Follows p h core_calls g seg
    follows_first = record { stays = follows.stays; goes = goes }
      where
        goes : (n i : ℕ) (c : Timed) → slice_get seg n ≡ Some (Reply i) → g i ≡ None → slice_get h i ≡ Some c → is_aside p c.call ≡ true
        goes zero i c e none got =
            let both : Some (Reply number) ≡ Some (Reply i) = e in
            let same : number ≡ i = cc in
            let there : g i ≡ Some 0 = ap g (sym same) ∙ new_first in
            let gone : g i ≡ None = none in absurd cc
        goes (suc n) i c e none got = follows.goes n i c e none got

    grows : IsBuilt p start built ks → Grows p built h core_calls g (λ x. ⊥) seg
    grows b = record { covers = λ x in_p. inr (by x (b.pages x in_p)); kinds = kinds; time = time; times = times }
      where
        by : (x : ℕ) → IsResetAt x start.call.request start.call.reply ⊎ IsBuiltBy x built ks → WillReset built h core_calls g seg x
        by x (inl resets) = record {
          at = 0;
          call = number;
          number = 0;
          whole = first;
          part = start;
          stands = refl;
          got = core.at;
          new = new_first;
          is = refl;
          ends = sym core.starts.ends;
          early = b.first;
          resets = resets;
        }
        by x (inr more) =
            let k = built_by x built ks b.timely more in
            let kept = core.all.kept k.at k.call k.is in
            let there = sure_stands k.at k.call k.is k.closed in
            let place = stands_at mid k.call.number there in
            let c = choose_in (stands mid) ks k.at k.call k.is there in
            let named_so = slice_get-map (λ (k : Kept). k.number) chosen c.0 ∙ ap (option_map (λ (k : Kept). k.number)) c.1 in
            record {
              at = suc place.0;
              call = k.call.number;
              number = suc c.0;
              whole = kept.whole;
              part = k.call.timed;
              stands = place.1;
              got = kept.at;
              new = number_at names k.call.number (suc c.0) distinct named_so;
              is = timed_at c.0 k.call c.1;
              ends = sym kept.ends;
              early = k.early;
              resets = k.resets;
            }

        kinds : (i j : ℕ) (d : Timed) → g i ≡ Some j → slice_get core_calls j ≡ Some d → IsTimelyCall built d
        kinds i zero d e f =
            subst (λ (x : Timed). IsTimelyCall built x) (timed_same start d f) (inl (b.first, b.sets))
        kinds i (suc m) d e f =
            let k = named m i (number_got names i (suc m) e) in
            let w = choose_of (stands mid) ks m k.0 k.1 in
            subst (λ (x : Timed). IsTimelyCall built x) (timed_same k.0.timed d (sym (timed_at m k.0 k.1) ∙ f))
            (timely_at built ks w.at k.0 b.timely w.is)

        time : (m n i j : ℕ) (c d : Timed) → m < n → slice_get seg m ≡ Some (Reply i) → slice_get seg n ≡ Some (Reply j) → slice_get h i ≡ Some c
            → slice_get h j ≡ Some d → ¬ (d.end < c.begin)
        time m n i j c d l e f got_c got_d =
            o.keeps_time (a + m) (a + n) c d (omega (arith, l)) (record { item = Reply i; at = stay.there m (Reply i) e; call = got_c })
            (record { item = Reply j; at = stay.there n (Reply j) f; call = got_d })

        times : (i j : ℕ) (c d : Timed) → g i ≡ Some j → slice_get h i ≡ Some c → slice_get core_calls j ≡ Some d → c.begin ≡ d.begin
        times i j c d e got f =
            let r = stay.times i j d e f in
            ap (λ (x : Timed). x.begin) (sym (timed_same r.0 c (sym r.1 ∙ got))) ∙ r.2

    led : (v : Plain) × LeadAll rule core_calls z (pick g seg) v
    led = by core.base
      where
        here : (m : Plain) × LeadAll rule h t s.pre m × LeadAll rule h m (Reply number ∷ s.rest) o.last
        here = front_leads rule h t o.last s.pre (Reply number ∷ s.rest)
            (subst (λ (xs : List Item). LeadAll rule h t xs o.last) (sym s.whole) o.lead)

        next : (m : Plain) × Leads rule h here.0 (Reply number) m × LeadAll rule h m s.rest o.last
        next = here.2

        rest : (m : Plain) × LeadAll rule h next.0 mid m × LeadAll rule h m post.0 o.last
        rest = front_leads rule h next.0 o.last mid post.0 (subst (λ (xs : List Item). LeadAll rule h next.0 xs o.last) (sym post.1) next.2)

        replied : RepliesBy rule here.0 first.call.core first.call.request first.call.reply next.0
        replied =
            let reply = next.1 in
            subst (λ (x : Timed). RepliesBy rule here.0 x.call.core x.call.request x.call.reply next.0)
            (timed_same reply.0 first (sym reply.1 ∙ core.at)) reply.2

        by : IsBase p start built ks → (v : Plain) × LeadAll rule core_calls z (pick g seg) v
        by (inl reset) =
            let gone = reset_goes rule p here.0 z next.0 first.call start.call core.starts.part reset replied in
            let on = lead_on rule p h core_calls g mid next.0 gone.0 rest.0 follows gone.2 rest.1 in (
              on.0,
              subst (λ (q : Option ℕ). LeadAll rule core_calls z (add q (pick g mid)) on.0) (sym new_first) (gone.0, (start, refl, gone.1), on.1),
            )
        by (inr b) =
            lead_grow rule p built h core_calls g (λ x. ⊥) seg here.0 z rest.0 follows_first (grows b) (λ x in_p none. absurd none)
            (next.0, next.1, rest.1)

    order : IsOrder rule z core_calls (pick g seg)
    order = record {
      keeps_time = stay_time h core_calls items seg a g stay o.keeps_time;
      each_once = stay_once h core_calls items seg a g stay o.each_once;
      last = led.0;
      lead = led.1;
    }

-- so without an order of the core there is none
pub core_refutes : (rule : PlaceRule) (t z : Plain) (h : List Timed) (p : PageRange) (number : ℕ) (first start : Timed) (built cut : ℕ)
    (ks : List Kept) → IsCore h p number first start built cut ks → HasNone rule z (start ∷ []) ks → ¬ HasOrder rule t h
core_refutes rule t z h p number first start built cut ks core none order =
    let c = core_order rule t z h p number first start built cut ks core order in none c.0 c.1 c.2

pub shown_none : {A : Type 0} (any_place : Bool) (files : ℕ → Option File) (h : List Timed) (core : Core A) → IsShown any_place h core
    → ¬ HasOrder (rule_of any_place) (nothing_mapped files) h
shown_none any_place files h core s = s.none (nothing_mapped files)
