-- Where the items of a core's calls lead
use Rattle.std.proofs.Common.{◌≡◌, ◌∙◌, ℕ, zero, suc, ◌<◌, ◌≤◌, ◌⊎◌, inl, inr, nat_le, true, false, List, [], ◌∷◌, Option, None, Some}
use Rattle.std.proofs.Common.{ap, arith, refl, slice_get, subst, sym}
use Rattle.std.proofs.lemmas.Bool.Decides.{nat_tests}
use Rattle.vm_base.specs.declared.page.PageRange.{PageRange}
use Rattle.vm_base.specs.Functions.{has}
use Rattle.vm_base.specs.Places.{PlaceRule}
use Rattle.vm_base.specs.Plain.{Plain}
use Rattle.orders.specs.declared.history.Item.{Item}
use Rattle.orders.specs.declared.history.Item.TheVariants.{Reply, Copy}
use Rattle.orders.specs.declared.history.Timed.{Timed}
use Rattle.orders.specs.Orders.{LeadAll}
use Rattle.cores.specs.Parts.{IsPart, IsResetAt, Sets, is_aside}
use Rattle.cores.proofs.Agreeing.{Agrees, IsAnon, Same, agree_on, copies_aside, part_goes, replies_aside, set_goes}
use Rattle.cores.proofs.Picking.{add, pick}

-- ---- where the items that stay lead

-- what is known of each item: a call that stays does its part, and one that doesn't changes nothing
pub record Follows (p : PageRange) (h k : List Timed) (g : ℕ → Option ℕ) (xs : List Item) : Type 0 where
  pub stays : (i j : ℕ) (c : Timed) → g i ≡ Some j → slice_get h i ≡ Some c → (d : Timed) × (slice_get k j ≡ Some d) × IsPart p c.call d.call
  pub goes : (n i : ℕ) (c : Timed) → slice_get xs n ≡ Some (Reply i) → g i ≡ None → slice_get h i ≡ Some c → is_aside p c.call ≡ true

follows_later : (p : PageRange) (h k : List Timed) (g : ℕ → Option ℕ) (x : Item) (xs : List Item) → Follows p h k g (x ∷ xs) → Follows p h k g xs
follows_later p h k g x xs f = record { stays = f.stays; goes = λ n i c e. f.goes (suc n) i c e }

anon_at : (p : PageRange) (t s : Plain) (x : ℕ) → Agrees p t s → has p x ≡ true → IsAnon (t.entry x)
anon_at p t s x same in_p = (same x in_p).1

pub lead_on : (rule : PlaceRule) (p : PageRange) (h k : List Timed) (g : ℕ → Option ℕ) (xs : List Item) (t s u : Plain) → Follows p h k g xs → Agrees p t s
    → LeadAll rule h t xs u → (v : Plain) × LeadAll rule k s (pick g xs) v
lead_on rule p h k g [] t s u f same a = (s, refl)
lead_on rule p h k g (Copy i ∷ xs) t s u f same a =
    let copy = a.1 in
    let kept = agree_on p t s a.0 (λ x in_p. copies_aside t a.0 copy.0.call.request x (anon_at p t s x same in_p) copy.2) same in
    lead_on rule p h k g xs a.0 s u (follows_later p h k g (Copy i) xs f) kept a.2
lead_on rule p h k g (Reply i ∷ xs) t s u f same a = go (λ m n e b. lead_on rule p h k g xs m n u after e b) (g i) refl
  where
    after : Follows p h k g xs
    after = follows_later p h k g (Reply i) xs f

    go : ((m n : Plain) → Agrees p m n → LeadAll rule h m xs u → (v : Plain) × LeadAll rule k n (pick g xs) v) → (o : Option ℕ) → g i ≡ o
        → (v : Plain) × LeadAll rule k s (add o (pick g xs)) v
    go on None e =
        let reply = a.1 in
        let aside = f.goes 0 i reply.0 refl e reply.1 in
        let kept = agree_on p t s a.0 (λ x in_p. replies_aside rule p t a.0 reply.0.call x aside in_p (anon_at p t s x same in_p) reply.2) same in
        on a.0 s kept a.2
    go on (Some j) e =
        let reply = a.1 in
        let part = f.stays i j reply.0 e reply.1 in
        let next = part_goes rule p t s a.0 reply.0.call part.0.call part.2 same reply.2 in
        let rest = on a.0 next.0 next.2 a.2 in
        (rest.0, (next.0, (part.0, part.1, next.1), rest.1))

-- ---- where several calls build the map

-- the maps agree on those of the pages that it says
abbrev pub AgreesOn : PageRange → (ℕ → Type 0) → Plain → Plain → Type 0
AgreesOn p A t s = (x : ℕ) → has p x ≡ true → A x → Same (t.entry x) (s.entry x)

-- one of the items is of a call that builds the map, and maps or unmaps this page
pub record WillReset (built : ℕ) (h k : List Timed) (g : ℕ → Option ℕ) (xs : List Item) (x : ℕ) : Type 0 where
  pub at : ℕ
  pub call : ℕ
  pub number : ℕ
  pub whole : Timed
  pub part : Timed
  pub stands : slice_get xs at ≡ Some (Reply call)
  pub got : slice_get h call ≡ Some whole
  pub new : g call ≡ Some number
  pub is : slice_get k number ≡ Some part
  pub ends : whole.end ≡ part.end
  pub early : nat_le part.end built ≡ true
  pub resets : IsResetAt x part.call.request part.call.reply

abbrev pub IsTimelyCall : ℕ → Timed → Type 0
IsTimelyCall built d =
    ((nat_le d.end built ≡ true) × Sets d.call.request d.call.reply) ⊎ ((nat_le d.end built ≡ false) × (built < d.begin))

-- on each page the maps agree, or one of the items will map or unmap it before the others
pub record Grows (p : PageRange) (built : ℕ) (h k : List Timed) (g : ℕ → Option ℕ) (A : ℕ → Type 0) (xs : List Item) : Type 0 where
  pub covers : (x : ℕ) → has p x ≡ true → A x ⊎ WillReset built h k g xs x
  pub kinds : (i j : ℕ) (d : Timed) → g i ≡ Some j → slice_get k j ≡ Some d → IsTimelyCall built d
  pub time : (m n i j : ℕ) (a b : Timed) → m < n → slice_get xs m ≡ Some (Reply i) → slice_get xs n ≡ Some (Reply j) → slice_get h i ≡ Some a
      → slice_get h j ≡ Some b → ¬ (b.end < a.begin)
  pub times : (i j : ℕ) (c d : Timed) → g i ≡ Some j → slice_get h i ≡ Some c → slice_get k j ≡ Some d → c.begin ≡ d.begin

will_later : (built : ℕ) (h k : List Timed) (g : ℕ → Option ℕ) (y : Item) (xs : List Item) (x : ℕ) (B : Type 0)
    → ((w : WillReset built h k g (y ∷ xs) x) → y ≡ Reply w.call → B) → WillReset built h k g (y ∷ xs) x → B ⊎ WillReset built h k g xs x
will_later built h k g y xs x B now w = go w.at w.stands
  where
    go : (n : ℕ) → slice_get (y ∷ xs) n ≡ Some (Reply w.call) → B ⊎ WillReset built h k g xs x
    go zero e = let both : Some y ≡ Some (Reply w.call) = e in let same : y ≡ Reply w.call = cc in inl (now w same)
    go (suc n) e = inr (record {
      at = n;
      call = w.call;
      number = w.number;
      whole = w.whole;
      part = w.part;
      stands = e;
      got = w.got;
      new = w.new;
      is = w.is;
      ends = w.ends;
      early = w.early;
      resets = w.resets;
    })

-- behind an item
grows_later : (p : PageRange) (built : ℕ) (h k : List Timed) (g : ℕ → Option ℕ) (A B : ℕ → Type 0) (y : Item) (xs : List Item)
    → Grows p built h k g A (y ∷ xs) → ((x : ℕ) → A x → B x) → ((x : ℕ) (w : WillReset built h k g (y ∷ xs) x) → y ≡ Reply w.call → B x)
    → Grows p built h k g B xs
grows_later p built h k g A B y xs gr more now = record {
  covers = λ x in_p. by x (gr.covers x in_p);
  kinds = gr.kinds;
  time = λ m n i j a b l. gr.time (suc m) (suc n) i j a b (omega (arith, l));
  times = gr.times;
}
  where
    by : (x : ℕ) → A x ⊎ WillReset built h k g (y ∷ xs) x → B x ⊎ WillReset built h k g xs x
    by x (inl a) = inl (more x a)
    by x (inr w) = will_later built h k g y xs x (B x) (now x) w

-- one that isn't of a call of the core
grows_aside : (p : PageRange) (built : ℕ) (h k : List Timed) (g : ℕ → Option ℕ) (A : ℕ → Type 0) (y : Item) (xs : List Item)
    → ((c j : ℕ) → y ≡ Reply c → g c ≡ Some j → ⊥) → Grows p built h k g A (y ∷ xs) → Grows p built h k g A xs
grows_aside p built h k g A y xs none gr =
    grows_later p built h k g A A y xs gr (λ x a. a) (λ x w e. absurd (none w.call w.number e w.new))

not_copy : (i c : ℕ) → Copy i ≡ Reply c → ⊥
not_copy i c e = absurd cc

not_new : (g : ℕ → Option ℕ) (i c j : ℕ) → g i ≡ None → Reply i ≡ Reply c → g c ≡ Some j → ⊥
not_new g i c j none e f =
    let same : i ≡ c = cc in
    let wrong : None ≡ Some j = sym none ∙ (ap g same ∙ f) in absurd cc

-- this item's call is that one
call_same : (k : List Timed) (g : ℕ → Option ℕ) (i j c m : ℕ) (d e : Timed) → Reply i ≡ Reply c → g i ≡ Some j → slice_get k j ≡ Some d → g c ≡ Some m
    → slice_get k m ≡ Some e → e ≡ d
call_same k g i j c m d e same f at f2 at2 =
    let calls : i ≡ c = cc in
    let numbers : Some j ≡ Some m = sym f ∙ (ap g calls ∙ f2) in
    let number : j ≡ m = cc in
    let both : Some e ≡ Some d = sym at2 ∙ (ap (slice_get k) (sym number) ∙ at) in cc

-- behind one that builds the map
abbrev OrReset : (ℕ → Type 0) → Timed → ℕ → Type 0
OrReset A d x = A x ⊎ IsResetAt x d.call.request d.call.reply

grows_reset : (p : PageRange) (built : ℕ) (h k : List Timed) (g : ℕ → Option ℕ) (A : ℕ → Type 0) (i j : ℕ) (d : Timed) (xs : List Item)
    → g i ≡ Some j → slice_get k j ≡ Some d → Grows p built h k g A (Reply i ∷ xs) → Grows p built h k g (OrReset A d) xs
grows_reset p built h k g A i j d xs e at gr =
    grows_later p built h k g A (OrReset A d) (Reply i) xs gr (λ x a. inl a) now
  where
    now : (x : ℕ) (w : WillReset built h k g (Reply i ∷ xs) x) → Reply i ≡ Reply w.call → OrReset A d x
    now x w same =
        let that : w.part ≡ d = call_same k g i j w.call w.number d w.part same e at w.new w.is in
        inr (subst (λ (c : Timed). IsResetAt x c.call.request c.call.reply) that w.resets)

-- before one that doesn't, all pages agree
grown : (p : PageRange) (built : ℕ) (h k : List Timed) (g : ℕ → Option ℕ) (A : ℕ → Type 0) (i j : ℕ) (c d : Timed) (xs : List Item)
    → g i ≡ Some j → slice_get h i ≡ Some c → slice_get k j ≡ Some d → nat_le d.end built ≡ false → built < d.begin
    → Grows p built h k g A (Reply i ∷ xs) → (x : ℕ) → has p x ≡ true → A x
grown p built h k g A i j c d xs e got at not_early late gr x in_p = by (gr.covers x in_p)
  where
    not_now : (w : WillReset built h k g (Reply i ∷ xs) x) → Reply i ≡ Reply w.call → ⊥
    not_now w same =
        let that : w.part ≡ d = call_same k g i j w.call w.number d w.part same e at w.new w.is in
        let wrong : true ≡ false = sym w.early ∙ (ap (λ (y : Timed). nat_le y.end built) that ∙ not_early) in absurd cc

    not_behind : (w : WillReset built h k g (Reply i ∷ xs) x) (n : ℕ) → slice_get xs n ≡ Some (Reply w.call) → ⊥
    not_behind w n f =
        let early = w.early in
        let ended : w.part.end ≤ built = grind (arith, nat_tests, early) in
        let begins = gr.times i j c d e got at in
        let ends = w.ends in
        gr.time 0 (suc n) i w.call c w.whole (omega arith) refl f got w.got (omega (arith, ended, begins, ends, late))

    at_place : (w : WillReset built h k g (Reply i ∷ xs) x) (n : ℕ) → slice_get (Reply i ∷ xs) n ≡ Some (Reply w.call) → ⊥
    at_place w zero f = let both : Some (Reply i) ≡ Some (Reply w.call) = f in let same : Reply i ≡ Reply w.call = cc in not_now w same
    at_place w (suc n) f = not_behind w n f

    by : A x ⊎ WillReset built h k g (Reply i ∷ xs) x → A x
    by (inl a) = a
    by (inr w) = absurd (at_place w w.at w.stands)

same_on : (p : PageRange) (A : ℕ → Type 0) (t s u : Plain) → AgreesOn p A t s → ((x : ℕ) → has p x ≡ true → A x → u.entry x ≡ t.entry x) → AgreesOn p A u s
same_on p A t s u same kept x in_p a =
    let here = same x in_p a in
    let e = kept x in_p a in
    (e ∙ here.0, subst IsAnon (sym e) here.1)

or_reset : (p : PageRange) (A : ℕ → Type 0) (t s : Plain) (d : Timed) (x : ℕ) → AgreesOn p A t s → has p x ≡ true → OrReset A d x
    → Same (t.entry x) (s.entry x) ⊎ IsResetAt x d.call.request d.call.reply
or_reset p A t s d x same in_p (inl a) = inl (same x in_p a)
or_reset p A t s d x same in_p (inr r) = inr r

pub lead_grow : (rule : PlaceRule) (p : PageRange) (built : ℕ) (h k : List Timed) (g : ℕ → Option ℕ) (A : ℕ → Type 0) (xs : List Item) (t s u : Plain)
    → Follows p h k g xs → Grows p built h k g A xs → AgreesOn p A t s → LeadAll rule h t xs u → (v : Plain) × LeadAll rule k s (pick g xs) v
lead_grow rule p built h k g A [] t s u f gr same a = (s, refl)
lead_grow rule p built h k g A (Copy i ∷ xs) t s u f gr same a =
    let copy = a.1 in
    let kept = same_on p A t s a.0 same (λ x in_p b. copies_aside t a.0 copy.0.call.request x (same x in_p b).1 copy.2) in
    let later = grows_aside p built h k g A (Copy i) xs (λ c j e. absurd (not_copy i c e)) gr in
    lead_grow rule p built h k g A xs a.0 s u (follows_later p h k g (Copy i) xs f) later kept a.2
lead_grow rule p built h k g A (Reply i ∷ xs) t s u f gr same a =
    go (λ B m n b e d. lead_grow rule p built h k g B xs m n u after b e d) (g i) refl
  where
    after : Follows p h k g xs
    after = follows_later p h k g (Reply i) xs f

    On : Type 1
    On = (B : ℕ → Type 0) (m n : Plain) → Grows p built h k g B xs → AgreesOn p B m n → LeadAll rule h m xs u → (v : Plain) × LeadAll rule k n (pick g xs) v

    kind : On → (j : ℕ) → g i ≡ Some j → (d : Timed) → slice_get k j ≡ Some d → IsPart p a.1.0.call d.call → IsTimelyCall built d
        → (v : Plain) × LeadAll rule k s (Reply j ∷ pick g xs) v
    kind on j e d at part (inl early) =
        let next = set_goes rule p t s a.0 a.1.0.call d.call part early.1 a.1.2 in
        let rest = on (OrReset A d) a.0 next.0 (grows_reset p built h k g A i j d xs e at gr)
        (λ x in_p b. next.2 x in_p (or_reset p A t s d x same in_p b)) a.2 in
        (rest.0, (next.0, (d, at, next.1), rest.1))
    kind on j e d at part (inr late) =
        let all = grown p built h k g A i j a.1.0 d xs e a.1.1 at late.0 late.1 gr in
        let next = part_goes rule p t s a.0 a.1.0.call d.call part (λ x in_p. same x in_p (all x in_p)) a.1.2 in
        let rest = lead_on rule p h k g xs a.0 next.0 u after next.2 a.2 in
        (rest.0, (next.0, (d, at, next.1), rest.1))

    go : On → (o : Option ℕ) → g i ≡ o → (v : Plain) × LeadAll rule k s (add o (pick g xs)) v
    go on None e =
        let reply = a.1 in
        let aside = f.goes 0 i reply.0 refl e reply.1 in
        let kept = same_on p A t s a.0 same (λ x in_p b. replies_aside rule p t a.0 reply.0.call x aside in_p (same x in_p b).1 reply.2) in
        on A a.0 s (grows_aside p built h k g A (Reply i) xs (λ c j. not_new g i c j e) gr) kept a.2
    go on (Some j) e =
        let part = f.stays i j a.1.0 e a.1.1 in
        kind on j e part.0 part.1 part.2 (gr.kinds i j part.0 e part.1)
