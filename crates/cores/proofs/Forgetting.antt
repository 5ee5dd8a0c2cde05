-- A history that has an order has one without its bytes, too
use Rattle.std.proofs.Common.{◌≡◌, ◌∙◌, ℕ, zero, suc, ◌+◌, ◌<◌, ◌≤◌, ◌⊎◌, inl, inr, Bool, true, false, List, [], ◌∷◌, ◌++◌, Option, None, Some, ap, arith}
use Rattle.std.proofs.Common.{get_or, length, map, refl, slice_get, subst, sym, take}
use Rattle.std.specs.Prelude.{option_map}
use Rattle.std.proofs.lemmas.List.{map-append, take_all, take_more}
use Rattle.std.proofs.lemmas.Option.{slice_get-map}
use Rattle.vm_base.specs.declared.replies.Reply.{Reply}
use Rattle.vm_base.specs.declared.replies.Reply.TheVariants.{Mapped, Done, Byte, Refused, Segv, Bus, NoFrame, NoMemory}
use Rattle.vm_base.specs.declared.requests.Request.{Request}
use Rattle.vm_base.specs.declared.requests.Request.TheVariants.{Load, Store, Fetch, Mmap, Munmap, Mprotect}
use Rattle.vm_base.specs.Places.{PlaceRule}
use Rattle.vm_base.specs.Plain.{Plain}
use Rattle.audit.specs.Placing.{rule_of}
use Rattle.orders.specs.declared.history.Item.{Item}
use Rattle.orders.specs.declared.history.Item.TheVariants.{Reply as ReplyOf, Copy}
use Rattle.orders.specs.declared.history.Timed.{Timed}
use Rattle.orders.specs.Orders.{EachOnce, HasOrder, IsOrder, KeepsTime, LeadAll}
use Rattle.orders.proofs.Lists.{below, get_here, get_within}
use Rattle.cores.specs.declared.finding.Core.{Core}
use Rattle.cores.specs.Byteless.{AreByteless, Fits, reply_left, timed_byteless}
use Rattle.cores.specs.Effects.{IsMade, IsSpared}
use Rattle.cores.specs.Parts.{is_quiet}
use Rattle.cores.specs.Shown.{IsShownBut, IsShownOf}
use Rattle.cores.proofs.Dimming.{Dimmed, call_goes, copies_dims, dim, is_dim}
use Rattle.cores.proofs.Picking.{Stay, add, pick, stay_once, stay_time}

-- ---- calls by their numbers

timed_same : (a b : Timed) → Some a ≡ Some b → a ≡ b
timed_same a b e = cc

pub got : (h : List Timed) (i : ℕ) (c : Timed) → slice_get h i ≡ Some c → slice_get (map timed_byteless h) i ≡ Some (timed_byteless c)
got h i c e = slice_get-map timed_byteless h i ∙ ap (option_map timed_byteless) e

was : (h : List Timed) (i : ℕ) (d : Timed) → slice_get (map timed_byteless h) i ≡ Some d → (c : Timed) × (slice_get h i ≡ Some c) × (d ≡ timed_byteless c)
was h i d e = go (slice_get h i) refl (sym (slice_get-map timed_byteless h i) ∙ e)
  where
    go : (o : Option Timed) → slice_get h i ≡ o → option_map timed_byteless o ≡ Some d → (c : Timed) × (slice_get h i ≡ Some c) × (d ≡ timed_byteless c)
    go None f k = absurd cc
    go (Some c) f k = (c, f, sym (timed_same (timed_byteless c) d k))

has_one : (xs : List Timed) (i : ℕ) → i < length xs → (c : Timed) × (slice_get xs i ≡ Some c)
has_one [] i l = absurd (omega (arith, l))
has_one (x ∷ xs) zero l = (x, refl)
has_one (x ∷ xs) (suc i) l = has_one xs i (omega (arith, l))

-- each keeps its number
abbrev pub own_number : List Timed → ℕ → Option ℕ
own_number h i = option_map (λ (c : Timed). i) (slice_get h i)

pub own_got : (h : List Timed) (i : ℕ) (c : Timed) → slice_get h i ≡ Some c → own_number h i ≡ Some i
own_got h i c e = ap (option_map (λ (d : Timed). i)) e

own_was : (h : List Timed) (i j : ℕ) → own_number h i ≡ Some j → (i ≡ j) × ((c : Timed) × (slice_get h i ≡ Some c))
own_was h i j e = go (slice_get h i) refl e
  where
    go : (o : Option Timed) → slice_get h i ≡ o → option_map (λ (d : Timed). i) o ≡ Some j → (i ≡ j) × ((c : Timed) × (slice_get h i ≡ Some c))
    go None f k = absurd cc
    go (Some c) f k = let both : Some i ≡ Some j = k in let same : i ≡ j = cc in (same, (c, f))

-- ---- orders

pub lead_byteless : (rule : PlaceRule) (h : List Timed) (xs : List Item) (t s u : Plain)
    → ((i : ℕ) (c : Timed) → slice_get h i ≡ Some c → Fits c.call.request c.call.reply) → Dimmed t s → LeadAll rule h t xs u
    → (v : Plain) × LeadAll rule (map timed_byteless h) s (pick (own_number h) xs) v
lead_byteless rule h [] t s u fit same a = (s, refl)
lead_byteless rule h (Copy i ∷ xs) t s u fit same a =
    let copy = a.1 in
    lead_byteless rule h xs a.0 s u fit (copies_dims t a.0 s copy.0.call.request copy.2 same) a.2
lead_byteless rule h (ReplyOf i ∷ xs) t s u fit same a =
    let reply = a.1 in
    let next = call_goes rule t s a.0 reply.0.call (fit i reply.0 reply.1) same reply.2 in
    let rest = lead_byteless rule h xs a.0 next.0 u fit next.2 a.2 in
    subst (λ (o : Option ℕ). (v : Plain) × LeadAll rule (map timed_byteless h) s (add o (pick (own_number h) xs)) v)
    (sym (own_got h i reply.0 reply.1))
    (rest.0, (next.0, (timed_byteless reply.0, got h i reply.0 reply.1, next.1), rest.1))

-- items that have each call once and keep time are an order of the calls without their bytes, if those that stay lead on
pub byteless_order : (rule : PlaceRule) (t : Plain) (h : List Timed) (items : List Item) → EachOnce (length h) items → KeepsTime h items
    → (v : Plain) × LeadAll rule (map timed_byteless h) (dim t) (pick (own_number h) items) v → HasOrder rule (dim t) (map timed_byteless h)
byteless_order rule t h items once keeps lead = record { items = pick g items; is_order = order }
  where
    k : List Timed
    k = map timed_byteless h

    g : ℕ → Option ℕ
    g = own_number h

    stay : Stay h k items items 0 g
    stay = record { there = there; times = times; known = known; one = one; all = all }
      where
        there : (n : ℕ) (x : Item) → slice_get items n ≡ Some x → slice_get items (0 + n) ≡ Some x
        there n x e = let same : 0 + n ≡ n = omega arith in subst (λ (i : ℕ). slice_get items i ≡ Some x) (sym same) e

        times : (i j : ℕ) (d : Timed) → g i ≡ Some j → slice_get k j ≡ Some d
            → (c : Timed) × (slice_get h i ≡ Some c) × (c.begin ≡ d.begin) × (c.end ≡ d.end)
        times i j d e f =
            let r = own_was h i j e in
            let w = was h i d (subst (λ (n : ℕ). slice_get k n ≡ Some d) (sym r.0) f) in
            (w.0, w.1, sym (ap (λ (x : Timed). x.begin) w.2), sym (ap (λ (x : Timed). x.end) w.2))

        known : (i j : ℕ) → g i ≡ Some j → j < length k
        known i j e =
            let r = own_was h i j e in
            subst (λ (n : ℕ). n < length k) r.0 (get_within k i (timed_byteless r.1.0) (got h i r.1.0 r.1.1))

        one : (i j m : ℕ) → g i ≡ Some m → g j ≡ Some m → i ≡ j
        one i j m e f = (own_was h i m e).0 ∙ sym (own_was h j m f).0

        all : (j : ℕ) → j < length k → (i : ℕ) × (n : ℕ) × (g i ≡ Some j) × (slice_get items n ≡ Some (ReplyOf i))
        all j l =
            let d = has_one k j l in
            let c = was h j d.0 d.1 in
            let found = once.some j (get_within h j c.0 c.1) in
            (j, found.0, own_got h j c.0 c.1, found.1)

    order : IsOrder rule (dim t) k (pick g items)
    order = record {
      keeps_time = stay_time h k items items 0 g stay keeps;
      each_once = stay_once h k items items 0 g stay once;
      last = lead.0;
      lead = lead.1;
    }

pub order_byteless : (rule : PlaceRule) (t : Plain) (h : List Timed)
    → ((i : ℕ) (c : Timed) → slice_get h i ≡ Some c → Fits c.call.request c.call.reply) → HasOrder rule t h
    → HasOrder rule (dim t) (map timed_byteless h)
order_byteless rule t h fit o =
    byteless_order rule t h o.items o.is_order.each_once o.is_order.keeps_time
    (lead_byteless rule h o.items t (dim t) o.is_order.last fit (is_dim t) o.is_order.lead)

-- ---- where some calls did not take effect

quiet_fits : (r : Request) (y : Reply) → is_quiet y ≡ true → Fits r y
quiet_fits (Load addr) y q = tt
quiet_fits (Fetch addr) y q = tt
quiet_fits (Store addr byte) y q = tt
quiet_fits (Munmap addr len) y q = tt
quiet_fits (Mprotect addr len prot) y q = tt
quiet_fits (Mmap addr len prot flags file off) (Mapped at) q = absurd cc
quiet_fits (Mmap addr len prot flags file off) Done q = tt
quiet_fits (Mmap addr len prot flags file off) (Byte b) q = tt
quiet_fits (Mmap addr len prot flags file off) (Refused e) q = tt
quiet_fits (Mmap addr len prot flags file off) (Segv code) q = tt
quiet_fits (Mmap addr len prot flags file off) Bus q = tt
quiet_fits (Mmap addr len prot flags file off) NoFrame q = tt
quiet_fits (Mmap addr len prot flags file off) NoMemory q = tt

quiet_left : (r : Request) (y : Reply) → is_quiet y ≡ true → is_quiet (reply_left r y) ≡ true
quiet_left r (Mapped at) q = absurd cc
quiet_left r Done q = absurd cc
quiet_left (Load addr) (Byte b) q = refl
quiet_left (Fetch addr) (Byte b) q = refl
quiet_left (Store addr byte) (Byte b) q = refl
quiet_left (Munmap addr len) (Byte b) q = refl
quiet_left (Mprotect addr len prot) (Byte b) q = refl
quiet_left (Mmap addr len prot flags file off) (Byte b) q = refl
quiet_left (Load addr) (Refused e) q = refl
quiet_left (Fetch addr) (Refused e) q = refl
quiet_left (Store addr byte) (Refused e) q = refl
quiet_left (Munmap addr len) (Refused e) q = refl
quiet_left (Mprotect addr len prot) (Refused e) q = refl
quiet_left (Mmap addr len prot flags file off) (Refused e) q = refl
quiet_left (Load addr) (Segv code) q = refl
quiet_left (Fetch addr) (Segv code) q = refl
quiet_left (Store addr byte) (Segv code) q = refl
quiet_left (Munmap addr len) (Segv code) q = refl
quiet_left (Mprotect addr len prot) (Segv code) q = refl
quiet_left (Mmap addr len prot flags file off) (Segv code) q = refl
quiet_left (Load addr) Bus q = refl
quiet_left (Fetch addr) Bus q = refl
quiet_left (Store addr byte) Bus q = refl
quiet_left (Munmap addr len) Bus q = refl
quiet_left (Mprotect addr len prot) Bus q = refl
quiet_left (Mmap addr len prot flags file off) Bus q = refl
quiet_left (Load addr) NoFrame q = refl
quiet_left (Fetch addr) NoFrame q = refl
quiet_left (Store addr byte) NoFrame q = refl
quiet_left (Munmap addr len) NoFrame q = refl
quiet_left (Mprotect addr len prot) NoFrame q = refl
quiet_left (Mmap addr len prot flags file off) NoFrame q = refl
quiet_left (Load addr) NoMemory q = refl
quiet_left (Fetch addr) NoMemory q = refl
quiet_left (Store addr byte) NoMemory q = refl
quiet_left (Munmap addr len) NoMemory q = refl
quiet_left (Mprotect addr len prot) NoMemory q = refl
quiet_left (Mmap addr len prot flags file off) NoMemory q = refl

spared_byteless : (c d : Timed) → IsSpared c d → IsSpared (timed_byteless c) (timed_byteless d)
spared_byteless c d s = record { begins = s.begins; ends = s.ends; quiet = quiet_left d.call.request d.call.reply s.quiet }

made_fits : (h made : List Timed) (effects : List Bool) → IsMade h effects made
    → ((i : ℕ) (c : Timed) → slice_get h i ≡ Some c → Fits c.call.request c.call.reply)
    → (i : ℕ) (d : Timed) → slice_get made i ≡ Some d → Fits d.call.request d.call.reply
made_fits h made effects m fit i d e = go (m.spared i) refl
  where
    c : (c : Timed) × (slice_get h i ≡ Some c)
    c = m.known i d e

    go : (b : Bool) → m.spared i ≡ b → Fits d.call.request d.call.reply
    go true s =
        let r = m.gone i c.0 c.1 s in
        let same : d ≡ r.0 = timed_same d r.0 (sym e ∙ r.1) in
        quiet_fits d.call.request d.call.reply (subst (λ (x : Timed). is_quiet x.call.reply ≡ true) (sym same) r.2.quiet)
    go false s =
        let same : c.0 ≡ d = timed_same c.0 d (sym (m.same i c.0 c.1 s) ∙ e) in
        subst (λ (x : Timed). Fits x.call.request x.call.reply) same (fit i c.0 c.1)

made_byteless : (h made : List Timed) (effects : List Bool) → IsMade h effects made → IsMade (map timed_byteless h) effects (map timed_byteless made)
made_byteless h made effects m = record {
  spared = m.spared;
  unsure = m.unsure;
  same = same;
  gone = gone;
  known = λ i d e. let w = was made i d e in let c = m.known i w.0 w.1 in (timed_byteless c.0, got h i c.0 c.1);
}
  where
    same : (i : ℕ) (d : Timed) → slice_get (map timed_byteless h) i ≡ Some d → m.spared i ≡ false → slice_get (map timed_byteless made) i ≡ Some d
    same i d e s = let w = was h i d e in got made i w.0 (m.same i w.0 w.1 s) ∙ ap Some (sym w.2)

    gone : (i : ℕ) (d : Timed) → slice_get (map timed_byteless h) i ≡ Some d → m.spared i ≡ true
        → (x : Timed) × (slice_get (map timed_byteless made) i ≡ Some x) × IsSpared d x
    gone i d e s =
        let w = was h i d e in
        let r = m.gone i w.0 w.1 s in
        (timed_byteless r.0, got made i r.0 r.1, subst (λ (x : Timed). IsSpared x (timed_byteless r.0)) (sym w.2) (spared_byteless w.0 r.0 r.2))

-- A core of the calls without their bytes shows that they have no order.
pub shown_byteless : {A : Type 0} (any_place : Bool) (h k : List Timed) (effects : List Bool) (core : Core A) → AreByteless h k
    → IsShownOf any_place k effects core → IsShownBut any_place h effects core
shown_byteless any_place h k effects core b s = record {
  seen = k;
  sees = inr b;
  shown = s;
  none = λ t made m o.
      s.none (dim t) (map timed_byteless made)
      (subst (λ (x : List Timed). IsMade x effects (map timed_byteless made)) (sym b.same) (made_byteless h made effects m))
      (order_byteless (rule_of any_place) t made (made_fits h made effects m b.fit) o);
}

-- So does one of the calls themselves.
pub shown_itself : {A : Type 0} (any_place : Bool) (h : List Timed) (effects : List Bool) (core : Core A) → IsShownOf any_place h effects core
    → IsShownBut any_place h effects core
shown_itself any_place h effects core s = record { seen = h; sees = inl refl; shown = s; none = s.none }

-- ---- so many calls so far

pub record AreSoFar (h k : List Timed) (at : ℕ) : Type 0 where
  pub same : k ≡ map timed_byteless (take at h)
  pub fit : (i : ℕ) (c : Timed) → i < at → slice_get h i ≡ Some c → Fits c.call.request c.call.reply

pub none_so_far : (h k : List Timed) → k ≡ [] → AreSoFar h k 0
none_so_far h k e = record { same = e; fit = λ i c l f. absurd (omega (arith, l)) }

pub one_more : (h k l : List Timed) (at : ℕ) (d x : Timed) → l ≡ k ++ x ∷ [] → at < length h → d ≡ get_or h at d → x ≡ timed_byteless d
    → Fits d.call.request d.call.reply → AreSoFar h k at → AreSoFar h l (at + 1)
one_more h k l at d x e less is same fits s = record {
  same = e
      ∙ (ap (λ (xs : List Timed). xs ++ x ∷ []) s.same
      ∙ (ap (λ (y : Timed). map timed_byteless (take at h) ++ y ∷ []) (same ∙ ap timed_byteless is)
      ∙ (sym (map-append timed_byteless (take at h) (get_or h at d ∷ [])) ∙ ap (map timed_byteless) (sym (take_more h at d less)))));
  fit = λ i c more f. by i c f (below i at more);
}
  where
    by : (i : ℕ) (c : Timed) → slice_get h i ≡ Some c → (i < at) ⊎ (i ≡ at) → Fits c.call.request c.call.reply
    by i c f (inl more) = s.fit i c more f
    by i c f (inr here) =
        let found : slice_get h i ≡ Some (get_or h at d) = ap (slice_get h) here ∙ get_here h at d less in
        let that : c ≡ d = timed_same c (get_or h at d) (sym f ∙ found) ∙ sym is in
        subst (λ (y : Timed). Fits y.call.request y.call.reply) (sym that) fits

pub all_so_far : (h k : List Timed) (at : ℕ) → length h ≤ at → AreSoFar h k at → AreByteless h k
all_so_far h k at l s = record {
  same = s.same ∙ ap (map timed_byteless) (take_all at h l);
  fit = λ i c e. let less = get_within h i c e in s.fit i c (omega (arith, l, less)) e;
}
