-- Items one after another
use Rattle.slot_lock.proofs.Words.{◌≡◌, ◌≢◌, ℕ, zero, suc, ◌+◌, ◌<◌, Bool, List, [], ◌∷◌, ◌++◌, Some, length, take, refl, sym, ◌∙◌, ap, subst, arith, take_more}
use Rattle.slot_lock.proofs.Words.{Plain, Answers, Request, Reply, Mapped, Done, Byte, Refused, Segv, Bus, NoFrame, NoMemory, Mmap, Munmap, Mprotect}
use Rattle.std.proofs.Common.{get_or, slice_get}
use Rattle.vm_base.specs.declared.requests.Request.TheVariants.{Load, Store, Fetch}
use Rattle.vm_base.specs.Log.{IsServable, RepliesBy}
use Rattle.vm_base.specs.Places.{PlaceRule}
use Rattle.audit.specs.Placing.{rule_of}
use Rattle.audit.proofs.Judged.{one_left}
use Rattle.orders.specs.declared.history.Item.{Item}
use Rattle.orders.specs.declared.history.Item.TheVariants as Of
use Rattle.orders.specs.declared.history.Timed.{Timed}
use Rattle.orders.specs.Orders.{CopiesFor, LeadAll, Leads}
use Rattle.orders.proofs.Lists.{get_here}

-- ---- one reply

-- that memory or frames were wanting is another matter
pub answers_reply : (rule : PlaceRule) (t u : Plain) (core : ℕ) (r : Request) (y : Reply) → y ≢ NoMemory → y ≢ NoFrame → Answers rule t core r y u
    → RepliesBy rule t core r y u
answers_reply rule t u core r NoMemory m f a = absurd (m refl)
answers_reply rule t u core r NoFrame m f a = absurd (f refl)
answers_reply rule t u core r (Mapped at) m f a = a
answers_reply rule t u core r Done m f a = a
answers_reply rule t u core r (Byte b) m f a = a
answers_reply rule t u core r (Refused e) m f a = a
answers_reply rule t u core r (Segv code) m f a = a
answers_reply rule t u core r Bus m f a = a

pub reply_answers : (rule : PlaceRule) (t u : Plain) (core : ℕ) (r : Request) (y : Reply) → y ≢ NoMemory → y ≢ NoFrame → RepliesBy rule t core r y u
    → Answers rule t core r y u
reply_answers rule t u core r NoMemory m f a = absurd (m refl)
reply_answers rule t u core r NoFrame m f a = absurd (f refl)
reply_answers rule t u core r (Mapped at) m f a = a
reply_answers rule t u core r Done m f a = a
reply_answers rule t u core r (Byte b) m f a = a
reply_answers rule t u core r (Refused e) m f a = a
reply_answers rule t u core r (Segv code) m f a = a
reply_answers rule t u core r Bus m f a = a

pub no_memory_reply : (rule : PlaceRule) (t : Plain) (core : ℕ) (r : Request) (y : Reply) → y ≡ NoMemory → RepliesBy rule t core r y t
no_memory_reply rule t core r y is = subst (λ (z : Reply). RepliesBy rule t core r z t) (sym is) refl

pub no_frame_reply : (rule : PlaceRule) (t : Plain) (core : ℕ) (r : Request) (y : Reply) → y ≡ NoFrame → IsServable t r → RepliesBy rule t core r y t
no_frame_reply rule t core r y is s = subst (λ (z : Reply). RepliesBy rule t core r z t) (sym is) (s, refl)

pub no_frame_none : (rule : PlaceRule) (t u : Plain) (core : ℕ) (r : Request) (y : Reply) → y ≡ NoFrame → ¬ IsServable t r → ¬ RepliesBy rule t core r y u
no_frame_none rule t u core r y is not' h = let k : RepliesBy rule t core r NoFrame u = subst (λ (z : Reply). RepliesBy rule t core r z u) is h in not' k.0

one_reply : (any : Bool) (t u v : Plain) (core : ℕ) (r : Request) (y : Reply) → RepliesBy (rule_of any) t core r y u
    → RepliesBy (rule_of any) t core r y v → u ≡ v
one_reply any t u v core r NoMemory h k = h ∙ sym k
one_reply any t u v core r NoFrame h k = h.1 ∙ sym k.1
one_reply any t u v core r (Mapped at) h k = one_left any t core r (Mapped at) u v h k
one_reply any t u v core r Done h k = one_left any t core r Done u v h k
one_reply any t u v core r (Byte b) h k = one_left any t core r (Byte b) u v h k
one_reply any t u v core r (Refused e) h k = one_left any t core r (Refused e) u v h k
one_reply any t u v core r (Segv code) h k = one_left any t core r (Segv code) u v h k
one_reply any t u v core r Bus h k = one_left any t core r Bus u v h k

one_copy : (t u v : Plain) (r : Request) → CopiesFor t r u → CopiesFor t r v → u ≡ v
one_copy t u v (Store addr byte) h k = let both : Some u ≡ Some v = sym h.1 ∙ k.1 in cc
one_copy t u v (Load addr) h k = absurd h
one_copy t u v (Fetch addr) h k = absurd h
one_copy t u v (Mmap addr len prot flags file off) h k = absurd h
one_copy t u v (Munmap addr len) h k = absurd h
one_copy t u v (Mprotect addr len prot) h k = absurd h

-- ---- one item

one_lead : (any : Bool) (h : List Timed) (t u v : Plain) (item : Item) → Leads (rule_of any) h t item u → Leads (rule_of any) h t item v → u ≡ v
one_lead any h t u v (Of.Reply i) a b =
    let both : Some a.0 ≡ Some b.0 = sym a.1 ∙ b.1 in
    let same : a.0 ≡ b.0 = cc in
    one_reply any t u v b.0.call.core b.0.call.request b.0.call.reply
    (subst (λ (c : Timed). RepliesBy (rule_of any) t c.call.core c.call.request c.call.reply u) same a.2) b.2
one_lead any h t u v (Of.Copy i) a b =
    let both : Some a.0 ≡ Some b.0 = sym a.1 ∙ b.1 in
    let same : a.0 ≡ b.0 = cc in
    one_copy t u v b.0.call.request (subst (λ (c : Timed). CopiesFor t c.call.request u) same a.2) b.2

-- ---- one after another

leads_push : (rule : PlaceRule) (h : List Timed) (t m u : Plain) (items : List Item) (item : Item) → LeadAll rule h t items m → Leads rule h m item u
    → LeadAll rule h t (items ++ item ∷ []) u
leads_push rule h t m u [] item a b = (u, subst (λ x. Leads rule h x item u) a b, refl)
leads_push rule h t m u (d ∷ ds) item a b = (a.0, a.1, leads_push rule h a.0 m u ds item a.2 b)

pub leads_more : (rule : PlaceRule) (h : List Timed) (t m u : Plain) (items : List Item) (at : ℕ) (d : Item) → at < length items
    → LeadAll rule h t (take at items) m → Leads rule h m (get_or items at d) u → LeadAll rule h t (take (at + 1) items) u
leads_more rule h t m u items at d l a b =
    subst (λ xs. LeadAll rule h t xs u) (sym (take_more items at d l)) (leads_push rule h t m u (take at items) (get_or items at d) a b)

one_map : (any : Bool) (h : List Timed) (t u v : Plain) (items : List Item) → LeadAll (rule_of any) h t items u → LeadAll (rule_of any) h t items v
    → u ≡ v
one_map any h t u v [] a b = a ∙ sym b
one_map any h t u v (d ∷ ds) a b =
    let same : a.0 ≡ b.0 = one_lead any h t a.0 b.0 d a.1 b.1 in
    one_map any h b.0 u v ds (subst (λ m. LeadAll (rule_of any) h m ds u) same a.2) b.2

front : (rule : PlaceRule) (h : List Timed) (t v : Plain) (items : List Item) (at : ℕ) (item : Item) → slice_get items at ≡ Some item
    → LeadAll rule h t items v → (m : Plain) × LeadAll rule h t (take at items) m × ((n : Plain) × Leads rule h m item n)
front rule h t v [] at item e a = absurd cc
front rule h t v (d ∷ ds) zero item e a =
    let same : d ≡ item = cc in
    (t, refl, (a.0, subst (λ x. Leads rule h t x a.0) same a.1))
front rule h t v (d ∷ ds) (suc at) item e a = let f = front rule h a.0 v ds at item e a.2 in (f.0, (a.0, a.1, f.1), f.2)

-- where one leads nowhere they don't lead on
pub leads_none : (any : Bool) (h : List Timed) (t m : Plain) (items : List Item) (at : ℕ) (d : Item) → at < length items
    → LeadAll (rule_of any) h t (take at items) m → ((n : Plain) → ¬ Leads (rule_of any) h m (get_or items at d) n)
    → (u : Plain) → ¬ LeadAll (rule_of any) h t items u
leads_none any h t m items at d l a none u b =
    let f = front (rule_of any) h t u items at (get_or items at d) (get_here items at d l) b in
    let same : f.0 ≡ m = one_map any h t f.0 m (take at items) f.1 a in
    none f.2.0 (subst (λ x. Leads (rule_of any) h x (get_or items at d) f.2.0) same f.2.1)

-- the same where the auditor's rule is the one at first
pub leads_on : (any now : Bool) (h : List Timed) (t m u : Plain) (items : List Item) (at : ℕ) (d : Item) → now ≡ any → at < length items
    → LeadAll (rule_of any) h t (take at items) m → Leads (rule_of now) h m (get_or items at d) u
    → LeadAll (rule_of any) h t (take (at + 1) items) u
leads_on any now h t m u items at d same l a b =
    leads_more (rule_of any) h t m u items at d l a (subst (λ (x : Bool). Leads (rule_of x) h m (get_or items at d) u) same b)

pub leads_stop : (any now : Bool) (h : List Timed) (t m : Plain) (items : List Item) (at : ℕ) (d : Item) → now ≡ any → at < length items
    → LeadAll (rule_of any) h t (take at items) m → ((n : Plain) → ¬ Leads (rule_of now) h m (get_or items at d) n)
    → (u : Plain) → ¬ LeadAll (rule_of any) h t items u
leads_stop any now h t m items at d same l a none =
    leads_none any h t m items at d l a (subst (λ (x : Bool). (n : Plain) → ¬ Leads (rule_of x) h m (get_or items at d) n) same none)
