-- What is so at each place between two
use Rattle.slot_lock.proofs.Words.{◌≡◌, ◌≢◌, ◌==◌, ◌∙◌, ℕ, ◌+◌, ◌<◌, ◌≤◌, Bool, true, false, List, Option, None, Some, ap, refl, subst, sym, eq_true}
use Rattle.slot_lock.proofs.Words.{eq_false, arith}
use Rattle.vm_base.specs.declared.replies.Reply.TheVariants.{Segv}
use Rattle.vm_base.specs.declared.replies.SegvCode.{SegvCode}
use Rattle.vm_base.specs.declared.replies.SegvCode.TheVariants.{AccErr}
use Rattle.vm_base.specs.declared.rights.Access.TheVariants as By
use Rattle.vm_base.specs.declared.requests.Request.{Request}
use Rattle.vm_base.specs.declared.requests.Request.TheVariants.{Mmap, Munmap, Mprotect, Load, Store, Fetch}
use Rattle.audit.specs.declared.auditor.Call.{Call}
use Rattle.orders.specs.declared.history.Timed.{Timed}
use Rattle.orders.specs.Orders.{Precedes}
use Rattle.loose_orders.specs.Kernel.{Conflict, GoesOn, IsAt, IsBound, IsNew, MayLag, Sees, fetch, kind_of}
use Rattle.loose_orders.specs.declared.moves.Move.{Move}

pub one_more : (P : ℕ → Type 0) (a at : ℕ) → ((x : ℕ) → a < x → x < at → P x) → P at → (x : ℕ) → a < x → x < at + 1 → P x
one_more P a at before here x above below = go (x == at) refl
  where
    go : (b : Bool) → (x == at) ≡ b → P x
    go true e = subst P (sym (eq_true x at e)) here
    go false e = let ne : x ≢ at = eq_false x at e in before x above (omega (arith, below, ne))

same_one : {A : Type 0} (o : Option A) (x y : A) → o ≡ Some x → o ≡ Some y → x ≡ y
same_one o x y e f = cc

-- none up to there ends the change
abbrev pub Lets : List Timed → List Move → Timed → ℕ → Type 0
Lets h moves change x = (c : Timed) → IsAt h moves x c → (¬ Precedes change c) × ¬ Conflict c change

pub lets_more : (h : List Timed) (moves : List Move) (a at : ℕ) (change one : Timed) (o : Option Timed) → ((x : ℕ) → a < x → x < at → Lets h moves change x)
    → ((c : Timed) → IsAt h moves at c → o ≡ Some c) → o ≡ Some one → ¬ Precedes change one → ¬ Conflict one change
    → (x : ℕ) → a < x → x < at + 1 → Lets h moves change x
lets_more h moves a at change one o before all is time pages =
    one_more (Lets h moves change) a at before
    (λ c it. subst (λ (d : Timed). (¬ Precedes change d) × ¬ Conflict d change) (same_one o one c is (all c it)) (time, pages))

pub goes_on_there : (h : List Timed) (moves : List Move) (a now at : ℕ) (change one : Timed) (o : Option Timed) → a < now → now ≤ at
    → ((x : ℕ) → a < x → x < at → Lets h moves change x) → ((c : Timed) → IsAt h moves now c → o ≡ Some c) → o ≡ Some one
    → one.begin ≤ change.end → GoesOn h moves a now change
goes_on_there h moves a now at change one o less end lets all is begun = record {
  before = less;
  not_over = λ x c above upto it. go x c above upto it (x == now) refl;
  alone = λ x c above below it. (lets x above (omega (arith, below, end)) c it).1;
}
  where
    late : (c : Timed) → one ≡ c → ¬ Precedes change c
    late c same p = let b : c.begin ≤ change.end = subst (λ (d : Timed). d.begin ≤ change.end) same begun in omega (arith, b, p)

    go : (x : ℕ) (c : Timed) → a < x → x ≤ now → IsAt h moves x c → (b : Bool) → (x == now) ≡ b → ¬ Precedes change c
    go x c above upto it true e = late c (same_one o one c is (all c (subst (λ (y : ℕ). IsAt h moves y c) (eq_true x now e) it)))
    go x c above upto it false e = let ne : x ≢ now = eq_false x now e in (lets x above (omega (arith, upto, end, ne)) c it).0

-- ---- what was seen

pub none_more : {A : Type 0} (P : ℕ → A → Type 0) (a at : ℕ) (o : Option A) → ((x : ℕ) → a < x → x < at → (c : A) → ¬ P x c)
    → ((c : A) → P at c → o ≡ Some c) → o ≡ None → (x : ℕ) → a < x → x < at + 1 → (c : A) → ¬ P x c
none_more {A} P a at o before all is = one_more (λ (x : ℕ). (c : A) → ¬ P x c) a at before (λ c p. let amiss : Some c ≡ None = sym (all c p) ∙ is in absurd cc)

-- something had ended at or behind place a, before place x, when a call began
abbrev pub Ended : List Timed → List Move → ℕ → ℕ → ℕ → Type 0
Ended h moves a x begin = (e : ℕ) × (d : Timed) × (a ≤ e) × (e < x) × IsAt h moves e d × (d.end < begin)

-- no refusal there binds the access
abbrev pub Free : List Timed → List Move → ℕ → ℕ → Call → ℕ → Type 0
Free h moves a page call x = (c : Timed) → Sees h moves x page c → (code : SegvCode) → c.call.core ≡ call.core
    → kind_of c.call.request ≡ kind_of call.request → c.call.reply ≡ Segv code → ¬ Ended h moves a x c.begin

-- nothing at or behind place a had ended before this time
abbrev pub Lasts : List Timed → List Move → ℕ → ℕ → ℕ → Type 0
Lasts h moves a ended e = (d : Timed) → a ≤ e → IsAt h moves e d → ended ≤ d.end

pub binds_not : (h : List Timed) (moves : List Move) (place page ended : ℕ) (call : Call) (by : Timed) (o : Option Timed) (b : Bool)
    → ((c : Timed) → Sees h moves place page c → o ≡ Some c) → o ≡ Some by
    → ((code : SegvCode) → by.call.core ≡ call.core → kind_of by.call.request ≡ kind_of call.request → by.call.reply ≡ Segv code → b ≡ true)
    → b ≡ false → (c : Timed) (code : SegvCode) → Sees h moves place page c → c.call.core ≡ call.core
    → kind_of c.call.request ≡ kind_of call.request → c.call.reply ≡ Segv code → c.begin ≤ ended
binds_not h moves place page ended call by o b all is binds not c code s =
    subst (λ (d : Timed). d.call.core ≡ call.core → kind_of d.call.request ≡ kind_of call.request → d.call.reply ≡ Segv code → d.begin ≤ ended)
    (same_one o by c is (all c s)) (λ x y z. let yes : b ≡ true = binds code x y z in absurd cc)

pub begun_before : (h : List Timed) (moves : List Move) (place page ended : ℕ) (by : Timed) (o : Option Timed)
    → ((c : Timed) → Sees h moves place page c → o ≡ Some c) → o ≡ Some by → by.begin ≤ ended → (c : Timed) → Sees h moves place page c → c.begin ≤ ended
begun_before h moves place page ended by o all is l c s = subst (λ (d : Timed). d.begin ≤ ended) (same_one o by c is (all c s)) l

pub free_more : (h : List Timed) (moves : List Move) (a at page ended : ℕ) (call : Call) → ((x : ℕ) → a < x → x < at → Free h moves a page call x)
    → ((e : ℕ) → e < at → Lasts h moves a ended e)
    → ((c : Timed) (code : SegvCode) → Sees h moves at page c → c.call.core ≡ call.core → kind_of c.call.request ≡ kind_of call.request
    → c.call.reply ≡ Segv code → c.begin ≤ ended)
    → (x : ℕ) → a < x → x < at + 1 → Free h moves a page call x
free_more h moves a at page ended call before lasts here =
    one_more (Free h moves a page call) a at before (λ c s code x y z w.
    let begun : c.begin ≤ ended = here c code s x y z in
    let end : ended ≤ w.1.end = lasts w.0 w.3 w.1 w.2 w.4 in
    let over : w.1.end < c.begin = w.5 in omega (arith, begun, end, over))

pub lasts_more : (h : List Timed) (moves : List Move) (a at ended end now : ℕ) → ((e : ℕ) → e < at → Lasts h moves a ended e)
    → ((c : Timed) → IsAt h moves at c → end ≤ c.end) → now ≤ ended → now ≤ end → (e : ℕ) → e < at + 1 → Lasts h moves a now e
lasts_more h moves a at ended end now before here f g e less = go (e == at) refl
  where
    go : (b : Bool) → (e == at) ≡ b → Lasts h moves a now e
    go true same d above it =
        let l : end ≤ d.end = here d (subst (λ (x : ℕ). IsAt h moves x d) (eq_true e at same) it) in omega (arith, l, g)
    go false same d above it =
        let ne : e ≢ at = eq_false e at same in
        let l : ended ≤ d.end = before e (omega (arith, less, ne)) d above it in omega (arith, l, f)

pub lasts_first : (h : List Timed) (moves : List Move) (a end : ℕ) → ((c : Timed) → IsAt h moves a c → end ≤ c.end) → (e : ℕ) → e < a + 1
    → Lasts h moves a end e
lasts_first h moves a end here e less d above it =
    let same : e ≡ a = omega (arith, less, above) in here d (subst (λ (x : ℕ). IsAt h moves x d) same it)

-- the place from which the page is new isn't before the change
from_change : (h : List Timed) (moves : List Move) (a page m : ℕ) (request : Request) → IsNew h moves a page request m → a ≤ m
from_change h moves a page m (Mmap addr len prot flags file off) e = omega (arith, e)
from_change h moves a page m (Munmap addr len) e = omega (arith, e)
from_change h moves a page m (Mprotect addr len prot) e = let l : a < m = e.0 in omega (arith, l)
from_change h moves a page m (Load addr) e = omega (arith, e)
from_change h moves a page m (Store addr byte) e = omega (arith, e)
from_change h moves a page m (Fetch addr) e = omega (arith, e)

pub unbound : (h : List Timed) (moves : List Move) (a now at page : ℕ) (request : Request) (call : Call) → now ≤ at
    → ((x : ℕ) → a < x → x < at → Free h moves a page call x) → ¬ IsBound h moves a now page request call
unbound h moves a now at page request call end free b =
    let new : a ≤ b.new = from_change h moves a page b.new request b.is_new in
    let past : a ≤ b.ended = omega (arith, new, b.first) in
    let above : a < b.refused = omega (arith, past, b.second) in
    let below : b.refused < at = omega (arith, b.third, end) in
    free b.refused above below b.by b.sees b.code b.core b.kind b.segv (b.ended, b.past, past, b.second, b.is_past, b.began)

-- ---- a fetch that was refused

pub is_fetch : (request : Request) → kind_of request ≡ Some By.Fetch → (addr : ℕ) × (request ≡ Fetch addr)
is_fetch (Mmap addr len prot flags file off) e = absurd cc
is_fetch (Munmap addr len) e = absurd cc
is_fetch (Mprotect addr len prot) e = absurd cc
is_fetch (Load addr) e = let same : By.Load ≡ By.Fetch = cc in absurd cc
is_fetch (Store addr byte) e = let same : By.Store ≡ By.Fetch = cc in absurd cc
is_fetch (Fetch addr) e = (addr, refl)

pub fetch_lags : (moving : Bool) (h : List Timed) (moves : List Move) (a k page : ℕ) (request : Request) (c : Call) → kind_of c.request ≡ Some By.Fetch
    → c.reply ≡ Segv AccErr → MayLag moving h moves a k page request c
fetch_lags moving h moves a k page request c kind code = let f = is_fetch c.request kind in fetch f.0 f.1 code

-- ---- of one place

pub ends_there : (o : Option Timed) (one c : Timed) → o ≡ Some one → o ≡ Some c → one.end ≤ c.end
ends_there o one c e f =
    let same : one ≡ c = same_one o one c e f in
    let ends : one.end ≡ c.end = ap (λ (d : Timed). d.end) same in omega (arith, ends)

pub none_there : {A : Type 0} (o : Option Timed) (c : Timed) → o ≡ None → o ≡ Some c → A
none_there o c e f = let amiss : Some c ≡ None = sym f ∙ e in absurd cc
