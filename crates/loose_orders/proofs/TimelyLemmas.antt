-- Without the accesses that may be late an order by the kernels' rule is one at one moment
use Rattle.std.proofs.Common.{◌≡◌, ◌≢◌, ◌∙◌, ℕ, zero, suc, ◌+◌, ◌*◌, ◌/◌, ◌<◌, ◌⊎◌, inl, inr, ◌&&◌, ◌==◌, nat_le, nat_lt, cond, if◌then◌else◌, Bool}
use Rattle.std.proofs.Common.{true, false, not}
use Rattle.std.proofs.Common.{List, [], ◌∷◌, Option, None, Some, ap, arith, length, map, refl, slice_get, subst, sym}
use Rattle.std.proofs.lemmas.Bool.Decides.{nat_tests}
use Rattle.std.proofs.Math.Path.{fun_ext}
use Rattle.vm_base.specs.declared.page.PageRange.{PageRange}
use Rattle.vm_base.specs.declared.replies.Errno.TheVariants.{EINVAL, ENOMEM}
use Rattle.vm_base.specs.declared.replies.Reply.{Reply}
use Rattle.vm_base.specs.declared.replies.Reply.TheVariants.{Mapped, Done, Byte, Refused, Segv, Bus, NoFrame, NoMemory}
use Rattle.vm_base.specs.declared.requests.Request.{Request}
use Rattle.vm_base.specs.declared.requests.Request.TheVariants.{Load, Store, Fetch, Mmap, Munmap, Mprotect}
use Rattle.vm_base.specs.declared.rights.Prot.{Prot}
use Rattle.vm_base.specs.Apply.{Applies, AppliesAfter, Performs, Protects, accessed, after_protecting, with_prot}
use Rattle.vm_base.specs.Copies.{page_copied, with_copy}
use Rattle.vm_base.specs.Functions.{has}
use Rattle.vm_base.specs.Log.{RepliesBy}
use Rattle.vm_base.specs.Pages.{are_pages, is_aligned, page_of, pages_of}
use Rattle.vm_base.specs.Places.{PlaceRule}
use Rattle.vm_base.specs.Plain.{PageEntry, Plain}
use Rattle.vm_base.specs.Refusals.{mprotect_refusal}
use Rattle.vm_base.proofs.Functions.{eq_false, eq_true}
use Rattle.audit.specs.Placing.{rule_of}
use Rattle.audit.specs.declared.auditor.Call.{Call}
use Rattle.orders.specs.declared.history.Item.{Item}
use Rattle.orders.specs.declared.history.Item.TheVariants as Of
use Rattle.orders.specs.declared.history.Timed.{Timed}
use Rattle.orders.specs.Orders.{CopiesFor, EachOnce, HasOrder, IsOf, KeepsTime}
use Rattle.orders.specs.Orders.{LeadAll as LeadAllAtOnce}
use Rattle.orders.specs.Orders.{call_of as item_call}
use Rattle.orders.specs.Pages.{lost}
use Rattle.orders.proofs.LeadLemmas.{no_memory_reply}
use Rattle.orders.proofs.Lists.{get_within}
use Rattle.cores.specs.Byteless.{AreByteless, Fits, byteless, reply_left, request_left, timed_byteless}
use Rattle.cores.proofs.Agreeing.{accessed_other}
use Rattle.cores.proofs.Dimming.{Dimmed, Dims, call_goes, copies_dims, copy_dims, accessed_left, across_dims, dim, is_dim, prot_dims}
use Rattle.cores.proofs.Forgetting.{byteless_order, got, own_number, own_got}
use Rattle.cores.proofs.Picking.{add, pick}
use Rattle.loose_orders.specs.declared.moves.Move.{Move}
use Rattle.loose_orders.specs.declared.moves.Move.TheVariants as MoveOf
use Rattle.loose_orders.specs.Kernel.{ByOldRights, CopiesLate, FindsGone, GoesLate, HasKernelOrder, HasRights, IsAt, IsLateTo, LeadAll, call_of}
use Rattle.loose_orders.specs.Kernel.{changed, gone, item, items, protected}
use Rattle.loose_orders.specs.Loose.{Loose, begun, page_accessed, with_entry}
use Rattle.loose_orders.proofs.Maps.{entry_back}
use Rattle.loose_orders.proofs.PartLemmas.{part_replies}
use Rattle.loose_orders.specs.Timely.{LateAreLeftOut, IsLeftOut, IsLeftOutUnstored, MayBeLate, NoneIsPart, StaysAsTimely, TimelyOrders, lets_lag, stores}

-- ---- places

some_same : {A : Type 0} (a b : A) → Some a ≡ Some b → a ≡ b
some_same a b e = cc

item_at : (moves : List Move) (k : ℕ) (move : Move) → slice_get moves k ≡ Some move → slice_get (items moves) k ≡ Some (item move)
item_at [] k move e = absurd cc
item_at (d ∷ ds) zero move e = ap (λ (x : Move). Some (item x)) (some_same d move e)
item_at (d ∷ ds) (suc k) move e = item_at ds k move e

same_call : (move : Move) → item_call (item move) ≡ call_of move
same_call (MoveOf.Reply i) = refl
same_call (MoveOf.Late i a) = refl
same_call (MoveOf.Part i n p) = refl
same_call (MoveOf.Copy i) = refl
same_call (MoveOf.LateCopy i a) = refl

at_item : (h : List Timed) (moves : List Move) (k : ℕ) (c : Timed) → IsAt h moves k c → IsOf h (items moves) k c
at_item h moves k c at = record {
  item = item at.move;
  at = item_at moves k at.move at.at;
  call = ap (slice_get h) (same_call at.move) ∙ at.call;
}

le_true : (m n : ℕ) → ¬ (n < m) → nat_le m n ≡ true
le_true m n l = go (nat_le m n) refl
  where
    go : (b : Bool) → nat_le m n ≡ b → b ≡ true
    go true e = refl
    go false e = let less : n < m = grind (arith, nat_tests) in absurd (l less)

all_four : (a b c d : Bool) → a ≡ true → b ≡ true → c ≡ true → d ≡ true → (a && b && c && d) ≡ true
all_four true true true true e f g h = refl
all_four true true true false e f g h = absurd cc
all_four true true false d e f g h = absurd cc
all_four true false c d e f g h = absurd cc
all_four false b c d e f g h = absurd cc

-- an access that goes late may
late_may : (h : List Timed) (moves : List Move) (a k page : ℕ) (move : Move) (change c : Timed) → KeepsTime h (items moves) → slice_get moves k ≡ Some move
    → slice_get h (call_of move) ≡ Some c → IsLateTo h moves a k page change c → lets_lag change.call.request ≡ true → MayBeLate h c
late_may h moves a k page move change c keeps at is late lets = (
  page,
  late.accesses,
  (
    call_of late.at.move,
    change,
    late.at.call,
    all_four (lets_lag change.call.request) (has (changed change.call.request change.call.reply) page) (nat_le change.begin c.end) (nat_le c.begin change.end)
        lets late.within
        (le_true change.begin c.end (keeps a k change c late.goes_on.before (at_item h moves a change late.at) (at_item h moves k c here)))
        (le_true c.begin change.end (late.goes_on.not_over k c late.goes_on.before (omega arith) here)),
  ),
)
  where
    here : IsAt h moves k c
    here = record { move = move; at = at; call = is }

lets_munmap : (r : Request) (addr len : ℕ) → r ≡ Munmap addr len → lets_lag r ≡ true
lets_munmap r addr len e = ap lets_lag e

lets_mprotect : (r : Request) (addr len : ℕ) (prot : Prot) → r ≡ Mprotect addr len prot → lets_lag r ≡ true
lets_mprotect r addr len prot e = ap lets_lag e

-- ---- the pages of one page's range

just_one : (x page : ℕ) → nat_le page x ≡ true → nat_lt x (page + 1) ≡ true → x ≡ page
just_one x page low high = grind (arith, nat_tests, low, high)

both : (a b : Bool) → (a && b) ≡ true → (a ≡ true) × (b ≡ true)
both true true e = (refl, refl)
both true false e = absurd cc
both false b e = absurd cc

one_page : (page x : ℕ) → has (pages_of (page * 4096) 4096) x ≡ true → x ≡ page
one_page page x h =
    let first : (page * 4096) / 4096 ≡ page = omega arith in
    let end : (page * 4096 + 4096 + 4095) / 4096 ≡ page + 1 = omega arith in
    let tests = both (nat_le ((page * 4096) / 4096) x) (nat_lt x ((page * 4096 + 4096 + 4095) / 4096)) h in
    just_one x page (subst (λ (n : ℕ). nat_le n x ≡ true) first tests.0) (subst (λ (n : ℕ). nat_lt x n ≡ true) end tests.1)

-- rights that are given for a moment, and those that were there
undo : (b : Bool) (o : Option PageEntry) (old new : Prot) → (b ≡ true → HasRights o new)
    → cond b (with_prot new (cond b (with_prot old o) o)) (cond b (with_prot old o) o) ≡ o
undo false o old new h = refl
undo true None old new h = absurd (h refl)
undo true (Some e) old new h = ap (λ (prot : Prot). Some (record e { prot = prot })) (sym (h refl))

-- ---- what mprotect does to a page

not_done : (a b : Bool) → (if a then Some (Refused EINVAL) else (if b then Some (Refused ENOMEM) else None)) ≢ Some Done
not_done true b e = absurd cc
not_done false true e = absurd cc
not_done false false e = absurd cc

done_by : (rule : PlaceRule) (o : Option Reply) (t u : Plain) (core addr len : ℕ) (prot : Prot) → o ≢ Some Done
    → AppliesAfter rule o t core (Mprotect addr len prot) Done u → u ≡ after_protecting t (pages_of addr len) prot
done_by rule (Some refused) t u core addr len prot never h = absurd (never (ap Some (sym h.0)))
done_by rule None t u core addr len prot never (Protects.no_page absent y same) = absurd cc
done_by rule None t u core addr len prot never (Protects.no_write mapped write only y same) = absurd cc
done_by rule None t u core addr len prot never (Protects.done mapped may y same) = same

protects_page : (rule : PlaceRule) (t u : Plain) (core page : ℕ) (prot : Prot) → RepliesBy rule t core (Mprotect (page * 4096) 4096 prot) Done u
    → u ≡ after_protecting t (pages_of (page * 4096) 4096) prot
protects_page rule t u core page prot h =
    done_by rule (mprotect_refusal (page * 4096) 4096) t u core (page * 4096) 4096 prot
    (not_done (not (is_aligned (page * 4096))) (not (are_pages (pages_of (page * 4096) 4096)))) h

-- ---- accesses that store nothing

unchanged : (t : Plain) (addr byte : ℕ) (y : Reply) → y ≢ Done → accessed t addr byte y ≡ t
unchanged t addr byte Done never = absurd (never refl)
unchanged t addr byte (Mapped at) never = refl
unchanged t addr byte (Byte b) never = refl
unchanged t addr byte (Refused e) never = refl
unchanged t addr byte (Segv code) never = refl
unchanged t addr byte Bus never = refl
unchanged t addr byte NoFrame never = refl
unchanged t addr byte NoMemory never = refl

abbrev IsOfPage : Request → ℕ → Type 0
IsOfPage r page = page_accessed r ≡ Some page

performs_same : (rule : PlaceRule) (t u : Plain) (core page : ℕ) (r : Request) (y : Reply) → IsOfPage r page → y ≢ Done → Performs rule t core r y u → u ≡ t
performs_same rule t u core page (Load addr) y e never h = h.1 ∙ unchanged t addr 0 y never
performs_same rule t u core page (Store addr byte) y e never h = h.1 ∙ unchanged t addr byte y never
performs_same rule t u core page (Fetch addr) y e never h = h.1 ∙ unchanged t addr 0 y never
performs_same rule t u core page (Mmap addr len prot flags file off) y e never h = absurd cc
performs_same rule t u core page (Munmap addr len) y e never h = absurd cc
performs_same rule t u core page (Mprotect addr len prot) y e never h = absurd cc

applies_same : (rule : PlaceRule) (t u : Plain) (core page : ℕ) (r : Request) (y : Reply) → IsOfPage r page → y ≢ Done → Applies rule t core r y u → u ≡ t
applies_same rule t u core page (Load addr) y e never h = performs_same rule t u core page (Load addr) y e never h
applies_same rule t u core page (Store addr byte) y e never h = performs_same rule t u core page (Store addr byte) y e never h
applies_same rule t u core page (Fetch addr) y e never h = performs_same rule t u core page (Fetch addr) y e never h
applies_same rule t u core page (Mmap addr len prot flags file off) y e never h = absurd cc
applies_same rule t u core page (Munmap addr len) y e never h = absurd cc
applies_same rule t u core page (Mprotect addr len prot) y e never h = absurd cc

replies_same : (rule : PlaceRule) (t u : Plain) (core page : ℕ) (r : Request) (y : Reply) → IsOfPage r page → y ≢ Done → RepliesBy rule t core r y u → u ≡ t
replies_same rule t u core page r Done e never h = absurd (never refl)
replies_same rule t u core page r NoMemory e never h = h
replies_same rule t u core page r NoFrame e never h = h.1
replies_same rule t u core page r (Mapped at) e never h = applies_same rule t u core page r (Mapped at) e never h
replies_same rule t u core page r (Byte b) e never h = applies_same rule t u core page r (Byte b) e never h
replies_same rule t u core page r (Refused x) e never h = applies_same rule t u core page r (Refused x) e never h
replies_same rule t u core page r (Segv code) e never h = applies_same rule t u core page r (Segv code) e never h
replies_same rule t u core page r Bus e never h = applies_same rule t u core page r Bus e never h

-- what isn't a store, and wasn't done
abbrev IsQuiet : Call → Type 0
IsQuiet c = stores c ≡ false

not_stored : (r : Request) (y : Reply) (core : ℕ) → IsQuiet (record { core = core; request = r; reply = y }) → y ≢ Done
not_stored (Store addr byte) y core q e = absurd cc
not_stored (Load addr) y core q e = let wrong : true ≡ false = subst (λ (z : Reply). stores
    (record { core = core; request = Load addr; reply = z }) ≡ false) e q in absurd cc
not_stored (Fetch addr) y core q e = let wrong : true ≡ false = subst (λ (z : Reply). stores
    (record { core = core; request = Fetch addr; reply = z }) ≡ false) e q in absurd cc
not_stored (Mmap addr len prot flags file off) y core q e =
    let wrong : true ≡ false = subst (λ (z : Reply). stores (record {
      core = core;
      request = Mmap addr len prot flags file off;
      reply
          = z;
    }) ≡ false) e q in absurd cc
not_stored (Munmap addr len) y core q e =
    let wrong : true ≡ false = subst (λ (z : Reply). stores (record { core = core; request = Munmap addr len; reply = z }) ≡ false) e q in absurd cc
not_stored (Mprotect addr len prot) y core q e =
    let wrong : true ≡ false = subst (λ (z : Reply). stores (record { core = core; request = Mprotect addr len prot; reply = z }) ≡ false) e q in absurd cc

quiet_done : (c : Call) → IsQuiet c → c.reply ≢ Done
quiet_done c q = not_stored c.request c.reply c.core q

no_copies : (t u : Plain) (r : Request) (y : Reply) (core : ℕ) → IsQuiet (record { core = core; request = r; reply = y }) → ¬ CopiesFor t r u
no_copies t u (Store addr byte) y core q h = absurd cc
no_copies t u (Load addr) y core q h = h
no_copies t u (Fetch addr) y core q h = h
no_copies t u (Mmap addr len prot flags file off) y core q h = h
no_copies t u (Munmap addr len) y core q h = h
no_copies t u (Mprotect addr len prot) y core q h = h

gone_same : (rule : PlaceRule) (s u : Loose) (i page : ℕ) (c : Call) → IsOfPage c.request page → IsQuiet c → FindsGone rule s i page c u → u.plain ≡ s.plain
gone_same rule s u i page c e q g =
    let there : Plain = with_entry s.plain page g.entry in
    let same : g.after ≡ there = performs_same rule there g.after c.core page c.request c.reply e (quiet_done c q) g.performs in
    g.plain ∙ (ap (λ (t : Plain). with_entry t page (s.plain.entry page)) same ∙ entry_back s.plain page g.entry)

-- the map behind both changes of rights
abbrev two_rights : Plain → PageRange → Prot → Prot → Plain
two_rights t r old new = after_protecting (after_protecting t r old) r new

two_same : (t : Plain) (page : ℕ) (old new : Prot) → HasRights (t.entry page) new → two_rights t (pages_of (page * 4096) 4096) old new ≡ t
two_same t page old new h =
    ap (λ (f : ℕ → Option PageEntry). record t { entry = f }) (fun_ext (λ x. undo (has (pages_of (page * 4096) 4096) x) (t.entry x) old new
    (λ e. subst (λ (p : ℕ). HasRights (t.entry p) new) (sym (one_page page x e)) h)))

rights_same : (rule : PlaceRule) (s u : Loose) (i page : ℕ) (c : Call) (new : Prot) (m n : Plain) → n ≡ m
    → ByOldRights rule s i page c.core new m n u → u.plain ≡ s.plain
rights_same rule s u i page c new m n same r =
    let range : PageRange = pages_of (page * 4096) 4096 in
    protects_page rule n u.plain c.core page new r.to_new
    ∙ (ap (λ (t : Plain). after_protecting t range new) (same ∙ protects_page rule s.plain m c.core page r.entry.prot r.to_old)
    ∙ two_same s.plain page r.entry.prot new r.has_new)

late_same : (rule : PlaceRule) (moving : Bool) (h : List Timed) (moves : List Move) (a k : ℕ) (s u : Loose) (c : Timed) → IsQuiet c.call
    → GoesLate rule moving h moves a k s c u → u.plain ≡ s.plain
late_same rule moving h moves a k s u c q (gone page addr len change late unmaps lag finds) =
    gone_same rule s u (call_of late.at.move) page c.call late.accesses q finds
late_same rule moving h moves a k s u c q (protected page addr len prot change m n late protects which rights replies) =
    rights_same rule s u (call_of late.at.move) page c.call prot m n
    (replies_same rule m n c.call.core page c.call.request c.call.reply late.accesses (quiet_done c.call q) replies) rights

-- ---- accesses, where bytes are forgotten

applies_left : (rule : PlaceRule) (t u s : Plain) (core page : ℕ) (r : Request) (y : Reply) → IsOfPage r page → Performs rule t core r y u
    → Dimmed t s → Dimmed u s
applies_left rule t u s core page (Load addr) y e h d = subst (λ (n : Plain). Dimmed n s) (sym h.1) (accessed_left t s addr 0 y d)
applies_left rule t u s core page (Store addr byte) y e h d = subst (λ (n : Plain). Dimmed n s) (sym h.1) (accessed_left t s addr byte y d)
applies_left rule t u s core page (Fetch addr) y e h d = subst (λ (n : Plain). Dimmed n s) (sym h.1) (accessed_left t s addr 0 y d)
applies_left rule t u s core page (Mmap addr len prot flags file off) y e h d = absurd cc
applies_left rule t u s core page (Munmap addr len) y e h d = absurd cc
applies_left rule t u s core page (Mprotect addr len prot) y e h d = absurd cc

accesses_left : (rule : PlaceRule) (t u s : Plain) (core page : ℕ) (r : Request) (y : Reply) → IsOfPage r page → Applies rule t core r y u
    → Dimmed t s → Dimmed u s
accesses_left rule t u s core page (Load addr) y e h d = applies_left rule t u s core page (Load addr) y e h d
accesses_left rule t u s core page (Store addr byte) y e h d = applies_left rule t u s core page (Store addr byte) y e h d
accesses_left rule t u s core page (Fetch addr) y e h d = applies_left rule t u s core page (Fetch addr) y e h d
accesses_left rule t u s core page (Mmap addr len prot flags file off) y e h d = absurd cc
accesses_left rule t u s core page (Munmap addr len) y e h d = absurd cc
accesses_left rule t u s core page (Mprotect addr len prot) y e h d = absurd cc

replies_left : (rule : PlaceRule) (t u s : Plain) (core page : ℕ) (r : Request) (y : Reply) → IsOfPage r page → RepliesBy rule t core r y u
    → Dimmed t s → Dimmed u s
replies_left rule t u s core page r NoMemory e h d = subst (λ (n : Plain). Dimmed n s) (sym h) d
replies_left rule t u s core page r NoFrame e h d = subst (λ (n : Plain). Dimmed n s) (sym h.1) d
replies_left rule t u s core page r Done e h d =
    accesses_left rule (with_copy t (page_copied t r Done)) u s core page r Done e h (copy_dims t s r Done d)
replies_left rule t u s core page r (Mapped at) e h d = accesses_left rule t u s core page r (Mapped at) e h d
replies_left rule t u s core page r (Byte b) e h d = accesses_left rule t u s core page r (Byte b) e h d
replies_left rule t u s core page r (Refused x) e h d = accesses_left rule t u s core page r (Refused x) e h d
replies_left rule t u s core page r (Segv code) e h d = accesses_left rule t u s core page r (Segv code) e h d
replies_left rule t u s core page r Bus e h d = accesses_left rule t u s core page r Bus e h d

-- an access changes its page alone
other_page : (rule : PlaceRule) (t u : Plain) (core page x : ℕ) (r : Request) (y : Reply) → IsOfPage r page → x ≢ page → Performs rule t core r y u
    → u.entry x ≡ t.entry x
other_page rule t u core page x (Load addr) y e never h =
    ap (λ (n : Plain). n.entry x) h.1 ∙ accessed_other t addr 0 x y (λ f. never (f ∙ some_same (page_of addr) page e))
other_page rule t u core page x (Store addr byte) y e never h =
    ap (λ (n : Plain). n.entry x) h.1 ∙ accessed_other t addr byte x y (λ f. never (f ∙ some_same (page_of addr) page e))
other_page rule t u core page x (Fetch addr) y e never h =
    ap (λ (n : Plain). n.entry x) h.1 ∙ accessed_other t addr 0 x y (λ f. never (f ∙ some_same (page_of addr) page e))
other_page rule t u core page x (Mmap addr len prot flags file off) y e never h = absurd cc
other_page rule t u core page x (Munmap addr len) y e never h = absurd cc
other_page rule t u core page x (Mprotect addr len prot) y e never h = absurd cc

gone_dims : (rule : PlaceRule) (s u : Loose) (t : Plain) (i page : ℕ) (c : Call) → IsOfPage c.request page → FindsGone rule s i page c u → Dimmed s.plain t
    → Dimmed u.plain t
gone_dims rule s u t i page c e g d = subst (λ (n : Plain). Dimmed n t) (sym g.plain) (λ x. go x (x == page) refl)
  where
    go : (x : ℕ) (b : Bool) → (x == page) ≡ b → Dims (cond b (s.plain.entry page) (g.after.entry x)) (t.entry x)
    go x true f = subst (λ (n : ℕ). Dims (s.plain.entry n) (t.entry x)) (eq_true x page f) (d x)
    go x false f =
        let there : Plain = with_entry s.plain page g.entry in
        let never : x ≢ page = eq_false x page f in
        let same : g.after.entry x ≡ there.entry x = other_page rule there g.after c.core page x c.request c.reply e never g.performs in
        let old : there.entry x ≡ s.plain.entry x = ap (λ (b : Bool). cond b g.entry (s.plain.entry x)) f in
        subst (λ (o : Option PageEntry). Dims o (t.entry x)) (sym (same ∙ old)) (d x)

rights_dims : (rule : PlaceRule) (s u : Loose) (t : Plain) (i page core : ℕ) (new : Prot) (m n : Plain) → ((v : Plain) → Dimmed m v → Dimmed n v)
    → ByOldRights rule s i page core new m n u → Dimmed s.plain t → Dimmed u.plain t
rights_dims rule s u t i page core new m n goes r d x =
    subst (λ (o : Option PageEntry). Dims (u.plain.entry x) o) (undo (has range x) (t.entry x) r.entry.prot new (λ e. has_rights x
    (one_page page x e))) (behind x)
  where
    range : PageRange
    range = pages_of (page * 4096) 4096

    protects : (a b : Plain) (prot : Prot) → Dimmed a b → Dimmed (after_protecting a range prot) (after_protecting b range prot)
    protects a b prot e = across_dims range a b (λ p. with_prot prot (a.entry p)) (λ p. with_prot prot (b.entry p)) (λ p. prot_dims prot (a.entry p)
        (b.entry p) (e p)) e

    first : Dimmed m (after_protecting t range r.entry.prot)
    first =
        subst (λ (p : Plain). Dimmed p (after_protecting t range r.entry.prot)) (sym (protects_page rule s.plain m core page r.entry.prot r.to_old))
        (protects s.plain t r.entry.prot d)

    behind : Dimmed u.plain (two_rights t range r.entry.prot new)
    behind =
        subst (λ (p : Plain). Dimmed p (two_rights t range r.entry.prot new)) (sym (protects_page rule n u.plain core page new r.to_new))
        (protects n (after_protecting t range r.entry.prot) new (goes (after_protecting t range r.entry.prot) first))

    rights_of : (o q : Option PageEntry) → Dims o q → HasRights o new → HasRights q new
    rights_of None q e f = absurd f
    rights_of (Some one) q e f = subst (λ (o : Option PageEntry). HasRights o new) (sym e.1) (e.2 ∙ f)

    has_rights : (p : ℕ) → p ≡ page → HasRights (t.entry p) new
    has_rights p e = subst (λ (q : ℕ). HasRights (t.entry q) new) (sym e) (rights_of (s.plain.entry page) (t.entry page) (d page) r.has_new)

late_dims : (rule : PlaceRule) (moving : Bool) (h : List Timed) (moves : List Move) (a k : ℕ) (s u : Loose) (t : Plain) (c : Timed)
    → GoesLate rule moving h moves a k s c u → Dimmed s.plain t → Dimmed u.plain t
late_dims rule moving h moves a k s u t c (gone page addr len change late unmaps lag finds) d =
    gone_dims rule s u t (call_of late.at.move) page c.call late.accesses finds d
late_dims rule moving h moves a k s u t c (protected page addr len prot change m n late protects which rights replies) d =
    rights_dims rule s u t (call_of late.at.move) page c.call.core prot m n
    (λ v e. replies_left rule m n v c.call.core page c.call.request c.call.reply late.accesses replies e) rights d

late_copy_dims : (rule : PlaceRule) (h : List Timed) (moves : List Move) (a k : ℕ) (s u : Loose) (t : Plain) (c : Timed) → CopiesLate rule h moves a k s c u
    → Dimmed s.plain t → Dimmed u.plain t
late_copy_dims rule h moves a k s u t c l d =
    rights_dims rule s u t (call_of l.late.at.move) l.page c.call.core l.prot l.before l.after
    (λ v e. copies_dims l.before l.after v c.call.request l.copies e) l.rights d

-- ---- the calls that are left

times : (h : List Timed) (out : Timed → Timed → Type 0) (c d : Timed) → ((x y : Timed) → out x y → y ≡ lost x) → StaysAsTimely h c d ⊎ out c d
    → (d.begin ≡ c.begin) × (d.end ≡ c.end)
times h out c d is (inl e) = (ap (λ (x : Timed). x.begin) e.0, ap (λ (x : Timed). x.end) e.0)
times h out c d is (inr o) = let e = is c d o in (ap (λ (x : Timed). x.begin) e, ap (λ (x : Timed). x.end) e)

there : (xs : List Timed) (i : ℕ) → i < length xs → (c : Timed) × (slice_get xs i ≡ Some c)
there [] i l = absurd (omega (arith, l))
there (x ∷ xs) zero l = (x, refl)
there (x ∷ xs) (suc i) l = there xs i (omega (arith, l))

keeps_left : (out : Timed → Timed → Type 0) (h taken : List Timed) (xs : List Item) → ((x y : Timed) → out x y → y ≡ lost x) → LateAreLeftOut out h taken
    → KeepsTime h xs → KeepsTime taken xs
keeps_left out h taken xs is a keeps j k one two less oj ok early =
    let x = was j one oj in
    let y = was k two ok in
    let begins = x.2 in
    let ends = y.3 in
    keeps j k x.0 y.0 less x.1 y.1 (omega (arith, begins, ends, early))
  where
    was : (n : ℕ) (d : Timed) → IsOf taken xs n d → (c : Timed) × IsOf h xs n c × (d.begin ≡ c.begin) × (d.end ≡ c.end)
    was n d o =
        let within = get_within taken (item_call o.item) d o.call in
        let count = a.count in
        let c = there h (item_call o.item) (omega (arith, within, count)) in
        let e = a.each (item_call o.item) c.0 c.1 in
        let same : e.0 ≡ d = some_same e.0 d (sym e.1 ∙ o.call) in
        let t = times h out c.0 e.0 is e.2 in
        (c.0, record { item = o.item; at = o.at; call = c.1 }, ap (λ (x : Timed). x.begin) (sym same) ∙ t.0, ap (λ (x : Timed). x.end) (sym same) ∙ t.1)

out_lost : (x y : Timed) → IsLeftOut x y → y ≡ lost x
out_lost x y o = o.0

unstored_lost : (x y : Timed) → IsLeftOutUnstored x y → y ≡ lost x
unstored_lost x y o = o.0.0

-- the moves from one place on
abbrev AreFrom : List Move → ℕ → List Move → Type 0
AreFrom moves k rest = (n : ℕ) (move : Move) → slice_get rest n ≡ Some move → slice_get moves (k + n) ≡ Some move

from_next : (moves rest : List Move) (k : ℕ) (d : Move) → AreFrom moves k (d ∷ rest) → AreFrom moves (k + 1) rest
from_next moves rest k d f n move e =
    let next : k + suc n ≡ k + 1 + n = omega arith in subst (λ (j : ℕ). slice_get moves j ≡ Some move) next (f (suc n) move e)

from_here : (moves rest : List Move) (k : ℕ) (d : Move) → AreFrom moves k (d ∷ rest) → slice_get moves k ≡ Some d
from_here moves rest k d f =
    let here : k + 0 ≡ k = omega arith in subst (λ (j : ℕ). slice_get moves j ≡ Some d) here (f 0 d refl)

late_of : (rule : PlaceRule) (moving : Bool) (h : List Timed) (moves : List Move) (a k i : ℕ) (s u : Loose) (c : Timed) → KeepsTime h (items moves)
    → slice_get moves k ≡ Some (MoveOf.Late i a) → slice_get h i ≡ Some c → GoesLate rule moving h moves a k s c u → MayBeLate h c
late_of rule moving h moves a k i s u c keeps at is (gone page addr len change late unmaps lag finds) =
    late_may h moves a k page (MoveOf.Late i a) change c keeps at is late (lets_munmap change.call.request addr len unmaps)
late_of rule moving h moves a k i s u c keeps at is (protected page addr len prot change m n late protects which rights replies) =
    late_may h moves a k page (MoveOf.Late i a) change c keeps at is late (lets_mprotect change.call.request addr len prot protects)

copy_of : (rule : PlaceRule) (h : List Timed) (moves : List Move) (a k i : ℕ) (s u : Loose) (c : Timed) → KeepsTime h (items moves)
    → slice_get moves k ≡ Some (MoveOf.LateCopy i a) → slice_get h i ≡ Some c → CopiesLate rule h moves a k s c u → MayBeLate h c
copy_of rule h moves a k i s u c keeps at is l =
    late_may h moves a k l.page (MoveOf.LateCopy i a) l.change c keeps at is l.late (lets_mprotect l.change.call.request l.addr l.len l.prot l.protects)

-- ---- where no store is left out

kept_request : (h : List Timed) (c d : Timed) → StaysAsTimely h c d ⊎ IsLeftOutUnstored c d → d.call.request ≡ c.call.request
kept_request h c d (inl e) = ap (λ (x : Timed). x.call.request) e.0
kept_request h c d (inr o) = ap (λ (x : Timed). x.call.request) o.0.0

-- it is answered as in the map, or not at all
reply_left_so : (rule : PlaceRule) (h : List Timed) (t u : Plain) (c d : Timed) → StaysAsTimely h c d ⊎ IsLeftOutUnstored c d
    → RepliesBy rule t c.call.core c.call.request c.call.reply u → RepliesBy rule t d.call.core d.call.request d.call.reply u
reply_left_so rule h t u c d (inl e) r = subst (λ (x : Timed). RepliesBy rule t x.call.core x.call.request x.call.reply u) (sym e.0) r
reply_left_so rule h t u c d (inr o) r =
    subst (λ (x : Timed). RepliesBy rule t x.call.core x.call.request x.call.reply u) (sym o.0.0)
    (replies_same rule t u c.call.core o.0.1.0 c.call.request c.call.reply o.0.1.1 (quiet_done c.call o.1) r)

late_left_so : (rule : PlaceRule) (h : List Timed) (t u : Plain) (c d : Timed) → MayBeLate h c → StaysAsTimely h c d ⊎ IsLeftOutUnstored c d
    → (stores c.call ≡ false → u ≡ t) → RepliesBy rule t d.call.core d.call.request d.call.reply u
late_left_so rule h t u c d may (inl e) same = absurd (e.1 may)
late_left_so rule h t u c d may (inr o) same =
    subst (λ (x : Timed). RepliesBy rule t x.call.core x.call.request x.call.reply u) (sym o.0.0) (same o.1)

no_late_copy : (rule : PlaceRule) (h : List Timed) (moves : List Move) (a k : ℕ) (s u : Loose) (c d : Timed) → MayBeLate h c
    → StaysAsTimely h c d ⊎ IsLeftOutUnstored c d
    → ¬ CopiesLate rule h moves a k s c u
no_late_copy rule h moves a k s u c d may (inl e) l = e.1 may
no_late_copy rule h moves a k s u c d may (inr o) l =
    no_copies l.before l.after c.call.request c.call.reply c.call.core o.1 l.copies

lead_stored : (rule : PlaceRule) (moving : Bool) (h taken : List Timed) (moves : List Move) (k : ℕ) (s u : Loose) (rest : List Move)
    → NoneIsPart h → LateAreLeftOut IsLeftOutUnstored h taken → KeepsTime h (items moves) → AreFrom moves k rest
    → LeadAll rule moving h moves k s rest u → LeadAllAtOnce rule taken s.plain (items rest) u.plain
lead_stored rule moving h taken moves k s u [] none a keeps from l = ap (λ (x : Loose). x.plain) l
lead_stored rule moving h taken moves k s u (MoveOf.Reply i ∷ rest) none a keeps from (m, (c, is, by, old), l) =
    let d = a.each i c is in (
      m.plain,
      (d.0, d.1, reply_left_so rule h s.plain m.plain c d.0 d.2 by),
      lead_stored rule moving h taken moves (k + 1) m u rest none a keeps (from_next moves rest k (MoveOf.Reply i) from) l,
    )
lead_stored rule moving h taken moves k s u (MoveOf.Late i b ∷ rest) none a keeps from (m, (c, is, goes), l) =
    let d = a.each i c is in
    let may = late_of rule moving h moves b k i s m c keeps (from_here moves rest k (MoveOf.Late i b) from) is goes in (
      m.plain,
      (d.0, d.1, late_left_so rule h s.plain m.plain c d.0 may d.2 (λ q. late_same rule moving h moves b k s m c q goes)),
      lead_stored rule moving h taken moves (k + 1) m u rest none a keeps (from_next moves rest k (MoveOf.Late i b) from) l,
    )
lead_stored rule moving h taken moves k s u (MoveOf.Part i n p ∷ rest) none a keeps from (m, (c, is, part), l) =
    let d = a.each i c is in (
      m.plain,
      (d.0, d.1, reply_left_so rule h s.plain m.plain c d.0 d.2 (part_replies rule s m i n p c.call (none i c is) part)),
      lead_stored rule moving h taken moves (k + 1) m u rest none a keeps (from_next moves rest k (MoveOf.Part i n p) from) l,
    )
lead_stored rule moving h taken moves k s u (MoveOf.Copy i ∷ rest) none a keeps from (m, (c, is, copies, old), l) =
    let d = a.each i c is in (
      m.plain,
      (d.0, d.1, subst (λ (r : Request). CopiesFor s.plain r m.plain) (sym (kept_request h c d.0 d.2)) copies),
      lead_stored rule moving h taken moves (k + 1) m u rest none a keeps (from_next moves rest k (MoveOf.Copy i) from) l,
    )
lead_stored rule moving h taken moves k s u (MoveOf.LateCopy i b ∷ rest) none a keeps from (m, (c, is, copies), l) =
    let d = a.each i c is in
    let may = copy_of rule h moves b k i s m c keeps (from_here moves rest k (MoveOf.LateCopy i b) from) is copies in
    absurd (no_late_copy rule h moves b k s m c d.0 may d.2 copies)

stored_order : (rule : PlaceRule) (moving : Bool) (t : Plain) (h taken : List Timed) → NoneIsPart h → LateAreLeftOut IsLeftOutUnstored h taken
    → HasKernelOrder rule moving t h → HasOrder rule t taken
stored_order rule moving t h taken none a o = record {
  items = items o.moves;
  is_order = record {
    keeps_time = keeps_left IsLeftOutUnstored h taken (items o.moves) unstored_lost a o.is_order.keeps_time;
    each_once = subst (λ (n : ℕ). EachOnce n (items o.moves)) (sym a.count) o.is_order.each_once;
    last = o.is_order.last.plain;
    lead = lead_stored rule moving h taken o.moves 0 (begun t) o.is_order.last o.moves none a o.is_order.keeps_time
        (λ n move e. let same : 0 + n ≡ n = omega arith in subst (λ (j : ℕ). slice_get o.moves j ≡ Some move) (sym same) e) o.is_order.lead;
  };
}

-- ---- where bytes are forgotten

abbrev LeftBy : PlaceRule → Plain → Plain → Timed → Type 0
LeftBy rule t u d = (v : Plain) × RepliesBy rule t (byteless d.call).core (byteless d.call).request (byteless d.call).reply v × Dimmed u v

lost_left : (r : Request) → reply_left r NoMemory ≡ NoMemory
lost_left (Load addr) = refl
lost_left (Fetch addr) = refl
lost_left (Store addr byte) = refl
lost_left (Munmap addr len) = refl
lost_left (Mprotect addr len prot) = refl
lost_left (Mmap addr len prot flags file off) = refl

lost_goes : (rule : PlaceRule) (t u : Plain) (c d : Timed) → d ≡ lost c → Dimmed u t → LeftBy rule t u d
lost_goes rule t u c d e dims =
    subst (λ (x : Timed). LeftBy rule t u x) (sym e) (
      t,
      no_memory_reply rule t c.call.core (request_left c.call.request NoMemory) (reply_left c.call.request NoMemory) (lost_left c.call.request),
      dims,
    )

reply_dims : (rule : PlaceRule) (h : List Timed) (s t u : Plain) (c d : Timed) → Fits d.call.request d.call.reply
    → StaysAsTimely h c d ⊎ IsLeftOut c d → Dimmed s t
    → RepliesBy rule s c.call.core c.call.request c.call.reply u → LeftBy rule t u d
reply_dims rule h s t u c d fits (inl e) dims r =
    call_goes rule s t u d.call fits dims (subst (λ (x : Timed). RepliesBy rule s x.call.core x.call.request x.call.reply u) (sym e.0) r)
reply_dims rule h s t u c d fits (inr o) dims r =
    lost_goes rule t u c d o.0 (replies_left rule s u t c.call.core o.1.0 c.call.request c.call.reply o.1.1 r dims)

late_goes : (rule : PlaceRule) (h : List Timed) (t u : Plain) (c d : Timed) → MayBeLate h c → StaysAsTimely h c d ⊎ IsLeftOut c d → Dimmed u t
    → LeftBy rule t u d
late_goes rule h t u c d may (inl e) dims = absurd (e.1 may)
late_goes rule h t u c d may (inr o) dims = lost_goes rule t u c d o.0 dims

-- the items that stay lead on
abbrev LeadLeft : PlaceRule → List Timed → Plain → List Item → Type 0
LeadLeft rule left t xs = (v : Plain) × LeadAllAtOnce rule (map timed_byteless left) t (pick (own_number left) xs) v

push_left : (rule : PlaceRule) (left : List Timed) (t u : Plain) (i : ℕ) (d : Timed) (xs : List Item) → slice_get left i ≡ Some d → (step : LeftBy rule t u d)
    → LeadLeft rule left step.0 xs → LeadLeft rule left t (Of.Reply i ∷ xs)
push_left rule left t u i d xs is step rest =
    subst (λ (o : Option ℕ). (v : Plain) × LeadAllAtOnce rule (map timed_byteless left) t (add o (pick (own_number left) xs)) v) (sym (own_got left i d is))
    (rest.0, (step.0, (timed_byteless d, got left i d is, step.1), rest.1))

lead_dimmed : (rule : PlaceRule) (moving : Bool) (h left : List Timed) (moves : List Move) (k : ℕ) (s u : Loose) (t : Plain) (rest : List Move)
    → NoneIsPart h → LateAreLeftOut IsLeftOut h left → ((i : ℕ) (d : Timed) → slice_get left i ≡ Some d → Fits d.call.request d.call.reply)
    → KeepsTime h (items moves) → AreFrom moves k rest → Dimmed s.plain t → LeadAll rule moving h moves k s rest u → LeadLeft rule left t (items rest)
lead_dimmed rule moving h left moves k s u t [] none a fits keeps from dims l = (t, refl)
lead_dimmed rule moving h left moves k s u t (MoveOf.Reply i ∷ rest) none a fits keeps from dims (m, (c, is, by, old), l) =
    let d = a.each i c is in
    let step = reply_dims rule h s.plain t m.plain c d.0 (fits i d.0 d.1) d.2 dims by in
    push_left rule left t m.plain i d.0 (items rest) d.1 step
    (lead_dimmed rule moving h left moves (k + 1) m u step.0 rest none a fits keeps (from_next moves rest k (MoveOf.Reply i) from) step.2 l)
lead_dimmed rule moving h left moves k s u t (MoveOf.Late i b ∷ rest) none a fits keeps from dims (m, (c, is, goes), l) =
    let d = a.each i c is in
    let may = late_of rule moving h moves b k i s m c keeps (from_here moves rest k (MoveOf.Late i b) from) is goes in
    let step = late_goes rule h t m.plain c d.0 may d.2 (late_dims rule moving h moves b k s m t c goes dims) in
    push_left rule left t m.plain i d.0 (items rest) d.1 step
    (lead_dimmed rule moving h left moves (k + 1) m u step.0 rest none a fits keeps (from_next moves rest k (MoveOf.Late i b) from) step.2 l)
lead_dimmed rule moving h left moves k s u t (MoveOf.Part i n p ∷ rest) none a fits keeps from dims (m, (c, is, part), l) =
    let d = a.each i c is in
    let step = reply_dims rule h s.plain t m.plain c d.0 (fits i d.0 d.1) d.2 dims (part_replies rule s m i n p c.call (none i c is) part) in
    push_left rule left t m.plain i d.0 (items rest) d.1 step
    (lead_dimmed rule moving h left moves (k + 1) m u step.0 rest none a fits keeps (from_next moves rest k (MoveOf.Part i n p) from) step.2 l)
lead_dimmed rule moving h left moves k s u t (MoveOf.Copy i ∷ rest) none a fits keeps from dims (m, (c, is, copies, old), l) =
    lead_dimmed rule moving h left moves (k + 1) m u t rest none a fits keeps (from_next moves rest k (MoveOf.Copy i) from)
    (copies_dims s.plain m.plain t c.call.request copies dims) l
lead_dimmed rule moving h left moves k s u t (MoveOf.LateCopy i b ∷ rest) none a fits keeps from dims (m, (c, is, copies), l) =
    lead_dimmed rule moving h left moves (k + 1) m u t rest none a fits keeps (from_next moves rest k (MoveOf.LateCopy i b) from)
    (late_copy_dims rule h moves b k s m t c copies dims) l

dimmed_order : (rule : PlaceRule) (moving : Bool) (t : Plain) (h left taken : List Timed) → NoneIsPart h → LateAreLeftOut IsLeftOut h left
    → AreByteless left taken
    → HasKernelOrder rule moving t h → HasOrder rule (dim t) taken
dimmed_order rule moving t h left taken none a b o =
    subst (λ (cs : List Timed). HasOrder rule (dim t) cs) (sym b.same) (byteless_order rule t left (items o.moves)
    (subst (λ (n : ℕ). EachOnce n (items o.moves)) (sym a.count) o.is_order.each_once)
    (keeps_left IsLeftOut h left (items o.moves) out_lost a o.is_order.keeps_time)
    (lead_dimmed rule moving h left o.moves 0 (begun t) o.is_order.last (dim t) o.moves none a b.fit o.is_order.keeps_time
    (λ n move e. let same : 0 + n ≡ n = omega arith in subst (λ (j : ℕ). slice_get o.moves j ≡ Some move) (sym same) e) (is_dim t) o.is_order.lead))

pub timely_orders : TimelyOrders
timely_orders any_place moving t h taken none (inl a) o = (t, stored_order (rule_of any_place) moving t h taken none a o)
timely_orders any_place moving t h taken none (inr (left, a, b)) o = (dim t, dimmed_order (rule_of any_place) moving t h left taken none a b o)
