-- A refused mprotect of one page has changed nothing
use Rattle.std.proofs.Common.{◌≡◌, ◌≢◌, ◌∙◌, ℕ, zero, suc, ◌+◌, ◌*◌, ◌/◌, ◌%◌, ◌<◌, ◌≤◌, ◌&&◌, ◌==◌, nat_le, nat_lt, if◌then◌else◌, Bool, true, false}
use Rattle.std.proofs.Common.{not, Option, None, Some, ap, arith, refl, subst, sym}
use Rattle.std.proofs.lemmas.Bool.Decides.{nat_tests}
use Rattle.vm_base.specs.declared.page.PageRange.{PageRange}
use Rattle.vm_base.specs.declared.replies.Errno.{Errno}
use Rattle.vm_base.specs.declared.replies.Errno.TheVariants.{EINVAL, ENOMEM}
use Rattle.vm_base.specs.declared.replies.Reply.{Reply}
use Rattle.vm_base.specs.declared.replies.Reply.TheVariants.{Done, Refused}
use Rattle.vm_base.specs.declared.requests.Request.{Request}
use Rattle.vm_base.specs.declared.requests.Request.TheVariants.{Mprotect}
use Rattle.vm_base.specs.declared.rights.Prot.{Prot}
use Rattle.vm_base.specs.Apply.{AppliesAfter, HasPage, Protects}
use Rattle.vm_base.specs.Functions.{has}
use Rattle.vm_base.specs.Log.{RepliesBy}
use Rattle.vm_base.specs.Pages.{are_pages, is_aligned, pages_of}
use Rattle.vm_base.specs.Places.{PlaceRule}
use Rattle.vm_base.specs.Plain.{Plain}
use Rattle.vm_base.specs.Refusals.{mprotect_refusal}
use Rattle.vm_base.proofs.Functions.{eq_true}
use Rattle.audit.specs.declared.auditor.Call.{Call}
use Rattle.loose_orders.specs.Kernel.{ChangesPart}
use Rattle.loose_orders.specs.Loose.{Loose}
use Rattle.loose_orders.specs.Timely.{is_part}

-- ---- one page

abbrev range_from : ℕ → ℕ → PageRange
range_from first end = record { first = first; end = end }

same_range : (a b c d : ℕ) → a ≡ b → c ≡ d → range_from a c ≡ range_from b d
same_range a b c d e f = ap (λ (x : ℕ). range_from x c) e ∙ ap (range_from b) f

tests : (a b : Bool) → (a && b) ≡ true → (a ≡ true) × (b ≡ true)
tests true true e = (refl, refl)
tests true false e = absurd cc
tests false b e = absurd cc

low_bound : (m n : ℕ) → nat_le m n ≡ true → m ≤ n
low_bound m n e = grind (arith, nat_tests, e)

high_bound : (m n : ℕ) → nat_lt m n ≡ true → m < n
high_bound m n e = grind (arith, nat_tests, e)

low_test : (m n : ℕ) → m ≤ n → nat_le m n ≡ true
low_test m n e = grind (arith, nat_tests, e)

high_test : (m n : ℕ) → m < n → nat_lt m n ≡ true
high_test m n e = grind (arith, nat_tests, e)

not_more : (m n : ℕ) → nat_lt m n ≡ false → n ≤ m
not_more m n e = grind (arith, nat_tests, e)

-- an aligned range of at most 4096 bytes, in which this page is
record IsOne (addr len page : ℕ) : Type 0 where
  some : (len == 0) ≡ false
  first : addr / 4096 ≡ page
  end : (addr + len + 4095) / 4096 ≡ page + 1

is_one : (addr len page : ℕ) → addr % 4096 ≡ 0 → len ≤ 4096 → has (pages_of addr len) page ≡ true → IsOne addr len page
is_one addr len page aligned short within = by (len == 0) refl within
  where
    by : (b : Bool) → (len == 0) ≡ b
        → (nat_le (addr / 4096) page && nat_lt page (if b then addr / 4096 else (addr + len + 4095) / 4096)) ≡ true → IsOne addr len page
    by true e h =
        let two = tests (nat_le (addr / 4096) page) (nat_lt page (addr / 4096)) h in
        let low = low_bound (addr / 4096) page two.0 in
        let high = high_bound page (addr / 4096) two.1 in
        absurd (omega (arith, low, high))
    by false e h =
        let two = tests (nat_le (addr / 4096) page) (nat_lt page ((addr + len + 4095) / 4096)) h in
        let low = low_bound (addr / 4096) page two.0 in
        let high = high_bound page ((addr + len + 4095) / 4096) two.1 in
        record { some = e; first = omega (arith, aligned, short, low, high); end = omega (arith, aligned, short, low, high) }

one_range : (addr len page : ℕ) → IsOne addr len page → pages_of addr len ≡ pages_of (page * 4096) 4096
one_range addr len page o =
    let first : addr / 4096 ≡ (page * 4096) / 4096 = let f = o.first in omega (arith, f) in
    let end : (addr + len + 4095) / 4096 ≡ (page * 4096 + 4096 + 4095) / 4096 = let f = o.end in omega (arith, f) in
    ap (λ (b : Bool). range_from (addr / 4096) (if b then addr / 4096 else (addr + len + 4095) / 4096)) o.some
    ∙ same_range (addr / 4096) ((page * 4096) / 4096) ((addr + len + 4095) / 4096) ((page * 4096 + 4096 + 4095) / 4096) first end

-- ---- what is refused of it

aligned_page : (page : ℕ) → is_aligned (page * 4096) ≡ true
aligned_page page = let e : (page * 4096) % 4096 ≡ 0 = omega arith in ap (λ (n : ℕ). n == 0) e

abbrev refusal_by : Bool → Bool → PageRange → Option Reply
refusal_by a z r = if not a then Some (Refused EINVAL) else (if z then Some Done else (if not (are_pages r) then Some (Refused ENOMEM) else None))

same_refusal : (addr len page : ℕ) → is_aligned addr ≡ true → IsOne addr len page → mprotect_refusal (page * 4096) 4096 ≡ mprotect_refusal addr len
same_refusal addr len page aligned o =
    ap (λ (b : Bool). refusal_by b false (pages_of (page * 4096) 4096)) (aligned_page page)
    ∙ (ap (refusal_by true false) (sym (one_range addr len page o))
    ∙ (ap (λ (b : Bool). refusal_by true b (pages_of addr len)) (sym o.some)
    ∙ ap (λ (b : Bool). refusal_by b (len == 0) (pages_of addr len)) (sym aligned)))

by_range : (rule : PlaceRule) (o : Option Reply) (t u : Plain) (core a l addr len : ℕ) (prot : Prot) (y : Reply) → pages_of a l ≡ pages_of addr len
    → AppliesAfter rule o t core (Mprotect a l prot) y u → AppliesAfter rule o t core (Mprotect addr len prot) y u
by_range rule (Some refused) t u core a l addr len prot y e h = h
by_range rule None t u core a l addr len prot y e h = subst (λ (r : PageRange). Protects t r prot y u) e h

refused_one : (rule : PlaceRule) (t : Plain) (core addr len page : ℕ) (prot : Prot) (e : Errno) → is_aligned addr ≡ true → IsOne addr len page
    → RepliesBy rule t core (Mprotect (page * 4096) 4096 prot) (Refused e) t → RepliesBy rule t core (Mprotect addr len prot) (Refused e) t
refused_one rule t core addr len page prot e aligned o h =
    subst (λ (r : Option Reply). AppliesAfter rule r t core (Mprotect addr len prot) (Refused e) t) (same_refusal addr len page aligned o)
    (by_range rule (mprotect_refusal (page * 4096) 4096) t t core (page * 4096) 4096 addr len prot (Refused e) (sym (one_range addr len page o)) h)

-- ---- what was done in front of it

page_in : (addr n page : ℕ) → addr / 4096 ≡ page → has (pages_of addr (suc n * 4096)) page ≡ true
page_in addr n page first = by (suc n * 4096 == 0) refl
  where
    low : addr / 4096 ≤ page
    low = omega (arith, first)

    high : page < (addr + suc n * 4096 + 4095) / 4096
    high = omega (arith, first)

    by : (b : Bool) → (suc n * 4096 == 0) ≡ b
        → (nat_le (addr / 4096) page && nat_lt page (if b then addr / 4096 else (addr + suc n * 4096 + 4095) / 4096)) ≡ true
    by true e = let none : suc n * 4096 ≡ 0 = eq_true (suc n * 4096) 0 e in absurd (omega (arith, none))
    by false e =
        ap (λ (b : Bool). b && nat_lt page ((addr + suc n * 4096 + 4095) / 4096)) (low_test (addr / 4096) page low)
        ∙ high_test page ((addr + suc n * 4096 + 4095) / 4096) high

-- a page can't be both protected and refused
never_both : (t u v : Plain) (r q : PageRange) (prot : Prot) (e : Errno) → ((x : ℕ) → has q x ≡ true → has r x ≡ true) → Protects t r prot Done u
    → ¬ Protects t q prot (Refused e) v
never_both t u v r q prot e within (Protects.no_page absent y same) other = absurd cc
never_both t u v r q prot e within (Protects.no_write mapped write only y same) other = absurd cc
never_both t u v r q prot e within (Protects.done mapped may y same) (Protects.no_page absent z left) =
    mapped (absent.0, within absent.0 absent.1, absent.2)
never_both t u v r q prot e within (Protects.done mapped may y same) (Protects.no_write there write only z left) =
    may write (only.0, within only.0 only.1, only.2)
never_both t u v r q prot e within (Protects.done mapped may y same) (Protects.done there writes z left) = let wrong : Refused e ≡ Done = z in absurd cc

is_done : (rule : PlaceRule) (o : Option Reply) (t u : Plain) (core addr len : ℕ) (prot : Prot) → o ≢ Some Done
    → AppliesAfter rule o t core (Mprotect addr len prot) Done u → Protects t (pages_of addr len) prot Done u
is_done rule (Some refused) t u core addr len prot never h = absurd (never (ap Some (sym h.0)))
is_done rule None t u core addr len prot never h = h

never_done : (a z : Bool) (r : PageRange) → z ≡ false → refusal_by a z r ≢ Some Done
never_done false z r e h = absurd cc
never_done true true r e h = absurd cc
never_done true false r e h = by (are_pages r) h
  where
    by : (b : Bool) → (if not b then Some (Refused ENOMEM) else None) ≢ Some Done
    by true k = absurd cc
    by false k = absurd cc

is_refused : (rule : PlaceRule) (o : Option Reply) (t : Plain) (core addr len : ℕ) (prot : Prot) (e : Errno) → o ≡ None
    → AppliesAfter rule o t core (Mprotect addr len prot) (Refused e) t → Protects t (pages_of addr len) prot (Refused e) t
is_refused rule (Some refused) t core addr len prot e none h = absurd cc
is_refused rule None t core addr len prot e none h = h

passes : (addr len page : ℕ) → is_aligned addr ≡ true → are_pages (pages_of addr len) ≡ true → IsOne addr len page → mprotect_refusal (page * 4096) 4096 ≡ None
passes addr len page aligned valid o =
    same_refusal addr len page aligned o
    ∙ (ap (λ (b : Bool). refusal_by b (len == 0) (pages_of addr len)) aligned
    ∙ (ap (λ (b : Bool). refusal_by true b (pages_of addr len)) o.some
    ∙ ap (λ (b : Bool). if not b then Some (Refused ENOMEM) else None) valid))

front_same : (rule : PlaceRule) (t u : Plain) (core addr len count page : ℕ) (prot : Prot) (e : Errno) → is_aligned addr ≡ true
    → are_pages (pages_of addr len) ≡ true → IsOne addr len page → RepliesBy rule t core (Mprotect (page * 4096) 4096 prot) (Refused e) t
    → RepliesBy rule t core (Mprotect addr (count * 4096) prot) Done u → u ≡ t
front_same rule t u core addr len zero page prot e aligned valid o refused done =
    let none : mprotect_refusal addr (0 * 4096) ≡ Some Done = ap (λ (b : Bool). refusal_by b true (pages_of addr (0 * 4096))) aligned in
    let h : AppliesAfter rule (Some Done) t core (Mprotect addr (0 * 4096) prot) Done u =
    subst (λ (r : Option Reply). AppliesAfter rule r t core (Mprotect addr (0 * 4096) prot) Done u) none done in h.1
front_same rule t u core addr len (suc n) page prot e aligned valid o refused done =
    absurd (never_both t u t (pages_of addr (suc n * 4096)) (pages_of (page * 4096) 4096) prot e within
    (is_done rule (mprotect_refusal addr (suc n * 4096)) t u core addr (suc n * 4096) prot
    (never_done (is_aligned addr) (suc n * 4096 == 0) (pages_of addr (suc n * 4096)) some) done)
    (is_refused rule (mprotect_refusal (page * 4096) 4096) t core (page * 4096) 4096 prot e (passes addr len page aligned valid o) refused))
  where
    some : (suc n * 4096 == 0) ≡ false
    some = by (suc n * 4096 == 0) refl
      where
        by : (b : Bool) → (suc n * 4096 == 0) ≡ b → b ≡ false
        by true f = let none : suc n * 4096 ≡ 0 = eq_true (suc n * 4096) 0 f in absurd (omega (arith, none))
        by false f = refl

    within : (x : ℕ) → has (pages_of (page * 4096) 4096) x ≡ true → has (pages_of addr (suc n * 4096)) x ≡ true
    within x h =
        let two = tests (nat_le ((page * 4096) / 4096) x) (nat_lt x ((page * 4096 + 4096 + 4095) / 4096)) h in
        let low = low_bound ((page * 4096) / 4096) x two.0 in
        let high = high_bound x ((page * 4096 + 4096 + 4095) / 4096) two.1 in
        let same : x ≡ page = omega (arith, low, high) in
        subst (λ (p : ℕ). has (pages_of addr (suc n * 4096)) p ≡ true) (sym same) (page_in addr n page o.first)

-- ---- any that isn't one of several pages

pub part_replies : (rule : PlaceRule) (s u : Loose) (i count page : ℕ) (c : Call) → is_part c.request c.reply ≡ false → ChangesPart rule s i c count page u
    → RepliesBy rule s.plain c.core c.request c.reply u.plain
part_replies rule s u i count page c none p = by (is_aligned p.addr) (nat_lt 4096 p.len) refl refl
  where
    part : is_part c.request c.reply ≡ (is_aligned p.addr && nat_lt 4096 p.len)
    part = ap (λ (r : Request). is_part r c.reply) p.request ∙ ap (λ (y : Reply). is_part (Mprotect p.addr p.len p.prot) y) p.reply

    by : (a b : Bool) → is_aligned p.addr ≡ a → nat_lt 4096 p.len ≡ b → RepliesBy rule s.plain c.core c.request c.reply u.plain
    by true true e f =
        let wrong : true ≡ false = sym (ap (λ (x : Bool). x && nat_lt 4096 p.len) e ∙ f) ∙ (sym part ∙ none) in absurd cc
    by false b e f =
        let refused : mprotect_refusal p.addr (count * 4096) ≡ Some (Refused EINVAL) =
        ap (λ (x : Bool). refusal_by x (count * 4096 == 0) (pages_of p.addr (count * 4096))) e in
        let h : AppliesAfter rule (Some (Refused EINVAL)) s.plain c.core (Mprotect p.addr (count * 4096) p.prot) Done u.plain =
        subst (λ (o : Option Reply). AppliesAfter rule o s.plain c.core (Mprotect p.addr (count * 4096) p.prot) Done u.plain) refused p.done in
        let wrong : Done ≡ Refused EINVAL = h.0 in absurd cc
    by true false e f =
        let zero : p.addr % 4096 ≡ 0 = eq_true (p.addr % 4096) 0 e in
        let one = is_one p.addr p.len page zero (not_more 4096 p.len f) p.within in
        let same : u.plain ≡ s.plain = front_same rule s.plain u.plain c.core p.addr p.len count page p.prot p.error e p.valid one p.refused p.done in
        let replies = refused_one rule s.plain c.core p.addr p.len page p.prot p.error e one p.refused in
        subst (λ (t : Plain). RepliesBy rule s.plain c.core c.request c.reply t) (sym same)
        (subst (λ (r : Request). RepliesBy rule s.plain c.core r c.reply s.plain) (sym p.request)
        (subst (λ (y : Reply). RepliesBy rule s.plain c.core (Mprotect p.addr p.len p.prot) y s.plain) (sym p.reply) replies))
