-- Plans that passed the check of their arguments
use Rattle.slot_lock.proofs.Words.{◌≡◌, ℕ, ◌+◌, ◌-◌, ◌/◌, ◌^◌, ◌<◌, ◌≤◌, ◌==◌, ◌||◌, nat_lt, not, Bool, true, false, Option, Some, None, Result, Ok, Err}
use Rattle.slot_lock.proofs.Words.{refl, ap, subst, arith, if◌then◌else◌, nat_tests, Meta, Flags, Request, Mmap, Munmap, Mprotect, Access, Load, Store, Fetch}
use Rattle.slot_lock.proofs.Words.{Mode, Prot, ENOMEM, Reply, Segv, Done, MapErr, file_page, IsPageRange, is_page, are_pages, page_of, page_count, pages_of}
use Rattle.slot_lock.proofs.Words.{pages_from, refusal, meta_of}
use Rattle.std.proofs.Common.{◌&&◌}
use Rattle.vm_base.specs.declared.info.Back.TheVariants as BackOf
use Rattle.vm_base.specs.declared.requests.Request.TheVariants.{Load as LoadOf, Store as StoreOf, Fetch as FetchOf}
use Rattle.vm_base.specs.declared.replies.Errno.TheVariants.{EINVAL, EOVERFLOW}
use Rattle.vm_base.specs.Pages.{is_aligned}
use Rattle.vm_base.specs.Refusals.{answer, is_one_kind, mmap_refusal, munmap_refusal, mprotect_refusal, file_refusal}
use Rattle.vm_base.specs.Apply.{back_at}
use Rattle.slot_lock.specs.declared.plan.Change.TheVariants.{Put, Clear, Protect}
use Rattle.slot_lock.specs.declared.plan.Plan.{Plan}
use Rattle.slot_lock.specs.declared.plan.Plan.TheVariants as PlanOf
use Rattle.slot_lock.specs.Plan.{IsSoundPlan, IsSoundPut, IsSoundPlace, IsSoundHint}
use Rattle.vm_calls.specs.Checks.{checked, plan_of, unless_refused, touched, touch_of, placed_count, place_of}

-- the arguments weren't refused, and make a plan
pub passed : (o : Option Reply) (p : Result Plan Reply) (plan : Plan) → unless_refused o p ≡ Ok plan → (o ≡ None) × (p ≡ Ok plan)
passed None p plan is = (refl, is)
passed (Some r) p plan is = absurd cc

-- a test that didn't answer, and those after it
unless : (b : Bool) (y z : Option Reply) (r : Reply) → y ≡ Some r → (if b then y else z) ≡ None → (b ≡ false) × (z ≡ None)
unless true y z r e h = absurd cc
unless false y z r e h = (refl, h)

-- ---- mmap

-- what the tests of mmap leave
record Mappable (addr len : ℕ) (flags : Flags) (off : ℕ) : Type 0 where
  some : 1 ≤ len
  fixed : flags.fixed ≡ true → is_aligned addr ≡ true
  valid : flags.fixed ≡ true → are_pages (pages_of addr len) ≡ true
  aligned : flags.anon ≡ false → is_aligned off ≡ true
  fits : flags.anon ≡ false → off + len ≤ 2 ^ 47

file-fits : (mode : Option Mode) (len : ℕ) (prot : Prot) (flags : Flags) (off : ℕ)
    → file_refusal mode len prot flags off ≡ None → off + len ≤ 2 ^ 47
file-fits None len prot flags off h = absurd cc
file-fits (Some mode) len prot flags off h =
    let z = unless (nat_lt (2 ^ 47) (off + len)) (answer EOVERFLOW) _ _ refl h in
    let not' : nat_lt (2 ^ 47) (off + len) ≡ false = z.0 in
    grind (arith, nat_tests)

mappable : (modes : ℕ → Option Mode) (addr len : ℕ) (prot : Prot) (flags : Flags) (file off : ℕ)
    → mmap_refusal modes addr len prot flags file off ≡ None → Mappable addr len flags off
mappable modes addr len prot flags file off h =
    let a = unless (len == 0) (answer EINVAL) _ _ refl h in
    let b = unless (not (is_one_kind flags)) (answer EINVAL) _ _ refl a.1 in
    let c = unless (not flags.anon && not (is_aligned off)) (answer EINVAL) _ _ refl b.1 in
    let d = unless (flags.fixed && not (is_aligned addr)) (answer EINVAL) _ _ refl c.1 in
    let e = unless (flags.fixed && not (are_pages (pages_of addr len))) (answer ENOMEM) _ _ refl d.1 in
    record {
      some = by-length a.0;
      fixed = λ is. both flags.fixed (is_aligned addr) is d.0;
      valid = λ is. both flags.fixed (are_pages (pages_of addr len)) is e.0;
      aligned = λ is. both (not flags.anon) (is_aligned off) (ap not is) c.0;
      fits = λ is. by-file flags.anon is e.1;
    }
  where
    by-length : (len == 0) ≡ false → 1 ≤ len
    by-length e = grind (arith, nat_tests)

    both : (x y : Bool) → x ≡ true → (x && not y) ≡ false → y ≡ true
    both true true e n = refl
    both true false e n = absurd cc
    both false y e n = absurd cc

    by-file : (b : Bool) → b ≡ false
        → (if b then None else file_refusal (modes file) len prot flags off) ≡ None → off + len ≤ 2 ^ 47
    by-file true e n = absurd cc
    by-file false e n = file-fits (modes file) len prot flags off n

-- the file pages of a mapping's n pages, if it is of a file
back-fits : (flags : Flags) (file off n : ℕ) → n ≤ 2 ^ 35
    → (flags.anon ≡ false → off / 4096 + n ≤ 2 ^ 35)
    → file_page (back_at flags file off) + n ≤ 2 ^ 35
back-fits flags file off n few h = by-kind flags.anon flags.shared h
  where
    by-kind : (anon shared : Bool) → (anon ≡ false → off / 4096 + n ≤ 2 ^ 35)
        → file_page (if anon then BackOf.Anon
        else if shared then BackOf.Shared file (page_of off) else BackOf.Private file (page_of off)) + n ≤ 2 ^ 35
    by-kind true shared h = omega (arith, few)
    by-kind false true h = h refl
    by-kind false false h = h refl

pages-sound : (addr len : ℕ) → 1 ≤ len → are_pages (pages_of addr len) ≡ true → IsPageRange (pages_of addr len)
pages-sound addr len some valid = go (len == 0) refl valid
  where
    go : (b : Bool) → (len == 0) ≡ b
        → are_pages (record { first = page_of addr; end = if b then page_of addr else page_count (addr + len) }) ≡ true
        → IsPageRange (record { first = page_of addr; end = if b then page_of addr else page_count (addr + len) })
    go true e v = absurd (grind (arith, nat_tests))
    go false e v = record {
      some = omega arith;
      low = grind (arith, nat_tests);
      high = grind (arith, nat_tests);
    }

change-sound : (addr len : ℕ) (prot : Prot) (flags : Flags) (file off : ℕ)
    → Mappable addr len flags off → flags.fixed ≡ true
    → IsSoundPut (pages_of addr len) (meta_of prot flags file off)
change-sound addr len prot flags file off h is =
    let start : is_aligned addr ≡ true = h.fixed is in
    let sound : IsPageRange (pages_of addr len) = pages-sound addr len h.some (h.valid is) in
    let count : (pages_of addr len).end - (pages_of addr len).first ≤ page_count len = by-length start (len == 0) refl in
    record {
      pages = sound;
      fits = back-fits flags file off _ (omega (arith, sound.high)) (λ no'.
          let o : is_aligned off ≡ true = h.aligned no' in
          let top : off + len ≤ 2 ^ 47 = h.fits no' in
          in-file o top _ count);
    }
  where
    by-length : is_aligned addr ≡ true → (b : Bool) → (len == 0) ≡ b
        → (if b then page_of addr else page_count (addr + len)) - page_of addr ≤ page_count len
    by-length start true e = omega arith
    by-length start false e = grind (arith, nat_tests)

    in-file : is_aligned off ≡ true → off + len ≤ 2 ^ 47 → (n : ℕ) → n ≤ page_count len → off / 4096 + n ≤ 2 ^ 35
    in-file o top n few = grind (arith, nat_tests)

place-sound : (core addr len : ℕ) (prot : Prot) (flags : Flags) (file off : ℕ) → core < 64
    → Mappable addr len flags off
    → IsSoundPlace (place_of core addr len (meta_of prot flags file off))
place-sound core addr len prot flags file off few h = record {
  some = omega (arith, h.some);
  hint = by-pages (are_pages (pages_from (page_of addr) (placed_count len))) refl;
  window = record { some = omega arith; low = omega arith; high = omega arith };
  fits = back-fits flags file off (placed_count len) (omega arith) (λ no'.
      let o : is_aligned off ≡ true = h.aligned no' in
      let top : off + len ≤ 2 ^ 47 = h.fits no' in
      in-file o top);
}
  where
    by-pages : (b : Bool) → are_pages (pages_from (page_of addr) (placed_count len)) ≡ b
        → IsSoundHint (if b then Some (pages_from (page_of addr) (placed_count len)) else None) (placed_count len)
    by-pages false e = tt
    by-pages true e =
        (record { some = omega (arith, h.some); low = grind (arith, nat_tests); high = grind (arith, nat_tests) }, refl)

    in-file : is_aligned off ≡ true → off + len ≤ 2 ^ 47 → off / 4096 + placed_count len ≤ 2 ^ 35
    in-file o top = grind (arith, nat_tests)

mmap-sound : (core addr len : ℕ) (prot : Prot) (flags : Flags) (file off : ℕ) (plan : Plan)
    → core < 64 → Mappable addr len flags off
    → plan_of core (Mmap addr len prot flags file off) ≡ Ok plan → IsSoundPlan plan
mmap-sound core addr len prot flags file off plan few h is = go flags.fixed refl is
  where
    meta : Meta
    meta = meta_of prot flags file off

    go : (b : Bool) → flags.fixed ≡ b
        → ◌≡◌ {A = Result Plan Reply}
        (if b then Ok (PlanOf.Change (Put (pages_of addr len) meta)) else Ok (PlanOf.Place (place_of core addr len meta)))
        (Ok plan)
        → IsSoundPlan plan
    go true e is =
        let same : PlanOf.Change (Put (pages_of addr len) meta) ≡ plan = cc in
        subst IsSoundPlan same (change-sound addr len prot flags file off h e)
    go false e is =
        let same : PlanOf.Place (place_of core addr len meta) ≡ plan = cc in
        subst IsSoundPlan same (place-sound core addr len prot flags file off few h)

-- ---- munmap and mprotect

clear-sound : (addr len : ℕ) → munmap_refusal addr len ≡ None → IsPageRange (pages_of addr len)
clear-sound addr len h =
    let a : (len == 0 || not (is_aligned addr) || not (are_pages (pages_of addr len))) ≡ false =
    (unless (len == 0 || not (is_aligned addr) || not (are_pages (pages_of addr len))) (answer EINVAL) None _ refl h).0 in
    pages-sound addr len (grind (arith, nat_tests)) (grind (arith, nat_tests))

protect-sound : (addr len : ℕ) → mprotect_refusal addr len ≡ None → IsPageRange (pages_of addr len)
protect-sound addr len h =
    let a = unless (not (is_aligned addr)) (answer EINVAL) _ _ refl h in
    let b = unless (len == 0) (Some Done) _ _ refl a.1 in
    let c = unless (not (are_pages (pages_of addr len))) (answer ENOMEM) None _ refl b.1 in
    let some : (len == 0) ≡ false = b.0 in
    let valid : not (are_pages (pages_of addr len)) ≡ false = c.0 in
    pages-sound addr len (grind (arith, nat_tests)) (grind (arith, nat_tests))

-- ---- accesses

-- an access that passed is to a valid page
pub touch-of : (addr byte : ℕ) (access : Access) (plan : Plan) → touched addr access byte ≡ Ok plan
    → (is_page (page_of addr) ≡ true) × (PlanOf.Touch (touch_of addr access byte) ≡ plan)
touch-of addr byte access plan is = go (is_page (page_of addr)) refl is
  where
    go : (b : Bool) → is_page (page_of addr) ≡ b
        → ◌≡◌ {A = Result Plan Reply} (if b then Ok (PlanOf.Touch (touch_of addr access byte)) else Err (Segv MapErr)) (Ok plan)
        → (is_page (page_of addr) ≡ true) × (PlanOf.Touch (touch_of addr access byte) ≡ plan)
    go true e is = (e, cc)
    go false e is = absurd cc

touch-sound : (addr byte : ℕ) (access : Access) (plan : Plan) → touched addr access byte ≡ Ok plan → IsSoundPlan plan
touch-sound addr byte access plan is =
    let z = touch-of addr byte access plan is in
    let valid : is_page (page_of addr) ≡ true = z.0 in
    subst IsSoundPlan z.1 (record { page = (grind (arith, nat_tests), grind (arith, nat_tests)); offset = omega arith })

-- ---- every request

plan-sound : (modes : ℕ → Option Mode) (core : ℕ) (request : Request) (plan : Plan) → core < 64
    → refusal modes request ≡ None → plan_of core request ≡ Ok plan → IsSoundPlan plan
plan-sound modes core (Mmap addr len prot flags file off) plan few ok is =
    mmap-sound core addr len prot flags file off plan few (mappable modes addr len prot flags file off ok) is
plan-sound modes core (Munmap addr len) plan few ok is =
    let same : PlanOf.Change (Clear (pages_of addr len)) ≡ plan = cc in
    subst IsSoundPlan same (clear-sound addr len ok)
plan-sound modes core (Mprotect addr len prot) plan few ok is =
    let same : PlanOf.Change (Protect (pages_of addr len) prot) ≡ plan = cc in
    subst IsSoundPlan same (protect-sound addr len ok)
plan-sound modes core (LoadOf addr) plan few ok is = touch-sound addr 0 Load plan is
plan-sound modes core (StoreOf addr byte) plan few ok is = touch-sound addr byte Store plan is
plan-sound modes core (FetchOf addr) plan few ok is = touch-sound addr 0 Fetch plan is

pub checked_is_sound : (modes : ℕ → Option Mode) (core : ℕ) (request : Request) (plan : Plan)
    → core < 64 → checked modes core request ≡ Ok plan → IsSoundPlan plan
checked_is_sound modes core request plan few is =
    let z = passed (refusal modes request) (plan_of core request) plan is in
    plan-sound modes core request plan few z.0 z.1
