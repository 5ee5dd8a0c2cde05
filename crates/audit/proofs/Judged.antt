-- What is judged of a request, by what its plan is
use Rattle.slot_lock.proofs.Words.{◌≡◌, ◌≢◌, ℕ, ◌*◌, ◌<◌, ◌⊎◌, inl, inr, not, Bool, true, false, Option, Some, None, Result, Ok, Err, refl, sym, ◌∙◌, ap, subst}
use Rattle.slot_lock.proofs.Words.{if◌then◌else◌, fun_ext, Back, Meta, Access, Mode, Prot, Flags, Request, Mmap, Munmap, Mprotect, Reply, Mapped, Done, Byte}
use Rattle.slot_lock.proofs.Words.{Refused, Segv, Bus, NoFrame, NoMemory, MapErr, is_page, page_of, page_count, pages_from, pages_of, window_of}
use Rattle.slot_lock.proofs.Words.{Bytes, PageEntry}
use Rattle.slot_lock.proofs.Words.{File, Plain, bytes_of, is_mapped, mode_of, refusal, AppliesAfter, Applies, put, entry_reply, meta_of, Answers, put_same}
use Rattle.std.specs.Prelude.{cond}
use Rattle.vm_base.specs.declared.rights.Access.TheVariants as By
use Rattle.vm_base.specs.declared.requests.Request.TheVariants.{Load, Store, Fetch}
use Rattle.vm_base.specs.declared.replies.Errno.TheVariants.{ENOMEM}
use Rattle.vm_base.specs.declared.replies.SegvCode.TheVariants.{AccErr}
use Rattle.vm_base.specs.Pages.{offset_of}
use Rattle.vm_base.specs.Places.{IsFirstPlace, IsPlace, PlaceRule}
use Rattle.vm_base.specs.Requests.{is_placed}
use Rattle.vm_base.specs.Rights.{is_allowed}
use Rattle.vm_base.specs.Apply.{Maps, MapsAt, NewMapping, access_reply, accessed, after_mapping}
use Rattle.vm_base.specs.Apply.{byte_reply, bytes_reply, needs_copy, copied, detached}
use Rattle.vm_base.specs.Apply.{detached_entry, is_uncopied, range_at, stored_entry}
use Rattle.vm_base.specs.Copies.{if_copied, or_else, page_copied, page_due, with_copy}
use Rattle.vm_base.proofs.Due.{after, answered, detached_due, due}
use Rattle.vm_base.proofs.OneAnswer.{one_answer}
use Rattle.vm_base.proofs.Ready.{copy_due, store_at_once, uncopied}
use Rattle.slot_lock.specs.declared.plan.Change.{Change}
use Rattle.slot_lock.specs.declared.plan.Change.TheVariants.{Put}
use Rattle.slot_lock.specs.declared.plan.Place.{Place}
use Rattle.slot_lock.specs.declared.plan.Touch.{Touch}
use Rattle.slot_lock.specs.declared.plan.Plan.{Plan}
use Rattle.slot_lock.specs.declared.plan.Plan.TheVariants as PlanOf
use Rattle.vm_calls.specs.Checks.{HasModes, checked, place_of, plan_of, touch_of, touched, unless_refused}
use Rattle.vm_calls.proofs.Passed.{passed, touch-of}
use Rattle.audit.specs.declared.judging.ReplyVerdict.{ReplyVerdict}
use Rattle.audit.specs.declared.judging.ReplyVerdict.TheVariants.{Legal, Illegal}
use Rattle.audit.specs.Judging.{Compares, Judges, JudgesPlan, after_copy, copied_first, stored, touched_after}
use Rattle.audit.specs.Placing.{IsAllowed, IsFirst, place_said, reply_at, rule_of}
use Rattle.audit.proofs.Placed.{all_placed, allowed_of_rule, reply_said, rule_of_allowed}

-- ---- rules of places concern mappings without MAP_FIXED alone

pub swap_named : (r q : PlaceRule) (t : Plain) (c : ℕ) (request : Request) (y : Reply) (u : Plain) → is_placed request ≡ false
    → Applies r t c request y u → Applies q t c request y u
swap_named r q t c request y u named = go (refusal (λ n. mode_of (t.file n)) request) request named
  where
    maps : (b : Bool) (asked : NewMapping) → not b ≡ false → MapsAt r b t asked y u → MapsAt q b t asked y u
    maps true asked e m = m
    maps false asked e m = absurd cc

    go : (o : Option Reply) (x : Request) → is_placed x ≡ false → AppliesAfter r o t c x y u → AppliesAfter q o t c x y u
    go (Some z) x e h = h
    go None (Mmap addr len prot flags file off) e h =
        maps flags.fixed (record { core = c; addr = addr; len = len; meta = meta_of prot flags file off }) e h
    go None (Munmap addr len) e h = h
    go None (Mprotect addr len prot) e h = h
    go None (Load addr) e h = h
    go None (Store addr byte) e h = h
    go None (Fetch addr) e h = h

swap_refused : (r q : PlaceRule) (t : Plain) (c : ℕ) (request : Request) (y answer : Reply) (u : Plain)
    → refusal (λ n. mode_of (t.file n)) request ≡ Some answer → Applies r t c request y u → Applies q t c request y u
swap_refused r q t c request y answer u e h =
    subst (λ o. AppliesAfter q o t c request y u) (sym e) (subst (λ o. AppliesAfter r o t c request y u) e h)

-- ---- a request has one first answer

-- the page shows a file's, and the store is done once it has a copy: a copy was due
store_done : (t x : Plain) (addr : ℕ) → detached t (page_of addr) ≡ Some x → access_reply x addr By.Store ≡ Some Done
    → Done ≡ after_copy (access_reply t addr By.Store)
store_done t x addr is h = at (t.entry page) refl is
  where
    page : ℕ
    page = page_of addr

    reply_of : (ℕ → Option File) → Option PageEntry → Option Reply
    reply_of files o = entry_reply files o By.Store (offset_of addr)

    tests : (en : PageEntry) (b : Bytes) → is_uncopied en.back en.own ≡ true → bytes_of t.file en.back en.own ≡ Some b → t.entry page ≡ Some en
        → access_reply (record t { entry = put t.entry page (Some (record en { own = Some b })) }) addr By.Store ≡ Some Done
        → (v w : Bool) → is_page page ≡ v → is_allowed en.prot By.Store ≡ w → Done ≡ after_copy (access_reply t addr By.Store)
    tests en b ek eb eo h' false w ev ew =
        let other : Some (Segv MapErr) ≡ Some Done =
        sym (ap (λ (v : Bool). cond v (reply_of t.file (put t.entry page (Some (record en { own = Some b })) page)) (Some (Segv MapErr))) ev) ∙ h' in
        absurd cc
    tests en b ek eb eo h' true false ev ew =
        let other : Some (Segv AccErr) ≡ Some Done =
        sym (ap (λ (v : Bool). cond v (reply_of t.file (put t.entry page (Some (record en { own = Some b })) page)) (Some (Segv MapErr))) ev
        ∙ (ap (reply_of t.file) (put_same t.entry page (Some (record en { own = Some b })))
        ∙ ap (λ (v : Bool). cond v (bytes_reply (is_uncopied en.back (Some b)) (Some b) By.Store (offset_of addr)) (Some (Segv AccErr))) ew)) ∙ h' in
        absurd cc
    tests en b ek eb eo h' true true ev ew = sym (ap after_copy (
        ap (λ (v : Bool). cond v (reply_of t.file (t.entry page)) (Some (Segv MapErr))) ev
        ∙ (ap (reply_of t.file) eo
        ∙ (ap (λ (v : Bool). cond v (bytes_reply (is_uncopied en.back en.own) (bytes_of t.file en.back en.own) By.Store (offset_of addr)) (Some
        (Segv AccErr))) ew
        ∙ (ap (λ (k : Bool). bytes_reply k (bytes_of t.file en.back en.own) By.Store (offset_of addr)) ek
        ∙ ap (λ (o : Option Bytes). bytes_reply true o By.Store (offset_of addr)) eb)))))

    copy : (en : PageEntry) (k : Bool) (b : Option Bytes) → is_uncopied en.back en.own ≡ k → bytes_of t.file en.back en.own ≡ b → t.entry page ≡ Some en
        → copied t page en k b ≡ Some x → Done ≡ after_copy (access_reply t addr By.Store)
    copy en false None ek eb eo is' = absurd cc
    copy en false (Some b) ek eb eo is' = absurd cc
    copy en true None ek eb eo is' = absurd cc
    copy en true (Some b) ek eb eo is' =
        let now : x ≡ record t { entry = put t.entry page (Some (record en { own = Some b })) } = cc in
        tests en b ek eb eo (subst (λ z. access_reply z addr By.Store ≡ Some Done) now h) (is_page page) (is_allowed en.prot By.Store) refl refl

    at : (o : Option PageEntry) → t.entry page ≡ o → detached_entry t page o ≡ Some x → Done ≡ after_copy (access_reply t addr By.Store)
    at None eo is' = absurd cc
    at (Some en) eo is' = copy en (is_uncopied en.back en.own) (bytes_of t.file en.back en.own) refl refl eo is'

-- a store has the reply that its page gives, once a copy is made where one is due
store_one : (t : Plain) (c addr byte : ℕ) (y : Reply) (u : Plain) → Answers IsFirstPlace t c (Store addr byte) y u → y ≡ after_copy (access_reply t addr By.Store)
store_one t c addr byte (Mapped at) u h = sym (ap after_copy h.0)
store_one t c addr byte (Byte b) u h = sym (ap after_copy h.0)
store_one t c addr byte (Refused e) u h = sym (ap after_copy h.0)
store_one t c addr byte (Segv code) u h = sym (ap after_copy h.0)
store_one t c addr byte Bus u h = sym (ap after_copy h.0)
store_one t c addr byte NoFrame u h = sym (ap after_copy h.0)
store_one t c addr byte NoMemory u h = sym (ap after_copy h.0)
store_one t c addr byte Done u h = go (detached t (page_of addr)) refl h.0
  where
    go : (d : Option Plain) → detached t (page_of addr) ≡ d
        → access_reply (with_copy t (if_copied (detached t (page_of addr)) (page_of addr))) addr By.Store ≡ Some Done
        → Done ≡ after_copy (access_reply t addr By.Store)
    go None e k = sym (ap after_copy (subst (λ x. access_reply (with_copy t (if_copied x (page_of addr))) addr By.Store ≡ Some Done) e k))
    go (Some x) e k = store_done t x addr e
        (subst (λ y. access_reply (or_else t y) addr By.Store ≡ Some Done) e
        (subst (λ y. access_reply (with_copy t (if_copied y (page_of addr))) addr By.Store ≡ Some Done) e k))

-- a request that is no store is answered in the map as it is
still : (t : Plain) (request : Request) → page_due t request ≡ None → (rule : PlaceRule) (c : ℕ) (y : Reply) (u : Plain)
    → Answers rule t c request y u → Applies rule t c request y u
still t request none rule c y u = subst (λ m. Applies rule m c request y u) (uncopied t request y none)

still_back : (t : Plain) (request : Request) → page_due t request ≡ None → (rule : PlaceRule) (c : ℕ) (y : Reply) (u : Plain)
    → Applies rule t c request y u → Answers rule t c request y u
still_back t request none rule c y u = subst (λ m. Applies rule m c request y u) (sym (uncopied t request y none))

pub one_first : (t : Plain) (c : ℕ) (request : Request) (y z : Reply) (u v : Plain) → Answers IsFirstPlace t c request y u → Answers IsFirstPlace t c request z v → y ≡ z
one_first t c (Store addr byte) y z u v h k = store_one t c addr byte y u h ∙ sym (store_one t c addr byte z v k)
one_first t c (Mmap addr len prot flags file off) y z u v h k =
    (one_answer t u v c (Mmap addr len prot flags file off) y z (still t (Mmap addr len prot flags file off) refl IsFirstPlace c y u h)
    (still t (Mmap addr len prot flags file off) refl IsFirstPlace c z v k)).0
one_first t c (Munmap addr len) y z u v h k =
    (one_answer t u v c (Munmap addr len) y z (still t (Munmap addr len) refl IsFirstPlace c y u h) (still t (Munmap addr len) refl IsFirstPlace c z v k)).0
one_first t c (Mprotect addr len prot) y z u v h k =
    (one_answer t u v c (Mprotect addr len prot) y z (still t (Mprotect addr len prot) refl IsFirstPlace c y u h)
    (still t (Mprotect addr len prot) refl IsFirstPlace c z v k)).0
one_first t c (Load addr) y z u v h k =
    (one_answer t u v c (Load addr) y z (still t (Load addr) refl IsFirstPlace c y u h) (still t (Load addr) refl IsFirstPlace c z v k)).0
one_first t c (Fetch addr) y z u v h k =
    (one_answer t u v c (Fetch addr) y z (still t (Fetch addr) refl IsFirstPlace c y u h) (still t (Fetch addr) refl IsFirstPlace c z v k)).0

-- ---- replies to what leaves no place open

-- every rule gives the request the same answers
pub record HasOneAnswer (t : Plain) (c : ℕ) (request : Request) (due : Reply) (u : Plain) : Type 0 where
  pub answers : (any : Bool) → Answers (rule_of any) t c request due u
  pub others : (any : Bool) (y : Reply) (v : Plain) → Answers (rule_of any) t c request y v → Answers IsFirstPlace t c request y v

pub one_named : (t : Plain) (c : ℕ) (request : Request) (due : Reply) (u : Plain) (rule : PlaceRule) → is_placed request ≡ false
    → Answers rule t c request due u → HasOneAnswer t c request due u
one_named t c request due u rule named h = record {
  answers = λ any. swap_named rule (rule_of any) (with_copy t (page_copied t request due)) c request due u named h;
  others = λ any y v. swap_named (rule_of any) IsFirstPlace (with_copy t (page_copied t request y)) c request y v named;
}

pub judged_legal : (any : Bool) (t : Plain) (c : ℕ) (request : Request) (reply due : Reply) (u : Plain) → reply ≡ due → HasOneAnswer t c request due u
    → Judges (rule_of any) t c request reply Legal u
judged_legal any t c request reply due u same h = subst (λ y. Answers (rule_of any) t c request y u) (sym same) (h.answers any)

pub judged_illegal : (any : Bool) (t : Plain) (c : ℕ) (request : Request) (reply due : Reply) (u : Plain) → reply ≢ due → HasOneAnswer t c request due u
    → Judges (rule_of any) t c request reply (Illegal due) t
judged_illegal any t c request reply due u ne h =
    let first = h.others any due u (h.answers any) in (
      λ v a. ne (one_first t c request reply due v u (h.others any reply v a) first),
      (u, h.answers any),
      refl,
    )

-- where nothing changes
pub judged_compared : (any : Bool) (t : Plain) (c : ℕ) (request : Request) (reply due : Reply) (verdict : ReplyVerdict) → Compares reply due verdict
    → HasOneAnswer t c request due t → Judges (rule_of any) t c request reply verdict t
judged_compared any t c request reply due Legal same h = judged_legal any t c request reply due t same h
judged_compared any t c request reply due (Illegal first) e h =
    subst (λ y. Judges (rule_of any) t c request reply (Illegal y) t) (sym e.1) (judged_illegal any t c request reply due t e.0 h)

-- ---- what the check of the arguments answers

either : (b : Bool) (x y : Plan) (reply : Reply) → ◌≡◌ {A = Result Plan Reply} (if b then Ok x else Ok y) (Err reply) → ⊥
either true x y reply is = absurd cc
either false x y reply is = absurd cc

no_valid_page : (addr byte : ℕ) (a : Access) (reply : Reply) → touched addr a byte ≡ Err reply → reply ≡ Segv MapErr
no_valid_page addr byte a reply is = go (is_page (page_of addr)) is
  where
    go : (b : Bool) → ◌≡◌ {A = Result Plan Reply} (if b then Ok (PlanOf.Touch (touch_of addr a byte)) else Err (Segv MapErr)) (Err reply) → reply ≡ Segv MapErr
    go true is = absurd cc
    go false is = cc

refused : (o : Option Reply) (p : Result Plan Reply) (reply : Reply) → unless_refused o p ≡ Err reply → (o ≡ Some reply) ⊎ (p ≡ Err reply)
refused None p reply is = inr is
refused (Some r) p reply is = let same : r ≡ reply = cc in inl (ap Some same)

pub one_refused : (t : Plain) (files : ℕ → Option File) (c : ℕ) (request : Request) (due : Reply) → HasModes t files
    → checked (λ n. mode_of (files n)) c request ≡ Err due → Applies IsPlace t c request due t → HasOneAnswer t c request due t
one_refused t files c (Mmap addr len prot flags file off) due modes is h =
    by (refused (refusal (λ n. mode_of (files n)) (Mmap addr len prot flags file off)) (plan_of c (Mmap addr len prot flags file off)) due is)
  where
    same : ◌≡◌ {A = ℕ → Option Mode} (λ n. mode_of (files n)) (λ n. mode_of (t.file n))
    same = sym (fun_ext modes)

    by : (refusal (λ n. mode_of (files n)) (Mmap addr len prot flags file off) ≡ Some due) ⊎ (plan_of c (Mmap addr len prot flags file off) ≡ Err due)
        → HasOneAnswer t c (Mmap addr len prot flags file off) due t
    by (inr none) = absurd (either flags.fixed (PlanOf.Change (Put (pages_of addr len) (meta_of prot flags file off))) (PlanOf.Place (place_of c addr len
        (meta_of prot flags file off))) due none)
    by (inl e) =
        let e' : refusal (λ n. mode_of (t.file n)) (Mmap addr len prot flags file off) ≡ Some due =
        subst (λ m. refusal m (Mmap addr len prot flags file off) ≡ Some due) same e in
        record {
          answers = λ any. still_back t (Mmap addr len prot flags file off) refl (rule_of any) c due t
              (swap_refused IsPlace (rule_of any) t c (Mmap addr len prot flags file off) due due t e' h);
          others = λ any y v a. still_back t (Mmap addr len prot flags file off) refl IsFirstPlace c y v
              (swap_refused (rule_of any) IsFirstPlace t c (Mmap addr len prot flags file off) y due v e'
              (still t (Mmap addr len prot flags file off) refl (rule_of any) c y v a));
        }
one_refused t files c (Munmap addr len) due modes is h =
    one_named t c (Munmap addr len) due t IsPlace refl (still_back t (Munmap addr len) refl IsPlace c due t h)
one_refused t files c (Mprotect addr len prot) due modes is h =
    one_named t c (Mprotect addr len prot) due t IsPlace refl (still_back t (Mprotect addr len prot) refl IsPlace c due t h)
one_refused t files c (Load addr) due modes is h = one_named t c (Load addr) due t IsPlace refl (still_back t (Load addr) refl IsPlace c due t h)
one_refused t files c (Fetch addr) due modes is h = one_named t c (Fetch addr) due t IsPlace refl (still_back t (Fetch addr) refl IsPlace c due t h)
one_refused t files c (Store addr byte) due modes is h = one_named t c (Store addr byte) due t IsPlace refl
    (subst (λ m. Applies IsPlace m c (Store addr byte) due t)
    (sym (ap (λ y. with_copy t (page_copied t (Store addr byte) y)) (no_valid_page addr byte By.Store due is))) h)

-- ---- changes

change_named : (modes : ℕ → Option Mode) (c : ℕ) (request : Request) (change : Change) → checked modes c request ≡ Ok (PlanOf.Change change)
    → is_placed request ≡ false
change_named modes c request change is = go request (passed (refusal modes request) (plan_of c request) (PlanOf.Change change) is).1
  where
    fixed : (b : Bool) (x : Plan) (place : Place) → ◌≡◌ {A = Result Plan Reply} (if b then Ok x else Ok (PlanOf.Place place)) (Ok (PlanOf.Change change))
        → not b ≡ false
    fixed true x place e = refl
    fixed false x place e = absurd cc

    go : (request : Request) → plan_of c request ≡ Ok (PlanOf.Change change) → is_placed request ≡ false
    go (Mmap addr len prot flags file off) e = fixed flags.fixed (PlanOf.Change (Put (pages_of addr len) (meta_of prot flags file off)))
        (place_of c addr len (meta_of prot flags file off)) e
    go (Munmap addr len) e = refl
    go (Mprotect addr len prot) e = refl
    go (Load addr) e = refl
    go (Store addr byte) e = refl
    go (Fetch addr) e = refl

change_still : (t : Plain) (modes : ℕ → Option Mode) (c : ℕ) (request : Request) (change : Change) → checked modes c request ≡ Ok (PlanOf.Change change)
    → page_due t request ≡ None
change_still t modes c request change is = go request (passed (refusal modes request) (plan_of c request) (PlanOf.Change change) is).1
  where
    go : (request : Request) → plan_of c request ≡ Ok (PlanOf.Change change) → page_due t request ≡ None
    go (Mmap addr len prot flags file off) e = refl
    go (Munmap addr len) e = refl
    go (Mprotect addr len prot) e = refl
    go (Load addr) e = refl
    go (Store addr byte) e =
        let z : PlanOf.Touch (touch_of addr By.Store byte) ≡ PlanOf.Change change = (touch-of addr byte By.Store (PlanOf.Change change) e).1 in absurd cc
    go (Fetch addr) e = refl

pub one_changed : (t : Plain) (modes : ℕ → Option Mode) (c : ℕ) (request : Request) (change : Change) (due : Reply) (u : Plain)
    → checked modes c request ≡ Ok (PlanOf.Change change) → Applies IsPlace t c request due u → HasOneAnswer t c request due u
one_changed t modes c request change due u is h = one_named t c request due u IsPlace (change_named modes c request change is)
    (still_back t request (change_still t modes c request change is) IsPlace c due u h)

-- ---- accesses

copied_is : (t : Plain) (page : ℕ) → with_copy t (if_copied (detached t page) page) ≡ copied_first t page
copied_is t page = go (detached t page) refl
  where
    go : (d : Option Plain) → detached t page ≡ d → with_copy t (if_copied d page) ≡ copied_first t page
    go None e = sym (ap (or_else t) e)
    go (Some x) e = refl

-- what an access that needs no copy leaves
plain_access : (t : Plain) (addr byte : ℕ) (a : Access) (y : Reply) → copied_first t (page_of addr) ≡ t
    → touched_after t (touch_of addr a byte) y ≡ accessed t addr byte y
plain_access t addr byte a Done e = ap (λ m. stored_entry m (page_of addr) (m.entry (page_of addr)) (offset_of addr) byte) e
plain_access t addr byte a (Mapped at) e = refl
plain_access t addr byte a (Byte b) e = refl
plain_access t addr byte a (Refused z) e = refl
plain_access t addr byte a (Segv code) e = refl
plain_access t addr byte a Bus e = refl
plain_access t addr byte a NoFrame e = refl
plain_access t addr byte a NoMemory e = refl

one_store : (t : Plain) (c addr byte : ℕ) (y : Reply) → y ≡ after_copy (access_reply t addr By.Store)
    → Answers IsFirstPlace t c (Store addr byte) y (touched_after t (touch_of addr By.Store byte) y)
one_store t c addr byte y is = go (access_reply t addr By.Store) refl
  where
    leaves : (z : Reply) → access_reply t addr By.Store ≡ Some z → touched_after t (touch_of addr By.Store byte) z ≡ accessed t addr byte z
    leaves Done e = plain_access t addr byte By.Store Done (sym (copied_is t (page_of addr)) ∙ store_at_once t addr byte Done e)
    leaves (Mapped at) e = refl
    leaves (Byte b) e = refl
    leaves (Refused r) e = refl
    leaves (Segv code) e = refl
    leaves Bus e = refl
    leaves NoFrame e = refl
    leaves NoMemory e = refl

    go : (o : Option Reply) → access_reply t addr By.Store ≡ o → Answers IsFirstPlace t c (Store addr byte) y (touched_after t (touch_of addr By.Store byte) y)
    go None e =
        let done : y ≡ Done = is ∙ ap after_copy e in
        let d = due t addr e in
        let map : with_copy t (page_copied t (Store addr byte) Done) ≡ after t addr d = copy_due t addr byte d in
        let first : copied_first t (page_of addr) ≡ after t addr d = ap (or_else t) (detached_due t addr d) in
        subst (λ z. Answers IsFirstPlace t c (Store addr byte) z (touched_after t (touch_of addr By.Store byte) z)) (sym done)
        (subst (λ m. Applies IsFirstPlace m c (Store addr byte) Done (stored t (touch_of addr By.Store byte))) (sym map)
        (answered t addr d, ap (λ m. stored_entry m (page_of addr) (m.entry (page_of addr)) (offset_of addr) byte) first))
    go (Some z) e =
        let same : y ≡ z = is ∙ ap after_copy e in
        let reply : access_reply t addr By.Store ≡ Some y = e ∙ ap Some (sym same) in
        let map : with_copy t (page_copied t (Store addr byte) y) ≡ t = store_at_once t addr byte y reply in
        subst (λ m. Applies IsFirstPlace m c (Store addr byte) y (touched_after t (touch_of addr By.Store byte) y)) (sym map)
        (reply, leaves y reply)

-- an access that is no store is done by no reply, and leaves the map
read_reply : (t : Plain) (addr byte : ℕ) (a : Access) (y : Reply) → a ≢ By.Store → is_page (page_of addr) ≡ true
    → y ≡ after_copy (access_reply t addr a)
    → (access_reply t addr a ≡ Some y) × (touched_after t (touch_of addr a byte) y ≡ accessed t addr byte y)
read_reply t addr byte a y read valid is = page (is_page (page_of addr)) valid refl
  where
    keeps : (z : Reply) → z ≢ Done → touched_after t (touch_of addr a byte) z ≡ accessed t addr byte z
    keeps Done ne = absurd (ne refl)
    keeps (Mapped at) ne = refl
    keeps (Byte b) ne = refl
    keeps (Refused r) ne = refl
    keeps (Segv code) ne = refl
    keeps Bus ne = refl
    keeps NoFrame ne = refl
    keeps NoMemory ne = refl

    by : (z : Reply) → access_reply t addr a ≡ Some z → z ≢ Done
        → (access_reply t addr a ≡ Some y) × (touched_after t (touch_of addr a byte) y ≡ accessed t addr byte y)
    by z e ne = let same : y ≡ z = is ∙ ap after_copy e in (e ∙ ap Some (sym same), keeps y (λ d. ne (sym same ∙ d)))

    bytes : (en : PageEntry) (k : Bool) (b : Option Bytes) → k ≡ false → access_reply t addr a ≡ bytes_reply k b a (offset_of addr)
        → (access_reply t addr a ≡ Some y) × (touched_after t (touch_of addr a byte) y ≡ accessed t addr byte y)
    bytes en true b e h = absurd cc
    bytes en false None e h = by Bus h (λ d. absurd cc)
    bytes en false (Some b) e h = by (byte_reply a (b (offset_of addr))) h (some a read (b (offset_of addr)))
      where
        some : (a : Access) → a ≢ By.Store → (n : ℕ) → byte_reply a n ≢ Done
        some By.Load ne n d = absurd cc
        some By.Fetch ne n d = absurd cc
        some By.Store ne n d = ne refl

    never : (a : Access) → a ≢ By.Store → (back : Back) (own : Option Bytes) → needs_copy a back own ≡ false
    never By.Load ne back own = refl
    never By.Fetch ne back own = refl
    never By.Store ne back own = absurd (ne refl)

    allowed : (en : PageEntry) (w : Bool) → is_allowed en.prot a ≡ w
        → access_reply t addr a ≡ cond w (bytes_reply (needs_copy a en.back en.own) (bytes_of t.file en.back en.own) a (offset_of addr)) (Some (Segv AccErr))
        → (access_reply t addr a ≡ Some y) × (touched_after t (touch_of addr a byte) y ≡ accessed t addr byte y)
    allowed en false ew h = by (Segv AccErr) h (λ d. absurd cc)
    allowed en true ew h = bytes en (needs_copy a en.back en.own) (bytes_of t.file en.back en.own) (never a read en.back en.own) h

    entry : (o : Option PageEntry) → access_reply t addr a ≡ entry_reply t.file o a (offset_of addr)
        → (access_reply t addr a ≡ Some y) × (touched_after t (touch_of addr a byte) y ≡ accessed t addr byte y)
    entry None h = by (Segv MapErr) h (λ d. absurd cc)
    entry (Some en) h = allowed en (is_allowed en.prot a) refl h

    page : (v : Bool) → v ≡ true → is_page (page_of addr) ≡ v → (access_reply t addr a ≡ Some y) × (touched_after t
        (touch_of addr a byte) y ≡ accessed t addr byte y)
    page true e ev = entry (t.entry (page_of addr))
        (ap (λ (v : Bool). cond v (entry_reply t.file (t.entry (page_of addr)) a (offset_of addr)) (Some (Segv MapErr))) ev)
    page false e ev = absurd cc

pub one_touched : (t : Plain) (modes : ℕ → Option Mode) (c : ℕ) (request : Request) (touch : Touch) (y : Reply)
    → checked modes c request ≡ Ok (PlanOf.Touch touch) → y ≡ after_copy (entry_reply t.file (t.entry touch.page) touch.access touch.offset)
    → HasOneAnswer t c request y (touched_after t touch y)
one_touched t modes c request touch y is reply = go request (passed (refusal modes request) (plan_of c request) (PlanOf.Touch touch) is).1
  where
    placed : (b : Bool) (x : Change) (place : Place) → ◌≡◌ {A = Result Plan Reply} (if b then Ok (PlanOf.Change x) else Ok (PlanOf.Place place)) (Ok
        (PlanOf.Touch touch)) → ⊥
    placed true x place e = absurd cc
    placed false x place e = absurd cc

    -- the access of this address
    at : (addr byte : ℕ) (a : Access) → touched addr a byte ≡ Ok (PlanOf.Touch touch)
        → (is_page (page_of addr) ≡ true) × (touch_of addr a byte ≡ touch) × (y ≡ after_copy (access_reply t addr a))
    at addr byte a e =
        let z = touch-of addr byte a (PlanOf.Touch touch) e in
        let valid : is_page (page_of addr) ≡ true = z.0 in
        let plans : PlanOf.Touch (touch_of addr a byte) ≡ PlanOf.Touch touch = z.1 in
        let same : touch_of addr a byte ≡ touch = cc in (
          valid,
          same,
          reply ∙ (ap (λ (x : Touch). after_copy (entry_reply t.file (t.entry x.page) x.access x.offset)) (sym same)
              ∙ ap (λ (v : Bool). after_copy (cond v (entry_reply t.file (t.entry (page_of addr)) a (offset_of addr)) (Some (Segv MapErr)))) (sym valid)),
        )

    go : (request : Request) → plan_of c request ≡ Ok (PlanOf.Touch touch) → HasOneAnswer t c request y (touched_after t touch y)
    go (Mmap addr len prot flags file off) e = absurd (placed flags.fixed (Put (pages_of addr len) (meta_of prot flags file off)) (place_of c addr len
        (meta_of prot flags file off)) e)
    go (Munmap addr len) e = absurd cc
    go (Mprotect addr len prot) e = absurd cc
    go (Load addr) e =
        let q = at addr 0 By.Load e in
        let r = read_reply t addr 0 By.Load y (λ d. absurd cc) q.0 q.2 in
        one_named t c (Load addr) y (touched_after t touch y) IsFirstPlace refl
        (subst (λ x. Answers IsFirstPlace t c (Load addr) y (touched_after t x y)) q.1
        (still_back t (Load addr) refl IsFirstPlace c y (touched_after t (touch_of addr By.Load 0) y) r))
    go (Store addr byte) e =
        let q = at addr byte By.Store e in
        one_named t c (Store addr byte) y (touched_after t touch y) IsFirstPlace refl
        (subst (λ x. Answers IsFirstPlace t c (Store addr byte) y (touched_after t x y)) q.1 (one_store t c addr byte y q.2))
    go (Fetch addr) e =
        let q = at addr 0 By.Fetch e in
        let r = read_reply t addr 0 By.Fetch y (λ d. absurd cc) q.0 q.2 in
        one_named t c (Fetch addr) y (touched_after t touch y) IsFirstPlace refl
        (subst (λ x. Answers IsFirstPlace t c (Fetch addr) y (touched_after t x y)) q.1
        (still_back t (Fetch addr) refl IsFirstPlace c y (touched_after t (touch_of addr By.Fetch 0) y) r))

-- ---- mappings without MAP_FIXED

-- such a request, and what it asks for
record Asks (modes : ℕ → Option Mode) (c : ℕ) (request : Request) (place : Place) : Type 0 where
  addr : ℕ
  len : ℕ
  meta : Meta
  placed : place_of c addr len meta ≡ place
  due : (t : Plain) → page_due t request ≡ None
  to : (any : Bool) (t : Plain) (y : Reply) (u : Plain) → ◌≡◌ {A = ℕ → Option Mode} modes (λ n. mode_of (t.file n)) → (found : Option ℕ)
      → rule_of any (is_mapped t.entry) (window_of c) (page_of addr) (page_count len) found
      → Maps t (range_at found (page_count len)) meta.back meta.prot y u → Applies (rule_of any) t c request y u
  from : (any : Bool) (t : Plain) (y : Reply) (u : Plain) → ◌≡◌ {A = ℕ → Option Mode} modes (λ n. mode_of (t.file n)) → Applies (rule_of any) t c request y u
      → (found : Option ℕ) × rule_of any (is_mapped t.entry) (window_of c) (page_of addr) (page_count len) found
      × Maps t (range_at found (page_count len)) meta.back meta.prot y u

asks : (modes : ℕ → Option Mode) (c : ℕ) (request : Request) (place : Place) → checked modes c request ≡ Ok (PlanOf.Place place) → Asks modes c request place
asks modes c request place is =
    let p = passed (refusal modes request) (plan_of c request) (PlanOf.Place place) is in
    go request p.0 p.1
  where
    touches : (addr byte : ℕ) (a : Access) → touched addr a byte ≡ Ok (PlanOf.Place place) → ⊥
    touches addr byte a e = let z : PlanOf.Touch (touch_of addr a byte) ≡ PlanOf.Place place = (touch-of addr byte a (PlanOf.Place place) e).1 in absurd cc

    mmap : (addr len : ℕ) (prot : Prot) (flags : Flags) (file off : ℕ) (b : Bool) → flags.fixed ≡ b
        → refusal modes (Mmap addr len prot flags file off) ≡ None
        → ◌≡◌ {A = Result Plan Reply} (if b then Ok (PlanOf.Change (Put (pages_of addr len) (meta_of prot flags file off)))
        else Ok (PlanOf.Place (place_of c addr len (meta_of prot flags file off)))) (Ok (PlanOf.Place place))
        → Asks modes c (Mmap addr len prot flags file off) place
    mmap addr len prot flags file off true fixed none e = absurd cc
    mmap addr len prot flags file off false fixed none e =
        let plans : PlanOf.Place (place_of c addr len (meta_of prot flags file off)) ≡ PlanOf.Place place = cc in
        let same : place_of c addr len (meta_of prot flags file off) ≡ place = cc in
        record {
          addr = addr;
          len = len;
          meta = meta_of prot flags file off;
          placed = same;
          due = λ t. refl;
          to = λ any t y u modes_are found rule maps.
              subst (λ o. AppliesAfter (rule_of any) o t c (Mmap addr len prot flags file off) y u) (sym (unrefused t modes_are))
              (subst (λ b. MapsAt (rule_of any) b t asked y u) (sym fixed) (found, rule, maps));
          from = λ any t y u modes_are h.
              subst (λ b. MapsAt (rule_of any) b t asked y u) fixed
              (subst (λ o. AppliesAfter (rule_of any) o t c (Mmap addr len prot flags file off) y u) (unrefused t modes_are) h);
        }
      where
        asked : NewMapping
        asked = record { core = c; addr = addr; len = len; meta = meta_of prot flags file off }

        unrefused : (t : Plain) → ◌≡◌ {A = ℕ → Option Mode} modes (λ n. mode_of (t.file n))
            → refusal (λ n. mode_of (t.file n)) (Mmap addr len prot flags file off) ≡ None
        unrefused t e' = subst (λ m. refusal m (Mmap addr len prot flags file off) ≡ None) e' none

    go : (request : Request) → refusal modes request ≡ None → plan_of c request ≡ Ok (PlanOf.Place place) → Asks modes c request place
    go (Mmap addr len prot flags file off) none e = mmap addr len prot flags file off flags.fixed refl none e
    go (Munmap addr len) none e = absurd cc
    go (Mprotect addr len prot) none e = absurd cc
    go (Load addr) none e = absurd (touches addr 0 By.Load e)
    go (Store addr byte) none e = absurd (touches addr byte By.Store e)
    go (Fetch addr) none e = absurd (touches addr 0 By.Fetch e)

-- the map after a mapping at this page, or at none
abbrev pub placed_map : Plain → Place → Option ℕ → Plain
placed_map t place None = t
placed_map t place (Some first) = after_mapping t (pages_from first place.count) place.meta.back place.meta.prot

-- what a plan's place is answered
placed_maps : (any : Bool) (t : Plain) (m : ℕ → Bool) (c addr len : ℕ) (meta : Meta) (found : Option ℕ) → c < 64
    → IsAllowed any m (place_of c addr len meta) found
    → Maps t (range_at found (page_count len)) meta.back meta.prot (reply_at found) (placed_map t (place_of c addr len meta) found)
placed_maps any t m c addr len meta None few h = (refl, refl)
placed_maps any t m c addr len meta (Some first) few h = (
  refl,
  ap (λ n. after_mapping t (pages_from first n) meta.back meta.prot) (all_placed any m c addr len meta first few h),
)

maps_reply : (t u : Plain) (found : Option ℕ) (n : ℕ) (back : Back) (prot : Prot) (y : Reply) → Maps t (range_at found n) back prot y u → y ≡ reply_at found
maps_reply t u None n back prot y h = h.0
maps_reply t u (Some s) n back prot y h = h.0

pub place_answers : (any : Bool) (t : Plain) (c : ℕ) (request : Request) (place : Place) (found : Option ℕ) → c < 64
    → checked (λ n. mode_of (t.file n)) c request ≡ Ok (PlanOf.Place place) → IsAllowed any (is_mapped t.entry) place found
    → Answers (rule_of any) t c request (reply_at found) (placed_map t place found)
place_answers any t c request place found few is h =
    let a = asks (λ n. mode_of (t.file n)) c request place is in
    let h' = subst (λ p. IsAllowed any (is_mapped t.entry) p found) (sym a.placed) h in
    still_back t request (a.due t) (rule_of any) c (reply_at found) (placed_map t place found)
    (a.to any t (reply_at found) (placed_map t place found) refl found
    (rule_of_allowed any (is_mapped t.entry) c a.addr a.len a.meta found few h')
    (subst (λ p. Maps t (range_at found (page_count a.len)) a.meta.back a.meta.prot (reply_at found) (placed_map t p found)) a.placed
    (placed_maps any t (is_mapped t.entry) c a.addr a.len a.meta found few h')))

place_asked : (any : Bool) (t : Plain) (c : ℕ) (request : Request) (place : Place) (y : Reply) (v : Plain) → c < 64
    → checked (λ n. mode_of (t.file n)) c request ≡ Ok (PlanOf.Place place) → Answers (rule_of any) t c request y v
    → (found : Option ℕ) × (y ≡ reply_at found) × IsAllowed any (is_mapped t.entry) place found
place_asked any t c request place y v few is h =
    let a = asks (λ n. mode_of (t.file n)) c request place is in
    let b = a.from any t y v refl (still t request (a.due t) (rule_of any) c y v h) in (
      b.0,
      maps_reply t v b.0 (page_count a.len) a.meta.back a.meta.prot y b.2,
      subst (λ p. IsAllowed any (is_mapped t.entry) p b.0) a.placed
          (allowed_of_rule any (is_mapped t.entry) c a.addr a.len a.meta b.0 few b.1),
    )

-- a mapping without MAP_FIXED that may be somewhere is answered where it is, or that there is no memory
pub placed_due : (any : Bool) (t : Plain) (c : ℕ) (request : Request) (at : ℕ) (due : Reply) (u v : Plain) → is_placed request ≡ true
    → Answers (rule_of any) t c request (Mapped at) u → Answers (rule_of any) t c request due v
    → ((b : ℕ) × (due ≡ Mapped b)) ⊎ (due ≡ Refused ENOMEM)
placed_due any t c (Munmap addr len) at due u v placed h k = absurd cc
placed_due any t c (Mprotect addr len prot) at due u v placed h k = absurd cc
placed_due any t c (Load addr) at due u v placed h k = absurd cc
placed_due any t c (Store addr byte) at due u v placed h k = absurd cc
placed_due any t c (Fetch addr) at due u v placed h k = absurd cc
placed_due any t c (Mmap addr len prot flags file off) at due u v placed h k =
    go (refusal (λ n. mode_of (t.file n)) (Mmap addr len prot flags file off))
    (still t (Mmap addr len prot flags file off) refl (rule_of any) c (Mapped at) u h)
    (still t (Mmap addr len prot flags file off) refl (rule_of any) c due v k)
  where
    asked : NewMapping
    asked = record { core = c; addr = addr; len = len; meta = meta_of prot flags file off }

    found : (o : Option ℕ) → Maps t (range_at o (page_count len)) asked.meta.back asked.meta.prot due v
        → ((b : ℕ) × (due ≡ Mapped b)) ⊎ (due ≡ Refused ENOMEM)
    found None m = inr m.0
    found (Some s) m = inl (s * 4096, m.0)

    maps : (b : Bool) → MapsAt (rule_of any) b t asked due v → ((b : ℕ) × (due ≡ Mapped b)) ⊎ (due ≡ Refused ENOMEM)
    maps true k = inl ((pages_of addr len).first * 4096, k.0)
    maps false k = found k.0 k.2

    go : (o : Option Reply) → AppliesAfter (rule_of any) o t c (Mmap addr len prot flags file off) (Mapped at) u
        → AppliesAfter (rule_of any) o t c (Mmap addr len prot flags file off) due v → ((b : ℕ) × (due ≡ Mapped b)) ⊎ (due ≡ Refused ENOMEM)
    go (Some z) h k = inl (at, k.0 ∙ sym h.0)
    go None h k = maps flags.fixed k

-- no place that the reply says is allowed
pub place_illegal : (any : Bool) (t : Plain) (reply : Reply) (place : Place) (first : Option ℕ)
    → ((found : Option ℕ) → place_said reply ≡ Some found → ¬ IsAllowed any (is_mapped t.entry) place found)
    → IsAllowed any (is_mapped t.entry) place first → JudgesPlan any t (PlanOf.Place place) reply (Illegal (reply_at first)) t
place_illegal any t reply place first none is_allowed c request few is = (
  λ v a.
      let b = place_asked any t c request place reply v few is a in
      none b.0 (ap place_said b.1 ∙ reply_said b.0) b.2,
  (placed_map t place first, place_answers any t c request place first few is is_allowed),
  refl,
)

-- ---- what a reply leaves

reply_one : (a b : Option ℕ) → reply_at a ≡ reply_at b → a ≡ b
reply_one a b e = let z : Some a ≡ Some b = sym (reply_said a) ∙ (ap place_said e ∙ reply_said b) in cc

maps_one : (t u v : Plain) (found : Option ℕ) (n : ℕ) (back : Back) (prot : Prot) (y : Reply) → Maps t (range_at found n) back prot y u
    → Maps t (range_at found n) back prot y v → u ≡ v
maps_one t u v None n back prot y h k = h.1 ∙ sym k.1
maps_one t u v (Some s) n back prot y h k = h.1 ∙ sym k.1

first_left : (t : Plain) (c : ℕ) (request : Request) (y : Reply) (u v : Plain) → Answers IsFirstPlace t c request y u → Answers IsFirstPlace t c request y v → u ≡ v
first_left t c request y u v h k = (one_answer (with_copy t (page_copied t request y)) u v c request y y h k).1

named_left : (any : Bool) (t : Plain) (c : ℕ) (request : Request) (y : Reply) (u v : Plain) → is_placed request ≡ false
    → Answers (rule_of any) t c request y u → Answers (rule_of any) t c request y v → u ≡ v
named_left any t c request y u v named h k = first_left t c request y u v
    (swap_named (rule_of any) IsFirstPlace (with_copy t (page_copied t request y)) c request y u named h)
    (swap_named (rule_of any) IsFirstPlace (with_copy t (page_copied t request y)) c request y v named k)

-- a reply that a plain map gives leaves one map
pub one_left : (any : Bool) (t : Plain) (c : ℕ) (request : Request) (y : Reply) (u v : Plain) → Answers (rule_of any) t c request y u
    → Answers (rule_of any) t c request y v → u ≡ v
one_left any t c (Munmap addr len) y u v h k = named_left any t c (Munmap addr len) y u v refl h k
one_left any t c (Mprotect addr len prot) y u v h k = named_left any t c (Mprotect addr len prot) y u v refl h k
one_left any t c (Load addr) y u v h k = named_left any t c (Load addr) y u v refl h k
one_left any t c (Store addr byte) y u v h k = named_left any t c (Store addr byte) y u v refl h k
one_left any t c (Fetch addr) y u v h k = named_left any t c (Fetch addr) y u v refl h k
one_left any t c (Mmap addr len prot flags file off) y u v h k =
    go (refusal (λ n. mode_of (t.file n)) (Mmap addr len prot flags file off))
    (still t (Mmap addr len prot flags file off) refl (rule_of any) c y u h) (still t (Mmap addr len prot flags file off) refl (rule_of any) c y v k)
  where
    asked : NewMapping
    asked = record { core = c; addr = addr; len = len; meta = meta_of prot flags file off }

    maps : (b : Bool) → MapsAt (rule_of any) b t asked y u → MapsAt (rule_of any) b t asked y v → u ≡ v
    maps true h k = h.1 ∙ sym k.1
    maps false h k =
        let same : h.0 ≡ k.0 = reply_one h.0 k.0 (sym (maps_reply t u h.0 (page_count len) asked.meta.back asked.meta.prot y h.2)
        ∙ maps_reply t v k.0 (page_count len) asked.meta.back asked.meta.prot y k.2) in
        maps_one t u v k.0 (page_count len) asked.meta.back asked.meta.prot y
        (subst (λ o. Maps t (range_at o (page_count len)) asked.meta.back asked.meta.prot y u) same h.2) k.2

    go : (o : Option Reply) → AppliesAfter (rule_of any) o t c (Mmap addr len prot flags file off) y u
        → AppliesAfter (rule_of any) o t c (Mmap addr len prot flags file off) y v → u ≡ v
    go (Some z) h k = h.1 ∙ sym k.1
    go None h k = maps flags.fixed h k
