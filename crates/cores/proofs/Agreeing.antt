-- Maps that agree on some pages, which are anonymous, go on so
use Rattle.std.proofs.Common.{◌≡◌, ◌≢◌, ◌∙◌, ℕ, ◌-◌, ◌*◌, ◌⊎◌, inl, inr, ◌&&◌, ◌||◌, ◌==◌, not, cond}
use Rattle.std.proofs.Common.{if◌then◌else◌, Bool, true, false, Option, None, Some, ap, arith, refl, subst, sym}
use Rattle.std.proofs.lemmas.Bool.Decides.{nat_tests}
use Rattle.vm_base.specs.declared.info.Back.{Back}
use Rattle.vm_base.specs.declared.info.Back.TheVariants.{Anon, Shared, Private}
use Rattle.vm_base.specs.declared.page.PageRange.{PageRange}
use Rattle.vm_base.specs.declared.replies.Errno.TheVariants.{ENOMEM, EINVAL}
use Rattle.vm_base.specs.declared.replies.Reply.{Reply}
use Rattle.vm_base.specs.declared.replies.Reply.TheVariants.{Mapped, Done, Byte, Refused, Segv, Bus, NoFrame, NoMemory}
use Rattle.vm_base.specs.declared.replies.SegvCode.TheVariants.{MapErr, AccErr}
use Rattle.vm_base.specs.declared.requests.Flags.{Flags}
use Rattle.vm_base.specs.declared.requests.Request.{Request}
use Rattle.vm_base.specs.declared.requests.Request.TheVariants.{Load, Store, Fetch, Mmap, Munmap, Mprotect}
use Rattle.vm_base.specs.declared.rights.Access.{Access}
use Rattle.vm_base.specs.declared.rights.Access.TheVariants as By
use Rattle.vm_base.specs.declared.rights.Mode.{Mode}
use Rattle.vm_base.specs.declared.rights.Prot.{Prot}
use Rattle.vm_base.specs.Answers.{Answers}
use Rattle.vm_base.specs.Apply.{Accesses, Applies, AppliesAfter, HasPage, Maps, MapsAt, NewMapping, Performs, Protects, access_reply, accessed}
use Rattle.vm_base.specs.Apply.{after_mapping, after_protecting, after_unmapping, back_at, bytes_reply, copied, detached, detached_entry, entry_reply}
use Rattle.vm_base.specs.Apply.{is_absent, is_read_only, is_read_only_back, is_uncopied, stored_back, meta_of, needs_copy, new_entry, range_at}
use Rattle.vm_base.specs.Apply.{stored_entry, stored_own, with_prot}
use Rattle.vm_base.specs.Copies.{if_copied, or_else, page_copied, with_copy}
use Rattle.vm_base.specs.Functions.{across, has, put}
use Rattle.vm_base.specs.Info.{advance_back}
use Rattle.vm_base.specs.Log.{RepliesBy}
use Rattle.vm_base.specs.Pages.{are_pages, is_aligned, is_page, offset_of, page_count, page_of, pages_from, pages_of}
use Rattle.vm_base.specs.Places.{PlaceRule}
use Rattle.vm_base.specs.Plain.{Bytes, PageEntry, File, Plain, bytes_of, mode_of}
use Rattle.vm_base.specs.Refusals.{answer, file_refusal, is_one_kind, mmap_refusal, refusal}
use Rattle.vm_base.specs.Rights.{is_allowed}
use Rattle.vm_base.proofs.Functions.{eq_true, put_other}
use Rattle.audit.specs.declared.auditor.Call.{Call}
use Rattle.orders.specs.Orders.{CopiesFor}
use Rattle.orders.proofs.LeadLemmas.{answers_reply, reply_answers}
use Rattle.cores.specs.Parts.{IsAccess, IsMappedPart, IsMeet, IsPart, IsPartOf, IsPassed, IsReset, IsResetAt, Sets}
use Rattle.cores.specs.Parts.{are_apart, is_aside, is_quiet, is_told, misses, pages_put}

-- ---- pages that agree

-- no file is there
abbrev pub IsAnon : Option PageEntry → Type 0
IsAnon None = Unit {0}
IsAnon (Some e) = e.back ≡ Anon

-- the same, and no file
abbrev pub Same : Option PageEntry → Option PageEntry → Type 0
Same o p = (o ≡ p) × IsAnon o

abbrev pub Agrees : PageRange → Plain → Plain → Type 0
Agrees p t s = (x : ℕ) → has p x ≡ true → Same (t.entry x) (s.entry x)

-- by the value of an option
by_value : {A : Type 0} (P : Option A → Type 0) (o : Option A) → (o ≡ None → P None) → ((e : A) → o ≡ Some e → P (Some e)) → P o
by_value P None n s = n refl
by_value P (Some e) n s = s e refl

-- ---- copies

copied_anon : (t : Plain) (page : ℕ) (e : PageEntry) (b : Bool) (o : Option Bytes) → b ≡ false → copied t page e b o ≡ None
copied_anon t page e true o f = absurd cc
copied_anon t page e false None f = refl
copied_anon t page e false (Some bytes) f = refl

pub uncopied_anon : (back : Back) (own : Option Bytes) → back ≡ Anon → is_uncopied back own ≡ false
uncopied_anon Anon own e = refl
uncopied_anon (Shared file page) own e = refl
uncopied_anon (Private file page) own e = absurd cc

-- an anonymous page gets none
pub none_detached : (t : Plain) (page : ℕ) → IsAnon (t.entry page) → detached t page ≡ None
none_detached t page a = go (t.entry page) a
  where
    go : (o : Option PageEntry) → IsAnon o → detached_entry t page o ≡ None
    go None b = refl
    go (Some e) b = copied_anon t page e (is_uncopied e.back e.own) (bytes_of t.file e.back e.own) (uncopied_anon e.back e.own b)

-- a copy is of its page alone
copied_other : (t u : Plain) (page : ℕ) (e : PageEntry) (b : Bool) (o : Option Bytes) (x : ℕ) → x ≢ page → copied t page e b o ≡ Some u → u.entry x ≡ t.entry x
copied_other t u page e false None x ne h = absurd cc
copied_other t u page e false (Some bytes) x ne h = absurd cc
copied_other t u page e true None x ne h = absurd cc
copied_other t u page e true (Some bytes) x ne h =
    let copy : Plain = record t { entry = put t.entry page (Some (record e { own = Some bytes })) } in
    let both : Some copy ≡ Some u = h in
    let same : copy ≡ u = cc in
    ap (λ (p : Plain). p.entry x) (sym same) ∙ put_other t.entry page (Some (record e { own = Some bytes })) x ne

detached_other : (t u : Plain) (page x : ℕ) → x ≢ page → detached t page ≡ Some u → u.entry x ≡ t.entry x
detached_other t u page x ne h = go (t.entry page) h
  where
    go : (o : Option PageEntry) → detached_entry t page o ≡ Some u → u.entry x ≡ t.entry x
    go None e = absurd cc
    go (Some d) e = copied_other t u page d (is_uncopied d.back d.own) (bytes_of t.file d.back d.own) x ne e

-- a copy changes no anonymous page
detached_aside : (t u : Plain) (page x : ℕ) → IsAnon (t.entry x) → detached t page ≡ Some u → u.entry x ≡ t.entry x
detached_aside t u page x a h = go (x == page) refl
  where
    go : (b : Bool) → (x == page) ≡ b → u.entry x ≡ t.entry x
    go true e =
        let none : detached t page ≡ None = subst (λ (n : ℕ). detached t n ≡ None) (eq_true x page e) (none_detached t x a) in
        let wrong : None ≡ Some u = sym none ∙ h in absurd cc
    go false e = detached_other t u page x (λ (same : x ≡ page). let wrong : (x == page) ≡ true = grind (arith, nat_tests) in absurd cc) h

pub copies_aside : (t u : Plain) (r : Request) (x : ℕ) → IsAnon (t.entry x) → CopiesFor t r u → u.entry x ≡ t.entry x
copies_aside t u (Store addr byte) x a h = detached_aside t u (page_of addr) x a h.1
copies_aside t u (Load addr) x a h = absurd h
copies_aside t u (Fetch addr) x a h = absurd h
copies_aside t u (Mmap addr len prot flags file off) x a h = absurd h
copies_aside t u (Munmap addr len) x a h = absurd h
copies_aside t u (Mprotect addr len prot) x a h = absurd h

-- nor does the one before a reply
due_aside : (t : Plain) (page x : ℕ) → IsAnon (t.entry x) → (with_copy t (if_copied (detached t page) page)).entry x ≡ t.entry x
due_aside t page x a = go (detached t page) refl
  where
    go : (o : Option Plain) → detached t page ≡ o → (with_copy t (if_copied o page)).entry x ≡ t.entry x
    go None e = refl
    go (Some u) e = subst (λ (p : Option Plain). (or_else t p).entry x ≡ t.entry x) (sym e) (detached_aside t u page x a e)

copy_aside : (t : Plain) (r : Request) (y : Reply) (x : ℕ) → IsAnon (t.entry x) → (with_copy t (page_copied t r y)).entry x ≡ t.entry x
copy_aside t (Store addr byte) Done x a = due_aside t (page_of addr) x a
copy_aside t (Load addr) Done x a = refl
copy_aside t (Fetch addr) Done x a = refl
copy_aside t (Mmap addr len prot flags file off) Done x a = refl
copy_aside t (Munmap addr len) Done x a = refl
copy_aside t (Mprotect addr len prot) Done x a = refl
copy_aside t r (Mapped at) x a = refl
copy_aside t r (Byte b) x a = refl
copy_aside t r (Refused e) x a = refl
copy_aside t r (Segv code) x a = refl
copy_aside t r Bus x a = refl
copy_aside t r NoFrame x a = refl
copy_aside t r NoMemory x a = refl

-- before an access of an anonymous page there is none
pub no_copy : (t : Plain) (addr byte : ℕ) (y : Reply) → IsAnon (t.entry (page_of addr)) → page_copied t (Store addr byte) y ≡ None
no_copy t addr byte Done a = ap (λ (o : Option Plain). if_copied o (page_of addr)) (none_detached t (page_of addr) a)
no_copy t addr byte (Mapped at) a = refl
no_copy t addr byte (Byte b) a = refl
no_copy t addr byte (Refused e) a = refl
no_copy t addr byte (Segv code) a = refl
no_copy t addr byte Bus a = refl
no_copy t addr byte NoFrame a = refl
no_copy t addr byte NoMemory a = refl

pub no_copy_load : (t : Plain) (addr : ℕ) (y : Reply) → page_copied t (Load addr) y ≡ None
no_copy_load t addr Done = refl
no_copy_load t addr (Mapped at) = refl
no_copy_load t addr (Byte b) = refl
no_copy_load t addr (Refused e) = refl
no_copy_load t addr (Segv code) = refl
no_copy_load t addr Bus = refl
no_copy_load t addr NoFrame = refl
no_copy_load t addr NoMemory = refl

pub no_copy_fetch : (t : Plain) (addr : ℕ) (y : Reply) → page_copied t (Fetch addr) y ≡ None
no_copy_fetch t addr Done = refl
no_copy_fetch t addr (Mapped at) = refl
no_copy_fetch t addr (Byte b) = refl
no_copy_fetch t addr (Refused e) = refl
no_copy_fetch t addr (Segv code) = refl
no_copy_fetch t addr Bus = refl
no_copy_fetch t addr NoFrame = refl
no_copy_fetch t addr NoMemory = refl

-- ---- accesses

bytes_anon : (f g : ℕ → Option File) (back : Back) (own : Option Bytes) → back ≡ Anon → bytes_of f back own ≡ bytes_of g back own
bytes_anon f g back (Some own) e = refl
bytes_anon f g Anon None e = refl
bytes_anon f g (Shared file page) None e = absurd cc
bytes_anon f g (Private file page) None e = absurd cc

entry_anon : (f g : ℕ → Option File) (o : Option PageEntry) (a : Access) (i : ℕ) → IsAnon o → entry_reply f o a i ≡ entry_reply g o a i
entry_anon f g None a i e = refl
entry_anon f g (Some en) a i e =
    ap (λ (bs : Option Bytes). if is_allowed en.prot a then bytes_reply (needs_copy a en.back en.own) bs a i else Some (Segv AccErr))
    (bytes_anon f g en.back en.own e)

access_same : (p : PageRange) (t s : Plain) (addr : ℕ) (a : Access) → has p (page_of addr) ≡ true → Agrees p t s
    → access_reply t addr a ≡ access_reply s addr a
access_same p t s addr a in_p same =
    let here = same (page_of addr) in_p in
    ap (λ (o : Option Reply). if is_page (page_of addr) then o else Some (Segv MapErr))
    (entry_anon t.file s.file (t.entry (page_of addr)) a (offset_of addr) here.1
    ∙ ap (λ (o : Option PageEntry). entry_reply s.file o a (offset_of addr)) here.0)

put_same_both : (p : PageRange) (f g : ℕ → Option PageEntry) (k : ℕ) (v : Option PageEntry) → IsAnon v
    → ((x : ℕ) → has p x ≡ true → Same (f x) (g x)) → (x : ℕ) → has p x ≡ true → Same (put f k v x) (put g k v x)
put_same_both p f g k v anon same x in_p = go (x == k)
  where
    go : (b : Bool) → Same (cond b v (f x)) (cond b v (g x))
    go true = (refl, anon)
    go false = same x in_p

stored_same : (p : PageRange) (t s : Plain) (page i byte : ℕ) (e : PageEntry) (own : Option Bytes) → e.back ≡ Anon → Agrees p t s
    → Agrees p (stored_own t page e own i byte) (stored_own s page e own i byte)
stored_same p t s page i byte e (Some own) anon same =
    put_same_both p t.entry s.entry page (Some (record e { own = Some (put own i byte) })) anon same
stored_same p t s page i byte e None anon same = go e.back anon
  where
    go : (back : Back) → back ≡ Anon → Agrees p (stored_back t back i byte) (stored_back s back i byte)
    go Anon f = same
    go (Shared file k) f = absurd cc
    go (Private file k) f = absurd cc

stored_entry_same : (p : PageRange) (t s : Plain) (page i byte : ℕ) (o q : Option PageEntry) → Same o q → Agrees p t s
    → Agrees p (stored_entry t page o i byte) (stored_entry s page q i byte)
stored_entry_same p t s page i byte o q e same =
    subst (λ (z : Option PageEntry). Agrees p (stored_entry t page o i byte) (stored_entry s page z i byte)) e.0 (go o e.1)
  where
    go : (z : Option PageEntry) → IsAnon z → Agrees p (stored_entry t page z i byte) (stored_entry s page z i byte)
    go None anon = same
    go (Some en) anon = stored_same p t s page i byte en en.own anon same

accessed_same : (p : PageRange) (t s : Plain) (addr byte : ℕ) (y : Reply) → has p (page_of addr) ≡ true → Agrees p t s
    → Agrees p (accessed t addr byte y) (accessed s addr byte y)
accessed_same p t s addr byte Done in_p same =
    stored_entry_same p t s (page_of addr) (offset_of addr) byte (t.entry (page_of addr)) (s.entry (page_of addr)) (same (page_of addr) in_p) same
accessed_same p t s addr byte (Mapped at) in_p same = same
accessed_same p t s addr byte (Byte b) in_p same = same
accessed_same p t s addr byte (Refused e) in_p same = same
accessed_same p t s addr byte (Segv code) in_p same = same
accessed_same p t s addr byte Bus in_p same = same
accessed_same p t s addr byte NoFrame in_p same = same
accessed_same p t s addr byte NoMemory in_p same = same

-- what goes on from one map goes on from the other
abbrev Goes : (p : PageRange) (s u : Plain) → (Plain → Type 0) → Type 0
Goes p s u To = (v : Plain) × To v × Agrees p u v

accesses_same : (p : PageRange) (t s u : Plain) (addr : ℕ) (a : Access) (byte : ℕ) (y : Reply) → has p (page_of addr) ≡ true → Agrees p t s
    → Accesses t addr a byte y u → Goes p s u (λ (v : Plain). Accesses s addr a byte y v)
accesses_same p t s u addr a byte y in_p same h = (
  accessed s addr byte y,
  (sym (access_same p t s addr a in_p same) ∙ h.0, refl),
  subst (λ (m : Plain). Agrees p m (accessed s addr byte y)) (sym h.1) (accessed_same p t s addr byte y in_p same),
)

pub told_memory : (y : Reply) → is_told y ≡ true → y ≢ NoMemory
told_memory y e n = let wrong : is_told NoMemory ≡ true = subst (λ (z : Reply). is_told z ≡ true) n e in absurd cc

pub told_frame : (y : Reply) → is_told y ≡ true → y ≢ NoFrame
told_frame y e n = let wrong : is_told NoFrame ≡ true = subst (λ (z : Reply). is_told z ≡ true) n e in absurd cc

-- of an access
access_goes : (rule : PlaceRule) (p : PageRange) (t s u : Plain) (core addr : ℕ) (r : Request) (y : Reply) (a : Access) (byte : ℕ)
    → page_copied t r y ≡ None → page_copied s r y ≡ None
    → ((m n : Plain) → Applies rule m core r y n → Accesses m addr a byte y n)
    → ((m n : Plain) → Accesses m addr a byte y n → Applies rule m core r y n)
    → IsAccess p addr y → Agrees p t s → RepliesBy rule t core r y u → Goes p s u (λ (v : Plain). RepliesBy rule s core r y v)
access_goes rule p t s u core addr r y a byte c d to from is same h =
    let memory = told_memory y is.1 in
    let frame = told_frame y is.1 in
    let applies : Applies rule (with_copy t None) core r y u =
    subst (λ (o : Option ℕ). Applies rule (with_copy t o) core r y u) c (reply_answers rule t u core r y memory frame h) in
    let g = accesses_same p t s u addr a byte y is.0 same (to t u applies) in
    let back : Answers rule s core r y g.0 =
    subst (λ (o : Option ℕ). Applies rule (with_copy s o) core r y g.0) (sym d) (from s g.0 g.1) in
    (g.0, answers_reply rule s g.0 core r y memory frame back, g.2)

-- ---- ranges

changed_at : (p r m : PageRange) (t s : Plain) (f g : ℕ → Option PageEntry) (x : ℕ) → IsMeet m r p → has p x ≡ true
    → (has r x ≡ true → Same (f x) (g x)) → Same (t.entry x) (s.entry x) ⊎ (has m x ≡ true)
    → Same (across t.entry (has r) f x) (across s.entry (has m) g x)
changed_at p r m t s f g x meet in_p new old =
    subst (λ (b : Bool). Same (cond (has r x) (f x) (t.entry x)) (cond b (g x) (s.entry x))) (sym (meet.same x in_p)) (go (has r x) refl)
  where
    outside : Same (t.entry x) (s.entry x) ⊎ (has m x ≡ true) → has r x ≡ false → Same (t.entry x) (s.entry x)
    outside (inl same) e = same
    outside (inr here) e = let wrong : true ≡ false = sym here ∙ (meet.same x in_p ∙ e) in absurd cc

    go : (b : Bool) → has r x ≡ b → Same (cond b (f x) (t.entry x)) (cond b (g x) (s.entry x))
    go true e = new e
    go false e = outside old e

-- What goes on agrees on each page on which the maps agreed, or that the call reaches.
abbrev Reaches : PageRange → (ℕ → Type 0) → (t s u v : Plain) → Type 0
Reaches p At t s u v = (x : ℕ) → has p x ≡ true → Same (t.entry x) (s.entry x) ⊎ At x → Same (u.entry x) (v.entry x)

abbrev GoesAt : PageRange → (ℕ → Type 0) → (t s u : Plain) → (Plain → Type 0) → Type 0
GoesAt p At t s u To = (v : Plain) × To v × Reaches p At t s u v

goes_all : (p : PageRange) (At : ℕ → Type 0) (t s u : Plain) (To : Plain → Type 0) → Agrees p t s → GoesAt p At t s u To → Goes p s u To
goes_all p At t s u To same g = (g.0, g.1, λ x in_p. g.2 x in_p (inl (same x in_p)))

abbrev In : PageRange → ℕ → Type 0
In r x = has r x ≡ true

munmap_goes : (rule : PlaceRule) (p : PageRange) (t s u : Plain) (core addr len a l : ℕ) → IsPassed (Munmap addr len) → IsPassed (Munmap a l)
    → IsMeet (pages_of a l) (pages_of addr len) p → RepliesBy rule t core (Munmap addr len) Done u
    → GoesAt p (In (pages_of a l)) t s u (λ (v : Plain). RepliesBy rule s core (Munmap a l) Done v)
munmap_goes rule p t s u core addr len a l whole part meet h =
    let done : AppliesAfter rule None t core (Munmap addr len) Done u =
    subst (λ (o : Option Reply). AppliesAfter rule o t core (Munmap addr len) Done u) whole h in
    let v : Plain = after_unmapping s (pages_of a l) in (
      v,
      subst (λ (o : Option Reply). AppliesAfter rule o s core (Munmap a l) Done v) (sym part) (refl, refl),
      subst (λ (m : Plain). Reaches p (In (pages_of a l)) t s m v) (sym done.1)
          (λ x i old. changed_at p (pages_of addr len) (pages_of a l) t s (λ (x : ℕ). None) (λ (x : ℕ). None) x meet i (λ j. (refl, tt)) old),
    )

pub read_only_anon : (files : ℕ → Option File) (o : Option PageEntry) → IsAnon o → is_read_only files o ≡ false
read_only_anon files None a = refl
read_only_anon files (Some e) a = go e.back a
  where
    go : (b : Back) → b ≡ Anon → is_read_only_back files b ≡ false
    go Anon f = refl
    go (Shared file k) f = absurd cc
    go (Private file k) f = absurd cc

prot_same : (prot : Prot) (o q : Option PageEntry) → Same o q → Same (with_prot prot o) (with_prot prot q)
prot_same prot o q e = subst (λ (z : Option PageEntry). Same (with_prot prot o) (with_prot prot z)) e.0 (go o e.1)
  where
    go : (z : Option PageEntry) → IsAnon z → Same (with_prot prot z) (with_prot prot z)
    go None a = (refl, tt)
    go (Some en) a = (refl, a)

protects_same : (p r m : PageRange) (t s u : Plain) (prot : Prot) → IsMeet m r p → Agrees p t s → Protects t r prot Done u
    → Goes p s u (λ (v : Plain). Protects s m prot Done v)
protects_same p r m t s u prot meet same (Protects.no_page has_none y e) = absurd cc
protects_same p r m t s u prot meet same (Protects.no_write all w has_ro y e) = absurd cc
protects_same p r m t s u prot meet same (Protects.done all ro y e) = (
  after_protecting s m prot,
  Protects.done none (λ w found. writable found) refl refl,
  subst (λ (x : Plain). Agrees p x (after_protecting s m prot)) (sym e)
      (λ x i. changed_at p r m t s (λ x. with_prot prot (t.entry x)) (λ x. with_prot prot (s.entry x)) x meet i
      (λ j. prot_same prot (t.entry x) (s.entry x) (same x i)) (inl (same x i))),
)
  where
    none : HasPage is_absent s.entry m → ⊥
    none found =
        let x = found.0 in
        let in_p = meet.within x found.1 in
        all (x, sym (meet.same x in_p) ∙ found.1, ap is_absent (same x in_p).0 ∙ found.2)

    writable : HasPage (is_read_only s.file) s.entry m → ⊥
    writable found =
        let x = found.0 in
        let in_p = meet.within x found.1 in
        let here = same x in_p in
        let anon : is_read_only s.file (t.entry x) ≡ false = read_only_anon s.file (t.entry x) here.1 in
        let wrong : false ≡ true = sym anon ∙ (ap (is_read_only s.file) here.0 ∙ found.2) in absurd cc

mprotect_goes : (rule : PlaceRule) (p : PageRange) (t s u : Plain) (core addr len a l : ℕ) (prot : Prot) → IsPassed (Mprotect addr len prot)
    → IsPassed (Mprotect a l prot) → IsMeet (pages_of a l) (pages_of addr len) p → Agrees p t s → RepliesBy rule t core (Mprotect addr len prot) Done u
    → Goes p s u (λ (v : Plain). RepliesBy rule s core (Mprotect a l prot) Done v)
mprotect_goes rule p t s u core addr len a l prot whole part meet same h =
    let done : AppliesAfter rule None t core (Mprotect addr len prot) Done u =
    subst (λ (o : Option Reply). AppliesAfter rule o t core (Mprotect addr len prot) Done u) whole h in
    let g = protects_same p (pages_of addr len) (pages_of a l) t s u prot meet same done in
    (g.0, subst (λ (o : Option Reply). AppliesAfter rule o s core (Mprotect a l prot) Done g.0) (sym part) g.1, g.2)

-- ---- mappings

-- an anonymous mapping is refused whatever files there are
no_file : (b : Bool) (x y : Option Reply) → b ≡ true → (if b then None else x) ≡ (if b then None else y)
no_file true x y e = refl
no_file false x y e = absurd cc

pub refusal_same : (f g : ℕ → Option Mode) (addr len : ℕ) (prot : Prot) (flags : Flags) (file off : ℕ) → flags.anon ≡ true
    → mmap_refusal f addr len prot flags file off ≡ mmap_refusal g addr len prot flags file off
refusal_same f g addr len prot flags file off anon =
    ap (λ (rest : Option Reply).
    if len == 0 then answer EINVAL
    else if not (is_one_kind flags) then answer EINVAL
    else if not flags.anon && not (is_aligned off) then answer EINVAL
    else if flags.fixed && not (is_aligned addr) then answer EINVAL
    else if flags.fixed && not (are_pages (pages_of addr len)) then answer ENOMEM
    else rest)
    (no_file flags.anon (file_refusal (f file) len prot flags off) (file_refusal (g file) len prot flags off) anon)

back_anon : (flags : Flags) (file off : ℕ) → flags.anon ≡ true → back_at flags file off ≡ Anon
back_anon flags file off e = go flags.anon e
  where
    go : (b : Bool) → b ≡ true → (if b then Anon else if flags.shared then Shared file (page_of off) else Private file (page_of off)) ≡ Anon
    go true e = refl
    go false e = absurd cc

-- where it was put
pub maps_put : (rule : PlaceRule) (fixed : Bool) (t u : Plain) (core addr len at : ℕ) (back : Back) (prot : Prot)
    → MapsAt rule fixed t (record { core = core; addr = addr; len = len; meta = record { back = back; prot = prot } }) (Mapped at) u
    → u ≡ after_mapping t (pages_put fixed addr len at) back prot
maps_put rule true t u core addr len at back prot h = h.1
maps_put rule false t u core addr len at back prot h = go h.0 h.2
  where
    go : (place : Option ℕ) → Maps t (range_at place (page_count len)) back prot (Mapped at) u
        → u ≡ after_mapping t (pages_from (page_of at) (page_count len)) back prot
    go None m = let wrong : Mapped at ≡ Refused ENOMEM = m.0 in absurd cc
    go (Some first) m =
        let told : Mapped at ≡ Mapped (first * 4096) = m.0 in
        let where_at : at ≡ first * 4096 = cc in
        let page : page_of (first * 4096) ≡ first = omega arith in
        let found : page_of at ≡ first = ap page_of where_at ∙ page in
        subst (λ (n : ℕ). u ≡ after_mapping t (pages_from n (page_count len)) back prot) (sym found) m.1

maps_fixed : (rule : PlaceRule) (b : Bool) (s v : Plain) (asked : NewMapping) (y : Reply) → b ≡ true → MapsAt rule true s asked y v → MapsAt rule b s asked y v
maps_fixed rule b s v asked y e h = subst (λ (x : Bool). MapsAt rule x s asked y v) (sym e) h

mmap_goes : (rule : PlaceRule) (p : PageRange) (t s u : Plain) (core addr len a l at file off file2 off2 : ℕ) (prot : Prot) (flags flags2 : Flags)
    → flags.anon ≡ true → flags2.anon ≡ true → flags2.fixed ≡ true → IsPassed (Mmap addr len prot flags file off)
    → IsPassed (Mmap a l prot flags2 file2 off2) → IsMeet (pages_of a l) (pages_put flags.fixed addr len at) p
    → RepliesBy rule t core (Mmap addr len prot flags file off) (Mapped at) u
    → GoesAt p (In (pages_of a l)) t s u
    (λ (v : Plain). RepliesBy rule s core (Mmap a l prot flags2 file2 off2) (Mapped ((pages_of a l).first * 4096)) v)
mmap_goes rule p t s u core addr len a l at file off file2 off2 prot flags flags2 anon anon2 fixed whole part meet h =
    let whole_here = refusal_same (λ k. mode_of (t.file k)) (λ k. None) addr len prot flags file off anon ∙ whole in
    let part_here = refusal_same (λ k. mode_of (s.file k)) (λ k. None) a l prot flags2 file2 off2 anon2 ∙ part in
    let r = pages_put flags.fixed addr len at in
    let back = back_at flags file off in
    let back2 = back_at flags2 file2 off2 in
    let backs : back ≡ Anon = back_anon flags file off anon in
    let backs2 : back2 ≡ Anon = back_anon flags2 file2 off2 anon2 in
    let done : AppliesAfter rule None t core (Mmap addr len prot flags file off) (Mapped at) u =
    subst (λ (o : Option Reply). AppliesAfter rule o t core (Mmap addr len prot flags file off) (Mapped at) u) whole_here h in
    let to = maps_put rule flags.fixed t u core addr len at back prot done in
    let v : Plain = after_mapping s (pages_of a l) back2 prot in
    let y2 = Mapped ((pages_of a l).first * 4096) in (
      v,
      subst (λ (o : Option Reply). AppliesAfter rule o s core (Mmap a l prot flags2 file2 off2) y2 v) (sym part_here)
          (maps_fixed rule flags2.fixed s v (record { core = core; addr = a; len = l; meta = meta_of prot flags2 file2 off2 }) y2 fixed (refl, refl)),
      subst (λ (m : Plain). Reaches p (In (pages_of a l)) t s m v) (sym to)
          (λ x i old. changed_at p r (pages_of a l) t s (λ x. Some (new_entry (advance_back back (x - r.first)) prot))
          (λ x. Some (new_entry (advance_back back2 (x - (pages_of a l).first)) prot)) x meet i
          (λ j. fresh back back2 (x - r.first) (x - (pages_of a l).first) backs backs2) old),
    )
  where
    fresh : (b c : Back) (m n : ℕ) → b ≡ Anon → c ≡ Anon → Same (Some (new_entry (advance_back b m) prot)) (Some (new_entry (advance_back c n) prot))
    fresh Anon Anon m n e f = (refl, refl)
    fresh (Shared file page) c m n e f = absurd cc
    fresh (Private file page) c m n e f = absurd cc
    fresh Anon (Shared file page) m n e f = absurd cc
    fresh Anon (Private file page) m n e f = absurd cc

-- ---- any call

apart_has : (r p : PageRange) (x : ℕ) → are_apart r p ≡ true → has p x ≡ true → has r x ≡ false
apart_has r p x a b = grind (arith, nat_tests)

across_aside : (f g : ℕ → Option PageEntry) (r p : PageRange) (x : ℕ) → are_apart r p ≡ true → has p x ≡ true → across f (has r) g x ≡ f x
across_aside f g r p x a b = ap (λ (b : Bool). cond b (g x) (f x)) (apart_has r p x a b)

-- what changes nothing in these pages

same_map : (t u : Plain) (x : ℕ) → u ≡ t → u.entry x ≡ t.entry x
same_map t u x e = ap (λ (p : Plain). p.entry x) e

accessed_quiet : (t : Plain) (addr byte x : ℕ) (y : Reply) → is_quiet y ≡ true → (accessed t addr byte y).entry x ≡ t.entry x
accessed_quiet t addr byte x (Mapped at) q = refl
accessed_quiet t addr byte x Done q = absurd cc
accessed_quiet t addr byte x (Byte b) q = refl
accessed_quiet t addr byte x (Refused e) q = refl
accessed_quiet t addr byte x (Segv code) q = refl
accessed_quiet t addr byte x Bus q = refl
accessed_quiet t addr byte x NoFrame q = refl
accessed_quiet t addr byte x NoMemory q = refl

maps_quiet : (rule : PlaceRule) (fixed : Bool) (t u : Plain) (asked : NewMapping) (y : Reply) → is_quiet y ≡ true → MapsAt rule fixed t asked y u → u ≡ t
maps_quiet rule fixed t u asked y q h = by fixed h
  where
    at : (r : Option PageRange) → Maps t r asked.meta.back asked.meta.prot y u → u ≡ t
    at None m = m.1
    at (Some r) m = let wrong : is_quiet (Mapped (r.first * 4096)) ≡ true = subst (λ (z : Reply). is_quiet z ≡ true) m.0 q in absurd cc

    by : (b : Bool) → MapsAt rule b t asked y u → u ≡ t
    by true m = at (Some (pages_of asked.addr asked.len)) m
    by false m = at (range_at m.0 (page_count asked.len)) m.2

protects_quiet : (t u : Plain) (r : PageRange) (prot : Prot) (y : Reply) → is_quiet y ≡ true → Protects t r prot y u → u ≡ t
protects_quiet t u r prot y q (Protects.no_page a e f) = f
protects_quiet t u r prot y q (Protects.no_write a w b e f) = f
protects_quiet t u r prot y q (Protects.done a b e f) = let wrong : is_quiet Done ≡ true = subst (λ (z : Reply). is_quiet z ≡ true) e q in absurd cc

performs_quiet : (rule : PlaceRule) (t u : Plain) (core x : ℕ) (r : Request) (y : Reply) → is_quiet y ≡ true → Performs rule t core r y u
    → u.entry x ≡ t.entry x
performs_quiet rule t u core x (Mmap addr len prot flags file off) y q h =
    same_map t u x (maps_quiet rule flags.fixed t u (record { core = core; addr = addr; len = len; meta = meta_of prot flags file off }) y q h)
performs_quiet rule t u core x (Munmap addr len) y q h =
    let wrong : is_quiet Done ≡ true = subst (λ (z : Reply). is_quiet z ≡ true) h.0 q in absurd cc
performs_quiet rule t u core x (Mprotect addr len prot) y q h = same_map t u x (protects_quiet t u (pages_of addr len) prot y q h)
performs_quiet rule t u core x (Load addr) y q h = same_map (accessed t addr 0 y) u x h.1 ∙ accessed_quiet t addr 0 x y q
performs_quiet rule t u core x (Store addr byte) y q h = same_map (accessed t addr byte y) u x h.1 ∙ accessed_quiet t addr byte x y q
performs_quiet rule t u core x (Fetch addr) y q h = same_map (accessed t addr 0 y) u x h.1 ∙ accessed_quiet t addr 0 x y q

stored_other : (t : Plain) (page i byte x : ℕ) (o : Option PageEntry) → x ≢ page → (stored_entry t page o i byte).entry x ≡ t.entry x
stored_other t page i byte x None ne = refl
stored_other t page i byte x (Some e) ne = go e.own
  where
    back : (b : Back) → (stored_back t b i byte).entry x ≡ t.entry x
    back Anon = refl
    back (Shared file k) = refl
    back (Private file k) = refl

    go : (own : Option Bytes) → (stored_own t page e own i byte).entry x ≡ t.entry x
    go None = back e.back
    go (Some own) = put_other t.entry page (Some (record e { own = Some (put own i byte) })) x ne

pub accessed_other : (t : Plain) (addr byte x : ℕ) (y : Reply) → x ≢ page_of addr → (accessed t addr byte y).entry x ≡ t.entry x
accessed_other t addr byte x Done ne = stored_other t (page_of addr) (offset_of addr) byte x (t.entry (page_of addr)) ne
accessed_other t addr byte x (Mapped at) ne = refl
accessed_other t addr byte x (Byte b) ne = refl
accessed_other t addr byte x (Refused e) ne = refl
accessed_other t addr byte x (Segv code) ne = refl
accessed_other t addr byte x Bus ne = refl
accessed_other t addr byte x NoFrame ne = refl
accessed_other t addr byte x NoMemory ne = refl

protects_aside : (t u : Plain) (r p : PageRange) (prot : Prot) (y : Reply) (x : ℕ) → are_apart r p ≡ true → has p x ≡ true → Protects t r prot y u
    → u.entry x ≡ t.entry x
protects_aside t u r p prot y x a b (Protects.no_page c e f) = same_map t u x f
protects_aside t u r p prot y x a b (Protects.no_write c w d e f) = same_map t u x f
protects_aside t u r p prot y x a b (Protects.done c d e f) =
    same_map (after_protecting t r prot) u x f ∙ across_aside t.entry (λ (q : ℕ). with_prot prot (t.entry q)) r p x a b

not_in : (p : PageRange) (x page : ℕ) → not (has p page) ≡ true → has p x ≡ true → x ≢ page
not_in p x page n h e =
    let here : has p page ≡ true = subst (λ (k : ℕ). has p k ≡ true) e h in
    let wrong : not true ≡ true = subst (λ (b : Bool). not b ≡ true) here n in absurd cc

performs_misses : (rule : PlaceRule) (p : PageRange) (t u : Plain) (core x : ℕ) (r : Request) (y : Reply) → misses p r y ≡ true → has p x ≡ true
    → Performs rule t core r y u → u.entry x ≡ t.entry x
performs_misses rule p t u core x (Mmap addr len prot flags file off) (Mapped at) a b h =
    same_map (after_mapping t (pages_put flags.fixed addr len at) (back_at flags file off) prot) u x
    (maps_put rule flags.fixed t u core addr len at (back_at flags file off) prot h)
    ∙ across_aside t.entry (λ (q : ℕ). Some (new_entry (advance_back (back_at flags file off) (q - (pages_put flags.fixed addr len at).first)) prot))
    (pages_put flags.fixed addr len at) p x a b
performs_misses rule p t u core x (Mmap addr len prot flags file off) Done a b h = absurd cc
performs_misses rule p t u core x (Mmap addr len prot flags file off) (Byte c) a b h = absurd cc
performs_misses rule p t u core x (Mmap addr len prot flags file off) (Refused e) a b h = absurd cc
performs_misses rule p t u core x (Mmap addr len prot flags file off) (Segv code) a b h = absurd cc
performs_misses rule p t u core x (Mmap addr len prot flags file off) Bus a b h = absurd cc
performs_misses rule p t u core x (Mmap addr len prot flags file off) NoFrame a b h = absurd cc
performs_misses rule p t u core x (Mmap addr len prot flags file off) NoMemory a b h = absurd cc
performs_misses rule p t u core x (Munmap addr len) y a b h =
    same_map (after_unmapping t (pages_of addr len)) u x h.1 ∙ across_aside t.entry (λ (q : ℕ). None) (pages_of addr len) p x a b
performs_misses rule p t u core x (Mprotect addr len prot) y a b h = protects_aside t u (pages_of addr len) p prot y x a b h
performs_misses rule p t u core x (Store addr byte) y a b h =
    same_map (accessed t addr byte y) u x h.1 ∙ accessed_other t addr byte x y (not_in p x (page_of addr) a b)
performs_misses rule p t u core x (Load addr) y a b h = absurd cc
performs_misses rule p t u core x (Fetch addr) y a b h = absurd cc

either : (a b : Bool) → (a || b) ≡ true → (a ≡ false → b ≡ true)
either true b e f = absurd cc
either false b e f = e

applies_aside : (rule : PlaceRule) (p : PageRange) (t u : Plain) (core x : ℕ) (r : Request) (y : Reply) → (is_quiet y || misses p r y) ≡ true
    → has p x ≡ true → Applies rule t core r y u → u.entry x ≡ t.entry x
applies_aside rule p t u core x r y a b h = by (refusal (λ k. mode_of (t.file k)) r) h
  where
    quiet : (q : Bool) → is_quiet y ≡ q → Performs rule t core r y u → u.entry x ≡ t.entry x
    quiet true e g = performs_quiet rule t u core x r y e g
    quiet false e g = performs_misses rule p t u core x r y (either (is_quiet y) (misses p r y) a e) b g

    by : (o : Option Reply) → AppliesAfter rule o t core r y u → u.entry x ≡ t.entry x
    by None g = quiet (is_quiet y) refl g
    by (Some refused) g = same_map t u x g.1

pub replies_aside : (rule : PlaceRule) (p : PageRange) (t u : Plain) (c : Call) (x : ℕ) → is_aside p c ≡ true → has p x ≡ true → IsAnon (t.entry x)
    → RepliesBy rule t c.core c.request c.reply u → u.entry x ≡ t.entry x
replies_aside rule p t u c x a b anon h = by c.reply a h
  where
    go : (y : Reply) → (is_quiet y || misses p c.request y) ≡ true → y ≢ NoMemory → y ≢ NoFrame → RepliesBy rule t c.core c.request y u
        → u.entry x ≡ t.entry x
    go y e m f r =
        applies_aside rule p (with_copy t (page_copied t c.request y)) u c.core x c.request y e b (reply_answers rule t u c.core c.request y m f r)
        ∙ copy_aside t c.request y x anon

    by : (y : Reply) → (is_quiet y || misses p c.request y) ≡ true → RepliesBy rule t c.core c.request y u → u.entry x ≡ t.entry x
    by NoMemory e r = same_map (with_copy t (page_copied t c.request NoMemory)) u x r ∙ copy_aside t c.request NoMemory x anon
    by NoFrame e r = same_map (with_copy t (page_copied t c.request NoFrame)) u x r.1 ∙ copy_aside t c.request NoFrame x anon
    by (Mapped at) e r = go (Mapped at) e (λ z. absurd cc) (λ z. absurd cc) r
    by Done e r = go Done e (λ z. absurd cc) (λ z. absurd cc) r
    by (Byte v) e r = go (Byte v) e (λ z. absurd cc) (λ z. absurd cc) r
    by (Refused v) e r = go (Refused v) e (λ z. absurd cc) (λ z. absurd cc) r
    by (Segv v) e r = go (Segv v) e (λ z. absurd cc) (λ z. absurd cc) r
    by Bus e r = go Bus e (λ z. absurd cc) (λ z. absurd cc) r

pub agree_on : (p : PageRange) (t s u : Plain) → ((x : ℕ) → has p x ≡ true → u.entry x ≡ t.entry x) → Agrees p t s → Agrees p u s
agree_on p t s u kept same x in_p =
    let here = same x in_p in
    let e = kept x in_p in
    (e ∙ here.0, subst (λ (o : Option PageEntry). IsAnon o) (sym e) here.1)

-- a mapping of no file, and the one for the pages that it has of these
mapped_goes : (rule : PlaceRule) (p : PageRange) (t s u : Plain) (core addr len : ℕ) (prot : Prot) (flags : Flags) (file off : ℕ) (y : Reply)
    (a l : ℕ) (prot2 : Prot) (flags2 : Flags) (file2 off2 : ℕ) (z : Reply)
    → IsMappedPart p addr len prot flags file off y a l prot2 flags2 file2 off2 z → RepliesBy rule t core (Mmap addr len prot flags file off) y u
    → GoesAt p (In (pages_of a l)) t s u
    (λ (v : Plain). RepliesBy rule s core (Mmap a l prot2 flags2 file2 off2) (Mapped ((pages_of a l).first * 4096)) v)
mapped_goes rule p t s u core addr len prot flags file off y a l prot2 flags2 file2 off2 z is h =
    let y2 = Mapped ((pages_of a l).first * 4096) in
    let passed = subst (λ (w : Prot). IsPassed (Mmap a l w flags2 file2 off2)) is.prot is.passed in
    let replied = subst (λ (w : Reply). RepliesBy rule t core (Mmap addr len prot flags file off) w u) is.mapped h in
    subst (λ (w : Prot). GoesAt p (In (pages_of a l)) t s u (λ (v : Plain). RepliesBy rule s core (Mmap a l w flags2 file2 off2) y2 v))
    (sym is.prot)
    (mmap_goes rule p t s u core addr len a l is.at file off file2 off2 prot flags flags2 is.anon is.is_anon is.is_fixed is.whole passed is.meet
    replied)

-- what a call does within them is done
requests_go : (rule : PlaceRule) (p : PageRange) (t s u : Plain) (core : ℕ) (r q : Request) (y z : Reply) → IsPartOf p r y q z → Agrees p t s
    → RepliesBy rule t core r y u → Goes p s u (λ (v : Plain). RepliesBy rule s core q z v)
requests_go rule p t s u core (Load addr) q y z is same h =
    named (subst (λ (w : Reply). Goes p s u (λ (v : Plain). RepliesBy rule s core (Load addr) w v)) (sym is.2) (
    access_goes rule p t s u core addr (Load addr) y By.Load 0 (no_copy_load t addr y) (no_copy_load s addr y) (λ m n a. a) (λ m n a. a) is.0 same h))
  where
    named : Goes p s u (λ (v : Plain). RepliesBy rule s core (Load addr) z v) → Goes p s u (λ (v : Plain). RepliesBy rule s core q z v)
    named g = subst (λ (r : Request). Goes p s u (λ (v : Plain). RepliesBy rule s core r z v)) (sym is.1) g
requests_go rule p t s u core (Fetch addr) q y z is same h =
    named (subst (λ (w : Reply). Goes p s u (λ (v : Plain). RepliesBy rule s core (Fetch addr) w v)) (sym is.2) (
    access_goes rule p t s u core addr (Fetch addr) y By.Fetch 0 (no_copy_fetch t addr y) (no_copy_fetch s addr y) (λ m n a. a) (λ m n a. a) is.0 same h))
  where
    named : Goes p s u (λ (v : Plain). RepliesBy rule s core (Fetch addr) z v) → Goes p s u (λ (v : Plain). RepliesBy rule s core q z v)
    named g = subst (λ (r : Request). Goes p s u (λ (v : Plain). RepliesBy rule s core r z v)) (sym is.1) g
requests_go rule p t s u core (Store addr byte) q y z is same h =
    named (subst (λ (w : Reply). Goes p s u (λ (v : Plain). RepliesBy rule s core (Store addr byte) w v)) (sym is.2) (
    access_goes rule p t s u core addr (Store addr byte) y By.Store byte (no_copy t addr byte y here.1)
    (no_copy s addr byte y (subst (λ (o : Option PageEntry). IsAnon o) here.0 here.1)) (λ m n a. a) (λ m n a. a) is.0 same h))
  where
    here : Same (t.entry (page_of addr)) (s.entry (page_of addr))
    here = same (page_of addr) is.0.0

    named : Goes p s u (λ (v : Plain). RepliesBy rule s core (Store addr byte) z v) → Goes p s u (λ (v : Plain). RepliesBy rule s core q z v)
    named g = subst (λ (r : Request). Goes p s u (λ (v : Plain). RepliesBy rule s core r z v)) (sym is.1) g
requests_go rule p t s u core (Munmap addr len) (Munmap a l) y z is same h =
    subst (λ (w : Reply). Goes p s u (λ (v : Plain). RepliesBy rule s core (Munmap a l) w v)) (sym is.1)
    (goes_all p (In (pages_of a l)) t s u (λ (v : Plain). RepliesBy rule s core (Munmap a l) Done v) same
    (munmap_goes rule p t s u core addr len a l is.2 is.3 is.4 (subst (λ (w : Reply). RepliesBy rule t core (Munmap addr len) w u) is.0 h)))
requests_go rule p t s u core (Munmap addr len) (Load a) y z is same h = absurd is
requests_go rule p t s u core (Munmap addr len) (Fetch a) y z is same h = absurd is
requests_go rule p t s u core (Munmap addr len) (Store a b) y z is same h = absurd is
requests_go rule p t s u core (Munmap addr len) (Mprotect a l prot) y z is same h = absurd is
requests_go rule p t s u core (Munmap addr len) (Mmap a l prot flags file off) y z is same h = absurd is
requests_go rule p t s u core (Mprotect addr len prot) (Mprotect a l prot2) y z is same h =
    subst (λ (w : Reply). Goes p s u (λ (v : Plain). RepliesBy rule s core (Mprotect a l prot2) w v)) (sym is.1)
    (subst (λ (w : Prot). Goes p s u (λ (v : Plain). RepliesBy rule s core (Mprotect a l w) Done v)) (sym is.2)
    (mprotect_goes rule p t s u core addr len a l prot is.3 is.4 is.5 same
    (subst (λ (w : Reply). RepliesBy rule t core (Mprotect addr len prot) w u) is.0 h)))
requests_go rule p t s u core (Mprotect addr len prot) (Load a) y z is same h = absurd is
requests_go rule p t s u core (Mprotect addr len prot) (Fetch a) y z is same h = absurd is
requests_go rule p t s u core (Mprotect addr len prot) (Store a b) y z is same h = absurd is
requests_go rule p t s u core (Mprotect addr len prot) (Munmap a l) y z is same h = absurd is
requests_go rule p t s u core (Mprotect addr len prot) (Mmap a l prot2 flags file off) y z is same h = absurd is
requests_go rule p t s u core (Mmap addr len prot flags file off) (Mmap a l prot2 flags2 file2 off2) y z is same h =
    let y2 = Mapped ((pages_of a l).first * 4096) in
    subst (λ (w : Reply). Goes p s u (λ (v : Plain). RepliesBy rule s core (Mmap a l prot2 flags2 file2 off2) w v)) (sym is.replied)
    (goes_all p (In (pages_of a l)) t s u (λ (v : Plain). RepliesBy rule s core (Mmap a l prot2 flags2 file2 off2) y2 v) same
    (mapped_goes rule p t s u core addr len prot flags file off y a l prot2 flags2 file2 off2 z is h))
requests_go rule p t s u core (Mmap addr len prot flags file off) (Load a) y z is same h = absurd is
requests_go rule p t s u core (Mmap addr len prot flags file off) (Fetch a) y z is same h = absurd is
requests_go rule p t s u core (Mmap addr len prot flags file off) (Store a b) y z is same h = absurd is
requests_go rule p t s u core (Mmap addr len prot flags file off) (Munmap a l) y z is same h = absurd is
requests_go rule p t s u core (Mmap addr len prot flags file off) (Mprotect a l prot2) y z is same h = absurd is

pub part_goes : (rule : PlaceRule) (p : PageRange) (t s u : Plain) (c d : Call) → IsPart p c d → Agrees p t s → RepliesBy rule t c.core c.request c.reply u
    → Goes p s u (λ (v : Plain). RepliesBy rule s d.core d.request d.reply v)
part_goes rule p t s u c d is same h =
    subst (λ (n : ℕ). Goes p s u (λ (v : Plain). RepliesBy rule s n d.request d.reply v)) (sym is.core)
    (requests_go rule p t s u c.core c.request d.request c.reply d.reply is.part same h)

-- ---- calls that map or unmap pages, whatever the maps were there

abbrev ResetsTo : PlaceRule → PageRange → (t s u : Plain) → ℕ → Request → Reply → Type 0
ResetsTo rule p t s u core q z = GoesAt p (λ (x : ℕ). IsResetAt x q z) t s u (λ (v : Plain). RepliesBy rule s core q z v)

put_at : (a l at x : ℕ) (b : Bool) → b ≡ true → has (pages_put b a l at) x ≡ true → has (pages_of a l) x ≡ true
put_at a l at x true e h = h
put_at a l at x false e h = absurd cc

sets_go : (rule : PlaceRule) (p : PageRange) (t s u : Plain) (core : ℕ) (r q : Request) (y z : Reply) → IsPartOf p r y q z → Sets q z
    → RepliesBy rule t core r y u → ResetsTo rule p t s u core q z
sets_go rule p t s u core (Munmap addr len) (Munmap a l) y z is sets h =
    subst (λ (w : Reply). ResetsTo rule p t s u core (Munmap a l) w) (sym is.1)
    (munmap_goes rule p t s u core addr len a l is.2 is.3 is.4 (subst (λ (w : Reply). RepliesBy rule t core (Munmap addr len) w u) is.0 h))
sets_go rule p t s u core (Munmap addr len) (Load a) y z is sets h = absurd is
sets_go rule p t s u core (Munmap addr len) (Fetch a) y z is sets h = absurd is
sets_go rule p t s u core (Munmap addr len) (Store a b) y z is sets h = absurd is
sets_go rule p t s u core (Munmap addr len) (Mprotect a l prot) y z is sets h = absurd is
sets_go rule p t s u core (Munmap addr len) (Mmap a l prot flags file off) y z is sets h = absurd is
sets_go rule p t s u core (Mmap addr len prot flags file off) (Mmap a l prot2 flags2 file2 off2) y z is sets h =
    let y2 = Mapped ((pages_of a l).first * 4096) in
    let g = mapped_goes rule p t s u core addr len prot flags file off y a l prot2 flags2 file2 off2 z is h in
    subst (λ (w : Reply). ResetsTo rule p t s u core (Mmap a l prot2 flags2 file2 off2) w) (sym is.replied)
    (g.0, g.1, λ x in_p old. g.2 x in_p (by x old))
  where
    by : (x : ℕ) → Same (t.entry x) (s.entry x) ⊎ IsResetAt x (Mmap a l prot2 flags2 file2 off2) (Mapped ((pages_of a l).first * 4096))
        → Same (t.entry x) (s.entry x) ⊎ In (pages_of a l) x
    by x (inl same) = inl same
    by x (inr here) = inr (put_at a l ((pages_of a l).first * 4096) x flags2.fixed is.is_fixed here)
sets_go rule p t s u core (Mmap addr len prot flags file off) (Load a) y z is sets h = absurd is
sets_go rule p t s u core (Mmap addr len prot flags file off) (Fetch a) y z is sets h = absurd is
sets_go rule p t s u core (Mmap addr len prot flags file off) (Store a b) y z is sets h = absurd is
sets_go rule p t s u core (Mmap addr len prot flags file off) (Munmap a l) y z is sets h = absurd is
sets_go rule p t s u core (Mmap addr len prot flags file off) (Mprotect a l prot2) y z is sets h = absurd is
sets_go rule p t s u core (Load addr) q y z is sets h = absurd (subst (λ (w : Request). Sets w z) is.1 sets)
sets_go rule p t s u core (Fetch addr) q y z is sets h = absurd (subst (λ (w : Request). Sets w z) is.1 sets)
sets_go rule p t s u core (Store addr byte) q y z is sets h = absurd (subst (λ (w : Request). Sets w z) is.1 sets)
sets_go rule p t s u core (Mprotect addr len prot) (Mprotect a l prot2) y z is sets h = absurd sets
sets_go rule p t s u core (Mprotect addr len prot) (Load a) y z is sets h = absurd is
sets_go rule p t s u core (Mprotect addr len prot) (Fetch a) y z is sets h = absurd is
sets_go rule p t s u core (Mprotect addr len prot) (Store a b) y z is sets h = absurd is
sets_go rule p t s u core (Mprotect addr len prot) (Munmap a l) y z is sets h = absurd is
sets_go rule p t s u core (Mprotect addr len prot) (Mmap a l prot2 flags file off) y z is sets h = absurd is

pub set_goes : (rule : PlaceRule) (p : PageRange) (t s u : Plain) (c d : Call) → IsPart p c d → Sets d.request d.reply
    → RepliesBy rule t c.core c.request c.reply u → ResetsTo rule p t s u d.core d.request d.reply
set_goes rule p t s u c d is sets h =
    subst (λ (n : ℕ). ResetsTo rule p t s u n d.request d.reply) (sym is.core)
    (sets_go rule p t s u c.core c.request d.request c.reply d.reply is.part sets h)

-- one that does so with all of these pages
pub reset_sets : (p : PageRange) (q : Request) (z : Reply) → IsReset p q z → Sets q z
reset_sets p (Munmap addr len) z is = tt
reset_sets p (Mmap addr len prot flags file off) (Mapped at) is = tt
reset_sets p (Mmap addr len prot flags file off) Done is = absurd is
reset_sets p (Mmap addr len prot flags file off) (Byte b) is = absurd is
reset_sets p (Mmap addr len prot flags file off) (Refused e) is = absurd is
reset_sets p (Mmap addr len prot flags file off) (Segv code) is = absurd is
reset_sets p (Mmap addr len prot flags file off) Bus is = absurd is
reset_sets p (Mmap addr len prot flags file off) NoFrame is = absurd is
reset_sets p (Mmap addr len prot flags file off) NoMemory is = absurd is
reset_sets p (Load addr) z is = absurd is
reset_sets p (Fetch addr) z is = absurd is
reset_sets p (Store addr byte) z is = absurd is
reset_sets p (Mprotect addr len prot) z is = absurd is

reset_at : (p : PageRange) (q : Request) (z : Reply) (x : ℕ) → IsReset p q z → has p x ≡ true → IsResetAt x q z
reset_at p (Munmap addr len) z x is i = is x i
reset_at p (Mmap addr len prot flags file off) (Mapped at) x is i = is x i
reset_at p (Mmap addr len prot flags file off) Done x is i = absurd is
reset_at p (Mmap addr len prot flags file off) (Byte b) x is i = absurd is
reset_at p (Mmap addr len prot flags file off) (Refused e) x is i = absurd is
reset_at p (Mmap addr len prot flags file off) (Segv code) x is i = absurd is
reset_at p (Mmap addr len prot flags file off) Bus x is i = absurd is
reset_at p (Mmap addr len prot flags file off) NoFrame x is i = absurd is
reset_at p (Mmap addr len prot flags file off) NoMemory x is i = absurd is
reset_at p (Load addr) z x is i = absurd is
reset_at p (Fetch addr) z x is i = absurd is
reset_at p (Store addr byte) z x is i = absurd is
reset_at p (Mprotect addr len prot) z x is i = absurd is

pub reset_goes : (rule : PlaceRule) (p : PageRange) (t s u : Plain) (c d : Call) → IsPart p c d → IsReset p d.request d.reply
    → RepliesBy rule t c.core c.request c.reply u → Goes p s u (λ (v : Plain). RepliesBy rule s d.core d.request d.reply v)
reset_goes rule p t s u c d is all h =
    let g = set_goes rule p t s u c d is (reset_sets p d.request d.reply all) h in
    (g.0, g.1, λ x in_p. g.2 x in_p (inr (reset_at p d.request d.reply x all in_p)))
