-- What a call does to a map, it does to that map without its bytes
use Rattle.std.proofs.Common.{◌≡◌, ◌≢◌, ◌∙◌, ℕ, ◌*◌, ◌/◌, ◌-◌, ◌⊎◌, inl, inr, ◌&&◌, ◌==◌, not, cond, if◌then◌else◌, Bool, true, false, Option, None, Some}
use Rattle.std.proofs.Common.{ap, arith, refl, subst, sym}
use Rattle.vm_base.specs.declared.info.Back.{Back}
use Rattle.vm_base.specs.declared.info.Back.TheVariants.{Anon, Shared, Private}
use Rattle.vm_base.specs.declared.page.PageRange.{PageRange}
use Rattle.vm_base.specs.declared.replies.Errno.{Errno}
use Rattle.vm_base.specs.declared.replies.Errno.TheVariants.{EINVAL, ENOMEM, EACCES, EOVERFLOW}
use Rattle.vm_base.specs.declared.replies.Reply.{Reply}
use Rattle.vm_base.specs.declared.replies.Reply.TheVariants.{Mapped, Done, Byte, Refused, Segv, Bus, NoFrame, NoMemory}
use Rattle.vm_base.specs.declared.replies.SegvCode.TheVariants.{MapErr, AccErr}
use Rattle.vm_base.specs.declared.requests.Flags.{Flags}
use Rattle.vm_base.specs.declared.requests.Request.{Request}
use Rattle.vm_base.specs.declared.requests.Request.TheVariants.{Load, Store, Fetch, Mmap, Munmap, Mprotect}
use Rattle.vm_base.specs.declared.rights.Access.{Access}
use Rattle.vm_base.specs.declared.rights.Access.TheVariants as By
use Rattle.vm_base.specs.declared.rights.Mode.{Mode}
use Rattle.vm_base.specs.declared.rights.Prot.{Prot}
use Rattle.vm_base.specs.Answers.{Answers}
use Rattle.vm_base.specs.Apply.{Accesses, Applies, AppliesAfter, HasPage, Maps, MapsAt, NewMapping, Performs, Protects, access_reply, accessed}
use Rattle.vm_base.specs.Apply.{after_mapping, after_protecting, after_unmapping, back_at, bytes_reply, byte_reply, copied, detached, detached_entry}
use Rattle.vm_base.specs.Apply.{entry_reply, is_absent, is_read_only, is_uncopied, meta_of, needs_copy, new_entry, range_at, stored_back, stored_entry}
use Rattle.vm_base.specs.Apply.{stored_own, with_prot}
use Rattle.vm_base.specs.Copies.{if_copied, or_else, page_copied, with_copy}
use Rattle.vm_base.specs.Functions.{across, has, put}
use Rattle.vm_base.specs.Info.{advance_back}
use Rattle.vm_base.specs.Log.{RepliesBy}
use Rattle.vm_base.specs.Pages.{are_pages, is_aligned, is_page, offset_of, page_count, page_of, pages_of}
use Rattle.vm_base.specs.Places.{PlaceRule}
use Rattle.vm_base.specs.Plain.{Bytes, PageEntry, File, Plain, bytes_of, mode_of, zeros}
use Rattle.vm_base.specs.Refusals.{answer, file_refusal, is_one_kind, mmap_refusal, mprotect_refusal, munmap_refusal, refusal}
use Rattle.vm_base.specs.Rights.{is_allowed}
use Rattle.vm_base.proofs.Functions.{eq_true}
use Rattle.audit.specs.declared.auditor.Call.{Call}
use Rattle.orders.specs.Orders.{CopiesFor}
use Rattle.orders.proofs.LeadLemmas.{answers_reply, reply_answers}
use Rattle.cores.specs.Byteless.{Fits, FitsAt, byteless, fixed_anon, if_done, mapping_left, reply_left, request_left, served}
use Rattle.cores.proofs.Agreeing.{IsAnon, maps_put, no_copy, no_copy_fetch, no_copy_load, read_only_anon, refusal_same}

-- ---- maps without their bytes

-- a page of no file, and of zero bytes
pub record IsZero (f : PageEntry) : Type 0 where
  pub anon : f.back ≡ Anon
  pub bytes : Bytes
  pub own : f.own ≡ Some bytes
  pub zero : (i : ℕ) → bytes i ≡ 0

-- a page without its bytes
abbrev pub Dims : Option PageEntry → Option PageEntry → Type 0
Dims None q = q ≡ None
Dims (Some e) q = (f : PageEntry) × (q ≡ Some f) × (f.prot ≡ e.prot) × IsZero f

abbrev pub Dimmed : Plain → Plain → Type 0
Dimmed t s = (x : ℕ) → Dims (t.entry x) (s.entry x)

-- one there is
abbrev dim_entry : Option PageEntry → Option PageEntry
dim_entry None = None
dim_entry (Some e) = Some (record { back = Anon; prot = e.prot; own = Some zeros })

abbrev pub dim : Plain → Plain
dim t = record { entry = λ x. dim_entry (t.entry x); file = λ k. None }

pub is_dim : (t : Plain) → Dimmed t (dim t)
is_dim t x = go (t.entry x)
  where
    go : (o : Option PageEntry) → Dims o (dim_entry o)
    go None = refl
    go (Some e) =
        (record { back = Anon; prot = e.prot; own = Some zeros }, refl, refl, record { anon = refl; bytes = zeros; own = refl; zero = λ i. refl })

some_same : {A : Type 0} (a b : A) → Some a ≡ Some b → a ≡ b
some_same a b e = cc

dims_anon : (o q : Option PageEntry) → Dims o q → IsAnon q
dims_anon None q d = subst IsAnon (sym d) tt
dims_anon (Some e) q d = subst IsAnon (sym d.1) d.3.anon

-- ---- changes of one page

-- of a page that has the same rights
dims_entry : (e d : PageEntry) (q : Option PageEntry) → d.prot ≡ e.prot → Dims (Some e) q → Dims (Some d) q
dims_entry e d q prot s = (s.0, s.1, s.2 ∙ sym prot, s.3)

put_dims : (f g : ℕ → Option PageEntry) (page : ℕ) (e d : PageEntry) → f page ≡ Some e → d.prot ≡ e.prot → ((x : ℕ) → Dims (f x) (g x)) → (x : ℕ)
    → Dims (put f page (Some d) x) (g x)
put_dims f g page e d is prot dims x = go (x == page) refl
  where
    go : (b : Bool) → (x == page) ≡ b → Dims (cond b (Some d) (f x)) (g x)
    go true same =
        let here : f x ≡ Some e = ap f (eq_true x page same) ∙ is in
        dims_entry e d (g x) prot (subst (λ (o : Option PageEntry). Dims o (g x)) here (dims x))
    go false same = dims x

-- of one without bytes
dims_zero : (o : Option PageEntry) (f d : PageEntry) → d.prot ≡ f.prot → IsZero d → Dims o (Some f) → Dims o (Some d)
dims_zero None f d prot zero s = let wrong : Some f ≡ None = s in absurd cc
dims_zero (Some e) f d prot zero s =
    let same : f ≡ s.0 = some_same f s.0 s.1 in
    (d, refl, prot ∙ (ap (λ (n : PageEntry). n.prot) same ∙ s.2), zero)

put_zero : (f g : ℕ → Option PageEntry) (page : ℕ) (e d : PageEntry) → g page ≡ Some e → d.prot ≡ e.prot → IsZero d → ((x : ℕ) → Dims (f x) (g x)) → (x : ℕ)
    → Dims (f x) (put g page (Some d) x)
put_zero f g page e d is prot zero dims x = go (x == page) refl
  where
    go : (b : Bool) → (x == page) ≡ b → Dims (f x) (cond b (Some d) (g x))
    go true same =
        let here : g x ≡ Some e = ap g (eq_true x page same) ∙ is in
        dims_zero (f x) e d prot zero (subst (λ (o : Option PageEntry). Dims (f x) o) here (dims x))
    go false same = dims x

-- ---- copies

copied_dims : (t u s : Plain) (page : ℕ) (e : PageEntry) (b : Bool) (o : Option Bytes) → t.entry page ≡ Some e → copied t page e b o ≡ Some u → Dimmed t s
    → Dimmed u s
copied_dims t u s page e false None at h same = absurd cc
copied_dims t u s page e false (Some bytes) at h same = absurd cc
copied_dims t u s page e true None at h same = absurd cc
copied_dims t u s page e true (Some bytes) at h same =
    let copy : Plain = record t { entry = put t.entry page (Some (record e { own = Some bytes })) } in
    subst (λ (m : Plain). Dimmed m s) (some_same copy u h) (put_dims t.entry s.entry page e (record e { own = Some bytes }) at refl same)

detached_dims : (t u s : Plain) (page : ℕ) → detached t page ≡ Some u → Dimmed t s → Dimmed u s
detached_dims t u s page h same = go (t.entry page) refl h
  where
    go : (o : Option PageEntry) → t.entry page ≡ o → detached_entry t page o ≡ Some u → Dimmed u s
    go None e f = absurd cc
    go (Some d) e f = copied_dims t u s page d (is_uncopied d.back d.own) (bytes_of t.file d.back d.own) e f same

pub copies_dims : (t u s : Plain) (r : Request) → CopiesFor t r u → Dimmed t s → Dimmed u s
copies_dims t u s (Store addr byte) h same = detached_dims t u s (page_of addr) h.1 same
copies_dims t u s (Load addr) h same = absurd h
copies_dims t u s (Fetch addr) h same = absurd h
copies_dims t u s (Mmap addr len prot flags file off) h same = absurd h
copies_dims t u s (Munmap addr len) h same = absurd h
copies_dims t u s (Mprotect addr len prot) h same = absurd h

due_dims : (t s : Plain) (page : ℕ) → Dimmed t s → Dimmed (with_copy t (if_copied (detached t page) page)) s
due_dims t s page same = go (detached t page) refl
  where
    go : (o : Option Plain) → detached t page ≡ o → Dimmed (with_copy t (if_copied o page)) s
    go None e = same
    go (Some u) e = subst (λ (p : Option Plain). Dimmed (or_else t p) s) (sym e) (detached_dims t u s page e same)

pub copy_dims : (t s : Plain) (r : Request) (y : Reply) → Dimmed t s → Dimmed (with_copy t (page_copied t r y)) s
copy_dims t s (Store addr byte) Done same = due_dims t s (page_of addr) same
copy_dims t s (Load addr) Done same = same
copy_dims t s (Fetch addr) Done same = same
copy_dims t s (Mmap addr len prot flags file off) Done same = same
copy_dims t s (Munmap addr len) Done same = same
copy_dims t s (Mprotect addr len prot) Done same = same
copy_dims t s r (Mapped at) same = same
copy_dims t s r (Byte b) same = same
copy_dims t s r (Refused e) same = same
copy_dims t s r (Segv code) same = same
copy_dims t s r Bus same = same
copy_dims t s r NoFrame same = same
copy_dims t s r NoMemory same = same

-- ---- calls that change nothing

-- what goes on without bytes
abbrev pub Left : PlaceRule → Plain → Plain → ℕ → Request → Reply → Type 0
Left rule s u core q z = (v : Plain) × RepliesBy rule s core q z v × Dimmed u v

unchanged : (rule : PlaceRule) (t s u : Plain) (core : ℕ) (r q : Request) (y : Reply) → y ≢ NoMemory → y ≢ NoFrame
    → ((m : Plain) → Applies rule m core r y u → u ≡ m) → Dimmed t s → RepliesBy rule t core r y u → Left rule s u core q NoMemory
unchanged rule t s u core r q y memory frame keeps same h =
    let m = with_copy t (page_copied t r y) in
    let kept = keeps m (reply_answers rule t u core r y memory frame h) in
    (s, refl, subst (λ (n : Plain). Dimmed n s) (sym kept) (copy_dims t s r y same))

-- ---- accesses

-- what is served by a page of zero bytes
zero_reply : (g : ℕ → Option File) (f : PageEntry) (a : Access) (i : ℕ) → IsZero f → is_allowed f.prot a ≡ true
    → entry_reply g (Some f) a i ≡ Some (byte_reply a 0)
zero_reply g f a i zero allowed =
    ap (λ (b : Bool). if b then bytes_reply (needs_copy a f.back f.own) (bytes_of g f.back f.own) a i else Some (Segv AccErr)) allowed
    ∙ (ap (λ (own : Option Bytes). bytes_reply (needs_copy a f.back own) (bytes_of g f.back own) a i) zero.own
    ∙ (ap (λ (b : Bool). if b then None else Some (byte_reply a (zero.bytes i))) (no_copy_needed a f.back zero.anon)
    ∙ ap (λ (n : ℕ). Some (byte_reply a n)) (zero.zero i)))
  where
    no_copy_needed : (a : Access) (back : Back) → back ≡ Anon → needs_copy a back (Some zero.bytes) ≡ false
    no_copy_needed By.Load back e = refl
    no_copy_needed By.Fetch back e = refl
    no_copy_needed By.Store Anon e = refl
    no_copy_needed By.Store (Shared file page) e = refl
    no_copy_needed By.Store (Private file page) e = refl

served_byte : (a : Access) (n : ℕ) → served (byte_reply a n) ≡ byte_reply a 0
served_byte By.Load n = refl
served_byte By.Fetch n = refl
served_byte By.Store n = refl

abbrev ServedAs : Option Reply → Reply → Type 0
ServedAs told y = (told ≡ Some (served y)) ⊎ (served y ≡ NoMemory)

reply_dims : (g : ℕ → Option File) (f : ℕ → Option File) (o q : Option PageEntry) (a : Access) (i : ℕ) (y : Reply) → Dims o q → entry_reply f o a i ≡ Some y
    → ServedAs (entry_reply g q a i) y
reply_dims g f None q a i y d h =
    let told : Segv MapErr ≡ y = some_same (Segv MapErr) y h in
    inl (ap (λ (p : Option PageEntry). entry_reply g p a i) d ∙ ap (λ (z : Reply). Some (served z)) told)
reply_dims g f (Some e) q a i y d h = by (is_allowed e.prot a) refl h
  where
    z : PageEntry
    z = d.0

    here : entry_reply g q a i ≡ entry_reply g (Some z) a i
    here = ap (λ (p : Option PageEntry). entry_reply g p a i) d.1

    allows : (b : Bool) → is_allowed e.prot a ≡ b → is_allowed z.prot a ≡ b
    allows b is = ap (λ (p : Prot). is_allowed p a) d.2 ∙ is

    has_bytes : (c : Bool) (bytes : Option Bytes) → is_allowed e.prot a ≡ true → bytes_reply c bytes a i ≡ Some y → ServedAs (entry_reply g q a i) y
    has_bytes c None is k = let told : Bus ≡ y = some_same Bus y k in inr (ap served (sym told))
    has_bytes true (Some bytes) is k = absurd cc
    has_bytes false (Some bytes) is k =
        let told : byte_reply a (bytes i) ≡ y = some_same (byte_reply a (bytes i)) y k in
        let left : byte_reply a 0 ≡ served y = sym (served_byte a (bytes i)) ∙ ap served told in
        inl (here ∙ (zero_reply g z a i d.3 (allows true is) ∙ ap Some left))

    by : (b : Bool) → is_allowed e.prot a ≡ b
        → (if b then bytes_reply (needs_copy a e.back e.own) (bytes_of f e.back e.own) a i else Some (Segv AccErr)) ≡ Some y
        → ServedAs (entry_reply g q a i) y
    by true is k = has_bytes (needs_copy a e.back e.own) (bytes_of f e.back e.own) is k
    by false is k =
        let told : Segv AccErr ≡ y = some_same (Segv AccErr) y k in
        let refused : entry_reply g (Some z) a i ≡ Some (Segv AccErr) =
        ap (λ (b : Bool). if b then bytes_reply (needs_copy a z.back z.own) (bytes_of g z.back z.own) a i else Some (Segv AccErr)) (allows false is) in
        inl (here ∙ (refused ∙ ap (λ (w : Reply). Some (served w)) told))

access_dims : (t s : Plain) (addr : ℕ) (a : Access) (y : Reply) → Dimmed t s → access_reply t addr a ≡ Some y → ServedAs (access_reply s addr a) y
access_dims t s addr a y same h = go (is_page (page_of addr)) h
  where
    go : (b : Bool) → (if b then entry_reply t.file (t.entry (page_of addr)) a (offset_of addr) else Some (Segv MapErr)) ≡ Some y
        → ServedAs (if b then entry_reply s.file (s.entry (page_of addr)) a (offset_of addr) else Some (Segv MapErr)) y
    go true k = reply_dims s.file t.file (t.entry (page_of addr)) (s.entry (page_of addr)) a (offset_of addr) y (same (page_of addr)) k
    go false k = let told : Segv MapErr ≡ y = some_same (Segv MapErr) y k in inl (ap (λ (z : Reply). Some (served z)) told)

-- a store of whatever byte, and one of 0
zero_put : (z : Bytes) (i : ℕ) → ((n : ℕ) → z n ≡ 0) → (n : ℕ) → put z i 0 n ≡ 0
zero_put z i zero n = go (n == i)
  where
    go : (b : Bool) → cond b 0 (z n) ≡ 0
    go true = refl
    go false = zero n

stored_left : (t s : Plain) (page i byte : ℕ) (e : PageEntry) (own : Option Bytes) → t.entry page ≡ Some e → Dimmed t s
    → Dimmed (stored_own t page e own i byte) s
stored_left t s page i byte e (Some own) at same = put_dims t.entry s.entry page e (record e { own = Some (put own i byte) }) at refl same
stored_left t s page i byte e None at same = go e.back
  where
    go : (back : Back) → Dimmed (stored_back t back i byte) s
    go Anon = same
    go (Shared file k) = same
    go (Private file k) = same

-- an access leaves all pages their rights
pub accessed_left : (t s : Plain) (addr byte : ℕ) (y : Reply) → Dimmed t s → Dimmed (accessed t addr byte y) s
accessed_left t s addr byte Done same = go (t.entry (page_of addr)) refl
  where
    go : (o : Option PageEntry) → t.entry (page_of addr) ≡ o → Dimmed (stored_entry t (page_of addr) o (offset_of addr) byte) s
    go None e = same
    go (Some en) e = stored_left t s (page_of addr) (offset_of addr) byte en en.own e same
accessed_left t s addr byte (Mapped at) same = same
accessed_left t s addr byte (Byte b) same = same
accessed_left t s addr byte (Refused e) same = same
accessed_left t s addr byte (Segv code) same = same
accessed_left t s addr byte Bus same = same
accessed_left t s addr byte NoFrame same = same
accessed_left t s addr byte NoMemory same = same

stored_right : (t s : Plain) (page i : ℕ) (f : PageEntry) → s.entry page ≡ Some f → IsZero f → Dimmed t s → Dimmed t (stored_own s page f f.own i 0)
stored_right t s page i f at zero same =
    subst (λ (own : Option Bytes). Dimmed t (stored_own s page f own i 0)) (sym zero.own)
    (put_zero t.entry s.entry page f (record f { own = Some (put zero.bytes i 0) }) at refl (record {
      anon = zero.anon;
      bytes = put zero.bytes i 0;
      own = refl;
      zero = zero_put zero.bytes i zero.zero;
    }) same)

stored_dims : (t s : Plain) (page i byte : ℕ) → Dimmed t s
    → Dimmed (stored_entry t page (t.entry page) i byte) (stored_entry s page (s.entry page) i 0)
stored_dims t s page i byte same = go (t.entry page) refl (same page)
  where
    go : (o : Option PageEntry) → t.entry page ≡ o → Dims o (s.entry page) → Dimmed (stored_entry t page o i byte) (stored_entry s page (s.entry page) i 0)
    go None e d = subst (λ (q : Option PageEntry). Dimmed t (stored_entry s page q i 0)) (sym d) same
    go (Some en) e d =
        subst (λ (q : Option PageEntry). Dimmed (stored_own t page en en.own i byte) (stored_entry s page q i 0)) (sym d.1)
        (stored_right (stored_own t page en en.own i byte) s page i d.0 d.1 d.3 (stored_left t s page i byte en en.own e same))

accessed_dims : (t s : Plain) (addr byte : ℕ) (y : Reply) → Dimmed t s → Dimmed (accessed t addr byte y) (accessed s addr 0 (served y))
accessed_dims t s addr byte Done same = stored_dims t s (page_of addr) (offset_of addr) byte same
accessed_dims t s addr byte (Mapped at) same = same
accessed_dims t s addr byte (Byte b) same = same
accessed_dims t s addr byte (Refused e) same = same
accessed_dims t s addr byte (Segv code) same = same
accessed_dims t s addr byte Bus same = same
accessed_dims t s addr byte NoFrame same = same
accessed_dims t s addr byte NoMemory same = same

-- an access, which is served alike
record IsAccessOf (rule : PlaceRule) (s : Plain) (core addr : ℕ) (r q : Request) (a : Access) (byte : ℕ) : Type 0 where
  to : (y : Reply) (m n : Plain) → Applies rule m core r y n → Accesses m addr a byte y n
  from : (y : Reply) (m n : Plain) → Accesses m addr a 0 y n → Applies rule m core q y n
  none : (y : Reply) → page_copied s q y ≡ None

access_left : (rule : PlaceRule) (t s u : Plain) (core addr : ℕ) (r q : Request) (y : Reply) (a : Access) (byte : ℕ)
    → IsAccessOf rule s core addr r q a byte → y ≢ NoMemory → y ≢ NoFrame → served y ≢ NoMemory → served y ≢ NoFrame → Dimmed t s
    → RepliesBy rule t core r y u → Left rule s u core q (served y)
access_left rule t s u core addr r q y a byte is memory frame memory2 frame2 same h =
    by (access_dims m s addr a y dims done.0)
  where
    m : Plain
    m = with_copy t (page_copied t r y)

    dims : Dimmed m s
    dims = copy_dims t s r y same

    done : Accesses m addr a byte y u
    done = is.to y m u (reply_answers rule t u core r y memory frame h)

    v : Plain
    v = accessed s addr 0 (served y)

    by : ServedAs (access_reply s addr a) y → Left rule s u core q (served y)
    by (inl e) =
        let back : Answers rule s core q (served y) v =
        subst (λ (o : Option ℕ). Applies rule (with_copy s o) core q (served y) v) (sym (is.none (served y))) (is.from (served y) s v (e, refl)) in (
          v,
          answers_reply rule s v core q (served y) memory2 frame2 back,
          subst (λ (n : Plain). Dimmed n v) (sym done.1)
              (accessed_dims m s addr byte y dims),
        )
    by (inr e) = absurd (memory2 e)

-- one that isn't served
abbrev Untold : Reply → Type 0
Untold y = (t : Plain) (addr byte : ℕ) → accessed t addr byte y ≡ t

untold_left : (rule : PlaceRule) (t s u : Plain) (core addr : ℕ) (r q : Request) (y : Reply) (a : Access) (byte : ℕ)
    → IsAccessOf rule s core addr r q a byte → y ≢ NoMemory → y ≢ NoFrame → Untold y → Dimmed t s → RepliesBy rule t core r y u
    → Left rule s u core q NoMemory
untold_left rule t s u core addr r q y a byte is memory frame untold same h =
    unchanged rule t s u core r q y memory frame (λ m g. (is.to y m u g).1 ∙ untold m addr byte) same h

accesses_left : (rule : PlaceRule) (t s u : Plain) (core addr : ℕ) (r q : Request) (y : Reply) (a : Access) (byte : ℕ)
    → IsAccessOf rule s core addr r q a byte → Dimmed t s → RepliesBy rule t core r y u → Left rule s u core q (served y)
accesses_left rule t s u core addr r q (Byte b) a byte is same h =
    access_left rule t s u core addr r q (Byte b) a byte is (λ z. absurd cc) (λ z. absurd cc) (λ z. absurd cc) (λ z. absurd cc) same h
accesses_left rule t s u core addr r q Done a byte is same h =
    access_left rule t s u core addr r q Done a byte is (λ z. absurd cc) (λ z. absurd cc) (λ z. absurd cc) (λ z. absurd cc) same h
accesses_left rule t s u core addr r q (Segv code) a byte is same h =
    access_left rule t s u core addr r q (Segv code) a byte is (λ z. absurd cc) (λ z. absurd cc) (λ z. absurd cc) (λ z. absurd cc) same h
accesses_left rule t s u core addr r q (Mapped at) a byte is same h =
    untold_left rule t s u core addr r q (Mapped at) a byte is (λ z. absurd cc) (λ z. absurd cc) (λ m n k. refl) same h
accesses_left rule t s u core addr r q (Refused e) a byte is same h =
    untold_left rule t s u core addr r q (Refused e) a byte is (λ z. absurd cc) (λ z. absurd cc) (λ m n k. refl) same h
accesses_left rule t s u core addr r q Bus a byte is same h =
    untold_left rule t s u core addr r q Bus a byte is (λ z. absurd cc) (λ z. absurd cc) (λ m n k. refl) same h
accesses_left rule t s u core addr r q NoFrame a byte is same h = (s, refl, subst (λ (n : Plain). Dimmed n s) (sym h.1) same)
accesses_left rule t s u core addr r q NoMemory a byte is same h = (s, refl, subst (λ (n : Plain). Dimmed n s) (sym h) same)

-- ---- ranges

pub across_dims : (r : PageRange) (t s : Plain) (f g : ℕ → Option PageEntry) → ((x : ℕ) → Dims (f x) (g x)) → Dimmed t s → (x : ℕ)
    → Dims (across t.entry (has r) f x) (across s.entry (has r) g x)
across_dims r t s f g new same x = go (has r x)
  where
    go : (b : Bool) → Dims (cond b (f x) (t.entry x)) (cond b (g x) (s.entry x))
    go true = new x
    go false = same x

-- a change whose refusal depends on no file
abbrev Changes : PlaceRule → Option Reply → ℕ → Request → Type 0
Changes rule o core r = (t s u : Plain) → Dimmed t s → AppliesAfter rule o t core r Done u → (v : Plain) × AppliesAfter rule o s core r Done v × Dimmed u v

refused_change : (rule : PlaceRule) (core : ℕ) (r : Request) (refused : Reply) → Changes rule (Some refused) core r
refused_change rule core r refused t s u same h = (s, (h.0, refl), subst (λ (n : Plain). Dimmed n s) (sym h.1) same)

munmap_change : (rule : PlaceRule) (core addr len : ℕ) (o : Option Reply) → Changes rule o core (Munmap addr len)
munmap_change rule core addr len (Some refused) t s u same h = refused_change rule core (Munmap addr len) refused t s u same h
munmap_change rule core addr len None t s u same h =
    let r = pages_of addr len in
    let v : Plain = after_unmapping s r in
    (v, (refl, refl), subst (λ (n : Plain). Dimmed n v) (sym h.1) (across_dims r t s (λ x. None) (λ x. None) (λ x. refl) same))

pub prot_dims : (prot : Prot) (o q : Option PageEntry) → Dims o q → Dims (with_prot prot o) (with_prot prot q)
prot_dims prot None q d = subst (λ (p : Option PageEntry). Dims None (with_prot prot p)) (sym d) refl
prot_dims prot (Some e) q d =
    subst (λ (p : Option PageEntry). Dims (Some (record e { prot = prot })) (with_prot prot p)) (sym d.1)
    (record d.0 { prot = prot }, refl, refl, record { anon = d.3.anon; bytes = d.3.bytes; own = d.3.own; zero = d.3.zero })

absent_dims : (o q : Option PageEntry) → Dims o q → is_absent q ≡ true → is_absent o ≡ true
absent_dims None q d e = refl
absent_dims (Some en) q d e = let wrong : is_absent (Some d.0) ≡ true = subst (λ (p : Option PageEntry). is_absent p ≡ true) d.1 e in absurd cc

protects_dims : (t s u : Plain) (r : PageRange) (prot : Prot) → Dimmed t s → Protects t r prot Done u → (v : Plain) × Protects s r prot Done v × Dimmed u v
protects_dims t s u r prot same (Protects.no_page has_none y e) = absurd cc
protects_dims t s u r prot same (Protects.no_write all w has_ro y e) = absurd cc
protects_dims t s u r prot same (Protects.done all ro y e) = (
  after_protecting s r prot,
  Protects.done (λ found. none found) (λ w found. writable found) refl refl,
  subst (λ (x : Plain). Dimmed x (after_protecting s r prot)) (sym e)
      (across_dims r t s (λ x. with_prot prot (t.entry x)) (λ x. with_prot prot (s.entry x)) (λ x. prot_dims prot (t.entry x) (s.entry x) (same x)) same),
)
  where
    none : HasPage is_absent s.entry r → ⊥
    none found = all (found.0, found.1, absent_dims (t.entry found.0) (s.entry found.0) (same found.0) found.2)

    writable : HasPage (is_read_only s.file) s.entry r → ⊥
    writable found =
        let anon = read_only_anon s.file (s.entry found.0) (dims_anon (t.entry found.0) (s.entry found.0) (same found.0)) in
        let wrong : false ≡ true = sym anon ∙ found.2 in absurd cc

mprotect_change : (rule : PlaceRule) (core addr len : ℕ) (prot : Prot) (o : Option Reply) → Changes rule o core (Mprotect addr len prot)
mprotect_change rule core addr len prot (Some refused) t s u same h = refused_change rule core (Mprotect addr len prot) refused t s u same h
mprotect_change rule core addr len prot None t s u same h = protects_dims t s u (pages_of addr len) prot same h

-- ---- mappings

if_not : (at : ℕ) (b : Bool) (e : Errno) (rest : Option Reply) → rest ≢ Some (Mapped at) → (if b then answer e else rest) ≢ Some (Mapped at)
if_not at true e rest never h = absurd cc
if_not at false e rest never h = never h

file_not_mapped : (at : ℕ) (mode : Option Mode) (len : ℕ) (prot : Prot) (flags : Flags) (off : ℕ) → file_refusal mode len prot flags off ≢ Some (Mapped at)
file_not_mapped at None len prot flags off h = absurd cc
file_not_mapped at (Some mode) len prot flags off h =
    if_not at _ EOVERFLOW _ (if_not at _ EACCES _ (if_not at _ EACCES None (λ z. absurd cc))) h

-- no refusal says that something was mapped
not_mapped : (modes : ℕ → Option Mode) (addr len : ℕ) (prot : Prot) (flags : Flags) (file off at : ℕ)
    → mmap_refusal modes addr len prot flags file off ≢ Some (Mapped at)
not_mapped modes addr len prot flags file off at h =
    if_not at (len == 0) EINVAL _
    (if_not at (not (is_one_kind flags)) EINVAL _
    (if_not at (not flags.anon && not (is_aligned off)) EINVAL _
    (if_not at (flags.fixed && not (is_aligned addr)) EINVAL _
    (if_not at (flags.fixed && not (are_pages (pages_of addr len))) ENOMEM _ last))))
    h
  where
    last : (if flags.anon then None else file_refusal (modes file) len prot flags off) ≢ Some (Mapped at)
    last e = go flags.anon e
      where
        go : (b : Bool) → (if b then None else file_refusal (modes file) len prot flags off) ≢ Some (Mapped at)
        go true k = absurd cc
        go false k = file_not_mapped at (modes file) len prot flags off k

-- a mapping begins at a page
starts_page : (rule : PlaceRule) (fixed : Bool) (t u : Plain) (core addr len at : ℕ) (back : Back) (prot : Prot)
    → MapsAt rule fixed t (record { core = core; addr = addr; len = len; meta = record { back = back; prot = prot } }) (Mapped at) u
    → (n : ℕ) × (at ≡ n * 4096)
starts_page rule true t u core addr len at back prot h =
    let told : Mapped at ≡ Mapped ((pages_of addr len).first * 4096) = h.0 in ((pages_of addr len).first, cc)
starts_page rule false t u core addr len at back prot h = go h.0 h.2
  where
    go : (place : Option ℕ) → Maps t (range_at place (page_count len)) back prot (Mapped at) u → (n : ℕ) × (at ≡ n * 4096)
    go None m = let wrong : Mapped at ≡ Refused ENOMEM = m.0 in absurd cc
    go (Some first) m = let told : Mapped at ≡ Mapped (first * 4096) = m.0 in (first, cc)

mmap_left : (rule : PlaceRule) (t s u : Plain) (core addr len : ℕ) (prot : Prot) (flags : Flags) (file off at : ℕ) → FitsAt addr len prot flags at
    → Dimmed t s → RepliesBy rule t core (Mmap addr len prot flags file off) (Mapped at) u → Left rule s u core (mapping_left at len prot flags) (Mapped at)
mmap_left rule t s u core addr len prot flags file off at fits same h =
    by (mmap_refusal (λ k. mode_of (t.file k)) addr len prot flags file off) refl h
  where
    r : PageRange
    r = pages_of at len

    back : Back
    back = back_at flags file off

    v : Plain
    v = after_mapping s r Anon prot

    passed : refusal (λ k. mode_of (s.file k)) (mapping_left at len prot flags) ≡ None
    passed = refusal_same (λ k. mode_of (s.file k)) (λ k. None) at len prot (fixed_anon flags) 0 0 refl ∙ fits.passed

    replied : (n : ℕ) → at ≡ n * 4096 → Mapped at ≡ Mapped (r.first * 4096)
    replied n e =
        let page : (n * 4096) / 4096 ≡ n = omega arith in
        let found : at / 4096 ≡ n = ap (λ (x : ℕ). x / 4096) e ∙ page in
        ap Mapped (e ∙ ap (λ (x : ℕ). x * 4096) (sym found))

    new : (x : ℕ) → Dims (Some (new_entry (advance_back back (x - r.first)) prot)) (Some (new_entry (advance_back Anon (x - r.first)) prot))
    new x = (new_entry Anon prot, refl, refl, record { anon = refl; bytes = zeros; own = refl; zero = λ i. refl })

    by : (o : Option Reply) → mmap_refusal (λ k. mode_of (t.file k)) addr len prot flags file off ≡ o
        → AppliesAfter rule o t core (Mmap addr len prot flags file off) (Mapped at) u → Left rule s u core (mapping_left at len prot flags) (Mapped at)
    by (Some refused) e g =
        absurd (not_mapped (λ k. mode_of (t.file k)) addr len prot flags file off at (e ∙ ap Some (sym g.0)))
    by None e g =
        let start = starts_page rule flags.fixed t u core addr len at back prot g in
        let put = maps_put rule flags.fixed t u core addr len at back prot g in
        let there : u ≡ after_mapping t r back prot = put ∙ ap (λ (p : PageRange). after_mapping t p back prot) (sym fits.place) in (
          v,
          subst (λ (o : Option Reply). AppliesAfter rule o s core (mapping_left at len prot flags) (Mapped at) v) (sym passed)
              (replied start.0 start.1, refl),
          subst (λ (n : Plain). Dimmed n v) (sym there)
              (across_dims r t s (λ x. Some (new_entry (advance_back back (x - r.first)) prot)) (λ x. Some (new_entry (advance_back Anon (x - r.first)) prot))
              new same),
        )

-- ---- any call

change_left : (rule : PlaceRule) (t s u : Plain) (core : ℕ) (r : Request) (o : Option Reply) → Changes rule o core r → Dimmed t s
    → AppliesAfter rule o t core r Done u → (v : Plain) × AppliesAfter rule o s core r Done v × Dimmed u v
change_left rule t s u core r o changes same h = changes t s u same h

-- a change that wasn't done
undone : (rule : PlaceRule) (t u : Plain) (core : ℕ) (r : Request) (y : Reply) → (Performs rule t core r y u → u ≡ t) → (o : Option Reply)
    → AppliesAfter rule o t core r y u → u ≡ t
undone rule t u core r y never None h = never h
undone rule t u core r y never (Some refused) h = h.1

no_munmap : (t u : Plain) (r : PageRange) (y : Reply) → y ≢ Done → (y ≡ Done) × (u ≡ after_unmapping t r) → u ≡ t
no_munmap t u r y never h = absurd (never h.0)

munmap_undone : (rule : PlaceRule) (t s u : Plain) (core addr len : ℕ) (y : Reply) → y ≢ Done → y ≢ NoMemory → y ≢ NoFrame → Dimmed t s
    → RepliesBy rule t core (Munmap addr len) y u → Left rule s u core (Munmap addr len) NoMemory
munmap_undone rule t s u core addr len y never memory frame same h =
    unchanged rule t s u core (Munmap addr len) (Munmap addr len) y memory frame
    (λ m g. undone rule m u core (Munmap addr len) y (λ k. no_munmap m u (pages_of addr len) y never k) (munmap_refusal addr len) g) same h

no_mprotect : (t u : Plain) (r : PageRange) (prot : Prot) (y : Reply) → y ≢ Done → Protects t r prot y u → u ≡ t
no_mprotect t u r prot y never (Protects.no_page a e f) = f
no_mprotect t u r prot y never (Protects.no_write a w b e f) = f
no_mprotect t u r prot y never (Protects.done a b e f) = absurd (never e)

mprotect_undone : (rule : PlaceRule) (t s u : Plain) (core addr len : ℕ) (prot : Prot) (y : Reply) → y ≢ Done → y ≢ NoMemory → y ≢ NoFrame → Dimmed t s
    → RepliesBy rule t core (Mprotect addr len prot) y u → Left rule s u core (Mprotect addr len prot) NoMemory
mprotect_undone rule t s u core addr len prot y never memory frame same h =
    unchanged rule t s u core (Mprotect addr len prot) (Mprotect addr len prot) y memory frame
    (λ m g. undone rule m u core (Mprotect addr len prot) y (λ k. no_mprotect m u (pages_of addr len) prot y never k) (mprotect_refusal addr len) g) same h

no_mmap : (rule : PlaceRule) (fixed : Bool) (t u : Plain) (asked : NewMapping) (y : Reply) → ((at : ℕ) → y ≢ Mapped at) → MapsAt rule fixed t asked y u → u ≡ t
no_mmap rule fixed t u asked y never h = by fixed h
  where
    at : (r : Option PageRange) → Maps t r asked.meta.back asked.meta.prot y u → u ≡ t
    at None m = m.1
    at (Some r) m = absurd (never (r.first * 4096) m.0)

    by : (b : Bool) → MapsAt rule b t asked y u → u ≡ t
    by true m = at (Some (pages_of asked.addr asked.len)) m
    by false m = at (range_at m.0 (page_count asked.len)) m.2

mmap_undone : (rule : PlaceRule) (t s u : Plain) (core addr len : ℕ) (prot : Prot) (flags : Flags) (file off : ℕ) (y : Reply) → ((at : ℕ) → y ≢ Mapped at)
    → y ≢ NoMemory → y ≢ NoFrame → Dimmed t s → RepliesBy rule t core (Mmap addr len prot flags file off) y u
    → Left rule s u core (Mmap addr len prot flags file off) NoMemory
mmap_undone rule t s u core addr len prot flags file off y never memory frame same h =
    unchanged rule t s u core q q y memory frame keeps same h
  where
    q : Request
    q = Mmap addr len prot flags file off

    keeps : (m : Plain) → Applies rule m core q y u → u ≡ m
    keeps m g =
        undone rule m u core q y
        (λ k. no_mmap rule flags.fixed m u (record { core = core; addr = addr; len = len; meta = meta_of prot flags file off }) y never k)
        (mmap_refusal (λ k. mode_of (m.file k)) addr len prot flags file off) g

munmap_left : (rule : PlaceRule) (t s u : Plain) (core addr len : ℕ) (y : Reply) → Dimmed t s → RepliesBy rule t core (Munmap addr len) y u
    → Left rule s u core (Munmap addr len) (if_done y)
munmap_left rule t s u core addr len Done same h = munmap_change rule core addr len (munmap_refusal addr len) t s u same h
munmap_left rule t s u core addr len NoMemory same h = (s, refl, subst (λ (n : Plain). Dimmed n s) (sym h) same)
munmap_left rule t s u core addr len NoFrame same h = absurd h.0
munmap_left rule t s u core addr len (Mapped at) same h =
    munmap_undone rule t s u core addr len (Mapped at) (λ z. absurd cc) (λ z. absurd cc) (λ z. absurd cc) same h
munmap_left rule t s u core addr len (Byte b) same h =
    munmap_undone rule t s u core addr len (Byte b) (λ z. absurd cc) (λ z. absurd cc) (λ z. absurd cc) same h
munmap_left rule t s u core addr len (Refused e) same h =
    munmap_undone rule t s u core addr len (Refused e) (λ z. absurd cc) (λ z. absurd cc) (λ z. absurd cc) same h
munmap_left rule t s u core addr len (Segv code) same h =
    munmap_undone rule t s u core addr len (Segv code) (λ z. absurd cc) (λ z. absurd cc) (λ z. absurd cc) same h
munmap_left rule t s u core addr len Bus same h =
    munmap_undone rule t s u core addr len Bus (λ z. absurd cc) (λ z. absurd cc) (λ z. absurd cc) same h

mprotect_left : (rule : PlaceRule) (t s u : Plain) (core addr len : ℕ) (prot : Prot) (y : Reply) → Dimmed t s
    → RepliesBy rule t core (Mprotect addr len prot) y u → Left rule s u core (Mprotect addr len prot) (if_done y)
mprotect_left rule t s u core addr len prot Done same h = mprotect_change rule core addr len prot (mprotect_refusal addr len) t s u same h
mprotect_left rule t s u core addr len prot NoMemory same h = (s, refl, subst (λ (n : Plain). Dimmed n s) (sym h) same)
mprotect_left rule t s u core addr len prot NoFrame same h = absurd h.0
mprotect_left rule t s u core addr len prot (Mapped at) same h =
    mprotect_undone rule t s u core addr len prot (Mapped at) (λ z. absurd cc) (λ z. absurd cc) (λ z. absurd cc) same h
mprotect_left rule t s u core addr len prot (Byte b) same h =
    mprotect_undone rule t s u core addr len prot (Byte b) (λ z. absurd cc) (λ z. absurd cc) (λ z. absurd cc) same h
mprotect_left rule t s u core addr len prot (Refused e) same h =
    mprotect_undone rule t s u core addr len prot (Refused e) (λ z. absurd cc) (λ z. absurd cc) (λ z. absurd cc) same h
mprotect_left rule t s u core addr len prot (Segv code) same h =
    mprotect_undone rule t s u core addr len prot (Segv code) (λ z. absurd cc) (λ z. absurd cc) (λ z. absurd cc) same h
mprotect_left rule t s u core addr len prot Bus same h =
    mprotect_undone rule t s u core addr len prot Bus (λ z. absurd cc) (λ z. absurd cc) (λ z. absurd cc) same h

mapping_goes : (rule : PlaceRule) (t s u : Plain) (core addr len : ℕ) (prot : Prot) (flags : Flags) (file off : ℕ) (y : Reply)
    → Fits (Mmap addr len prot flags file off) y → Dimmed t s → RepliesBy rule t core (Mmap addr len prot flags file off) y u
    → Left rule s u core (request_left (Mmap addr len prot flags file off) y) (reply_left (Mmap addr len prot flags file off) y)
mapping_goes rule t s u core addr len prot flags file off (Mapped at) fits same h = mmap_left rule t s u core addr len prot flags file off at fits same h
mapping_goes rule t s u core addr len prot flags file off NoMemory fits same h = (s, refl, subst (λ (n : Plain). Dimmed n s) (sym h) same)
mapping_goes rule t s u core addr len prot flags file off NoFrame fits same h = absurd h.0
mapping_goes rule t s u core addr len prot flags file off Done fits same h =
    mmap_undone rule t s u core addr len prot flags file off Done (λ at z. absurd cc) (λ z. absurd cc) (λ z. absurd cc) same h
mapping_goes rule t s u core addr len prot flags file off (Byte b) fits same h =
    mmap_undone rule t s u core addr len prot flags file off (Byte b) (λ at z. absurd cc) (λ z. absurd cc) (λ z. absurd cc) same h
mapping_goes rule t s u core addr len prot flags file off (Refused e) fits same h =
    mmap_undone rule t s u core addr len prot flags file off (Refused e) (λ at z. absurd cc) (λ z. absurd cc) (λ z. absurd cc) same h
mapping_goes rule t s u core addr len prot flags file off (Segv code) fits same h =
    mmap_undone rule t s u core addr len prot flags file off (Segv code) (λ at z. absurd cc) (λ z. absurd cc) (λ z. absurd cc) same h
mapping_goes rule t s u core addr len prot flags file off Bus fits same h =
    mmap_undone rule t s u core addr len prot flags file off Bus (λ at z. absurd cc) (λ z. absurd cc) (λ z. absurd cc) same h

request_goes : (rule : PlaceRule) (t s u : Plain) (core : ℕ) (r : Request) (y : Reply) → Fits r y → Dimmed t s → RepliesBy rule t core r y u
    → Left rule s u core (request_left r y) (reply_left r y)
request_goes rule t s u core (Load addr) y fits same h =
    accesses_left rule t s u core addr (Load addr) (Load addr) y By.Load 0
    (record { to = λ z m n a. a; from = λ z m n a. a; none = λ z. no_copy_load s addr z }) same h
request_goes rule t s u core (Fetch addr) y fits same h =
    accesses_left rule t s u core addr (Fetch addr) (Fetch addr) y By.Fetch 0
    (record { to = λ z m n a. a; from = λ z m n a. a; none = λ z. no_copy_fetch s addr z }) same h
request_goes rule t s u core (Store addr byte) y fits same h =
    accesses_left rule t s u core addr (Store addr byte) (Store addr 0) y By.Store byte
    (record { to = λ z m n a. a; from = λ z m n a. a; none = λ z. no_copy s addr 0 z (dims_anon (t.entry (page_of addr)) (s.entry (page_of addr)) (same (page_of addr))) })
    same h
request_goes rule t s u core (Munmap addr len) y fits same h = munmap_left rule t s u core addr len y same h
request_goes rule t s u core (Mprotect addr len prot) y fits same h = mprotect_left rule t s u core addr len prot y same h
request_goes rule t s u core (Mmap addr len prot flags file off) y fits same h = mapping_goes rule t s u core addr len prot flags file off y fits same h

pub call_goes : (rule : PlaceRule) (t s u : Plain) (c : Call) → Fits c.request c.reply → Dimmed t s → RepliesBy rule t c.core c.request c.reply u
    → (v : Plain) × RepliesBy rule s (byteless c).core (byteless c).request (byteless c).reply v × Dimmed u v
call_goes rule t s u c fits same h = request_goes rule t s u c.core c.request c.reply fits same h
