-- The entry that a step logs is a turn of the call that it is of
use Rattle.machine_model.proofs.Words.{◌≡◌, ◌≢◌, ℕ, ◌++◌, ◌∷◌, [], Bool, true, false, cond, List, Option, Some, None, refl, sym, ◌∙◌, ap, subst}
use Rattle.machine_model.proofs.Words.{arith, if◌then◌else◌}
use Rattle.machine_model.proofs.Words.{nth, Plain, Entry, Detach, EntryLeads, Replays, Reply, Done, NoFrame, NoMemory, Request, World, IsPlace}
use Rattle.machine_model.proofs.Words.{Stands, Access, PageInfo, IsPage}
use Rattle.vm_base.specs.declared.log.Entry.TheVariants.{Answer}
use Rattle.vm_base.specs.declared.replies.Reply.TheVariants as ReplyOf
use Rattle.vm_base.specs.declared.requests.Request.TheVariants as RequestOf
use Rattle.vm_base.specs.declared.rights.Access.TheVariants.{Store}
use Rattle.vm_base.specs.declared.replies.SegvCode.TheVariants.{AccErr, MapErr}
use Rattle.vm_base.specs.Answers.{is_ready}
use Rattle.vm_base.specs.Apply.{Applies, access_reply, bytes_reply, copied, detached, detached_entry, entry_reply, is_uncopied}
use Rattle.vm_base.specs.Copies.{if_copied, or_else, page_due, with_copy}
use Rattle.vm_base.specs.Log.{CanAccess}
use Rattle.vm_base.specs.Pages.{is_page, offset_of, page_of}
use Rattle.vm_base.specs.Plain.{Bytes, PageEntry, bytes_of, nothing_mapped}
use Rattle.vm_base.specs.Rights.{is_allowed}
use Rattle.std.proofs.lemmas.Bool.Decides.{nat_tests}
use Rattle.std.proofs.Common.{is_some, ◌^◌, ◌<◌, ◌≤◌}
use Rattle.machine_model.specs.Brackets.{IsStoreTo}
use Rattle.machine_model.specs.Orderly.{BelongsTo}
use Rattle.machine_model.specs.World.{Memory}
use Rattle.machine_model.specs.Invariant.{IsWellFormed, ShowsPage}
use Rattle.machine_model.specs.Log.{LeadsTo}
use Rattle.machine_model.proofs.OneMap.{log_leads_to_one}
use Rattle.litmus_merges.specs.OneTurn.{TurnsTo}

-- a log with one entry more
last_entry : (rs : List Request) (es : List Entry) (e : Entry) (t u : Plain) → Replays rs t (es ++ e ∷ []) u → (m : Plain) × Replays rs t es m × EntryLeads rs m e u
last_entry rs [] e t u r = (t, refl, subst (EntryLeads rs t e) (sym r.2) r.1)
last_entry rs (x ∷ es) e t u r =
    let rest = last_entry rs es e r.0 u r.2 in
    (rest.0, (r.0, r.1, rest.1), rest.2)

-- the map that the entry leaves
pub entry_leads : (w v : World) (t : Plain) (e : Entry) → LeadsTo w t → IsWellFormed v → v.made ≡ w.made → v.calls.requests ≡ w.calls.requests
    → v.calls.log ≡ w.calls.log ++ e ∷ [] → (u : Plain) × LeadsTo v u × EntryLeads w.calls.requests t e u
entry_leads w v t e leads well made requests log =
    let all : Replays w.calls.requests (nothing_mapped w.made.file) (w.calls.log ++ e ∷ []) well.plain =
    subst (λ l. Replays w.calls.requests (nothing_mapped w.made.file) l well.plain) log
    (subst (λ m. Replays w.calls.requests (nothing_mapped m) v.calls.log well.plain) (ap (λ m. m.file) made)
    (subst (λ r. Replays r (nothing_mapped v.made.file) v.calls.log well.plain) requests well.log)) in
    let last = last_entry w.calls.requests w.calls.log e (nothing_mapped w.made.file) well.plain all in
    let same = log_leads_to_one w.calls.requests w.calls.log (nothing_mapped w.made.file) last.0 t last.1 leads in
    (well.plain, well.log, subst (λ m. EntryLeads w.calls.requests m e well.plain) same last.2)

-- a reply
plainly : (t : Plain) (core : ℕ) (q : Request) (y : Reply) (u : Plain) → y ≢ NoFrame → y ≢ NoMemory → Stands IsPlace t core q y u → Applies IsPlace t core q y u
plainly t core q (ReplyOf.Mapped a) u f m h = h
plainly t core q ReplyOf.Done u f m h = h
plainly t core q (ReplyOf.Byte b) u f m h = h
plainly t core q (ReplyOf.Refused e) u f m h = h
plainly t core q (ReplyOf.Segv c) u f m h = h
plainly t core q ReplyOf.Bus u f m h = h
plainly t core q ReplyOf.NoFrame u f m h = absurd (f refl)
plainly t core q ReplyOf.NoMemory u f m h = absurd (m refl)

pub answer_turns : (rs : List Request) (t u : Plain) (step call core : ℕ) (q : Request) (y : Reply) → nth rs call ≡ Some q → y ≢ NoFrame → y ≢ NoMemory
    → EntryLeads rs t (Answer step call core y) u → TurnsTo t core q (Some y) u
answer_turns rs t u step call core q y asked f m h =
    let theirs : nth rs call ≡ Some h.0 = h.1 in
    let same : h.0 ≡ q = cc in
    plainly t core q y u f m (subst (λ r. Stands IsPlace t core r y u) same h.2)

-- ---- a copy

-- a mapped page is a valid one
pub valid : (w : World) → IsWellFormed w → (t : Plain) → LeadsTo w t → (p : ℕ) → is_some (t.entry p) ≡ true → IsPage p
valid w well t leads p some =
    let same : t ≡ well.plain = log_leads_to_one w.calls.requests w.calls.log (nothing_mapped w.made.file) t well.plain leads well.log in
    let mapped : is_some (well.plain.entry p) ≡ true = subst (λ m. is_some (m.entry p) ≡ true) same some in
    (well.order.pages p).valid (shown (w.slots.info p) (well.plain.entry p) (well.good.pages p) mapped)
  where
    shown : (i : Option PageInfo) (e : Option PageEntry) → ShowsPage w.memory i e → is_some e ≡ true → is_some i ≡ true
    shown None None h s = absurd cc
    shown None (Some e) h s = absurd h
    shown (Some i) e h s = refl

-- a store whose page is copied waits
waits : (t u : Plain) (addr : ℕ) → IsPage (page_of addr) → CanAccess t.file (t.entry (page_of addr)) Store → detached t (page_of addr) ≡ Some u
    → access_reply t addr Store ≡ None
waits t u addr page can is =
    let valid' : is_page (page_of addr) ≡ true = page_test (page_of addr) page in
    ap (λ (b : Bool). if b then entry_reply t.file (t.entry (page_of addr)) Store (offset_of addr) else Some (ReplyOf.Segv MapErr)) valid'
    ∙ by (t.entry (page_of addr)) can is
  where
    page_test : (p : ℕ) → IsPage p → is_page p ≡ true
    page_test p h = let low : 1 ≤ p = h.0 in let high : p < 2 ^ 35 = h.1 in grind (arith, nat_tests)

    bytes : (e : PageEntry) (c : Bool) (b : Option Bytes) → copied t (page_of addr) e c b ≡ Some u → bytes_reply c b Store (offset_of addr) ≡ None
    bytes e true (Some b) i = refl
    bytes e true None i = absurd cc
    bytes e false (Some b) i = absurd cc
    bytes e false None i = absurd cc

    by : (o : Option PageEntry) → CanAccess t.file o Store → detached_entry t (page_of addr) o ≡ Some u → entry_reply t.file o Store (offset_of addr) ≡ None
    by None c i = absurd c
    by (Some e) c i =
        ap (λ (b : Bool). if b then bytes_reply (is_uncopied e.back e.own) (bytes_of t.file e.back e.own) Store (offset_of addr) else Some
        (ReplyOf.Segv AccErr)) c.0
        ∙ bytes e (is_uncopied e.back e.own) (bytes_of t.file e.back e.own) i

can_mapped : (t : Plain) (p : ℕ) → CanAccess t.file (t.entry p) Store → is_some (t.entry p) ≡ true
can_mapped t p = go (t.entry p)
  where
    go : (o : Option PageEntry) → CanAccess t.file o Store → is_some o ≡ true
    go None c = absurd c
    go (Some e) c = refl

pub copy_turns : (w : World) → IsWellFormed w → (t u : Plain) → LeadsTo w t → (rs : List Request) (step call page core : ℕ) (q : Request) → IsStoreTo q page
    → EntryLeads rs t (Detach step call page) u → TurnsTo t core q None u
copy_turns w well t u leads rs step call page core (RequestOf.Store addr byte) to h =
    let can : CanAccess t.file (t.entry (page_of addr)) Store = subst (λ (p : ℕ). CanAccess t.file (t.entry p) Store) (sym to) h.0 in
    let is : detached t (page_of addr) ≡ Some u = subst (λ (p : ℕ). detached t p ≡ Some u) (sym to) h.1 in (
      ap is_some (waits t u addr (valid w well t leads (page_of addr) (can_mapped t (page_of addr) can)) can is),
      sym (ap (λ (d : Option Plain). with_copy t (if_copied d (page_of addr))) is ∙ ap (or_else t) is),
    )
copy_turns w well t u leads rs step call page core (RequestOf.Mmap addr len prot flags file off) to h = absurd to
copy_turns w well t u leads rs step call page core (RequestOf.Munmap addr len) to h = absurd to
copy_turns w well t u leads rs step call page core (RequestOf.Mprotect addr len prot) to h = absurd to
copy_turns w well t u leads rs step call page core (RequestOf.Load addr) to h = absurd to
copy_turns w well t u leads rs step call page core (RequestOf.Fetch addr) to h = absurd to
