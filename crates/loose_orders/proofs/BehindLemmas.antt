-- Accesses that find what was unmapped
use Rattle.slot_lock.proofs.Words.{◌≡◌, ◌∙◌, ℕ, List, Option, Some, ap, map, refl, subst, sym, put, put_same}
use Rattle.slot_lock.proofs.Words.{PageEntry, Plain, Request, Reply, Mapped, Done, Byte, Refused, Segv, Bus, NoFrame, NoMemory, entry_reply, page_of, Prot}
use Rattle.std.proofs.lemmas.List.Elements.{All-map, All-weaker}
use Rattle.vm_base.specs.declared.info.Back.TheVariants as BackOf
use Rattle.vm_base.specs.declared.rights.Access.TheVariants as By
use Rattle.vm_base.specs.declared.requests.Request.TheVariants.{Load, Store, Fetch}
use Rattle.vm_base.specs.Apply.{Performs, accessed, stored_back, stored_entry}
use Rattle.vm_base.specs.Pages.{offset_of}
use Rattle.vm_base.specs.Places.{PlaceRule}
use Rattle.audit.specs.Placing.{rule_of}
use Rattle.audit.specs.declared.auditor.Call.{Call}
use Rattle.loose_orders.specs.declared.keeping.Kept.{Kept}
use Rattle.loose_orders.specs.declared.keeping.Was.{Was}
use Rattle.loose_orders.specs.declared.keeping.Was.TheVariants.{Own, Shared}
use Rattle.loose_orders.specs.Kept.{AllKept, FindsDue, IsKept, IsWas, kept_stored}
use Rattle.loose_orders.specs.Kernel.{FindsGone}
use Rattle.loose_orders.specs.Loose.{Loose, page_accessed, with_entry}
use Rattle.loose_orders.specs.Moved.{GoesBehind}
use Rattle.loose_orders.proofs.Accesses.{IsRead, fetch_kind, load_kind, reply_there}
use Rattle.loose_orders.proofs.LateLemmas.{HasOf, found, kept_after, owned, same_old, shown}
use Rattle.loose_orders.proofs.Maps.{entries_back, entry_back}

-- ---- one that changes nothing

stays : (rule : PlaceRule) (s : Loose) (c : Call) (of page : ℕ) (e : Option PageEntry) → s.old of page ≡ Some e
    → Performs rule (with_entry s.plain page e) c.core c.request c.reply (with_entry s.plain page e) → FindsGone rule s of page c s
stays rule s c of page e is r = record {
  entry = e;
  is_old = is;
  after = with_entry s.plain page e;
  performs = r;
  plain = sym (entry_back s.plain page e);
  old = same_old s.old of page e s.plain.entry is;
}

reads_same : (t : Plain) (addr : ℕ) (y : Reply) → IsRead y → t ≡ accessed t addr 0 y
reads_same t addr (Mapped at) k = absurd k
reads_same t addr Done k = absurd k
reads_same t addr (Byte b) k = refl
reads_same t addr (Refused e) k = absurd k
reads_same t addr (Segv code) k = refl
reads_same t addr Bus k = refl
reads_same t addr NoFrame k = absurd k
reads_same t addr NoMemory k = absurd k

pub load_behind : (t : Plain) (c : Call) (of addr : ℕ) (k : Kept) (kept : List Kept) → c.request ≡ Load addr → k.call ≡ of → k.page ≡ page_of addr
    → k.offset ≡ offset_of addr → HasOf k kept → FindsDue t.file (offset_of addr) k.was By.Load c.reply → GoesBehind of (page_of addr) t kept t kept c
load_behind t c of addr k kept is call at off has due any_place s e all =
    let rule = rule_of any_place in
    let f = found s t k kept addr By.Load c.reply e at off has all due in
    let there : Plain = with_entry s.plain (page_of addr) f.entry in (
      s,
      stays rule s c of (page_of addr) f.entry (subst (λ (i : ℕ). s.old i (page_of addr) ≡ Some f.entry) call f.is_old)
          (subst (λ (r : Request). Performs rule there c.core r c.reply there) (sym is) (
            reply_there s.plain addr f.entry By.Load c.reply f.valid f.reply,
            reads_same there addr c.reply (load_kind s.plain.file f.entry (offset_of addr) c.reply f.reply),
          )),
      e,
      all,
    )

pub fetch_behind : (t : Plain) (c : Call) (of addr : ℕ) (k : Kept) (kept : List Kept) → c.request ≡ Fetch addr → k.call ≡ of → k.page ≡ page_of addr
    → k.offset ≡ offset_of addr → HasOf k kept → FindsDue t.file (offset_of addr) k.was By.Fetch c.reply → GoesBehind of (page_of addr) t kept t kept c
fetch_behind t c of addr k kept is call at off has due any_place s e all =
    let rule = rule_of any_place in
    let f = found s t k kept addr By.Fetch c.reply e at off has all due in
    let there : Plain = with_entry s.plain (page_of addr) f.entry in (
      s,
      stays rule s c of (page_of addr) f.entry (subst (λ (i : ℕ). s.old i (page_of addr) ≡ Some f.entry) call f.is_old)
          (subst (λ (r : Request). Performs rule there c.core r c.reply there) (sym is) (
            reply_there s.plain addr f.entry By.Fetch c.reply f.valid f.reply,
            reads_same there addr c.reply (fetch_kind s.plain.file f.entry (offset_of addr) c.reply f.reply),
          )),
      e,
      all,
    )

-- ---- a store that is done

-- by the call's own words
as_called : (rule : PlaceRule) (t : Plain) (c : Call) (addr byte : ℕ) (after : Plain) → c.request ≡ Store addr byte → c.reply ≡ Done
    → Performs rule t c.core (Store addr byte) Done after → Performs rule t c.core c.request c.reply after
as_called rule t c addr byte after is done r =
    subst (λ (q : Request). Performs rule t c.core q c.reply after) (sym is)
    (subst (λ (y : Reply). Performs rule t c.core (Store addr byte) y after) (sym done) r)

-- to bytes of the page's own
pub store_own_behind : (t : Plain) (c : Call) (addr byte : ℕ) (k : Kept) (kept new : List Kept) (prot : Prot) (known : Option ℕ) → c.request ≡ Store addr byte
    → c.reply ≡ Done → k.page ≡ page_of addr → k.offset ≡ offset_of addr → HasOf k kept → FindsDue t.file (offset_of addr) k.was By.Store Done
    → k.was ≡ Own prot known → new ≡ map (kept_stored k.call k.page k.offset byte) kept → GoesBehind k.call (page_of addr) t kept t new c
store_own_behind t c addr byte k kept new prot known is done at off has due owns made any_place s e' all =
    let rule = rule_of any_place in
    let x = found s t k kept addr By.Store Done e' at off has all due in
    let w : IsWas x.entry (offset_of addr) (Own prot known) = subst (λ (w : Was). IsWas x.entry (offset_of addr) w) owns x.was in
    let back = w.0 in
    let own = w.1 in
    let e : PageEntry = owned back prot own in
    let f : PageEntry = owned back prot (put own (offset_of addr) byte) in
    let old : s.old k.call (page_of addr) ≡ Some (Some e) = x.is_old ∙ ap Some w.2 in
    let reply : entry_reply s.plain.file (Some e) By.Store (offset_of addr) ≡ Some Done =
    subst (λ (o : Option PageEntry). entry_reply s.plain.file o By.Store (offset_of addr) ≡ Some Done) w.2 x.reply in
    let there : Plain = with_entry s.plain (page_of addr) (Some e) in
    let after : Plain = with_entry there (page_of addr) (Some f) in
    let stored : accessed there addr byte Done ≡ after =
    ap (λ (o : Option PageEntry). stored_entry there (page_of addr) o (offset_of addr) byte) (put_same s.plain.entry (page_of addr) (Some e)) in
    let r : Performs rule there c.core (Store addr byte) Done after =
    (reply_there s.plain addr (Some e) By.Store Done x.valid reply, sym stored) in
    let u : Loose = record { plain = s.plain; old = put s.old k.call (put (s.old k.call) (page_of addr) (Some (Some f))) } in
    let kept_old : s.old k.call k.page ≡ Some (Some (owned back prot own)) = subst (λ (p : ℕ). s.old k.call p ≡ Some (Some e)) (sym at) old in (
      u,
      record {
        entry = Some e;
        is_old = old;
        after = after;
        performs = as_called rule there c addr byte after is done r;
        plain = sym (entries_back s.plain (page_of addr) (Some e) (Some f));
        old = ap (λ (x : Option PageEntry). put s.old k.call (put (s.old k.call) (page_of addr) (Some x)))
            (sym (put_same (put s.plain.entry (page_of addr) (Some e)) (page_of addr) (Some f)));
      },
      e',
      subst (AllKept (put s.old k.call (put (s.old k.call) (page_of addr) (Some (Some f))))) (sym made)
          (All-map (IsKept (put s.old k.call (put (s.old k.call) (page_of addr) (Some (Some f))))) (kept_stored k.call k.page k.offset byte) kept
          (All-weaker (IsKept s.old) (λ (x : Kept). IsKept (put s.old k.call (put (s.old k.call) (page_of addr) (Some (Some f))))
          (kept_stored k.call k.page k.offset byte x))
          (λ x kx. subst (λ (p : ℕ). IsKept (put s.old k.call (put (s.old k.call) p (Some (Some f)))) (kept_stored k.call k.page k.offset byte x)) at
          (subst (λ (i : ℕ). IsKept (put s.old k.call (put (s.old k.call) k.page (Some (Some (owned back prot (put own i byte))))))
          (kept_stored k.call k.page k.offset byte x)) off
          (kept_after s.old k.call k.page k.offset byte back prot own kept_old x kx))) kept all)),
    )

-- to a page of a shared file: it changes the file as it is now, and nothing else
pub store_file_behind : (t u : Plain) (c : Call) (addr byte : ℕ) (k : Kept) (kept : List Kept) (file page : ℕ) (prot : Prot) → c.request ≡ Store addr byte
    → c.reply ≡ Done → k.page ≡ page_of addr → k.offset ≡ offset_of addr → HasOf k kept → FindsDue t.file (offset_of addr) k.was By.Store Done
    → k.was ≡ Shared file page prot → u ≡ stored_back t (BackOf.Shared file page) (offset_of addr) byte → GoesBehind k.call (page_of addr) t kept u kept c
store_file_behind t u c addr byte k kept file page prot is done at off has due shares made any_place s e' all =
    let rule = rule_of any_place in
    let x = found s t k kept addr By.Store Done e' at off has all due in
    let w : IsWas x.entry (offset_of addr) (Shared file page prot) = subst (λ (w : Was). IsWas x.entry (offset_of addr) w) shares x.was in
    let e : PageEntry = shown (BackOf.Shared file page) prot in
    let old : s.old k.call (page_of addr) ≡ Some (Some e) = x.is_old ∙ ap Some w in
    let reply : entry_reply s.plain.file (Some e) By.Store (offset_of addr) ≡ Some Done =
    subst (λ (o : Option PageEntry). entry_reply s.plain.file o By.Store (offset_of addr) ≡ Some Done) w x.reply in
    let there : Plain = with_entry s.plain (page_of addr) (Some e) in
    let after : Plain = stored_back there (BackOf.Shared file page) (offset_of addr) byte in
    let next : Plain = stored_back s.plain (BackOf.Shared file page) (offset_of addr) byte in
    let stored : accessed there addr byte Done ≡ after =
    ap (λ (o : Option PageEntry). stored_entry there (page_of addr) o (offset_of addr) byte) (put_same s.plain.entry (page_of addr) (Some e)) in
    let r : Performs rule there c.core (Store addr byte) Done after =
    (reply_there s.plain addr (Some e) By.Store Done x.valid reply, sym stored) in (
      record { plain = next; old = s.old },
      record {
        entry = Some e;
        is_old = old;
        after = after;
        performs = as_called rule there c addr byte after is done r;
        plain = sym (entry_back next (page_of addr) (Some e));
        old = same_old s.old k.call (page_of addr) (Some e) s.plain.entry old;
      },
      ap (λ (p : Plain). stored_back p (BackOf.Shared file page) (offset_of addr) byte) e' ∙ sym made,
      all,
    )

-- ---- the page of an access

some_same : (x y : ℕ) → Some x ≡ Some y → x ≡ y
some_same x y e = cc

pub at_page : (request one : Request) (page found : ℕ) → request ≡ one → page_accessed one ≡ Some found → page_accessed request ≡ Some page → found ≡ page
at_page request one page found is has at = some_same found page (sym has ∙ (ap page_accessed (sym is) ∙ at))
