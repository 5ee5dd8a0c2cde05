-- The map that an entry of a log leaves is the one that its turn leaves
use Rattle.std.proofs.Common.{◌≡◌, ◌≢◌, ℕ, ◌+◌, ◌*◌, ◌/◌, ◌==◌, Bool, true, false, cond, not, ◌&&◌, List, [], ◌∷◌, ◌++◌, length, drop, get_or, ◌<◌}
use Rattle.std.proofs.Common.{◌≤◌, Option, Some, None, refl, sym, ◌∙◌, ap, subst, arith}
use Rattle.std.proofs.lemmas.Bool.Decides.{nat_tests}
use Rattle.std.proofs.lemmas.List.{drop_all, drop_more}
use Rattle.vm_base.specs.declared.info.Back.{Back}
use Rattle.vm_base.specs.declared.log.Entry.{Entry}
use Rattle.vm_base.specs.declared.log.Entry.TheVariants.{Answer, Detach}
use Rattle.vm_base.specs.declared.page.PageRange.{PageRange}
use Rattle.vm_base.specs.declared.replies.Errno.{Errno}
use Rattle.vm_base.specs.declared.replies.Errno.TheVariants.{EINVAL, ENOMEM, EACCES, EBADF, EOVERFLOW}
use Rattle.vm_base.specs.declared.replies.Reply.{Reply}
use Rattle.vm_base.specs.declared.replies.Reply.TheVariants as ReplyOf
use Rattle.vm_base.specs.declared.requests.Flags.{Flags}
use Rattle.vm_base.specs.declared.requests.Request.{Request}
use Rattle.vm_base.specs.declared.requests.Request.TheVariants as RequestOf
use Rattle.vm_base.specs.declared.rights.Mode.{Mode}
use Rattle.vm_base.specs.declared.rights.Prot.{Prot}
use Rattle.vm_base.specs.Apply.{Applies, AppliesAfter, Maps, MapsAt, after_mapping, meta_of, range_at}
use Rattle.vm_base.specs.Copies.{or_else}
use Rattle.vm_base.specs.Log.{Replays, Stands, nth}
use Rattle.vm_base.specs.Pages.{are_pages, is_aligned, page_count, pages_from, pages_of}
use Rattle.vm_base.specs.Places.{IsPlace}
use Rattle.vm_base.specs.Plain.{Plain, mode_of, nothing_mapped}
use Rattle.vm_base.specs.Refusals.{answer, file_refusal, is_one_kind, mmap_refusal}
use Rattle.vm_base.specs.Requests.{is_placed}
use Rattle.frames.specs.Files.{FileParts, files_of}
use Rattle.litmus_merges.specs.OneTurn.{TurnsTo}
use Rattle.litmus_merges.proofs.OneTurn.{one_end}
use Rattle.litmus_merges.specs.declared.change.MapChange.{MapChange}
use Rattle.litmus_merges.specs.declared.change.MapChange.TheVariants as StepOf
use Rattle.litmus_merges.specs.Steps.{AreSound, after, map_of}
use Rattle.litmus_merges.proofs.Maps.{after_push, sound_push}
use Rattle.litmus_outcomes.proofs.Entries.{answer_turns}
use Rattle.litmus_outcomes.specs.Leading.{AreOfLog, LeadsToOne, LeavesOne}

-- ---- a request that names its place

pub named_one : (t v : Plain) (core : ℕ) (q : Request) (y : Reply) (got : Option Reply) → is_placed q ≡ false → y ≢ ReplyOf.NoFrame → y ≢ ReplyOf.NoMemory
    → TurnsTo t core q got v → LeavesOne t core q y v
named_one t v core q y got named f m turns u stands =
    (one_end t core q (Some y) got u v named (answer_turns (q ∷ []) t u 0 1 core q y refl f m (q, refl, stands)) turns).1

-- ---- a mapping that leaves its place open

-- what a mapping is refused for isn't that it is mapped
record IsNoPlace (o : Option Reply) : Type 0 where
  other : (addr : ℕ) → o ≢ Some (ReplyOf.Mapped addr)

choice : (b : Bool) (x y : Option Reply) → IsNoPlace x → IsNoPlace y → IsNoPlace (cond b x y)
choice true x y h k = h
choice false x y h k = k

refused : (e : Errno) → IsNoPlace (answer e)
refused e = record { other = λ addr h. absurd cc }

nothing : IsNoPlace None
nothing = record { other = λ addr h. absurd cc }

file_no_place : (mode : Option Mode) (len : ℕ) (prot : Prot) (flags : Flags) (off : ℕ) → IsNoPlace (file_refusal mode len prot flags off)
file_no_place None len prot flags off = refused EBADF
file_no_place (Some mode) len prot flags off = choice _ _ _ (refused EOVERFLOW) (choice _ _ _ (refused EACCES) (choice _ _ _ (refused EACCES) nothing))

no_place : (modes : ℕ → Option Mode) (addr len : ℕ) (prot : Prot) (flags : Flags) (file off : ℕ) → IsNoPlace (mmap_refusal modes addr len prot flags file off)
no_place modes addr len prot flags file off =
    choice (len == 0) _ _ (refused EINVAL)
    (choice (not (is_one_kind flags)) _ _ (refused EINVAL)
    (choice (not flags.anon && not (is_aligned off)) _ _ (refused EINVAL)
    (choice (flags.fixed && not (is_aligned addr)) _ _ (refused EINVAL)
    (choice (flags.fixed && not (are_pages (pages_of addr len))) _ _ (refused ENOMEM)
    (choice flags.anon _ _ nothing (file_no_place (modes file) len prot flags off))))))

-- so many pages from a page's first byte on
pages_at : (first len : ℕ) → pages_of (first * 4096) len ≡ pages_from first (page_count len)
pages_at first len = go (len == 0) refl
  where
    zero_len : (len == 0) ≡ true → len ≡ 0
    zero_len e = grind (arith, nat_tests)

    start : (first * 4096) / 4096 ≡ first
    start = omega arith

    none : len ≡ 0 → (first * 4096) / 4096 ≡ first + (len + 4095) / 4096
    none e = omega (arith, e)

    some : (first * 4096 + len + 4095) / 4096 ≡ first + (len + 4095) / 4096
    some = omega arith

    range : ℕ → ℕ → PageRange
    range a b = record { first = a; end = b }

    go : (b : Bool) → (len == 0) ≡ b → range ((first * 4096) / 4096) (cond b ((first * 4096) / 4096) ((first * 4096 + len + 4095) / 4096))
        ≡ range first (first + (len + 4095) / 4096)
    go true e = ap (λ (a : ℕ). range a ((first * 4096) / 4096)) start ∙ ap (range first) (none (zero_len e))
    go false e = ap (λ (a : ℕ). range a ((first * 4096 + len + 4095) / 4096)) start ∙ ap (range first) some

-- with the place named
abbrev fixed_flags : Flags → Flags
fixed_flags flags = record flags { fixed = true }

open_maps : (t u : Plain) (place : Option ℕ) (n : ℕ) (back : Back) (prot : Prot) (addr : ℕ) → Maps t (range_at place n) back prot (ReplyOf.Mapped addr) u
    → (s : ℕ) × (addr ≡ s * 4096) × (u ≡ after_mapping t (pages_from s n) back prot)
open_maps t u None n back prot addr h = let e = h.0 in absurd cc
open_maps t u (Some s) n back prot addr h =
    let e : ReplyOf.Mapped addr ≡ ReplyOf.Mapped (s * 4096) = h.0 in
    let at : addr ≡ s * 4096 = cc in
    (s, at, h.1)

pub placed_one : (t v : Plain) (core a addr len : ℕ) (prot : Prot) (flags : Flags) (file off : ℕ) → flags.fixed ≡ false
    → TurnsTo t core (RequestOf.Mmap addr len prot (record flags { fixed = true }) file off) (Some (ReplyOf.Mapped addr)) v
    → LeavesOne t core (RequestOf.Mmap a len prot flags file off) (ReplyOf.Mapped addr) v
placed_one t v core a addr len prot flags file off unfixed turns u stands =
    by (mmap_refusal modes a len prot flags file off) (mmap_refusal modes addr len prot (fixed_flags flags) file off)
    (no_place modes a len prot flags file off) (no_place modes addr len prot (fixed_flags flags) file off) stands turns
  where
    modes : ℕ → Option Mode
    modes n = mode_of (t.file n)

    same : (s : ℕ) → addr ≡ s * 4096 → pages_of addr len ≡ pages_from s (page_count len)
    same s e = ap (λ (x : ℕ). pages_of x len) e ∙ pages_at s len

    maps : MapsAt IsPlace false t (record { core = core; addr = a; len = len; meta = meta_of prot flags file off }) (ReplyOf.Mapped addr) u
        → Maps t (Some (pages_of addr len)) (meta_of prot flags file off).back prot (ReplyOf.Mapped addr) v → u ≡ v
    maps h k =
        let there = open_maps t u h.0 (page_count len) (meta_of prot flags file off).back prot addr h.2 in
        there.2 ∙ (ap (λ (r : PageRange). after_mapping t r (meta_of prot flags file off).back prot) (sym (same there.0 there.1)) ∙ sym k.1)

    mapped : AppliesAfter IsPlace None t core (RequestOf.Mmap a len prot flags file off) (ReplyOf.Mapped addr) u
        → MapsAt IsPlace false t (record { core = core; addr = a; len = len; meta = meta_of prot flags file off }) (ReplyOf.Mapped addr) u
    mapped h = subst (λ (b : Bool). MapsAt IsPlace b t (record { core = core; addr = a; len = len; meta = meta_of prot flags file off })
        (ReplyOf.Mapped addr) u) unfixed h

    by : (o p : Option Reply) → IsNoPlace o → IsNoPlace p
        → AppliesAfter IsPlace o t core (RequestOf.Mmap a len prot flags file off) (ReplyOf.Mapped addr) u
        → AppliesAfter IsPlace p t core (RequestOf.Mmap addr len prot (fixed_flags flags) file off) (ReplyOf.Mapped addr) v → u ≡ v
    by (Some o) p x y h k = absurd (x.other addr (ap Some (sym h.0)))
    by None (Some p) x y h k = absurd (y.other addr (ap Some (sym k.0)))
    by None None x y h k = maps (mapped h) k

-- one that isn't mapped changes nothing
refused_one : (t u : Plain) (core a len : ℕ) (prot : Prot) (flags : Flags) (file off : ℕ) (y : Reply) → flags.fixed ≡ false
    → ((addr : ℕ) → y ≢ ReplyOf.Mapped addr) → Applies IsPlace t core (RequestOf.Mmap a len prot flags file off) y u → u ≡ t
refused_one t u core a len prot flags file off y unfixed other h = by (mmap_refusal (λ n. mode_of (t.file n)) a len prot flags file off) h
  where
    maps : (place : Option ℕ) → Maps t (range_at place (page_count len)) (meta_of prot flags file off).back prot y u → u ≡ t
    maps None k = k.1
    maps (Some s) k = absurd (other (s * 4096) k.0)

    mapped : MapsAt IsPlace false t (record { core = core; addr = a; len = len; meta = meta_of prot flags file off }) y u → u ≡ t
    mapped k = maps k.0 k.2

    by : (o : Option Reply) → AppliesAfter IsPlace o t core (RequestOf.Mmap a len prot flags file off) y u → u ≡ t
    by (Some o) k = k.1
    by None k = mapped (subst (λ (b : Bool). MapsAt IsPlace b t (record { core = core; addr = a; len = len; meta = meta_of prot flags file off }) y u) unfixed k)

not_false : (b : Bool) → not b ≡ true → b ≡ false
not_false true e = absurd cc
not_false false e = refl

-- the same of any request that leaves its place open
pub open_one : (t : Plain) (core : ℕ) (q : Request) (y : Reply) → is_placed q ≡ true → ((addr : ℕ) → y ≢ ReplyOf.Mapped addr)
    → y ≢ ReplyOf.NoFrame → y ≢ ReplyOf.NoMemory → LeavesOne t core q y t
open_one t core (RequestOf.Mmap a len prot flags file off) y placed other f m u stands =
    refused_one t u core a len prot flags file off y (not_false flags.fixed placed) other (plainly y f m stands)
  where
    plainly : (y : Reply) → y ≢ ReplyOf.NoFrame → y ≢ ReplyOf.NoMemory → Stands IsPlace t core (RequestOf.Mmap a len prot flags file off) y u
        → Applies IsPlace t core (RequestOf.Mmap a len prot flags file off) y u
    plainly (ReplyOf.Mapped addr) f m h = h
    plainly ReplyOf.Done f m h = h
    plainly (ReplyOf.Byte b) f m h = h
    plainly (ReplyOf.Refused e) f m h = h
    plainly (ReplyOf.Segv c) f m h = h
    plainly ReplyOf.Bus f m h = h
    plainly ReplyOf.NoFrame f m h = absurd (f refl)
    plainly ReplyOf.NoMemory f m h = absurd (m refl)
open_one t core (RequestOf.Munmap addr len) y placed other f m u stands = absurd cc
open_one t core (RequestOf.Mprotect addr len prot) y placed other f m u stands = absurd cc
open_one t core (RequestOf.Load addr) y placed other f m u stands = absurd cc
open_one t core (RequestOf.Store addr byte) y placed other f m u stands = absurd cc
open_one t core (RequestOf.Fetch addr) y placed other f m u stands = absurd cc

pub placed_got : (t v : Plain) (core a addr len : ℕ) (prot : Prot) (flags : Flags) (file off : ℕ) (got : Option Reply)
    → is_placed (RequestOf.Mmap a len prot flags file off) ≡ true → got ≡ Some (ReplyOf.Mapped addr)
    → TurnsTo t core (RequestOf.Mmap addr len prot (record flags { fixed = true }) file off) got v
    → LeavesOne t core (RequestOf.Mmap a len prot flags file off) (ReplyOf.Mapped addr) v
placed_got t v core a addr len prot flags file off got placed is turns =
    placed_one t v core a addr len prot flags file off (not_false flags.fixed placed)
    (subst (λ (o : Option Reply). TurnsTo t core (RequestOf.Mmap addr len prot (record flags { fixed = true }) file off) o v) is turns)

-- ---- calls that changed nothing

pub frame_one : (t : Plain) (core : ℕ) (q : Request) → LeavesOne t core q ReplyOf.NoFrame t
frame_one t core q u h = h.1

pub memory_one : (t : Plain) (core : ℕ) (q : Request) → LeavesOne t core q ReplyOf.NoMemory t
memory_one t core q u h = h

-- ---- entries

pub answer_one : (requests : List Request) (t v : Plain) (step call core : ℕ) (q : Request) (y : Reply) → nth requests call ≡ Some q
    → LeavesOne t core q y v → LeadsToOne requests t (Answer step call core y) v
answer_one requests t v step call core q y is one u leads =
    let theirs : nth requests call ≡ Some leads.0 = leads.1 in
    let same : leads.0 ≡ q = cc in
    one u (subst (λ (r : Request). Stands IsPlace t core r y u) same leads.2)

pub unasked_one : (requests : List Request) (t v : Plain) (step call core : ℕ) (y : Reply) → nth requests call ≡ None
    → LeadsToOne requests t (Answer step call core y) v
unasked_one requests t v step call core y is u leads = let theirs : nth requests call ≡ Some leads.0 = leads.1 in absurd cc

pub copy_one : (requests : List Request) (t : Plain) (step call page : ℕ) → LeadsToOne requests t (Detach step call page) (after t (StepOf.Copy page))
copy_one requests t step call page u leads = sym (ap (or_else t) leads.1)

pub copied_one : (objects : List FileParts) (requests : List Request) (old new : List MapChange) (step call page : ℕ) → new ≡ old ++ StepOf.Copy page ∷ []
    → LeadsToOne requests (map_of objects old) (Detach step call page) (map_of objects new)
copied_one objects requests old new step call page more =
    subst (LeadsToOne requests (map_of objects old) (Detach step call page))
    (sym (ap (map_of objects) more ∙ after_push (nothing_mapped (files_of objects)) old (StepOf.Copy page)))
    (copy_one requests (map_of objects old) step call page)

pub copied_sound : (old new : List MapChange) (page : ℕ) → new ≡ old ++ StepOf.Copy page ∷ [] → AreSound old → AreSound new
copied_sound old new page more sound = subst AreSound (sym more) (sound_push old (StepOf.Copy page) sound tt)

-- ---- a log

-- what is left of it, from the map of these steps
abbrev pub LeadsOn : List FileParts → List Request → List Entry → ℕ → List MapChange → Type 0
LeadsOn objects requests log k steps = (u : Plain) → Replays requests (nothing_mapped (files_of objects)) log u
    → Replays requests (map_of objects steps) (drop k log) u

pub leads_first : (objects : List FileParts) (requests : List Request) (log : List Entry) (steps : List MapChange) → steps ≡ [] → LeadsOn objects requests log 0 steps
leads_first objects requests log steps none u h = subst (λ (xs : List MapChange). Replays requests (map_of objects xs) log u) (sym none) h

pub leads_next : (objects : List FileParts) (requests : List Request) (log : List Entry) (k : ℕ) (steps more : List MapChange) (e : Entry) → k < length log
    → e ≡ get_or log k e → LeadsOn objects requests log k steps → LeadsToOne requests (map_of objects steps) e (map_of objects more)
    → LeadsOn objects requests log (k + 1) more
leads_next objects requests log k steps more e within is h one u all =
    let here : Replays requests (map_of objects steps) (e ∷ drop (k + 1) log) u =
    subst (λ (x : Entry). Replays requests (map_of objects steps) (x ∷ drop (k + 1) log) u) (sym is)
    (subst (λ (es : List Entry). Replays requests (map_of objects steps) es u) (drop_more log k e within) (h u all)) in
    subst (λ (m : Plain). Replays requests m (drop (k + 1) log) u) (one here.0 here.1) here.2

pub leads_end : (objects : List FileParts) (requests : List Request) (log : List Entry) (k : ℕ) (steps : List MapChange) → length log ≤ k → AreSound steps
    → LeadsOn objects requests log k steps → AreOfLog objects requests log steps
leads_end objects requests log k steps end sound h = record {
  sound = sound;
  one = λ u all. subst (λ (es : List Entry). Replays requests (map_of objects steps) es u) (drop_all k log end) (h u all);
}
