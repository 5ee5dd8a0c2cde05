-- The first place of a mapping, and the first answers
use Rattle.machine_model.proofs.Words.{◌≡◌, ℕ, ◌*◌, ◌<◌, ◌⊎◌, not, Bool, true, false, inl, inr, refl, sym, ap, subst, arith, Some, None, Option, ◌∙◌}
use Rattle.machine_model.proofs.Words.{if◌then◌else◌, Back, PageRange, ENOMEM, Reply, Mapped, Done, Byte, Refused, Segv, Bus, NoFrame, NoMemory, Request, Mmap}
use Rattle.machine_model.proofs.Words.{Munmap, Mprotect, Load, Store, Fetch, Prot, meta_of, range_at, Applies, are_pages, page_count, page_of, pages_from}
use Rattle.machine_model.proofs.Words.{IsFirstPlace, IsFree, IsLeastRoom, IsPlace, Plain, is_mapped, mode_of, refusal, Place, Stands, RepliesBy, page_copied}
use Rattle.machine_model.proofs.Words.{with_copy, is_placed}
use Rattle.vm_base.specs.Apply.{AppliesAfter, NewMapping, Maps, MapsAt, back_at}
use Rattle.vm_base.specs.Pages.{window_of}
use Rattle.vm_base.specs.Places.{IsHint}
use Rattle.vm_base.specs.Places.IsFirstPlace.{at_hint, in_window}
use Rattle.vm_calls.specs.Checks.{hint_at, placed_count}
use Rattle.vm_calls.proofs.Plainly.{counted, few-found, hint-is, none-found, valid-few}
use Rattle.machine_model.proofs.Aiming.{IsPlaceOf}

-- ---- the first place

-- some page of the hint, if there is one, is mapped
abbrev pub IsHintTaken : (ℕ → Bool) → Option PageRange → Type 0
IsHintTaken mapped None = Unit {0}
IsHintTaken mapped (Some range) = ¬ IsFree mapped range

-- The mapping goes to this page, or nowhere: its hint is free; or it isn't, and this is the least room of the window.
abbrev pub IsFirst : (ℕ → Bool) → Place → Option ℕ → Type 0
IsFirst mapped place found =
    ((range : PageRange) × (place.hint ≡ Some range) × IsFree mapped range × (found ≡ Some range.first))
    ⊎ (IsHintTaken mapped place.hint × IsLeastRoom mapped place.window place.count found)

-- a hint that is free
hint_first : (mapped : ℕ → Bool) (window : PageRange) (h len : ℕ) (range : PageRange) → hint_at h (placed_count len) ≡ Some range
    → IsFree mapped range
    → IsFirstPlace mapped window h (page_count len) (Some range.first)
hint_first mapped window h len range e free =
    let (valid, is) = hint-is h (placed_count len) range e in
    let same : placed_count len ≡ page_count len = counted len (valid-few h (placed_count len) valid) in
    let there : range ≡ pages_from h (page_count len) = is ∙ ap (λ n. pages_from h n) same in
    at_hint (subst (λ n. are_pages (pages_from h n) ≡ true) same valid, subst (IsFree mapped) there free)
    (ap (λ (r : PageRange). Some r.first) there)

-- a hint that isn't
hint_taken : (mapped : ℕ → Bool) (h len : ℕ) → IsHintTaken mapped (hint_at h (placed_count len)) → ¬ IsHint mapped h (page_count len)
hint_taken mapped h len taken hint =
    subst (IsHintTaken mapped) given taken (subst (λ n. IsFree mapped (pages_from h n)) (sym count) hint.1)
  where
    count : placed_count len ≡ page_count len
    count = let few = valid-few h (page_count len) hint.0 in omega (arith, few)

    given : hint_at h (placed_count len) ≡ Some (pages_from h (placed_count len))
    given =
        ap (λ b. if b then Some (pages_from h (placed_count len)) else None)
        (subst (λ n. are_pages (pages_from h n) ≡ true) (sym count) hint.0)

least_counted : (mapped : ℕ → Bool) (c len : ℕ) (found : Option ℕ) → c < 64 → IsLeastRoom mapped (window_of c) (placed_count len) found
    → IsLeastRoom mapped (window_of c) (page_count len) found
least_counted mapped c len None few none = none-found mapped c len few none
least_counted mapped c len (Some first) few least =
    subst (λ n. IsLeastRoom mapped (window_of c) n (Some first))
    (counted len (few-found c first (placed_count len) few least.0.0.high)) least

-- it is the plain map's
pub first_place : (mapped : ℕ → Bool) (c : ℕ) (request : Request) (place : Place) (found : Option ℕ) (k : IsPlaceOf c request place)
    → c < 64
    → IsFirst mapped place found → IsFirstPlace mapped (window_of c) (page_of k.addr) (page_count k.len) found
first_place mapped c request place found k few (inl h) =
    subst (IsFirstPlace mapped (window_of c) (page_of k.addr) (page_count k.len)) (sym h.3)
    (hint_first mapped (window_of c) (page_of k.addr) k.len h.0 (ap (λ (x : Place). x.hint) (sym k.placed) ∙ h.1) h.2)
first_place mapped c request place found k few (inr h) =
    let same = subst (λ (x : Place). IsHintTaken mapped x.hint × IsLeastRoom mapped x.window x.count found) k.placed h in
    in_window (hint_taken mapped (page_of k.addr) k.len same.0) (least_counted mapped c k.len found few same.1)

-- ---- answers

-- what a mapping at this page, or at none, is answered
abbrev pub reply_at : Option ℕ → Reply
reply_at None = Refused ENOMEM
reply_at (Some first) = Mapped (first * 4096)

reply_one : (a b : Option ℕ) → reply_at a ≡ reply_at b → a ≡ b
reply_one None None e = refl
reply_one (Some s) (Some r) e = let same : s * 4096 ≡ r * 4096 = cc in let z : s ≡ r = omega (arith, same) in ap Some z
reply_one _ _ e = absurd cc

maps_reply : (t u : Plain) (found : Option ℕ) (n : ℕ) (back : Back) (prot : Prot) (y : Reply) → Maps t (range_at found n) back prot y u
    → y ≡ reply_at found
maps_reply t u None n back prot y h = h.0
maps_reply t u (Some s) n back prot y h = h.0

-- this reply of the map is the first
abbrev pub IsFirstReply : Plain → ℕ → Request → Reply → Type 0
IsFirstReply t c request reply = (u : Plain) → Applies IsPlace t c request reply u → Applies IsFirstPlace t c request reply u

pub placed_first : (t : Plain) (c : ℕ) (request : Request) (place : Place) (found : Option ℕ) (reply : Reply)
    (k : IsPlaceOf c request place) → c < 64
    → IsFirst (is_mapped t.entry) place found → reply ≡ reply_at found → IsFirstReply t c request reply
placed_first t c request place found reply k few first e u h =
    subst (λ r. Applies IsFirstPlace t c r reply u) (sym k.asks)
    (go (refusal (λ n. mode_of (t.file n)) (Mmap k.addr k.len k.prot k.flags k.file k.off)) (subst (λ r. Applies IsPlace t c r reply u) k.asks h))
  where
    back : Back
    back = back_at k.flags k.file k.off

    asked : NewMapping
    asked = record { core = c; addr = k.addr; len = k.len; meta = meta_of k.prot k.flags k.file k.off }

    maps : (b : Bool) → b ≡ false → MapsAt IsPlace b t asked reply u → MapsAt IsFirstPlace b t asked reply u
    maps true i m = absurd cc
    maps false i m =
        let same : found ≡ m.0 = reply_one found m.0 (sym e ∙ maps_reply t u m.0 (page_count k.len) back k.prot reply m.2) in (
          m.0,
          subst (IsFirstPlace (is_mapped t.entry) (window_of c) (page_of k.addr) (page_count k.len)) same
              (first_place (is_mapped t.entry) c request place found k few first),
          m.2,
        )

    go : (o : Option Reply) → AppliesAfter IsPlace o t c (Mmap k.addr k.len k.prot k.flags k.file k.off) reply u
        → AppliesAfter IsFirstPlace o t c (Mmap k.addr k.len k.prot k.flags k.file k.off) reply u
    go (Some y) z = z
    go None z = maps k.flags.fixed k.unfixed z

-- a request that doesn't leave its place open has one answer
pub named_first : (t : Plain) (c : ℕ) (request : Request) (reply : Reply) → is_placed request ≡ false → IsFirstReply t c request reply
named_first t c request reply named u = go (refusal (λ n. mode_of (t.file n)) request) request named
  where
    maps : (b : Bool) (asked : NewMapping) → not b ≡ false → MapsAt IsPlace b t asked reply u → MapsAt IsFirstPlace b t asked reply u
    maps true asked e m = m
    maps false asked e m = absurd cc

    go : (o : Option Reply) (r : Request) → is_placed r ≡ false → AppliesAfter IsPlace o t c r reply u
        → AppliesAfter IsFirstPlace o t c r reply u
    go None (Mmap addr len prot flags file off) e h =
        maps flags.fixed (record { core = c; addr = addr; len = len; meta = meta_of prot flags file off }) e h
    go _ _ e h = h

-- nor has one that its arguments refuse
pub refused_first : (t : Plain) (c : ℕ) (request : Request) (reply answer : Reply) → refusal (λ n. mode_of (t.file n)) request ≡ Some answer
    → IsFirstReply t c request reply
refused_first t c request reply answer e u h =
    subst (λ o. AppliesAfter IsFirstPlace o t c request reply u) (sym e) (subst (λ o. AppliesAfter IsPlace o t c request reply u) e h)

-- ---- entries of a log

stands_first : (t : Plain) (c : ℕ) (request : Request) (reply : Reply) (u : Plain)
    → IsFirstReply (with_copy t (page_copied t request reply)) c request reply
    → Stands IsPlace (with_copy t (page_copied t request reply)) c request reply u → RepliesBy IsFirstPlace t c request reply u
stands_first t c request NoFrame u f h = h
stands_first t c request NoMemory u f h = h
stands_first t c request _ u f h = f u h

-- a mapping copies no page
placed_uncopied : (t : Plain) (request : Request) (reply : Reply) → is_placed request ≡ true → page_copied t request reply ≡ None
placed_uncopied t (Mmap addr len prot flags file off) Done e = refl
placed_uncopied t (Mmap addr len prot flags file off) (Mapped at) e = refl
placed_uncopied t (Mmap addr len prot flags file off) (Byte byte) e = refl
placed_uncopied t (Mmap addr len prot flags file off) (Refused errno) e = refl
placed_uncopied t (Mmap addr len prot flags file off) (Segv code) e = refl
placed_uncopied t (Mmap addr len prot flags file off) Bus e = refl
placed_uncopied t (Mmap addr len prot flags file off) NoFrame e = refl
placed_uncopied t (Mmap addr len prot flags file off) NoMemory e = refl
placed_uncopied t (Munmap addr len) reply e = absurd cc
placed_uncopied t (Mprotect addr len prot) reply e = absurd cc
placed_uncopied t (Load addr) reply e = absurd cc
placed_uncopied t (Store addr byte) reply e = absurd cc
placed_uncopied t (Fetch addr) reply e = absurd cc

-- of the map in which the page has got its copy
pub copy_first : (t : Plain) (c : ℕ) (request : Request) (reply : Reply) (u : Plain) → IsFirstReply t c request reply
    → Stands IsPlace (with_copy t (page_copied t request reply)) c request reply u → RepliesBy IsFirstPlace t c request reply u
copy_first t c request reply u f h = go (is_placed request) refl
  where
    go : (b : Bool) → is_placed request ≡ b → RepliesBy IsFirstPlace t c request reply u
    go false e = stands_first t c request reply u (named_first _ c request reply e) h
    go true e =
        let same : with_copy t (page_copied t request reply) ≡ t = ap (with_copy t) (placed_uncopied t request reply e) in
        stands_first t c request reply u (subst (λ m. IsFirstReply m c request reply) (sym same) f) h
