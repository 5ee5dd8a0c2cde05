-- Places of mappings without MAP_FIXED
use Rattle.slot_lock.proofs.Words.{◌≡◌, ℕ, ◌+◌, ◌*◌, ◌%◌, ◌^◌, ◌<◌, ◌≤◌, inl, inr, Bool, true, false, Option, Some, None, refl, sym, ◌∙◌, ap, subst, arith}
use Rattle.slot_lock.proofs.Words.{if◌then◌else◌, IfSome, PageRange, Meta, ENOMEM, EACCES, Reply, Mapped, Done, Byte, Refused, Segv, Bus, NoFrame, NoMemory}
use Rattle.slot_lock.proofs.Words.{eq_true, are_pages, page_count, page_of, pages_from, window_of, IsFree, IsLeastRoom, IsRoom, is_mapped}
use Rattle.std.specs.Prelude.{◌==◌, IfNone}
use Rattle.vm_base.specs.declared.replies.Errno.TheVariants.{EINVAL, EBADF, EOVERFLOW}
use Rattle.vm_base.specs.Pages.{is_aligned}
use Rattle.vm_base.specs.Places.{IsHint}
use Rattle.vm_base.specs.Places.IsFirstPlace.{at_hint, in_window}
use Rattle.slot_lock.specs.declared.plan.Place.{Place}
use Rattle.slot_lock.specs.Slots.{Slots, IsFreeRun}
use Rattle.vm_calls.specs.Checks.{hint_at, place_of, placed_count}
use Rattle.vm_calls.specs.Decisions.{entries}
use Rattle.slot_lock.specs.Plan.{IsSoundHint, IsSoundPlace}
use Rattle.vm_base.specs.Pages.{IsPageRange}
use Rattle.vm_calls.proofs.Rooms.{least-room, room-run, run-room}
use Rattle.vm_calls.proofs.Plainly.{counted, few-found, hint-is, none-found, valid-few}
use Rattle.audit.specs.Placing.{IsAllowed, IsFirst, IsHintTaken, all_pages, place_said, reply_at, rule_of}

-- ---- what the search of a slot map finds

pub no_room : (s : Slots) (n : ℕ) (o : Option ℕ) → IfNone o ((r : ℕ) → ¬ IsFreeRun s all_pages n r) → o ≡ None
    → (r : ℕ) → ¬ IsRoom (is_mapped (entries s)) all_pages n r
no_room s n None none e r room = none r (room-run s all_pages n r room)
no_room s n (Some f) none e r room = absurd cc

pub some_room : (s : Slots) (n : ℕ) (o : Option ℕ) → IfSome o (IsFreeRun s all_pages n) → (o ≡ None → ⊥)
    → ((r : ℕ) → ¬ IsRoom (is_mapped (entries s)) all_pages n r) → ⊥
some_room s n None found some none = some refl
some_room s n (Some f) found some none = none f (run-room s all_pages n f found)

-- ---- the first place

-- there is one first place
pub first_one : (m : ℕ → Bool) (place : Place) (a b : Option ℕ) → IsFirst m place a → IsFirst m place b → a ≡ b
first_one m place a b (inl h) (inl k) =
    let same : Some h.0 ≡ Some k.0 = sym h.1 ∙ k.1 in
    let one : h.0 ≡ k.0 = cc in
    h.3 ∙ (ap (λ (r : PageRange). Some r.first) one ∙ sym k.3)
first_one m place a b (inl h) (inr k) = absurd (taken place.hint h.1 k.0)
  where
    taken : (o : Option PageRange) → o ≡ Some h.0 → IsHintTaken m o → ⊥
    taken None e t = absurd cc
    taken (Some r) e t = let same : h.0 ≡ r = cc in t (subst (IsFree m) same h.2)
first_one m place a b (inr h) (inl k) = absurd (taken place.hint k.1 h.0)
  where
    taken : (o : Option PageRange) → o ≡ Some k.0 → IsHintTaken m o → ⊥
    taken None e t = absurd cc
    taken (Some r) e t = let same : k.0 ≡ r = cc in t (subst (IsFree m) same k.2)
first_one m place a b (inr h) (inr k) = least_one a b h.1 k.1
  where
    least_one : (a b : Option ℕ) → IsLeastRoom m place.window place.count a → IsLeastRoom m place.window place.count b → a ≡ b
    least_one None None l r = refl
    least_one None (Some s) l r = absurd (l s r.0)
    least_one (Some s) None l r = absurd (r s l.0)
    least_one (Some s) (Some t) l r =
        let not_below : ¬ t < s = λ x. l.1 t x r.0 in
        let not_above : ¬ s < t = λ x. r.1 s x l.0 in
        let same : s ≡ t = omega (arith, not_below, not_above) in
        ap Some same

-- ---- any place

-- the first place, if there is one, is one of them
first_room : (m : ℕ → Bool) (place : Place) (s : ℕ) → IsSoundPlace place → IsPageRange (pages_from s place.count) → IsFirst m place (Some s)
    → IsRoom m all_pages place.count s
first_room m place s sound pages (inl h) = (
  record { low = pages.low; high = pages.high },
  subst (IsFree m) (whole (subst (λ (o : Option PageRange). IsSoundHint o place.count) h.1 sound.hint)) h.2,
)
  where
    whole : IsSoundHint (Some h.0) place.count → h.0 ≡ pages_from s place.count
    whole hint =
        let same : s ≡ h.0.first = cc in
        ap (λ (e : ℕ). record { first = h.0.first; end = e }) hint.1 ∙ ap (λ (n : ℕ). pages_from n place.count) (sym same)
first_room m place s sound pages (inr h) = (record { low = pages.low; high = pages.high }, h.1.0.1)

least_any : (m : ℕ → Bool) (place : Place) (o : Option ℕ) → IsLeastRoom m all_pages place.count o → IsAllowed true m place o
least_any m place None none = none
least_any m place (Some s) l = l.0

pub first_allowed : (any : Bool) (m : ℕ → Bool) (place : Place) (o : Option ℕ) (s : ℕ) → o ≡ Some s → IsSoundPlace place
    → IfSome o (λ (n : ℕ). IsPageRange (pages_from n place.count)) → IsFirst m place o → IsAllowed any m place o
first_allowed any m place None s e sound pages h = absurd cc
first_allowed true m place (Some n) s e sound pages h = first_room m place n sound pages h
first_allowed false m place (Some n) s e sound pages h = h

pub first_by_rule : (any : Bool) (m : ℕ → Bool) (place : Place) (o : Option ℕ) → any ≡ false → IsFirst m place o → IsAllowed any m place o
first_by_rule any m place o e h = subst (λ (b : Bool). IsAllowed b m place o) (sym e) h

pub least_allowed : (any : Bool) (s : Slots) (place : Place) (o : Option ℕ) → any ≡ true → IfSome o (IsFreeRun s all_pages place.count)
    → IfSome o (λ f. (r : ℕ) → r < f → ¬ IsFreeRun s all_pages place.count r) → IfNone o ((r : ℕ) → ¬ IsFreeRun s all_pages place.count r)
    → IsAllowed any (is_mapped (entries s)) place o
least_allowed any s place o e found least none = subst (λ (b : Bool). IsAllowed b (is_mapped (entries s)) place o) (sym e)
    (least_any (is_mapped (entries s)) place o (least-room s all_pages place.count o found least none))

-- ---- the rule of a request, and of its plan

any_few : (m : ℕ → Bool) (n s : ℕ) → IsRoom m all_pages n s → n < 2 ^ 35
any_few m n s room =
    let a : 1 ≤ s = room.0.low in
    let b : s + n ≤ 2 ^ 35 = room.0.high in
    omega (arith, a, b)

-- where there is a place, all pages are placed
pub all_placed : (any : Bool) (m : ℕ → Bool) (core addr len : ℕ) (meta : Meta) (s : ℕ) → core < 64
    → IsAllowed any m (place_of core addr len meta) (Some s) → placed_count len ≡ page_count len
all_placed true m core addr len meta s few h = counted len (any_few m (placed_count len) s h)
all_placed false m core addr len meta s few (inl h) = counted len (valid-few (page_of addr) (placed_count len) (hint-is (page_of addr)
    (placed_count len) h.0 h.1).0)
all_placed false m core addr len meta s few (inr h) = counted len (few-found core s (placed_count len) few h.1.0.0.high)

pub rule_of_allowed : (any : Bool) (m : ℕ → Bool) (core addr len : ℕ) (meta : Meta) (found : Option ℕ) → core < 64
    → IsAllowed any m (place_of core addr len meta) found → rule_of any m (window_of core) (page_of addr) (page_count len) found
rule_of_allowed true m core addr len meta None few h = λ s room. h s (subst (λ n. IsRoom m all_pages n s)
    (let same : page_count len ≡ placed_count len = omega (arith, any_few m (page_count len) s room) in same) room)
rule_of_allowed true m core addr len meta (Some s) few h =
    subst (λ n. IsRoom m all_pages n s) (all_placed true m core addr len meta s few h) h
rule_of_allowed false m core addr len meta found few (inl h) =
    let z = hint-is (page_of addr) (placed_count len) h.0 h.1 in
    let same : placed_count len ≡ page_count len = counted len (valid-few (page_of addr) (placed_count len) z.0) in
    let there : h.0 ≡ pages_from (page_of addr) (page_count len) = z.1 ∙ ap (λ n. pages_from (page_of addr) n) same in
    at_hint (subst (λ n. are_pages (pages_from (page_of addr) n) ≡ true) same z.0, subst (IsFree m) there h.2)
    (h.3 ∙ ap (λ (r : PageRange). Some r.first) there)
rule_of_allowed false m core addr len meta found few (inr h) = in_window (hint_taken h.0) (least found h.1)
  where
    hint_taken : IsHintTaken m (hint_at (page_of addr) (placed_count len)) → ¬ IsHint m (page_of addr) (page_count len)
    hint_taken taken hint =
        let few' = valid-few (page_of addr) (page_count len) hint.0 in
        let count : placed_count len ≡ page_count len = omega (arith, few') in
        let given : hint_at (page_of addr) (placed_count len) ≡ Some (pages_from (page_of addr) (placed_count len)) =
        ap (λ b. if b then Some (pages_from (page_of addr) (placed_count len)) else None)
        (subst (λ n. are_pages (pages_from (page_of addr) n) ≡ true) (sym count) hint.0) in
        subst (IsHintTaken m) given taken (subst (λ n. IsFree m (pages_from (page_of addr) n)) (sym count) hint.1)

    least : (found : Option ℕ) → IsLeastRoom m (window_of core) (placed_count len) found → IsLeastRoom m (window_of core) (page_count len) found
    least None none = none-found m core len few none
    least (Some s) l = subst (λ n. IsLeastRoom m (window_of core) n (Some s)) (counted len (few-found core s (placed_count len) few l.0.0.high)) l

pub allowed_of_rule : (any : Bool) (m : ℕ → Bool) (core addr len : ℕ) (meta : Meta) (found : Option ℕ) → core < 64
    → rule_of any m (window_of core) (page_of addr) (page_count len) found → IsAllowed any m (place_of core addr len meta) found
allowed_of_rule true m core addr len meta None few h = λ s room. h s (subst (λ n. IsRoom m all_pages n s)
    (counted len (any_few m (placed_count len) s room)) room)
allowed_of_rule true m core addr len meta (Some s) few h = subst (λ n. IsRoom m all_pages n s)
    (let same : page_count len ≡ placed_count len = omega (arith, any_few m (page_count len) s h) in same) h
allowed_of_rule false m core addr len meta found few (at_hint hint e) =
    let few' = valid-few (page_of addr) (page_count len) hint.0 in
    let count : placed_count len ≡ page_count len = omega (arith, few') in
    inl (pages_from (page_of addr) (placed_count len), given count hint.0, subst (λ n. IsFree m (pages_from (page_of addr) n)) (sym count) hint.1, e)
  where
    given : placed_count len ≡ page_count len → are_pages (pages_from (page_of addr) (page_count len)) ≡ true
        → hint_at (page_of addr) (placed_count len) ≡ Some (pages_from (page_of addr) (placed_count len))
    given count valid = ap (λ b. if b then Some (pages_from (page_of addr) (placed_count len)) else None)
        (subst (λ n. are_pages (pages_from (page_of addr) n) ≡ true) (sym count) valid)
allowed_of_rule false m core addr len meta found few (in_window no_hint l) = inr (
  taken (are_pages (pages_from (page_of addr)
      (placed_count len))) refl,
  least found l,
)
  where
    taken : (b : Bool) → are_pages (pages_from (page_of addr) (placed_count len)) ≡ b
        → IsHintTaken m (if b then Some (pages_from (page_of addr) (placed_count len)) else None)
    taken false e = tt
    taken true e = λ free.
        let count : placed_count len ≡ page_count len = counted len (valid-few (page_of addr) (placed_count len) e) in
        no_hint (subst (λ n. are_pages (pages_from (page_of addr) n) ≡ true) count e, subst (λ n. IsFree m (pages_from (page_of addr) n)) count free)

    least : (found : Option ℕ) → IsLeastRoom m (window_of core) (page_count len) found → IsLeastRoom m (window_of core) (placed_count len) found
    least None none = λ s room. none s (subst (λ n. IsRoom m (window_of core) n s) (counted len (few-found core s (placed_count len) few room.0.high)) room)
    least (Some s) l = subst (λ n. IsLeastRoom m (window_of core) n (Some s))
        (let same : page_count len ≡ placed_count len = omega (arith, few-found core s (page_count len) few l.0.0.high) in same) l

-- ---- replies

-- what a reply says is what it is
pub said_reply : (y : Reply) (found : Option ℕ) → place_said y ≡ Some found → y ≡ reply_at found
said_reply (Mapped addr) found h = go (is_aligned addr) refl h
  where
    go : (b : Bool) → is_aligned addr ≡ b → ◌≡◌ {A = Option (Option ℕ)} (if b then Some (Some (page_of addr)) else None) (Some found)
        → Mapped addr ≡ reply_at found
    go false e h = absurd cc
    go true e h =
        let at : Some (page_of addr) ≡ found = cc in
        let rem : addr % 4096 ≡ 0 = eq_true (addr % 4096) 0 e in
        let whole : addr ≡ page_of addr * 4096 = omega (arith, rem) in
        ap Mapped whole ∙ ap reply_at at
said_reply (Refused EINVAL) found h = absurd cc
said_reply (Refused ENOMEM) found h = let same : None ≡ found = cc in ap reply_at same
said_reply (Refused EACCES) found h = absurd cc
said_reply (Refused EBADF) found h = absurd cc
said_reply (Refused EOVERFLOW) found h = absurd cc
said_reply Done found h = absurd cc
said_reply (Byte byte) found h = absurd cc
said_reply (Segv code) found h = absurd cc
said_reply Bus found h = absurd cc
said_reply NoFrame found h = absurd cc
said_reply NoMemory found h = absurd cc

pub reply_said : (found : Option ℕ) → place_said (reply_at found) ≡ Some found
reply_said None = refl
reply_said (Some first) =
    let rem : (first * 4096) % 4096 ≡ 0 = omega arith in
    let aligned : is_aligned (first * 4096) ≡ true = ap (λ (n : ℕ). n == 0) rem in
    let same : page_of (first * 4096) ≡ first = omega arith in
    ap (λ b. if b then Some (Some (page_of (first * 4096))) else None) aligned ∙ ap (λ n. Some (Some n)) same
