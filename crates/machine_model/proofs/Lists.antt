-- Lists of which each is such, TLBs that lose and get entries, and the messages of an inbox
use Rattle.machine_model.proofs.Words.{◌≡◌, ◌≢◌, ℕ, Bool, true, false, cond, not, ◌==◌, refl, sym, ap, subst, ◌∙◌, Some, None, List, [], ◌∷◌, ◌++◌, length}
use Rattle.machine_model.proofs.Words.{if◌then◌else◌, PageRange, put, has, by_test, eq_true, eq_false, put_other, Translation, TlbEntry, tlb_without, Message}
use Rattle.machine_model.proofs.Words.{message_of, posted, Phase, awaits_in}
use Rattle.std.specs.Prelude.{drop}
use Rattle.mmu.specs.Tlb.{tlb_filled}
use Rattle.machine_model.specs.Coherent.{Every, AreAsked, IsTlbClear}

-- ---- each of a list

pub every_map : {A : Type 0} (P Q : A → Type 0) (xs : List A) → ((x : A) → P x → Q x) → Every P xs → Every Q xs
every_map P Q [] f h = tt
every_map P Q (x ∷ xs) f h = (f x h.0, every_map P Q xs f h.1)

pub every_both : {A : Type 0} (P Q R : A → Type 0) (xs : List A) → ((x : A) → P x → Q x → R x) → Every P xs → Every Q xs
    → Every R xs
every_both P Q R [] f h k = tt
every_both P Q R (x ∷ xs) f h k = (f x h.0 k.0, every_both P Q R xs f h.1 k.1)

pub every_end : {A : Type 0} (P : A → Type 0) (xs : List A) (x : A) → Every P xs → P x → Every P (xs ++ x ∷ [])
every_end P [] x h k = (k, tt)
every_end P (y ∷ xs) x h k = (h.0, every_end P xs x h.1 k)

every_drop : {A : Type 0} (P : A → Type 0) (xs : List A) → Every P xs → Every P (drop 1 xs)
every_drop P [] h = tt
every_drop P (x ∷ xs) h = h.1

-- ---- a TLB

-- what is left isn't of the set
pub every_left : (P Q : TlbEntry → Type 0) (s : ℕ → Bool) (es : List TlbEntry)
    → ((e : TlbEntry) → s e.page ≡ false → P e → Q e) → Every P es → Every Q (tlb_without s es)
every_left P Q s [] f h = tt
every_left P Q s (e ∷ es) f h = go (every_left P Q s es f h.1) (s e.page) refl
  where
    go : Every Q (tlb_without s es) → (b : Bool) → s e.page ≡ b
        → Every Q (if not b then e ∷ tlb_without s es else tlb_without s es)
    go rest true i = rest
    go rest false i = (f e i h.0, rest)

pub every_kept : (P : TlbEntry → Type 0) (s : ℕ → Bool) (es : List TlbEntry) → Every P es → Every P (tlb_without s es)
every_kept P s es h = every_left P P s es (λ e i k. k) h

every_unit : {A : Type 0} (xs : List A) → Every (λ x. Unit {0}) xs
every_unit [] = tt
every_unit (x ∷ xs) = (tt, every_unit xs)

pub none_left : (range : PageRange) (es : List TlbEntry) → IsTlbClear (tlb_without (has range) es) range
none_left range es =
    every_left (λ e. Unit {0}) (λ e. has range e.page ≡ false) (has range) es (λ e i k. i) (every_unit es)

pub every_filled : (P : TlbEntry → Type 0) (p : ℕ) (t : Translation) (es : List TlbEntry) → Every P es
    → P (record { page = p; translation = t }) → Every P (tlb_filled p t es)
every_filled P p t es h k =
    every_end P (if length es == 64 then drop 1 es else es) (record { page = p; translation = t })
    (by_test (Every P) (length es == 64) (drop 1 es) es (λ _. every_drop P es h) (λ _. h)) k

-- ---- the messages of an inbox

-- none is core c's
pub neither : (m : Message) (ms : List Message) (c : ℕ) → message_of (m ∷ ms) c ≡ None
    → (m.from ≢ c) × (message_of ms c ≡ None)
neither m ms c h = go (m.from == c) refl h
  where
    go : (b : Bool) → (m.from == c) ≡ b → (if b then Some m else message_of ms c) ≡ None
        → (m.from ≢ c) × (message_of ms c ≡ None)
    go true i k = absurd cc
    go false i k = (eq_false m.from c i, k)

-- a core that awaits nothing has sent none
pub none_sent : (phase : ℕ → Phase) (c d : ℕ) (ms : List Message) → awaits_in (phase c) ≡ None → AreAsked phase d ms
    → message_of ms c ≡ None
none_sent phase c d [] none h = refl
none_sent phase c d (m ∷ ms) none h =
    by_test (λ o. o ≡ None) (m.from == c) (Some m) (message_of ms c)
    (λ i. absurd (let a = subst (λ x. awaits_in (phase x) ≡ None) (sym (eq_true m.from c i)) none in let b = h.1 in cc))
    (λ i. none_sent phase c d ms none h.3)

-- a call whose core has sent none goes on
pub asked_still : (phase : ℕ → Phase) (c : ℕ) (new : Phase) (d : ℕ) (ms : List Message) → message_of ms c ≡ None
    → AreAsked phase d ms → AreAsked (put phase c new) d ms
asked_still phase c new d [] none h = tt
asked_still phase c new d (m ∷ ms) none h =
    let k = neither m ms c none in
    (h.0, ap awaits_in (put_other phase c new m.from k.0) ∙ h.1, h.2, asked_still phase c new d ms k.1 h.3)

-- ---- core c's message comes behind them

pub posted_other : (c x : ℕ) (range : PageRange) (ms : List Message) → x ≢ c
    → message_of (ms ++ posted c range ∷ []) x ≡ message_of ms x
posted_other c x range [] ne =
    by_test (λ o. o ≡ None) (c == x) (Some (posted c range)) None (λ i. absurd (ne (sym (eq_true c x i)))) (λ i. refl)
posted_other c x range (m ∷ ms) ne = ap (λ o. cond (m.from == x) (Some m) o) (posted_other c x range ms ne)

pub posted_own : (c : ℕ) (range : PageRange) (ms : List Message) → message_of ms c ≡ None
    → message_of (ms ++ posted c range ∷ []) c ≡ Some (posted c range)
posted_own c range [] none =
    by_test (λ o. o ≡ Some (posted c range)) (c == c) (Some (posted c range)) None (λ i. refl)
    (λ i. absurd (eq_false c c i refl))
posted_own c range (m ∷ ms) none =
    let k = neither m ms c none in
    by_test (λ o. o ≡ Some (posted c range)) (m.from == c) (Some m) (message_of (ms ++ posted c range ∷ []) c)
    (λ i. absurd (k.0 (eq_true m.from c i))) (λ i. posted_own c range ms k.1)

pub asked_more : (phase : ℕ → Phase) (c d : ℕ) (range : PageRange) (ms : List Message) → c ≢ d
    → awaits_in (phase c) ≡ Some range → message_of ms c ≡ None → AreAsked phase d ms
    → AreAsked phase d (ms ++ posted c range ∷ [])
asked_more phase c d range [] ne awaits none h = (ne, awaits, refl, tt)
asked_more phase c d range (m ∷ ms) ne awaits none h =
    let k = neither m ms c none in
    (h.0, h.1, posted_other c m.from range ms k.0 ∙ h.2, asked_more phase c d range ms ne awaits k.1 h.3)
