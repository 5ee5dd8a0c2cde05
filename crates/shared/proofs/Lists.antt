-- The calls of a core in a log, as it grows
use Rattle.machine_model.proofs.Words.{◌≡◌, ◌≢◌, ℕ, ◌==◌, Bool, true, false, cond, refl, sym, ap, Some, None, Option, [], ◌∷◌, ◌++◌, ◌∙◌}
use Rattle.machine_model.proofs.Words.{List, length, take, append-nil, Request, Reply, Entry, nth}
use Rattle.machine_model.proofs.Words.{Plain, Replays}
use Rattle.std.proofs.Common.{eq-eqb, ne_eqb}
use Rattle.machine_model.proofs.Numbered.{at_old}
use Rattle.vm_base.specs.declared.log.Entry.TheVariants.{Answer, Detach}
use Rattle.shared.specs.declared.history.SeenLog.{SeenLog}
use Rattle.shared.specs.declared.history.Replied.{Replied}
use Rattle.shared.specs.Histories.{Begins, replied, replied_in, with_reply}

-- ---- beginnings

pub begins_self : {A : Type 0} (xs : List A) → take (length xs) xs ≡ xs
begins_self [] = refl
begins_self (x ∷ xs) = ap (λ l. x ∷ l) (begins_self xs)

pub begins_more : {A : Type 0} (xs ys : List A) → take (length xs) (xs ++ ys) ≡ xs
begins_more [] ys = refl
begins_more (x ∷ xs) ys = ap (λ l. x ∷ l) (begins_more xs ys)

-- what a list begins, a longer one begins too
pub begins_trans : {A : Type 0} (xs ys zs : List A) → take (length xs) ys ≡ xs → take (length ys) zs ≡ ys → take (length xs) zs ≡ xs
begins_trans [] ys zs e f = refl
begins_trans (x ∷ xs) [] zs e f = absurd cc
begins_trans (x ∷ xs) (y ∷ ys) [] e f = absurd cc
begins_trans {A = A} (x ∷ xs) (y ∷ ys) (z ∷ zs) e f =
    let a : y ≡ x = cc in
    let b : take (length xs) ys ≡ xs = cc in
    let c : z ≡ y = cc in
    let d : take (length ys) zs ≡ ys = cc in
    ap (λ (p : A × List A). p.0 ∷ p.1) (λ i. ((c ∙ a) i, begins_trans xs ys zs b d i))

pub begins_through : (h k l : SeenLog) → Begins h k → Begins k l → Begins h l
begins_through h k l b c = (begins_trans h.requests k.requests l.requests b.0 c.0, begins_trans h.entries k.entries l.entries b.1 c.1)

-- ---- calls

with_more : (b : Bool) (o : Option Request) (reply : Reply) (r p q : List Replied) → r ≡ p ++ q
    → cond b (with_reply o reply r) r ≡ cond b (with_reply o reply p) p ++ q
with_more true None reply r p q e = e
with_more true (Some request) reply r p q e = ap (λ l. replied request reply ∷ l) e
with_more false o reply r p q e = e

pub replied_more : (d : ℕ) (rs : List Request) (es fs : List Entry) → replied_in d rs (es ++ fs) ≡ replied_in d rs es ++ replied_in d rs fs
replied_more d rs [] fs = refl
replied_more d rs (Answer step call by reply ∷ es) fs =
    with_more (by == d) (nth rs call) reply (replied_in d rs (es ++ fs)) (replied_in d rs es) (replied_in d rs fs) (replied_more d rs es fs)
replied_more d rs (Detach step call page ∷ es) fs = replied_more d rs es fs

-- a copy is no reply
pub copy_more : (d : ℕ) (rs : List Request) (es : List Entry) (step call page : ℕ) → replied_in d rs (es ++ Detach step call page ∷ []) ≡ replied_in d rs es
copy_more d rs es step call page = replied_more d rs es (Detach step call page ∷ []) ∙ append-nil (replied_in d rs es)

-- a reply to a call whose request is known
pub own_more : (c : ℕ) (rs : List Request) (es : List Entry) (step call : ℕ) (request : Request) (reply : Reply) → nth rs call ≡ Some request
    → replied_in c rs (es ++ Answer step call c reply ∷ []) ≡ replied_in c rs es ++ replied request reply ∷ []
own_more c rs es step call request reply e =
    replied_more c rs es (Answer step call c reply ∷ [])
    ∙ ap (λ (p : Bool × Option Request). replied_in c rs es ++ cond p.0 (with_reply p.1 reply []) []) (λ i. (eq-eqb c c refl i, e i))

-- one to another core's
pub other_more : (c d : ℕ) (rs : List Request) (es : List Entry) (step call : ℕ) (reply : Reply) → d ≢ c
    → replied_in d rs (es ++ Answer step call c reply ∷ []) ≡ replied_in d rs es
other_more c d rs es step call reply ne =
    replied_more d rs es (Answer step call c reply ∷ [])
    ∙ (ap (λ b. replied_in d rs es ++ cond b (with_reply (nth rs call) reply []) []) (ne_eqb c d (λ e. ne (sym e))) ∙ append-nil (replied_in d rs es))

-- ---- requests

-- each answer is of a call whose request is known
abbrev pub AllKnown : List Request → List Entry → Type 0
AllKnown rs [] = Unit {0}
AllKnown rs (Answer step call by reply ∷ es) = ((request : Request) × (nth rs call ≡ Some request)) × AllKnown rs es
AllKnown rs (Detach step call page ∷ es) = AllKnown rs es

pub led_known : (rs : List Request) (es : List Entry) (t u : Plain) → Replays rs t es u → AllKnown rs es
led_known rs [] t u h = tt
led_known rs (Answer step call by reply ∷ es) t u h = ((h.1.0, h.1.1), led_known rs es h.0 u h.2)
led_known rs (Detach step call page ∷ es) t u h = led_known rs es h.0 u h.2

-- one request more changes no call that was replied
pub request_more : (d : ℕ) (rs : List Request) (r : Request) (es : List Entry) → AllKnown rs es → replied_in d (rs ++ r ∷ []) es ≡ replied_in d rs es
request_more d rs r [] k = refl
request_more d rs r (Answer step call by reply ∷ es) k =
    ap (λ (p : Option Request × List Replied). cond (by == d) (with_reply p.0 reply p.1) p.1)
    (λ i. ((at_old rs r call k.0.0 k.0.1 ∙ sym k.0.1) i, request_more d rs r es k.1 i))
request_more d rs r (Detach step call page ∷ es) k = request_more d rs r es k
