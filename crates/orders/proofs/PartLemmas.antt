-- Parts of calls, one after another
use Rattle.std.proofs.Common.{◌≡◌, ◌∙◌, ℕ, suc, ◌+◌, ◌<◌, ◌≤◌, Bool, true, false, List, [], ◌∷◌, ◌++◌, append-nil, append_assoc, ap, arith, drop}
use Rattle.std.proofs.Common.{get_or, length, not, refl, subst, sym}
use Rattle.std.proofs.lemmas.List.{drop_all, drop_more}
use Rattle.orders.specs.declared.history.Timed.{Timed}
use Rattle.audit.specs.declared.auditor.Call.{Call}
use Rattle.orders.specs.Pages.{AreChosen, IsChosen, is_refused, itself, page_call, pages_below, part_of_page, parts_from, parts_of, stays, stretch_of, whole}
use Rattle.orders.specs.declared.pages.Stretch.{Stretch}
use Rattle.orders.specs.declared.splitting.Part.{Part}

-- ---- pages of one call

-- the call of a page, put together
abbrev pub part_with : ℕ → Timed → Call → Bool → Part
part_with n c call sure = record { timed = record { begin = c.begin; end = c.end; call = call }; of = n; is_sure = sure }

pub page_is : (n : ℕ) (c : Timed) (k : ℕ) (s : Stretch) (call : Call) (refused : Bool) → s ≡ stretch_of c.call → call ≡ page_call c.call s.start k
    → refused ≡ is_refused c.call.reply
    → part_with n c call (not refused) ≡ part_of_page n c k
page_is n c k s call refused e f g =
    ap (λ (x : Call). part_with n c x (not refused)) (f ∙ ap (λ (x : Stretch). page_call c.call x.start k) e)
    ∙ ap (λ (b : Bool). part_with n c (page_call c.call (stretch_of c.call).start k) (not b)) g

pub one_page_more : (n : ℕ) (c : Timed) (k : ℕ) (old now new : List Part) (p : Part) → p ≡ part_of_page n c k → now ≡ old ++ pages_below n c k
    → new ≡ now ++ p ∷ [] → new ≡ old ++ pages_below n c (k + 1)
one_page_more n c k old now new p is so added =
    let next : suc k ≡ k + 1 = omega arith in
    added ∙ ap (λ (l : List Part). l ++ p ∷ []) so ∙ ap (λ (q : Part). (old ++ pages_below n c k) ++ q ∷ []) is
    ∙ append_assoc old (pages_below n c k) (part_of_page n c k ∷ []) ∙ ap (λ (m : ℕ). old ++ pages_below n c m) next

-- ---- parts of one call

pub behind_itself : (n : ℕ) (c : Timed) (old now new : List Part) (is : Bool) → is ≡ stays c.call.reply (stretch_of c.call) → is ≡ true
    → now ≡ old ++ whole n c ∷ [] → new ≡ now ++ pages_below n c (stretch_of c.call).count → new ≡ old ++ parts_of n c
behind_itself n c old now new is e there so added =
    let here : itself n c ≡ whole n c ∷ [] = rw (sym e ∙ there) refl in
    added ∙ ap (λ (l : List Part). l ++ pages_below n c (stretch_of c.call).count) so
    ∙ append_assoc old (whole n c ∷ []) (pages_below n c (stretch_of c.call).count)
    ∙ ap (λ (l : List Part). old ++ (l ++ pages_below n c (stretch_of c.call).count)) (sym here)

pub pages_alone : (n : ℕ) (c : Timed) (old new : List Part) (is : Bool) → is ≡ stays c.call.reply (stretch_of c.call) → is ≡ false
    → new ≡ old ++ pages_below n c (stretch_of c.call).count → new ≡ old ++ parts_of n c
pages_alone n c old new is e absent added =
    let here : itself n c ≡ [] = rw (sym e ∙ absent) refl in
    added ∙ ap (λ (l : List Part). old ++ (l ++ pages_below n c (stretch_of c.call).count)) (sym here)

-- ---- parts of all

pub one_call_more : (now new all : List Part) (at : ℕ) (c : Timed) (history : List Timed) → at < length history → c ≡ get_or history at c
    → new ≡ now ++ parts_of at c → now ++ parts_from at (drop at history) ≡ all → new ++ parts_from (at + 1) (drop (at + 1) history) ≡ all
one_call_more now new all at c history within is added so =
    let rest = drop (at + 1) history in
    let here : drop at history ≡ c ∷ rest = drop_more history at c within ∙ ap (λ (x : Timed). x ∷ rest) (sym is) in
    ap (λ (l : List Part). l ++ parts_from (at + 1) rest) added ∙ append_assoc now (parts_of at c) (parts_from (at + 1) rest)
    ∙ ap (λ (l : List Timed). now ++ parts_from at l) (sym here) ∙ so

pub no_call_more : (now all : List Part) (at : ℕ) (history : List Timed) → length history ≤ at → now ++ parts_from at (drop at history) ≡ all → now ≡ all
no_call_more now all at history past so =
    sym (ap (λ (l : List Timed). now ++ parts_from at l) (drop_all at history past) ∙ append-nil now) ∙ so

-- ---- which took effect

pub one_chosen_more : (parts : List Part) (now new : List Timed) (at : ℕ) (p : Part) (c : Timed) → at < length parts → p ≡ get_or parts at p
    → IsChosen p c → new ≡ now ++ c ∷ [] → ((rest : List Timed) → AreChosen (drop at parts) rest → AreChosen parts (now ++ rest))
    → (rest : List Timed) → AreChosen (drop (at + 1) parts) rest → AreChosen parts (new ++ rest)
one_chosen_more parts now new at p c within is one added so rest h =
    let here : drop at parts ≡ p ∷ drop (at + 1) parts = drop_more parts at p within ∙ ap (λ (x : Part). x ∷ drop (at + 1) parts) (sym is) in
    let held : AreChosen parts (now ++ c ∷ rest) = so (c ∷ rest) (subst (λ (l : List Part). AreChosen l (c ∷ rest)) (sym here) (one, h)) in
    subst (λ (l : List Timed). AreChosen parts l) (sym (ap (λ (l : List Timed). l ++ rest) added ∙ append_assoc now (c ∷ []) rest)) held

pub all_chosen : (parts : List Part) (calls : List Timed) (at : ℕ) → length parts ≤ at
    → ((rest : List Timed) → AreChosen (drop at parts) rest → AreChosen parts (calls ++ rest)) → AreChosen parts calls
all_chosen parts calls at past so =
    subst (λ (l : List Timed). AreChosen parts l) (append-nil calls) (so [] (subst (λ (l : List Part). AreChosen l []) (sym (drop_all at parts past)) tt))
