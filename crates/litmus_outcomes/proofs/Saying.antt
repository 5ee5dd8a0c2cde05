-- What is left to be said of a script, once some of its calls have a reply
use Rattle.std.proofs.Common.{◌≡◌, ◌≢◌, ℕ, zero, suc, ◌<◌, ◌==◌, Bool, true, false, List, [], ◌∷◌, ◌++◌, length, map, replicate, set, slice_get}
use Rattle.std.proofs.Common.{Option, Some, None, refl, sym, ◌∙◌, ap, subst, arith, cond}
use Rattle.vm_base.proofs.Functions.{eq_true, eq_false}
use Rattle.vm_base.specs.declared.replies.Reply.{Reply}
use Rattle.vm_base.specs.declared.requests.Request.{Request}
use Rattle.litmus_merges.specs.declared.asked.Asked.{Asked}
use Rattle.litmus_merges.specs.Merging.{IsNext}
use Rattle.litmus_outcomes.specs.Performed.{Said, said_of, scripted}
use Rattle.litmus_outcomes.specs.Performed.Said.{Asks, Tells}

-- the calls without a reply, and the replies that they are to have
abbrev pub untold : ℕ → List Asked → List (Option Reply) → List Reply → List Said
untold core [] told replies = []
untold core (call ∷ calls) [] replies = []
untold core (call ∷ calls) (o ∷ told) [] = []
untold core (call ∷ calls) (None ∷ told) (reply ∷ replies) = said_of core call reply ++ untold core calls told replies
untold core (call ∷ calls) (Some z ∷ told) (reply ∷ replies) = untold core calls told replies

-- at first that is all
pub at_first : (core : ℕ) (calls : List Asked) (replies : List Reply) → untold core calls (replicate (length calls) None) replies ≡ scripted core calls replies
at_first core [] replies = refl
at_first core (call ∷ calls) [] = refl
at_first core (call ∷ calls) (reply ∷ replies) = ap (λ (l : List Said). said_of core call reply ++ l) (at_first core calls replies)

-- the core's next call, and what is left to be said once it has a reply
pub record NextCall (core : ℕ) (calls : List Asked) (told : List (Option Reply)) (replies : List Reply) (q : Request) (rest : List Said) : Type 0 where
  pub at : ℕ
  pub call : Asked
  pub next : IsNext calls told at call
  pub of : call.core ≡ core
  pub asks : call.request ≡ q
  pub reply : Reply
  pub due : slice_get replies at ≡ Some reply
  pub tells : (z : Reply) → rest ≡ Tells reply ∷ untold core calls (set told at (Some z)) replies

-- one call more in front, which isn't the next of the core
behind : (core : ℕ) (calls : List Asked) (told : List (Option Reply)) (replies : List Reply) (q : Request) (rest : List Said) (call : Asked)
    (o : Option Reply) (y : Reply) → ((call.core ≡ core) → o ≢ None)
    → ((t : List (Option Reply)) → untold core (call ∷ calls) (o ∷ t) (y ∷ replies) ≡ untold core calls t replies) → NextCall core calls told replies q rest
    → NextCall core (call ∷ calls) (o ∷ told) (y ∷ replies) q rest
behind core calls told replies q rest call o y not-next same n = record {
  at = suc n.at;
  call = n.call;
  next = record { is_call = n.next.is_call; untold = n.next.untold; earlier = earlier };
  of = n.of;
  asks = n.asks;
  reply = n.reply;
  due = n.due;
  tells = λ z. n.tells z ∙ ap (λ (l : List Said). Tells n.reply ∷ l) (sym (same (set told n.at (Some z))));
}
  where
    earlier : (k : ℕ) (other : Asked) → k < suc n.at → slice_get (call ∷ calls) k ≡ Some other → other.core ≡ n.call.core → slice_get (o ∷ told) k ≢ Some None
    earlier zero other less is same-core e =
        let one : call ≡ other = cc in
        let none : o ≡ None = cc in
        not-next (ap (λ (a : Asked). a.core) one ∙ (same-core ∙ n.of)) none
    earlier (suc k) other less is same-core e = n.next.earlier k other (omega arith) is same-core e

pub next_call : (core : ℕ) (calls : List Asked) (told : List (Option Reply)) (replies : List Reply) (q : Request) (rest : List Said)
    → Asks q ∷ rest ≡ untold core calls told replies → NextCall core calls told replies q rest
next_call core [] told replies q rest e = absurd cc
next_call core (call ∷ calls) [] replies q rest e = absurd cc
next_call core (call ∷ calls) (o ∷ told) [] q rest e = absurd cc
next_call core (call ∷ calls) (Some z ∷ told) (y ∷ replies) q rest e =
    behind core calls told replies q rest call (Some z) y (λ s i. absurd cc) (λ t. refl) (next_call core calls told replies q rest e)
next_call core (call ∷ calls) (None ∷ told) (y ∷ replies) q rest e =
    by (λ e'. next_call core calls told replies q rest e') (call.core == core) refl e
  where
    here : call.core ≡ core → Asks q ∷ rest ≡ Asks call.request ∷ Tells y ∷ untold core calls told replies
        → NextCall core (call ∷ calls) (None ∷ told) (y ∷ replies) q rest
    here of e' = record {
      at = zero;
      call = call;
      next = record { is_call = refl; untold = refl; earlier = λ k other less is s. absurd (omega arith) };
      of = of;
      asks = cc;
      reply = y;
      due = refl;
      tells = λ z. cc;
    }

    by : (Asks q ∷ rest ≡ untold core calls told replies → NextCall core calls told replies q rest) → (b : Bool) → (call.core == core) ≡ b → Asks q ∷ rest ≡ cond b (Asks call.request ∷ Tells y ∷ []) [] ++ untold core calls told replies
        → NextCall core (call ∷ calls) (None ∷ told) (y ∷ replies) q rest
    by on true b e' = here (eq_true call.core core b) e'
    by on false b e' = behind core calls told replies q rest call None y (λ s i. eq_false call.core core b s)
        (λ t. ap (λ (v : Bool). cond v (Asks call.request ∷ Tells y ∷ []) [] ++ untold core calls t replies) b) (on e')

-- what is left for other cores stays
pub others_stay : (core : ℕ) (calls : List Asked) (told : List (Option Reply)) (replies : List Reply) (at : ℕ) (call : Asked) (z : Reply)
    → slice_get calls at ≡ Some call → call.core ≢ core → untold core calls (set told at (Some z)) replies ≡ untold core calls told replies
others_stay core [] told replies at call z is other = refl
others_stay core (a ∷ calls) [] replies at call z is other = refl
others_stay core (a ∷ calls) (o ∷ told) [] zero call z is other = refl
others_stay core (a ∷ calls) (o ∷ told) [] (suc at) call z is other = refl
others_stay core (a ∷ calls) (Some x ∷ told) (y ∷ replies) zero call z is other = refl
others_stay core (a ∷ calls) (None ∷ told) (y ∷ replies) zero call z is other =
    let one : a ≡ call = cc in
    let not-core : a.core ≢ core = λ e. other (sym (ap (λ (c : Asked). c.core) one) ∙ e) in
    by not-core (a.core == core) refl
  where
    by : a.core ≢ core → (b : Bool) → (a.core == core) ≡ b → untold core calls told replies ≡ cond b (Asks a.request ∷ Tells y ∷ []) [] ++ untold core calls told replies
    by n true b = absurd (n (eq_true a.core core b))
    by n false b = refl
others_stay core (a ∷ calls) (Some x ∷ told) (y ∷ replies) (suc at) call z is other = others_stay core calls told replies at call z is other
others_stay core (a ∷ calls) (None ∷ told) (y ∷ replies) (suc at) call z is other =
    ap (λ (l : List Said). said_of core a y ++ l) (others_stay core calls told replies at call z is other)

-- ---- replies that were told are those of the script

abbrev pub Agrees : List (Option Reply) → List Reply → Type 0
Agrees told replies = (k : ℕ) (z : Reply) → slice_get told k ≡ Some (Some z) → slice_get replies k ≡ Some z

pub none_agrees : (n : ℕ) (replies : List Reply) → Agrees (replicate n None) replies
none_agrees n replies k z e = absurd (no n k e)
  where
    no : (n k : ℕ) → slice_get (replicate n None) k ≡ Some (Some z) → ⊥
    no zero k e = cc
    no (suc n) zero e = cc
    no (suc n) (suc k) e = no n k e

pub agrees_more : (told : List (Option Reply)) (replies : List Reply) (at : ℕ) (y : Reply) → Agrees told replies → slice_get replies at ≡ Some y
    → Agrees (set told at (Some y)) replies
agrees_more told replies at y agrees due k z e = go told at k due-at agrees-at e
  where
    due-at : at ≡ k → slice_get replies k ≡ Some y
    due-at same = subst (λ (n : ℕ). slice_get replies n ≡ Some y) same due

    agrees-at : slice_get told k ≡ Some (Some z) → slice_get replies k ≡ Some z
    agrees-at = agrees k z

    go : (t : List (Option Reply)) (i j : ℕ) → (i ≡ j → slice_get replies k ≡ Some y) → (slice_get t j ≡ Some (Some z) → slice_get replies k ≡ Some z)
        → slice_get (set t i (Some y)) j ≡ Some (Some z) → slice_get replies k ≡ Some z
    go [] i j here there e = there e
    go (o ∷ t) zero zero here there e = let same : y ≡ z = cc in here refl ∙ ap Some same
    go (o ∷ t) zero (suc j) here there e = there e
    go (o ∷ t) (suc i) zero here there e = there e
    go (o ∷ t) (suc i) (suc j) here there e = go t i j (λ s. here (ap suc s)) there e

-- nothing is left to be said
pub all_told : (calls : List Asked) (told : List (Option Reply)) (replies : List Reply) → length told ≡ length calls → length replies ≡ length calls
    → Agrees told replies → ((core : ℕ) → [] ≡ untold core calls told replies) → told ≡ map Some replies
all_told [] [] [] l m agrees none = refl
all_told [] (o ∷ told) replies l m agrees none = absurd (omega (arith, l))
all_told [] [] (y ∷ replies) l m agrees none = absurd (omega (arith, m))
all_told (call ∷ calls) [] replies l m agrees none = absurd (omega (arith, l))
all_told (call ∷ calls) (o ∷ told) [] l m agrees none = absurd (omega (arith, m))
all_told (call ∷ calls) (None ∷ told) (y ∷ replies) l m agrees none = absurd (by (call.core == call.core) refl (none call.core))
  where
    by : (b : Bool) → (call.core == call.core) ≡ b → [] ≡ cond b (Asks call.request ∷ Tells y ∷ []) [] ++ untold call.core calls told replies → ⊥
    by true b e = cc
    by false b e = eq_false call.core call.core b refl
all_told (call ∷ calls) (Some z ∷ told) (y ∷ replies) l m agrees none =
    let first : Some y ≡ Some z = agrees zero z refl in
    let same : z ≡ y = cc in
    let rest : told ≡ map Some replies = all_told calls told replies (omega (arith, l)) (omega (arith, m)) (λ k x e. agrees (suc k) x e) none in
    ap (λ (w : Reply). Some w ∷ told) same ∙ ap (λ (t : List (Option Reply)). Some y ∷ t) rest

pub set_again : (told : List (Option Reply)) (at : ℕ) → slice_get told at ≡ Some None → set told at None ≡ told
set_again [] at e = refl
set_again (o ∷ told) zero e = let same : None ≡ o = cc in ap (λ (x : Option Reply). x ∷ told) same
set_again (o ∷ told) (suc at) e = ap (λ (t : List (Option Reply)). o ∷ t) (set_again told at e)
