-- How messages that are sent or taken change who waits for whom
use Rattle.std.proofs.Common.{◌≡◌, ◌≢◌, ℕ, ◌<◌, ◌==◌, Bool, true, false, cond, ◌||◌, List, [], ◌∷◌, ◌++◌, length, Option, None, Some}
use Rattle.std.proofs.Common.{is_some, refl, sym, ap, ◌∙◌, subst, arith, get_or, zero, suc, replicate}
use Rattle.std.proofs.Math.ListN.{set}
use Rattle.std.proofs.Math.Path.{fun_ext}
use Rattle.std.proofs.lemmas.List.{get_or-set_same, get_or-set_other}
use Rattle.std.proofs.lemmas.Nat.Bits.{bit_at-zero}
use Rattle.vm_base.specs.declared.page.PageRange.{PageRange}
use Rattle.vm_base.specs.Functions.{put}
use Rattle.vm_base.specs.Cores.{members}
use Rattle.vm_base.proofs.Functions.{put_same, put_other, eq_true, eq_false}
use Rattle.mmu.specs.declared.message.Message.{Message}
use Rattle.mmu.specs.Messages.{InboxOf, message_of, posted, remaining, waiter, AreFromOthers}
use Rattle.mmu.specs.Inboxes.{inbox, owner, sent, awaited, acknowledged, AreIndexed}
use Rattle.mmu.proofs.Senders.{message_of-push, test_itself}

-- ---- what is sent

is_push : (ms : List Message) (m : Message) (c : ℕ) → is_some (message_of (ms ++ m ∷ []) c) ≡ is_some (message_of ms c) || (m.from == c)
is_push ms m c = ap is_some (message_of-push ms m c) ∙ by (message_of ms c) (m.from == c)
  where
    by : (o : Option Message) (b : Bool) → is_some (cond (is_some o) o (cond b (Some m) None)) ≡ is_some o || b
    by None true = refl
    by None false = refl
    by (Some x) b = refl

or_false : (b : Bool) → b || false ≡ b
or_false true = refl
or_false false = refl

-- the sender waits for those that it sent to
sent_own : (f : ℕ → List Message) (from to : ℕ) (range : PageRange) → ((d : ℕ) → awaited f from d ≡ false) → members to ≡ awaited (sent from to range f) from
sent_own f from to range idle = fun_ext (λ d. by d (members to d))
  where
    by : (d : ℕ) (b : Bool) → b ≡ is_some (message_of (cond b (f d ++ posted from range ∷ []) (f d)) from)
    by d true = sym (is_push (f d) (posted from range) from ∙ rw (idle d) (test_itself from))
    by d false = sym (idle d)

-- the others wait for whom they did
sent_other : (f : ℕ → List Message) (from to : ℕ) (range : PageRange) (c : ℕ) → (from == c) ≡ false → awaited f c ≡ awaited (sent from to range f) c
sent_other f from to range c ne = fun_ext (λ d. by d (members to d))
  where
    by : (d : ℕ) (b : Bool) → is_some (message_of (f d) c) ≡ is_some (message_of (cond b (f d ++ posted from range ∷ []) (f d)) c)
    by d true = sym (is_push (f d) (posted from range) c ∙ rw ne (or_false (is_some (message_of (f d) c))))
    by d false = refl

pub index_sent : (old new : List InboxOf) (waits : List ℕ) (from to : ℕ) (range : PageRange) → AreIndexed old waits → length waits ≡ 64
    → from < 64 → length new ≡ length old → owner new ≡ owner old → inbox new ≡ sent from to range (inbox old)
    → ((d : ℕ) → awaited (inbox old) from d ≡ false) → AreIndexed new (set waits from to)
index_sent old new waits from to range i n lt len own ms idle = record {
  own = λ d h. ap (λ f. f d) own ∙ i.own d (omega arith);
  kept = λ c h. rw ms (kept c h (from == c) refl);
}
  where
    kept : (c : ℕ) → c < 64 → (b : Bool) → (from == c) ≡ b → members (get_or (set waits from to) c 0) ≡ awaited (sent from to range (inbox old)) c
    kept c h true e = rw (← (eq_true from c e)) (ap members (get_or-set_same waits from to 0 (omega arith)) ∙ sent_own (inbox old) from to range idle)
    kept c h false e = ap members (get_or-set_other waits from c to 0 (λ s. eq_false from c e (sym s))) ∙ i.kept c h ∙ sent_other (inbox old) from to range c e

-- ---- what is taken

-- a message is acknowledged by its sender's set, and by no other
taken_one : (ms : List Message) (o c : ℕ) → AreFromOthers o ms → (f : ℕ → Bool) (d : ℕ) → f d ≡ is_some (message_of ms c)
    → acknowledged f (waiter ms) d c d ≡ is_some (message_of (remaining ms) c)
taken_one [] o c others f d e = e
taken_one (m ∷ ms) o c others f d e = by m.is_cleared
  where
    gone : (b : Bool) → (m.from == c) ≡ b → f d ≡ is_some (cond b (Some m) (message_of ms c)) → cond b (put f d false) f d ≡ is_some (message_of ms c)
    gone true t g = put_same f d false ∙ sym (ap is_some (subst (λ n. message_of ms n ≡ None) (eq_true m.from c t) others.2))
    gone false t g = g

    marked : (b : Bool) → f d ≡ is_some (cond b (Some m) (message_of ms c)) → f d ≡ is_some (cond b (Some (record m { is_cleared = true })) (message_of ms c))
    marked true g = g
    marked false g = g

    by : (b : Bool) → acknowledged f (cond b (Some m.from) None) d c d ≡ is_some (message_of (cond b ms (record m { is_cleared = true } ∷ ms)) c)
    by true = gone (m.from == c) refl e
    by false = marked (m.from == c) e

-- the sets of the other cores stay
taken_other : (w : Option ℕ) (f : ℕ → Bool) (core c d : ℕ) → d ≢ core → acknowledged f w core c d ≡ f d
taken_other None f core c d ne = refl
taken_other (Some x) f core c d ne = by (x == c)
  where
    by : (b : Bool) → cond b (put f core false) f d ≡ f d
    by true = put_other f core false d ne
    by false = refl

pub index_taken : (old new : List InboxOf) (waits left : List ℕ) (core o : ℕ) → AreIndexed old waits → length new ≡ length old
    → owner new ≡ owner old → inbox new ≡ put (inbox old) core (remaining (inbox old core)) → AreFromOthers o (inbox old core)
    → ((c : ℕ) → c < 64 → members (get_or left c 0) ≡ acknowledged (members (get_or waits c 0)) (waiter (inbox old core)) core c) → AreIndexed new left
index_taken old new waits left core o i len own ms others kept = record {
  own = λ d h. ap (λ f. f d) own ∙ i.own d (omega arith);
  kept = λ c h. kept c h ∙ fun_ext (λ d. at c h d (d == core) refl);
}
  where
    at : (c : ℕ) → c < 64 → (d : ℕ) (b : Bool) → (d == core) ≡ b → acknowledged (members (get_or waits c 0))
        (waiter (inbox old core)) core c d ≡ awaited (inbox new) c d
    at c h d true e = rw (eq_true d core e) (taken_one (inbox old core) o c others (members (get_or waits c 0)) core
        (ap (λ f. f core) (i.kept c h))
        ∙ ap (λ x. is_some (message_of x c)) (sym (ap (λ f. f core) ms ∙ put_same (inbox old) core (remaining (inbox old core)))))
    at c h d false e = taken_other (waiter (inbox old core)) (members (get_or waits c 0)) core c d (eq_false d core e)
        ∙ ap (λ f. f d) (i.kept c h)
        ∙ ap (λ x. is_some (message_of x c))
        (sym (ap (λ f. f d) ms ∙ put_other (inbox old) core (remaining (inbox old core)) d (eq_false d core e)))

-- ---- at the start

pub empty_sets : (n : ℕ) (x : ℕ) → x ≡ 0 → (c d : ℕ) → members (get_or (replicate n x) c 0) d ≡ false
empty_sets zero x e c d = ap (λ b. b == 1) (bit_at-zero d)
empty_sets (suc n) x e zero d = rw e (ap (λ b. b == 1) (bit_at-zero d))
empty_sets (suc n) x e (suc c) d = empty_sets n x e c d
