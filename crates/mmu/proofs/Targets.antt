-- Messages that go out one by one, from the least core on
use Rattle.std.proofs.Common.{◌≡◌, ◌≢◌, ℕ, ◌+◌, ◌<◌, ◌≤◌, ◌==◌, Bool, true, false, cond, ◌&&◌, not, List, [], ◌∷◌, ◌++◌, refl, sym, ap, arith, ◌⊎◌, inl, inr}
use Rattle.std.proofs.Math.Path.{fun_ext}
use Rattle.std.proofs.lemmas.Bool.{cases_lt}
use Rattle.vm_base.specs.declared.page.PageRange.{PageRange}
use Rattle.vm_base.specs.Functions.{put}
use Rattle.vm_base.proofs.Functions.{by_test, put_all, eq_false}
use Rattle.mmu.specs.declared.message.Message.{Message}
use Rattle.mmu.specs.Messages.{posted}
use Rattle.mmu.proofs.Senders.{test_of, test_itself}

-- those of a set that are not left
abbrev pub done : (ℕ → Bool) → (ℕ → Bool) → ℕ → Bool
done to left d = to d && not (left d)

abbrev pub sent_to : ℕ → PageRange → (ℕ → Bool) → (ℕ → List Message) → ℕ → List Message
sent_to from range s inbox d = cond (s d) (inbox d ++ posted from range ∷ []) (inbox d)

-- one message more
pub sent_next : (from : ℕ) (range : PageRange) (to left : ℕ → Bool) (inbox : ℕ → List Message) (t : ℕ) → to t ≡ true → left t ≡ true
    → put (sent_to from range (done to left) inbox) t (sent_to from range (done to left) inbox t ++ posted from range ∷ []) ≡ sent_to from
    range (done to (put left t false)) inbox
sent_next from range to left inbox t e g = fun_ext (put_all (λ d ms. ms ≡ sent_to from range (done to (put left t false)) inbox d)
    (sent_to from range (done to left) inbox) t _ here there)
  where
    here : sent_to from range (done to left) inbox t ++ posted from range ∷ [] ≡ sent_to from range (done to (put left t false)) inbox t
    here = rw (e, g, test_itself t) refl

    there : (d : ℕ) → d ≢ t → sent_to from range (done to left) inbox d ≡ sent_to from range (done to (put left t false)) inbox d
    there d ne = rw (test_of d t ne) refl

pub not_done : (to left : ℕ → Bool) (t : ℕ) → left t ≡ true → done to left t ≡ false
not_done to left t g = by (to t)
  where
    by : (b : Bool) → b && not (left t) ≡ false
    by true = ap not g
    by false = refl

-- none are left
pub all_done : (from : ℕ) (range : PageRange) (to left : ℕ → Bool) (inbox : ℕ → List Message) → ((k : ℕ) → left k ≡ false)
    → sent_to from range (done to left) inbox ≡ sent_to from range to inbox
all_done from range to left inbox none = fun_ext (λ d. ap (λ b. cond b (inbox d ++ posted from range ∷ []) (inbox d)) (go d (to d)))
  where
    go : (d : ℕ) (b : Bool) → b && not (left d) ≡ b
    go d true = ap not (none d)
    go d false = refl

-- none is done
pub none_done : (from : ℕ) (range : PageRange) (to : ℕ → Bool) (inbox : ℕ → List Message) → inbox ≡ sent_to from range (done to to) inbox
none_done from range to inbox = fun_ext (λ d. ap (λ b. cond b (inbox d ++ posted from range ∷ []) (inbox d)) (sym (go d (to d))))
  where
    go : (d : ℕ) (b : Bool) → b && not b ≡ false
    go d true = refl
    go d false = refl

-- the least that is left lies past all that are done
pub passed_next : (left : ℕ → Bool) (turn t : ℕ) → ((k : ℕ) → k < turn → left k ≡ false) → left t ≡ true
    → ((k : ℕ) → k < t → left k ≡ false) → (k : ℕ) → k < turn + 1 → put left t false k ≡ false
passed_next left turn t passed here least = λ k lt. by_test (λ b. b ≡ false) (k == t) false (left k) (λ e. refl) (λ e. at k lt (eq_false k t e) (cases_lt k t))
  where
    at : (k : ℕ) → k < turn + 1 → k ≢ t → (k < t) ⊎ (t ≤ k) → left k ≡ false
    at k lt ne (inl s) = least k s
    at k lt ne (inr s) = absurd (false_here (passed t (omega arith)))
      where
        false_here : left t ≡ false → ⊥
        false_here f = cc
