-- Functions that are changed at one place and back
use Rattle.slot_lock.proofs.Words.{◌≡◌, ◌==◌, ◌∙◌, ℕ, Bool, true, false, cond, Option, ap, fun_ext, refl, sym, by_test, eq_true, put}
use Rattle.vm_base.specs.Plain.{PageEntry, Plain}
use Rattle.loose_orders.specs.Loose.{with_entry}

pub put_put : {V : Type 0} (f : ℕ → V) (k : ℕ) (v w : V) → put (put f k v) k w ≡ put f k w
put_put {V} f k v w = fun_ext (λ j. go (j == k) (f j))
  where
    go : (b : Bool) (x : V) → cond b w (cond b v x) ≡ cond b w x
    go true x = refl
    go false x = refl

pub put_back : {V : Type 0} (f : ℕ → V) (k : ℕ) (v : V) → v ≡ f k → put f k v ≡ f
put_back {V} f k v e = fun_ext (λ j. by_test (λ x. x ≡ f j) (j == k) v (f j) (λ t. e ∙ ap f (sym (eq_true j k t))) (λ t. refl))

-- a page that gets an entry, and then its own again
pub entry_back : (t : Plain) (page : ℕ) (e : Option PageEntry) → with_entry (with_entry t page e) page (t.entry page) ≡ t
entry_back t page e =
    ap (λ (f : ℕ → Option PageEntry). record t { entry = f }) (put_put t.entry page e (t.entry page) ∙ put_back t.entry page (t.entry page) refl)

-- the same by way of a third
pub entries_back : (t : Plain) (page : ℕ) (e f : Option PageEntry) → with_entry (with_entry (with_entry t page e) page f) page (t.entry page) ≡ t
entries_back t page e f =
    ap (λ (g : ℕ → Option PageEntry). record t { entry = put g page (t.entry page) }) (put_put t.entry page e f) ∙ entry_back t page f
