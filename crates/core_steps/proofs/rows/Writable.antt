-- Files that are all open for writing, by their numbers
use Rattle.machine_model.proofs.Words.{◌≡◌, ℕ, zero, suc, ◌+◌, ◌<◌, ◌≤◌, true, false, Option, Some, None, [], ◌∷◌, List, refl, sym, subst, ap, arith}
use Rattle.machine_model.proofs.Words.{inl, inr, ◌⊎◌}
use Rattle.vm_base.specs.declared.rights.Mode.{Mode}
use Rattle.vm_base.specs.Rights.{can_write}
use Rattle.vm_base.specs.Plain.{File, mode_of}
use Rattle.vm_base.specs.Apply.{forbids_write}
use Rattle.frames.specs.Files.{FileParts, files_of}

-- those with a number below are open for writing
abbrev pub AreWritable : (ℕ → Option File) → ℕ → Type 0
AreWritable files n = (k : ℕ) → k < n → forbids_write (files k) ≡ false

pub no_file_before : (files : ℕ → Option File) → AreWritable files 0
no_file_before files k h = absurd (omega (arith, h))

-- a file that is open for writing
allows_write : (o : Option File) (mode : Mode) → mode_of o ≡ Some mode → can_write mode ≡ true → forbids_write o ≡ false
allows_write None mode e h = absurd cc
allows_write (Some f) mode e h = cc

below_or_last : (k n : ℕ) → k < n + 1 → (k < n) ⊎ (k ≡ n)
below_or_last zero zero h = inr refl
below_or_last zero (suc n) h = inl (omega arith)
below_or_last (suc k) zero h = absurd (omega (arith, h))
below_or_last (suc k) (suc n) h = next (below_or_last k n (omega (arith, h)))
  where
    next : (k < n) ⊎ (k ≡ n) → (suc k < suc n) ⊎ (suc k ≡ suc n)
    next (inl l) = inl (omega (arith, l))
    next (inr e) = inr (ap suc e)

pub one_more : (files : ℕ → Option File) (n : ℕ) (mode : Mode) → mode_of (files n) ≡ Some mode → can_write mode ≡ true → AreWritable files n
    → AreWritable files (n + 1)
one_more files n mode e h before k l = go (below_or_last k n l)
  where
    go : (k < n) ⊎ (k ≡ n) → forbids_write (files k) ≡ false
    go (inl b) = before k b
    go (inr s) = subst (λ i. forbids_write (files i) ≡ false) (sym s) (allows_write (files n) mode e h)

-- files are numbered from 0 on
none_after : (fs : List FileParts) (n k : ℕ) → mode_of (files_of fs n) ≡ None → n ≤ k → forbids_write (files_of fs k) ≡ false
none_after [] n k e h = refl
none_after (x ∷ xs) zero k e h = absurd cc
none_after (x ∷ xs) (suc n) zero e h = absurd (omega (arith, h))
none_after (x ∷ xs) (suc n) (suc k) e h = none_after xs n k e (omega (arith, h))

below_or_not : (k n : ℕ) → (k < n) ⊎ (n ≤ k)
below_or_not k zero = inr (omega arith)
below_or_not zero (suc n) = inl (omega arith)
below_or_not (suc k) (suc n) = next (below_or_not k n)
  where
    next : (k < n) ⊎ (n ≤ k) → (suc k < suc n) ⊎ (suc n ≤ suc k)
    next (inl l) = inl (omega (arith, l))
    next (inr l) = inr (omega (arith, l))

pub all_writable : (fs : List FileParts) (n : ℕ) → mode_of (files_of fs n) ≡ None → AreWritable (files_of fs) n → (k : ℕ)
    → forbids_write (files_of fs k) ≡ false
all_writable fs n e before k = go (below_or_not k n)
  where
    go : (k < n) ⊎ (n ≤ k) → forbids_write (files_of fs k) ≡ false
    go (inl b) = before k b
    go (inr h) = none_after fs n k e h
