-- What a step makes of a map, page by page and file by file
use Rattle.std.proofs.Common.{◌≡◌, ◌≢◌, ℕ, ◌-◌, ◌==◌, Bool, true, false, cond, Option, Some, None, refl, sym, subst, ◌∙◌, ap}
use Rattle.std.proofs.Math.Path.{fun_ext}
use Rattle.vm_base.proofs.Functions.{eq_true, eq_false, put_same}
use Rattle.vm_base.specs.Apply.{copied, detached_entry, is_uncopied, new_entry, with_byte, with_prot}
use Rattle.vm_base.specs.Copies.{or_else, with_copy}
use Rattle.vm_base.specs.Functions.{has, put}
use Rattle.vm_base.specs.Info.{advance_back}
use Rattle.vm_base.specs.Plain.{Bytes, PageEntry, File, Plain, bytes_of}
use Rattle.slot_lock.specs.declared.plan.Change.{Change}
use Rattle.slot_lock.specs.declared.plan.Change.TheVariants.{Put, Clear, Protect}
use Rattle.slot_lock.specs.Plan.{range_of}
use Rattle.litmus_merges.specs.declared.change.MapChange.{MapChange}
use Rattle.litmus_merges.specs.declared.change.MapChange.TheVariants as StepOf
use Rattle.litmus_merges.specs.Passing.{Commute, Covers}
use Rattle.litmus_merges.specs.Steps.{after, after_change, entry_with}
use Rattle.litmus_merges.proofs.Maps.{copy_file, copy_other}

-- of a page
abbrev pub changed : Change → ℕ → Option PageEntry → Option PageEntry
changed (Put r meta) p o = cond (has r p) (Some (new_entry (advance_back meta.back (p - r.first)) meta.prot)) o
changed (Clear r) p o = cond (has r p) None o
changed (Protect r prot) p o = cond (has r p) (with_prot prot o) o

abbrev pub with_bytes : PageEntry → Bool → Option Bytes → Option PageEntry
with_bytes e true (Some b) = Some (record e { own = Some b })
with_bytes e true None = Some e
with_bytes e false b = Some e

abbrev pub copy_of : (ℕ → Option File) → Option PageEntry → Option PageEntry
copy_of f None = None
copy_of f (Some e) = with_bytes e (is_uncopied e.back e.own) (bytes_of f e.back e.own)

abbrev pub acted : MapChange → (ℕ → Option File) → ℕ → Option PageEntry → Option PageEntry
acted (StepOf.Change c) f p o = changed c p o
acted (StepOf.Copy page) f p o = cond (p == page) (copy_of f o) o
acted (StepOf.Own page i b) f p o = cond (p == page) (entry_with o i b) o
acted (StepOf.File n k i b) f p o = o

-- of a file
abbrev pub filed : MapChange → (ℕ → Option File) → ℕ → Option File
filed (StepOf.Change c) f = f
filed (StepOf.Copy page) f = f
filed (StepOf.Own page i b) f = f
filed (StepOf.File m k i b) f = λ n. cond (n == m) (with_byte (f n) k i b) (f n)

abbrev pub made : MapChange → Plain → Plain
made s t = record { entry = λ p. acted s t.file p (t.entry p); file = filed s t.file }

abbrev to_plain : (ℕ → Option PageEntry) → (ℕ → Option File) → Plain
to_plain e f = record { entry = e; file = f }

plain_same : (t u : Plain) → ((p : ℕ) → t.entry p ≡ u.entry p) → ((n : ℕ) → t.file n ≡ u.file n) → t ≡ u
plain_same t u h k = ap (λ (e : ℕ → Option PageEntry). to_plain e t.file) (fun_ext h) ∙ ap (to_plain u.entry) (fun_ext k)

copy_here : (t : Plain) (page : ℕ) → (with_copy t (Some page)).entry page ≡ copy_of t.file (t.entry page)
copy_here t page = go (t.entry page) refl
  where
    bytes : (e : PageEntry) (u : Bool) (b : Option Bytes) → t.entry page ≡ Some e → (or_else t (copied t page e u b)).entry page ≡ with_bytes e u b
    bytes e true (Some b) is = put_same t.entry page (Some (record e { own = Some b }))
    bytes e true None is = is
    bytes e false b is = is

    go : (o : Option PageEntry) → t.entry page ≡ o → (or_else t (detached_entry t page o)).entry page ≡ copy_of t.file o
    go None is = is
    go (Some e) is = bytes e (is_uncopied e.back e.own) (bytes_of t.file e.back e.own) is

copy_made : (t : Plain) (page p : ℕ) → (with_copy t (Some page)).entry p ≡ cond (p == page) (copy_of t.file (t.entry p)) (t.entry p)
copy_made t page p = go (p == page) refl
  where
    go : (b : Bool) → (p == page) ≡ b → (with_copy t (Some page)).entry p ≡ cond b (copy_of t.file (t.entry p)) (t.entry p)
    go true e = subst (λ (n : ℕ). (with_copy t (Some page)).entry n ≡ copy_of t.file (t.entry n)) (sym (eq_true p page e)) (copy_here t page)
    go false e = copy_other t page p (eq_false p page e)

-- a function put at one place
put_there : {V : Type 0} (f : ℕ → V) (k : ℕ) (g : V → V) (j : ℕ) → put f k (g (f k)) j ≡ cond (j == k) (g (f j)) (f j)
put_there {V} f k g j = go (j == k) refl
  where
    go : (b : Bool) → (j == k) ≡ b → cond b (g (f k)) (f j) ≡ cond b (g (f j)) (f j)
    go true e = ap (λ (n : ℕ). g (f n)) (sym (eq_true j k e))
    go false e = refl

pub after_made : (t : Plain) (s : MapChange) → after t s ≡ made s t
after_made t (StepOf.Change (Put r meta)) = plain_same (after_change t (Put r meta)) (made (StepOf.Change (Put r meta)) t) (λ p. refl) (λ n. refl)
after_made t (StepOf.Change (Clear r)) = plain_same (after_change t (Clear r)) (made (StepOf.Change (Clear r)) t) (λ p. refl) (λ n. refl)
after_made t (StepOf.Change (Protect r prot)) = plain_same (after_change t (Protect r prot)) (made (StepOf.Change (Protect r prot)) t) (λ p. refl) (λ n. refl)
after_made t (StepOf.Copy page) = plain_same (with_copy t (Some page)) (made (StepOf.Copy page) t) (copy_made t page)
    (λ n. ap (λ (f : ℕ → Option File). f n) (copy_file t page))
after_made t (StepOf.Own page i b) = plain_same (after t (StepOf.Own page i b)) (made (StepOf.Own page i b) t)
    (put_there t.entry page (λ (o : Option PageEntry). entry_with o i b)) (λ n. refl)
after_made t (StepOf.File m k i b) = plain_same (after t (StepOf.File m k i b)) (made (StepOf.File m k i b) t) (λ p. refl)
    (put_there t.file m (λ (f : Option File). with_byte f k i b))

pub commute_by : (x s : MapChange)
    → ((f : ℕ → Option File) (p : ℕ) (o : Option PageEntry) → acted s (filed x f) p (acted x f p o) ≡ acted x (filed s f) p (acted s f p o))
    → ((f : ℕ → Option File) (n : ℕ) → filed s (filed x f) n ≡ filed x (filed s f) n) → Commute x s
commute_by x s h k t =
    let one : after (after t x) s ≡ made s (made x t) = after_made (after t x) s ∙ ap (made s) (after_made t x) in
    let other : after (after t s) x ≡ made x (made s t) = after_made (after t s) x ∙ ap (made x) (after_made t s) in
    one ∙ (plain_same (made s (made x t)) (made x (made s t)) (λ p. h t.file p (t.entry p)) (k t.file) ∙ sym other)

pub covers_by : (s x : MapChange) → ((f : ℕ → Option File) (p : ℕ) (o : Option PageEntry) → acted s (filed x f) p (acted x f p o) ≡ acted s f p o)
    → ((f : ℕ → Option File) (n : ℕ) → filed s (filed x f) n ≡ filed s f n) → Covers s x
covers_by s x h k t =
    let one : after (after t x) s ≡ made s (made x t) = after_made (after t x) s ∙ ap (made s) (after_made t x) in
    one ∙ (plain_same (made s (made x t)) (made s t) (λ p. h t.file p (t.entry p)) (k t.file) ∙ sym (after_made t s))
