-- Maps that steps make, one step after another
use Rattle.std.proofs.Common.{◌≡◌, ◌≢◌, ℕ, nat_lt, ◌+◌, ◌<◌, ◌≤◌, ◌==◌, ◌++◌, ◌∷◌, [], List, Bool, true, false, cond, not, Option, Some, None, IfSome}
use Rattle.std.proofs.Common.{is_some, length, take, get_or, slice_get}
use Rattle.std.proofs.Common.{refl, sym, subst, ◌∙◌, ap, ◌⊎◌, inl, inr}
use Rattle.std.proofs.lemmas.List.{take_all, take_more}
use Rattle.vm_base.proofs.Functions.{by_test, eq_true, put_other}
use Rattle.vm_base.specs.Apply.{copied, detached_entry, is_uncopied, with_byte}
use Rattle.vm_base.specs.Copies.{or_else, with_copy}
use Rattle.vm_base.specs.Functions.{put}
use Rattle.vm_base.specs.Plain.{Bytes, PageEntry, File, Plain, bytes_of, file_bytes, mode_of, nothing_mapped}
use Rattle.slot_lock.specs.declared.plan.Change.{Change}
use Rattle.slot_lock.specs.declared.plan.Change.TheVariants.{Put, Clear, Protect}
use Rattle.frames.specs.Files.{FileParts, files_of}
use Rattle.vm_base.specs.declared.replies.Reply.{Reply}
use Rattle.vm_base.specs.declared.requests.Request.{Request}
use Rattle.vm_calls.specs.Checks.{HasModes}
use Rattle.litmus_merges.specs.OneTurn.{TurnsTo}
use Rattle.litmus_merges.specs.declared.change.MapChange.{MapChange}
use Rattle.litmus_merges.specs.declared.change.MapChange.TheVariants as StepOf
use Rattle.litmus_merges.specs.Seen.{byte_at}
use Rattle.litmus_merges.specs.Steps.{AreSound, IsSoundStep, StepsAfter, after, after_all, after_any, after_change, map_of}
use Rattle.litmus_merges.proofs.Lists.{get_here, old_or_new}

pub after_push : (t : Plain) (xs : List MapChange) (s : MapChange) → after_all t (xs ++ s ∷ []) ≡ after (after_all t xs) s
after_push t [] s = refl
after_push t (x ∷ xs) s = after_push (after t x) xs s

pub map_more : (o : List FileParts) (steps : List MapChange) (at : ℕ) (d : MapChange) → at < length steps
    → map_of o (take (at + 1) steps) ≡ after (map_of o (take at steps)) (get_or steps at d)
map_more o steps at d l = ap (map_of o) (take_more steps at d l) ∙ after_push (nothing_mapped (files_of o)) (take at steps) (get_or steps at d)

pub map_end : (o : List FileParts) (steps : List MapChange) (at : ℕ) → length steps ≤ at → map_of o (take at steps) ≡ map_of o steps
map_end o steps at l = ap (map_of o) (take_all at steps l)

pub sound_at : (steps : List MapChange) (at : ℕ) (d : MapChange) → AreSound steps → at < length steps → IsSoundStep (get_or steps at d)
sound_at steps at d sound l = sound at (get_or steps at d) (get_here steps at d l)

pub sound_push : (xs : List MapChange) (s : MapChange) → AreSound xs → IsSoundStep s → AreSound (xs ++ s ∷ [])
sound_push xs s sound h k step e = by (old_or_new xs s step k e)
  where
    by : (slice_get xs k ≡ Some step) ⊎ ((k ≡ length xs) × (s ≡ step)) → IsSoundStep step
    by (inl old) = sound k step old
    by (inr new) = subst IsSoundStep new.1 h

pub steps_push : (xs : List MapChange) (s : MapChange) → StepsAfter xs (Some s) (xs ++ s ∷ [])
steps_push xs s t = after_push t xs s

-- ---- files

-- a step changes bytes of files alone
abbrev pub SameFile : Option File → Option File → Type 0
SameFile f g = (mode_of f ≡ mode_of g) × ((k : ℕ) → is_some (file_bytes f k) ≡ is_some (file_bytes g k))

same : (f : Option File) → SameFile f f
same f = (refl, λ k. refl)

with_same : (g : Option File) (k i byte : ℕ) → SameFile (with_byte g k i byte) g
with_same None k i byte = (refl, λ p. refl)
with_same (Some f) k i byte = (refl, λ p. within p (nat_lt p f.count))
  where
    within : (p : ℕ) (w : Bool) → is_some (cond w (Some (put f.bytes k (put (f.bytes k) i byte) p)) None) ≡ is_some (cond w (Some (f.bytes p)) None)
    within p true = refl
    within p false = refl

pub copy_file : (t : Plain) (page : ℕ) → (with_copy t (Some page)).file ≡ t.file
copy_file t page = entry (t.entry page)
  where
    bytes : (e : PageEntry) (u : Bool) (b : Option Bytes) → (or_else t (copied t page e u b)).file ≡ t.file
    bytes e true (Some b) = refl
    bytes e true None = refl
    bytes e false b = refl

    entry : (o : Option PageEntry) → (or_else t (detached_entry t page o)).file ≡ t.file
    entry None = refl
    entry (Some e) = bytes e (is_uncopied e.back e.own) (bytes_of t.file e.back e.own)

change_file : (t : Plain) (c : Change) → (after_change t c).file ≡ t.file
change_file t (Put range meta) = refl
change_file t (Clear range) = refl
change_file t (Protect range prot) = refl

file_kept : (t : Plain) (s : MapChange) (n : ℕ) → SameFile ((after t s).file n) (t.file n)
file_kept t (StepOf.Change c) n = subst (λ (f : ℕ → Option File). SameFile (f n) (t.file n)) (sym (change_file t c)) (same (t.file n))
file_kept t (StepOf.Copy page) n = subst (λ (f : ℕ → Option File). SameFile (f n) (t.file n)) (sym (copy_file t page)) (same (t.file n))
file_kept t (StepOf.Own page i byte) n = same (t.file n)
file_kept t (StepOf.File f k i byte) n = by_test (λ (x : Option File). SameFile x (t.file n)) (n == f) (with_byte (t.file f) k i byte) (t.file n)
    (λ e. subst (λ (m : ℕ). SameFile (with_byte (t.file f) k i byte) (t.file m)) (sym (eq_true n f e)) (with_same (t.file f) k i byte))
    (λ e. same (t.file n))

files_kept : (t : Plain) (steps : List MapChange) (n : ℕ) → SameFile ((after_all t steps).file n) (t.file n)
files_kept t [] n = same (t.file n)
files_kept t (s ∷ steps) n =
    let rest = files_kept (after t s) steps n in
    let one = file_kept t s n in
    (rest.0 ∙ one.0, λ k. rest.1 k ∙ one.1 k)

pub modes_kept : (o : List FileParts) (steps : List MapChange) → HasModes (map_of o steps) (files_of o)
modes_kept o steps n = (files_kept (nothing_mapped (files_of o)) steps n).0

not_true : (x : Bool) → not x ≡ true → x ≡ false
not_true true e = absurd cc
not_true false e = refl

no_byte : (b : Option Bytes) (i : ℕ) → is_some b ≡ false → byte_at b i ≡ None
no_byte None i e = refl
no_byte (Some b) i e = absurd cc

pub past_end : (o : List FileParts) (steps : List MapChange) (n k i : ℕ) → not (is_some (file_bytes (files_of o n) k)) ≡ true
    → byte_at (file_bytes ((map_of o steps).file n) k) i ≡ None
past_end o steps n k i e = no_byte (file_bytes ((map_of o steps).file n) k) i
    ((files_kept (nothing_mapped (files_of o)) steps n).1 k ∙ not_true (is_some (file_bytes (files_of o n) k)) e)

pub copy_other : (t : Plain) (page p : ℕ) → p ≢ page → (with_copy t (Some page)).entry p ≡ t.entry p
copy_other t page p ne = entry (t.entry page)
  where
    bytes : (e : PageEntry) (u : Bool) (b : Option Bytes) → (or_else t (copied t page e u b)).entry p ≡ t.entry p
    bytes e true (Some b) = put_other t.entry page (Some (record e { own = Some b })) p ne
    bytes e true None = refl
    bytes e false b = refl

    entry : (o : Option PageEntry) → (or_else t (detached_entry t page o)).entry p ≡ t.entry p
    entry None = refl
    entry (Some e) = bytes e (is_uncopied e.back e.own) (bytes_of t.file e.back e.own)

-- ---- one step more, or none

pub steps_same : (xs ys : List MapChange) (step : Option MapChange) → step ≡ None → ys ≡ xs → StepsAfter xs step ys
steps_same xs ys step none same = subst (λ (o : Option MapChange). StepsAfter xs o ys) (sym none) (subst (λ (zs : List MapChange). StepsAfter xs None zs) (sym same) (λ t. refl))

pub steps_more : (xs ys : List MapChange) (step : Option MapChange) (s : MapChange) → step ≡ Some s → ys ≡ xs ++ s ∷ [] → StepsAfter xs step ys
steps_more xs ys step s is more =
    subst (λ (o : Option MapChange). StepsAfter xs o ys) (sym is) (subst (λ (zs : List MapChange). StepsAfter xs (Some s) zs) (sym more) (steps_push xs s))

pub sound_more : (xs ys : List MapChange) (step : Option MapChange) (s : MapChange) → step ≡ Some s → ys ≡ xs ++ s ∷ [] → AreSound xs → IfSome step IsSoundStep → AreSound ys
sound_more xs ys step s is more sound h = subst AreSound (sym more) (sound_push xs s sound (subst (λ (o : Option MapChange). IfSome o IsSoundStep) is h))

-- a turn whose step was appended
pub lead_more : (o : List FileParts) (xs ys zs : List MapChange) (core : ℕ) (request : Request) (reply : Option Reply) (turn : Option MapChange) (step : MapChange) → xs ≡ ys
    → turn ≡ Some step → zs ≡ ys ++ step ∷ [] → TurnsTo (map_of o xs) core request reply (after_any (map_of o xs) turn)
    → TurnsTo (map_of o ys) core request reply (map_of o zs)
lead_more o xs ys zs core request reply turn step same is more h =
    let here = subst (λ (ss : List MapChange). TurnsTo (map_of o ss) core request reply (after_any (map_of o ss) turn)) same h in
    subst (λ (u : Plain). TurnsTo (map_of o ys) core request reply u)
    (ap (after_any (map_of o ys)) is ∙ sym (ap (map_of o) more ∙ after_push (nothing_mapped (files_of o)) ys step)) here
