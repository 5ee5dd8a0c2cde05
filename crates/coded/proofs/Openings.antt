-- Files that are opened one by one, and the machine that has them
use Rattle.machine_model.proofs.Words.{◌≡◌, ℕ, zero, suc, Bool, ◌+◌, ◌-◌, ◌≤◌, List, [], ◌∷◌, ◌++◌, refl, sym, ap, ◌∙◌, take, drop, length, arith, inl, inr}
use Rattle.machine_model.proofs.Words.{◌||◌, slice_get-get_or, given_files, Slots, IsNew, World, new_world}
use Rattle.std.specs.Prelude.{◌<◌, get_or, None, slice_get}
use Rattle.std.specs.List.{list_any}
use Rattle.std.proofs.lemmas.List.{length-take-le, length-drop}
use Rattle.frames.specs.declared.file_spec.FileSpec.{FileSpec}
use Rattle.machine_model.specs.declared.setup.Setup.{Setup}
use Rattle.machine_model.specs.declared.setup.CallLimit.{CallLimit}
use Rattle.machine_model.specs.declared.setup.SetupFault.{SetupFault}
use Rattle.machine_model.specs.Setups.{is_too_long, has_long, made_of, first_fault_within, fault_within, IsFirstWithin}
use Rattle.machine_model.proofs.Setups.{few_cores_within}
use Rattle.coded.specs.declared.opening.RawSetup.{RawSetup}
use Rattle.coded.specs.declared.opening.Refusal.TheVariants as By
use Rattle.coded.specs.declared.opening.RawFile.{RawFile}
use Rattle.coded.specs.Opening.{AreFiles, AreThere, IsFile, IsNoFile, RefusesFiles, IsGiven, OpensAs, Refuses, fault_of, limit_of}

pub files_more : {A : Type 0} (buffer : List ℕ) (rs : List RawFile) (ss : List (FileSpec A)) (r : RawFile) (s : FileSpec A) → AreFiles buffer rs ss
    → IsFile buffer r s.mode s.bytes.items → AreFiles buffer (rs ++ r ∷ []) (ss ++ s ∷ [])
files_more buffer [] [] r s are is = (is, tt)
files_more buffer [] (u ∷ ss) r s are is = absurd are
files_more buffer (q ∷ rs) [] r s are is = absurd are
files_more buffer (q ∷ rs) (u ∷ ss) r s are is = (are.0, files_more buffer rs ss r s are.1 is)

-- files that are opened are there
pub are_there : {A : Type 0} (buffer : List ℕ) (rs : List RawFile) (ss : List (FileSpec A)) → AreFiles buffer rs ss → AreThere buffer rs
are_there buffer [] [] are = tt
are_there buffer [] (u ∷ ss) are = absurd are
are_there buffer (q ∷ rs) [] are = absurd are
are_there buffer (q ∷ rs) (u ∷ ss) are = ((u.mode, u.bytes.items, are.0), are_there buffer rs ss are.1)

-- the first of the files that isn't there
pub first_missing : {A : Type 0} (buffer : List ℕ) (files : List RawFile) (ss : List (FileSpec A)) (n : ℕ) (d : RawFile) → n < length files
    → IsNoFile (length buffer) (get_or files n d) → AreFiles buffer (take n files) ss → RefusesFiles buffer files (By.BadFile n)
first_missing buffer files ss n d low missing are =
    (get_or files n d, slice_get-get_or files n d low, missing, are_there buffer (take n files) ss are)

pub as_many : {A : Type 0} (buffer : List ℕ) (rs : List RawFile) (ss : List (FileSpec A)) → AreFiles buffer rs ss → length ss ≡ length rs
as_many buffer [] [] are = refl
as_many buffer [] (u ∷ ss) are = absurd are
as_many buffer (q ∷ rs) [] are = absurd are
as_many buffer (q ∷ rs) (u ∷ ss) are = ap suc (as_many buffer rs ss are.1)

-- a file has as many bytes as it is said to have
whole : (buffer bytes : List ℕ) (start len : ℕ) → start + len ≤ length buffer → bytes ≡ take len (drop start buffer) → length bytes ≡ len
whole buffer bytes start len within is =
    let left : length (drop start buffer) ≡ length buffer - start = length-drop start buffer in
    let fits : len ≤ length (drop start buffer) = omega (arith, left, within) in
    ap length is ∙ length-take-le len (drop start buffer) fits

pub as_long : {A : Type 0} (buffer : List ℕ) (rs : List RawFile) (ss : List (FileSpec A)) → AreFiles buffer rs ss
    → has_long ss ≡ list_any (λ (r : RawFile). is_too_long r.len) rs
as_long buffer [] [] are = refl
as_long buffer [] (u ∷ ss) are = absurd are
as_long buffer (q ∷ rs) [] are = absurd are
as_long buffer (q ∷ rs) (u ∷ ss) are =
    let len : length u.bytes.items ≡ q.len = whole buffer u.bytes.items q.start q.len are.0.within are.0.bytes in
    ap (λ n. is_too_long n || has_long ss) len ∙ ap (λ b. is_too_long q.len || b) (as_long buffer rs ss are.1)

pub given : {A : Type 0} (buffer : List ℕ) (rs : List RawFile) (ss : List (FileSpec A)) (n : ℕ) → AreFiles buffer rs ss
    → IsGiven buffer (slice_get rs n) (given_files ss n)
given buffer [] [] n are = refl
given buffer [] (u ∷ ss) n are = absurd are
given buffer (q ∷ rs) [] n are = absurd are
given buffer (q ∷ rs) (u ∷ ss) zero are = (u.mode, u.bytes.items, are.0, refl)
given buffer (q ∷ rs) (u ∷ ss) (suc n) are = given buffer rs ss n are.1

-- ---- the machine

-- the setup of the machine is that which was asked for
pub record IsAsked {A : Type 0} (setup : RawSetup) (files : List RawFile) (buffer : List ℕ) (s : Setup A) : Type 0 where
  pub cores : s.cores ≡ setup.cores
  pub frames : s.frames ≡ setup.frames
  pub calls : s.calls ≡ setup.calls
  pub are : AreFiles buffer files s.files.items

pub opens_as : {A : Type 0} (setup : RawSetup) (files : List RawFile) (buffer : List ℕ) (s : Setup A) (limit : CallLimit) (slots : Slots) (w : World)
    → IsAsked setup files buffer s → fault_within limit s ≡ None → IsNew slots → w ≡ new_world (made_of s) slots → OpensAs setup files buffer w
opens_as setup files buffer s limit slots w asked well new is = (
  made_of s,
  slots,
  record {
    cores = asked.cores;
    few = few_cores_within limit s well;
    frames = asked.frames;
    calls = asked.calls;
    file = λ n. given buffer files s.files.items n asked.are;
  },
  new,
  is,
)

same : (i : CallLimit) (c d f g l m : ℕ) (b e : Bool) (k n : ℕ) → c ≡ d → f ≡ g → l ≡ m → b ≡ e → k ≡ n
    → first_fault_within i c f l b k ≡ first_fault_within i d g m e n
same i c d f g l m b e k n p q r s t =
    ap (λ x. first_fault_within i x f l b k) p ∙ ap (λ x. first_fault_within i d x l b k) q ∙ ap (λ x. first_fault_within i d g x b k) r
    ∙ ap (λ x. first_fault_within i d g m x k) s ∙ ap (λ x. first_fault_within i d g m e x) t

same_fault : {A : Type 0} (setup : RawSetup) (files : List RawFile) (buffer : List ℕ) (s : Setup A) → IsAsked setup files buffer s
    → fault_within (limit_of setup) s ≡ fault_of setup files
same_fault setup files buffer s asked =
    same (limit_of setup) s.cores setup.cores s.frames setup.frames (length s.files.items) (length files) (has_long s.files.items)
    (list_any (λ (r : RawFile). is_too_long r.len) files) s.calls setup.calls asked.cores asked.frames
    (as_many buffer files s.files.items asked.are) (as_long buffer files s.files.items asked.are) asked.calls

pub refuses_as : {A : Type 0} (setup : RawSetup) (files : List RawFile) (buffer : List ℕ) (s : Setup A) (limit : CallLimit) (fault : SetupFault)
    → IsAsked setup files buffer s → limit ≡ limit_of setup → IsFirstWithin limit s fault → Refuses setup files buffer (By.Setup fault)
refuses_as setup files buffer s limit fault asked e first = by_case first
  where
    found : fault_of setup files ≡ fault_within limit s
    found = sym (same_fault setup files buffer s asked) ∙ ap (λ i. fault_within i s) (sym e)

    by_case : IsFirstWithin limit s fault → Refuses setup files buffer (By.Setup fault)
    by_case (inl h) = inl (found ∙ h)
    by_case (inr h) = inr (found ∙ h.0, h.1)
