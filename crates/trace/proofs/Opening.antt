-- The files that the lines of a trace open, one after another.
use Rattle.machine_model.proofs.Words.{◌≡◌, ◌≢◌, ℕ, zero, suc, ◌+◌, ◌<◌, ◌≤◌, Bool, true, false, List, [], ◌∷◌, ◌++◌, Option, Some, None, refl, sym, ap, ◌∙◌}
use Rattle.machine_model.proofs.Words.{arith, length, length-append, slice_get, ◌&&◌, ◌||◌, nat_lt, if◌then◌else◌, fun_ext, nat_tests, put, file_with}
use Rattle.machine_model.proofs.Words.{nothing_mapped, eq_true, put_all}
use Rattle.std.specs.Prelude.{◌==◌, ◌^◌}
use Rattle.machine_model.specs.declared.setup.CallLimit.{CallLimit}
use Rattle.machine_model.specs.declared.setup.SetupFault.{SetupFault}
use Rattle.machine_model.specs.declared.setup.SetupFault.TheVariants.{Cores, Frames, TooManyFiles, FileTooLong, Calls}
use Rattle.machine_model.specs.Setups.{most_calls}
use Rattle.trace_words.specs.declared.declaration.FileLine.{FileLine}
use Rattle.trace_words.specs.Declarations.{DeclarationView, asks_for, asked_fault_within, bytes_of, file_at, declared_file, has_long, is_next, with_file}
use Rattle.trace.specs.PlainText.{Reached, nothing_reached, with_opened}

-- ---- one file more

at_end : (files : List FileLine) (file : FileLine) → slice_get (files ++ file ∷ []) (length files) ≡ Some file
at_end [] file = refl
at_end (f ∷ fs) file = at_end fs file

before : (files : List FileLine) (file : FileLine) (j : ℕ) → j ≢ length files → slice_get files j ≡ slice_get (files ++ file ∷ []) j
before [] file zero ne = absurd (ne refl)
before [] file (suc j) ne = refl
before (f ∷ fs) file zero ne = refl
before (f ∷ fs) file (suc j) ne = before fs file j (λ e. ne (ap suc e))

one_more : (files : List FileLine) (file : FileLine) (n : ℕ) → n ≡ length files
    → put (file_at files) n (declared_file (Some file)) ≡ file_at (files ++ file ∷ [])
one_more files file n e = fun_ext (put_all (λ j o. o ≡ file_at (files ++ file ∷ []) j) (file_at files) n (declared_file (Some file))
    (ap declared_file (sym (ap (slice_get (files ++ file ∷ [])) e ∙ at_end files file)))
    (λ j ne. ap declared_file (before files file j (λ k. ne (k ∙ sym e)))))

-- ---- what a declaration comes to

-- how far a trace has come that declares this
abbrev pub declared_so : DeclarationView → Reached
declared_so a = record nothing_reached {
  cores = a.cores;
  frames = a.frames;
  calls = a.calls;
  files = file_at a.files;
  plain = nothing_mapped (file_at a.files);
}

-- as long as there aren't too many files, which are counted
abbrev pub IsDeclared : DeclarationView → Reached → Type 0
IsDeclared a s = length a.files < 17 → (a.next ≡ length a.files) × (s ≡ declared_so a)

-- the vm line
pub declares_space : (cores frames calls : ℕ) (s : Reached) → s ≡ nothing_reached
    → IsDeclared (asks_for cores frames calls) (record s { cores = cores; frames = frames; calls = calls })
declares_space cores frames calls s e l =
    let none : nothing_reached.files ≡ file_at [] = fun_ext (λ n. refl) in (
      refl,
      ap (λ (s : Reached). record s { cores = cores; frames = frames; calls = calls }) e
          ∙ ap (λ f. record nothing_reached { cores = cores; frames = frames; calls = calls; files = f; plain = nothing_mapped f }) none,
    )

number_of : (a : DeclarationView) (n : ℕ) → is_next a n ≡ true → n ≡ a.next
number_of a n h = go (n == a.next) refl h
  where
    go : (b : Bool) → (n == a.next) ≡ b → (b && nat_lt (suc n) (2 ^ 64)) ≡ true → n ≡ a.next
    go true e k = eq_true n a.next e
    go false e k = absurd cc

-- the line of a file
pub declares_file : (a : DeclarationView) (n : ℕ) (file : FileLine) (s : Reached) → is_next a n ≡ true → IsDeclared a s
    → IsDeclared (with_file a file) (with_opened s n (file_with file.mode (bytes_of file)))
declares_file a n file s next d = go (nat_lt (length a.files) 17) refl
  where
    go : (b : Bool) → nat_lt (length a.files) 17 ≡ b
        → IsDeclared (record a { next = suc a.next; files = if b then a.files ++ file ∷ [] else a.files })
        (with_opened s n (file_with file.mode (bytes_of file)))
    go true few l =
        let was = d (grind (arith, nat_tests)) in
        let count : length (a.files ++ file ∷ []) ≡ length a.files + 1 = length-append a.files (file ∷ []) in
        let number : a.next ≡ length a.files = was.0 in (
          omega (arith, count, number),
          ap (λ (s : Reached). with_opened s n (file_with file.mode (bytes_of file))) was.1
              ∙ ap (λ f. record (declared_so a) { files = f; plain = nothing_mapped f }) (one_more a.files file n (number_of a n next ∙ number)),
        )
    go false many l = absurd (let few : nat_lt (length a.files) 17 ≡ true = grind (arith, nat_tests) in cc)

-- where a machine is made, there aren't too many
pub few_files : (limit : CallLimit) (a : DeclarationView) → asked_fault_within limit a ≡ None → length a.files < 17
few_files limit a none = go (nat_lt a.cores 1 || nat_lt 64 a.cores) (nat_lt 65536 a.frames) (nat_lt 16 (length a.files)) refl none
  where
    go : (x y z : Bool) → nat_lt 16 (length a.files) ≡ z
        → (if x then Some Cores else if y then Some Frames else if z then Some TooManyFiles
        else if has_long a.files then Some FileTooLong else if nat_lt (most_calls limit) a.calls then Some Calls else None) ≡ None
        → length a.files < 17
    go true y z e h = absurd cc
    go false true z e h = absurd cc
    go false false true e h = absurd cc
    go false false false e h = grind (arith, nat_tests)

-- nor one that is too long
pub none_long : (limit : CallLimit) (a : DeclarationView) → asked_fault_within limit a ≡ None → has_long a.files ≡ false
none_long limit a none = go (nat_lt a.cores 1 || nat_lt 64 a.cores) (nat_lt 65536 a.frames) (nat_lt 16 (length a.files)) (has_long a.files) none
  where
    go : (x y z b : Bool) → (if x then Some Cores else if y then Some Frames else if z then Some TooManyFiles
        else if b then Some FileTooLong else if nat_lt (most_calls limit) a.calls then Some Calls else None) ≡ None → b ≡ false
    go true y z b h = absurd cc
    go false true z b h = absurd cc
    go false false true b h = absurd cc
    go false false false true h = absurd cc
    go false false false false h = refl

-- nor too many cores
pub few_cores : (limit : CallLimit) (a : DeclarationView) → asked_fault_within limit a ≡ None → a.cores ≤ 64
few_cores limit a none = grind (arith, nat_tests, not_many (nat_lt a.cores 1 || nat_lt 64 a.cores) _ none)
  where
    not_many : (b : Bool) (rest : Option SetupFault) → (if b then Some Cores else rest) ≡ None → b ≡ false
    not_many true rest h = absurd cc
    not_many false rest h = refl
