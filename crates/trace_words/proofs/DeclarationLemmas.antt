-- The files that the lines of a trace ask for, made one after another.
use Rattle.machine_model.proofs.Words.{◌≡◌, ℕ, ◌+◌, ◌%◌, ◌<◌, Bool, List, [], ◌∷◌, ◌++◌, map, length, Option, Some, None, refl, sym, ap, ◌∙◌, take, slice_get}
use Rattle.machine_model.proofs.Words.{get_or, ◌||◌, range_with_len, take_more, length-map, fun_ext, file_with, given_files}
use Rattle.std.specs.Prelude.{option_map}
use Rattle.std.specs.List.{list_any}
use Rattle.std.proofs.lemmas.List.{map_push}
use Rattle.std.proofs.lemmas.List.FromFn.{length-map-range_with_len}
use Rattle.std.proofs.lemmas.Option.{slice_get-map}
use Rattle.frames.specs.declared.file_spec.FileSpec.{FileSpec}
use Rattle.frames.specs.Given.{given_file}
use Rattle.machine_model.specs.declared.setup.CallLimit.{CallLimit}
use Rattle.machine_model.specs.Setups.{first_fault_within, is_too_long}
use Rattle.trace_words.specs.declared.declaration.FileLine.{FileLine}
use Rattle.trace_words.specs.Declarations.{bytes_of, file_at, declared_file}

-- what a mapping of two lists makes of one element more
pub map_more : {X Y Z : Type 0} (f : X → Z) (g : Y → Z) (xs new : List X) (ys : List Y) (x : X) (d : Y) (n next : ℕ) → next ≡ n + 1 → n < length ys
    → new ≡ xs ++ x ∷ [] → f x ≡ g (get_or ys n d) → map f xs ≡ map g (take n ys) → map f new ≡ map g (take next ys)
map_more f g xs new ys x d n next e l h same was =
    ap (map f) h ∙ map_push f xs x ∙ ap (λ l. l ++ f x ∷ []) was ∙ ap (λ z. map g (take n ys) ++ z ∷ []) same
    ∙ sym (map_push g (take n ys) (get_or ys n d)) ∙ ap (map g) (sym (take_more ys n d l)) ∙ ap (λ m. map g (take m ys)) (sym e)

given_as : {A : Type 0} (o : Option (FileSpec A)) → given_file o ≡ option_map (λ spec. file_with spec.mode spec.bytes.items) o
given_as None = refl
given_as (Some s) = refl

asked_as : (o : Option FileLine) → declared_file o ≡ option_map (λ file. file_with file.mode (bytes_of file)) o
asked_as None = refl
asked_as (Some f) = refl

-- the files by their numbers
pub same_files : {A : Type 0} (specs : List (FileSpec A)) (files : List FileLine)
    → map (λ spec. file_with spec.mode spec.bytes.items) specs ≡ map (λ file. file_with file.mode (bytes_of file)) files
    → given_files specs ≡ file_at files
same_files specs files e = fun_ext (λ n.
    given_as (slice_get specs n) ∙ sym (slice_get-map (λ spec. file_with spec.mode spec.bytes.items) specs n)
    ∙ ap (λ l. slice_get l n) e
    ∙ slice_get-map (λ file. file_with file.mode (bytes_of file)) files n ∙ sym (asked_as (slice_get files n)))

pub length_of : (seed len : ℕ) (bytes : List ℕ) → bytes ≡ map (λ i. (seed + i) % 256) (range_with_len 0 len) → length bytes ≡ len
length_of seed len bytes e = ap length e ∙ length-map-range_with_len (λ i. (seed + i) % 256) 0 len

-- ---- the setup

any_of_map : {X : Type 0} (f : X → ℕ) (p : ℕ → Bool) (xs : List X) → list_any (λ x. p (f x)) xs ≡ list_any p (map f xs)
any_of_map f p [] = refl
any_of_map f p (x ∷ xs) = ap (λ b. p (f x) || b) (any_of_map f p xs)

-- files of these lengths have the faults that were asked for
pub same_fault : {A : Type 0} (limit : CallLimit) (cores frames calls : ℕ) (specs : List (FileSpec A)) (files own : List FileLine) → files ≡ own
    → map (λ spec. length spec.bytes.items) specs ≡ map (λ file. file.len) files
    → first_fault_within limit cores frames (length specs) (list_any (λ file. is_too_long (length file.bytes.items)) specs) calls
    ≡ first_fault_within limit cores frames (length own) (list_any (λ file. is_too_long file.len) own) calls
same_fault limit cores frames calls specs files own same e =
    let count : length specs ≡ length files =
    sym (length-map specs (λ spec. length spec.bytes.items)) ∙ ap length e ∙ length-map files (λ file. file.len) in
    let long : list_any (λ file. is_too_long (length file.bytes.items)) specs ≡ list_any (λ file. is_too_long file.len) files =
    any_of_map (λ spec. length spec.bytes.items) is_too_long specs ∙ ap (list_any is_too_long) e ∙ sym (any_of_map (λ file. file.len) is_too_long files) in
    ap (λ n. first_fault_within limit cores frames n (list_any (λ file. is_too_long (length file.bytes.items)) specs) calls) count
    ∙ ap (λ b. first_fault_within limit cores frames (length files) b calls) long
    ∙ ap (λ fs. first_fault_within limit cores frames (length fs) (list_any (λ file. is_too_long file.len) fs) calls) same
