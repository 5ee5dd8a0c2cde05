-- Files once more
use Rattle.std.proofs.Common.{◌≡◌, ◌∙◌, ℕ, ◌+◌, ◌<◌, ◌≤◌, List, [], ◌∷◌, ◌++◌, map, Option, Some, None, ap, arith, get_or, length, refl, sym, slice_get, take}
use Rattle.std.specs.Prelude.{option_map}
use Rattle.std.proofs.lemmas.List.{length-append, map-append, take_all, take_more}
use Rattle.std.proofs.lemmas.Option.{slice_get-map}
use Rattle.std.proofs.Math.Path.{fun_ext}
use Rattle.vm_base.specs.declared.rights.Mode.{Mode}
use Rattle.vm_base.specs.Plain.{File, file_with}
use Rattle.frames.specs.declared.file_spec.FileSpec.{FileSpec}
use Rattle.frames.specs.Given.{given_file, given_files}

-- the file that is asked for
abbrev pub file_of : {A : Type 0} → FileSpec A → File
file_of s = file_with s.mode s.bytes.items

given_as : {A : Type 0} (o : Option (FileSpec A)) → given_file o ≡ option_map file_of o
given_as None = refl
given_as (Some s) = refl

by_number : {A : Type 0} (specs : List (FileSpec A)) → given_files specs ≡ (λ n. slice_get (map file_of specs) n)
by_number specs = fun_ext (λ n. given_as (slice_get specs n) ∙ sym (slice_get-map file_of specs n))

same_given : {A : Type 0} (xs ys : List (FileSpec A)) → map file_of xs ≡ map file_of ys → given_files xs ≡ given_files ys
same_given xs ys e =
    let by : List File → ℕ → Option File = λ fs n. slice_get fs n in by_number xs ∙ (ap by e ∙ sym (by_number ys))

-- a file, and one more
pub one_more : {A : Type 0} (xs ys zs : List (FileSpec A)) (at : ℕ) (x y : FileSpec A) → zs ≡ xs ++ x ∷ [] → at < length ys → y ≡ get_or ys at y
    → x.mode ≡ y.mode → x.bytes.items ≡ y.bytes.items → map file_of xs ≡ map file_of (take at ys)
    → map file_of zs ≡ map file_of (take (at + 1) ys)
one_more {A} xs ys zs at x y z l is m b e =
    let same : file_of x ≡ file_of y = ap (λ (o : Mode). file_with o x.bytes.items) m ∙ ap (λ (bs : List ℕ). file_with y.mode bs) b in
    let that : file_of x ≡ file_of (get_or ys at y) = same ∙ ap file_of is in
    let all : List (FileSpec A) → List File = λ ws. map file_of ws in
    ap all z ∙ (map-append file_of xs (x ∷ []) ∙ (ap (λ (fs : List File). fs ++ file_of x ∷ []) e
    ∙ (ap (λ (f : File). map file_of (take at ys) ++ f ∷ []) that
    ∙ (sym (map-append file_of (take at ys) (get_or ys at y ∷ [])) ∙ ap all (sym (take_more ys at y l))))))

pub one_longer : {A : Type 0} (zs xs : List A) (x : A) (at : ℕ) → zs ≡ xs ++ x ∷ [] → length xs ≡ at → length zs ≡ at + 1
one_longer zs xs x at z e = omega (arith, simp length-append at (ap length z), e)

-- all files
pub all_more : {A : Type 0} (xs ys : List (FileSpec A)) (at : ℕ) → length ys ≤ at → map file_of xs ≡ map file_of (take at ys)
    → given_files xs ≡ given_files ys
all_more {A} xs ys at l e =
    let all : List (FileSpec A) → List File = λ ws. map file_of ws in same_given xs ys (e ∙ ap all (take_all at ys l))
