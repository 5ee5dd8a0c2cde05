-- Files by their numbers.
use Rattle.std.proofs.Common.{◌≡◌, List, map, Option, Some, None, refl, sym, ◌∙◌, slice_get}
use Rattle.std.specs.Prelude.{option_map}
use Rattle.std.proofs.lemmas.Option.{slice_get-map}
use Rattle.std.proofs.Math.Path.{fun_ext}
use Rattle.frames.specs.declared.file_spec.FileSpec.{FileSpec}
use Rattle.frames.specs.Given.{given_file, given_files}
use Rattle.audit_text.specs.Steps.{file_of}

given_as : {A : Type 0} (o : Option (FileSpec A)) → given_file o ≡ option_map file_of o
given_as None = refl
given_as (Some s) = refl

-- the files by their numbers
pub same_files : {A : Type 0} (specs : List (FileSpec A)) → given_files specs ≡ (λ n. slice_get (map file_of specs) n)
same_files specs = fun_ext (λ n. given_as (slice_get specs n) ∙ sym (slice_get-map file_of specs n))
