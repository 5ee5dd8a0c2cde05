-- The files that are asked for, and what a mapping of one may be refused for
use Rattle.std.specs.Prelude.{ℕ, Bool, true, false, List, slice_get, length, replicate, Option, Some}
use Rattle.std.specs.Prelude.{None, Result, Ok, Err}
use Rattle.vm_base.specs.declared.replies.Errno.{Errno}
use Rattle.vm_base.specs.declared.replies.Reply.{Reply}
use Rattle.vm_base.specs.Pages.{page_count}
use Rattle.vm_base.specs.Plain.{File, file_with}
use Rattle.vm_base.specs.Refusals.{answer}
use Rattle.frames.specs.declared.file_spec.FileSpec.{FileSpec}
use Rattle.frames.specs.declared.file_spec.Sharing.{Sharing}
use Rattle.frames.specs.Files.{FileParts}
use Rattle.frames.specs.declared.file_spec.Sharing.TheVariants.{Private, Shared}

-- the files that are asked for, by their numbers
abbrev pub given_file : {A : Type 0} → Option (FileSpec A) → Option File
given_file None = None
given_file (Some s) = Some (file_with s.mode s.bytes.items)

abbrev pub given_files : {A : Type 0} → List (FileSpec A) → ℕ → Option File
given_files specs n = given_file (slice_get specs n)

-- the open file of which no page is cached yet
abbrev pub opened : {A : Type 0} → FileSpec A → FileParts
opened s = record {
  mode = s.mode;
  bytes = s.bytes.items;
  cached = replicate (page_count (length s.bytes.items)) None;
}

abbrev pub is_shared : Sharing → Bool
is_shared Private = false
is_shared Shared = true

-- what a call is answered that goes no further than this result
abbrev pub refused_by : Result Unit Errno → Option Reply
refused_by (Ok _) = None
refused_by (Err e) = answer e
