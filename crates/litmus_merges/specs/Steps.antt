-- Lists of changes as plain page maps
use Rattle.std.specs.Prelude.{◌≡◌, ℕ, List, [], ◌∷◌, Option, None, Some, slice_get}
use Rattle.vm_base.specs.Apply.{after_mapping, after_protecting, after_unmapping, with_byte}
use Rattle.vm_base.specs.Copies.{with_copy}
use Rattle.vm_base.specs.Functions.{put}
use Rattle.vm_base.specs.Plain.{Bytes, PageEntry, Plain, nothing_mapped}
use Rattle.slot_lock.specs.declared.plan.Change.{Change}
use Rattle.slot_lock.specs.declared.plan.Change.TheVariants.{Put, Clear, Protect}
use Rattle.slot_lock.specs.Plan.{IsSoundChange}
use Rattle.frames.specs.Files.{FileParts, files_of}
use Rattle.litmus_merges.specs.declared.change.MapChange.{MapChange}
use Rattle.litmus_merges.specs.declared.change.MapChange.TheVariants as StepOf

-- the map after a change of a range of pages
abbrev pub after_change : Plain → Change → Plain
after_change t (Put range meta) = after_mapping t range meta.back meta.prot
after_change t (Clear range) = after_unmapping t range
after_change t (Protect range prot) = after_protecting t range prot

-- own bytes, if there are some, with another byte
abbrev pub own_with : Option Bytes → ℕ → ℕ → Option Bytes
own_with None i byte = None
own_with (Some own) i byte = Some (put own i byte)

-- the page with another own byte
abbrev pub entry_with : Option PageEntry → ℕ → ℕ → Option PageEntry
entry_with None i byte = None
entry_with (Some e) i byte = Some (record e { own = own_with e.own i byte })

-- the map after one step
abbrev pub after : Plain → MapChange → Plain
after t (StepOf.Change change) = after_change t change
after t (StepOf.Copy page) = with_copy t (Some page)
after t (StepOf.Own page i byte) = record t { entry = put t.entry page (entry_with (t.entry page) i byte) }
after t (StepOf.File file k i byte) = record t { file = put t.file file (with_byte (t.file file) k i byte) }

-- after all, one after another
abbrev pub after_all : Plain → List MapChange → Plain
after_all t [] = t
after_all t (step ∷ steps) = after_all (after t step) steps

-- after one, if there is one
abbrev pub after_any : Plain → Option MapChange → Plain
after_any t None = t
after_any t (Some step) = after t step

-- the map that the steps make of one in which nothing is mapped, with these files
abbrev pub map_of : List FileParts → List MapChange → Plain
map_of objects steps = after_all (nothing_mapped (files_of objects)) steps

-- changes are of valid pages, and their file pages fit
abbrev pub IsSoundStep : MapChange → Type 0
IsSoundStep (StepOf.Change change) = IsSoundChange change
IsSoundStep _ = Unit {0}

abbrev pub AreSound : List MapChange → Type 0
AreSound steps = (k : ℕ) (step : MapChange) → slice_get steps k ≡ Some step → IsSoundStep step

-- these steps make of a map what those and one more make
abbrev pub StepsAfter : List MapChange → Option MapChange → List MapChange → Type 0
StepsAfter old step new = (t : Plain) → after_all t new ≡ after_any (after_all t old) step
