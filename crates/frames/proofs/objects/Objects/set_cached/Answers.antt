use Rattle.std.proofs.Common.{◌≡◌, ◌<◌, length, refl, sym}
use Rattle.std.specs.Prelude.{is_some, true}
use Rattle.std.proofs.lemmas.Option.{slice_get_read}
use Rattle.vm_base.specs.Plain.{file_bytes}
use Rattle.frames.specs.Files.{files_of}
use Rattle.frames.proofs.Cached.{cached-set, files-set, file-there}
use Rattle.frames.proofs.objects.Objects.set_cached.Goals as goal

pub returns-clause-cached : goal.returns-clause-cached
returns-clause-cached g c =
    let page : is_some (file_bytes (files_of c.self.inside.files.items c.args.file) c.args.page) ≡ true = rw c.self.view_is c.requires.page in
    let there : c.args.file < length c.self.inside.files.items = file-there c.self.inside.files.items c.args.file c.args.page page in
    rw (sym c.self.view_is) (cached-set c.self.inside.files.items c.args.file c.index_mut.result.now c.set_cached.new.self c.args.page c.args.frame there
    (slice_get_read c.self.inside.files.items (length c.self.inside.files.items) c.args.file c.index_mut.result.now refl there
    c.index_mut.ensures.value) c.set_cached.ensures.within c.set_cached.ensures.cached)

pub returns-clause-files : goal.returns-clause-files
returns-clause-files g c =
    let page : is_some (file_bytes (files_of c.self.inside.files.items c.args.file) c.args.page) ≡ true = rw c.self.view_is c.requires.page in
    let there : c.args.file < length c.self.inside.files.items = file-there c.self.inside.files.items c.args.file c.args.page page in
    rw (sym c.self.view_is) (files-set c.self.inside.files.items c.args.file c.index_mut.result.now c.set_cached.new.self
    (slice_get_read c.self.inside.files.items (length c.self.inside.files.items) c.args.file c.index_mut.result.now refl there
    c.index_mut.ensures.value) c.set_cached.ensures.mode c.set_cached.ensures.bytes)
