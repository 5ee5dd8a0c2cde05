use Rattle.std.proofs.Common.{◌≡◌, ◌∙◌, List, ℕ, ap, length, rules}
use Rattle.vm_base.specs.Plain.{page_bytes}
use Rattle.frames.specs.Files.{FileParts}
use Rattle.frames.proofs.Cached.{part-cut}
use Rattle.frames.proofs.file_object.FileObject.first_part.Goals as goal

pub returns-clause-bytes : goal.returns-clause-bytes
returns-clause-bytes g c =
    let bytes : c.deref.result.now ≡ c.args.self.now.bytes = c.deref.ensures.value ∙ ap (λ (f : FileParts). f.bytes) c.self.view_is in
    let len : c.len-len.result ≡ length c.deref.result.now = search rules in
    part-cut c.deref.result.now c.args.page c.min-end.result c.len-len.result len c.min-end.ensures (rw bytes c.requires)
    ∙ ap (λ (l : List ℕ). page_bytes l c.args.page) bytes
