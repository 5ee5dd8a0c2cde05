use Rattle.std.proofs.Common.{ap, sym, ◌∙◌, arith}
use Rattle.vm_base.specs.Plain.{Bytes}
use Rattle.frames.proofs.Cached.{page-first, page-none}
use Rattle.frames.proofs.file_object.FileObject.byte.Goals as goal

pub returns-then-offset-part : goal.returns-then-offset-part
returns-then-offset-part g c = sym (page-first c.first_part-part.result.now c.args.offset c.requires.offset)
    ∙ ap (λ (b : Bytes). b c.args.offset) c.first_part-part.ensures.bytes

pub returns-else-offset-part : goal.returns-else-offset-part
returns-else-offset-part g c = sym (page-none c.first_part-part.result.now c.args.offset c.requires.offset
    (omega (arith, c.if-offset-part.false))) ∙ ap (λ (b : Bytes). b c.args.offset) c.first_part-part.ensures.bytes
