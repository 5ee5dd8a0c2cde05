use Rattle.std.proofs.Common.{sym, ◌∙◌, arith}
use Rattle.frames.specs.Files.{files_of}
use Rattle.core_steps.proofs.rows.Writable.{all_writable, no_file_before, one_more}
use Rattle.core_steps.proofs.rows.decide.are_writable.Goals as goal

pub files-init : goal.files-init
files-init g c = record { few = omega arith; writable = no_file_before (files_of c.args.objects.now) }

pub files-smaller : goal.files-smaller
files-smaller g c = let few = (c.in-Some.ensures {u = tt}).few in omega (arith, few)

pub files-preserved : goal.files-preserved
files-preserved g c =
    let few = (c.in-Some.ensures {u = tt}).few in
    record {
      few = omega (arith, few);
      writable = one_more (files_of c.args.objects.now) c.files.file c.in-Some.mode (sym (c.in-Some.ensures {u = tt}).mode)
          (sym c.can_write.ensures ∙ c.if-not-can_write.false) c.files.invariant.writable;
    }

pub returns : goal.returns
returns g c = λ _. all_writable c.args.objects.now c.files.file (sym c.in_default.ensures.mode) c.files.invariant.writable
