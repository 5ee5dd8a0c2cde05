use Rattle.machine_model.proofs.Words.{◌++◌, ◌∷◌, [], rules, subst, sym, take_more}
use Rattle.coded.specs.Opening.{AreFiles}
use Rattle.coded.proofs.Openings.{files_more, first_missing}
use Rattle.coded.proofs.opening.files_of.Goals as goal

pub files-init : goal.files-init
files-init c = record { are = rw c.in-Ok.ensures.items tt; room = search rules; count = search rules }

pub files-preserved : goal.files-preserved
files-preserved c = record {
  are = rw c.push_reserved.ensures.items (subst (λ rs. AreFiles c.args.bytes.now rs (c.files.all.items ++ c.in-Ok-file_of.file ∷ []))
      (sym (take_more c.args.files.now c.files.at _ c.files-test.true))
      (files_more c.args.bytes.now _ c.files.all.items _ c.in-Ok-file_of.file c.files.invariant.are c.in-Ok-file_of.ensures.ok));
  room = search rules;
  count = search rules;
}

pub returns-in-Err-NotThere-clause-err : goal.returns-in-Err-NotThere-clause-err
returns-in-Err-NotThere-clause-err c =
    first_missing c.args.bytes.now c.args.files.now c.files.all.items c.files.at _ c.files-test.true
    (c.in-Err-NotThere.ensures.err c.in-Err-NotThere.field-0-is) c.files.invariant.are
