use Rattle.machine_model.proofs.Words.{◌≡◌, ◌≤◌, take, length, vec_len, vec_capacity}
use Rattle.coded.specs.Opening.{AreFiles}
use Rattle.coded.proofs.opening.files_of.Given as goal

-- the files so far, and room for those to come
abbrev pub invariant-files : goal.invariant-files
invariant-files l = record {
  are : AreFiles l.bytes (take l.at l.files) l.all.items;
  room : length l.files ≤ vec_capacity l.all;
  count : vec_len l.all ≡ l.at;
}
