use Rattle.std.proofs.Common.{◌≡◌, drop}
use Rattle.frames.specs.Parts.{frame_bytes, free_frames}
use Rattle.audit.specs.Keeping.{AreTaken, freed}
use Rattle.audit.proofs.changing.give_list.Given as goal

-- the frames that are left are taken; giving them back is the rest of giving all back
abbrev pub invariant-pages : goal.invariant-pages
invariant-pages g l = record {
  taken : AreTaken (drop l.k l.list) l.frames.count (free_frames l.frames);
  rest : freed (drop l.k l.list) (free_frames l.frames) ≡ freed l.list (free_frames l.initial.frames);
  bytes : frame_bytes l.frames ≡ frame_bytes l.initial.frames;
  count : l.frames.count ≡ l.initial.frames.count;
}
