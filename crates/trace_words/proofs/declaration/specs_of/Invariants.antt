use Rattle.machine_model.proofs.Words.{◌≡◌, ◌≤◌, length, map, take, vec_len, vec_capacity, file_with}
use Rattle.trace_words.specs.Declarations.{bytes_of}
use Rattle.trace_words.proofs.declaration.specs_of.Given as goal

-- the files so far, and room for the others
abbrev pub invariant-files : goal.invariant-files
invariant-files g l = record {
  files : map (λ spec. file_with spec.mode spec.bytes.items) l.specs.items
      ≡ map (λ file. file_with file.mode (bytes_of file)) (take l.file-index l.files);
  lengths : map (λ spec. length spec.bytes.items) l.specs.items ≡ map (λ file. file.len) (take l.file-index l.files);
  count : vec_len l.specs ≡ l.file-index;
  room : length l.files ≤ vec_capacity l.specs;
}
