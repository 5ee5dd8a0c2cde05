use Rattle.machine_model.proofs.Words.{◌≡◌, ◌∙◌, ap, length, map, rules, take, take_all, file_with}
use Rattle.trace_words.specs.Declarations.{bytes_of}
use Rattle.trace_words.proofs.DeclarationLemmas.{length_of, map_more, same_files}
use Rattle.trace_words.proofs.declaration.specs_of.Goals as goal

pub files-init : goal.files-init
files-init g c = record { files = search rules; lengths = search rules; count = search rules; room = search rules }

pub push_reserved-requires : goal.push_reserved-requires
push_reserved-requires g c = search rules

pub files-preserved : goal.files-preserved
files-preserved g c = record {
  files = map_more (λ spec. file_with spec.mode spec.bytes.items) (λ file. file_with file.mode (bytes_of file)) c.files.specs.items _ c.args.files.now _ _
      c.files.file-index _ (search rules) (search rules) c.push_reserved.ensures.items (ap (file_with _) c.in_ok-bytes.ensures) c.files.invariant.files;
  lengths = map_more (λ spec. length spec.bytes.items) (λ file. file.len) c.files.specs.items _ c.args.files.now _ _ c.files.file-index _ (search rules)
      (search rules) c.push_reserved.ensures.items (length_of _ _ _ c.in_ok-bytes.ensures) c.files.invariant.lengths;
  count = search rules;
  room = search rules;
}

pub returns-clause-given : goal.returns-clause-given
returns-clause-given g c =
    let all : take c.files.file-index c.args.files.now ≡ c.args.files.now = take_all c.files.file-index c.args.files.now c.files-test.false in
    same_files c.files.specs.items c.args.files.now (c.files.invariant.files ∙ ap (map (λ file. file_with file.mode (bytes_of file))) all)

pub returns-clause-lengths : goal.returns-clause-lengths
returns-clause-lengths g c =
    let all : take c.files.file-index c.args.files.now ≡ c.args.files.now = take_all c.files.file-index c.args.files.now c.files-test.false in
    c.files.invariant.lengths ∙ ap (map (λ file. file.len)) all
