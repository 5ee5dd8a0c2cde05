-- Shared memory that processes attach by its number.
use Rattle.std.specs.Prelude.{ℕ, zero, suc, List, ◌++◌, Option, None, Some, if◌then◌else◌, ◌==◌, codes, decimal, length, slice_index_or}
use Rattle.import_steps.specs.declared.shared.SharedSegment.{SharedSegment}

abbrev pub piece_at : List SharedSegment → ℕ → SharedSegment
piece_at pieces k = slice_index_or pieces k (record { key = 0; len = 0 })

-- how many bytes the piece has, as the last of the first n says that is of it
abbrev pub len_within : ℕ → List SharedSegment → ℕ → Option ℕ
len_within key pieces zero = None
len_within key pieces (suc n) = if (piece_at pieces n).key == key then Some (piece_at pieces n).len else len_within key pieces n

-- as all say
abbrev pub len_of : ℕ → List SharedSegment → Option ℕ
len_of key pieces = len_within key pieces (length pieces)

-- what the file of shared memory is named
abbrev pub memory_name : ℕ → List ℕ
memory_name number = codes "<shm:" ++ decimal number ++ codes ">"
