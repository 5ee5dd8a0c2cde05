-- A map in which two pages have one frame, by computation, and a state that can't be counted.
use Rattle.machine_model.proofs.Words.{◌≡◌, ℕ, refl, Some, None, Option, Meta, PageInfo, put}
use Rattle.machine_model.specs.Counted.{pages_with}

abbrev framed : Meta → ℕ → Option PageInfo
framed meta f = Some (record { meta = meta; frame = Some f; cores = 0 })

-- pages 1 and 3 have frame 7, page 2 has frame 8
abbrev pages : Meta → ℕ → Option PageInfo
pages meta = put (put (put (λ p. None) 1 (framed meta 7)) 2 (framed meta 8)) 3 (framed meta 7)

shared : (meta : Meta) → pages_with (pages meta) 7 5 ≡ 2
unfolding pages_with
shared meta = refl

single : (meta : Meta) → pages_with (pages meta) 8 5 ≡ 1
unfolding pages_with
single meta = refl

-- only pages below the bound are counted
bounded : (meta : Meta) → pages_with (pages meta) 7 3 ≡ 1
unfolding pages_with
bounded meta = refl
