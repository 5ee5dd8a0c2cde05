-- Rows that are alike in all steps, and lie beside each other, are one.
use Rattle.std.specs.Prelude.{ℕ, zero, suc, ◌+◌, ◌-◌, ◌^◌, Bool, true, false, not, ◌&&◌, List, [], ◌∷◌, ◌++◌, Option, None, Some, if◌then◌else◌, ◌==◌}
use Rattle.std.specs.Prelude.{length, map, min, slice_get}
use Rattle.std.specs.List.{filter}
use Rattle.vm_base.specs.declared.info.Back.{Back}
use Rattle.vm_base.specs.declared.info.Back.TheVariants.{Anon, Shared, Private}
use Rattle.vm_base.specs.declared.rights.Prot.{Prot}
use Rattle.draw_steps.specs.Moments.{back_by}
use Rattle.draw_steps.specs.declared.shapes.Stretch.{Stretch}

-- ---- lives that go on in others

abbrev pub same_step : Option ℕ → Option ℕ → Bool
same_step None None = true
same_step None (Some b) = false
same_step (Some a) None = false
same_step (Some a) (Some b) = a == b

abbrev pub same_right : Bool → Bool → Bool
same_right true b = b
same_right false b = not b

abbrev pub same_rights : Prot → Prot → Bool
same_rights a b = same_right a.read b.read && same_right a.write b.write && same_right a.exec b.exec

abbrev pub is_unknown : Option Back → Bool
is_unknown None = true
is_unknown (Some b) = false

abbrev pub is_anon : Option Back → Bool
is_anon None = false
is_anon (Some Anon) = true
is_anon (Some (Shared file page)) = false
is_anon (Some (Private file page)) = false

abbrev pub is_shared : ℕ → ℕ → Option Back → Bool
is_shared file page None = false
is_shared file page (Some Anon) = false
is_shared file page (Some (Shared f p)) = (f == file) && (p == page)
is_shared file page (Some (Private f p)) = false

abbrev pub is_private : ℕ → ℕ → Option Back → Bool
is_private file page None = false
is_private file page (Some Anon) = false
is_private file page (Some (Shared f p)) = false
is_private file page (Some (Private f p)) = (f == file) && (p == page)

abbrev pub same_back : Option Back → Option Back → Bool
same_back None b = is_unknown b
same_back (Some Anon) b = is_anon b
same_back (Some (Shared file page)) b = is_shared file page b
same_back (Some (Private file page)) b = is_private file page b

-- the pages of a life lie right behind those of another, over the same steps, with the same rights, and what backs them goes on
abbrev pub goes_on : Stretch → Stretch → Bool
goes_on a b = (a.pages.end == b.pages.first) && (a.begin == b.begin) && same_step a.end b.end && same_rights a.prot b.prot
    && same_back (back_by a.back (b.pages.first - a.pages.first)) b.back

-- each life of a row goes on in one of another, and no others are there
abbrev pub row_goes_on : List Stretch → List Stretch → Bool
row_goes_on [] [] = true
row_goes_on [] (b ∷ bs) = false
row_goes_on (a ∷ rest) [] = false
row_goes_on (a ∷ rest) (b ∷ bs) = goes_on a b && row_goes_on rest bs

-- ---- rows

abbrev pub is_of : ℕ → Stretch → Bool
is_of row life = life.row == row

-- the lives of a row
abbrev pub row_lives : List Stretch → ℕ → List Stretch
row_lives lives row = filter (is_of row) lives

-- the number of the row behind that of a last life; there are 2^16 numbers, and never as many rows
abbrev pub row_behind : Option Stretch → ℕ
row_behind None = 0
row_behind (Some life) = min (life.row + 1) (2 ^ 16 - 1)

-- the number of the row behind all of these
abbrev pub next_row : List Stretch → ℕ
next_row lives = row_behind (slice_get lives (length lives - 1))

-- a life of this row
abbrev pub numbered : ℕ → Stretch → Stretch
numbered row life = record { row = row; pages = life.pages; prot = life.prot; back = life.back; begin = life.begin; end = life.end }

-- up to this page, where it is a life of this row
abbrev pub reaching : ℕ → ℕ → Stretch → Stretch
reaching row end life = if life.row == row
    then record { row = life.row; pages = record { first = life.pages.first; end = end }; prot = life.prot; back = life.back; begin = life.begin; end = life.end }
    else life

abbrev pub end_of_row : List Stretch → ℕ
end_of_row [] = 0
end_of_row (life ∷ lives) = life.pages.end

-- with the lives of a row more: they share the last row, where its lives go on in them, and else they have the next one
abbrev pub with_row : List Stretch → List Stretch → List Stretch
with_row old row = if row_goes_on (row_lives old (next_row old - 1)) row
    then map (reaching (next_row old - 1) (end_of_row row)) old
    else old ++ map (numbered (next_row old)) row

-- the lives of the first n rows
abbrev pub first_joined : List Stretch → ℕ → List Stretch
first_joined lives zero = []
first_joined lives (suc n) = with_row (first_joined lives n) (row_lives lives n)

-- the lives, in as few rows
abbrev pub joined_rows : List Stretch → List Stretch
joined_rows lives = first_joined lives (next_row lives)
