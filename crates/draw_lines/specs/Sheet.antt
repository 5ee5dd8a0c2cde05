-- How a picture is laid out
use Rattle.std.specs.Prelude.{ℕ, ◌+◌, ◌-◌, ◌*◌, if◌then◌else◌, min, nat_lt, nat_le}
use Rattle.vm_base.specs.Cores.{members}
use Rattle.draw_lines.specs.Cores.{count_members}
use Rattle.draw_lines.specs.declared.sheet.Layout.{Layout}
use Rattle.draw_lines.specs.declared.sheet.Layout.TheVariants.{Wide, Narrow, Flat}
use Rattle.draw_lines.specs.declared.sheet.Sheet.{Sheet}

-- how many cores have a lane
abbrev pub lanes_of : ℕ → ℕ
lanes_of cores = count_members (members cores) 64

-- words stand in one line where more than eight cores have a lane, upright where there are more than twelve columns
abbrev pub form_of : ℕ → ℕ → Layout
form_of lanes columns = if nat_lt 8 lanes then Flat else if nat_lt 12 columns then Narrow else Wide

-- how wide a column is, where there are more than 12
abbrev pub narrow_wide : Layout → ℕ → ℕ
narrow_wide Flat columns = if nat_lt 40 columns then 16 else 36
narrow_wide Wide columns = 36
narrow_wide Narrow columns = 36

-- 12 or 40 columns have 1,440; more of them have more, and less each where many cores have a lane
abbrev pub wide : Sheet → ℕ
wide sheet = if nat_le sheet.columns 12 then 120 else narrow_wide sheet.form sheet.columns

abbrev pub across : Sheet → ℕ → ℕ
across sheet count = wide sheet * count

-- how high a lane is
abbrev pub pitch_of : Layout → ℕ
pitch_of Wide = 62
pitch_of Narrow = 128
pitch_of Flat = 15

abbrev pub pitch : Sheet → ℕ
pitch sheet = pitch_of sheet.form

abbrev pub down : Sheet → ℕ → ℕ
down sheet count = pitch sheet * count

abbrev pub sheet_of : ℕ → ℕ → ℕ → Sheet
sheet_of cores first columns = record { cores = cores; first = first; columns = columns; form = form_of (lanes_of cores) columns }

-- 150 for the names, and then the columns before this one
abbrev pub column : Sheet → ℕ → ℕ
column sheet number = 150 + across sheet (min (number - sheet.first) sheet.columns)

-- a core's lane lies below those of the cores with lesser numbers
abbrev pub lane : Sheet → ℕ → ℕ
lane sheet core = 40 + down sheet (count_members (members sheet.cores) core)

-- the rows lie below all lanes
abbrev pub rows_y : Sheet → ℕ
rows_y sheet = 76 + down sheet (lanes_of sheet.cores)

abbrev pub row_y : Sheet → ℕ → ℕ
row_y sheet row = rows_y sheet + 20 * row
