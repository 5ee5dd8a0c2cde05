-- Files by their names, in comments of a trace: what a line shows of a name.
use Rattle.std.specs.Prelude.{ℕ, ◌+◌, ◌-◌, ◌/◌, ◌%◌, Bool, not, ◌&&◌, List, [], ◌∷◌, ◌++◌, if◌then◌else◌, ◌==◌, codes, drop, length, nat_le, nat_lt}
use Rattle.std.specs.Prelude.{slice_index_or, take}
use Rattle.trace_text.specs.Words.{byte}

-- a hexadecimal digit
abbrev pub digit : ℕ → ℕ
digit number = if nat_lt number 10 then 48 + number else 87 + number

-- a byte that is shown as it is: visible ASCII but for a backslash
abbrev pub is_plain : ℕ → Bool
is_plain x = nat_le 33 x && nat_le x 126 && not (x == 92)

-- the others are shown as `\xNN`
abbrev pub byte_shown : ℕ → List ℕ
byte_shown x = if is_plain x then x ∷ [] else 92 ∷ byte (codes "x") ∷ digit (x / 16) ∷ digit (x % 16) ∷ []

-- as many of the name's bytes as so many bytes show, and two dots where it goes on
abbrev pub name_shown : ℕ → List ℕ → List ℕ
name_shown room [] = []
name_shown room (x ∷ xs) = if nat_lt room (length (byte_shown x)) then codes ".."
    else byte_shown x ++ name_shown (room - length (byte_shown x)) xs

-- without a `>` at the end
abbrev pub without_sign : List ℕ → List ℕ
without_sign name = if slice_index_or name (length name - 1) 0 == byte (codes ">") then take (length name - 1) name else name

-- strace shows a file's name as `<NAME>`; a descriptor stands for itself
abbrev pub bare : List ℕ → List ℕ
bare name = if slice_index_or name 0 0 == byte (codes "<") then without_sign (drop 1 name) else name
