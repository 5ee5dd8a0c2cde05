-- The words that begin and end a line of a state
use Rattle.std.specs.Prelude.{ℕ, List, codes}
use Rattle.state_text.specs.declared.form.Form.{Form}
use Rattle.state_text.specs.declared.form.Form.TheVariants.{Json, Text}

-- what begins a line about a core, before its number
abbrev pub core_word : Form → List ℕ
core_word Text = codes "core "
core_word Json = codes "{\"core\":"

-- what ends a line
abbrev pub end_word : Form → List ℕ
end_word Text = codes "\n"
end_word Json = codes "}\n"
