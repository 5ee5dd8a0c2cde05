-- What each colour means, and what says so: the style of all shapes, and the legend.
use Rattle.std.specs.Prelude.{ℕ, ◌-◌, List, [], ◌∷◌, codes}
use Rattle.std.specs.List.{concat, flat_map}
use Rattle.draw_steps.specs.Drawing.{course_class}
use Rattle.draw_steps.specs.declared.shapes.Course.{Course}
use Rattle.draw_steps.specs.declared.shapes.Course.TheVariants.{Message, Acknowledgement}

-- ---- colours

-- its name, and how it is written on a light ground and on a dark one
pub record Colour : Type 0 where
  pub name : List ℕ
  pub light : List ℕ
  pub dark : List ℕ

abbrev pub red : Colour
red = record { name = codes "red"; light = codes "#b0433b"; dark = codes "#e0786f" }

abbrev pub green : Colour
green = record { name = codes "green"; light = codes "#3b8f5a"; dark = codes "#6cc08a" }

-- a message of a shootdown is red, and its acknowledgement green
abbrev pub course_colour : Course → Colour
course_colour Message = red
course_colour Acknowledgement = green

-- What pages allow: the class of what allows it, its name, its colour on a light ground and on a dark one, and that
-- of its edge.
pub record Shade : Type 0 where
  pub class : List ℕ
  pub name : List ℕ
  pub light : List ℕ
  pub dark : List ℕ
  pub edge : List ℕ

-- grey
abbrev pub nothing_shade : Shade
nothing_shade = record { class = codes "none"; name = codes "no rights"; light = codes "#ddd"; dark = codes "#999"; edge = codes "#bbb" }

-- green
abbrev pub read_shade : Shade
read_shade = record { class = codes "read"; name = codes "read"; light = codes "#d9efdf"; dark = codes "#9cc7a8"; edge = codes "#7fbf93" }

-- amber
abbrev pub write_shade : Shade
write_shade = record { class = codes "write"; name = codes "write"; light = codes "#f6e3c4"; dark = codes "#d3b883"; edge = codes "#e0aa55" }

-- blue
abbrev pub exec_shade : Shade
exec_shade = record { class = codes "exec"; name = codes "execute"; light = codes "#d5e4f4"; dark = codes "#9db8d3"; edge = codes "#6fa0d6" }

-- red
abbrev pub both_shade : Shade
both_shade = record {
  class = codes "both";
  name = codes "write and execute";
  light = codes "#f3d3d3";
  dark = codes "#d09a9a";
  edge = codes "#d67f7f";
}

abbrev pub shades : List Shade
shades = nothing_shade ∷ read_shade ∷ write_shade ∷ exec_shade ∷ both_shade ∷ []

-- ---- the style

-- what has the class is filled so, or stroked so
abbrev pub filled : List ℕ → List ℕ → List ℕ
filled class colour = concat (codes "." ∷ class ∷ codes "{fill:" ∷ colour ∷ codes "}" ∷ [])

abbrev pub stroked : List ℕ → List ℕ → List ℕ → List ℕ
stroked class colour how = concat (codes "." ∷ class ∷ codes "{stroke:" ∷ colour ∷ how ∷ codes "}" ∷ [])

-- an arrow's line, on a ground, and how it is stroked besides
abbrev pub arrow_rule : Course → (Colour → List ℕ) → List ℕ → List ℕ
arrow_rule course on how = stroked (course_class course) (on (course_colour course)) how

-- the heads of arrows, on either ground; a fault or a refusal has the colour of a message
abbrev pub head_rules : (Colour → List ℕ) → List ℕ
head_rules on = concat (codes ".fault,.ask{fill:" ∷ on (course_colour Message) ∷ codes "}" ∷ filled (codes "answer") (on (course_colour Acknowledgement)) ∷ [])

-- on a light ground
abbrev pub light_rules : List ℕ
light_rules = concat (
    codes "svg{background:#fff;font-family:monospace;font-size:9px}\n"
    ∷ codes "text{fill:#333}.name{fill:#fff}.prot{fill:#222}\n"
    ∷ codes ".reply,.fault{text-anchor:end;font-size:10px}\n"
    ∷ codes ".step,.deed{text-anchor:middle;fill:#666}\n"
    ∷ codes ".deed{paint-order:stroke;stroke:#fff;stroke-width:3px}\n"
    ∷ codes ".core,.head{font-weight:bold;font-size:12px}\n"
    ∷ codes ".page,.note{font-size:10px}.note{fill:#666}\n"
    ∷ codes ".grid{stroke:#eee}.lane{stroke:#ccc}\n"
    ∷ arrow_rule Message (λ c. c.light) (codes ";stroke-width:1.6;marker-end:url(#told)") ∷ codes "\n"
    ∷ arrow_rule Acknowledgement (λ c. c.light) (codes ";stroke-width:1.4;stroke-dasharray:4 3;marker-end:url(#back)") ∷ codes "\n"
    ∷ head_rules (λ c. c.light) ∷ codes "\n"
    ∷ filled (codes "mmap") (codes "#2f6fb0") ∷ filled (codes "munmap") (codes "#b0433b") ∷ filled (codes "mprotect") (codes "#8a5fb5") ∷ codes "\n"
    ∷ filled (codes "load") (codes "#2f7d4c") ∷ filled (codes "store") (codes "#a8650f") ∷ filled (codes "fetch") (codes "#3f7f7f") ∷ codes "\n"
    ∷ codes ".take{fill:#fff6d8;stroke:#a98}.spot{fill:#eee;stroke:#aaa}.still{fill:none}\n"
    ∷ flat_map (λ (s : Shade). filled s.class s.light) shades ∷ codes "\n" ∷ [])

-- what differs on a dark one
abbrev pub dark_rules : List ℕ
dark_rules = concat (
    codes "@media (prefers-color-scheme:dark){\n"
    ∷ codes "svg{background:#16181c}text{fill:#ddd}.name{fill:#fff}.prot{fill:#222}\n"
    ∷ codes ".step,.deed,.note{fill:#aaa}.deed{stroke:#16181c}\n"
    ∷ codes ".grid{stroke:#25282d}.lane{stroke:#444}\n"
    ∷ arrow_rule Message (λ c. c.dark) [] ∷ arrow_rule Acknowledgement (λ c. c.dark) [] ∷ head_rules (λ c. c.dark) ∷ codes "\n"
    ∷ codes ".take{fill:#5a5030;stroke:#a98}.spot{fill:#333;stroke:#888}\n"
    ∷ flat_map (λ (s : Shade). filled s.class s.dark) shades ∷ codes "}\n" ∷ [])

-- the head of an arrow of this class, in the colour of another
abbrev pub marker_text : List ℕ → List ℕ → List ℕ
marker_text name class = concat (codes "<marker id=\"" ∷ name
    ∷ codes "\" markerWidth=\"7\" markerHeight=\"7\" refX=\"6\" refY=\"3\" orient=\"auto\">\n<path class=\"" ∷ class
    ∷ codes "\" d=\"M0,0 L6,3 L0,6 z\"/></marker>\n" ∷ [])

abbrev pub style_text : List ℕ
style_text = concat (codes "<style>\n" ∷ light_rules ∷ dark_rules ∷ codes "</style>\n<defs>\n"
    ∷ marker_text (codes "told") (codes "ask") ∷ marker_text (codes "back") (codes "answer") ∷ codes "</defs>\n" ∷ [])

-- ---- the legend

-- a word at the beginning of a sentence
abbrev pub at_start : List ℕ → List ℕ
at_start [] = []
at_start (x ∷ xs) = (x - 32) ∷ xs

abbrev pub legend_words : List ℕ
legend_words = concat (codes "Bars are calls, with their replies above. " ∷ at_start (course_colour Message).name
    ∷ codes ": a message of a shootdown, up to its first take;</text>\n" ∷ [])

abbrev pub more_words : List ℕ
more_words = concat ((course_colour Acknowledgement).name
    ∷ codes ": its acknowledgement, at its second take. Point at a thing to read more of it.</text>\n" ∷ [])
