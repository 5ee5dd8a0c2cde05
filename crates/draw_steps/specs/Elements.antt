-- Elements of SVG.
use Rattle.std.specs.Prelude.{ℕ, List, [], ◌∷◌, codes, decimal}
use Rattle.std.specs.List.{concat}
use Rattle.draw_steps.specs.declared.elements.Rect.{Rect}
use Rattle.draw_steps.specs.declared.elements.Way.{Way}

unfoldable pub rect_text : List ℕ → Rect → List ℕ
rect_text class p = concat (codes "<rect class=\"" ∷ class ∷ codes "\" x=\"" ∷ decimal p.x ∷ codes "\" y=\"" ∷ decimal p.y
    ∷ codes "\" width=\"" ∷ decimal p.width ∷ codes "\" height=\"" ∷ decimal p.height ∷ codes "\" rx=\"3\"/>" ∷ [])

unfoldable pub line_text : List ℕ → Way → List ℕ
line_text class w = concat (codes "<line class=\"" ∷ class ∷ codes "\" x1=\"" ∷ decimal w.x1 ∷ codes "\" y1=\"" ∷ decimal w.y1
    ∷ codes "\" x2=\"" ∷ decimal w.x2 ∷ codes "\" y2=\"" ∷ decimal w.y2 ∷ codes "\"/>" ∷ [])

unfoldable pub circle_text : List ℕ → ℕ → ℕ → List ℕ
circle_text class x y = concat (codes "<circle class=\"" ∷ class ∷ codes "\" cx=\"" ∷ decimal x ∷ codes "\" cy=\"" ∷ decimal y
    ∷ codes "\" r=\"11\"/>" ∷ [])

-- the beginning of a text, up to its words
unfoldable pub text_front : List ℕ → ℕ → ℕ → List ℕ
text_front class x y = concat (codes "<text class=\"" ∷ class ∷ codes "\" x=\"" ∷ decimal x ∷ codes "\" y=\"" ∷ decimal y ∷ codes "\">" ∷ [])
