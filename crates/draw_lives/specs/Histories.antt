-- A history of calls as a picture: a lane for each core, time across, and a bar for each call
use Rattle.std.specs.Prelude.{ℕ, zero, suc, ◌+◌, ◌-◌, ◌*◌, ◌/◌, ◌^◌, Bool, true, false, ◌&&◌, ◌||◌, not, List, [], ◌∷◌, ◌++◌, if◌then◌else◌, ◌==◌, codes, decimal, length, max, min, nat_le, nat_lt, take}
use Rattle.std.specs.List.{flat_map, list_any}
use Rattle.trace_io.specs.Lines.{lines_of}
use Rattle.trace_text.specs.Words.{Word}
use Rattle.draw_steps.specs.Backing.{shown}
use Rattle.draw_steps.specs.Canvas.{size_text}
use Rattle.draw_steps.specs.Elements.{line_text, rect_text, text_front}
use Rattle.draw_steps.specs.declared.elements.Rect.{Rect}
use Rattle.draw_steps.specs.declared.elements.Way.{Way}
use Rattle.draw_lives.specs.Calls.{CallView, calls_of, listed_calls, own_from}
use Rattle.draw_lives.specs.declared.histories.TheConstants as The

-- ---- which calls are lit

abbrev pub is_listed : ℕ → List CallView → Bool
is_listed line listed = list_any (λ (c : CallView). c.line == line) listed

-- those that audit's answer shows, or all, where it shows none
abbrev pub is_lit : List CallView → CallView → Bool
is_lit listed c = (length listed == 0) || is_listed c.line listed

-- a history, its lit calls, when it begins and ends, and whether lit calls have their words beside them
pub record SceneView : Type 0 where
  pub calls : List CallView
  pub listed : List CallView
  pub first : ℕ
  pub last : ℕ
  pub worded : Bool

-- the least of this time and all begins, and the greatest of all ends
abbrev pub least_of : ℕ → List CallView → ℕ
least_of time [] = time
least_of time (c ∷ cs) = least_of (min time c.begin) cs

abbrev pub first_time : List CallView → ℕ
first_time calls = least_of (2 ^ 64 - 1) calls

abbrev pub last_time : List CallView → ℕ
last_time [] = 0
last_time (c ∷ cs) = max c.end (last_time cs)

-- where none is listed, and there are more than 2,000, there are no words
abbrev pub scene_of : List CallView → List CallView → SceneView
scene_of calls listed = record {
  calls = calls;
  listed = listed;
  first = first_time calls;
  last = last_time calls;
  worded = not (length listed == 0) || nat_le (length calls) 2000;
}

-- ---- where a call stands

-- Across, to scale: 1,144 units from the first begin to the last end.
abbrev pub x_of : SceneView → ℕ → ℕ
x_of s time = 112 + min (min (1144 * (time - s.first)) (2 ^ 64 - 1) / max (s.last - s.first) 1) 1144

-- how many of these calls are lit and of the core
abbrev pub lit_of : List CallView → ℕ → List CallView → ℕ
lit_of listed core [] = 0
lit_of listed core (c ∷ cs) = if (c.core == core) && is_lit listed c then suc (lit_of listed core cs) else lit_of listed core cs

-- how many of a core's calls have their words beside them: the first 60 that are lit
abbrev pub worded_of : SceneView → ℕ → ℕ
worded_of s core = if s.worded then min (lit_of s.listed core s.calls) 60 else 0

abbrev pub is_busy : ℕ → List CallView → Bool
is_busy core calls = list_any (λ (c : CallView). c.core == core) calls

-- a core's lane has a line of bars, and below it one for the words of each call; without calls there is none
abbrev pub lane_height : SceneView → ℕ → ℕ
lane_height s core = if is_busy core s.calls then 20 + 18 * worded_of s core else 0

-- it lies below the lanes of the cores before it
unfoldable pub lane_top : SceneView → ℕ → ℕ
lane_top s zero = 48
lane_top s (suc core) = lane_top s core + lane_height s core

unfoldable pub first_tops : SceneView → ℕ → List ℕ
first_tops s zero = []
first_tops s (suc n) = first_tops s n ++ lane_top s n ∷ []

-- ---- a call

-- a change or an access, and whether it isn't lit
abbrev pub class_of : Bool → Bool → List ℕ
class_of true true = codes "change"
class_of true false = codes "change dim"
class_of false true = codes "access"
class_of false false = codes "access dim"

-- each word behind a space
abbrev pub words_text : List Word → List ℕ
words_text words = flat_map (λ (w : Word). codes " " ++ flat_map shown w) words

-- the number of its line, and its words
unfoldable pub said_text : CallView → List ℕ
said_text c = decimal c.line ++ words_text c.words

-- from its begin to its end, and 2 units wide at least, in the lane that begins here
abbrev pub bar_place : SceneView → ℕ → CallView → Rect
bar_place s top c = record { x = x_of s c.begin; y = top + 5; width = max (x_of s c.end - x_of s c.begin) 2; height = 10 }

unfoldable pub bar_text : SceneView → ℕ → CallView → List ℕ
bar_text s top c = codes "<g><title>line " ++ said_text c ++ codes "</title>" ++ rect_text (class_of c.is_change (is_lit s.listed c)) (bar_place s top c) ++ codes "</g>\n"

-- words begin right of the begin of their bar, or end left of it
abbrev pub words_class : ℕ → List ℕ
words_class x = if nat_lt 860 x then codes "words end" else codes "words"

abbrev pub words_x : ℕ → ℕ
words_x x = if nat_lt 860 x then x - 5 else x + 5

abbrev pub flag_way : ℕ → ℕ → ℕ → Way
flag_way x top row = record { x1 = x; y1 = top + 15; x2 = x; y2 = top + 33 + 18 * row }

-- the words of a call whose bar begins here, in this row below the bars of its lane
unfoldable pub label_text : ℕ → ℕ → ℕ → CallView → List ℕ
label_text x top row c = line_text (codes "flag") (flag_way x top row) ++ text_front (words_class x) (words_x x) (top + 32 + 18 * row) ++ said_text c ++ codes "</text>\n"

-- those of a lit call before which so many of its core stand: the first one's are lowest, so that few lines cross words
abbrev pub words_at : SceneView → ℕ → ℕ → CallView → List ℕ
words_at s top rank c = if is_lit s.listed c && nat_lt rank (worded_of s c.core)
    then label_text (x_of s c.begin) top (worded_of s c.core - (rank + 1)) c else []

-- the call with this number, in its core's lane
abbrev pub call_text : SceneView → CallView → ℕ → List ℕ
call_text s c at = bar_text s (lane_top s c.core) c ++ words_at s (lane_top s c.core) (lit_of s.listed c.core (take at s.calls)) c

-- all calls from this one on
abbrev pub calls_text : SceneView → ℕ → List CallView → List ℕ
calls_text s at [] = []
calls_text s at (c ∷ cs) = call_text s c at ++ calls_text s (suc at) cs

-- ---- all

-- a core's name, and the line above its lane
unfoldable pub lane_words : ℕ → ℕ → List ℕ
lane_words top core = line_text (codes "lane") (record { x1 = 8; y1 = top; x2 = 1272; y2 = top }) ++ text_front (codes "core") 8 (top + 15) ++ codes "core "
    ++ decimal core ++ codes "</text>\n"

abbrev pub lane_text : SceneView → ℕ → List ℕ
lane_text s core = if is_busy core s.calls then lane_words (lane_top s core) core else []

unfoldable pub lanes_text : SceneView → ℕ → List ℕ
lanes_text s zero = []
lanes_text s (suc n) = lanes_text s n ++ lane_text s n

-- when it begins and ends
unfoldable pub axis_text : SceneView → ℕ → List ℕ
axis_text s y = text_front (codes "time") 112 y ++ decimal s.first ++ codes "</text>" ++ text_front (codes "time end") 1256 y ++ decimal s.last ++ codes "</text>\n"

-- how many calls there are, and how many are lit, where audit shows some
abbrev pub lit_words : ℕ → List ℕ
lit_words count = if count == 0 then [] else codes ", lit: " ++ decimal count

unfoldable pub head_text : SceneView → List ℕ
head_text s = text_front (codes "head") 8 24 ++ decimal (length s.calls) ++ codes " calls" ++ lit_words (length s.listed) ++ codes "</text>\n"

unfoldable pub scene_text : SceneView → List ℕ
scene_text s = size_text (codes "") 1280 (lane_top s 64 + 40) ++ The.HISTORY_STYLE.now ++ head_text s ++ lanes_text s 64 ++ calls_text s 0 s.calls
    ++ axis_text s (lane_top s 64 + 20) ++ codes "</svg>\n"

-- the picture of a history, or of audit's answer, or of one and then the other
abbrev pub history_text : List ℕ → List ℕ
history_text text = scene_text (scene_of (calls_of (own_from 1 (lines_of text)) (listed_calls (lines_of text))) (listed_calls (lines_of text)))
