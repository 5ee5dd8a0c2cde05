-- Seats that do tasks stay all seats of their word.
use Rattle.std.proofs.Common.{◌≡◌, ℕ, zero, suc, ◌+◌, ◌<◌, Bool, true, false, List, [], ◌∷◌, ◌++◌, length, map, take, drop, get_or}
use Rattle.std.proofs.Common.{arith, refl, sym, ap, ◌∙◌, subst}
use Rattle.std.specs.Prelude.{All, Option, None, Some, sum_by}
use Rattle.std.proofs.lemmas.List.{get_or-map, length-map}
use Rattle.std.proofs.lemmas.List.Sums.{sum_by-cons}
use Rattle.atomic_table.specs.Seated.{TableId}
use Rattle.machine_model.specs.declared.event.Event.{Event}
use Rattle.machine_model.specs.declared.event.Event.TheVariants as EventOf
use Rattle.seats.specs.Gathered.{AreAll}
use Rattle.seats.specs.Growing.{IsSame, NotesIf}
use Rattle.seats.specs.Notes.{SeatView}
use Rattle.live_space.specs.Space.{LiveView}
use Rattle.live_space.specs.declared.fault.LiveFault.{LiveFault}
use Rattle.trace_words.specs.Scripts.{Scripted}
use Rattle.trace_words.specs.declared.script.Task.{Task}
use Rattle.trace_words.specs.declared.script.Task.TheVariants.{Call, Flush, Review}
use Rattle.live_script.specs.declared.lane.Lane.{Lane}
use Rattle.live_script.specs.Tasks.{Does, DoesAll, EndsAs}
use Rattle.live_script.specs.Runs.{EndEach, IsBegun, RanView}
use Rattle.live_script.proofs.LaneLemmas.{are_last, ran_of, seat_of, some_lane}

-- the seat is of the same word, and as many may be split off it
record IsKept (s t : SeatView) : Type 0 where
  word : t.word ≡ s.word
  spare : t.spare ≡ s.spare

kept_equal : (s t : SeatView) → t ≡ s → IsKept s t
kept_equal s t e = record { word = ap (λ (v : SeatView). v.word) e; spare = ap (λ (v : SeatView). v.spare) e }

kept_same : (s t : SeatView) → IsSame s t → IsKept s t
kept_same s t h = record { word = h.word; spare = h.spare }

kept_trans : (s m t : SeatView) → IsKept s m → IsKept m t → IsKept s t
kept_trans s m t h k = record { word = k.word ∙ h.word; spare = k.spare ∙ h.spare }

kept_noted : (s t : SeatView) (room : ℕ) (event : Event) (is_noted : Bool) → NotesIf (record s { room = room }) event is_noted t → IsKept s t
kept_noted s t room event true (ticket, e) = record { word = ap (λ (v : SeatView). v.word) e; spare = ap (λ (v : SeatView). v.spare) e }
kept_noted s t room event false e = record { word = ap (λ (v : SeatView). v.word) e; spare = ap (λ (v : SeatView). v.spare) e }

task_kept : (live : LiveView) (s t : SeatView) (task : Task) → Does live s task t → IsKept s t
task_kept live s t (Call request) (may, begun, (reply, one, answers)) = kept_same s t one.same
task_kept live s t Flush (is_noted, h) = kept_noted s t h.room (EventOf.Flush s.core) is_noted h.noted
task_kept live s t Review (is_noted, h) = kept_noted s t h.room (EventOf.Review s.core) is_noted h.noted

tasks_kept : (live : LiveView) (s t : SeatView) (tasks : List Task) → DoesAll live s tasks t → IsKept s t
tasks_kept live s t [] e = kept_equal s t e
tasks_kept live s t (task ∷ tasks) (m, does, rest) = kept_trans s m t (task_kept live s m task does) (tasks_kept live m t tasks rest)

ends_kept : (live : LiveView) (s t : SeatView) (tasks : List Task) (fault : Option LiveFault) → EndsAs live s tasks t fault → IsKept s t
ends_kept live s t tasks None h = tasks_kept live s t tasks h
ends_kept live s t tasks (Some fault) h =
    kept_trans s h.before t (tasks_kept live s h.before h.done h.does) (kept_same h.before t h.idle.same)

-- ---- all seats

sums_same : (f : SeatView → ℕ) (xs ys : List SeatView) → length ys ≡ length xs
    → ((k : ℕ) (d e : SeatView) → k < length xs → f (get_or ys k e) ≡ f (get_or xs k d)) → sum_by f ys ≡ sum_by f xs
sums_same f [] [] n h = refl
sums_same f [] (y ∷ ys) n h = absurd (omega (arith, n))
sums_same f (x ∷ xs) [] n h = absurd (omega (arith, n))
sums_same f (x ∷ xs) (y ∷ ys) n h =
    let a = sum_by-cons f x xs in
    let b = sum_by-cons f y ys in
    let c = h zero x y (omega arith) in
    let d = sums_same f xs ys (omega (arith, n)) (λ k d e lt. h (suc k) d e (omega (arith, lt))) in
    omega (arith, a, b, c, d)

all_kept : (w : TableId) (before after : List SeatView) → length after ≡ length before
    → ((k : ℕ) (d e : SeatView) → k < length before → IsKept (get_or before k d) (get_or after k e)) → AreAll w before → AreAll w after
all_kept w before after n h all = record {
  own = λ k d lt. let few : k < length before = omega (arith, lt, n) in (h k d d few).word ∙ all.own k d few;
  all = sums_same (λ s. s.spare + 1) before after n (λ k d e lt. ap (λ m. m + 1) (h k d e lt).spare) ∙ all.all;
}

pub lanes_kept : {A : Type 0} (live : LiveView) (tasks : List (List Task)) (w : TableId) (before after : List (Lane A)) → EndEach live tasks before after
    → AreAll w (map (λ lane. lane.seat) before) → AreAll w (map (λ lane. lane.seat) after)
lanes_kept live tasks w before after ends =
    all_kept w (map seat_of before) (map seat_of after) (omega (arith, length-map before seat_of, length-map after seat_of, ends.count)) kept
  where
    kept : (k : ℕ) (d e : SeatView) → k < length (map seat_of before) → IsKept (get_or (map seat_of before) k d) (get_or (map seat_of after) k e)
    kept k d e lt =
        let few : k < length before = omega (arith, lt, length-map before seat_of) in
        let long : k < length after = omega (arith, few, ends.count) in
        let b = some_lane before k few in
        subst (λ s. IsKept s (get_or (map seat_of after) k e)) (sym (get_or-map seat_of before k b d few))
        (subst (λ s. IsKept (get_or before k b).seat s) (sym (get_or-map seat_of after k b e long))
        (ends_kept live (get_or before k b).seat (get_or after k b).seat (get_or tasks k []) (get_or after k b).fault (ends.each k b b few)))

-- as they lie in the space once all have run
pub ran_kept : {A : Type 0} (script : Scripted) (ran : RanView) (l : LiveView) (items first last : List (Lane A)) (n : ℕ) (view : ran_of l items ≡ ran)
    (begun : IsBegun script.asked ran.live ran.seats) (same : first ≡ items) (len : length first ≡ n) (ends : EndEach l script.tasks first last)
    → AreAll l.word (map (λ lane. lane.seat) items) → AreAll l.word (map (λ lane. lane.seat) (take n (last ++ drop (length last) items)))
ran_kept script ran l items first last n view begun same len ends all =
    subst (λ ls. AreAll l.word (map (λ lane. lane.seat) ls)) (sym (are_last script ran l items first last n view begun same len ends))
    (lanes_kept l script.tasks l.word items last (subst (λ b. EndEach l script.tasks b last) same ends) all)
