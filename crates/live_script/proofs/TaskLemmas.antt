-- Tasks that are done one after another
use Rattle.std.proofs.Common.{ℕ, ◌+◌, ◌<◌, List, [], ◌∷◌, ◌++◌, take, drop, length, get_or, refl, sym, ap, ◌∙◌, subst}
use Rattle.std.proofs.lemmas.List.{take_more, drop_more, take-append-drop}
use Rattle.seats.specs.Notes.{SeatView}
use Rattle.live_space.specs.Calls.{IsIdle}
use Rattle.live_space.specs.Space.{LiveView}
use Rattle.live_space.specs.declared.fault.LiveFault.{LiveFault}
use Rattle.trace_words.specs.declared.script.Task.{Task}
use Rattle.live_script.specs.Tasks.{Does, DoesAll, Lacks, Stops}

-- one task more was done
does_more : (live : LiveView) (s m t : SeatView) (tasks : List Task) (task : Task) → DoesAll live s tasks m → Does live m task t
    → DoesAll live s (tasks ++ task ∷ []) t
does_more live s m t [] task same d = (t, subst (λ x. Does live x task t) same d, refl)
does_more live s m t (x ∷ xs) task (k, first, rest) d = (k, first, does_more live k m t xs task rest d)

module _ (live : LiveView) (s m t : SeatView) (tasks : List Task) (n : ℕ) (d : Task) (lt : n < length tasks) (so_far : DoesAll live s (take n tasks) m) where
  -- the task at n was done next
  pub does_next : Does live m (get_or tasks n d) t → DoesAll live s (take (n + 1) tasks) t
  does_next does = subst (λ f. DoesAll live s f t) (sym (take_more tasks n d lt)) (does_more live s m t (take n tasks) (get_or tasks n d) so_far does)

  -- the task at n couldn't begin
  pub stops_next : (fault : LiveFault) → Lacks live.share m (get_or tasks n d) fault → IsIdle m t → Stops live s tasks fault t
  stops_next fault lacks idle = record {
    done = take n tasks;
    next = get_or tasks n d;
    rest = drop (n + 1) tasks;
    are = sym (take-append-drop n tasks) ∙ ap (λ l. take n tasks ++ l) (drop_more tasks n d lt);
    before = m;
    does = so_far;
    lacks = lacks;
    idle = idle;
  }
