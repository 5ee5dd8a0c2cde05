-- The text of the counts by which frames come back
use Rattle.std.specs.Prelude.{◌≡◌, ◌<◌, ◌≤◌, ℕ, ℤ, pos, Bool, true, false, cond, List, [], ◌∷◌, ◌++◌, Option, None, Some, codes, decimal, unsigned_abs, int_lt}
use Rattle.std.specs.List.{concat, flat_map}
use Rattle.refcache.specs.Counts.{true_count}
use Rattle.refcache.specs.declared.reports.Queued.{Queued}
use Rattle.machine_model.specs.World.{World}
use Rattle.state_seen.specs.PageTexts.{texts_below}
use Rattle.state_text.specs.declared.form.Form.{Form}
use Rattle.state_text.specs.declared.form.Form.TheVariants.{Json, Text}

-- what stands before a number's digits, and the same where what is no less than 0 has a sign, too
abbrev pub minus : ℤ → List ℕ
minus z = cond (int_lt z (pos 0)) (codes "-") []

abbrev pub sign : ℤ → List ℕ
sign z = cond (int_lt z (pos 0)) (codes "-") (codes "+")

-- the frames from here on are free
abbrev pub IsUsedEnd : World → ℕ → Type 0
IsUsedEnd w end = (end ≤ w.made.frames) × ((f : ℕ) → end ≤ f → f < w.made.frames → w.memory.is_free f ≡ true)

-- a core has this to add to the frame's global count
unfoldable pub delta_line : Form → ℕ → ℕ → ℤ → List ℕ
delta_line Text c f z = concat (codes "core " ∷ decimal c ∷ codes " count frame " ∷ decimal f ∷ codes " " ∷ sign z
    ∷ decimal (unsigned_abs z) ∷ codes "\n" ∷ [])
delta_line Json c f z = concat (codes "{\"core\":" ∷ decimal c ∷ codes ",\"count\":" ∷ minus z ∷ decimal (unsigned_abs z)
    ∷ codes ",\"frame\":" ∷ decimal f ∷ codes "}\n" ∷ [])

abbrev pub delta_text : Form → ℕ → ℕ → Option ℤ → List ℕ
delta_text form c f None = []
delta_text form c f (Some z) = delta_line form c f z

-- a core is to review the frame, which was put into its queue in this epoch
unfoldable pub queue_line : Form → ℕ → Queued → List ℕ
queue_line Text c q = concat (codes "core " ∷ decimal c ∷ codes " queue frame " ∷ decimal q.object ∷ codes " epoch "
    ∷ decimal q.epoch ∷ codes "\n" ∷ [])
queue_line Json c q = concat (codes "{\"core\":" ∷ decimal c ∷ codes ",\"queue\":" ∷ decimal q.object ∷ codes ",\"epoch\":"
    ∷ decimal q.epoch ∷ codes "}\n" ∷ [])

-- a core has flushed all its counts in the present epoch
unfoldable pub flushed_line : Form → ℕ → List ℕ
flushed_line Text c = concat (codes "core " ∷ decimal c ∷ codes " flushed\n" ∷ [])
flushed_line Json c = concat (codes "{\"core\":" ∷ decimal c ∷ codes ",\"flushed\":true}\n" ∷ [])

abbrev pub flushed_text : Form → ℕ → Bool → List ℕ
flushed_text form c true = flushed_line form c
flushed_text form c false = []

-- the end of a frame's line: whether its global count left 0 and came back to it since it was put into a queue
abbrev pub dirty_word : Form → Bool → List ℕ
dirty_word Text true = codes " dirty\n"
dirty_word Text false = codes "\n"
dirty_word Json true = codes ",\"dirty\":true}\n"
dirty_word Json false = codes "}\n"

-- of a frame its true count, and its global count
unfoldable pub frame_line : Form → ℕ → ℤ → ℤ → Bool → List ℕ
frame_line Text f count global dirty = concat (codes "frame " ∷ decimal f ∷ codes " count " ∷ minus count
    ∷ decimal (unsigned_abs count) ∷ codes " global " ∷ minus global ∷ decimal (unsigned_abs global) ∷ dirty_word Text dirty ∷ [])
frame_line Json f count global dirty = concat (codes "{\"frame\":" ∷ decimal f ∷ codes ",\"count\":" ∷ minus count
    ∷ decimal (unsigned_abs count) ∷ codes ",\"global\":" ∷ minus global ∷ decimal (unsigned_abs global) ∷ dirty_word Json dirty ∷ [])

-- ---- of a state

-- of the frames in use, the lowest first
abbrev pub used_text : World → (ℕ → List ℕ) → List ℕ
used_text w text = texts_below (λ f. cond (w.memory.is_free f) [] (text f)) w.made.frames

-- what a core has yet to add to counts, what it is to review, the next frame first, and whether it has flushed
abbrev pub core_counts : Form → World → ℕ → List ℕ
core_counts form w c = used_text w (λ f. delta_text form c f (w.memory.counts.delta c f))
    ++ flat_map (queue_line form c) (w.memory.counts.queue c) ++ flushed_text form c (w.memory.counts.flushed c)

abbrev pub frame_counts : Form → World → ℕ → List ℕ
frame_counts form w f =
    frame_line form f (true_count w.memory.counts f) (w.memory.counts.global f) (w.memory.counts.dirty f)

-- of all cores, and of the frames in use
abbrev pub counts_text : Form → World → List ℕ
counts_text form w = texts_below (core_counts form w) w.made.cores ++ used_text w (frame_counts form w)

-- of a machine, if there is one
abbrev pub counts_at : Form → Option World → List ℕ
counts_at form None = []
counts_at form (Some w) = counts_text form w
