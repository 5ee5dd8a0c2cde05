-- The picture of the lines of a trace, written
use Rattle.std.proofs.Common.{◌≡◌, ℕ, ◌⊎◌, inl, inr, ◌≤◌, ◌++◌, [], List, Option, Some, Result, Ok, Err, IfOk, IfErr, subst, sym, ◌∙◌}
use Rattle.std.proofs.KnownBytes.{Keeps-refl}
use Rattle.std.specs.Io.KnownBytes.{Keeps}
use Rattle.trace_io.specs.Lines.{lines_of}
use Rattle.trace_io.specs.Sink.{AppendsFront}
use Rattle.trace_io.specs.Source.{Reads, Stream}
use Rattle.trace_io.proofs.LineLemmas.{reads_map}
use Rattle.trace_words.specs.declared.fault.TraceFault.{TraceFault}
use Rattle.trace_words.specs.declared.fault.TraceFault.TheVariants.{NoMemory, ReadFailed, WriteFailed}
use Rattle.machine_model.specs.declared.setup.CallLimit.TheVariants.{Usual}
use Rattle.state_text.specs.Fronts.{IsFront}
use Rattle.draw_records.specs.Columns.{Columned, columned}
use Rattle.word_pictures.specs.Reading.{IsEnough, newlines}
use Rattle.word_pictures.specs.Notes.{traced_text}
use Rattle.word_pictures.proofs.TracedFronts.{traced_front}
use Rattle.watched.specs.Watching.{makes}
use Rattle.word_pictures.specs.Lining.{Drawn, FailsUpTo, Lined, begun_at, lacking_from, lacking_of, lines_picture, picture_drawn}
use Rattle.word_pictures.specs.Picture.{Fails, ShowsText, TextEnds, Watched}
use Rattle.word_parts.specs.declared.asked.LineRange.{LineRange}

was_lined : (lines : LineRange) (input front : List ℕ) (one r : Columned) → IsFront (Some lines.last) input front → one ≡ begun_at lines.first (lines_of front)
    → Watched (makes columned) one front r → Lined lines input (record { front = front; recorded = r })
was_lined lines input front one r is begun w = record { front = is; watched = subst (λ o. Watched (makes columned) o front r) begun w }

-- a fault of the front
pub lines_unseen : (at : Option ℕ) (input front : List ℕ) (f : TraceFault) → IsFront at input front → Fails Usual front f → FailsUpTo at input f
lines_unseen at input front f is (inl h) = inl (front, is, h)
lines_unseen at input front f is (inr h) = inr h

pub lines_drawn : (lines : LineRange) (input front : List ℕ) (old new : Option (List ℕ)) (one r : Columned) (lacks : Option ℕ)
    (ended : Result (Option ℕ) TraceFault) → IsFront (Some lines.last) input front → lacks ≡ lacking_from lines.first (lines_of front)
    → one ≡ begun_at lines.first (lines_of front) → Watched (makes columned) one front r
    → IfOk ended (λ x. (x ≡ lacks) × ShowsText x (lines_picture front r) old new)
    → IfErr ended (λ f. ((f ≡ NoMemory) × Keeps old new) ⊎ ((f ≡ WriteFailed) × AppendsFront old new (lines_picture front r)))
    → TextEnds (Lined lines input) (FailsUpTo (Some lines.last) input) (lacking_of lines) picture_drawn old new ended
lines_drawn lines input front old new one r lacks (Ok x) is lacking begun w (none, shows) err =
    (record { front = front; recorded = r }, was_lined lines input front one r is begun w, none ∙ lacking, shows)
lines_drawn lines input front old new one r lacks (Err f) is lacking begun w ok (inl (none, kept)) = inl (inr (inl none), kept)
lines_drawn lines input front old new one r lacks (Err f) is lacking begun w ok (inr (failed, part)) =
    inr (failed, inr (record { front = front; recorded = r }, was_lined lines input front one r is begun w, part))

-- ---- a text that was read up to a line

front_more : (n : ℕ) (text more front : List ℕ) → (more ≡ []) ⊎ (n ≤ newlines text) → IsFront (Some n) (traced_text text) front
    → IsFront (Some n) (traced_text (text ++ more)) front
front_more n text more front enough is = traced_front n text more front enough is

lined_more : (lines : LineRange) (text more : List ℕ) (d : Drawn) → (more ≡ []) ⊎ (lines.last ≤ newlines text) → Lined lines (traced_text text) d
    → Lined lines (traced_text (text ++ more)) d
lined_more lines text more d enough h = record { front = front_more lines.last text more d.front enough h.front; watched = h.watched }

fails_more : (lines : LineRange) (text more : List ℕ) (f : TraceFault) → (more ≡ []) ⊎ (lines.last ≤ newlines text)
    → FailsUpTo (Some lines.last) (traced_text text) f → FailsUpTo (Some lines.last) (traced_text (text ++ more)) f
fails_more lines text more f enough (inl (front, is, h)) = inl (front, front_more lines.last text more front enough is, h)
fails_more lines text more f enough (inr h) = inr h

-- how picturing what a text tells ends
abbrev pub LinesEnd : LineRange → List ℕ → Option (List ℕ) → Option (List ℕ) → Result (Option ℕ) TraceFault → Type 0
LinesEnd lines text old new ended =
    TextEnds (Lined lines (traced_text text)) (FailsUpTo (Some lines.last) (traced_text text)) (lacking_of lines) picture_drawn old new ended

drawn_more : (lines : LineRange) (text more : List ℕ) (old new : Option (List ℕ)) (ended : Result (Option ℕ) TraceFault)
    → (more ≡ []) ⊎ (lines.last ≤ newlines text) → LinesEnd lines text old new ended → LinesEnd lines (text ++ more) old new ended
drawn_more lines text more old new (Ok x) enough (d, h, is, w) = (d, lined_more lines text more d enough h, is, w)
drawn_more lines text more old new (Err f) enough (inl (why, kept)) = inl (fails_more lines text more f enough why, kept)
drawn_more lines text more old new (Err f) enough (inr (failed, inl kept)) = inr (failed, inl kept)
drawn_more lines text more old new (Err f) enough (inr (failed, inr (d, h, front))) = inr (failed, inr (d, lined_more lines text more d enough h, front))

-- what comes of a text comes of the input that it is the front of
pub lines_read : (s t : Stream) (lines : LineRange) (text : List ℕ) (old new : Option (List ℕ)) (ended : Result (Option ℕ) TraceFault)
    → Reads s t (IsEnough lines.last text) → LinesEnd lines text old new ended → Reads s t (λ input unread. LinesEnd lines input old new ended)
lines_read s t lines text old new ended r h = reads_map s t _ _ r (λ xs ys k e.
    subst (λ i. LinesEnd lines i old new ended) (sym e.is) (drawn_more lines text ys old new ended e.enough h))

pub lines_unread : (s t : Stream) (lines : LineRange) (old : Option (List ℕ)) (f : TraceFault) → (f ≡ NoMemory) ⊎ (f ≡ ReadFailed)
    → Reads s t (λ input unread. input ≡ input)
    → Reads s t (λ input unread. LinesEnd lines input old old (Err f))
lines_unread s t lines old f why r = reads_map s t _ _ r (λ xs ys k is. inl (inr why, Keeps-refl old))
