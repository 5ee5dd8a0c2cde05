-- The calls of a log with their replies, line by line.
use Rattle.std.proofs.Common.{◌≡◌, ℕ, ◌+◌, ◌<◌, Bool, true, false, List, [], ◌∷◌, ◌++◌, Option, None, Some, length, map, arith, refl, sym, ap, ◌∙◌}
use Rattle.std.proofs.Common.{suc, subst, append_assoc, eqb}
use Rattle.std.proofs.lemmas.Bool.Decides.{nat_tests}
use Rattle.std.proofs.lemmas.List.{get_or-map, map_push}
use Rattle.std.specs.Prelude.{IfOk, Result, Ok, Err, Vec, if◌then◌else◌, unwrap_or}
use Rattle.import_forms.specs.Said.{said_of}
use Rattle.import_forms.specs.Speech.{Spoken}
use Rattle.import_lines.proofs.LineLemmas.{map_long}
use Rattle.import_lines.specs.Joining.{acting_text, speech_at}
use Rattle.import_lines.specs.LogLines.{front_left, spoken_from, spoken_whole}
use Rattle.import_lines.specs.Threads.{renamed}
use Rattle.import_lines.specs.declared.made.Making.{Making}
use Rattle.import_lines.proofs.UnreadLemmas.{spoken_long}
use Rattle.import_log.specs.Imported.{chosen_all, ending_all, is_unclear_in, processes_all, speeches_of}
use Rattle.import_log.specs.Owned.{is_unclear, owned, root_in}
use Rattle.import_log.specs.declared.owned.OwnedLines.{OwnedLines}
use Rattle.import_log.specs.declared.processes.Choice.{Choice}
use Rattle.import_steps.specs.Taking.{SoFar}
use Rattle.trace_io.specs.Lines.{lines_of}
use Rattle.word_import.specs.Replying.{ReportsLines, TellsReplies}
use Rattle.word_import.specs.declared.replying.RepliesReport.{RepliesReport}
use Rattle.import_steps.specs.Counts.{counted}
use Rattle.import_steps.specs.declared.counts.LineCounts.{LineCounts}
use Rattle.import_steps.specs.declared.taking.Fate.{Fate}
use Rattle.import_steps.specs.declared.taking.Fate.TheVariants.{Left}
use Rattle.import_steps.specs.declared.taking.Reason.{Reason}
use Rattle.import_lackey.specs.Replies.{RepliedSoFar, said_replied}
use Rattle.import_lackey.specs.declared.replies.CallTimes.{CallTimes}
use Rattle.word_import.specs.Replied.{AreTexts, call_replied, clock_of, counted_after, ending_replied, is_broken, is_late, line_at, line_replied}
use Rattle.word_import.specs.Replied.{line_text, replied, replies_by, replies_ending, replies_made, replies_of, replies_or_none}
use Rattle.word_import.specs.declared.replied.LogLine.{LogLine}

-- one more line was heard
pub replied_more : (raw : List (List ℕ)) (start : RepliedSoFar) (all : List Spoken) (made : List Making) (chosen n : ℕ) (s t : RepliedSoFar)
    (c d : LineCounts) (fate : Fate) → (s, c) ≡ replied raw start all made chosen n → (t, fate) ≡ line_replied raw start s all made chosen n
    → d ≡ counted c fate → (t, d) ≡ replied raw start all made chosen (n + 1)
replied_more raw start all made chosen n s t c d fate e h w =
    let one : n + 1 ≡ suc n = omega arith in
    rw one (ap (λ x. (t, x)) w ∙ ap (λ (a : RepliedSoFar × Fate). (a.0, counted c a.1)) h
    ∙ ap (λ (b : RepliedSoFar × LineCounts). counted_after b.1 (line_replied raw start b.0 all made chosen n)) e)

-- the call that returns at a line
pub call_there : (start s : RepliedSoFar) (thread : ℕ) (at : CallTimes) (why : Reason) (text : List ℕ) (call : Option (List ℕ))
    → acting_text true text ≡ call → said_replied start s thread at text (said_of text) ≡ call_replied start s thread at why call
call_there start s thread at why text call h = ap (call_replied start s thread at why) h

pub call_none : (start s : RepliedSoFar) (thread : ℕ) (at : CallTimes) (why : Reason) (text : List ℕ) (call : Option (List ℕ))
    → acting_text false text ≡ call → (s, Left why) ≡ call_replied start s thread at why call
call_none start s thread at why text call h = ap (call_replied start s thread at why) h

-- one more line was listed
pub line_listed : (xs : List LogLine) (x : LogLine) (line : List ℕ) (rest more whole : List (List ℕ)) → line_text x ≡ line → rest ≡ line ∷ more
    → map line_text xs ++ rest ≡ whole → map line_text (xs ++ x ∷ []) ++ more ≡ whole
line_listed xs x line rest more whole is e h =
    ap (λ l. l ++ more) (map_push line_text xs x) ∙ append_assoc (map line_text xs) (line_text x ∷ []) more
    ∙ ap (λ y. map line_text xs ++ y ∷ more) is ∙ ap (λ l. map line_text xs ++ l) (sym e) ∙ h

-- ---- where no line is broken

nothing_by : (xs : List ℕ) → eqb (length xs) 0 ≡ true → xs ≡ []
nothing_by [] e = refl
nothing_by (x ∷ xs) e = absurd (grind (arith, nat_tests))

whole_by : (l : List ℕ) (ls : List (List ℕ)) (b : Bool) → eqb (length (front_left l)) 0 ≡ b → (if b then is_broken ls else true) ≡ false
    → (b ≡ true) × (is_broken ls ≡ false)
whole_by l ls true e h = (refl, h)
whole_by l ls false e h = absurd cc

-- each line says what it says alone
pub spoken_alone : (all : List (List ℕ)) → is_broken all ≡ false → spoken_from [] all ≡ map spoken_whole all
spoken_alone [] h = refl
spoken_alone (l ∷ ls) h =
    let w = whole_by l ls (eqb (length (front_left l)) 0) refl h in
    ap (λ f. spoken_whole l ∷ spoken_from f ls) (nothing_by (front_left l) w.0) ∙ ap (λ x. spoken_whole l ∷ x) (spoken_alone ls w.1)

alone_at : (raw : List (List ℕ)) (first k : ℕ) → k < length raw
    → (speech_at (map (renamed first) (map spoken_whole raw)) k).1 ≡ (spoken_whole (line_at raw k)).1
alone_at raw first k p =
    let long = map_long spoken_whole raw in
    let low : k < length (map spoken_whole raw) = subst (λ n. k < n) long p in
    ap (λ (s : Spoken). s.1) (get_or-map (renamed first) (map spoken_whole raw) k (0, []) (0, []) low)
    ∙ ap (λ (s : Spoken). s.1) (get_or-map spoken_whole raw k [] (0, []) p)

-- lines that are said each alone, by their threads
pub texts_alone : (raw : List (List ℕ)) (said all : List Spoken) → is_broken raw ≡ false → said ≡ spoken_from [] raw → all ≡ owned said → AreTexts raw all
texts_alone raw said all h e o =
    let first = unwrap_or (root_in said) 0 in
    let is : all ≡ map (renamed first) (map spoken_whole raw) = o ∙ ap (map (renamed first)) (e ∙ spoken_alone raw h) in
    let long : length raw ≡ length all = map_long spoken_whole raw ∙ map_long (renamed first) (map spoken_whole raw) ∙ ap length (sym is) in
    record {
      long = long;
      same = λ k p. ap (λ (l : List Spoken). (speech_at l k).1) is ∙ alone_at raw first k (subst (λ n. k < n) (sym long) p);
    }

-- ---- of a log

-- what is told of its lines is told of it
pub replies_told : (start : SoFar) (choice : Choice) (several : Bool) (input : List ℕ) (raw : List (List ℕ)) (o : OwnedLines) (r : RepliesReport)
    (text : List ℕ)
    → raw ≡ lines_of input → o.lines ≡ speeches_of input → o.unclear ≡ is_unclear_in input → ReportsLines raw start choice several o r text
    → TellsReplies start choice several input r × (text ≡ replies_made start choice several input)
replies_told start choice several input raw o r text e said unclear h =
    let known = λ (w : List (List ℕ)) (l : List Spoken). replies_or_none w start choice l in
    let replies : known raw o.lines ≡ replies_of start choice input = ap (λ w. known w o.lines) e ∙ ap (known (lines_of input)) said in
    let ending = h.ending
    ∙ ap (λ w. ending_replied (is_broken w) (is_late several (known w o.lines).0) (ending_all o.unclear start choice o.lines)) e
    ∙ ap (λ l. ending_replied (is_broken (lines_of input)) (is_late several (known (lines_of input) l).0) (ending_all o.unclear start choice l)) said
    ∙ ap (λ u. ending_replied (is_broken (lines_of input)) (is_late several (replies_of start choice input).0) (ending_all u start choice
    (speeches_of input))) unclear in (
      record {
        ending = ending;
        counts = h.counts ∙ ap (λ (p : RepliedSoFar × LineCounts). p.1) replies;
        all = h.all ∙ ap length said ∙ sym (map_long _ _) ∙ spoken_long (lines_of input);
        processes = h.processes ∙ ap (processes_all choice.joined) said;
        process = h.process ∙ ap (chosen_all choice) said;
        calls = h.calls ∙ ap (λ (p : RepliedSoFar × LineCounts). length p.0.calls) replies;
        clock = h.clock ∙ ap (λ (p : RepliedSoFar × LineCounts). clock_of p.0.calls) replies;
      },
      h.written ∙ ap (λ x. replies_by x (known raw o.lines).0) ending
          ∙ ap (λ (p : RepliedSoFar × LineCounts). replies_by (replies_ending start choice several input) p.0) replies,
    )

-- the same of what came well
pub ok_told : {A E : Type 0} (r : Result (Vec ℕ A × RepliesReport) E) (start : SoFar) (choice : Choice) (several : Bool) (raw : List (List ℕ)) (o : OwnedLines)
    → o.lines ≡ owned (spoken_from [] raw) → o.unclear ≡ is_unclear (spoken_from [] raw)
    → IfOk r (λ r. ReportsLines raw start choice several o r.1 r.0.items)
    → IfOk r (λ r. (input : List ℕ) → raw ≡ lines_of input → TellsReplies start choice several input r.1)
ok_told (Ok r) start choice several raw o l u h = λ input e. (replies_told start choice several input raw o r.1 r.0.items e
    (l ∙ ap (λ w. owned (spoken_from [] w)) e) (u ∙ ap (λ w. is_unclear (spoken_from [] w)) e) h).0
ok_told (Err f) start choice several raw o l u h = h

pub ok_text : {A E : Type 0} (r : Result (Vec ℕ A × RepliesReport) E) (start : SoFar) (choice : Choice) (several : Bool) (raw : List (List ℕ)) (o : OwnedLines)
    → o.lines ≡ owned (spoken_from [] raw) → o.unclear ≡ is_unclear (spoken_from [] raw)
    → IfOk r (λ r. ReportsLines raw start choice several o r.1 r.0.items)
    → IfOk r (λ r. (input : List ℕ) → raw ≡ lines_of input → r.0.items ≡ replies_made start choice several input)
ok_text (Ok r) start choice several raw o l u h = λ input e. (replies_told start choice several input raw o r.1 r.0.items e
    (l ∙ ap (λ w. owned (spoken_from [] w)) e) (u ∙ ap (λ w. is_unclear (spoken_from [] w)) e) h).1
ok_text (Err f) start choice several raw o l u h = h

-- and of the log that has these lines
pub ok_log : {X E : Type 0} (r : Result X E) (B : X → List ℕ → Type 0) (raw : List (List ℕ)) (log : List ℕ) → raw ≡ lines_of log
    → IfOk r (λ x. (input : List ℕ) → raw ≡ lines_of input → B x input) → IfOk r (λ x. B x log)
ok_log (Ok x) B raw log e h = h log e
ok_log (Err f) B raw log e h = h
