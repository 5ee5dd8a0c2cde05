-- A line says one thing: the words of an event begin with its core or with `fold`, and no declaration's words do.
use Rattle.std.proofs.Common.{◌≡◌, ◌⊎◌, inl, inr, ℕ, Bool, true, false, cond, not, eqb, List, [], ◌∷◌, ◌++◌, Option, None, Some}
use Rattle.std.proofs.Common.{codes, arith, refl, sym, ap, ◌∙◌, subst}
use Rattle.std.proofs.lemmas.Bool.Decides.{nat_tests}
use Rattle.trace_text.specs.Grammar.{Says}
use Rattle.trace_text.specs.Line.{line_of, line_of_words}
use Rattle.trace_text.specs.Words.{Word, byte, words_of}
use Rattle.trace_text.specs.declared.line.Line.{Line}
use Rattle.trace_text.specs.declared.line.Line.TheVariants as Of
use Rattle.trace_text.proofs.Choices.{bind_some}
use Rattle.trace_text.proofs.LineLemmas.{read_is_said}
use Rattle.trace_text.proofs.WordLemmas.{words_join}
use Rattle.audit_text.specs.Grammar.{TellsEvent}
use Rattle.audit_text.specs.Laws.{LinesSayOne}
use Rattle.audit_text.specs.Copying.{CopiesPage, copy_of}
use Rattle.audit_text.specs.Reading.{copy_said, declaration_of, declared_said, event_said, or_copy, plain_said}
use Rattle.audit_text.specs.declared.reading.Said.{Said}
use Rattle.audit_text.specs.declared.reading.Said.TheVariants.{Copies}
use Rattle.audit_text.proofs.CopyLemmas.{comment_word, copy_only, sign_not}
use Rattle.audit_text.proofs.SaidLemmas.{comes_read, event_read, means_either}

-- ---- the first word of an event, and of a declaration

no_words : (line : Line) (text : List ℕ) (said : Said) → event_said line text ≡ Some said → Says line [] → ⊥
no_words Of.Blank text said e s = absurd (cc)
no_words (Of.Space cores frames calls) text said e s = absurd (cc)
no_words (Of.File number mode len seed) text said e s = absurd (cc)
no_words (Of.Act core action) text said e (c, args, is, k, d) = absurd (cc)
no_words (Of.Fold page) text said e (a, is, s) = absurd (cc)
no_words (Of.Finish core) text said e (c, is, k) = absurd (cc)
no_words (Of.Now core request) text said e (c, args, is, k, a) = absurd (cc)

event_word : (line : Line) (text : List ℕ) (said : Said) (w : Word) (more : List Word) → event_said line text ≡ Some said → Says line (w ∷ more)
    → (byte w ≡ 99) ⊎ (w ≡ codes "fold")
event_word Of.Blank text said w more e s = absurd (cc)
event_word (Of.Space cores frames calls) text said w more e s = absurd (cc)
event_word (Of.File number mode len seed) text said w more e s = absurd (cc)
event_word (Of.Act core action) text said w more e (c, args, is, k, d) = let same : w ≡ c = cc in inl (ap byte (same ∙ k.1))
event_word (Of.Fold page) text said w more e (a, is, s) = inr (cc)
event_word (Of.Finish core) text said w more e (c, is, k) = let same : w ≡ c = cc in inl (ap byte (same ∙ k.1))
event_word (Of.Now core request) text said w more e (c, args, is, k, a) =
    let same : w ≡ c ++ codes "!" = cc in inl (ap byte (same ∙ ap (λ l. l ++ codes "!") k.1))

declared_word : (line : Line) (said : Said) (w : Word) (more : List Word) → declared_said line ≡ Some said → Says line (w ∷ more)
    → (w ≡ codes "vm") ⊎ (w ≡ codes "file")
declared_word Of.Blank said w more e s = absurd (cc)
declared_word (Of.Space cores frames calls) said w more e (c, f, rest, is, i, j, l) = inl (cc)
declared_word (Of.File number mode len seed) said w more e (n, l, s, is, i, j, k, small) = inr (cc)
declared_word (Of.Act core action) said w more e s = absurd (cc)
declared_word (Of.Fold page) said w more e s = absurd (cc)
declared_word (Of.Finish core) said w more e s = absurd (cc)
declared_word (Of.Now core request) said w more e s = absurd (cc)

-- the second byte
abbrev second : Word → ℕ
second [] = 0
second (a ∷ []) = 0
second (a ∷ b ∷ bs) = b

no_comment : (w : Word) → (byte w ≡ 99) ⊎ (w ≡ codes "fold") → byte w ≡ 35 → ⊥
no_comment w (inl e) c = absurd (omega (arith, e, c))
no_comment w (inr e) c = let f : byte w ≡ 102 = ap byte e in absurd (omega (arith, f, c))

no_both : (w : Word) → (byte w ≡ 99) ⊎ (w ≡ codes "fold") → (w ≡ codes "vm") ⊎ (w ≡ codes "file") → ⊥
no_both w (inl e) (inl d) = let f : byte w ≡ 118 = ap byte d in absurd (omega (arith, e, f))
no_both w (inl e) (inr d) = let f : byte w ≡ 102 = ap byte d in absurd (omega (arith, e, f))
no_both w (inr e) (inl d) = let f : byte w ≡ 118 = ap byte d in let g : byte w ≡ 102 = ap byte e in absurd (omega (arith, f, g))
no_both w (inr e) (inr d) = let f : 111 ≡ 105 = ap second (sym e ∙ d) in absurd (omega (arith, f))

-- ---- no line is an event's and a declaration

apart_at : (front rest text : List ℕ) (line other : Line) (said declared : Said) (w : Word) (more : List Word) → words_of front ≡ w ∷ more
    → event_said line text ≡ Some said → Says line (w ∷ more) → line_of (front ++ 32 ∷ rest) ≡ Some other → declared_said other ≡ Some declared → ⊥
apart_at [] rest text line other said declared w more words e s read d = absurd (cc)
apart_at (x ∷ xs) rest text line other said declared w more words e s read d = go (eqb x 35) refl read
  where
    split : words_of (x ∷ (xs ++ 32 ∷ rest)) ≡ w ∷ (more ++ words_of rest)
    split = words_join (x ∷ xs) rest ∙ ap (λ l. l ++ words_of rest) words

    go : (b : Bool) → eqb x 35 ≡ b → cond b (Some Of.Blank) (line_of_words (words_of (x ∷ (xs ++ 32 ∷ rest)))) ≡ Some other → ⊥
    go true is k =
        let sign : x ≡ 35 = grind (arith, nat_tests, is) in
        no_comment w (event_word line text said w more e s) (comment_word xs w more (subst (λ y. words_of (y ∷ xs) ≡ w ∷ more) sign words))
    go false is k =
        no_both w (event_word line text said w more e s)
        (declared_word other declared w (more ++ words_of rest) d
        (read_is_said other (w ∷ (more ++ words_of rest)) (sym (ap line_of_words split) ∙ k)))

apart_declared : (bytes : List ℕ) (said other : Said) → TellsEvent said bytes → declaration_of bytes ≡ Some other → ⊥
unfolding declaration_of
apart_declared bytes said other t e =
    let (line, read, is) = bind_some (line_of bytes) declared_said other e in
    go (words_of t.front) refl line (sym (ap line_of t.halves.is) ∙ read) is
  where
    happened : event_said t.line t.text ≡ Some said
    happened = comes_read said t.line t.text t.comes

    go : (ws : List Word) → words_of t.front ≡ ws → (line : Line) → line_of (t.front ++ 32 ∷ 61 ∷ 32 ∷ t.text) ≡ Some line
        → declared_said line ≡ Some other → ⊥
    go [] words line read is = no_words t.line t.text said happened (subst (Says t.line) words t.says)
    go (w ∷ more) words line read is =
        apart_at t.front (61 ∷ 32 ∷ t.text) t.text t.line line said other w more words happened (subst (Says t.line) words t.says) read is

apart_copy : (bytes : List ℕ) (said other : Said) → TellsEvent said bytes → copy_said bytes ≡ Some other → ⊥
unfolding copy_said
apart_copy bytes said other t e =
    let (page, read, is) = bind_some (copy_of (words_of bytes)) (λ p. Some (Copies p)) other e in
    sign_not t.front t.text page (λ none. no_words t.line t.text said (comes_read said t.line t.text t.comes) (subst (Says t.line) none t.says))
    (subst (λ l. CopiesPage page (words_of l)) t.halves.is (copy_only (words_of bytes) page read))

apart : (bytes : List ℕ) (said other : Said) → TellsEvent said bytes → plain_said bytes ≡ Some other → ⊥
apart bytes said other t e = go (declaration_of bytes) refl e
  where
    go : (o : Option Said) → declaration_of bytes ≡ o → or_copy o bytes ≡ Some other → ⊥
    go (Some s) is k = apart_declared bytes said other t (is ∙ k)
    go None is k = apart_copy bytes said other t k

-- ---- the law

events_one : (bytes : List ℕ) (said other : Said) → TellsEvent said bytes → TellsEvent other bytes → said ≡ other
events_one bytes said other t u =
    let a = event_read bytes t.front t.text said t.halves t in
    let b = event_read bytes t.front t.text other t.halves u in
    let same : Some said ≡ Some other = sym a ∙ b in
    cc

means_one : (bytes : List ℕ) (said other : Said) → TellsEvent said bytes ⊎ (plain_said bytes ≡ Some said)
    → TellsEvent other bytes ⊎ (plain_said bytes ≡ Some other) → said ≡ other
means_one bytes said other (inl t) (inl u) = events_one bytes said other t u
means_one bytes said other (inl t) (inr e) = absurd (apart bytes said other t e)
means_one bytes said other (inr d) (inl u) = absurd (apart bytes other said u d)
means_one bytes said other (inr d) (inr e) = let same : Some said ≡ Some other = sym d ∙ e in cc

pub lines_say_one : LinesSayOne
lines_say_one line said other a b = means_one line said other (means_either said line a.1) (means_either other line b.1)
