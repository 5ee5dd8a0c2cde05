-- The line of a copy, and how it is read.
use Rattle.std.proofs.Common.{◌≡◌, ◌⊎◌, inl, inr, ℕ, Bool, true, false, cond, eqb, List, [], ◌∷◌, ◌++◌, Option, Some, None, refl, sym, ap, ◌∙◌, subst}
use Rattle.std.proofs.Common.{codes, arith, decimal}
use Rattle.std.specs.Prelude.{◌≢◌}
use Rattle.std.specs.Str.{bytes_eq}
use Rattle.std.proofs.lemmas.Slice.Eq.{bytes_eq-Decides}
use Rattle.std.proofs.lemmas.Bool.Decides.{nat_tests}
use Rattle.vm_base.specs.Pages.{page_of}
use Rattle.trace_io.specs.Lines.{onto}
use Rattle.trace_text.specs.Action.{number_alone, page_alone}
use Rattle.trace_text.specs.Grammar.{BytesSay, Says}
use Rattle.trace_text.specs.Line.{core_of, is_comment, line_of}
use Rattle.trace_text.specs.Request.{◌>>=◌, ended, front_number}
use Rattle.trace_text.specs.Spelling.{SpellsCore, SpellsPage}
use Rattle.trace_text.specs.Words.{Word, begins_word, byte, front_word, words_of}
use Rattle.trace_text.specs.declared.line.Line.{Line}
use Rattle.trace_text.specs.declared.line.Line.TheVariants as Of
use Rattle.trace_text.proofs.ActionLemmas.{page_all, page_only}
use Rattle.trace_text.proofs.Choices.{bind_some, chosen, front_some}
use Rattle.trace_text.proofs.CoreLemmas.{core_all, core_only}
use Rattle.trace_text.proofs.LineLemmas.{line_is_said}
use Rattle.trace_text.proofs.WordLemmas.{words_join}
use Rattle.audit_text.specs.Copying.{CopiesPage, copied_of, copy_of, page_of_words}
use Rattle.audit_text.specs.Reading.{declaration_of, declared_said}
use Rattle.audit_text.specs.declared.reading.Said.{Said}

-- ---- how it is read

one_page : (words : List Word) → page_of_words words ≡ page_alone words
unfolding page_of_words page_alone number_alone
one_page words = go (front_number words)
  where
    go : (o : Option (ℕ × List Word)) → (o >>= λ f. ended f.1 (page_of f.0)) ≡ ((o >>= λ f. ended f.1 f.0) >>= λ a. Some (page_of a))
    go None = refl
    go (Some (n, [])) = refl
    go (Some (n, w ∷ ws)) = refl

pub copy_all : (words : List Word) (page : ℕ) → CopiesPage page words → copy_of words ≡ Some page
unfolding copy_of copied_of
copy_all words page (c, core, a, is, named, spells) =
    ap copy_of is ∙ ap (λ o. o >>= λ k. copied_of (codes "copy" ∷ a ∷ [])) (core_all c core named)
    ∙ one_page (a ∷ []) ∙ page_all a page spells

behind_copy : (words : List Word) (page : ℕ) → copied_of words ≡ Some page
    → (a : Word) × (words ≡ codes "copy" ∷ a ∷ []) × SpellsPage a page
unfolding copied_of
behind_copy words page e =
    let (f, front, rest) = bind_some (front_word words) (λ n. cond (bytes_eq n.0 (codes "copy")) (page_of_words n.1) None) page e in
    elim (chosen (bytes_eq f.0 (codes "copy")) (page_of_words f.1) None (Some page) rest) [
      | inl h ↦
          let (a, alone, spells) = page_only f.1 page (sym (one_page f.1) ∙ h.1) in (
            a,
            front_some words f front ∙ ap (λ w. w ∷ f.1) ((bytes_eq-Decides f.0 (codes "copy")).0 h.0) ∙ ap (λ l. codes "copy" ∷ l) alone,
            spells,
          )
      | inr h ↦ let bad = h.1 in absurd (cc)
    ]

pub copy_only : (words : List Word) (page : ℕ) → copy_of words ≡ Some page → CopiesPage page words
unfolding copy_of
copy_only words page e =
    let (f, front, rest) = bind_some (front_word words) (λ n. core_of n.0 >>= λ core. copied_of n.1) page e in
    let (core, named, more) = bind_some (core_of f.0) (λ k. copied_of f.1) page rest in
    let (a, is, spells) = behind_copy f.1 page more in
    (f.0, core, a, front_some words f front ∙ ap (λ l. f.0 ∷ l) is, core_only f.0 core named, spells)

-- ---- it is no declaration

-- the first word of a line whose first byte is a #
pub comment_word : (xs : List ℕ) (w : Word) (more : List Word) → words_of (35 ∷ xs) ≡ w ∷ more → byte w ≡ 35
comment_word xs w more e = go (begins_word xs) (words_of xs) e
  where
    go : (b : Bool) (ws : List Word) → cond b (onto 35 ws) ((35 ∷ []) ∷ ws) ≡ w ∷ more → byte w ≡ 35
    go true [] e = let same : 35 ∷ [] ≡ w = cc in sym (ap byte same)
    go true (l ∷ ls) e = let same : 35 ∷ l ≡ w = cc in sym (ap byte same)
    go false ws e = let same : 35 ∷ [] ≡ w = cc in sym (ap byte same)

-- the first word of a declaration
declared_not : (line : Line) (said : Said) (w : Word) (more : List Word) → declared_said line ≡ Some said → Says line (w ∷ more) → byte w ≡ 99 → ⊥
declared_not Of.Blank said w more e s c = absurd (cc)
declared_not (Of.Space cores frames calls) said w more e (x, f, rest, is, i, j, l) c =
    let same : w ≡ codes "vm" = cc in let b : byte w ≡ 118 = ap byte same in absurd (omega (arith, b, c))
declared_not (Of.File number mode len seed) said w more e (n, l, s, is, i, j, k, small) c =
    let same : w ≡ codes "file" = cc in let b : byte w ≡ 102 = ap byte same in absurd (omega (arith, b, c))
declared_not line said w more e s c = absurd (cc)

said_not : (bytes : List ℕ) (line : Line) (said : Said) (w : Word) (more : List Word) → words_of bytes ≡ w ∷ more → byte w ≡ 99
    → declared_said line ≡ Some said → BytesSay line bytes → ⊥
said_not [] line said w more words c e h = absurd (cc)
said_not (x ∷ xs) line said w more words c e h = go (eqb x 35) refl h
  where
    go : (b : Bool) → eqb x 35 ≡ b → cond b (line ≡ Of.Blank) (Says line (words_of (x ∷ xs))) → ⊥
    go true is k =
        let sign : x ≡ 35 = grind (arith, nat_tests, is) in
        let b = comment_word xs w more (subst (λ y. words_of (y ∷ xs) ≡ w ∷ more) sign words) in
        absurd (omega (arith, b, c))
    go false is k = declared_not line said w more e (subst (Says line) words k) c

pub no_declaration : (bytes : List ℕ) (page : ℕ) → CopiesPage page (words_of bytes) → declaration_of bytes ≡ None
unfolding declaration_of
no_declaration bytes page (c, core, a, is, named, spells) = go (line_of bytes >>= declared_said) refl
  where
    core_byte : byte c ≡ 99
    core_byte = ap byte named.1

    go : (o : Option Said) → (line_of bytes >>= declared_said) ≡ o → o ≡ None
    go None e = refl
    go (Some said) e =
        let (line, read, declared) = bind_some (line_of bytes) declared_said said e in
        absurd (said_not bytes line said c (codes "copy" ∷ a ∷ []) is core_byte declared (line_is_said bytes line read))

-- ---- and no event

no_sign : (page : ℕ) → SpellsPage (codes "=") page → ⊥
unfolding page_alone number_alone front_number
no_sign page spells = let read : None ≡ Some page = page_all (codes "=") page spells in absurd (cc)

sign_word : (ws rest : List Word) (c a : Word) (page : ℕ) → ws ++ codes "=" ∷ rest ≡ c ∷ codes "copy" ∷ a ∷ [] → ws ≢ [] → SpellsPage a page → ⊥
sign_word [] rest c a page e full spells = absurd (full refl)
sign_word (v ∷ []) rest c a page e full spells = let same : codes "=" ≡ codes "copy" = cc in absurd (cc)
sign_word (v ∷ w ∷ []) rest c a page e full spells = let same : a ≡ codes "=" = cc in no_sign page (subst (λ x. SpellsPage x page) same spells)
sign_word (v ∷ w ∷ x ∷ []) rest c a page e full spells = absurd (cc)
sign_word (v ∷ w ∷ x ∷ y ∷ ws) rest c a page e full spells = absurd (cc)

-- a line with a sign between words says no copy
pub sign_not : (front text : List ℕ) (page : ℕ) → words_of front ≢ [] → CopiesPage page (words_of (front ++ 32 ∷ 61 ∷ 32 ∷ text)) → ⊥
sign_not front text page full (c, core, a, is, named, spells) =
    sign_word (words_of front) (words_of (32 ∷ text)) c a page (sym (words_join front (61 ∷ 32 ∷ text)) ∙ is) full spells
