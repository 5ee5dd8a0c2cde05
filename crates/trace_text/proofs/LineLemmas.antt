-- Lines and their grammar.
use Rattle.std.proofs.Common.{◌≡◌, ◌⊎◌, inl, inr, Bool, ℕ, ◌<◌, ◌≤◌, true, false, cond, List, [], ◌∷◌, ◌++◌, Some, codes}
use Rattle.std.proofs.Common.{arith, refl, sym, ap, ◌∙◌, subst, eqb, length, take, get_or, ◌-◌, suc, zero}
use Rattle.std.proofs.lemmas.Bool.{cases_lt}
use Rattle.std.proofs.lemmas.Bool.Decides.{nat_tests}
use Rattle.std.proofs.lemmas.Fmt.{decimal_digit}
use Rattle.std.specs.Prelude.{◌+◌, ◌/◌, ◌%◌}
use Rattle.std.specs.Io.BufRead.{ends_with_byte, strip_last}
use Rattle.trace_text.proofs.Choices.{bind_some, by_word, ended_some, front_some, chosen}
use Rattle.trace_text.proofs.RequestLemmas.{asked_is_read, read_is_asked}
use Rattle.trace_text.proofs.SpellingLemmas.{front_all, front_only}
use Rattle.trace_text.proofs.ActionLemmas.{act_is_read, page_all, page_only, only_action, with_word}
use Rattle.trace_text.proofs.CoreLemmas.{core_all, core_only, two_digits}
use Rattle.trace_text.proofs.FileLemmas.{said_file, only_file}
use Rattle.trace_text.specs.Words.{Word, front_word, words_of}
use Rattle.trace_text.specs.Request.{◌>>=◌, ended, front_number, request_of}
use Rattle.trace_text.specs.Action.{action_of, page_alone}
use Rattle.trace_text.specs.Spelling.{SpellsPage, mode_text}
use Rattle.trace_text.specs.Line.{limit_of, space_of, core_of, act_of, task_of, fold_of, now_of, event_of, line_of_words, line_of}
use Rattle.trace_text.specs.Grammar.{Limits, Says, BytesSay, ReadsAll, ReadsOnly}
use Rattle.trace_text.specs.declared.line.Line.{Line}
use Rattle.trace_text.specs.declared.line.Line.TheVariants.{Blank, Space, File, Act, Fold, Finish, Now}

-- the bytes that name a core
core_shape : (w : Word) (c : ℕ) → core_of w ≡ Some c
    → ((d : ℕ) × (w ≡ 99 ∷ d ∷ []) × (48 ≤ d)) ⊎ ((d : ℕ) × (e : ℕ) × (w ≡ 99 ∷ d ∷ e ∷ []) × (48 ≤ e))
core_shape w c p =
    let (small, is) = core_only w c p in
    elim (cases_lt c 10) [
      | inl low ↦ inl (48 + c, is ∙ ap (λ l. 99 ∷ l) (decimal_digit c low), omega arith)
      | inr high ↦ inr (48 + c / 10, 48 + c % 10, is ∙ ap (λ l. 99 ∷ l) (two_digits c high small), omega arith)
    ]

no_bang : (d : ℕ) → 48 ≤ d → eqb d 33 ≡ false
no_bang d h = grind (arith, nat_tests)

-- a line whose first word names a core says what the core is told
pub acts : (w : Word) (core : ℕ) (rest : List Word) → core_of w ≡ Some core → line_of_words (w ∷ rest) ≡ task_of core rest
unfolding line_of_words event_of
acts w core rest k = elim (core_shape w core k) [
  | inl (d, e, h) ↦ subst (λ v. line_of_words (v ∷ rest) ≡ task_of core rest) (sym e)
      (ap (λ b. cond b (now_of (strip_last 33 (99 ∷ d ∷ [])) rest) (core_of (99 ∷ d ∷ []) >>= λ c. task_of c rest)) (no_bang d h)
      ∙ ap (λ o. o >>= λ c. task_of c rest) (ap core_of (sym e) ∙ k))
  | inr (d, f, e, h) ↦ subst (λ v. line_of_words (v ∷ rest) ≡ task_of core rest) (sym e)
      (ap (λ b. cond b (now_of (strip_last 33 (99 ∷ d ∷ f ∷ [])) rest) (core_of (99 ∷ d ∷ f ∷ []) >>= λ c. task_of c rest)) (no_bang f h)
      ∙ ap (λ o. o >>= λ c. task_of c rest) (ap core_of (sym e) ∙ k))
]

pub now_read : (w : Word) (core : ℕ) (rest : List Word) → core_of w ≡ Some core → line_of_words ((w ++ codes "!") ∷ rest) ≡ now_of w rest
unfolding line_of_words event_of
now_read w core rest k = elim (core_shape w core k) [
  | inl (d, e, h) ↦ subst (λ v. line_of_words ((v ++ codes "!") ∷ rest) ≡ now_of v rest) (sym e) refl
  | inr (d, f, e, h) ↦ subst (λ v. line_of_words ((v ++ codes "!") ∷ rest) ≡ now_of v rest) (sym e) refl
]

limits_all : (cores frames calls : ℕ) (more : List Word) → Limits calls more → limit_of cores frames more ≡ Some (Space cores frames calls)
unfolding limit_of
limits_all cores frames calls more (inl (e, n)) = rw (e, n) refl
limits_all cores frames calls more (inr (w, e, n)) = let k : front_number (w ∷ []) ≡ Some (calls, []) = front_all w [] calls n in rw (e, k) refl

pub said_is_read : ReadsAll
unfolding line_of_words space_of fold_of task_of now_of
said_is_read Blank words e = rw e refl
said_is_read (Space cores frames calls) words (c, f, more, e, n, m, l) =
    let k : front_number (c ∷ f ∷ more) ≡ Some (cores, f ∷ more) = front_all c (f ∷ more) cores n in
    let i : front_number (f ∷ more) ≡ Some (frames, more) = front_all f more frames m in
    rw (e, k, i) (limits_all cores frames calls more l)
said_is_read (File number mode len seed) words (n, l, s, e, spelled, length, byte, small) =
    ap line_of_words e ∙ said_file number mode len seed (n ∷ mode_text mode ∷ l ∷ s ∷ []) (n, l, s, refl, spelled, length, byte, small)
said_is_read (Act core action) words (c, args, e, k, d) =
    ap line_of_words e ∙ acts c core args (core_all c core k) ∙ act_is_read core action args d
said_is_read (Fold page) words (a, e, s) = ap line_of_words e ∙ ap (λ o. o >>= λ p. Some (Fold p)) (page_all a page s)
said_is_read (Finish core) words (c, e, k) = ap line_of_words e ∙ acts c core (codes "finish" ∷ []) (core_all c core k)
said_is_read (Now core request) words (c, args, e, k, a) =
    let is : core_of c ≡ Some core = core_all c core k in
    ap line_of_words e ∙ now_read c core args is ∙ ap (λ o. o >>= λ b. request_of args >>= λ q. Some (Now b q)) is
    ∙ ap (λ o. o >>= λ q. Some (Now core q)) (asked_is_read request args a)

calls_only : (cores frames : ℕ) (more : List Word) (line : Line) → limit_of cores frames more ≡ Some line
    → (calls : ℕ) × (Space cores frames calls ≡ line) × Limits calls more
unfolding limit_of
calls_only cores frames [] line e = (4096, cc, inl (refl, refl))
calls_only cores frames (w ∷ ws) line e =
    let (calls, ec, e1) = bind_some (front_number (w ∷ ws)) (λ calls. ended calls.1 (Space cores frames calls.0)) line e in
    let (none, same) = ended_some calls.1 (Space cores frames calls.0) line e1 in
    let (c, is, n) = front_only (w ∷ ws) calls ec in
    (calls.0, same, inr (c, is ∙ ap (λ l. c ∷ l) none, n))

only_space : (args : List Word) (line : Line) → space_of args ≡ Some line → Says line (codes "vm" ∷ args)
unfolding space_of
only_space args line e =
    let (cores, ec, f1) = bind_some (front_number args) _ line e in
    let (frames, ef, f2) = bind_some (front_number cores.1) (λ frames. limit_of cores.0 frames.0 frames.1) line f1 in
    let (calls, same, limits) = calls_only cores.0 frames.0 frames.1 line f2 in
    let (c, is, n) = front_only args cores ec in
    let (f, next, m) = front_only cores.1 frames ef in
    subst (λ l. Says l (codes "vm" ∷ args)) same
    (c, f, frames.1, ap (λ ws. codes "vm" ∷ ws) (is ∙ ap (λ ws. c ∷ ws) next), n, m, limits)

last_is : (xs : List ℕ) (n : ℕ) → length xs ≡ suc n → get_or xs n 0 ≡ 33 → xs ≡ take n xs ++ 33 ∷ []
last_is [] n h e = absurd (omega arith)
last_is (x ∷ []) zero h e = ap (λ y. y ∷ []) e
last_is (x ∷ (y ∷ ys)) zero h e = absurd (omega arith)
last_is (x ∷ []) (suc n) h e = absurd (omega arith)
last_is (x ∷ (y ∷ ys)) (suc n) h e = ap (λ l. x ∷ l) (last_is (y ∷ ys) n (omega arith) e)

stripped : (xs : Word) → ends_with_byte 33 xs ≡ true → xs ≡ strip_last 33 xs ++ codes "!"
stripped xs b =
    let some : 0 < length xs = grind (arith, nat_tests, b) in
    let last : get_or xs (length xs - 1) 0 ≡ 33 = grind (arith, nat_tests, b) in
    last_is xs (length xs - 1) (omega arith) last ∙ ap (λ l. l ++ codes "!") (sym (ap (λ t. cond t (take (length xs - 1) xs) xs) b))

only_now : (name : Word) (args : List Word) (line : Line) → ends_with_byte 33 name ≡ true → now_of (strip_last 33 name) args ≡ Some line
    → Says line (name ∷ args)
unfolding now_of
only_now name args line b e =
    let (core, k, e1) = bind_some (core_of (strip_last 33 name)) _ line e in
    let (request, q, e2) = bind_some (request_of args) (λ q. Some (Now core q)) line e1 in
    let same : Now core request ≡ line = cc in
    subst (λ l. Says l (name ∷ args)) same
    (strip_last 33 name, args, ap (λ n. n ∷ args) (stripped name b), core_only (strip_last 33 name) core k, read_is_asked request args q)

only_fold : (args : List Word) (line : Line) → fold_of args ≡ Some line → Says line (codes "fold" ∷ args)
unfolding fold_of
only_fold args line e = with_word page_alone SpellsPage page_only Fold Says (codes "fold") (λ page a s. (a, refl, s)) args line e

only_act : (name : Word) (core : ℕ) (verb : Word) (args : List Word) (line : Line) → core_of name ≡ Some core → act_of core verb args ≡ Some line
    → Says line (name ∷ verb ∷ args)
unfolding act_of
only_act name core verb args line k e =
    let (action, d, e1) = bind_some (action_of verb args) (λ a. Some (Act core a)) line e in
    let same : Act core action ≡ line = cc in
    subst (λ l. Says l (name ∷ verb ∷ args)) same (name, verb ∷ args, refl, core_only name core k, only_action verb args action d)

only_task : (name : Word) (core : ℕ) (args : List Word) (line : Line) → core_of name ≡ Some core → task_of core args ≡ Some line → Says line (name ∷ args)
unfolding task_of
only_task name core args line k a =
    let (verb, ev, e1) = bind_some (front_word args) _ line a in
    subst (λ ws. Says line (name ∷ ws)) (sym (front_some args verb ev))
    (by_word (λ w. Says line (name ∷ w ∷ verb.1)) verb.0 (codes "finish") _ _ line e1 (λ e.
    let (none, same) = ended_some verb.1 (Finish core) line e in
    subst (λ l. Says l (name ∷ codes "finish" ∷ verb.1)) same (name, ap (λ ws. name ∷ codes "finish" ∷ ws) none, core_only name core k))
    (only_act name core verb.0 verb.1 line k))

only_event : (name : Word) (args : List Word) (line : Line) → event_of name args ≡ Some line → Says line (name ∷ args)
unfolding event_of
only_event name args line e = elim (chosen (ends_with_byte 33 name) (now_of (strip_last 33 name) args) (core_of name >>= λ core.
    task_of core args) (Some line) e) [
      | inl h ↦ only_now name args line h.0 h.1
      | inr h ↦ let (core, k, a) = bind_some (core_of name) (λ core. task_of core args) line h.1 in only_task name core args line k a
    ]

pub read_is_said : ReadsOnly
unfolding line_of_words
read_is_said line [] e = let same : Blank ≡ line = cc in subst (λ l. Says l []) same refl
read_is_said line (name ∷ args) e =
    let says : Word → Type 0 = (λ w. Says line (w ∷ args)) in
    by_word says name (codes "vm") _ _ line e (only_space args line) (λ e.
    by_word says name (codes "file") _ _ line e (only_file args line) (λ e.
    by_word says name (codes "fold") _ _ line e (only_fold args line) (only_event name args line)))

-- what a line is read as is what its bytes say
pub line_is_said : (bytes : List ℕ) (line : Line) → line_of bytes ≡ Some line → BytesSay line bytes
line_is_said [] line e = read_is_said line [] e
line_is_said (b ∷ bs) line e = go (eqb b 35) refl
  where
    go : (c : Bool) → eqb b 35 ≡ c → BytesSay line (b ∷ bs)
    go true i =
        let same : Some Blank ≡ Some line = sym (ap (λ c. cond c (Some Blank) (line_of_words (words_of (b ∷ bs)))) i) ∙ e in
        subst (λ c. cond c (line ≡ Blank) (Says line (words_of (b ∷ bs)))) (sym i) (let k = same in cc)
    go false i = subst (λ c. cond c (line ≡ Blank) (Says line (words_of (b ∷ bs)))) (sym i)
        (read_is_said line (words_of (b ∷ bs)) (sym (ap (λ c. cond c (Some Blank) (line_of_words (words_of (b ∷ bs)))) i) ∙ e))
