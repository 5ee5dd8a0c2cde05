-- Actions and their grammar.
use Rattle.std.proofs.Common.{◌≡◌, ℕ, List, [], ◌∷◌, Option, Some, codes, refl, sym, ap, ◌∙◌, subst}
use Rattle.vm_base.specs.Pages.{page_of}
use Rattle.trace_text.proofs.Choices.{bind_some, by_name, by_word, ended_some}
use Rattle.trace_text.proofs.RequestLemmas.{asked_is_read, read_is_asked}
use Rattle.trace_text.proofs.SpellingLemmas.{front_all, front_only}
use Rattle.trace_text.specs.Words.{Word}
use Rattle.trace_text.specs.Request.{◌>>=◌, ended, front_number, request_of}
use Rattle.trace_text.specs.Spelling.{SpellsNumber, SpellsPage}
use Rattle.trace_text.specs.Action.{number_alone, page_alone, call_of, frame_of, guess_of, walk_of, evict_of, bare_of, action_of}
use Rattle.trace_text.specs.Line.{act_of, task_of}
use Rattle.trace_text.specs.Grammar.{Does}
use Rattle.trace_text.specs.declared.action.Action.{Action}
use Rattle.trace_text.specs.declared.action.Action.TheVariants.{Call, Go, Take, Flush, Review, GiveUp, Frame, Guess, Whole, Walk, Evict}
use Rattle.trace_text.specs.declared.line.Line.TheVariants.{Act}

-- ---- what is said is read

alone_all : (w : Word) (n : ℕ) → SpellsNumber w n → number_alone (w ∷ []) ≡ Some n
unfolding number_alone
alone_all w n s = ap (λ o. o >>= λ p. ended p.1 p.0) (front_all w [] n s)

pub page_all : (w : Word) (page : ℕ) → SpellsPage w page → page_alone (w ∷ []) ≡ Some page
unfolding page_alone
page_all w page (addr, s, p) = ap (λ o. o >>= λ a. Some (page_of a)) (alone_all w addr s) ∙ ap Some (sym p)

pub act_is_read : (core : ℕ) (a : Action) (words : List Word) → Does a words → task_of core words ≡ Some (Act core a)
unfolding task_of act_of action_of call_of frame_of guess_of walk_of evict_of
act_is_read core (Call request) words (args, e, k) =
    ap (task_of core) e ∙ ap (λ o. (o >>= λ q. Some (Call q)) >>= λ a. Some (Act core a)) (asked_is_read request args k)
act_is_read core (Frame frame) words (w, e, s) =
    ap (task_of core) e ∙ ap (λ o. (o >>= λ f. Some (Frame f)) >>= λ a. Some (Act core a)) (alone_all w frame s)
act_is_read core (Guess page) words (w, e, s) =
    ap (task_of core) e ∙ ap (λ o. (o >>= λ p. Some (Guess p)) >>= λ a. Some (Act core a)) (page_all w page s)
act_is_read core (Walk page) words (w, e, s) =
    ap (task_of core) e ∙ ap (λ o. (o >>= λ p. Some (Walk p)) >>= λ a. Some (Act core a)) (page_all w page s)
act_is_read core (Evict page) words (w, e, s) =
    ap (task_of core) e ∙ ap (λ o. (o >>= λ p. Some (Evict p)) >>= λ a. Some (Act core a)) (page_all w page s)
act_is_read core a words e = ap (task_of core) e

-- ---- what is read is said

alone_only : (ws : List Word) (n : ℕ) → number_alone ws ≡ Some n → (w : Word) × (ws ≡ w ∷ []) × SpellsNumber w n
unfolding number_alone
alone_only ws n e =
    let (first, e1, f1) = bind_some (front_number ws) (λ p. ended p.1 p.0) n e in
    let (none, same) = ended_some first.1 first.0 n f1 in
    let (w, is, s) = front_only ws first e1 in
    (w, is ∙ ap (λ l. w ∷ l) none, subst (λ m. SpellsNumber w m) same s)

pub page_only : (ws : List Word) (page : ℕ) → page_alone ws ≡ Some page → (w : Word) × (ws ≡ w ∷ []) × SpellsPage w page
unfolding page_alone
page_only ws page e =
    let (addr, e1, f1) = bind_some (number_alone ws) (λ a. Some (page_of a)) page e in
    let (w, is, s) = alone_only ws addr e1 in
    let same : page_of addr ≡ page = cc in
    (w, is, (addr, s, sym same))

only_call : (args : List Word) (a : Action) → call_of args ≡ Some a → Does a (codes "call" ∷ args)
unfolding call_of
only_call args a e =
    let (request, q, e1) = bind_some (request_of args) (λ q. Some (Call q)) a e in
    let same : Call request ≡ a = cc in
    subst (λ x. Does x (codes "call" ∷ args)) same (args, refl, read_is_asked request args q)

-- what a name and one word say, whose number is read
pub with_word : {X : Type 0} (read : List Word → Option ℕ) (Spells : Word → ℕ → Type 0)
    → ((ws : List Word) (n : ℕ) → read ws ≡ Some n → (w : Word) × (ws ≡ w ∷ []) × Spells w n)
    → (make : ℕ → X) (P : X → List Word → Type 0) (name : Word) → ((n : ℕ) (w : Word) → Spells w n → P (make n) (name ∷ w ∷ []))
    → (args : List Word) (x : X) → (read args >>= λ n. Some (make n)) ≡ Some x → P x (name ∷ args)
with_word read Spells only make P name says args x e =
    let (n, k, e1) = bind_some (read args) (λ n. Some (make n)) x e in
    let same : make n ≡ x = cc in
    let (w, is, s) = only args n k in
    subst (λ y. P y (name ∷ args)) same (subst (λ ws. P (make n) (name ∷ ws)) (sym is) (says n w s))

-- an action on the page of an address
only_page : (make : ℕ → Action) (name : Word) → ((page : ℕ) (w : Word) → SpellsPage w page → Does (make page) (name ∷ w ∷ []))
    → (args : List Word) (a : Action) → (page_alone args >>= λ page. Some (make page)) ≡ Some a → Does a (name ∷ args)
only_page make name does args a e = with_word page_alone SpellsPage page_only make Does name does args a e

-- a name that says all of the action
abbrev Bare : Word → Action → Type 0
Bare name a = Does a (name ∷ [])

only_bare : (name : Word) (a : Action) → bare_of name ≡ Some a → Bare name a
only_bare name a e =
    by_name Bare name (codes "go") Go _ a e refl (λ e. by_name Bare name (codes "take") Take _ a e refl (λ e.
    by_name Bare name (codes "flush") Flush _ a e refl (λ e. by_name Bare name (codes "review") Review _ a e refl (λ e.
    by_name Bare name (codes "giveup") GiveUp _ a e refl (λ e. by_name Bare name (codes "whole") Whole _ a e refl (λ e. absurd (cc)))))))

-- behind which no word is left
only_ended : (name : Word) (args : List Word) (a : Action) → (bare_of name >>= λ b. ended args b) ≡ Some a → Does a (name ∷ args)
only_ended name args a e =
    let (b, k, e1) = bind_some (bare_of name) (λ b. ended args b) a e in
    let (none, same) = ended_some args b a e1 in
    subst (λ ws. Does a (name ∷ ws)) (sym none) (only_bare name a (k ∙ ap Some same))

pub only_action : (name : Word) (args : List Word) (a : Action) → action_of name args ≡ Some a → Does a (name ∷ args)
unfolding action_of frame_of guess_of walk_of evict_of
only_action name args a e =
    let does : Word → Type 0 = (λ w. Does a (w ∷ args)) in
    by_word does name (codes "call") _ _ a e (only_call args a) (λ e.
    by_word does name (codes "frame") _ _ a e
    (with_word number_alone SpellsNumber alone_only Frame Does (codes "frame") (λ frame w s. (w, refl, s)) args a) (λ e.
    by_word does name (codes "guess") _ _ a e (only_page Guess (codes "guess") (λ page w s. (w, refl, s)) args a) (λ e.
    by_word does name (codes "walk") _ _ a e (only_page Walk (codes "walk") (λ page w s. (w, refl, s)) args a) (λ e.
    by_word does name (codes "evict") _ _ a e (only_page Evict (codes "evict") (λ page w s. (w, refl, s)) args a) (only_ended name args a)))))
