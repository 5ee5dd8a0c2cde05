-- How a task ends.
use Rattle.std.proofs.Common.{◌≡◌, ◌≢◌, ◌⊎◌, ◌∙◌, ℕ, Bool, true, false, List, [], Option, None, Some, IfSome, IsSome, arith, inl, inr, refl, subst, sym, ap}
use Rattle.command_line.specs.Done.{EndsIn, IsDone, IsLost, IsSilent, Lists, Saves}
use Rattle.either.specs.Either.{either}
use Rattle.either.specs.declared.Either.{Either}
use Rattle.trace_io.specs.Io.{ReadFrom, WrittenTo}
use Rattle.word_grammar.specs.declared.asking.Command.{Command}
use Rattle.word_grammar.specs.declared.asking.Work.{Work}
use Rattle.word_grammar.specs.declared.asking.Work.TheVariants.{ImportEach}
use Rattle.word_parts.specs.Input.{IsList}
use denote.Ref.{Bor}

-- the status, of a task, as it is seen, and after what was saved in two files
pub status_of_end : (P Q O F Failed : Type 0) (status seen one n : ℕ) → (P → O) → (Q → F)
    → (seen ≡ status) ⊎ ((seen ≡ 141) × (status ≡ 3) × Failed) → (one ≡ seen) ⊎ ((one ≡ 3) × (seen ≡ 0) × P)
    → (n ≡ one) ⊎ ((n ≡ 3) × (one ≡ 0) × Q)
    → (n ≡ status) ⊎ (((n ≡ 3) × (status ≡ 0) × (O ⊎ F)) ⊎ ((n ≡ 141) × (status ≡ 3) × Failed))
status_of_end P Q O F Failed status seen one n o f (inl a) (inl b) (inl d) = inl (d ∙ b ∙ a)
status_of_end P Q O F Failed status seen one n o f (inl a) (inl b) (inr d) = inr (inl (d.0, sym a ∙ sym b ∙ d.1, inr (f d.2)))
status_of_end P Q O F Failed status seen one n o f (inl a) (inr b) (inl d) = inr (inl (d ∙ b.0, sym a ∙ b.1, inl (o b.2)))
status_of_end P Q O F Failed status seen one n o f (inl a) (inr b) (inr d) = let bad : 3 ≡ 0 = sym b.0 ∙ d.1 in absurd (omega arith)
status_of_end P Q O F Failed status seen one n o f (inr a) (inl b) (inl d) = inr (inr (d ∙ b ∙ a.0, a.1, a.2))
status_of_end P Q O F Failed status seen one n o f (inr a) (inl b) (inr d) = let bad : 141 ≡ 0 = sym a.0 ∙ sym b ∙ d.1 in absurd (omega arith)
status_of_end P Q O F Failed status seen one n o f (inr a) (inr b) d = let bad : 141 ≡ 0 = sym a.0 ∙ b.1 in absurd (omega arith)

-- where all came to 0, the first did
pub first_is_0 : (F : Type 0) (one n : ℕ) → (n ≡ one) ⊎ ((n ≡ 3) × (one ≡ 0) × F) → n ≡ 0 → one ≡ 0
first_is_0 F one n (inl d) e = sym d ∙ e
first_is_0 F one n (inr d) e = d.1

-- the file of an order
pub order_saved : (Saved : List ℕ → List ℕ → Type 0) (asked named : Option (Bor (List ℕ))) (text : List ℕ) → asked ≡ named
    → IfSome asked (λ name. (text ≢ []) × Saved name.now text)
    → IfSome named (λ name. (order : List ℕ) × (order ≢ []) × Saved name.now order)
order_saved Saved asked named text e p =
    subst (λ o. IfSome o (λ name. (order : List ℕ) × (order ≢ []) × Saved name.now order)) e (wider asked p)
  where
    wider : (o : Option (Bor (List ℕ))) → IfSome o (λ name. (text ≢ []) × Saved name.now text)
        → IfSome o (λ name. (order : List ℕ) × (order ≢ []) × Saved name.now order)
    wider None p = tt
    wider (Some x) p = (text, p.0, p.1)

-- what holds of the value, where there is one
pub of_some : {X : Type 0} (P : X → Type 0) (o : Option X) (x : X) → o ≡ Some x → IfSome o P → P x
of_some P o x e p = subst (λ a. IfSome a P) e p

-- the bytes to come of a list that was opened
pub lists_of : {E O : Type 0} (rest : E → Option (List ℕ)) (rest_of : O → Option (List ℕ)) (Opens : List ℕ → O → Type 0)
    (name coming : Option (List ℕ)) (l : Either E O) → ((e : E) → rest e ≡ Some []) → IsList {E = E} Opens name l
    → coming ≡ either rest rest_of l → Lists rest_of Opens name coming
lists_of rest rest_of Opens name coming l empty (inl none) is = inl (none.1, is ∙ ap (either rest rest_of) none.2 ∙ empty none.0)
lists_of rest rest_of Opens name coming l empty (inr some) is =
    inr (some.0, some.1, some.2, some.4, is ∙ ap (either rest rest_of) some.3)

-- a task that was done on a text of which such bytes were to come, or named a list that couldn't be read
pub done_wider : {Does : ReadFrom → ReadFrom → WrittenTo → ℕ → Type 0} {Listed P Q : Option (List ℕ) → Type 0}
    {Saved : List ℕ → List ℕ → Type 0} {task : Command} {out : WrittenTo} {n : ℕ}
    → (names : List (Bor (List ℕ))) → ((c : Option (List ℕ)) → P c → Q c)
    → IsDone Does Listed P Saved task out n ⊎ ((n ≡ 3) × IsSilent out × IsSome task.maps)
    → IsDone Does Listed Q Saved task out n ⊎ IsLost task names out n
done_wider names f (inl d) = inl (record {
  list = d.list;
  text = d.text;
  listed = d.listed;
  read = (d.read.0, f _ d.read.1);
  did = d.did;
})
done_wider names f (inr l) = inr (l.1, inl (l.0, inr (inl l.2)))

-- why nothing was done, of files that are read as one log
pub lost_by : {N U : Type 0} {M : Type 0} {P : Type 0} {n : ℕ} → ((n ≡ 3) × N) ⊎ ((n ≡ 2) × U) → ((n ≡ 3) × (M ⊎ (P ⊎ N))) ⊎ ((n ≡ 2) × U)
lost_by (inl f) = inl (f.0, inr (inr f.1))
lost_by (inr u) = inr u

-- a task that was done on a list of which such bytes were to come
pub listed_wider : {Does : ReadFrom → ReadFrom → WrittenTo → ℕ → Type 0} {P Q Coming : Option (List ℕ) → Type 0}
    {Saved : List ℕ → List ℕ → Type 0} {task : Command} {out : WrittenTo} {n : ℕ}
    → ((c : Option (List ℕ)) → P c → Q c) → IsDone Does P Coming Saved task out n → IsDone Does Q Coming Saved task out n
listed_wider f d = record {
  list = d.list;
  text = d.text;
  listed = (d.listed.0, f _ d.listed.1);
  read = d.read;
  did = d.did;
}

-- it makes traces of processes
abbrev pub is_each : Work → Bool
is_each ImportEach = true
is_each work = false

-- other work doesn't
pub other_work : {work : Work} {X : Type 0} → is_each work ≡ false → work ≡ ImportEach → X
other_work other is = let bad : true ≡ false = sym (ap is_each is) ∙ other in absurd cc

-- what was done has its output there, where no file is named for it
pub ends_here : {Does : ReadFrom → ReadFrom → WrittenTo → ℕ → Type 0} {Listed Coming : Option (List ℕ) → Type 0}
    {Saved : List ℕ → List ℕ → Type 0} {task : Command} {out : WrittenTo} {n : ℕ}
    → (names : List (Bor (List ℕ))) → task.output ≡ None
    → IsDone Does Listed Coming Saved task out n ⊎ IsLost task names out n
    → EndsIn (λ o k. IsDone Does Listed Coming Saved task o k ⊎ IsLost task names o k) Saved out n task.output
ends_here {Does} {Listed} {Coming} {Saved} {task} {out} {n} names e done =
    subst (λ a. EndsIn (λ o k. IsDone Does Listed Coming Saved task o k ⊎ IsLost task names o k) Saved out n a) (sym e) done

-- or in the file that is named for it
pub ends_there : (Done : WrittenTo → ℕ → Type 0) (Saved : List ℕ → List ℕ → Type 0) (out : WrittenTo) (n : ℕ)
    (o : Option (Bor (List ℕ))) (name : Bor (List ℕ)) → o ≡ Some name → IsSilent out → Saves Done (Saved name.now) n → EndsIn Done Saved out n o
ends_there Done Saved out n o name e silent saved = subst (λ a. EndsIn Done Saved out n a) (sym e) (silent, saved)
