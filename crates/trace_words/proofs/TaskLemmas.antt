-- The tasks of each core.
use Rattle.machine_model.proofs.Words.{◌≡◌, ℕ, zero, suc, ◌+◌, ◌<◌, ◌≤◌, Bool, true, false, cond, eqb, List, [], ◌∷◌, ◌++◌, length, take, map, get_or, arith}
use Rattle.machine_model.proofs.Words.{refl, sym, ap, ◌∙◌, common_steps, take_more, filter-append, filter, range_with_len}
use Rattle.machine_model.proofs.Words.{Result, Ok}
use Rattle.std.proofs.Common.{is_ok}
use Rattle.std.proofs.lemmas.List.{map-append}
use Rattle.std.specs.Prelude.{◌==◌}
use Rattle.trace_words.proofs.TextLemmas.{range_more}
use Rattle.trace_words.specs.declared.script.Task.{Task}
use Rattle.trace_words.specs.declared.script.ScriptLine.{ScriptLine}
use Rattle.trace_words.specs.Scripts.{tasks_of, all_tasks}

-- what was appended, where it was
pub grown : {X U E : Type 0} (r : Result U E) (u : U) (xs ys new : List X) → new ≡ cond (is_ok r) xs ys → r ≡ Ok u → new ≡ xs
grown r u xs ys new e is = e ∙ ap (λ q. cond (is_ok q) xs ys) is

pub cores_more : (n : ℕ) (lines : List ScriptLine) → all_tasks (n + 1) lines ≡ all_tasks n lines ++ tasks_of n lines ∷ []
cores_more n lines =
    let e : n + 1 ≡ suc n = omega arith in
    ap (λ m. all_tasks m lines) e ∙ ap (map (λ core. tasks_of core lines)) (range_more 0 n n (omega arith))
    ∙ map-append (λ core. tasks_of core lines) (range_with_len 0 n) (n ∷ [])

-- the tasks of one core more
pub cores_kept : {V : Type 0} (items : V → List Task) (olds : List V) (t : V) (news : List V) (n m : ℕ) (lines : List ScriptLine)
    → map items olds ≡ all_tasks n lines → items t ≡ tasks_of n lines → news ≡ olds ++ t ∷ [] → m ≡ n + 1 → map items news ≡ all_tasks m lines
cores_kept items olds t news n m lines h i e k =
    ap (map items) e ∙ map-append items olds (t ∷ []) ∙ ap (λ l. l ++ items t ∷ []) h ∙ ap (λ x. all_tasks n lines ++ x ∷ []) i
    ∙ sym (cores_more n lines) ∙ ap (λ x. all_tasks x lines) (sym k)
