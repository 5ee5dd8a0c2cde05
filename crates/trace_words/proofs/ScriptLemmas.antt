-- Lines of scripts and their grammar.
use Rattle.machine_model.proofs.Words.{◌≡◌, ℕ, ◌<◌, inl, inr, Bool, true, false, cond, List, [], Option, Some, None, refl, sym, ap, ◌∙◌, subst, arith, ltb}
use Rattle.machine_model.proofs.Words.{nat_tests, IfSome, IfNone, IfOk, IfErr, IsSomeAnd, Request}
use Rattle.std.specs.Prelude.{Result, Ok, Err}
use Rattle.trace_words.specs.Declarations.{DeclarationView, asked_fault}
use Rattle.trace_words.specs.declared.fault.TraceFault.{TraceFault}
use Rattle.trace_words.specs.declared.fault.TraceFault.TheVariants.{NoMemory}
use Rattle.trace_words.specs.Collected.{Collected}
use Rattle.trace_words.specs.Ends.{Collects}
use Rattle.trace_text.specs.Words.{Word}
use Rattle.trace_text.specs.Request.{◌>>=◌}
use Rattle.trace_text.specs.Line.{line_of_words}
use Rattle.trace_text.specs.Grammar.{Says}
use Rattle.trace_text.specs.declared.action.Action.{Action}
use Rattle.trace_text.specs.declared.action.Action.TheVariants as Do
use Rattle.trace_text.specs.declared.line.Line.{Line}
use Rattle.trace_text.specs.declared.line.Line.TheVariants.{Blank, Space, File, Act, Fold, Finish, Now}
use Rattle.trace_text.proofs.Choices.{bind_some, chosen}
use Rattle.trace_text.proofs.LineLemmas.{said_is_read, read_is_said}
use Rattle.trace_words.specs.declared.script.Task.{Task}
use Rattle.trace_words.specs.declared.script.Task.TheVariants.{Call, Flush, Review}
use Rattle.trace_words.specs.declared.script.ScriptLine.{ScriptLine}
use Rattle.trace_words.specs.Scripts.{NamesTask, ReadsScript, Scripted, all_tasks, wanting, given_to, line_of_task, script_line_of, task_done, task_said}

-- ---- what is named is read

given_all : (cores core : ℕ) (task : Task) → core < cores → given_to cores core (Some task) ≡ Some (record { core = core; task = task })
given_all cores core task h =
    let test : ltb core cores ≡ true = grind (arith, nat_tests) in
    ap (λ b. cond b (Some (record { core = core; task = task })) None) test

said_all : (cores core : ℕ) (task : Task) → core < cores → task_said cores (line_of_task core task) ≡ Some (record { core = core; task = task })
said_all cores core (Call request) h = given_all cores core (Call request) h
said_all cores core Flush h = given_all cores core Flush h
said_all cores core Review h = given_all cores core Review h

task_all : (cores : ℕ) (line : ScriptLine) (words : List Word) → NamesTask cores line words → script_line_of cores words ≡ Some line
unfolding script_line_of
task_all cores line words (h, says) =
    ap (λ o. o >>= task_said cores) (said_is_read (line_of_task line.core line.task) words says) ∙ said_all cores line.core line.task h

-- ---- what is read is named

given_only : (cores core : ℕ) (task : Task) (line : ScriptLine) → given_to cores core (Some task) ≡ Some line
    → (core < cores) × (record { core = core; task = task } ≡ line)
given_only cores core task line e = elim (chosen (ltb core cores) (Some (record { core = core; task = task })) None (Some line) e) [
  | inl h ↦ let low : core < cores = grind (arith, nat_tests, h.0) in (low, (let g = h.1 in cc))
  | inr h ↦ let bad = h.1 in absurd (cc)
]

given_named : (cores core : ℕ) (task : Task) (line : ScriptLine) (words : List Word) → given_to cores core (Some task) ≡ Some line
    → Says (line_of_task core task) words → NamesTask cores line words
given_named cores core task line words e says =
    let (low, is) = given_only cores core task line e in subst (λ l. NamesTask cores l words) is (low, says)

act_named : (cores core : ℕ) (action : Action) (line : ScriptLine) (words : List Word) → given_to cores core (task_done action) ≡ Some line
    → Says (Act core action) words → NamesTask cores line words
act_named cores core (Do.Call request) line words e says = absurd (cc)
act_named cores core Do.Flush line words e says = given_named cores core Flush line words e says
act_named cores core Do.Review line words e says = given_named cores core Review line words e says
act_named cores core action line words e says = absurd (cc)

said_named : (cores : ℕ) (said : Line) (line : ScriptLine) (words : List Word) → task_said cores said ≡ Some line → Says said words
    → NamesTask cores line words
said_named cores (Act core action) line words e says = act_named cores core action line words e says
said_named cores (Now core request) line words e says = given_named cores core (Call request) line words e says
said_named cores said line words e says = absurd (cc)

task_only : (cores : ℕ) (line : ScriptLine) (words : List Word) → script_line_of cores words ≡ Some line → NamesTask cores line words
unfolding script_line_of
task_only cores line words e =
    let (said, read, is) = bind_some (line_of_words words) (task_said cores) line e in
    said_named cores said line words is (read_is_said said words read)

-- ---- what the code reads

pub names_some : (cores : ℕ) (r : Option ScriptLine) (words : List Word) → r ≡ script_line_of cores words → IfSome r (λ line. NamesTask cores line words)
names_some cores None words e = tt
names_some cores (Some line) words e = task_only cores line words (sym e)

pub names_none : (cores : ℕ) (r : Option ScriptLine) (words : List Word) → r ≡ script_line_of cores words
    → IfNone r ((line : ScriptLine) → NamesTask cores line words → ⊥)
names_none cores None words e = λ line names. (let clash : None ≡ Some line = e ∙ task_all cores line words names in absurd (cc))
names_none cores (Some line) words e = tt

-- ---- the whole script

-- (an option that is this and that is one)
one_asked : (o : Option DeclarationView) (a b : DeclarationView) → o ≡ Some a → o ≡ Some b → a ≡ b
one_asked o a b e f = let same : Some a ≡ Some b = sym e ∙ f in cc

pub found_script : (input unread : List ℕ) (collected : Collected ScriptLine) (r : Result Scripted TraceFault)
    → ((asked : DeclarationView) × (collected.asked ≡ Some asked) × Collects false NamesTask input asked collected.items)
    → IfOk r (λ script. (collected.asked ≡ Some script.asked) × (script.tasks ≡ all_tasks script.asked.cores collected.items))
    → IfErr r (λ f. f ≡ NoMemory) → ReadsScript input unread r
found_script input unread collected (Ok script) p h n = record {
  lines = collected.items;
  collects =
      subst (λ a. Collects false NamesTask input a collected.items) (one_asked collected.asked p.0 script.asked p.1 h.0) p.2;
  tasks = h.1;
}
found_script input unread collected (Err f) p h n = wanting n p.0 collected.items p.2
