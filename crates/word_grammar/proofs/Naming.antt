-- A program with one word more.
use Rattle.std.proofs.Common.{◌≡◌, ◌∙◌, ◌++◌, ◌∷◌, [], ◌<◌, ◌+◌, ℕ, suc, List, map, take, length, get_or}
use Rattle.std.proofs.Common.{ap, arith, refl, subst, sym}
use Rattle.std.proofs.Math.Seq.{take-suc}
use Rattle.std.proofs.lemmas.List.{map-append}
use Rattle.clap.specs.Words.{AddsSubcommand, app_of, names_in, subcommand_names}
use Rattle.clap.specs.declared.builder.command.Command.{Command}
use Rattle.word_grammar.specs.Names.{name_of_word}
use Rattle.word_grammar.specs.declared.commands.Word.{Word}

names_append : (xs ys : List Command) → names_in (xs ++ ys) ≡ names_in xs ++ names_in ys
names_append [] ys = refl
names_append (x ∷ xs) ys = ap (λ ns. (app_of x).top.name ∷ ns) (names_append xs ys)

pub one_more : (words : List Word) (at : ℕ) (d : Word) (old word new : Command) → at < length words → AddsSubcommand old word new
    → (app_of word).top.name ≡ name_of_word (get_or words at d) → subcommand_names old ≡ map name_of_word (take at words)
    → subcommand_names new ≡ map name_of_word (take (at + 1) words)
one_more words at d old word new less adds named before =
    let longer : subcommand_names new ≡ subcommand_names old ++ (app_of word).top.name ∷ [] =
    ap names_in adds.subcommands ∙ names_append _ _ ∙ ap (λ b. subcommand_names old ++ b.now ∷ []) adds.name in
    let next : suc at ≡ at + 1 = omega arith in
    subst (λ n. subcommand_names new ≡ map name_of_word (take n words)) next
    (longer ∙ ap (λ n. subcommand_names old ++ n ∷ []) named ∙ ap (λ ns. ns ++ name_of_word (get_or words at d) ∷ []) before
    ∙ sym (ap (map name_of_word) (take-suc words at d less) ∙ map-append name_of_word (take at words) (get_or words at d ∷ [])))
