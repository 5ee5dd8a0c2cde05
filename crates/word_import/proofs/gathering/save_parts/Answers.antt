use Rattle.std.proofs.Common.{◌≡◌, ℕ, ◌+◌, ◌<◌, length, List, [], ◌∷◌, ◌++◌, take, get_or, sym, ap, ◌∙◌, subst, arith}
use Rattle.std.specs.List.{All}
use Rattle.std.proofs.lemmas.List.{take_all, take_more}
use Rattle.std.proofs.lemmas.List.Elements.{All-push}
use Rattle.import_log.specs.declared.each.ProcessTrace.{ProcessTrace}
use Rattle.word_import.specs.Gathered.{IsSaved}
use Rattle.word_import.proofs.gathering.save_parts.Goals as goal

-- with one part more
saved_more : (P : ProcessTrace → Type 0) (parts : List ProcessTrace) (n : ℕ) (p : ProcessTrace) → n < length parts → p ≡ get_or parts n p
    → All P (take n parts) → P p
    → All P (take (n + 1) parts)
saved_more P parts n p lt is held one =
    subst (All P) (sym (take_more parts n p lt ∙ ap (λ x. take n parts ++ x ∷ []) (sym is))) (All-push P (take n parts) p held one)

pub parts-preserved : goal.parts-preserved
parts-preserved g c = record {
  within = omega (arith, c.parts-test.true);
  saved = saved_more (IsSaved (g.F.Files.saved c.args.files.now) c.args.folder.now) c.args.parts.now c.parts.at c.index-parts-at.result
      c.parts-test.true c.index-parts-at.is c.parts.invariant.saved c.in_ok-save_part.ensures;
}

pub returns : goal.returns
returns g c =
    subst (All (IsSaved (g.F.Files.saved c.args.files.now) c.args.folder.now)) (take_all c.parts.at c.args.parts.now c.parts-test.false)
    c.parts.invariant.saved
