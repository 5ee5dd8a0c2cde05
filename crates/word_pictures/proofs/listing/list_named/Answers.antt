use Rattle.std.proofs.Common.{inl, inr, refl, subst, sym}
use Rattle.std.proofs.KnownBytes.{Keeps-refl}
use Rattle.word_pictures.specs.Lists.{named_list}
use Rattle.word_pictures.specs.Listing.{FailsToList, Listed, lacking_nothing}
use Rattle.word_pictures.proofs.PictureLemmas.{text_drawn}
use Rattle.word_pictures.proofs.listing.list_named.Goals as goal

pub returns-in-Ok-clause-ends : goal.returns-in-Ok-clause-ends
returns-in-Ok-clause-ends g c =
    text_drawn (Listed c.args.limit c.args.trace.now) (FailsToList c.args.limit c.args.trace.now) lacking_nothing (named_list c.args.trace.now) _ _
    c.as_slice.result.now c.write_named.result (inr (inl refl)) (subst (Listed c.args.limit c.args.trace.now) (sym c.as_slice.ensures.value) c.in-Ok.ensures.ends)
    c.write_named.ensures.ok c.write_named.ensures.err

pub returns-in-Err-clause-ends : goal.returns-in-Err-clause-ends
returns-in-Err-clause-ends g c = inl (c.in-Err.ensures.ends, Keeps-refl _)
