use Rattle.std.proofs.Common.{refl, sym, ◌∙◌, ap}
use Rattle.std.specs.Prelude.{slice_get}
use Rattle.hibitset_base.specs.Places.{bits_from}
use Rattle.hibitset_base.proofs.OneCountLemmas.{bits-count}
use Rattle.hibitset_base.proofs.RankLemmas.{in_front, in_rest}
use Rattle.hibitset_sparse.specs.Walk.{items_left, members_left}
use Rattle.hibitset_sparse.proofs.select.nth_of_words.Goals as goal

pub returns-then-left-count : goal.returns-then-left-count
unfolding items_left
returns-then-left-count c =
    let first = c.in-Some.first in
    let word = c.in-Some.word in
    c.nth_of_walk.ensures ∙ (ap (λ xs. slice_get xs c.words.left) (sym c.in-Some.ensures.goes) ∙ c.words.invariant)

pub words-preserved : goal.words-preserved
words-preserved c =
    let first = c.in-Some.first in
    let word = c.in-Some.word in
    in_rest _ (bits_from first word) _ _ c.words.left c.in-Some.ensures.goes (sym (bits-count first word c.in-Some.ensures.word)) c.if-left-count.false
    ∙ c.words.invariant

pub returns : goal.returns
returns c = sym (ap (λ xs. slice_get xs c.words.left) c.in_default.ensures.goes.0) ∙ c.words.invariant
