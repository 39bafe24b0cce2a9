use Rattle.std.proofs.Common.{lit<}
use Rattle.hibitset_base.specs.declared.util.TheConstants.{LAYERS}
use Rattle.hibitset.specs.BitSet.{layers, word_of, has}
use Rattle.hibitset_base.proofs.MembershipLemmas.{end_of_words}
use Rattle.hibitset.proofs.ComparisonLemmas.{members_pass, words_pass, decided}
use Rattle.hibitset.proofs.LayerLemmas.{shaped}
use Rattle.hibitset.proofs.compare.compare.Goals as goal

pub returns : goal.returns
unfolding word_of has
returns g c =
    let ours = c.args.ours.now in
    let theirs = c.args.theirs.now in
    decided c.compare_subtree.result (λ e. members_pass LAYERS (g.C.Comparison.allowed) (word_of ours) (word_of theirs) (lit< tt) (c.compare_subtree.ensures.if_true e)) c.compare_subtree.ensures.if_false
    (words_pass LAYERS (g.C.Comparison.allowed) (word_of ours) (word_of theirs) g.met.C.Comparison.none (lit< tt) (end_of_words LAYERS (layers ours) (lit< tt) (shaped ours.layers)) (end_of_words LAYERS (layers theirs) (lit< tt) (shaped theirs.layers)))
