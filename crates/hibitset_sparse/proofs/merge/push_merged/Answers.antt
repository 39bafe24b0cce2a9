use Rattle.std.proofs.Common.{◌+◌, ◌*◌, ◌%◌, ◌∙◌, ap, arith}
use Rattle.hibitset_sparse.specs.GroupView.{view_has, view_word}
use Rattle.hibitset_sparse.specs.PackedArray.{value_in}
use Rattle.hibitset_sparse.specs.Rank.{bit_is_set}
use Rattle.hibitset_sparse.proofs.AppendLemmas.{none-bit, none-made, one-made-at}
use Rattle.hibitset_sparse.proofs.GroupViewLemmas.{view-bits}
use Rattle.hibitset_sparse.proofs.SetLemmas.{on_ok}
use Rattle.hibitset_sparse.proofs.merge.push_merged.Goals as goal

pub returns-then-word-eq0-clause-made : goal.returns-then-word-eq0-clause-made
returns-then-word-eq0-clause-made g c =
    (none-made c.args.q c.in_ok-word.word (value_in c.args.groups.now) c.args.items.now.items c.push_words.new.items.items _ c.requires.group c.requires.made
    c.push_words.ensures.before c.in_ok-word.ensures.pushed c.if-word-eq0.true).made

pub returns-then-word-eq0-clause-others : goal.returns-then-word-eq0-clause-others
returns-then-word-eq0-clause-others g c =
    (none-made c.args.q c.in_ok-word.word (value_in c.args.groups.now) c.args.items.now.items c.push_words.new.items.items _ c.requires.group c.requires.made
    c.push_words.ensures.before c.in_ok-word.ensures.pushed c.if-word-eq0.true).others

pub returns-then-word-eq0-clause-pushed : goal.returns-then-word-eq0-clause-pushed
returns-then-word-eq0-clause-pushed g c = λ p low here b few.
    let own = c.args.own.now in
    let other = c.args.other.now in
    ap (λ w. bit_is_set w b) ((none-made c.args.q c.in_ok-word.word
    (value_in c.args.groups.now) c.args.items.now.items c.push_words.new.items.items _ c.requires.group
    c.requires.made c.push_words.ensures.before c.in_ok-word.ensures.pushed c.if-word-eq0.true).pushed p low here)
    ∙ (g.met.M.Merge.bits (view_word own 0 (p % 64)) (view_word other 0 (p % 64)) b
    ∙ (ap (λ x. g.M.Merge.test x (bit_is_set (view_word other 0 (p % 64)) b)) (view-bits own (p % 64) b (omega arith) few)
    ∙ ap (g.M.Merge.test (view_has own (64 * (p % 64) + b))) (view-bits other (p % 64) b (omega arith) few)))

pub push-requires-clause-none_above : goal.push-requires-clause-none_above
push-requires-clause-none_above g c = λ b from small. none-bit c.args.groups.now b (c.requires.made.none b from small)

pub returns-clause-made : goal.returns-clause-made
returns-clause-made g c = on_ok c.push.result c.push.ensures.put (λ put.
    (one-made-at c.args.q c.in_ok-word.word (value_in c.args.groups.now) c.args.items.now.items c.push_words.new.items.items _ c.requires.group c.requires.made
    c.push_words.ensures.before c.in_ok-word.ensures.pushed c.len-start.result (value_in c.push.new.self) (omega arith) put (omega arith) (omega arith)).made)

pub returns-clause-pushed : goal.returns-clause-pushed
returns-clause-pushed g c = on_ok c.push.result c.push.ensures.put (λ put. λ p low here b few.
    let own = c.args.own.now in
    let other = c.args.other.now in
    ap (λ w. bit_is_set w b) ((one-made-at c.args.q c.in_ok-word.word
    (value_in c.args.groups.now) c.args.items.now.items c.push_words.new.items.items _ c.requires.group
    c.requires.made c.push_words.ensures.before c.in_ok-word.ensures.pushed c.len-start.result (value_in c.push.new.self) (omega arith) put (omega arith)
    (omega arith)).pushed p low here)
    ∙ (g.met.M.Merge.bits (view_word own 0 (p % 64)) (view_word other 0 (p % 64)) b
    ∙ (ap (λ x. g.M.Merge.test x (bit_is_set (view_word other 0 (p % 64)) b)) (view-bits own (p % 64) b (omega arith) few)
    ∙ ap (g.M.Merge.test (view_has own (64 * (p % 64) + b))) (view-bits other (p % 64) b (omega arith) few))))

pub returns-clause-others : goal.returns-clause-others
returns-clause-others g c = on_ok c.push.result c.push.ensures.put (λ put.
    (one-made-at c.args.q c.in_ok-word.word (value_in c.args.groups.now) c.args.items.now.items c.push_words.new.items.items _ c.requires.group c.requires.made
    c.push_words.ensures.before c.in_ok-word.ensures.pushed c.len-start.result (value_in c.push.new.self) (omega arith) put (omega arith) (omega arith)).others)
