use Rattle.std.proofs.Common.{◌≡◌, ◌-◌, ◌++◌, ◌∙◌, ap, drop, length, min, replicate, take}
use Rattle.std.proofs.lemmas.List.{length-drop, take_rest}
use borrow.Rule.Slice.PartMut.{post_of}
use Rattle.hibitset_c.specs.LentSet.{word_of}
use Rattle.hibitset_c.proofs.BulkLemmas.{copied, rest_len}
use Rattle.hibitset_c.proofs.bulk.hibitset_copy_words.Goals as goal

pub returns : goal.returns
unfolding word_of
returns c =
    let layer = c.args.set.now.layer0.now in
    let old = c.args.buffer.now in
    let from = c.min.result in
    let count = c.min-count.result in
    let front = c.copy_from_slice.new.self in
    let count-is : count ≡ min (length layer - from) (length old) = c.min-count.ensures ∙ (ap (λ l. min (length l) (length old)) (take_rest layer from) ∙ ap (λ n. min n (length old)) (length-drop from layer)) in
    let front-is : front ≡ take count (drop from layer) = c.copy_from_slice.ensures.after ∙ ap (take count) (take_rest layer from) in
    let zeros-are : c.fill.new.self ≡ replicate (length old - count) 0 = c.fill.ensures.after (λ y e. e) ∙ ap (λ n. replicate n 0) (rest_len layer old front from count count-is front-is) in
    copied layer old front from count count-is front-is c.args.start c.fill.new.self (post_of count (length (front ++ drop count old) - count) (front ++ drop count old)) c.min.ensures zeros-are
