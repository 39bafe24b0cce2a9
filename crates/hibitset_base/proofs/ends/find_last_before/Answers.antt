use Rattle.std.proofs.Common.{◌≡◌, ◌+◌, ◌-◌, ◌++◌, [], Some, None, get_or, refl, ◌∙◌, ap, arith}
use Rattle.std.proofs.lemmas.List.Elements.{All-nil, All-same}
use Rattle.hibitset_base.specs.Members.{members}
use Rattle.hibitset_base.specs.Places.{items_of}
use Rattle.hibitset_base.specs.Ranks.{start_over}
use Rattle.hibitset_base.specs.WordsRead.{BitIsSet, AllAreSet}
use Rattle.hibitset_base.specs.RevCursor.{rev_left}
use Rattle.hibitset_base.specs.declared.util.TheConstants.{LAYERS}
use Rattle.hibitset_base.proofs.LastLemmas.{none_at_first, none_in_all, found_here, last_given, few_down, none_read}
use Rattle.hibitset_base.proofs.RevWalkLemmas.{few_layers_back}
use Rattle.hibitset_base.proofs.ends.find_last_before.Goals as goal

pub layers-init : goal.layers-init
layers-init g c = record { none = none_at_first (g.T.BitSetLike.holds c.args.set.now) c.args.end; few = λ exact. omega arith }

pub put_head-requires-clause-lowest : goal.put_head-requires-clause-lowest
put_head-requires-clause-lowest g c = λ l lower. c.empty-cursor.ensures.empty_below l (omega (arith, lower))

pub returns-in-Some-clause-last : goal.returns-in-Some-clause-last
returns-in-Some-clause-last g c =
    let holds = g.T.BitSetLike.holds c.args.set.now in
    let items : items_of holds (rev_left c.put_head.new.cursor) ≡ members holds (start_over c.args.end (c.layers.layer + 1)) (start_over c.args.end c.layers.layer - start_over c.args.end (c.layers.layer + 1)) =
    c.put_head.ensures.items ∙ ap (λ ps. items_of holds ps ++ members holds (start_over c.args.end (c.layers.layer + 1)) (start_over c.args.end c.layers.layer - start_over c.args.end (c.layers.layer + 1))) c.empty-cursor.ensures.left in
    found_here holds c.args.end c.layers.layer c.layers.invariant.none (Some c.in-Some.last)
    (last_given LAYERS holds (g.T.BitSetLike.word c.args.set.now) _ _ (rev_left c.put_head.new.cursor) (rev_left c.previous_index.new.cursor) (Some c.in-Some.last) c.in-Some.ensures.end c.in-Some.ensures.goes _ items)

pub returns-in-Some-clause-reads_max : goal.returns-in-Some-clause-reads_max
returns-in-Some-clause-reads_max g c exact =
    let word = g.T.BitSetLike.word c.args.set.now in
    let cursor = c.put_head.new.cursor in
    let drawn : AllAreSet word (rev_left cursor) = c.put_head.ensures.from_set (All-same (BitIsSet word) _ [] c.empty-cursor.ensures.left (All-nil (BitIsSet word))) in
    let down = few_down LAYERS (g.T.BitSetLike.holds c.args.set.now) word _ _ (rev_left cursor) (rev_left c.previous_index.new.cursor) (Some c.in-Some.last) c.in-Some.ensures.goes exact drawn in
    let most = few_layers_back (λ l. get_or cursor.masks l 0) (λ l. get_or cursor.starts l 0) (LAYERS - 1) in
    let so_far = c.layers.invariant.few exact in
    let one = c.put_head.ensures.reads in
    omega (arith, down, most, so_far, one)

pub layers-preserved : goal.layers-preserved
layers-preserved g c =
    let holds = g.T.BitSetLike.holds c.args.set.now in
    let word = g.T.BitSetLike.word c.args.set.now in
    let cursor = c.put_head.new.cursor in
    let items : items_of holds (rev_left cursor) ≡ members holds (start_over c.args.end (c.layers.layer + 1)) (start_over c.args.end c.layers.layer - start_over c.args.end (c.layers.layer + 1)) =
    c.put_head.ensures.items ∙ ap (λ ps. items_of holds ps ++ members holds (start_over c.args.end (c.layers.layer + 1)) (start_over c.args.end c.layers.layer - start_over c.args.end (c.layers.layer + 1))) c.empty-cursor.ensures.left in
    record {
      none = found_here holds c.args.end c.layers.layer c.layers.invariant.none None
          (last_given LAYERS holds word _ _ (rev_left cursor) (rev_left c.previous_index.new.cursor) None c.in_default.ensures.end c.in_default.ensures.goes _ items);
      few = λ exact.
          let drawn : AllAreSet word (rev_left cursor) = c.put_head.ensures.from_set (All-same (BitIsSet word) _ [] c.empty-cursor.ensures.left (All-nil (BitIsSet word))) in
          let still = none_read LAYERS holds word _ _ (rev_left cursor) (rev_left c.previous_index.new.cursor) None refl (c.in_default.ensures.end refl) c.in_default.ensures.goes exact drawn in
          let so_far = c.layers.invariant.few exact in
          let one = c.put_head.ensures.reads in
          omega (arith, still, so_far, one);
    }

pub returns-clause-last : goal.returns-clause-last
returns-clause-last g c =
    let all : c.layers.layer ≡ LAYERS = omega arith in
    none_in_all (g.T.BitSetLike.holds c.args.set.now) LAYERS c.args.end c.requires (rw all at c.layers.invariant.none)

pub returns-clause-reads_max : goal.returns-clause-reads_max
returns-clause-reads_max g c exact = let so_far = c.layers.invariant.few exact in omega (arith, so_far)
