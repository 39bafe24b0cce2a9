use Rattle.std.proofs.Common.{◌-◌, get_or, arith}
use Rattle.hibitset_base.specs.RevCursor.{rev_left}
use Rattle.hibitset_base.specs.declared.util.TheConstants.{LAYERS, MAX_EID}
use Rattle.hibitset_base.proofs.LastLemmas.{last_given, last_below, few_down}
use Rattle.hibitset_base.proofs.RevWalkLemmas.{few_layers_back}
use Rattle.hibitset_base.proofs.ends.find_last.Goals as goal

pub returns-clause-last : goal.returns-clause-last
returns-clause-last g c =
    let holds = g.T.BitSetLike.holds c.args.set.now in
    last_below holds MAX_EID c.previous_index.result
    (last_given LAYERS holds (g.T.BitSetLike.word c.args.set.now) _ _ (rev_left c.start_at_end-cursor.result) (rev_left c.previous_index.new.cursor) c.previous_index.result c.previous_index.ensures.end c.previous_index.ensures.goes _ c.start_at_end-cursor.ensures.start.items)

pub returns-clause-reads_max : goal.returns-clause-reads_max
returns-clause-reads_max g c exact =
    let cursor = c.start_at_end-cursor.result in
    let down = few_down LAYERS (g.T.BitSetLike.holds c.args.set.now) (g.T.BitSetLike.word c.args.set.now) _ _ (rev_left cursor) (rev_left c.previous_index.new.cursor) c.previous_index.result c.previous_index.ensures.goes exact c.start_at_end-cursor.ensures.start.from_set in
    let most = few_layers_back (λ l. get_or cursor.masks l 0) (λ l. get_or cursor.starts l 0) (LAYERS - 1) in
    let one = c.start_at_end-cursor.ensures.reads in
    omega (arith, down, most, one)
