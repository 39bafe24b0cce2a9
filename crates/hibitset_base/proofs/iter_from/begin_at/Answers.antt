use Rattle.std.proofs.Common.{lit<, lit≤, arith}
use Rattle.hibitset_base.specs.declared.util.TheConstants.{LAYERS}
use Rattle.hibitset_base.proofs.WalkFromLemmas.{formed_begin, items_begin, drawn_begin}
use Rattle.hibitset_base.proofs.iter_from.begin_at.Goals as goal

pub new-requires : goal.new-requires
new-requires g c =
    let holds = g.T.BitSetLike.holds c.args.set.now in
    let word = g.T.BitSetLike.word c.args.set.now in
    let begins = c.tails_over-masks.ensures in
    let formed = formed_begin LAYERS holds word (g.met.T.BitSetLike.lawful c.args.set.now) c.args.from c.requires.within c.tails_over-masks.result c.prefixes_over-prefixes.result begins.long begins.tails c.prefixes_over-prefixes.ensures in
    (lit< tt, (lit< tt, (lit< tt, (lit≤ tt, formed))))

pub returns-clause-items : goal.returns-clause-items
returns-clause-items g c =
    let holds = g.T.BitSetLike.holds c.args.set.now in
    let word = g.T.BitSetLike.word c.args.set.now in
    let begins = c.tails_over-masks.ensures in
    rw (c.new.ensures.masks, c.new.ensures.prefix)
    (items_begin LAYERS holds word (g.met.T.BitSetLike.lawful c.args.set.now) c.args.from c.requires.within c.tails_over-masks.result c.prefixes_over-prefixes.result (omega arith) begins.long begins.tails c.prefixes_over-prefixes.ensures)

pub returns-clause-from_set : goal.returns-clause-from_set
returns-clause-from_set g c =
    let holds = g.T.BitSetLike.holds c.args.set.now in
    let word = g.T.BitSetLike.word c.args.set.now in
    let begins = c.tails_over-masks.ensures in
    rw (c.new.ensures.masks, c.new.ensures.prefix)
    (drawn_begin LAYERS holds word (g.met.T.BitSetLike.lawful c.args.set.now) c.args.from c.requires.within c.tails_over-masks.result c.prefixes_over-prefixes.result begins.long begins.tails c.prefixes_over-prefixes.ensures)

pub returns-clause-ahead : goal.returns-clause-ahead
returns-clause-ahead g c = rw (c.new.ensures.masks, c.new.ensures.prefix) c.tails_over-masks.ensures.ahead
