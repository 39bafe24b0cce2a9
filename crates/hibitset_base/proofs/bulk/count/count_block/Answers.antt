use Rattle.std.proofs.Common.{◌≡◌, ◌+◌, ◌*◌, ◌<◌, ◌^◌, subst, ap, arith}
use Rattle.std.specs.Int.RustNames.{count_ones}
use Rattle.hibitset_base.specs.declared.util.TheConstants.{LAYERS}
use Rattle.hibitset_base.proofs.BlockLemmas.{one_word_more}
use Rattle.hibitset_base.proofs.OneCountLemmas.{few_ones}
use Rattle.hibitset_base.proofs.MemberLemmas.{members-length}
use Rattle.hibitset_base.proofs.bulk.count.count_block.Goals as goal

pub words-init : goal.words-init
words-init g c =
    let none = members-length (g.T.BitSetLike.holds c.args.set.now) (c.args.start * 64) (64 * 0) in
    (omega (arith, none), omega arith)

pub overflow_add-count : goal.overflow_add-count
overflow_add-count g c =
    let few = members-length (g.T.BitSetLike.holds c.args.set.now) (c.args.start * 64) (64 * c.words.word) in
    let ones = few_ones c.layer0.result c.layer0.type_inv in
    let count = c.words.invariant.0 in
    omega (arith, few, ones, count)

pub words-preserved : goal.words-preserved
words-preserved g c =
    let holds = g.T.BitSetLike.holds c.args.set.now in
    let word = g.T.BitSetLike.word c.args.set.now in
    let place = c.args.start + c.words.word in
    let fits : word 0 place < 2 ^ 64 = subst (λ v. v < 2 ^ 64) c.layer0.ensures c.layer0.type_inv in
    let more = one_word_more LAYERS holds word (g.met.T.BitSetLike.lawful c.args.set.now) (omega arith) c.args.start c.words.word (omega arith) fits in
    let ones = ap count_ones c.layer0.ensures in
    let count = c.words.invariant.0 in
    (omega (arith, more, ones, count), omega arith)

pub returns : goal.returns
returns g c =
    let all : c.words.word ≡ 64 = (let within = c.words.invariant.1 in omega arith) in
    rw all at c.words.invariant.0
