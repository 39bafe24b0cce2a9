use Rattle.std.proofs.Common.{◌≡◌, ◌+◌, ◌*◌, ◌%◌, length, arith, sym, ◌∙◌, ap, append-nil, length-append}
use Rattle.std.specs.Vec.{vec_capacity}
use Rattle.hibitset_base.specs.Members.{members}
use Rattle.hibitset_base.specs.declared.util.TheConstants.{LAYERS}
use Rattle.hibitset_base.proofs.BlockLemmas.{one_word_listed}
use Rattle.hibitset_base.proofs.MemberLemmas.{members-length}
use Rattle.hibitset_base.proofs.bulk.list.push_block.Goals as goal

pub words-init : goal.words-init
unfolding members
words-init g c =
    let same = c.replace-taken.ensures.value in
    record {
      pushed = ap (λ v. v.items) same ∙ sym (append-nil c.args.list.now.items);
      room = ap (λ v. vec_capacity v) same;
    }

pub push_word-taken-requires-clause-capacity : goal.push_word-taken-requires-clause-capacity
push_word-taken-requires-clause-capacity g c =
    let old = c.args.list.now.items in
    let some = members (g.T.BitSetLike.holds c.args.set.now) (c.args.start * 64) (64 * c.words.word) in
    let long : length c.words.taken.items ≡ length old + length some = rw c.words.invariant.pushed (length-append old some) in
    let few = members-length (g.T.BitSetLike.holds c.args.set.now) (c.args.start * 64) (64 * c.words.word) in
    let room = c.requires.capacity in
    let same = c.words.invariant.room in
    omega (arith, long, few, room, same)

pub words-preserved : goal.words-preserved
words-preserved g c =
    let holds = g.T.BitSetLike.holds c.args.set.now in
    let word = g.T.BitSetLike.word c.args.set.now in
    let position = c.args.start + c.words.word in
    let within = c.requires.within in
    let first : position * 64 % 4294967296 ≡ position * 64 = omega (arith, within) in
    record {
      pushed = rw (c.push_word-taken.ensures.pushed, c.words.invariant.pushed, first, c.layer0.ensures)
          (one_word_listed LAYERS holds word (g.met.T.BitSetLike.lawful c.args.set.now) (omega arith) c.args.start c.words.word c.args.list.now.items (omega (arith, within)));
      room = c.push_word-taken.ensures.same_capacity ∙ c.words.invariant.room;
    }
