use Rattle.std.proofs.Common.{◌≡◌, ℕ, suc, ◌-◌, arith, refl}
use Rattle.hibitset_base.specs.Cursor.{cursor_places}
use Rattle.hibitset_atomic.specs.SharedWalk.{view_of}
use Rattle.hibitset_atomic.proofs.SharedWalkLemmas.{first_within, goes_down, fewer_after}
use Rattle.hibitset_atomic.proofs.shared.walk.descend.Goals as goal

pub load-word-requires-clause-position : goal.load-word-requires-clause-position
load-word-requires-clause-position c =
    first_within (view_of c.args.seat.now) c.args.reads.now.count _ (cursor_places c.args.cursor.now) c.args.layer c.args.position refl c.requires.stands c.requires.above

pub returns-clause-goes : goal.returns-clause-goes
returns-clause-goes c =
    let l : ℕ = c.args.layer - 1 in
    let one : c.args.layer ≡ suc l = (let a = c.requires.above in omega (arith, a)) in
    let told = c.load-word.ensures in
    rw (one, c.push_bits.ensures.left, told.reads)
    (goes_down c.args.set.now c.args.seat.now c.load-word.new.seat c.args.reads.now.count l c.args.position c.load-word.result (cursor_places c.args.cursor.now) (let a = c.requires.layer in omega (arith, a)) told.keeps_known
    (rw one at c.requires.stands) (omega arith) told.nonzero told.seen told.due told.counted)

pub returns-clause-fewer : goal.returns-clause-fewer
returns-clause-fewer c =
    let l : ℕ = c.args.layer - 1 in
    let one : c.args.layer ≡ suc l = (let a = c.requires.above in omega (arith, a)) in
    let told = c.load-word.ensures in
    let fewer = fewer_after c.args.set.now c.args.seat.now c.load-word.new.seat c.args.reads.now.count l c.args.position c.load-word.result (cursor_places c.args.cursor.now) (let a = c.requires.layer in omega (arith, a)) told.keeps_known
    (rw one at c.requires.stands) (omega arith) told.nonzero told.seen told.due told.counted in
    rw c.push_bits.ensures.left (omega (arith, fewer, one))
