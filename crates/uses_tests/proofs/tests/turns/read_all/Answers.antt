use Rattle.std.proofs.Common.{◌≡◌, ◌^◌, true, false, sym, ap, subst, arith, Contains}
use Rattle.std.specs.List.Sorted.{IsStrictlyIncreasing}
use Rattle.hibitset_atomic.specs.Worlds.{old_of, past_of}
use Rattle.hibitset_atomic.specs.History.{new_walk}
use Rattle.uses_tests.specs.Turns.{items_or_none, reads_or_none}
use Rattle.uses_tests.proofs.WorldWalkLemmas.{increasing, ReadsOn, reads_one, opened_by, few_reads, there_now, done_before, still_before, done_is_there}
use Rattle.uses_tests.proofs.tests.turns.read_all.Goals as goal
use Rattle.uses_tests.proofs.tests.turns.read_all.Goals.{In-Word}

pub words-init : goal.words-init
words-init c =
    let world = c.args.world.now in
    let later = c.apply.new.self in
    record {
      there = (new_walk 4, opened_by (old_of later) (past_of world) (past_of later) c.args.walk c.in_ok-apply.ensures.appended, λ no. absurd (let k : false ≡ true = no in cc));
      before = λ i done. done_before (old_of world) (old_of later) (past_of world) (past_of later) c.args.walk i c.apply.ensures.old c.in_ok-apply.ensures.appended done;
    }

-- what the read did
read : (c : In-Word) → ReadsOn (old_of c.apply-in-words.new.self) (past_of c.apply-in-words.new.self) c.args.walk c.words.invariant.there.0.reads c.in-Word.ended
read c =
    let world = c.words.world in
    let later = c.apply-in-words.new.self in
    let answer = rw c.in-Word.is at c.in_ok-ended.ensures.answer in
    reads_one (old_of world) (old_of later) (past_of world) (past_of later) c.args.walk c.words.invariant.there.0 c.in-Word.word c.in-Word.ended c.apply-in-words.ensures.old c.in_ok-ended.ensures.appended c.words.invariant.there.1 answer

pub words-smaller : goal.words-smaller
words-smaller c =
    let here = (goal.at.words-smaller c).In-Word in
    let one = read here in
    let v = c.words.invariant.there.0 in
    let is = c.words.invariant.there.1 in
    let few = few_reads v.items v.reads v.left (c.world_laws.ensures.few_reads c.words.world c.args.walk v is) (c.world_laws.ensures.honest c.words.world c.args.walk v is).ascending in
    let before = ap reads_or_none is in
    let after = ap reads_or_none one.is in
    let more = one.more in
    omega (arith, few, before, after, more)

pub words-preserved : goal.words-preserved
words-preserved c =
    let here = (goal.at.words-preserved c).In-Word in
    let one = read here in
    let world = c.words.world in
    let later = c.apply-in-words.new.self in
    record {
      there = (one.walk, one.is, one.last);
      before = λ i done. still_before (old_of world) (old_of later) (past_of world) (past_of later) c.args.walk i c.apply-in-words.ensures.old c.in_ok-ended.ensures.appended (c.words.invariant.before i done);
    }

pub returns-clause-ascending : goal.returns-clause-ascending
returns-clause-ascending c =
    let v = c.words.invariant.there.0 in
    let is = c.words.invariant.there.1 in
    let up = increasing 0 (64 ^ 4) v.items (c.world_laws.ensures.honest c.words.world c.args.walk v is).ascending in
    subst IsStrictlyIncreasing (sym (ap items_or_none is)) up

pub returns-clause-there : goal.returns-clause-there
returns-clause-there c = λ i has.
    let v = c.words.invariant.there.0 in
    let is = c.words.invariant.there.1 in
    let item : Contains v.items i = subst (λ xs. Contains xs i) (ap items_or_none is) has in
    there_now 4 (old_of c.words.world) (past_of c.words.world) c.args.walk i ((c.world_laws.ensures.honest c.words.world c.args.walk v is).there i item)

pub returns-clause-all : goal.returns-clause-all
returns-clause-all c = λ i done.
    let v = c.words.invariant.there.0 in
    let is = c.words.invariant.there.1 in
    let first = c.args.world.now in
    let within = c.world_laws.ensures.in_range first i (done_is_there (old_of first) (past_of first) i done) in
    let item = (c.world_laws.ensures.honest c.words.world c.args.walk v is).complete (c.words.invariant.there.2 c.words-test.false) i within (c.words.invariant.before i done) in
    subst (λ xs. Contains xs i) (sym (ap items_or_none is)) item
