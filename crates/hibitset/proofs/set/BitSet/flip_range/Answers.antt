use Rattle.std.proofs.Common.{ℕ, ◌+◌, ◌-◌, ◌*◌, ◌/◌, ◌^◌, max, ◌∙◌, ap, arith, inl, inr}
use Rattle.std.proofs.lemmas.Result.{on_ok_weaker}
use Rattle.hibitset_base.specs.Virtual.{differ}
use Rattle.hibitset.specs.BitSet.{has, slice_len}
use Rattle.hibitset.proofs.FlipLemmas.{range_members, no_words, covers_end}
use Rattle.hibitset.proofs.set.BitSet.flip_range.Goals as goal

pub returns-clause-flipped : goal.returns-clause-flipped
returns-clause-flipped c =
    on_ok_weaker c.bitxor_assign.result (λ each i. each i ∙ ap (differ (has c.args.self.now i)) (range_members c.args.start c.args.end i c.requires)) c.bitxor_assign.ensures.members

pub returns-clause-succeeds : goal.returns-clause-succeeds
returns-clause-succeeds c = λ room. c.bitxor_assign.ensures.succeeds (no_words c.args.start c.args.end (slice_len c.args.self.now 0) (inl room))

pub returns-clause-succeeds_empty : goal.returns-clause-succeeds_empty
returns-clause-succeeds_empty c = λ empty. c.bitxor_assign.ensures.succeeds (no_words c.args.start c.args.end (slice_len c.args.self.now 0) (inr empty))

pub returns-clause-len_max : goal.returns-clause-len_max
returns-clause-len_max c =
    let most : ℕ = max (slice_len c.args.self.now 0) ((c.args.end - 1) / 64 + 1) in
    c.bitxor_assign.ensures.len_max most (omega arith) (no_words c.args.start c.args.end most (inl (omega arith)))

pub returns-clause-upper_len_max : goal.returns-clause-upper_len_max
returns-clause-upper_len_max c = λ l below.
    let most : ℕ = max (slice_len c.args.self.now l) ((c.args.end - 1) / 64 ^ (l + 1) + 1) in
    c.bitxor_assign.ensures.upper_len_max l most below (omega arith) (no_words c.args.start c.args.end (64 ^ l * most) (inl (covers_end c.args.end l most (omega arith))))

pub returns-clause-same : goal.returns-clause-same
returns-clause-same c = λ empty.
    let keeps = c.bitxor_assign.ensures.len_min in
    let most = c.bitxor_assign.ensures.len_max (slice_len c.args.self.now 0) (omega arith) (no_words c.args.start c.args.end (slice_len c.args.self.now 0) (inr empty)) in
    omega (arith, keeps, most)
