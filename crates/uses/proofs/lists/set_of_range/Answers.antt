use Rattle.std.proofs.Common.{◌≡◌, ◌+◌, ◌*◌, ◌^◌, suc, pow-suc, mul_assoc, mul_comm, arith}
use Rattle.std.proofs.lemmas.Result.{IfOk-weaker, IfErr-weaker}
use Rattle.hibitset.specs.Prelude.{MAX_EID, has}
use Rattle.uses.proofs.RangeLemmas.{takes_range, refused_range}
use Rattle.uses.proofs.WorkerLemmas.{both_ok}
use Rattle.uses.proofs.lists.set_of_range.Goals as goal

pub returns-clause-members : goal.returns-clause-members
returns-clause-members c = IfOk-weaker c.from_indices.result _ _ (λ set h. (takes_range MAX_EID c.args.start c.args.end (has set) h).members) c.from_indices.ensures.all

pub returns-clause-upper_len_max : goal.returns-clause-upper_len_max
returns-clause-upper_len_max c =
    both_ok _ _ _ c.from_indices.result c.from_indices.ensures.all c.from_indices.ensures.upper_len_max
    (λ set all above. λ l below n ends. above l n below (λ i on.
    let within = ((takes_range MAX_EID c.args.start c.args.end (has set) all).members i).0 on in
    let s : l + 1 ≡ suc l = omega arith in
    let size : 64 ^ (l + 1) * n ≡ 64 * (64 ^ l * n) = rw (s, pow-suc 64 l, mul_comm (64 ^ l) 64) (mul_assoc 64 (64 ^ l) n) in
    omega (arith, within.1, ends, size)))

pub returns-clause-in_range : goal.returns-clause-in_range
returns-clause-in_range c = IfOk-weaker c.from_indices.result _ _ (λ set h. (takes_range MAX_EID c.args.start c.args.end (has set) h).in_range) c.from_indices.ensures.all

pub returns-clause-error_place : goal.returns-clause-error_place
returns-clause-error_place c = IfErr-weaker c.from_indices.result _ _ (λ error h. (refused_range MAX_EID c.args.start c.args.end error (omega (arith, c.ranges.end)) h).place) c.from_indices.ensures.stops

pub returns-clause-before : goal.returns-clause-before
returns-clause-before c = IfErr-weaker c.from_indices.result _ _ (λ error h. (refused_range MAX_EID c.args.start c.args.end error (omega (arith, c.ranges.end)) h).before) c.from_indices.ensures.stops

pub returns-clause-reason : goal.returns-clause-reason
returns-clause-reason c = IfErr-weaker c.from_indices.result _ _ (λ error h. (refused_range MAX_EID c.args.start c.args.end error (omega (arith, c.ranges.end)) h).why) c.from_indices.ensures.stops

pub returns-clause-word : goal.returns-clause-word
returns-clause-word c = IfErr-weaker c.from_indices.result _ _ (λ error h. (refused_range MAX_EID c.args.start c.args.end error (omega (arith, c.ranges.end)) h).word) c.from_indices.ensures.stops
