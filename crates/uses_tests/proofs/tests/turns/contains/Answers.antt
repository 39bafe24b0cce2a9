use Rattle.std.proofs.Common.{◌≡◌, ◌/◌, true, sym, ◌∙◌, subst, arith}
use Rattle.hibitset_atomic.specs.Worlds.{old_of, past_of, stands_in}
use Rattle.hibitset_atomic.proofs.CallStepLemmas.{same_truth}
use Rattle.uses_tests.specs.Turns.{is_in}
use Rattle.uses_tests.proofs.WorldWalkLemmas.{lowest_is, whole_path}
use Rattle.uses_tests.proofs.tests.turns.contains.Goals as goal

pub returns-then-id-lt-ATOMIC_MAX_EID : goal.returns-then-id-lt-ATOMIC_MAX_EID
returns-then-id-lt-ATOMIC_MAX_EID c =
    let world = c.args.world.now in
    let id = c.args.id in
    let lowest : stands_in world 0 id ≡ is_in world id = lowest_is (old_of world) (past_of world) id in
    let one : id / 1 ≡ id = omega arith in
    same_truth c.stands.result (is_in world id)
    (λ on. sym lowest ∙ subst (λ q. stands_in world 0 q ≡ true) one (c.stands.ensures.0 on 0 (omega arith)))
    (λ here. c.stands.ensures.1 (whole_path (stands_in world) (c.world_laws.ensures.exact_at_rest world c.requires) id (lowest ∙ here)))
