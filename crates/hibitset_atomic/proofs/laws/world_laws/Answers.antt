use Rattle.std.proofs.Common.{◌≡◌, ℕ, suc, ◌+◌, Bool, true, false, ◌&&◌, ◌||◌, not, ◌==◌, refl, arith, lit<}
use Rattle.hibitset_base.specs.Sets.{bit_of}
use Rattle.hibitset_atomic.specs.Worlds.{old_of, past_of, stands_in, is_written}
use Rattle.hibitset_atomic.specs.WorldLaws.{reports_in}
use Rattle.hibitset_atomic.proofs.CallLemmas.{new-once, rest-exact}
use Rattle.hibitset_atomic.proofs.HistoryWalkLemmas.{honest}
use Rattle.hibitset_atomic.proofs.HistoryBitLemmas.{summary}
use Rattle.hibitset_atomic.proofs.WalkStateLemmas.{lowest-first, few-reads, none-empty}
use Rattle.hibitset_atomic.proofs.WorldStepLemmas.{stands-lowest}
use Rattle.hibitset_atomic.proofs.LayerLemmas.{held_below}
use Rattle.hibitset_atomic.proofs.CallStepLemmas.{beyond-none}
use Rattle.hibitset_atomic.specs.AtomicBitSet.{has, word_of}
use Rattle.hibitset_atomic.proofs.laws.world_laws.Goals as goal

-- an old member was never reported new, and every other was
old_is : (old written : Bool) → old ≡ ((old || written) && bit_of (written && not old) == 0)
old_is true true = refl
old_is true false = refl
old_is false true = refl
old_is false false = refl

told : (old written stands : Bool) (reports : ℕ) → stands ≡ (old || written) → reports ≡ bit_of (written && not old) → old ≡ (stands && reports == 0)
told old written stands reports s r = rw (s, r) (old_is old written)

pub returns : goal.returns
unfolding has word_of
returns c = record {
  honest = λ world w walk e. honest 4 (old_of world) (past_of world) w walk (lit< tt) e;
  lowest = λ world w walk e. lowest-first 4 (old_of world) (past_of world) w walk (lit< tt) e;
  few_reads = λ world w walk e. few-reads 4 (old_of world) (past_of world) w walk (lit< tt) e;
  none_empty = λ world w walk e some. none-empty 4 (old_of world) (past_of world) w walk (lit< tt) e some;
  in_range = λ world i there. beyond-none (old_of world) (past_of world) (λ k held. held_below world.start.value.layers k held) world.of_past.accepted i there;
  none_hollow = λ world l q h. summary (old_of world) (past_of world) l q (let e : l + 1 ≡ suc l = omega arith in rw e at h);
  exact_at_rest = λ world rest l q below h. rest-exact 4 (old_of world) (past_of world) world.of_past.accepted rest l q below h;
  new_once = λ world i. new-once (old_of world) (past_of world) i;
  old_told = λ world i. told (old_of world i) (is_written world i) (stands_in world 0 i) (reports_in world i) (stands-lowest (old_of world) (past_of world) i) (new-once (old_of world) (past_of world) i);
}
