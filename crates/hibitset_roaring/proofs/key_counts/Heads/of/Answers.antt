use Rattle.std.proofs.Common.{ℕ, ◌+◌, List, subst, arith}
use Rattle.hibitset_roaring.specs.Streams.{AreHeads}
use Rattle.hibitset_roaring.proofs.HeadsLemmas.{heads_none, heads_upto}
use Rattle.hibitset_roaring.proofs.key_counts.Heads.of.Goals as goal

pub keys-init : goal.keys-init
keys-init g c =
    let words : List ℕ = g.S.ContainerSource.words c.args.source.now in
    record {
      noted = rw (c.new.ensures.items, c.new-2.ensures.items) (heads_upto words _ _ 0 c.next_key-key.result c.next_key-key.ensures.order c.next_key-key.ensures.skips (heads_none words));
      within = c.next_key-key.ensures.within;
    }

pub keys-preserved : goal.keys-preserved
keys-preserved g c =
    let words : List ℕ = g.S.ContainerSource.words c.args.source.now in
    let order = c.next_key-key-in-keys.ensures.order in
    record {
      noted = heads_upto words _ _ (c.keys.key + 1) c.next_key-key-in-keys.result c.next_key-key-in-keys.ensures.order c.next_key-key-in-keys.ensures.skips c.in_ok-note.ensures;
      within = c.next_key-key-in-keys.ensures.within;
    }

pub returns : goal.returns
returns g c =
    let t = c.keys-test.false in
    let within = c.keys.invariant.within in
    subst (λ b. AreHeads (g.S.ContainerSource.words c.args.source.now) c.keys.heads.keys.items c.keys.heads.counts.items b) (omega (arith, t, within)) c.keys.invariant.noted
