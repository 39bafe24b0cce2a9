use Rattle.std.proofs.Common.{◌≡◌, ℕ, ◌+◌, ◌-◌, ◌/◌, ◌%◌, ◌<◌, ◌==◌, ◌&&◌, ◌||◌, List, length, ◌≤◌, ap, sym, ◌∙◌, arith, inl, inr}
use Rattle.std.proofs.lemmas.Bool.{cases_lt}
use Rattle.std.proofs.Math.Bool.{or_comm}
use Rattle.hibitset_roaring.specs.Numbers.{any_below}
use Rattle.hibitset_roaring.specs.Format.{container_count, container_at, key_of, in_container, holds}
use Rattle.hibitset_roaring.proofs.TestLemmas.{any_none, any_next, eq_comm}
use Rattle.hibitset_roaring.proofs.LayoutLemmas.{at_first, at_mono, next_at}
use Rattle.hibitset_roaring.proofs.ContainerLemmas.{size_runs}
use Rattle.hibitset_roaring.proofs.decode.read_containers.Goals as goal

-- each container ends within the bytes
next_within : (bytes : List ℕ) (k n : ℕ) → k < n → n ≡ container_count bytes → container_at bytes (container_count bytes) ≡ length bytes → container_at bytes (k + 1) ≤ length bytes
next_within bytes k n below is whole = let m = at_mono bytes (k + 1) (container_count bytes) (omega (arith, is, below)) in omega (arith, m, whole)

pub containers-init : goal.containers-init
containers-init g c = record {
  at_is = c.requires.header.first_is ∙ sym (at_first c.args.bytes.now);
  containers = λ i below. absurd (omega (arith, below));
  none = λ z. c.requires.no_words;
  last = λ i e. absurd (omega (arith, e));
  members = λ i. c.requires.empty i ∙ sym (any_none (λ k. (key_of c.args.bytes.now k == i / 65536) && in_container c.args.bytes.now k (i % 65536)));
}

pub take_container-requires-clause-within : goal.take_container-requires-clause-within
take_container-requires-clause-within g c = next_within c.args.bytes.now c.containers.k c.args.header.now.count c.containers-test.true c.requires.header.count_is c.requires.whole

pub size-at-requires-clause-within : goal.size-at-requires-clause-within
size-at-requires-clause-within g c = λ run.
    let within = next_within c.args.bytes.now c.containers.k c.args.header.now.count c.containers-test.true c.requires.header.count_is c.requires.whole in
    let next = next_at c.args.bytes.now c.containers.k c.containers.at c.containers.invariant.at_is in
    let s = size_runs c.args.bytes.now c.containers.k c.containers.at run in
    omega (arith, within, next, s)

pub overflow_add-at : goal.overflow_add-at
overflow_add-at g c =
    let within = next_within c.args.bytes.now c.containers.k c.args.header.now.count c.containers-test.true c.requires.header.count_is c.requires.whole in
    let next = next_at c.args.bytes.now c.containers.k c.containers.at c.containers.invariant.at_is in
    let s = c.size-at.ensures.size in
    omega (arith, within, next, s)

pub take_container-requires-clause-key : goal.take_container-requires-clause-key
take_container-requires-clause-key g c = c.requires.keys c.containers.k (let t = c.containers-test.true in let n = c.requires.header.count_is in omega (arith, t, n))

pub take_container-requires-clause-order : goal.take_container-requires-clause-order
take_container-requires-clause-order g c =
    let h = c.containers.invariant in
    let k : ℕ = c.containers.k in
    let bytes = c.args.bytes.now in
    let below : k < container_count bytes = (let t = c.containers-test.true in let n = c.requires.header.count_is in omega (arith, t, n)) in
    elim (cases_lt 0 k) [
      | inl some ↦
          let e : k - 1 + 1 ≡ k = omega (arith, some) in
          let last = h.last (k - 1) e in
          let up : key_of bytes (k - 1) < key_of bytes k = rw e at (c.requires.ascending (k - 1) (omega (arith, e, below))) in
          omega (arith, last, up)
      | inr first ↦ (let z = h.none (omega (arith, first)) in omega (arith, z))
    ]

pub returns-clause-least_bound : goal.returns-clause-least_bound
returns-clause-least_bound g c = λ bound is.
    let h = c.containers.invariant in
    let k : ℕ = c.containers.k in
    let bytes = c.args.bytes.now in
    let all : k ≡ container_count bytes = (let t = c.containers-test.false in let end = c.containers.auto.k-end in let n = c.requires.header.count_is in omega (arith, t, end, n)) in
    elim (cases_lt 0 k) [
      | inl some ↦
          let last = h.last (k - 1) (omega (arith, some)) in
          let under = is.keys (k - 1) (omega (arith, all, some)) in
          omega (arith, last, under)
      | inr first ↦ (let z = h.none (omega (arith, first)) in omega (arith, z))
    ]

pub containers-preserved : goal.containers-preserved
containers-preserved g c =
    let h = c.containers.invariant in
    let k : ℕ = c.containers.k in
    let bytes = c.args.bytes.now in
    record {
      at_is = (let n = next_at bytes k c.containers.at h.at_is in let s = c.size-at.ensures.size in omega (arith, n, s));
      containers = λ i below. elim (cases_lt i k) [
        | inl lower ↦ h.containers i lower
        | inr upper ↦ (let e : i ≡ k = omega (arith, below, upper) in rw e c.in_ok-take_container.ensures.container)
      ];
      none = λ z. absurd (omega (arith, z));
      last = λ i e. (let same : i ≡ k = omega (arith, e) in rw same c.in_ok-take_container.ensures.length);
      members = λ i.
          c.in_ok-take_container.ensures.members i ∙ (ap (λ t. t || ((i / 65536 == key_of bytes k) && in_container bytes k (i % 65536))) (h.members i)
          ∙ (ap (λ t. any_below k (λ k. (key_of bytes k == i / 65536) && in_container bytes k (i % 65536)) || (t && in_container bytes k (i % 65536))) (eq_comm (i / 65536) (key_of bytes k))
          ∙ (or_comm (any_below k (λ k. (key_of bytes k == i / 65536) && in_container bytes k (i % 65536))) ((key_of bytes k == i / 65536) && in_container bytes k (i % 65536))
          ∙ sym (any_next k (λ k. (key_of bytes k == i / 65536) && in_container bytes k (i % 65536))))));
    }

pub returns-clause-members : goal.returns-clause-members
unfolding holds
returns-clause-members g c = λ i.
    let t = c.containers-test.false in
    let e = c.containers.auto.k-end in
    let all : c.containers.k ≡ container_count c.args.bytes.now = (let n = c.requires.header.count_is in omega (arith, t, e, n)) in
    c.containers.invariant.members i ∙ ap (λ n. any_below n (λ k. (key_of c.args.bytes.now k == i / 65536) && in_container c.args.bytes.now k (i % 65536))) all
