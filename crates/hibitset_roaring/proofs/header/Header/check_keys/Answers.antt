use Rattle.std.proofs.Common.{◌≡◌, ℕ, ◌+◌, ◌-◌, ◌<◌, ◌≤◌, arith, inl, inr}
use Rattle.std.proofs.lemmas.Bool.{cases_lt}
use Rattle.hibitset_roaring.specs.Format.{container_count, key_of}
use Rattle.hibitset_roaring.proofs.header.Header.check_keys.Goals as goal

pub returns-then-key-next-clause-fault : goal.returns-then-key-next-clause-fault
returns-then-key-next-clause-fault c =
    let h = c.keys.invariant in
    let k : ℕ = c.keys.k in
    let bytes = c.args.bytes.now in
    let below : k < container_count bytes = (let t = c.keys-test.true in let n = c.requires.header.count_is in omega (arith, t, n)) in
    let less = c.if-key-next.true in
    let key : c.key-key.result ≡ key_of bytes k = c.key-key.ensures.key in
    let keys = c.requires.header.keys_is in
    elim (cases_lt 0 k) [
      | inl some ↦
          let e : k - 1 + 1 ≡ k = omega (arith, some) in
          let last = h.last (k - 1) e in
          let low : key_of bytes k ≤ key_of bytes (k - 1) = omega (arith, last, less, key) in
          record {
            container = k - 1;
            counted = omega (arith, e, below);
            here = omega (arith, e, keys);
            low = rw e low;
          }
      | inr none ↦ absurd (let z = h.none (omega (arith, none)) in omega (arith, z, less))
    ]

pub returns-then-key-end-clause-fault : goal.returns-then-key-end-clause-fault
returns-then-key-end-clause-fault c =
    let n = c.requires.header.count_is in
    let t = c.keys-test.true in
    let high = c.if-key-end.true in
    let key = c.key-key.ensures.key in
    let keys = c.requires.header.keys_is in
    record {
      container = c.keys.k;
      counted = omega (arith, t, n);
      here = omega (arith, keys);
      high = omega (arith, high, key);
    }

pub returns-clause-least_bound : goal.returns-clause-least_bound
returns-clause-least_bound c = λ bound below.
    let h = c.keys.invariant in
    let k : ℕ = c.keys.k in
    let t = c.keys-test.false in
    let e = c.keys.auto.k-end in
    let n = c.requires.header.count_is in
    elim (cases_lt 0 k) [
      | inl some ↦
          let is : k - 1 + 1 ≡ k = omega (arith, some) in
          let last = h.last (k - 1) is in
          let b = below.keys (k - 1) (omega (arith, is, t, e, n)) in
          omega (arith, last, b)
      | inr none ↦ (let z = h.none (omega (arith, none)) in omega (arith, z))
    ]
