use Rattle.std.proofs.Common.{◌≡◌, ℕ, ◌+◌, ◌-◌, ◌*◌, ◌<◌, ◌≤◌, ◌==◌, ◌||◌, ap, ◌∙◌, sym, refl, arith, inl, inr}
use Rattle.std.proofs.lemmas.Bool.{cases_lt}
use Rattle.hibitset_roaring.specs.Numbers.{u16_at}
use Rattle.hibitset_roaring.specs.Format.{in_array}
use Rattle.hibitset_roaring.proofs.PartLemmas.{array_none, array_next}
use Rattle.hibitset_roaring.proofs.AddLemmas.{adds_none, adds_one}
use Rattle.hibitset_roaring.proofs.decode_container.read_array.Goals as goal

pub numbers-init : goal.numbers-init
numbers-init c = record {
  ascending = λ i below. absurd (omega (arith, below));
  none = λ z. refl;
  last = λ i e. absurd (omega (arith, e));
  members = adds_none c.args.key (in_array c.args.bytes.now c.args.at 0) c.args.words.now (array_none c.args.bytes.now c.args.at);
}

pub returns-then-low-next-clause-fault : goal.returns-then-low-next-clause-fault
returns-then-low-next-clause-fault c =
    let h = c.numbers.invariant in
    let j : ℕ = c.numbers.j in
    let bytes = c.args.bytes.now in
    let at : ℕ = c.args.at in
    let below : j < c.args.len = c.numbers-test.true in
    let less = c.if-low-next.true in
    let number = c.read_u16-low.ensures.number in
    elim (cases_lt 0 j) [
      | inl some ↦
          let e : j - 1 + 1 ≡ j = omega (arith, some) in
          let last = h.last (j - 1) e in
          let low : u16_at bytes (at + 2 * j) ≤ u16_at bytes (at + 2 * (j - 1)) = omega (arith, last, less, number) in
          (refl, record { number = j - 1; counted = omega (arith, e, below); here = omega (arith, e); low = rw e low })
      | inr none ↦ absurd (let z = h.none (omega (arith, none)) in omega (arith, z, less))
    ]

pub numbers-preserved : goal.numbers-preserved
numbers-preserved c =
    let h = c.numbers.invariant in
    let j : ℕ = c.numbers.j in
    let bytes = c.args.bytes.now in
    let at : ℕ = c.args.at in
    let number : c.read_u16-low.result ≡ u16_at bytes (at + 2 * j) = c.read_u16-low.ensures.number in
    let more = c.if-low-next.false in
    record {
      ascending = λ i below. elim (cases_lt (i + 1) j) [
        | inl lower ↦ h.ascending i lower
        | inr upper ↦ (let e : i + 1 ≡ j = omega (arith, below, upper) in let last = h.last i e in rw e (omega (arith, last, number, more)))
      ];
      none = λ z. absurd (omega (arith, z));
      last = λ i e. (let k : i ≡ j = omega (arith, e) in rw k (omega (arith, number)));
      members = adds_one c.args.key (in_array bytes at j) (in_array bytes at (j + 1)) c.args.words.now c.numbers.words c.set_bit.new.words h.members c.read_u16-low.result c.read_u16-low.ensures.in_range c.set_bit.ensures
          (λ v. array_next bytes at j v ∙ ap (λ x. (x == v) || in_array bytes at j v) (sym number));
    }
