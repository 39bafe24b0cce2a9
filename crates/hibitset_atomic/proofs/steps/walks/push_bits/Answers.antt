use Rattle.std.proofs.Common.{◌≡◌, ℕ, ◌+◌, ◌-◌, ◌/◌, ◌++◌, ◌==◌, ◌^◌, length, arith, refl, sym, ap, ◌∙◌, bit_and, List, [], ◌∷◌, append_assoc, length-append, Bool, true, false, add-one}
use Rattle.std.specs.Int.{bit_at}
use Rattle.std.specs.Vec.{vec_capacity}
use Rattle.std.proofs.lemmas.List.{append-nil}
use Rattle.std.proofs.lemmas.Nat.Bits.{bit_at-lt, shr_and_one}
use Rattle.hibitset_base.specs.Members.{members}
use Rattle.hibitset_atomic.proofs.MemberLemmas.{members-more}
use Rattle.hibitset_atomic.proofs.steps.walks.push_bits.Goals as goal
use Rattle.hibitset_atomic.proofs.steps.walks.push_bits.Goals.{then-word-bit-ne0, else-word-bit-ne0}

step_then : (f : ℕ → Bool) (start n x : ℕ) (old items : List ℕ) → items ≡ old ++ members f start n → f (start + n) ≡ true → x ≡ start + n → items ++ x ∷ [] ≡ old ++ members f start (n + 1)
step_then f start n x old items h yes-f e =
    let m = members-more f start n in
    let m2 = rw yes-f at m in
    rw (add-one n, m2, e, h) (append_assoc old (members f start n) ((start + n) ∷ []))

step_else : (f : ℕ → Bool) (start n : ℕ) (old items : List ℕ) → items ≡ old ++ members f start n → f (start + n) ≡ false → items ≡ old ++ members f start (n + 1)
step_else f start n old items h not-f =
    let m = members-more f start n in
    let m2 = rw not-f at m in
    rw (add-one n, m2, append-nil (members f start n)) h

pub loop-bit-init : goal.loop-bit-init
unfolding members
loop-bit-init c = record { items = sym (append-nil c.args.items.now.items); room = omega arith }

bit_yes : (word start n : ℕ) → (bit_and (word / 2 ^ n) 1 ≡ 0 → ⊥) → (bit_at word (start + n - start) == 1) ≡ true
bit_yes word start n h =
    let e : start + n - start ≡ n = omega arith in
    let b = bit_at-lt word n in
    let k = shr_and_one word n in
    let one : bit_at word n ≡ 1 = omega arith in
    rw (e, one) refl

bit_no : (word start n : ℕ) → bit_and (word / 2 ^ n) 1 ≡ 0 → (bit_at word (start + n - start) == 1) ≡ false
bit_no word start n h =
    let e : start + n - start ≡ n = omega arith in
    let none : bit_at word n ≡ 0 = sym (shr_and_one word n) ∙ h in
    rw (e, none) refl

pub loop-bit-preserved : goal.loop-bit-preserved
loop-bit-preserved c = elim c.if-word-bit-ne0.branch [
  | then-word-bit-ne0 w ↦ record {
    items = rw (w.items-is, w.push_reserved.ensures.items) (step_then (λ q. bit_at c.args.word (q - c.args.start) == 1) c.args.start c.loop-bit.bit (c.args.start + c.loop-bit.bit) c.args.items.now.items c.loop-bit.items.items c.loop-bit.invariant.items (bit_yes c.args.word c.args.start c.loop-bit.bit w.if-word-bit-ne0.true) refl);
    room =
        let e = w.push_reserved.ensures.items in
        let i = c.loop-bit.invariant.room in
        let k : length w.push_reserved.new.self.items ≡ length c.loop-bit.items.items + 1 = ap length e ∙ length-append c.loop-bit.items.items ((c.args.start + c.loop-bit.bit) ∷ []) in
        let cap : vec_capacity w.push_reserved.new.self ≡ vec_capacity c.loop-bit.items = w.push_reserved.ensures.capacity in
        rw w.items-is (omega arith);
  }
  | else-word-bit-ne0 w ↦ record {
    items = rw w.items-is (step_else (λ q. bit_at c.args.word (q - c.args.start) == 1) c.args.start c.loop-bit.bit c.args.items.now.items c.loop-bit.items.items c.loop-bit.invariant.items (bit_no c.args.word c.args.start c.loop-bit.bit w.if-word-bit-ne0.false));
    room = let i = c.loop-bit.invariant.room in rw w.items-is (omega arith);
  }
]
