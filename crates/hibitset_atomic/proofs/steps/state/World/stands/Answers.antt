use Rattle.std.proofs.Common.{◌≡◌, ℕ, zero, suc, ◌<◌, ◌/◌, ◌^◌, Bool, true, false, IsTrue, sym, ◌∙◌, arith, lit<}
use Rattle.hibitset_atomic.specs.Layers.{layer_word}
use Rattle.hibitset_atomic.specs.LayerBits.{layer_bit}
use Rattle.hibitset_atomic.specs.History.{bit_of_history}
use Rattle.hibitset_atomic.specs.Worlds.{old_of, past_of}
use Rattle.hibitset_atomic.proofs.steps.state.World.stands.Goals as goal

-- a bit of the path that does not stand
no_bit : (l id : ℕ) (w s : ℕ → ℕ → Bool) → ((l q : ℕ) → l < 4 → w l q ≡ s l q) → l < 4 → false ≡ w l (id / 64 ^ l) → (IsTrue false → (l : ℕ) → l < 4 → s l (id / 64 ^ l) ≡ true) × (((l : ℕ) → l < 4 → s l (id / 64 ^ l) ≡ true) → IsTrue false)
no_bit l id w s agree low none = ((λ f. absurd (let k : false ≡ true = f in cc)), (λ all. none ∙ (agree l (id / 64 ^ l) low ∙ all l low)))

each : (id : ℕ) (w s : ℕ → ℕ → Bool) (last : Bool) → ((l q : ℕ) → l < 4 → w l q ≡ s l q) → true ≡ w 0 (id / 64 ^ 0) → true ≡ w 1 (id / 64 ^ 1) → true ≡ w 2 (id / 64 ^ 2) → last ≡ w 3 (id / 64 ^ 3) → last ≡ true
    → (l : ℕ) → l < 4 → s l (id / 64 ^ l) ≡ true
each id w s last agree a b c d h zero low = sym (a ∙ agree 0 (id / 64 ^ 0) low)
each id w s last agree a b c d h (suc zero) low = sym (b ∙ agree 1 (id / 64 ^ 1) (lit< tt))
each id w s last agree a b c d h (suc (suc zero)) low = sym (c ∙ agree 2 (id / 64 ^ 2) (lit< tt))
each id w s last agree a b c d h (suc (suc (suc zero))) low = sym (sym h ∙ (d ∙ agree 3 (id / 64 ^ 3) (lit< tt)))
each id w s last agree a b c d h (suc (suc (suc (suc l)))) low = absurd (omega arith)

all_bits : (id : ℕ) (w s : ℕ → ℕ → Bool) (last : Bool) → ((l q : ℕ) → l < 4 → w l q ≡ s l q) → true ≡ w 0 (id / 64 ^ 0) → true ≡ w 1 (id / 64 ^ 1) → true ≡ w 2 (id / 64 ^ 2) → last ≡ w 3 (id / 64 ^ 3)
    → (IsTrue last → (l : ℕ) → l < 4 → s l (id / 64 ^ l) ≡ true) × (((l : ℕ) → l < 4 → s l (id / 64 ^ l) ≡ true) → IsTrue last)
all_bits id w s last agree a b c d = (λ h. each id w s last agree a b c d h, λ all. d ∙ (agree 3 (id / 64 ^ 3) (lit< tt) ∙ all 3 (lit< tt)))

pub returns-then-not-bit : goal.returns-then-not-bit
returns-then-not-bit c =
    let s = c.args.self.now in
    no_bit 0 c.args.id (layer_bit (layer_word s.layers)) (bit_of_history (old_of s) (past_of s)) s.of_past.words_of_past (lit< tt) c.if-not-bit.ensures

pub returns-then-not-bit-2 : goal.returns-then-not-bit-2
returns-then-not-bit-2 c =
    let s = c.args.self.now in
    no_bit 1 c.args.id (layer_bit (layer_word s.layers)) (bit_of_history (old_of s) (past_of s)) s.of_past.words_of_past (lit< tt) c.if-not-bit-2.ensures

pub returns-then-not-bit-3 : goal.returns-then-not-bit-3
returns-then-not-bit-3 c =
    let s = c.args.self.now in
    no_bit 2 c.args.id (layer_bit (layer_word s.layers)) (bit_of_history (old_of s) (past_of s)) s.of_past.words_of_past (lit< tt) c.if-not-bit-3.ensures

pub returns : goal.returns
returns c =
    let s = c.args.self.now in
    all_bits c.args.id (layer_bit (layer_word s.layers)) (bit_of_history (old_of s) (past_of s)) c.bit-4.result s.of_past.words_of_past
    c.if-not-bit.ensures c.if-not-bit-2.ensures c.if-not-bit-3.ensures c.bit-4.ensures
