-- A read of the real words is a read of the past.
use Rattle.std.proofs.Common.{◌≡◌, ℕ, zero, suc, ◌+◌, ◌*◌, ◌/◌, ◌%◌, ◌<◌, Bool, ◌==◌, List, [], ◌∷◌, refl, sym, ◌∙◌, ap, arith, Option, Some, None}
use Rattle.std.specs.Int.{bit_at}
use Rattle.std.proofs.lemmas.Nat.Bits.{bit_at-lt}
use Rattle.hibitset_atomic.specs.declared.steps.event.Event.{Event}
use Rattle.hibitset_atomic.specs.declared.steps.event.Reply.TheVariants.{Word}
use Rattle.hibitset_base.specs.Sets.{bit_of}
use Rattle.hibitset_base.specs.Places.{Place}
use Rattle.hibitset_atomic.specs.History.{bit_of_history, Walk, bits, read_word, read_first, reads_on}
use Rattle.hibitset_atomic.specs.LayerBits.{layer_bit}
use Rattle.hibitset_atomic.specs.CoreState.{Shown, walk_shown, read_shown, FirstWord, Told}
use Rattle.hibitset_atomic.specs.Replies.{IsWord, ReadAnswer}
use Rattle.hibitset_base.proofs.MemberLemmas.{members-same}
use Rattle.hibitset_atomic.proofs.WalkReadLemmas.{Sane}
use Rattle.hibitset_atomic.proofs.HistoryWalkLemmas.{SaneWalk, first_low}

module _ (n : ℕ) (layers : 0 < n) (words : ℕ → ℕ → ℕ) (standing : ℕ → ℕ → Bool) (agree : (l q : ℕ) → l < n → layer_bit words l q ≡ standing l q) where
  bits_same : (l p : ℕ) → l < n → bits (layer_bit words) l p ≡ bits standing l p
  bits_same l p low = members-same (layer_bit words l) (standing l) (64 * p) 64 (λ i from below. agree l i low)

  word_same : (items : List ℕ) (reads layer position : ℕ) (rest : List Place) → layer < n
      → walk_shown (Some (read_word (layer_bit words) items 0 layer position rest)) ≡ walk_shown (Some (read_word standing items reads layer position rest))
  word_same items reads zero position rest low = rw (bits_same 0 position low) refl
  word_same items reads (suc l) position rest low = rw (bits_same (suc l) position low) refl

  first_same : (items : List ℕ) (reads : ℕ) (left : List Place) → Sane n standing items left reads
      → walk_shown (Some (read_first (layer_bit words) items 0 left)) ≡ walk_shown (Some (read_first standing items reads left))
  first_same items reads [] sane = refl
  first_same items reads (p ∷ rest) sane = word_same items reads p.layer p.position rest (first_low n standing items p rest reads layers sane)

  pub read-same : (walk : Option Walk) → SaneWalk n standing walk → read_shown (layer_bit words) (walk_shown walk) ≡ walk_shown (reads_on standing walk)
  read-same None sane = refl
  read-same (Some walk) sane = first_same walk.items walk.reads walk.left sane

  bit_value : (x : ℕ) (b : Bool) → x < 2 → (x == 1) ≡ b → x ≡ bit_of b
  bit_value zero b small e = rw (← e) refl
  bit_value (suc zero) b small e = rw (← e) refl
  bit_value (suc (suc x)) b small e = absurd (omega arith)

  is_word : (left : List Place) (items : List ℕ) (reads word : ℕ) → Sane n standing items left reads → (left ≡ [] → ⊥) → FirstWord words left word → IsWord standing left word
  is_word [] items reads word sane some first = some refl
  is_word (p ∷ rest) items reads word sane some first = λ b small.
      let low = first_low n standing items p rest reads layers sane in
      let a = agree p.layer (64 * p.position + b) low in
      let e : (64 * p.position + b) / 64 ≡ p.position = omega arith in
      let f : (64 * p.position + b) % 64 ≡ b = omega arith in
      let a2 : (bit_at (words p.layer p.position) b == 1) ≡ standing p.layer (64 * p.position + b) = (rw (e, f) at a) in
      ap (λ x. bit_at x b) first ∙ bit_value (bit_at (words p.layer p.position) b) (standing p.layer (64 * p.position + b)) (bit_at-lt (words p.layer p.position) b) a2

abbrev left_shown : Option Shown → List Place
left_shown None = []
left_shown (Some s) = s.left

left_is : (walk : Walk) (s : Shown) → walk_shown (Some walk) ≡ Some s → walk.left ≡ s.left
left_is walk s e = ap left_shown e

pub told : (n : ℕ) (old : ℕ → Bool) (past : List Event) (words : ℕ → ℕ → ℕ) → 0 < n → ((l q : ℕ) → l < n → layer_bit words l q ≡ bit_of_history old past l q) → (walk : Option Walk) → SaneWalk n (bit_of_history old past) walk
    → (s : Shown) → walk_shown walk ≡ Some s → (s.left ≡ [] → ⊥) → (word : ℕ) (ended : Bool) → Told words (walk_shown walk) (walk_shown (reads_on (bit_of_history old past) walk)) word ended → ReadAnswer old past walk (Word word ended)
told n old past words layers agree None sane s e some word ended h = absurd (let k : None ≡ Some s = e in cc)
told n old past words layers agree (Some walk) sane s e some word ended h =
    (is_word n layers words (bit_of_history old past) agree walk.left walk.items walk.reads word sane (λ none. some (sym (left_is walk s e) ∙ none)) h.0, h.1)
