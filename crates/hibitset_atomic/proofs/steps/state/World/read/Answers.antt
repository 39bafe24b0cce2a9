use Rattle.std.proofs.Common.{◌≡◌, ap, sym, ◌∙◌, Some, refl, List, [], ◌∷◌, ◌++◌, reverse, IsTrue, false, true, Bool, lit<, ◌==◌}
use Rattle.hibitset_base.specs.Decisions.{eq_same}
use Rattle.hibitset_atomic.specs.declared.steps.event.Event.{Event}
use Rattle.hibitset_atomic.specs.declared.steps.event.Event.TheVariants.{Read}
use Rattle.hibitset_atomic.specs.Layers.{layer_word}
use Rattle.hibitset_base.specs.Places.{Place}
use Rattle.hibitset_atomic.specs.History.{bit_of_history, walk_of, reads_on}
use Rattle.hibitset_atomic.specs.CoreState.{walk_shown, shown_in}
use Rattle.hibitset_atomic.specs.Worlds.{old_of, past_of}
use Rattle.hibitset_atomic.proofs.HistoryWalkLemmas.{walks_sane}
use Rattle.hibitset_atomic.proofs.ReadAnswerLemmas.{told, read-same}
use Rattle.hibitset_atomic.proofs.WorldStepLemmas.{after-read, not_ended, reverse-push}
use Rattle.hibitset_atomic.proofs.steps.state.World.read.Goals as goal

-- not ended, by the test
some_left : (done : Bool) (left : List Place) → done ≡ false → (left ≡ [] → IsTrue done) → left ≡ [] → ⊥
some_left true left e f none = absurd (cc)
some_left false left e f none = let k : false ≡ true = f none in absurd (cc)

pub invariant_of-self-2 : goal.invariant_of-self-2
invariant_of-self-2 c =
    let s = c.args.self.now in
    let found = c.in-Some.ensures in
    let seen : walk_shown (walk_of 4 (old_of s) (past_of s) c.args.walk) ≡ Some (found.0) = sym (s.of_past.walks_of_past c.args.walk) ∙ found.1 in
    let past-is : reverse c.push_reserved.new.self.items ≡ Read c.args.walk ∷ past_of s =
    ap (λ (xs : List Event). reverse xs) (c.push_reserved.ensures.items ∙ ap (λ (xs : List Event). xs ++ Read c.args.walk ∷ []) c.reserve.ensures.items) ∙ reverse-push s.past.items (Read c.args.walk) in
    record {
      of_past = after-read (old_of s) (past_of s) (reverse c.push_reserved.new.self.items) (layer_word s.layers) s.calls s.walks c.read.new.self c.args.walk s.of_past
          (not_ended (walk_of 4 (old_of s) (past_of s) c.args.walk) found.0 seen (some_left c.in-Some.done (found.0).left c.if-done.false found.2.1)) c.in-Ok.ensures.read past-is;
    }

pub returns-clause-outcome : goal.returns-clause-outcome
returns-clause-outcome c =
    let s = c.args.self.now in
    let found = c.in-Some.ensures in
    let walk-is = s.of_past.walks_of_past c.args.walk in
    let sane = walks_sane 4 (old_of s) (past_of s) c.args.walk (lit< tt) in
    let seen : walk_shown (walk_of 4 (old_of s) (past_of s) c.args.walk) ≡ Some (found.0) = sym walk-is ∙ found.1 in
    let past-is : reverse c.push_reserved.new.self.items ≡ Read c.args.walk ∷ past_of s =
    ap (λ (xs : List Event). reverse xs) (c.push_reserved.ensures.items ∙ ap (λ (xs : List Event). xs ++ Read c.args.walk ∷ []) c.reserve.ensures.items) ∙ reverse-push s.past.items (Read c.args.walk) in
    let some = some_left c.in-Some.done (found.0).left c.if-done.false found.2.1 in
    let after : shown_in c.read.new.self c.args.walk ≡ walk_shown (reads_on (bit_of_history (old_of s) (past_of s)) (walk_of 4 (old_of s) (past_of s) c.args.walk)) =
    (let r = c.in-Ok.ensures.read c.args.walk in let t : (c.args.walk == c.args.walk) ≡ true = eq_same c.args.walk c.args.walk refl in
    (rw t at r) ∙ (rw walk-is (read-same 4 (lit< tt) (layer_word s.layers) (bit_of_history (old_of s) (past_of s)) s.of_past.words_of_past (walk_of 4 (old_of s) (past_of s) c.args.walk) sane))) in (
      c.push_reserved.ensures.items ∙ ap (λ (xs : List Event). xs ++ Read c.args.walk ∷ []) c.reserve.ensures.items,
      not_ended (walk_of 4 (old_of s) (past_of s) c.args.walk) found.0 seen some,
      told 4 (old_of s) (past_of s) (layer_word s.layers) (lit< tt) s.of_past.words_of_past (walk_of 4 (old_of s) (past_of s) c.args.walk) sane found.0 seen some c.in-Ok.word c.in-Ok.ended (rw walk-is at (rw after at c.in-Ok.ensures.answer)),
    )
