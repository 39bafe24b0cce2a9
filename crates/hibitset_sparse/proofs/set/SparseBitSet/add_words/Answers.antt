use Rattle.std.proofs.Common.{◌≡◌, ℕ, ◌+◌, ◌*◌, ◌||◌, List, get_or, take, sym, ap, ◌∙◌, arith}
use Rattle.std.proofs.Math.Bool.{or-false, or_assoc}
use Rattle.std.proofs.lemmas.List.{take_all, length-take-le}
use Rattle.hibitset_sparse.specs.AddedWords.{is_in_word, is_in_words}
use Rattle.hibitset_sparse.specs.SparseBitSet.{has}
use Rattle.hibitset_sparse.proofs.AddedWordLemmas.{next-in-words, none-in-words}
use Rattle.hibitset_sparse.proofs.SetLemmas.{on_err_always}
use Rattle.hibitset_sparse.proofs.set.SparseBitSet.add_words.Goals as goal

pub words-init : goal.words-init
words-init c = λ i.
    let set = has c.args.self.now in
    let words : List ℕ = c.args.words.now in
    let none = none-in-words c.args.first (take 0 words) i (λ from. (let l = length-take-le 0 words (omega arith) in omega (arith, l))) in
    sym (ap (λ t. set i || t) none ∙ or-false (set i))

pub words-preserved : goal.words-preserved
words-preserved c = λ i.
    let set = has c.args.self.now in
    let words : List ℕ = c.args.words.now in
    let first : ℕ = c.args.first in
    let j : ℕ = c.words.j in
    let w : ℕ = get_or words j 0 in
    let one = is_in_word (64 * (first + j)) w i in
    c.in_ok-add_word.ensures.added i
    ∙ (ap (λ t. t || one) (c.words.invariant i)
    ∙ (or_assoc (set i) (is_in_words first (take j words) i) one
    ∙ ap (λ t. set i || t) (sym (next-in-words first words j i (let t = c.words-test.true in omega (arith, t))))))

pub returns-in_err-add_word-clause-added_before : goal.returns-in_err-add_word-clause-added_before
returns-in_err-add_word-clause-added_before c =
    on_err_always c.from_residual.result (c.words.j, (let t = c.words-test.true in omega (arith, t)), λ i. c.in_err-add_word.ensures.err i ∙ c.words.invariant i)

pub returns-clause-added : goal.returns-clause-added
returns-clause-added c =
    let words : List ℕ = c.args.words.now in
    let j : ℕ = c.words.j in
    let whole : take j words ≡ words = take_all j words (let t = c.words-test.false in omega (arith, t)) in
    rw (← whole) c.words.invariant
