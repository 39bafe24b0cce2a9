use Rattle.std.proofs.Common.{◌≡◌, ℕ, ◌+◌, ◌≤◌, ◌∷◌, [], Bool, List, Option, None, Some, MatchOption, refl, sym, ap, ◌∙◌, arith}
use Rattle.hibitset_base.specs.First.{IsFirst, HasNone}
use Rattle.hibitset_base.specs.Members.{members_below}
use Rattle.hibitset_base.specs.Sets.{SummariesExact}
use Rattle.hibitset_base.specs.Places.{Place, items_of}
use Rattle.hibitset_base.specs.Cursor.{cursor_places}
use Rattle.hibitset_base.specs.WordsRead.{depth, ReadsTo, AllAreSet}
use Rattle.hibitset_base.specs.declared.util.TheConstants.{LAYERS, MAX_EID}
use Rattle.hibitset_base.proofs.FirstLemmas.{first_below, none_below}
use Rattle.hibitset_base.proofs.DescentLemmas.{depth-left}
use Rattle.hibitset_base.proofs.ReadsToLemmas.{goes_both}
use Rattle.hibitset_base.proofs.ends.find_first.Goals as goal

first_of : (bound : ℕ) (p : ℕ → Bool) (w : ℕ → ℕ → ℕ) (r s : ℕ) (ps qs : List Place) (found : Option ℕ) → items_of p ps ≡ members_below bound p → (found ≡ None → qs ≡ [])
    → MatchOption found (ReadsTo LAYERS p w r ps s qs) (λ i. ReadsTo LAYERS p w r ps s ((record { layer = 0; position = i }) ∷ qs))
    → MatchOption found (HasNone bound p) (IsFirst bound p)
first_of bound p w r s ps qs None start end goes = none_below bound p (sym start ∙ (sym goes.items ∙ ap (items_of p) (end refl)))
first_of bound p w r s ps qs (Some i) start end goes = first_below bound p i (items_of p qs) (sym start ∙ sym goes.items)

few_of : (p : ℕ → Bool) (w : ℕ → ℕ → ℕ) (r s most : ℕ) (ps qs : List Place) (found : Option ℕ) → r + depth ps ≤ most
    → (MatchOption found (ReadsTo LAYERS p w r ps s qs) (λ i. ReadsTo LAYERS p w r ps s ((record { layer = 0; position = i }) ∷ qs)))
    → SummariesExact LAYERS w → AllAreSet w ps → s ≤ most
few_of p w r s most ps qs None few goes exact drawn = let h = goes.few exact drawn in omega (arith, h, few)
few_of p w r s most ps qs (Some i) few goes exact drawn = let h = goes.few exact drawn in omega (arith, h, few)

-- a way before a step
after : {p : ℕ → Bool} {w : ℕ → ℕ → ℕ} {r s : ℕ} {ps qs : List Place} (t : ℕ) (xs : List Place) (found : Option ℕ) → ReadsTo LAYERS p w r ps s qs → MatchOption found (ReadsTo LAYERS p w s qs t xs) (λ i. ReadsTo LAYERS p w s qs t ((record { layer = 0; position = i }) ∷ xs))
    → MatchOption found (ReadsTo LAYERS p w r ps t xs) (λ i. ReadsTo LAYERS p w r ps t ((record { layer = 0; position = i }) ∷ xs))
after t xs None way goes = goes_both way goes
after t xs (Some i) way goes = goes_both way goes

pub returns-clause-first : goal.returns-clause-first
returns-clause-first g c =
    let holds = g.T.BitSetLike.holds c.args.set.now in
    let word = g.T.BitSetLike.word c.args.set.now in
    first_of MAX_EID holds word _ _ (cursor_places c.root_cursor-cursor.result) (cursor_places c.next_index.new.cursor) c.next_index.result c.root_cursor-cursor.ensures.start.items c.next_index.ensures.end (after _ _ c.next_index.result c.looks.invariant.goes c.next_index.ensures.goes)

pub returns-clause-reads_max : goal.returns-clause-reads_max
returns-clause-reads_max g c exact =
    let holds = g.T.BitSetLike.holds c.args.set.now in
    let word = g.T.BitSetLike.word c.args.set.now in
    let cursor = c.root_cursor-cursor.result in
    let deep = depth-left 0 cursor.masks cursor.prefix in
    let long = cursor.formed.long in
    let one = c.root_cursor-cursor.ensures.reads in
    few_of holds word c.root_cursor-cursor.new.reads.count c.next_index.new.reads.count (c.args.reads.now.count + LAYERS) (cursor_places cursor) (cursor_places c.next_index.new.cursor) c.next_index.result (omega (arith, deep, long, one)) (after _ _ c.next_index.result c.looks.invariant.goes c.next_index.ensures.goes) exact c.root_cursor-cursor.ensures.start.from_set

pub looks-preserved : goal.looks-preserved
looks-preserved g c = record { goes = goes_both c.looks.invariant.goes c.try_descend.ensures.goes; empty = λ l within. c.try_descend.ensures.empty_below l (omega (arith, within)) }
