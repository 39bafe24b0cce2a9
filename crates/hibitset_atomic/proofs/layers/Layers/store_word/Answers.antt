use Rattle.std.proofs.Common.{◌≡◌, ℕ, ◌-◌, ◌/◌, ◌^◌, ◌<◌, length, refl, arith, lit<}
use Rattle.std.proofs.Math.ListN.{set}
use Rattle.hibitset_atomic.specs.declared.layers.TheConstants.{ATOMIC_LAYERS}
use Rattle.hibitset_atomic.specs.declared.layers.Layers.{Layers}
use Rattle.hibitset_atomic.specs.Layers.{upper_layers}
use Rattle.hibitset_atomic.specs.Blocks.{block_word, IsMade}
use Rattle.hibitset_base.proofs.SummaryUpdateLemmas.{mended_last}
use Rattle.hibitset_base.proofs.MembershipLemmas.{same_test}
use Rattle.hibitset_atomic.proofs.BlockTableLemmas.{made_within}
use Rattle.hibitset_atomic.proofs.LayerLemmas.{over_first, over_up, puts, puts_top, sets_bit}
use Rattle.hibitset_atomic.proofs.layers.Layers.store_word.Goals as goal

-- the place of a word that is made lies in layer 0
made_place : (layers : Layers) (place : ℕ) → IsMade layers.layer0 place → place < 64 ^ (ATOMIC_LAYERS - 1)
made_place layers place made = let e = made_within 4096 layers.layer0.places.items layers.layer0.words.items (place / 64) layers.layer0.placed made in omega (arith, e)

pub returns-then-before-word-clause-summed : goal.returns-then-before-word-clause-summed
returns-then-before-word-clause-summed c =
    let self = c.args.self.now in
    let p = c.store_word.ensures in
    let one : c.args.place / 1 ≡ c.args.place = omega arith in
    let up0 = over_first (block_word self.layer0) (block_word c.store_word.new.self) (upper_layers self) c.args.place p.others in
    let stays = same_test c.args.before c.args.word c.if-before-word.true in
    mended_last ATOMIC_LAYERS 0 _ _ c.args.place up0 (λ _. rw (one, p.here, ← c.requires.before) stays) c.requires.summed

pub returns-then-not-replace-clause-summed : goal.returns-then-not-replace-clause-summed
returns-then-not-replace-clause-summed c =
    let self = c.args.self.now in
    let p = c.store_word.ensures in
    let e = c.replace.ensures in
    let bit1 = c.with_bit-word1.ensures in
    let one : c.args.place / 1 ≡ c.args.place = omega arith in
    let within = made_place self c.args.place c.requires.made in
    let room1 : c.args.place / 64 < length self.layer1.items = (let whole = self.whole1 in omega (arith, whole, within)) in
    let up0 = over_first (block_word self.layer0) (block_word c.store_word.new.self) (upper_layers self) c.args.place p.others in
    let up1 = over_up 0 (block_word c.store_word.new.self) (upper_layers self) up0 (lit< tt) (puts e.length e.here e.others) room1 c.index-before1.ensures (sets_bit bit1.same bit1.here) refl (rw one refl) (rw one p.here) in
    let stays = e.same_summary c.if-not-replace.true in
    mended_last ATOMIC_LAYERS 1 _ _ c.args.place up1 (λ _. rw e.here stays) c.requires.summed

pub returns-then-not-replace-2-clause-summed : goal.returns-then-not-replace-2-clause-summed
returns-then-not-replace-2-clause-summed c =
    let self = c.args.self.now in
    let p = c.store_word.ensures in
    let e = c.replace.ensures in
    let f = c.replace-2.ensures in
    let bit1 = c.with_bit-word1.ensures in
    let bit2 = c.with_bit-word2.ensures in
    let one : c.args.place / 1 ≡ c.args.place = omega arith in
    let within = made_place self c.args.place c.requires.made in
    let room1 : c.args.place / 64 < length self.layer1.items = (let whole = self.whole1 in omega (arith, whole, within)) in
    let room2 : c.args.place / 4096 < length self.layer2.items = (let whole = self.whole2 in omega (arith, whole, within)) in
    let up0 = over_first (block_word self.layer0) (block_word c.store_word.new.self) (upper_layers self) c.args.place p.others in
    let up1 = over_up 0 (block_word c.store_word.new.self) (upper_layers self) up0 (lit< tt) (puts e.length e.here e.others) room1 c.index-before1.ensures (sets_bit bit1.same bit1.here) refl (rw one refl) (rw one p.here) in
    let up2 = over_up 1 (block_word c.store_word.new.self) (set (upper_layers self) 0 c.replace.new.words.items) up1 (lit< tt) (puts f.length f.here f.others) room2 c.index-before2.ensures (sets_bit bit2.same bit2.here) refl refl e.here in
    let stays = f.same_summary c.if-not-replace-2.true in
    mended_last ATOMIC_LAYERS 2 _ _ c.args.place up2 (λ _. rw f.here stays) c.requires.summed

pub returns-clause-summed : goal.returns-clause-summed
returns-clause-summed c =
    let self = c.args.self.now in
    let p = c.store_word.ensures in
    let e = c.replace.ensures in
    let f = c.replace-2.ensures in
    let bit1 = c.with_bit-word1.ensures in
    let bit2 = c.with_bit-word2.ensures in
    let bit3 = c.with_bit-self.ensures in
    let one : c.args.place / 1 ≡ c.args.place = omega arith in
    let within = made_place self c.args.place c.requires.made in
    let room1 : c.args.place / 64 < length self.layer1.items = (let whole = self.whole1 in omega (arith, whole, within)) in
    let room2 : c.args.place / 4096 < length self.layer2.items = (let whole = self.whole2 in omega (arith, whole, within)) in
    let up0 = over_first (block_word self.layer0) (block_word c.store_word.new.self) (upper_layers self) c.args.place p.others in
    let up1 = over_up 0 (block_word c.store_word.new.self) (upper_layers self) up0 (lit< tt) (puts e.length e.here e.others) room1 c.index-before1.ensures (sets_bit bit1.same bit1.here) refl (rw one refl) (rw one p.here) in
    let up2 = over_up 1 (block_word c.store_word.new.self) (set (upper_layers self) 0 c.replace.new.words.items) up1 (lit< tt) (puts f.length f.here f.others) room2 c.index-before2.ensures (sets_bit bit2.same bit2.here) refl refl e.here in
    let up3 = over_up 2 (block_word c.store_word.new.self) (set (set (upper_layers self) 0 c.replace.new.words.items) 1 c.replace-2.new.words.items) up2 (lit< tt) (puts_top self.layer3 c.with_bit-self.result) (lit< tt) refl (sets_bit bit3.same bit3.here) (omega (arith, within)) (omega (arith, within)) f.here in
    mended_last ATOMIC_LAYERS 3 _ _ c.args.place up3 (λ more. absurd (omega arith)) c.requires.summed
