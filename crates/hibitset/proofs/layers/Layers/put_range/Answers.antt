use Rattle.hibitset.specs.Layers.{word_in}
use Rattle.hibitset.proofs.RangeFillLemmas.{put_one, put_more}
use Rattle.std.proofs.Common.{◌-◌, ◌/◌, ◌∙◌, refl, arith}
use Rattle.hibitset.proofs.layers.Layers.put_range.Goals as goal

pub returns-then-first-last-clause-put : goal.returns-then-first-last-clause-put
returns-then-first-last-clause-put c =
    let layer = c.args.layer in
    put_more c.args.stands c.args.from c.args.to c.requires.order (word_in c.args.self.now layer) (word_in c.put_bits.new.self layer) (word_in c.put_words.new.self layer) (word_in c.put_bits-then-first-last.new.self layer) (c.args.from / 64) ((c.args.to - 1) / 64) c.bits_within.result c.bits_within-then-first-last.result refl refl c.if-first-last.true
    c.put_bits.ensures.here c.bits_within.ensures c.put_bits.ensures.others (λ p low high. c.put_words.ensures.inside p low high ∙ c.whole_word.ensures) c.put_words.ensures.outside c.put_bits-then-first-last.ensures.here c.bits_within-then-first-last.ensures c.put_bits-then-first-last.ensures.others

pub returns-else-first-last-clause-put : goal.returns-else-first-last-clause-put
returns-else-first-last-clause-put c =
    let layer = c.args.layer in
    let h = c.if-first-last.false in
    put_one c.args.stands c.args.from c.args.to c.requires.order (word_in c.args.self.now layer) (word_in c.put_bits.new.self layer) (c.args.from / 64) c.bits_within.result c.put_bits.ensures.here c.bits_within.ensures refl (let o = c.requires.order in omega (arith, h, o)) c.put_bits.ensures.others
