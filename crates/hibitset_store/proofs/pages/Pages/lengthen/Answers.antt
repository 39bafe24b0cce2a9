use Rattle.std.proofs.Common.{◌≤◌, ◌+◌, ◌-◌, ◌/◌, length, vec_len, refl, arith}
use Rattle.hibitset_base.specs.declared.util.TheConstants.{MAX_EID}
use Rattle.hibitset_store.specs.declared.pages.TheConstants.{PAGE}
use Rattle.hibitset_store.proofs.NewPageLemmas.{PageTableInvariant-longer}
use Rattle.hibitset_store.proofs.pages.Pages.lengthen.Goals as goal

pub returns-in_ok-resize-clause-laid_out : goal.returns-in_ok-resize-clause-laid_out
returns-in_ok-resize-clause-laid_out g c =
    let old = c.args.self.now.starts in
    let new = c.resize.new.self in
    let len = c.in_ok-resize.ensures.len in
    let few : length new.items ≤ MAX_EID / PAGE = let below = c.requires.in_range in let same = new.ok.0 in omega (arith, len, below, same) in
    let short : length old.items ≤ c.args.page + 1 = let past = c.if-len-page.true in let same = old.ok.0 in let is = c.len.ensures in omega (arith, past, same, is) in
    PageTableInvariant-longer c.args.self.now _ (c.args.page + 1) (c.args.page + 1 - vec_len old) c.in_ok-resize.ensures.items refl refl short few c.requires.laid_out
