use Rattle.std.proofs.Common.{◌≡◌, ◌<◌, true, min, length, sym, ◌∙◌, ap, arith}
use Rattle.std.specs.Prelude.{slice_get}
use Rattle.hibitset.specs.Prelude.{members_below, MAX_EID, has, members_of}
use Rattle.hibitset.proofs.CallerLemmas.{member_at, has_within}
use Rattle.uses.proofs.results.position_of.Goals as goal

pub returns : goal.returns
returns c =
    let set = c.args.found.now in
    let on : has set c.args.row ≡ true = sym c.contains.ensures ∙ c.if-not-contains.false in
    let within : c.args.row < MAX_EID = has_within set c.args.row on in
    let same : min c.args.row MAX_EID ≡ c.args.row = omega (arith, within) in
    ap (slice_get (members_of set)) (c.rank.ensures ∙ ap (λ b. length (members_below b (has set))) same) ∙ member_at MAX_EID (has set) c.args.row within on
