use Rattle.std.proofs.Common.{ℕ, Bool, ◌&&◌, ◌∙◌, ap}
use Rattle.std.proofs.lemmas.Result.{IfOk-weaker}
use Rattle.hibitset.specs.Prelude.{in_range, MAX_EID, has}
use Rattle.hibitset.proofs.CallerLemmas.{members_in_range}
use Rattle.hibitset_base.proofs.MemberLemmas.{members-same}
use Rattle.uses.proofs.results.both_within.Goals as goal

pub returns : goal.returns
returns c =
    let both : ℕ → Bool = λ i. has c.args.a.now i && has c.args.b.now i in
    IfOk-weaker c.to_vec.result _ _
    (λ window same. same ∙ (members-same _ (λ i. both i && in_range c.args.start c.args.end i) 0 MAX_EID (λ i from below. c.bitand-2.ensures.2 i ∙ ap (λ b. b && in_range c.args.start c.args.end i) (c.bitand.ensures.2 i)) ∙ members_in_range MAX_EID both c.args.start c.args.end)) c.to_vec.ensures
