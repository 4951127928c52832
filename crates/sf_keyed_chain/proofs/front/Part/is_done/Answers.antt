use Rattle.std.proofs.Common.{ℕ, subst}
use Rattle.std.specs.Bool.{OnTrue}
use Rattle.sf_keyed.specs.Known.{IsGone}
use Rattle.sf_keyed_chain.specs.Chains.{Sight}
use Rattle.sf_keyed_chain.proofs.Later.{on_true}
use Rattle.sf_keyed_chain.proofs.front.Part.is_done.Goals as goal

pub returns : goal.returns
returns c =
    let p = c.self.inside in
    subst (λ (s : Sight). OnTrue p.done ((k : ℕ) → IsGone s.front k)) c.self.view_is (on_true p.done ((k : ℕ) → IsGone p.front k) c.self.invariant.2)
