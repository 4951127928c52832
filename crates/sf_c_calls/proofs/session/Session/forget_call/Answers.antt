use Rattle.std.proofs.Common.{ℕ, List, ap, subst}
use Rattle.sf_keyed_words.specs.Rule.{number}
use Rattle.sf_keyed_chain.specs.Chains.{Sight}
use Rattle.sf_keyed_chain.specs.Went.{HasForgottenCall}
use Rattle.sf_keyed.specs.declared.names.Names.{Names}
use Rattle.sf_c_calls.specs.Rows.{IsNameOf, SessionState, call_of}
use Rattle.sf_c_calls.proofs.session.Session.forget_call.Goals as goal

pub returns-clause-ended : goal.returns-clause-ended
returns-clause-ended c =
    let k = number c.name_of-name.result in (
      k,
      subst (λ (n : Names). IsNameOf n c.args.key.now k) (ap (λ (s : SessionState). s.names) c.self.view_is) c.name_of-name.ensures,
      subst (λ (l : List Sight). HasForgottenCall k (call_of c.args.id) c.args.stamp c.args.tries l c.forget_call.new.me c.forget_call.result) (ap (λ (s : SessionState). s.sights) c.self.view_is)
          (subst (λ (n : ℕ). HasForgottenCall k n c.args.stamp c.args.tries c.self.inside.front c.forget_call.new.me c.forget_call.result) c.call_in.ensures c.forget_call.ensures.ended),
    )
