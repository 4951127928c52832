use Rattle.std.proofs.Common.{List, ap, subst}
use Rattle.sf_keyed_words.specs.Rule.{number}
use Rattle.sf_keyed_chain.specs.Chains.{Sight}
use Rattle.sf_keyed_chain.specs.Went.{HasForgotten}
use Rattle.sf_keyed.specs.declared.names.Names.{Names}
use Rattle.sf_c_calls.specs.Rows.{IsNameOf, SessionState}
use Rattle.sf_c_calls.proofs.session.Session.forget.Goals as goal

pub returns-clause-forgotten : goal.returns-clause-forgotten
returns-clause-forgotten c =
    let k = number c.name_of-name.result in (
      k,
      subst (λ (n : Names). IsNameOf n c.args.key.now k) (ap (λ (s : SessionState). s.names) c.self.view_is) c.name_of-name.ensures,
      subst (λ (l : List Sight). HasForgotten k c.args.tries l c.forget.new.me c.forget.result) (ap (λ (s : SessionState). s.sights) c.self.view_is) c.forget.ensures.forgotten,
    )
