-- notes of callers that owe letters
use Rattle.std.proofs.Common.{ℕ, List, [], Option, Some, None}
use Rattle.sf_history.specs.declared.call.CallId.{CallId}
use Rattle.sf_steps_laws.specs.declared.turn.Turn.{Turn}
use Rattle.sf_steps_laws.specs.Turns.{at_members}
use Rattle.sf_steps_laws.proofs.Named.{IsAlone}
use Rattle.sf_group_steps.specs.declared.view.View.{View}
use Rattle.sf_group_steps.specs.View.{sizes_of}
use Rattle.sf_group_steps.specs.Stands.{Sits, Goes}
use Rattle.sf_group_steps.specs.Hears.{HasHeard}
use Rattle.sf_group_steps.proofs.HearSteps.{heard_goes}

module _ {V : Type 0} where
  -- who owes letters is nobody's second
  members_alone : (k g : ℕ) (own : Option CallId) (v : V) (joiners : ℕ) (top : Option ℕ) → IsAlone (at_members k g own v joiners top)
  members_alone k g None v joiners None c is = cc
  members_alone k g (Some m) v joiners None c is = cc
  members_alone k g own v joiners (Some m) c is = cc

  -- who owes letters and learns owes them still
  pub owes_still : (a k g : ℕ) (own : Option CallId) (x : V) (joiners : ℕ) (top : Option ℕ) (shown : List (Turn V)) (v w : View V) → Sits (sizes_of v) a v (at_members k g own x joiners top) → HasHeard (sizes_of v) v shown w
      → Goes (sizes_of v) a v w (at_members k g own x joiners top) [] 0
  owes_still a k g own x joiners top shown v w sits h = heard_goes (sizes_of v) a v w (at_members k g own x joiners top) sits (members_alone k g own x joiners top) h.made
