-- a delivery, step after step
use Rattle.std.proofs.Common.{◌≡◌, ℕ, ◌+◌, ◌≤◌, List, [], ◌∷◌, ◌++◌, length, Option, Some, None, refl, sym, ◌∙◌, ap, subst, append_assoc, arith}
use Rattle.sf_history.specs.declared.call.CallId.{CallId}
use Rattle.sf_history.specs.declared.event.Event.{Event}
use Rattle.sf_history.specs.declared.event.Event.TheVariants as event
use Rattle.sf_steps_laws.specs.declared.operation.Stage.{Stage}
use Rattle.sf_steps_laws.specs.declared.operation.Stage.TheVariants as stage
use Rattle.sf_steps_laws.specs.declared.operation.SettleStep.TheVariants as settle
use Rattle.sf_steps_laws.specs.World.{first_world}
use Rattle.sf_steps_laws.specs.Events.{adds, handed}
use Rattle.sf_steps_laws.specs.Schedules.{IsCaller}
use Rattle.sf_steps_laws.specs.Waiting.{IsListed}
use Rattle.sf_steps_laws.proofs.Owing.{follow_list, waiting_caller, own_waits}
use Rattle.sf_steps_laws.proofs.RightAnswers.{adds_append}
use Rattle.sf_group_rows.specs.declared.sizes.Sizes.{Sizes}
use Rattle.sf_group_rows.specs.Fitting.{FitOf}
use Rattle.sf_group_steps.specs.declared.actor.Actor.{Actor}
use Rattle.sf_group_steps.specs.declared.delivering.Delivery.{Delivery}
use Rattle.sf_group_steps.specs.declared.view.View.{View}
use Rattle.sf_group_steps.specs.View.{setting_of, world_of, history_of}
use Rattle.sf_group_steps.specs.Cells.{Lasts}
use Rattle.sf_group_steps.specs.Settles.{call_of}
use Rattle.sf_group_steps.specs.Stands.{Sits, GoesWith, Goes}
use Rattle.sf_group_steps.specs.Delivers.{at_step, Lists, Remains, handed_list, handed_later}
use Rattle.sf_group_steps.proofs.Trying.{adds_again}

module _ {V : Type 0} where
  -- who is to be served next is a caller
  pub follow_caller : (z : Sizes) (a k g m : ℕ) (own : Option CallId) (x : V) (joiners : ℕ) (v : View V) → Sits z a v (stage.Settling k g own x (settle.Follow joiners m)) → IsCaller (setting_of z) m
  follow_caller z a k g m own x joiners v sits =
      let list = follow_list (setting_of z) v.known.turns a k g m own x joiners sits.schedule sits.stage in
      head list.0 list.1
    where
      head : (l : List CallId) → IsListed (world_of z v.known.turns) k (call_of a g) (Some m) l → IsCaller (setting_of z) m
      head [] listed = absurd listed
      head (n ∷ l) listed = subst (IsCaller (setting_of z)) (sym listed.0) (waiting_caller (setting_of z) v.known.turns k (call_of a g) n sits.schedule listed.1)

  pub own_caller : (z : Sizes) (a k g : ℕ) (m : CallId) (x : V) (joiners : ℕ) (v : View V) → Sits z a v (stage.Settling k g (Some m) x (settle.PeekOwn joiners)) → IsCaller (setting_of z) m.caller
  own_caller z a k g m x joiners v sits = waiting_caller (setting_of z) v.known.turns k (call_of a g) m sits.schedule (own_waits (setting_of z) v.known.turns a k g m x joiners sits.schedule sits.stage)

  -- what fits by what a leader knew fits by what it knows since
  pub fits_goes : (fits : FitOf V) → Lasts fits → (z : Sizes) (a k n : ℕ) (c : CallId) (x : V) (v w : View V) (p : Stage V) (es : List (Event ℕ V)) (out : List ℕ) → fits k c x (history_of z v.known.turns) → GoesWith z a v w p es n out → fits k c x (history_of z w.known.turns)
  fits_goes fits lasts z a k n c x v w p es out fit goes =
      subst (λ h. fits k c x h) (sym (ap (history_of z) goes.knows ∙ adds_append (first_world z.callers z.first) v.known.turns goes.turns)) (lasts k c x (history_of z v.known.turns) (adds (world_of z v.known.turns) goes.turns) fit)

  -- steps one after another, of which the first added nothing
  abbrev pub goes_on : (z : Sizes) (a : ℕ) (v w u : View V) (p q : Stage V) (es fs : List (Event ℕ V)) (m n : ℕ) (mid out : List ℕ) → GoesWith z a v w p es m mid → GoesWith z a w u q fs n out → GoesWith z a v u q (es ++ fs) (m + n) out
  goes_on z a v w u p q es fs m n mid out one two = record {
    sits = two.sits;
    turns = one.turns ++ two.turns;
    knows = two.knows ∙ (ap (λ ts. ts ++ two.turns) one.knows ∙ append_assoc v.known.turns one.turns two.turns);
    used = let first = one.used in let second = two.used in omega (arith, first, second);
    adds = λ t. adds_again (record { table = t; sizes = z }) a (history_of z v.known.turns) (history_of z w.known.turns) (history_of z u.known.turns) es fs m n (one.adds t) (two.adds t);
  }

  -- a leader hands one letter out
  pub goes_hand : (z : Sizes) (a : ℕ) (v w u y : View V) (p q r : Stage V) (es : List (Event ℕ V)) (out : List ℕ) → Goes z a v w p [] 0 → GoesWith z a w u q [] 0 out → Goes z a u y r es 0 → Goes z a v y r es 0
  goes_hand z a v w u y p q r es out one two three = goes_on z a v w y p r [] es 0 0 [] [] one (goes_on z a w u y q r [] es 0 0 out [] two three)

  pub goes_hand_own : (z : Sizes) (a : ℕ) (v w u : View V) (p q : Stage V) (es : List (Event ℕ V)) (out : List ℕ) → GoesWith z a v w p [] 0 out → Goes z a w u q es 0 → Goes z a v u q es 0
  goes_hand_own z a v w u p q es out one two = goes_on z a v w u p q [] es 0 0 out [] one two

  -- between two members nothing is handed out
  pub handed_none : (a : ℕ) (c : CallId) (own : Option CallId) (m : ℕ) → handed {V = V} a c own (Some m) ≡ []
  handed_none a c None m = refl
  handed_none a c (Some o) m = refl

  -- one letter more
  pub goes_some : (z : Sizes) (a : ℕ) (v w u : View V) (p q : Stage V) (c : CallId) (own : Option CallId) (m : ℕ) (es : List (Event ℕ V)) → Goes z a v w p (handed a c own (Some m)) 0 → Goes z a w u q es 0 → Goes z a v u q es 0
  goes_some z a v w u p q c own m es one two = goes_on z a v w u p q [] es 0 0 [] [] (subst (λ fs. Goes z a v w p fs 0) (handed_none a c own m) one) two

  -- what is left of the list
  pub first_remains : (r : Actor) (d : Delivery) (m : ℕ) (x : V) (v : View V) → Sits r.sizes r.number v (at_step r d x (settle.Follow d.joiners m)) → Remains r d v (Some m) 0
  first_remains r d m x v sits =
      let list = follow_list (setting_of r.sizes) v.known.turns r.number r.place d.generation m d.own x d.joiners sits.schedule sits.stage in
      let few = list.2 in
      (list.0, list.1, omega (arith, few))

  pub later_remains : (r : Actor) (d : Delivery) (m served : ℕ) (v w : View V) (o : Option ℕ) → Remains r d v (Some m) served → ((n : CallId) (l : List CallId) → Lists r d v (Some m) (n ∷ l) → Lists r d w o l) → Remains r d w o (served + 1)
  later_remains r d m served v w o left lists = go left.0 left.1 left.2
    where
      go : (l : List CallId) → Lists r d v (Some m) l → length l + served + 1 ≤ r.sizes.callers → Remains r d w o (served + 1)
      go [] listed few = absurd listed
      go (n ∷ l) listed few = (l, lists n l listed, omega (arith, few))

  pub list_quiet : (a : ℕ) (c o : CallId) (top : Option ℕ) → handed_list {V = V} a c (Some o) top ≡ []
  list_quiet a c o None = refl
  list_quiet a c o (Some m) = refl

  pub list_later : (a : ℕ) (c : CallId) (top : Option ℕ) → handed_list {V = V} a c None top ≡ handed_later a c None top
  list_later a c None = refl
  list_later a c (Some m) = refl

  -- members, and then the own channel
  pub goes_own : (z : Sizes) (a : ℕ) (v w u : View V) (p : Stage V) (c o : CallId) (top : Option ℕ) (own : Option CallId) → own ≡ Some o → Goes z a v w p (handed_list a c own top) 0 → Goes z a w u stage.Free (event.Handed a c ∷ []) 0 → Goes z a v u stage.Free (handed_later a c own top) 0
  goes_own z a v w u p c o top own is one two = subst (λ q. Goes z a v u stage.Free (handed_later a c q top) 0) (sym is)
      (goes_on z a v w u p stage.Free [] (event.Handed a c ∷ []) 0 0 [] [] (subst (λ fs. Goes z a v w p fs 0) (ap (λ q. handed_list a c q top) is ∙ list_quiet a c o top) one) two)
