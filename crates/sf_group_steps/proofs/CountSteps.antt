-- the steps by which a leader counts those who joined its call
use Rattle.std.proofs.Common.{◌≡◌, ℕ, ◌+◌, ◌<◌, ◌≤◌, List, [], ◌∷◌, length, Option, Some, refl, sym, ◌∙◌, ap, subst, arith}
use Rattle.std.proofs.lemmas.Bool.{cond-true, lt-ltb}
use Rattle.std.specs.Prelude.{nat_lt}
use Rattle.sf_history.specs.declared.call.CallId.{CallId}
use Rattle.atomic_table.specs.Seated.{TableId}
use Rattle.sf_history.specs.declared.event.Event.{Event}
use Rattle.sf_history.specs.declared.event.Event.TheVariants as event
use Rattle.sf_history.specs.History.{own_events}
use Rattle.sf_words.specs.NextWord.{next_code}
use Rattle.sf_steps_laws.specs.declared.operation.Stage.TheVariants as stage
use Rattle.sf_steps_laws.specs.declared.operation.SettleStep.TheVariants as settle
use Rattle.sf_steps_laws.specs.declared.turn.Turn.TheVariants as turn
use Rattle.sf_steps_laws.specs.World.{World, one_more}
use Rattle.sf_steps_laws.specs.Turns.{after_count}
use Rattle.sf_steps_laws.specs.Events.{handed, settled}
use Rattle.sf_steps_laws.specs.Schedules.{IsCaller}
use Rattle.sf_steps_laws.specs.Waiting.{IsListed}
use Rattle.sf_steps_laws.proofs.Counting.{settles_are_counted, counts_have_lists}
use Rattle.sf_steps_laws.proofs.Owing.{waiting_caller}
use Rattle.sf_steps_laws.proofs.RightAnswers.{always_fair}
use Rattle.sf_group_rows.specs.declared.sizes.Sizes.{Sizes}
use Rattle.sf_group_steps.specs.declared.view.View.{View}
use Rattle.sf_group_steps.specs.Words.{next, IsNextFor}
use Rattle.sf_group_steps.specs.View.{setting_of, world_of, history_of}
use Rattle.sf_group_steps.specs.Plays.{Moves, Found}
use Rattle.sf_group_steps.specs.Settles.{call_of}
use Rattle.sf_group_steps.specs.Stands.{Sits, Goes}
use Rattle.sf_group_steps.proofs.DeliverSteps.{quiet_move, quiet_told}
use Rattle.sf_group_steps.proofs.Forgets.{goes_still}
use Rattle.sf_group_rows.proofs.Moments.{stands_own}

-- a member more is counted, where there is room for it
counted_more : (callers n : ℕ) → n < callers → one_more callers n ≡ n + 1
counted_more callers n room = cond-true (nat_lt n callers) (n + 1) n (lt-ltb n callers room)

module _ {V : Type 0} where
  pub count_move : (z : Sizes) (a k g n m top : ℕ) (own : Option CallId) (x : V) (v : View V) → Sits z a v (stage.Settling k g own x (settle.Count n m top)) → Moves z v (next m) (λ i. i) (λ _. turn.Step a ∷ [])
  count_move z a k g n m top own x v sits =
      quiet_move z a k g own x (settle.Count n m top) (next m) v (λ w. stage.Settling k g own x (after_count (one_more w.callers n) top (w.nexts m))) sits (λ w. refl)

  pub count_told : (z : Sizes) (a k g n m top code : ℕ) (own : Option CallId) (x : V) (r : Option ℕ) (v w : View V) → n < z.callers → Sits z a v (stage.Settling k g own x (settle.Count n m top)) → Found (next m) (λ _. turn.Step a ∷ []) z v code w
      → ((y : Option ℕ) → IsNextFor z.callers y → next_code y ≡ code → r ≡ y) → Goes z a v w (stage.Settling k g own x (after_count (n + 1) top r)) [] 0
  count_told z a k g n m top code own x r v w room sits found says =
      let w₀ : World V = world_of z found.0.before in
      let is : r ≡ w₀.nexts m = says (w₀.nexts m) (found.0.comes.lawful.nexts m) (sym found.1) in
      let size : w₀.callers ≡ z.callers = (always_fair (setting_of z) found.0.before found.0.comes.schedule).size in
      let more : one_more w₀.callers n ≡ n + 1 = ap (λ (c : ℕ). one_more c n) size ∙ counted_more z.callers n room in
      subst (λ (o : Option ℕ). Goes z a v w (stage.Settling k g own x (after_count (n + 1) top o)) [] 0) (sym is)
      (subst (λ (i : ℕ). Goes z a v w (stage.Settling k g own x (after_count i top (w₀.nexts m))) [] 0) more
      (quiet_told z a k g own x (settle.Count n m top) v w [] (stage.Settling k g own x (after_count (one_more w₀.callers n) top (w₀.nexts m))) sits found.0 refl refl))

  -- who is to be counted is a caller
  pub count_caller : (z : Sizes) (a k g n m top : ℕ) (own : Option CallId) (x : V) (v : View V) → Sits z a v (stage.Settling k g own x (settle.Count n m top)) → IsCaller (setting_of z) m
  count_caller z a k g n m top own x v sits =
      let list = counts_have_lists (setting_of z) v.known.turns sits.schedule a k g n m top own x sits.stage in
      head list.0 list.1
    where
      head : (l : List CallId) → IsListed (world_of z v.known.turns) k (call_of a g) (Some m) l → IsCaller (setting_of z) m
      head [] listed = absurd listed
      head (o ∷ l) listed = subst (IsCaller (setting_of z)) (sym listed.0) (waiting_caller (setting_of z) v.known.turns k (call_of a g) o sits.schedule listed.1)

  -- there are no more to be counted than callers
  pub count_room : (z : Sizes) (a k g n m top : ℕ) (own : Option CallId) (x : V) (v : View V) → Sits z a v (stage.Settling k g own x (settle.Count n m top)) → n < z.callers
  count_room z a k g n m top own x v sits =
      let list = counts_have_lists (setting_of z) v.known.turns sits.schedule a k g n m top own x sits.stage in
      some list.0 list.1 list.2
    where
      some : (l : List CallId) → IsListed (world_of z v.known.turns) k (call_of a g) (Some m) l → n + length l ≤ z.callers → n < z.callers
      some [] listed few = absurd listed
      some (o ∷ l) listed few = omega (arith, few)

  -- a settle, and the count of those who joined: its number is the one that was counted
  pub counted_all : (t : TableId) (z : Sizes) (a k g n j top : ℕ) (own : Option CallId) (x : V) (v w y : View V) → Goes z a v w (stage.Settling k g own x (settle.Count 0 top top)) (settled a (call_of a g) own x n (Some top)) 0
      → Goes z a w y (stage.Settling k g own x (settle.Follow j top)) [] 0 → Goes z a v y (stage.Settling k g own x (settle.Follow j top)) (settled a (call_of a g) own x j (Some top)) 0
  counted_all t z a k g n j top own x v w y one two =
      let es : List (Event ℕ V) = settled a (call_of a g) own x n (Some top) in
      let both = goes_still z a 0 v w y (stage.Settling k g own x (settle.Count 0 top top)) (stage.Settling k g own x (settle.Follow j top)) es one two in
      let stands = stands_own a (history_of z y.known.turns) (own_events a (history_of z v.known.turns)) (handed a (call_of a g) own (Some top)) (event.Settle a (call_of a g) x n) (both.adds t).grows.own in
      let number : n ≡ j = settles_are_counted (setting_of z) y.known.turns both.sits.schedule a k g own x (settle.Follow j top) j both.sits.stage refl stands.0 stands.1 a n x stands.2 in
      subst (λ (i : ℕ). Goes z a v y (stage.Settling k g own x (settle.Follow j top)) (settled a (call_of a g) own x i (Some top)) 0) number both
