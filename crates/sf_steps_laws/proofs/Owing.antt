-- after its settle a leader has a list of members that wait, fewer than callers, and its own channel waits
use Rattle.std.proofs.Common.{◌≡◌, ◌≤◌, ◌+◌, ℕ, List, [], ◌∷◌, length, inl, inr, Option, Some, None, sym, ◌∙◌, ap, subst}
use Rattle.sf_history.specs.declared.call.CallId.{CallId}
use Rattle.sf_history.specs.declared.event.Event.{Event}
use Rattle.sf_steps_laws.specs.declared.operation.Stage.{Stage}
use Rattle.sf_steps_laws.specs.declared.operation.Stage.TheVariants.{Free, Settling}
use Rattle.sf_steps_laws.specs.declared.operation.SettleStep.{SettleStep}
use Rattle.sf_steps_laws.specs.declared.operation.SettleStep.TheVariants as settle
use Rattle.sf_steps_laws.specs.declared.turn.Turn.{Turn}
use Rattle.sf_steps_laws.specs.World.{World}
use Rattle.sf_steps_laws.specs.Events.{events_of, world_after}
use Rattle.sf_steps_laws.specs.Schedules.{Setting, IsCaller, IsSchedule}
use Rattle.sf_steps_laws.specs.Waiting.{IsWaiting, IsListed}
use Rattle.sf_steps_laws.proofs.Members.{line_members, line_apart}
use Rattle.sf_steps_laws.proofs.Callers.{AreCallers}
use Rattle.sf_steps_laws.proofs.Sound.{call_of, ticket, Waits, Owes, Good}
use Rattle.sf_history.proofs.Members.{each_map, few, IsOther}
use Rattle.sf_steps_laws.proofs.Leaders.{ticket_apart}
use Rattle.sf_steps_laws.proofs.Lined.{waiting, chain_listed}
use Rattle.sf_steps_laws.proofs.RightAnswers.{always, always_fair}

module _ {V : Type 0} where
  owed : (z : Setting) (h : List (Event ℕ V)) (w : World V) (a k g : ℕ) (own : Option CallId) (v : V) (joiners : ℕ) (top : Option ℕ) (step : SettleStep) (rest : List CallId) → AreCallers z w → w.stages a ≡ Settling k g own v step → Owes h w a k g own v joiners top rest
      → IsListed w k (call_of a g) top rest × (length rest + 1 ≤ z.callers)
  owed z h w a k g own v joiners top step rest are at is =
      let waits = line_members (Waits w k (call_of a g)) own rest is.waits in
      let self : IsCaller z a = are a (λ free. let clash : ◌≡◌ {A = Stage V} Free (Settling k g own v step) = sym free ∙ at in cc) in (
        chain_listed w k (call_of a g) top rest is.chain waits,
        few a z.callers rest self.0 self.1
            (each_map (Waits w k (call_of a g)) (IsOther a z.callers) (λ m waiting.
            let caller : IsCaller z m.caller = are m.caller (λ free. let clash : None ≡ Some (k, m.generation, call_of a g) = sym (ap ticket free) ∙ waiting.0 in cc) in
            (ticket_apart w k (call_of a g) m a waiting (ap ticket at), caller.0, caller.1)) rest waits)
            (line_apart own rest is.apart),
      )

  callers_are : (z : Setting) (s : List (Turn V)) → IsSchedule z s → AreCallers z (world_after z.callers z.first s)
  callers_are z s is = (always_fair z s is).are

  good_at : (z : Setting) (s : List (Turn V)) (a : ℕ) (p : Stage V) → IsSchedule z s → (world_after z.callers z.first s).stages a ≡ p → Good (events_of z.callers z.first s) (world_after z.callers z.first s) a p
  good_at z s a p is at = subst (λ (q : Stage V). Good (events_of z.callers z.first s) (world_after z.callers z.first s) a q) at ((always z s is).callers a).good

  -- the list from the member that comes next
  pub follow_list : (z : Setting) (s : List (Turn V)) (a k g m : ℕ) (own : Option CallId) (v : V) (joiners : ℕ) → IsSchedule z s → (world_after z.callers z.first s).stages a ≡ Settling k g own v (settle.Follow joiners m)
      → (l : List CallId) × IsListed (world_after z.callers z.first s) k (call_of a g) (Some m) l × (length l + 1 ≤ z.callers)
  follow_list z s a k g m own v joiners is at =
      let good = good_at z s a (Settling k g own v (settle.Follow joiners m)) is at in
      let list = owed z (events_of z.callers z.first s) (world_after z.callers z.first s) a k g own v joiners (Some m) (settle.Follow joiners m) good.0 (callers_are z s is) at good.1 in
      (good.0, list.0, list.1)

  -- who waits is a caller
  pub waiting_caller : (z : Setting) (s : List (Turn V)) (k : ℕ) (c m : CallId) → IsSchedule z s → IsWaiting (world_after z.callers z.first s) k c m → IsCaller z m.caller
  waiting_caller z s k c m is waits = callers_are z s is m.caller (λ free. elim waits.0 [
    | inl holds ↦ let clash = sym free ∙ holds in cc
    | inr polls ↦ let clash = sym free ∙ polls in cc
  ])

  -- the member whose word is to be looked at waits
  pub member_waits : (z : Setting) (s : List (Turn V)) (a k g m : ℕ) (own : Option CallId) (v : V) (joiners : ℕ) (next : Option ℕ) → IsSchedule z s → (world_after z.callers z.first s).stages a ≡ Settling k g own v (settle.PeekMember joiners m next)
      → (n : CallId) × (m ≡ n.caller) × IsWaiting (world_after z.callers z.first s) k (call_of a g) n
  member_waits z s a k g m own v joiners next is at =
      let good = good_at z s a (Settling k g own v (settle.PeekMember joiners m next)) is at in
      let list = owed z (events_of z.callers z.first s) (world_after z.callers z.first s) a k g own v joiners (Some m) (settle.PeekMember joiners m next) good.0 (callers_are z s is) at good.1 in
      head good.0 list.0
    where
      head : (l : List CallId) → IsListed (world_after z.callers z.first s) k (call_of a g) (Some m) l → (n : CallId) × (m ≡ n.caller) × IsWaiting (world_after z.callers z.first s) k (call_of a g) n
      head [] listed = absurd listed
      head (n ∷ l) listed = (n, listed.0, listed.1)

  -- and so does the own channel
  pub own_waits : (z : Setting) (s : List (Turn V)) (a k g : ℕ) (m : CallId) (v : V) (joiners : ℕ) → IsSchedule z s → (world_after z.callers z.first s).stages a ≡ Settling k g (Some m) v (settle.PeekOwn joiners) → IsWaiting (world_after z.callers z.first s) k (call_of a g) m
  own_waits z s a k g m v joiners is at = waiting (world_after z.callers z.first s) k (call_of a g) m (good_at z s a (Settling k g (Some m) v (settle.PeekOwn joiners)) is at).0.waits.0
