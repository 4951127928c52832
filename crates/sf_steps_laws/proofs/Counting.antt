-- what a leader counts is how many joined its call
use Rattle.std.proofs.Common.{◌≡◌, ◌≤◌, ◌+◌, ℕ, List, [], ◌∷◌, ◌++◌, length, Option, Some, refl, sym, ◌∙◌, ap, subst, append_assoc, arith}
use Rattle.std.specs.Prelude.{nat_eq}
use Rattle.sf_history.specs.declared.call.CallId.{CallId}
use Rattle.sf_history.specs.declared.event.Event.{Event}
use Rattle.sf_history.specs.declared.event.Event.TheVariants.{Settle}
use Rattle.sf_history.specs.History.{joined, settles}
use Rattle.sf_history.specs.Legal.{IsLegal}
use Rattle.sf_lists.proofs.Lists.{list_any_push_last}
use Rattle.sf_history.proofs.LegalHistories.{same_call_self}
use Rattle.sf_history.proofs.Members.{joined_kept}
use Rattle.sf_steps_laws.specs.declared.operation.Stage.{Stage}
use Rattle.sf_steps_laws.specs.declared.operation.SettleStep.{SettleStep}
use Rattle.sf_steps_laws.specs.declared.operation.SettleStep.TheVariants as settle
use Rattle.sf_steps_laws.specs.World.{World}
use Rattle.sf_steps_laws.specs.Events.{events_of, world_after}
use Rattle.sf_steps_laws.specs.Counts.{number_of, CountsAreRight, SettlesAreCounted, CountsHaveLists}
use Rattle.sf_steps_laws.proofs.Growing.{Answered, result_settled}
use Rattle.sf_steps_laws.proofs.Members.{line_members, each_after}
use Rattle.sf_steps_laws.proofs.Sound.{call_of, Waits, GoodSettle, Good}
use Rattle.sf_steps_laws.proofs.RightAnswers.{always, always_fair, schedules_are_legal}
use Rattle.sf_steps_laws.proofs.Letters.{answer_is, answered_longer}
use Rattle.sf_steps_laws.proofs.Lined.{chain_listed}

the_same : (m n : ℕ) → Some m ≡ Some n → m ≡ n
the_same m n is = cc

module _ {V : Type 0} where
  counted : (h : List (Event ℕ V)) (w : World V) (a k g : ℕ) (own : Option CallId) (v : V) (step : SettleStep) (n : ℕ) → GoodSettle h w a k g own v step → number_of step ≡ Some n → Answered h (call_of a g) v n
  counted h w a k g own v settle.Peek n good is = cc
  counted h w a k g own v (settle.Close seen) n good is = cc
  counted h w a k g own v (settle.Clear top) n good is = cc
  counted h w a k g own v (settle.Count j m top) n good is = cc
  counted h w a k g own v (settle.Follow j m) n good is = subst (λ (i : ℕ). Answered h (call_of a g) v i) (the_same j n is) good.1.answered
  counted h w a k g own v (settle.PeekMember j m next) n good is = subst (λ (i : ℕ). Answered h (call_of a g) v i) (the_same j n is) good.1.answered
  counted h w a k g own v (settle.Deliver j m next) n good is = subst (λ (i : ℕ). Answered h (call_of a g) v i) (the_same j n is) good.1.answered
  counted h w a k g own v (settle.PeekOwn j) n good is = subst (λ (i : ℕ). Answered h (call_of a g) v i) (the_same j n is) good.0.answered
  counted h w a k g own v (settle.DeliverOwn j m) n good is = subst (λ (i : ℕ). Answered h (call_of a g) v i) (the_same j n is) good.0.answered

  pub counts_are_right : CountsAreRight V
  counts_are_right z s is a k g own v step n at number =
      let good : GoodSettle (events_of z.callers z.first s) (world_after z.callers z.first s) a k g own v step =
      subst (λ (q : Stage V). Good (events_of z.callers z.first s) (world_after z.callers z.first s) a q) at ((always z s is).callers a).good in
      answer_is (events_of z.callers z.first s) (call_of a g) v n (counted (events_of z.callers z.first s) (world_after z.callers z.first s) a k g own v step n good number)

  -- a Settle has the number of those that joined up to it, and nobody joins after it
  number_stays : (h p q : List (Event ℕ V)) (b m : ℕ) (c : CallId) (x : V) → IsLegal nat_eq h → h ≡ p ++ Settle b c x m ∷ q → joined h c ≡ m
  number_stays h p q b m c x legal is =
      let follows = legal p q (Settle b c x m) is in
      let first : Answered (p ++ Settle b c x m ∷ []) c x m = (
        list_any_push_last (settles c) p (Settle b c x m) (same_call_self c),
        result_settled p b c x m follows.1,
        joined_kept p (Settle b c x m) c refl ∙ sym follows.2,
      ) in
      let parts : h ≡ (p ++ Settle b c x m ∷ []) ++ q = is ∙ sym (append_assoc p (Settle b c x m ∷ []) q) in
      let whole : IsLegal nat_eq ((p ++ Settle b c x m ∷ []) ++ q) = subst (λ (i : List (Event ℕ V)). IsLegal nat_eq i) parts legal in
      ap (λ (i : List (Event ℕ V)). joined i c) parts ∙ (answered_longer c x m q (p ++ Settle b c x m ∷ []) whole first).2

  pub settles_are_counted : SettlesAreCounted V
  settles_are_counted z s is a k g own v step n at number p q b m x stands =
      let good : GoodSettle (events_of z.callers z.first s) (world_after z.callers z.first s) a k g own v step =
      subst (λ (q : Stage V). Good (events_of z.callers z.first s) (world_after z.callers z.first s) a q) at ((always z s is).callers a).good in
      sym (number_stays (events_of z.callers z.first s) p q b m (call_of a g) x (schedules_are_legal z s is) stands)
      ∙ (counted (events_of z.callers z.first s) (world_after z.callers z.first s) a k g own v step n good number).2

  pub counts_have_lists : CountsHaveLists V
  counts_have_lists z s is a k g n m top own v at =
      let w : World V = world_after z.callers z.first s in
      let fair = always_fair z s is in
      let good : GoodSettle (events_of z.callers z.first s) w a k g own v (settle.Count n m top) = subst (λ (q : Stage V). Good (events_of z.callers z.first s) w a q) at (fair.sound.callers a).good in
      let waits = each_after (Waits w k (call_of a g)) good.0 good.1 (line_members (Waits w k (call_of a g)) own (good.0 ++ good.1) good.3.waits) in
      let number : n + length good.1 ≡ good.2 = good.6 in
      let few : good.2 ≤ w.callers = good.7 in
      let size : w.callers ≡ z.callers = fair.size in
      (good.1, chain_listed w k (call_of a g) (Some m) good.1 good.5 waits, omega (arith, number, few, size))
