-- a turn leaves those whom it does not concern, over whole schedules
use Rattle.std.proofs.Common.{◌≡◌, List, [], ◌∷◌, ◌++◌, sym, ◌∙◌, ap, subst, append_assoc}
use Rattle.sf_steps_laws.specs.declared.turn.Turn.{Turn}
use Rattle.sf_steps_laws.specs.World.{World, first_world}
use Rattle.sf_steps_laws.specs.Turns.{turned}
use Rattle.sf_steps_laws.specs.Events.{events_of, world_after}
use Rattle.sf_steps_laws.specs.Schedules.{IsSchedule}
use Rattle.sf_steps_laws.specs.Left.{AreOthers, IsLeft}
use Rattle.sf_steps_laws.specs.Laws.{OthersAreLeft, OwnTurnsDecide}
use Rattle.sf_steps_laws.proofs.RightAnswers.{run_append, schedule_parts, always}
use Rattle.sf_steps_laws.proofs.Others.{turn_left}

module _ {V : Type 0} where
  pub others_are_left : OthersAreLeft V
  others_are_left z s t is b free =
      let w : World V = world_after z.callers z.first s in
      let there : world_after z.callers z.first (s ++ t ∷ []) ≡ turned w t = run_append (first_world z.callers z.first) s (t ∷ []) in
      let sound = always z s (schedule_parts z s (t ∷ []) [] (first_world z.callers z.first) is).0 in
      subst (λ (u : World V). IsLeft w u b) (sym there) (turn_left z.first (events_of z.callers z.first s) w t b sound free)

  pub own_turns_decide : OwnTurnsDecide V
  own_turns_decide z s [] is b others =
      let same : world_after z.callers z.first (s ++ []) ≡ world_after z.callers z.first s = run_append (first_world z.callers z.first) s [] in
      (ap (λ (u : World V). u.stages b) same, ap (λ (u : World V). u.generations b) same, ap (λ (u : World V). u.nexts b) same)
  own_turns_decide z s (t ∷ ts) is b others =
      let parts : IsSchedule z ((s ++ t ∷ []) ++ ts) = subst (λ (q : List (Turn V)). IsSchedule z q) (sym (append_assoc s (t ∷ []) ts)) is in
      let one = (schedule_parts z (s ++ t ∷ []) ts [] (first_world z.callers z.first) parts).0 in
      let there : world_after z.callers z.first (s ++ t ∷ []) ≡ turned (world_after z.callers z.first s) t = run_append (first_world z.callers z.first) s (t ∷ []) in
      let here = others_are_left z s t one b others.0 in
      let rest = own_turns_decide z (s ++ t ∷ []) ts parts b (subst (λ (u : World V). AreOthers u ts b) (sym there) others.1) in
      let whole : world_after z.callers z.first ((s ++ t ∷ []) ++ ts) ≡ world_after z.callers z.first (s ++ t ∷ ts) = ap (λ (q : List (Turn V)). world_after z.callers z.first q) (append_assoc s (t ∷ []) ts) in
      (ap (λ (u : World V). u.stages b) (sym whole) ∙ (rest.0 ∙ here.stage), ap (λ (u : World V). u.generations b) (sym whole) ∙ (rest.1 ∙ here.generation), ap (λ (u : World V). u.nexts b) (sym whole) ∙ (rest.2 ∙ here.next))
