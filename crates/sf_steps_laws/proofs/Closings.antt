-- a leader closes its call once, and fails at most as often as there are callers
use Rattle.std.proofs.Common.{◌≡◌, ◌≤◌, ◌+◌, ℕ, Bool, true, false, ◌==◌, List, [], ◌∷◌, ◌++◌, Option, refl, sym, ◌∙◌, ap, subst, eqb-true, arith}
use Rattle.std.proofs.lemmas.List.Folds.{list_any-append}
use Rattle.std.specs.Prelude.{cond, ◌||◌, ◌&&◌, not}
use Rattle.std.specs.List.{list_any}
use Rattle.sf_history.specs.declared.call.CallId.{CallId}
use Rattle.sf_history.specs.declared.event.Event.{Event}
use Rattle.sf_history.specs.History.{settles, is_settled}
use Rattle.sf_history.proofs.LegalHistories.{same_call_self}
use Rattle.sf_words.specs.declared.call_word.LeaderState.{LeaderState}
use Rattle.sf_steps_laws.specs.declared.operation.Stage.{Stage}
use Rattle.sf_steps_laws.specs.declared.operation.Stage.TheVariants.{Free, Leading, Holding, Polling, Seconding, Asking, Settling, Forgetting, Naming, Questioning}
use Rattle.sf_steps_laws.specs.declared.operation.SettleStep.TheVariants as settle
use Rattle.sf_steps_laws.specs.declared.turn.Turn.{Turn}
use Rattle.sf_steps_laws.specs.declared.turn.Turn.TheVariants as turn
use Rattle.sf_steps_laws.specs.World.{World, first_world, is_open_with, count}
use Rattle.sf_steps_laws.specs.Turns.{turned, run}
use Rattle.sf_steps_laws.specs.Events.{handed, settled, close_events, step_events, turn_events}
use Rattle.sf_steps_laws.specs.Closes.{fails_at, fails, failed_closes, closes_at, closes_in, closes}
use Rattle.sf_steps_laws.specs.Schedules.{Setting, IsScheduleFrom}
use Rattle.sf_steps_laws.specs.Laws.{ClosesAreFew, ClosesAdd}
use Rattle.sf_steps_laws.proofs.Sound.{call_of, Good, Sound}
use Rattle.sf_steps_laws.proofs.Flags.{turn_fair}
use Rattle.sf_steps_laws.proofs.Callers.{Fair, fair_begins}
use Rattle.sf_steps_laws.proofs.Closes.{closes_fail_seldom}

any_append : {A : Type 0} (f : A → Bool) (xs ys : List A) → list_any f xs ≡ true → list_any f (xs ++ ys) ≡ true
any_append f xs ys is = list_any-append f xs ys ∙ ap (λ (b : Bool). b || list_any f ys) is

any_later : {A : Type 0} (f : A → Bool) (xs ys : List A) → list_any f ys ≡ true → list_any f (xs ++ ys) ≡ true
any_later f xs ys is = list_any-append f xs ys ∙ (ap (λ (b : Bool). list_any f xs || b) is ∙ or_last (list_any f xs))
  where
    or_last : (b : Bool) → (b || true) ≡ true
    or_last true = refl
    or_last false = refl

-- one close is left while the call is not settled
abbrev left : Bool → ℕ
left settled = cond settled 0 1

left_less : (b c : Bool) → (b ≡ true → c ≡ true) → left c ≤ left b
left_less true c on = subst (λ (d : Bool). left d ≤ 0) (sym (on refl)) (omega arith)
left_less false true on = omega arith
left_less false false on = omega arith

module _ {V : Type 0} where
  kept : (h es : List (Event ℕ V)) (c : CallId) → 0 + left (is_settled (h ++ es) c) ≤ 0 + left (is_settled h c)
  kept h es c = let less : left (is_settled (h ++ es) c) ≤ left (is_settled h c) = left_less (is_settled h c) (is_settled (h ++ es) c) (any_append (settles c) h es) in omega (arith, less)

  closes_once : (h : List (Event ℕ V)) (w : World V) (a g : ℕ) (own : Option CallId) (v : V) (seen : LeaderState) → is_settled h (call_of a g) ≡ false → (b : Bool)
      → 1 + left (is_settled (h ++ close_events w a (call_of a g) own v seen b) (call_of a g)) ≤ cond (not b) 1 0 + left (is_settled h (call_of a g))
  closes_once h w a g own v seen unsettled false = let less = kept h [] (call_of a g) in omega (arith, less)
  closes_once h w a g own v seen unsettled true =
      let first : list_any (settles {K = ℕ} {V = V} (call_of a g)) (settled a (call_of a g) own v (count seen.top w.callers w.nexts) seen.top) ≡ true = ap (λ (b : Bool). b || list_any (settles {K = ℕ} {V = V} (call_of a g)) (handed a (call_of a g) own seen.top)) (same_call_self (call_of a g)) in
      let now : left (is_settled (h ++ settled a (call_of a g) own v (count seen.top w.callers w.nexts) seen.top) (call_of a g)) ≡ 0 = ap left (any_later (settles {K = ℕ} {V = V} (call_of a g)) h (settled a (call_of a g) own v (count seen.top w.callers w.nexts) seen.top) first) in
      let was : left (is_settled h (call_of a g)) ≡ 1 = ap left unsettled in
      omega (arith, now, was)

  close_few : (h : List (Event ℕ V)) (w : World V) (a i g : ℕ) (own : Option CallId) (v : V) (seen : LeaderState) → is_settled h (call_of a i) ≡ false → (b : Bool) → (i == g) ≡ b
      → cond {A = ℕ} b 1 0 + left (is_settled (h ++ close_events w a (call_of a i) own v seen (is_open_with seen (w.calls a))) (call_of a g))
      ≤ cond {A = ℕ} (b && not (is_open_with seen (w.calls a))) 1 0 + left (is_settled h (call_of a g))
  close_few h w a i g own v seen unsettled false other = kept h (close_events w a (call_of a i) own v seen (is_open_with seen (w.calls a))) (call_of a g)
  close_few h w a i g own v seen unsettled true same = subst (λ (n : ℕ). 1 + left (is_settled (h ++ close_events w a (call_of a i) own v seen (is_open_with seen (w.calls a))) (call_of a n)) ≤ cond {A = ℕ} (not (is_open_with seen (w.calls a))) 1 0 + left (is_settled h (call_of a n))) (eqb-true i g same)
      (closes_once h w a i own v seen unsettled (is_open_with seen (w.calls a)))

  stage_few : (h : List (Event ℕ V)) (w : World V) (a g : ℕ) (p : Stage V) → Good h w a p → closes_at g p + left (is_settled (h ++ step_events w a p) (call_of a g)) ≤ fails_at g (w.calls a) p + left (is_settled h (call_of a g))
  stage_few h w a g Free good = kept h [] (call_of a g)
  stage_few h w a g (Leading k i own) good = kept h [] (call_of a g)
  stage_few h w a g (Holding k i c) good = kept h [] (call_of a g)
  stage_few h w a g (Polling k i c) good = kept h [] (call_of a g)
  stage_few h w a g (Seconding one) good = kept h [] (call_of a g)
  stage_few h w a g (Asking k s step) good = kept h (step_events w a (Asking k s step)) (call_of a g)
  stage_few h w a g (Settling k i own v settle.Peek) good = kept h (step_events w a (Settling k i own v settle.Peek)) (call_of a g)
  stage_few h w a g (Settling k i own v (settle.Close seen)) good = close_few h w a i g own v seen good.0.not_settled (i == g) refl
  stage_few h w a g (Settling k i own v (settle.Clear top)) good = kept h [] (call_of a g)
  stage_few h w a g (Settling k i own v (settle.Count n m top)) good = kept h [] (call_of a g)
  stage_few h w a g (Settling k i own v (settle.Follow joiners m)) good = kept h [] (call_of a g)
  stage_few h w a g (Settling k i own v (settle.PeekMember joiners m next)) good = kept h [] (call_of a g)
  stage_few h w a g (Settling k i own v (settle.Deliver joiners m next)) good = kept h (step_events w a (Settling k i own v (settle.Deliver joiners m next))) (call_of a g)
  stage_few h w a g (Settling k i own v (settle.PeekOwn joiners)) good = kept h [] (call_of a g)
  stage_few h w a g (Settling k i own v (settle.DeliverOwn joiners m)) good = kept h (step_events w a (Settling k i own v (settle.DeliverOwn joiners m))) (call_of a g)
  stage_few h w a g (Forgetting k target step) good = kept h (step_events w a (Forgetting k target step)) (call_of a g)
  stage_few h w a g (Naming k) good = kept h [] (call_of a g)
  stage_few h w a g (Questioning k c step) good = kept h [] (call_of a g)

  turn_few : (first : ℕ) (h : List (Event ℕ V)) (w : World V) (a g : ℕ) (t : Turn V) → Sound first h w → closes_in w a g t + left (is_settled (h ++ turn_events w t) (call_of a g)) ≤ fails w a g t + left (is_settled h (call_of a g))
  turn_few first h w a g (turn.Start b o) sound = kept h [] (call_of a g)
  turn_few first h w a g (turn.Leave b) sound = kept h [] (call_of a g)
  turn_few first h w a g (turn.Step b) sound = at (b == a) refl
    where
      at : (t : Bool) → (b == a) ≡ t → cond {A = ℕ} t (closes_at g (w.stages a)) 0 + left (is_settled (h ++ step_events w b (w.stages b)) (call_of a g)) ≤ cond {A = ℕ} t (fails_at g (w.calls a) (w.stages a)) 0 + left (is_settled h (call_of a g))
      at false other = kept h (step_events w b (w.stages b)) (call_of a g)
      at true same = subst (λ (n : ℕ). closes_at g (w.stages a) + left (is_settled (h ++ step_events w n (w.stages n)) (call_of a g)) ≤ fails_at g (w.calls a) (w.stages a) + left (is_settled h (call_of a g))) (sym (eqb-true b a same))
          (stage_few h w a g (w.stages a) (sound.callers a).good)

  few_from : (z : Setting) (ts : List (Turn V)) (h : List (Event ℕ V)) (w : World V) (a g : ℕ) → Fair z h w → IsScheduleFrom z h w ts → closes w a g ts ≤ failed_closes w a g ts + left (is_settled h (call_of a g))
  few_from z [] h w a g sound is = omega arith
  few_from z (t ∷ ts) h w a g sound is =
      let here = turn_few z.first h w a g t sound.sound in
      let rest = few_from z ts (h ++ turn_events w t) (turned w t) a g (turn_fair z h w t sound is.0) is.1 in
      omega (arith, here, rest)

  pub closes_are_few : ClosesAreFew V
  closes_are_few z s a g is =
      let once : closes (first_world {V = V} z.callers z.first) a g s ≤ failed_closes (first_world z.callers z.first) a g s + 1 = few_from z s [] (first_world z.callers z.first) a g (fair_begins z) is in
      let seldom = closes_fail_seldom z s a g is in
      omega (arith, once, seldom)

  pub closes_add : ClosesAdd V
  closes_add w a g [] q = omega arith
  closes_add w a g (t ∷ p) q = let rest : closes (turned w t) a g (p ++ q) ≡ closes (turned w t) a g p + closes (run (turned w t) p) a g q = closes_add (turned w t) a g p q in omega arith
