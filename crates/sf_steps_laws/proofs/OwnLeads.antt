-- how a caller comes to lead a call that is not settled, by its own turns
use Rattle.std.proofs.Common.{◌≡◌, ℕ, ◌+◌, ◌≤◌, Bool, true, false, ◌==◌, ◌&&◌, ◌||◌, not, ◌⊎◌, List, [], ◌∷◌, inl, inr, Option, Some, None, refl, sym, ◌∙◌, ap, subst, arith, eq-eqb}
use Rattle.std.proofs.lemmas.Bool.{and_from}
use Rattle.std.proofs.Math.Bool.{and-false}
use Rattle.std.specs.Prelude.{cond}
use Rattle.sf_history.specs.declared.call.CallId.{CallId}
use Rattle.sf_words.specs.declared.call_word.LeaderState.{LeaderState}
use Rattle.sf_words.specs.declared.call_word.CallState.{CallState}
use Rattle.sf_words.specs.declared.call_word.CallState.TheVariants as word
use Rattle.sf_steps_laws.specs.declared.operation.Op.{Op}
use Rattle.sf_steps_laws.specs.declared.operation.Op.TheVariants as op
use Rattle.sf_steps_laws.specs.declared.operation.Stage.{Stage}
use Rattle.sf_steps_laws.specs.declared.operation.Stage.TheVariants.{Free, Leading, Holding, Polling, Seconding, Asking, Settling, Forgetting, Naming, Questioning}
use Rattle.sf_steps_laws.specs.declared.operation.SettleStep.TheVariants as settle
use Rattle.sf_steps_laws.specs.declared.turn.Turn.{Turn}
use Rattle.sf_steps_laws.specs.declared.turn.Turn.TheVariants as turn
use Rattle.sf_words.specs.declared.key_word.KeyState.{KeyState}
use Rattle.sf_words.specs.declared.key_word.KeyState.TheVariants.{Never, Names}
use Rattle.sf_steps_laws.specs.declared.operation.AskStep.{AskStep}
use Rattle.sf_steps_laws.specs.declared.operation.AskStep.TheVariants as ask
use Rattle.sf_steps_laws.specs.declared.operation.SettleStep.{SettleStep}
use Rattle.sf_steps_laws.specs.declared.operation.ForgetStep.{ForgetStep}
use Rattle.sf_steps_laws.specs.declared.operation.ForgetStep.TheVariants as forget
use Rattle.sf_steps_laws.specs.declared.operation.CurrentStep.{CurrentStep}
use Rattle.sf_steps_laws.specs.declared.operation.CurrentStep.TheVariants as current
use Rattle.sf_steps_laws.specs.World.{World, with_stage, next_id, key_of, same_key, same_flag, same_top, is_open_with, open_in, is_forgot_in, generation_in, is_full, is_spent, one_more}
use Rattle.sf_lists.specs.Functions.{put}
use Rattle.sf_steps_laws.specs.Askings.{looked, peeked, joiner, ready_own, after_lead, after_enter, ask_stepped}
use Rattle.sf_steps_laws.specs.Turns.{after_own_peek, at_members, after_close, cleared, own_peeked, settle_stepped, key_looked, call_looked, forget_looked, misses, peek_missed, forgot, forget_cleared, forget_stepped, polled, current_peeked, current_stepped, stepped, chan_started, started, freed, left, turned, at_count, after_count}
use Rattle.sf_steps_laws.specs.Closes.{fails_at, fails}
use Rattle.sf_lists.proofs.Functions.{put_here, put_cases}
use Rattle.sf_steps_laws.proofs.SettleSteps.{members_unsettled, count_unsettled}
use Rattle.sf_steps_laws.proofs.Compared.{same_pair}
use Rattle.sf_steps_laws.proofs.Members.{Chain}
use Rattle.sf_steps_laws.proofs.Sound.{call_of, unsettled}

-- the words of one list have one top
pub chain_tops : (f g : ℕ → Option ℕ) (l : List CallId) (t u : Option ℕ) → Chain f t l → Chain g u l → t ≡ u
chain_tops f g [] None None x y = refl
chain_tops f g [] None (Some b) x y = absurd y
chain_tops f g [] (Some b) u x y = absurd x
chain_tops f g (m ∷ l) None u x y = absurd x
chain_tops f g (m ∷ l) (Some b) None x y = absurd y
chain_tops f g (m ∷ l) (Some b) (Some c) x y = ap (λ (n : ℕ). Some n) (x.0 ∙ sym y.0)

-- 1 for a forgotten word
abbrev pub forgets : CallState → ℕ
forgets (word.Forgot s) = 1
forgets _ = 0

pub open_self : (s : LeaderState) → is_open_with s (word.Open s) ≡ true
open_self s = and_from (s.generation == s.generation) (same_flag s.own s.own && same_top s.top s.top) (eq-eqb s.generation s.generation refl) (and_from (same_flag s.own s.own) (same_top s.top s.top) (flag s.own) (top s.top))
  where
    flag : (b : Bool) → same_flag b b ≡ true
    flag true = refl
    flag false = refl

    top : (t : Option ℕ) → same_top t t ≡ true
    top None = refl
    top (Some n) = eq-eqb n n refl

pub one_at_most : (b : Bool) → cond {A = ℕ} b 1 0 ≤ 1
one_at_most true = omega arith
one_at_most false = omega arith

pub forgets_most : (u : CallState) → forgets u ≤ 1
forgets_most (word.Forgot s) = omega arith
forgets_most _ = omega arith

module _ {V : Type 0} where
  -- a caller whose stage becomes one without an unsettled call leads none
  leads_none : (f : ℕ → Stage V) (a : ℕ) (s : Stage V) (x : ℕ × ℕ) → unsettled s ≡ None → unsettled (put f a s a) ≡ Some x → ⊥
  leads_none f a s x none is = let clash : None ≡ Some x = sym none ∙ (sym (ap unsettled (put_here f a s)) ∙ is) in cc

  -- how a caller comes to lead an unsettled call after its own step: it leads it just now, or it did before
  abbrev pub New : World V → World V → ℕ → ℕ → Type 0
  New w w' a g = (w.generations a ≡ g) × (fails_at g (w'.calls a) (w'.stages a) ≡ 0)

  abbrev Old : World V → World V → ℕ → ℕ → ℕ → Stage V → Type 0
  Old w w' a k g p = (unsettled p ≡ Some (k, g)) × (w'.calls a ≡ w.calls a) × (fails_at g (w.calls a) p + fails_at g (w'.calls a) (w'.stages a) ≤ fails_at g (w.calls a) p)

  -- it did before, and this step does not fail
  old_stage : (w w' : World V) (a k g : ℕ) (p s : Stage V) → unsettled p ≡ Some (k, g) → w'.stages a ≡ s → w'.calls a ≡ w.calls a → fails_at g (w.calls a) s ≡ 0 → Old w w' a k g p
  old_stage w w' a k g p s is stage same none =
      let after : fails_at g (w'.calls a) (w'.stages a) ≡ 0 = ap (λ (q : Stage V). fails_at g (w'.calls a) q) stage ∙ (ap (λ (u : CallState). fails_at g u s) same ∙ none) in
      (is, same, omega arith)

  lead_leads : (w : World V) (a i k g : ℕ) (s : Option ℕ) (b : Bool) → unsettled ((after_lead w a i s b).stages a) ≡ Some (k, g) → New w (after_lead w a i s b) a g
  lead_leads w a i k g s false is = absurd (leads_none w.stages a (Asking i s (ask.Look true)) (k, g) refl is)
  lead_leads w a i k g None true is =
      let p : Stage V = Leading i (w.generations a) None in
      let stage : put w.stages a p a ≡ p = put_here w.stages a p in
      let same : (i, w.generations a) ≡ (k, g) = same_pair (i, w.generations a) (k, g) (sym (ap unsettled stage) ∙ is) in
      (ap (λ (x : ℕ × ℕ). x.1) same, ap (λ (q : Stage V). fails_at g (w.calls a) q) stage)
  lead_leads w a i k g (Some b) true is =
      let p : Stage V = Leading i (w.generations a) (Some (next_id w b)) in
      let f : ℕ → Stage V = put w.stages b (Holding i (w.generations b) (next_id w a)) in
      let stage : put f a p a ≡ p = put_here f a p in
      let same : (i, w.generations a) ≡ (k, g) = same_pair (i, w.generations a) (k, g) (sym (ap unsettled stage) ∙ is) in
      (ap (λ (x : ℕ × ℕ). x.1) same, ap (λ (q : Stage V). fails_at g (w.calls a) q) stage)

  enter_leads : (w : World V) (a i k g : ℕ) (s : Option ℕ) (c : CallId) (seen : LeaderState) (b : Bool) → unsettled ((after_enter w a i s c seen b).stages a) ≡ Some (k, g) → ⊥
  enter_leads w a i k g s c seen false is = leads_none w.stages a (Asking i s (ask.Look true)) (k, g) refl is
  enter_leads w a i k g s c seen true is = put_cases (λ (q : Stage V). unsettled q ≡ Some (k, g) → ⊥) (put w.stages a Free) (joiner a s) (Holding i (w.generations (joiner a s)) c) a (λ here x. cc) (λ other x. leads_none w.stages a Free (k, g) refl x) is

  own_leads : (w : World V) (a i k g : ℕ) (s : Option ℕ) (seen : KeyState) (f : Bool) → w.stages a ≡ Asking i s (ask.ReadyOwn seen f) → unsettled ((ready_own w a i s seen f).stages a) ≡ Some (k, g) → ⊥
  own_leads w a i k g None seen f at is = let clash : ◌≡◌ {A = Option (ℕ × ℕ)} None (Some (k, g)) = sym (ap unsettled at) ∙ is in cc
  own_leads w a i k g (Some b) seen f at is = leads_none w.stages a (Asking i (Some b) (ask.ReadyLead seen f)) (k, g) refl is

  ask_leads : (w : World V) (a i k g : ℕ) (s : Option ℕ) (step : AskStep) → w.stages a ≡ Asking i s step → unsettled ((ask_stepped w a i s step).stages a) ≡ Some (k, g) → New w (ask_stepped w a i s step) a g
  ask_leads w a i k g s (ask.Look failed) at is = absurd (leads_none w.stages a (Asking i s (looked s (w.keys i))) (k, g) refl is)
  ask_leads w a i k g s (ask.Peek c) at is = absurd (leads_none w.stages a (Asking i s (peeked s c (is_forgot_in c.generation (w.calls c.caller)) (open_in c.generation (w.calls c.caller)))) (k, g) refl is)
  ask_leads w a i k g s (ask.ReadyOwn seen f) at is = absurd (own_leads w a i k g s seen f at is)
  ask_leads w a i k g s (ask.ReadyLead seen f) at is = absurd (leads_none w.stages a (Asking i s (ask.Lead seen f)) (k, g) refl is)
  ask_leads w a i k g s (ask.Lead seen f) at is = lead_leads w a i k g s (same_key (w.keys i) seen) is
  ask_leads w a i k g s (ask.ReadyJoin c seen) at is = absurd (leads_none w.stages a (Asking i s (ask.Link c seen)) (k, g) refl is)
  ask_leads w a i k g s (ask.Link c seen) at is = absurd (leads_none w.stages a (Asking i s (ask.Enter c seen)) (k, g) refl is)
  ask_leads w a i k g s (ask.Enter c seen) at is = absurd (enter_leads w a i k g s c seen (is_open_with seen (w.calls c.caller)) is)

  -- a peek that finds no leader's word comes again
  peeks_on : (w : World V) (a i n k g : ℕ) (own : Option CallId) (v : V) → unsettled ((with_stage w a (Settling i n own v settle.Peek)).stages a) ≡ Some (k, g) → Old w (with_stage w a (Settling i n own v settle.Peek)) a k g (Settling i n own v settle.Peek)
  peeks_on w a i n k g own v is =
      let p : Stage V = Settling i n own v settle.Peek in
      let stage : put w.stages a p a ≡ p = put_here w.stages a p in
      old_stage w (with_stage w a p) a k g p p (sym (ap unsettled stage) ∙ is) stage refl refl

  peek_leads : (w : World V) (a i n k g : ℕ) (own : Option CallId) (v : V) (u : CallState) → w.calls a ≡ u → unsettled ((with_stage w a (Settling i n own v (after_own_peek u))).stages a) ≡ Some (k, g)
      → Old w (with_stage w a (Settling i n own v (after_own_peek u))) a k g (Settling i n own v settle.Peek)
  peek_leads w a i n k g own v word.Free word is = peeks_on w a i n k g own v is
  peek_leads w a i n k g own v (word.Open s) word is =
      let p : Stage V = Settling i n own v (settle.Close s) in
      let stage : put w.stages a p a ≡ p = put_here w.stages a p in
      old_stage w (with_stage w a p) a k g (Settling i n own v settle.Peek) p (sym (ap unsettled stage) ∙ is) stage refl
      (ap (λ (x : CallState). fails_at g x p) word ∙ (ap (λ (b : Bool). cond {A = ℕ} ((n == g) && not b) 1 0) (open_self s) ∙ ap (λ (b : Bool). cond {A = ℕ} b 1 0) (and-false (n == g))))
  peek_leads w a i n k g own v (word.Forgot s) word is = absurd (leads_none w.stages a (Settling i n own v (settle.Clear s.top)) (k, g) refl is)
  peek_leads w a i n k g own v (word.Done s) word is = peeks_on w a i n k g own v is
  peek_leads w a i n k g own v (word.Listed m) word is = peeks_on w a i n k g own v is
  peek_leads w a i n k g own v (word.Full m) word is = peeks_on w a i n k g own v is

  close_leads : (w : World V) (a i n k g : ℕ) (own : Option CallId) (v : V) (seen : LeaderState) (b : Bool) → unsettled ((after_close w a i n own v seen b).stages a) ≡ Some (k, g) → Old w (after_close w a i n own v seen b) a k g (Settling i n own v (settle.Close seen))
  close_leads w a i n k g own v seen false is =
      let p : Stage V = Settling i n own v settle.Peek in
      let stage : put w.stages a p a ≡ p = put_here w.stages a p in
      old_stage w (with_stage w a p) a k g (Settling i n own v (settle.Close seen)) p (sym (ap unsettled stage) ∙ is) stage refl refl
  close_leads w a i n k g own v seen true is = absurd (leads_none w.stages a (at_count i n own v seen.top) (k, g) (count_unsettled i n own v seen.top) is)

  peeked_unsettled : (w : World V) (i n : ℕ) (own : Option CallId) (v : V) (joiners : ℕ) → unsettled (Settling i n own v (own_peeked w joiners own)) ≡ None
  peeked_unsettled w i n None v joiners = refl
  peeked_unsettled w i n (Some m) v joiners = refl

  counted_unsettled : (i n : ℕ) (own : Option CallId) (v : V) (j top : ℕ) (next : Option ℕ) → unsettled (Settling i n own v (after_count j top next)) ≡ None
  counted_unsettled i n own v j top None = refl
  counted_unsettled i n own v j top (Some m) = refl

  settle_leads : (w : World V) (a i n k g : ℕ) (own : Option CallId) (v : V) (step : SettleStep) → unsettled ((settle_stepped w a i n own v step).stages a) ≡ Some (k, g) → Old w (settle_stepped w a i n own v step) a k g (Settling i n own v step)
  settle_leads w a i n k g own v settle.Peek is = peek_leads w a i n k g own v (w.calls a) refl is
  settle_leads w a i n k g own v (settle.Close seen) is = close_leads w a i n k g own v seen (is_open_with seen (w.calls a)) is
  settle_leads w a i n k g own v (settle.Clear top) is = absurd (leads_none w.stages a (at_count i n own v top) (k, g) (count_unsettled i n own v top) (ap unsettled (clear_stage (same_key (w.keys i) (Names a n false))) ∙ is))
    where
      clear_stage : (b : Bool) → put w.stages a (at_count i n own v top) a ≡ (with_stage (cleared w i (call_of a n) b) a (at_count i n own v top)).stages a
      clear_stage true = refl
      clear_stage false = refl
  settle_leads w a i n k g own v (settle.Count j m top) is = absurd (leads_none w.stages a (Settling i n own v (after_count (one_more w.callers j) top (w.nexts m))) (k, g) (counted_unsettled i n own v (one_more w.callers j) top (w.nexts m)) is)
  settle_leads w a i n k g own v (settle.Follow joiners m) is = absurd (leads_none w.stages a (Settling i n own v (settle.PeekMember joiners m (w.nexts m))) (k, g) refl is)
  settle_leads w a i n k g own v (settle.PeekMember joiners m next) is = absurd (leads_none w.stages a (Settling i n own v (settle.Deliver joiners (call_of m (generation_in (w.calls m))) next)) (k, g) refl is)
  settle_leads w a i n k g own v (settle.Deliver joiners m next) is = absurd (leads_none w.stages a (at_members i n own v joiners next) (k, g) (members_unsettled i n own v joiners next) is)
  settle_leads w a i n k g own v (settle.PeekOwn joiners) is = absurd (leads_none w.stages a (Settling i n own v (own_peeked w joiners own)) (k, g) (peeked_unsettled w i n own v joiners) is)
  settle_leads w a i n k g own v (settle.DeliverOwn joiners m) is = absurd (leads_none w.stages a Free (k, g) refl is)

  key_looked_unsettled : (w : World V) (k : ℕ) (v : KeyState) → unsettled {V = V} (key_looked k v) ≡ None
  key_looked_unsettled w k Never = refl
  key_looked_unsettled w k (Names b g true) = refl
  key_looked_unsettled w k (Names b g false) = refl

  call_looked_unsettled : (w : World V) (k : ℕ) (c : CallId) (b : Bool) → unsettled {V = V} (call_looked k c b) ≡ None
  call_looked_unsettled w k c false = refl
  call_looked_unsettled w k c true = refl

  looked_unsettled : (w : World V) (k : ℕ) (target : Option CallId) (v : KeyState) → unsettled {V = V} (forget_looked k target v) ≡ None
  looked_unsettled w k None v = key_looked_unsettled w k v
  looked_unsettled w k (Some c) v = call_looked_unsettled w k c (same_key v (key_of c))

  missed_unsettled : (w : World V) (k : ℕ) (target : Option CallId) (c : CallId) (o : Option LeaderState) (b : Bool) → unsettled {V = V} (peek_missed k target c o b) ≡ None
  missed_unsettled w k target c o false = refl
  missed_unsettled w k target c o true = refl

  forgot_leads : (w : World V) (a i k g : ℕ) (target : Option CallId) (c : CallId) (seen : LeaderState) (b : Bool) → unsettled ((forgot w a i target c seen b).stages a) ≡ Some (k, g) → ⊥
  forgot_leads w a i k g target c seen false is = leads_none w.stages a (Forgetting i target (forget.Look true)) (k, g) refl is
  forgot_leads w a i k g target c seen true is = leads_none w.stages a (Forgetting i target (forget.LastClear c)) (k, g) refl is

  first_leads : (w : World V) (a i k g : ℕ) (target : Option CallId) (c : CallId) (b : Bool) → unsettled ((forget_cleared w a i target c b).stages a) ≡ Some (k, g) → ⊥
  first_leads w a i k g target c false is = leads_none w.stages a (Forgetting i target (forget.Look true)) (k, g) refl is
  first_leads w a i k g target c true is = leads_none w.stages a Free (k, g) refl is

  last_leads : (w : World V) (a i k g : ℕ) (c : CallId) (b : Bool) → unsettled ((with_stage (cleared w i c b) a Free).stages a) ≡ Some (k, g) → ⊥
  last_leads w a i k g c false is = leads_none w.stages a Free (k, g) refl is
  last_leads w a i k g c true is = leads_none w.stages a Free (k, g) refl is

  forget_leads : (w : World V) (a i k g : ℕ) (target : Option CallId) (step : ForgetStep) → unsettled ((forget_stepped w a i target step).stages a) ≡ Some (k, g) → ⊥
  forget_leads w a i k g target (forget.Look failed) is = leads_none w.stages a (forget_looked i target (w.keys i)) (k, g) (looked_unsettled w i target (w.keys i)) is
  forget_leads w a i k g target (forget.Peek c) is = leads_none w.stages a (peek_missed i target c (open_in c.generation (w.calls c.caller)) (misses target (is_forgot_in c.generation (w.calls c.caller)))) (k, g) (missed_unsettled w i target c (open_in c.generation (w.calls c.caller)) (misses target (is_forgot_in c.generation (w.calls c.caller)))) is
  forget_leads w a i k g target (forget.Close c seen) is = forgot_leads w a i k g target c seen (is_open_with seen (w.calls c.caller)) is
  forget_leads w a i k g target (forget.FirstClear c) is = first_leads w a i k g target c (same_key (w.keys i) (key_of c)) is
  forget_leads w a i k g target (forget.LastClear c) is = last_leads w a i k g c (same_key (w.keys i) (key_of c)) is

  poll_leads : (w : World V) (a i n k g : ℕ) (c : CallId) (b : Bool) → unsettled ((polled w a i n c b).stages a) ≡ Some (k, g) → ⊥
  poll_leads w a i n k g c false is = leads_none w.stages a (Holding i n c) (k, g) refl is
  poll_leads w a i n k g c true is = leads_none w.stages a Free (k, g) refl is

  current_unsettled : (w : World V) (k : ℕ) (c : CallId) (b : Bool) → unsettled {V = V} (current_peeked k c b) ≡ None
  current_unsettled w k c false = refl
  current_unsettled w k c true = refl

  current_leads : (w : World V) (a i k g : ℕ) (c : CallId) (step : CurrentStep) → unsettled ((current_stepped w a i c step).stages a) ≡ Some (k, g) → ⊥
  current_leads w a i k g c current.Peek is = leads_none w.stages a (current_peeked i c (is_forgot_in c.generation (w.calls c.caller))) (k, g) (current_unsettled w i c (is_forgot_in c.generation (w.calls c.caller))) is
  current_leads w a i k g c current.Look is = leads_none w.stages a Free (k, g) refl is

  at_rest : (w : World V) (a k g : ℕ) (p : Stage V) → w.stages a ≡ p → unsettled p ≡ None → unsettled (w.stages a) ≡ Some (k, g) → ⊥
  at_rest w a k g p at none is = let clash : ◌≡◌ {A = Option (ℕ × ℕ)} None (Some (k, g)) = sym none ∙ (sym (ap unsettled at) ∙ is) in cc

  step_leads : (w : World V) (a k g : ℕ) (p : Stage V) → w.stages a ≡ p → unsettled ((stepped w a p).stages a) ≡ Some (k, g) → New w (stepped w a p) a g ⊎ Old w (stepped w a p) a k g p
  step_leads w a k g Free at is = absurd (at_rest w a k g Free at refl is)
  step_leads w a k g (Leading i n own) at is = inr (old_stage w w a k g (Leading i n own) (Leading i n own) (sym (ap unsettled at) ∙ is) at refl refl)
  step_leads w a k g (Holding i n c) at is = absurd (at_rest w a k g (Holding i n c) at refl is)
  step_leads w a k g (Polling i n c) at is = absurd (poll_leads w a i n k g c (is_full (w.calls a)) is)
  step_leads w a k g (Seconding one) at is = absurd (at_rest w a k g (Seconding one) at refl is)
  step_leads w a k g (Asking i s step) at is = inl (ask_leads w a i k g s step at is)
  step_leads w a k g (Settling i n own v step) at is = inr (settle_leads w a i n k g own v step is)
  step_leads w a k g (Forgetting i target step) at is = absurd (forget_leads w a i k g target step is)
  step_leads w a k g (Naming i) at is = absurd (leads_none w.stages a Free (k, g) refl is)
  step_leads w a k g (Questioning i c step) at is = absurd (current_leads w a i k g c step is)

  -- the turn is the caller's
  abbrev pub IsBy : ℕ → Turn V → Type 0
  IsBy a (turn.Start b o) = b ≡ a
  IsBy a (turn.Step b) = b ≡ a
  IsBy a (turn.Leave b) = b ≡ a

  -- what a turn makes of a caller that leads an unsettled call after it
  abbrev pub IsLed : World V → Turn V → ℕ → ℕ → ℕ → Type 0
  IsLed w t a k g = New w (turned w t) a g ⊎ ((unsettled (w.stages a) ≡ Some (k, g)) × ((turned w t).calls a ≡ w.calls a) × (fails w a g t + fails_at g ((turned w t).calls a) ((turned w t).stages a) ≤ fails_at g (w.calls a) (w.stages a)))

  -- its own step
  own_step : (w : World V) (a k g : ℕ) → unsettled ((turned w (turn.Step a)).stages a) ≡ Some (k, g) → IsLed w (turn.Step a) a k g
  own_step w a k g is = elim (step_leads w a k g (w.stages a) refl is) [
    | inl new ↦ inl new
    | inr old ↦
        let here : fails w a g (turn.Step a) ≡ fails_at g (w.calls a) (w.stages a) = ap (λ (b : Bool). cond {A = ℕ} b (fails_at g (w.calls a) (w.stages a)) 0) (eq-eqb a a refl) in
        let less : fails_at g (w.calls a) (w.stages a) + fails_at g ((stepped w a (w.stages a)).calls a) ((stepped w a (w.stages a)).stages a) ≤ fails_at g (w.calls a) (w.stages a) = old.2 in
        inr (old.0, old.1, omega (arith, here, less))
  ]

  -- a turn that leaves its stage and its word
  unchanged : (w u : World V) (a k g : ℕ) → u.stages a ≡ w.stages a → u.calls a ≡ w.calls a → unsettled (u.stages a) ≡ Some (k, g)
      → (unsettled (w.stages a) ≡ Some (k, g)) × (u.calls a ≡ w.calls a) × (0 + fails_at g (u.calls a) (u.stages a) ≤ fails_at g (w.calls a) (w.stages a))
  unchanged w u a k g stage same is =
      let fails_same : fails_at g (u.calls a) (u.stages a) ≡ fails_at g (w.calls a) (w.stages a) = ap (λ (q : Stage V). fails_at g (u.calls a) q) stage ∙ ap (λ (x : CallState). fails_at g x (w.stages a)) same in
      (sym (ap unsettled stage) ∙ is, same, omega (arith, fails_same))

  abbrev Starts : World V → World V → ℕ → ℕ → ℕ → Type 0
  Starts w u a k g = (unsettled (w.stages a) ≡ Some (k, g)) × (u.calls a ≡ w.calls a) × (0 + fails_at g (u.calls a) (u.stages a) ≤ fails_at g (w.calls a) (w.stages a))

  settle_starts : (w : World V) (a i n k g : ℕ) (own : Option CallId) (v : V) → w.stages a ≡ Leading i n own → unsettled ((with_stage w a (Settling i n own v settle.Peek)).stages a) ≡ Some (k, g) → Starts w (with_stage w a (Settling i n own v settle.Peek)) a k g
  settle_starts w a i n k g own v at is =
      let p : Stage V = Settling i n own v settle.Peek in
      let stage : put w.stages a p a ≡ p = put_here w.stages a p in
      let none : fails_at g (w.calls a) (put w.stages a p a) ≡ 0 = ap (λ (q : Stage V). fails_at g (w.calls a) q) stage in
      (ap unsettled at ∙ (sym (ap unsettled stage) ∙ is), refl, omega (arith, none))

  start_either : (w : World V) (a k g : ℕ) (s : Stage V) (b : Bool) → unsettled s ≡ None → unsettled ((cond b w (with_stage w a s)).stages a) ≡ Some (k, g) → Starts w (cond b w (with_stage w a s)) a k g
  start_either w a k g s true none is = unchanged w w a k g refl refl is
  start_either w a k g s false none is = absurd (leads_none w.stages a s (k, g) none is)

  chan_first : (w : World V) (a b i k g : ℕ) (q : Stage V) → unsettled ((chan_started w a b i q).stages a) ≡ Some (k, g) → Starts w (chan_started w a b i q) a k g
  chan_first w a b i k g Free is = at ((b == a) || is_spent w b) is
    where
      at : (t : Bool) → unsettled ((cond t w (with_stage (with_stage w b (Seconding a)) a (Asking i (Some b) (ask.Look false)))).stages a) ≡ Some (k, g) → Starts w (cond t w (with_stage (with_stage w b (Seconding a)) a (Asking i (Some b) (ask.Look false)))) a k g
      at true is = unchanged w w a k g refl refl is
      at false is = absurd (leads_none (put w.stages b (Seconding a)) a (Asking i (Some b) (ask.Look false)) (k, g) refl is)
  chan_first w a b i k g _ is = unchanged w w a k g refl refl is

  chan_either : (w : World V) (a b i k g : ℕ) (t : Bool) → unsettled ((cond t w (chan_started w a b i (w.stages b))).stages a) ≡ Some (k, g) → Starts w (cond t w (chan_started w a b i (w.stages b))) a k g
  chan_either w a b i k g true is = unchanged w w a k g refl refl is
  chan_either w a b i k g false is = chan_first w a b i k g (w.stages b) is

  own_start : (w : World V) (a k g : ℕ) (o : Op V) (p : Stage V) → w.stages a ≡ p → unsettled ((started w a o p).stages a) ≡ Some (k, g) → Starts w (started w a o p) a k g
  own_start w a k g (op.Ask i) Free at is = start_either w a k g (Asking i None (ask.Look false)) (is_spent w a) refl is
  own_start w a k g (op.Ask i) _ at is = unchanged w w a k g refl refl is
  own_start w a k g (op.Chan b i) Free at is = chan_either w a b i k g (is_spent w a) is
  own_start w a k g (op.Chan b i) _ at is = unchanged w w a k g refl refl is
  own_start w a k g (op.Settle v) (Leading i n own) at is = settle_starts w a i n k g own v at is
  own_start w a k g (op.Settle v) _ at is = unchanged w w a k g refl refl is
  own_start w a k g (op.Forget i) Free at is = absurd (leads_none w.stages a (Forgetting i None (forget.Look false)) (k, g) refl is)
  own_start w a k g (op.ForgetCall i d) Free at is = absurd (leads_none w.stages a (Forgetting i (Some d) (forget.Look false)) (k, g) refl is)
  own_start w a k g (op.Named i) Free at is = absurd (leads_none w.stages a (Naming i) (k, g) refl is)
  own_start w a k g (op.Forget i) _ at is = unchanged w w a k g refl refl is
  own_start w a k g (op.ForgetCall i d) _ at is = unchanged w w a k g refl refl is
  own_start w a k g (op.Named i) _ at is = unchanged w w a k g refl refl is
  own_start w a k g op.Poll (Holding i n c) at is = absurd (leads_none w.stages a (Polling i n c) (k, g) refl is)
  own_start w a k g op.Poll _ at is = unchanged w w a k g refl refl is
  own_start w a k g (op.Current i c) Free at is = absurd (leads_none w.stages a (Questioning i c current.Peek) (k, g) refl is)
  own_start w a k g (op.Current i c) _ at is = unchanged w w a k g refl refl is

  freed_leads : (w : World V) (a k g : ℕ) (s : Option ℕ) → unsettled ((freed w a s).stages a) ≡ Some (k, g) → ⊥
  freed_leads w a k g None is = leads_none w.stages a Free (k, g) refl is
  freed_leads w a k g (Some b) is = leads_none (put w.stages b Free) a Free (k, g) refl is

  own_leave : (w : World V) (a k g : ℕ) (p : Stage V) → w.stages a ≡ p → unsettled ((left w a p).stages a) ≡ Some (k, g) → Starts w (left w a p) a k g
  own_leave w a k g (Asking i s (ask.Look true)) at is = absurd (freed_leads w a k g s is)
  own_leave w a k g (Forgetting i target (forget.Look true)) at is = absurd (leads_none w.stages a Free (k, g) refl is)
  own_leave w a k g _ at is = unchanged w w a k g refl refl is

  -- its own turn
  pub own_turn : (w : World V) (a k g : ℕ) (t : Turn V) → IsBy a t → unsettled ((turned w t).stages a) ≡ Some (k, g) → IsLed w t a k g
  own_turn w a k g (turn.Start b o) by is = inr (subst (λ (n : ℕ). unsettled ((started w n o (w.stages n)).stages a) ≡ Some (k, g) → Starts w (started w n o (w.stages n)) a k g) (sym by) (own_start w a k g o (w.stages a) refl) is)
  own_turn w a k g (turn.Step b) by is = subst (λ (n : ℕ). unsettled ((turned w (turn.Step n)).stages a) ≡ Some (k, g) → IsLed w (turn.Step n) a k g) (sym by) (own_step w a k g) is
  own_turn w a k g (turn.Leave b) by is = inr (subst (λ (n : ℕ). unsettled ((left w n (w.stages n)).stages a) ≡ Some (k, g) → Starts w (left w n (w.stages n)) a k g) (sym by) (own_leave w a k g (w.stages a) refl) is)
