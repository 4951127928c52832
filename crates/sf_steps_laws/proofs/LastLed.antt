-- the key word of a place names the call that was led last on it, cleared or not
use Rattle.std.proofs.Common.{◌≡◌, ℕ, Bool, true, false, List, [], ◌∷◌, ◌++◌, Option, Some, None, refl, sym, ◌∙◌, ap, subst, append_assoc, eq-eqb}
use Rattle.std.proofs.lemmas.Bool.{cond-true, cond-false, ne_eqb}
use Rattle.std.proofs.lemmas.List.{append-nil}
use Rattle.std.proofs.lemmas.List.Sums.{fold-append}
use Rattle.std.specs.Prelude.{nat_eq, cond, fold}
use Rattle.sf_history.specs.declared.call.CallId.{CallId}
use Rattle.sf_history.specs.declared.event.Event.{Event}
use Rattle.sf_history.specs.declared.event.Event.TheVariants.{Lead, Enter, Forget, ForgetCall, Settle, Handed}
use Rattle.sf_history.specs.declared.event.Hit.TheVariants.{Missed}
use Rattle.sf_history.specs.History.{leads_last, last_led}
use Rattle.sf_history.proofs.LegalHistories.{fold_push}
use Rattle.sf_words.specs.declared.key_word.KeyState.{KeyState}
use Rattle.sf_words.specs.declared.key_word.KeyState.TheVariants.{Never, Names}
use Rattle.sf_words.specs.declared.call_word.LeaderState.{LeaderState}
use Rattle.sf_words.specs.declared.call_word.CallState.{CallState}
use Rattle.sf_words.specs.declared.call_word.CallState.TheVariants as word
use Rattle.sf_steps_laws.specs.declared.operation.Stage.{Stage}
use Rattle.sf_steps_laws.specs.declared.operation.Stage.TheVariants.{Free, Leading, Holding, Polling, Seconding, Asking, Settling, Forgetting, Naming, Questioning}
use Rattle.sf_steps_laws.specs.declared.operation.AskStep.{AskStep}
use Rattle.sf_steps_laws.specs.declared.operation.AskStep.TheVariants as ask
use Rattle.sf_steps_laws.specs.declared.operation.SettleStep.{SettleStep}
use Rattle.sf_steps_laws.specs.declared.operation.SettleStep.TheVariants as settle
use Rattle.sf_steps_laws.specs.declared.operation.ForgetStep.{ForgetStep}
use Rattle.sf_steps_laws.specs.declared.operation.ForgetStep.TheVariants as forget
use Rattle.sf_steps_laws.specs.declared.operation.CurrentStep.{CurrentStep}
use Rattle.sf_steps_laws.specs.declared.operation.CurrentStep.TheVariants as current
use Rattle.sf_steps_laws.specs.declared.turn.Turn.{Turn}
use Rattle.sf_steps_laws.specs.declared.turn.Turn.TheVariants as turn
use Rattle.sf_steps_laws.specs.World.{World, first_world, next_id, key_of, cleared_key_of, same_key, is_open_with, is_forgot_in, is_full, count}
use Rattle.sf_lists.specs.Functions.{put}
use Rattle.sf_steps_laws.specs.Askings.{joiner, ready_own, after_lead, after_enter, ask_stepped}
use Rattle.sf_steps_laws.specs.Turns.{misses, after_close, cleared, settle_stepped, forgot, forget_cleared, forget_stepped, polled, current_stepped, stepped, started, left, turned, run}
use Rattle.sf_steps_laws.specs.Events.{handed, settled, lead_events, enter_events, ask_events, peek_events, close_events, settle_events, closes, clears, key_look_events, missed_unless, look_events, forget_one, forget_events, step_events, turn_events, adds, events_of, world_after, named_by}
use Rattle.sf_steps_laws.specs.Naming.{IsNamed, NamesAreRight}
use Rattle.sf_lists.proofs.Functions.{put_cases}
use Rattle.sf_steps_laws.proofs.Compared.{same_key_is}
use Rattle.sf_steps_laws.proofs.Sound.{call_of, GoodKey}
use Rattle.sf_steps_laws.proofs.RightAnswers.{start_keys, leave_keys, always}

-- the key word names this call, cleared or not; one that names none goes with none
abbrev NamesLast : Option CallId → KeyState → Type 0
NamesLast o Never = o ≡ None
NamesLast o (Names b g cleared) = o ≡ Some (call_of b g)

module _ {V : Type 0} where
  -- the call that was led last on the place
  abbrev last : List (Event ℕ V) → ℕ → Option CallId
  last h k = last_led nat_eq h k

  -- events that are no Leads
  abbrev NoLead : Event ℕ V → Type 0
  NoLead (Lead by key call own) = ⊥
  NoLead (Enter by key call member) = Unit {0}
  NoLead (Forget by key closed) = Unit {0}
  NoLead (ForgetCall by key call hit) = Unit {0}
  NoLead (Settle by call result joiners) = Unit {0}
  NoLead (Handed by call) = Unit {0}

  abbrev NoLeads : List (Event ℕ V) → Type 0
  NoLeads [] = Unit {0}
  NoLeads (e ∷ es) = NoLead e × NoLeads es

  last_one : (k : ℕ) (o : Option CallId) (e : Event ℕ V) → NoLead e → leads_last nat_eq k o e ≡ o
  last_one k o (Lead by key call own) none = absurd none
  last_one k o (Enter by key call member) none = refl
  last_one k o (Forget by key closed) none = refl
  last_one k o (ForgetCall by key call hit) none = refl
  last_one k o (Settle by call result joiners) none = refl
  last_one k o (Handed by call) none = refl

  last_none : (k : ℕ) (es : List (Event ℕ V)) (o : Option CallId) → NoLeads es → fold (leads_last nat_eq k) o es ≡ o
  last_none k [] o none = refl
  last_none k (e ∷ es) o none = ap (λ (x : Option CallId). fold (leads_last nat_eq k) x es) (last_one k o e none.0) ∙ last_none k es o none.1

  -- they leave the call that was led last
  last_same : (h es : List (Event ℕ V)) (k : ℕ) → NoLeads es → last (h ++ es) k ≡ last h k
  last_same h es k none = fold-append (leads_last nat_eq k) None h es ∙ last_none k es (last h k) none

  handed_none : (w : World V) (a : ℕ) (c : CallId) (own : Option CallId) (top : Option ℕ) → NoLeads (handed a c own top)
  handed_none w a c None None = (tt, tt)
  handed_none w a c None (Some m) = tt
  handed_none w a c (Some o) None = tt
  handed_none w a c (Some o) (Some m) = tt

  settled_none : (w : World V) (a : ℕ) (c : CallId) (own : Option CallId) (v : V) (joiners : ℕ) (top : Option ℕ) → NoLeads (settled a c own v joiners top)
  settled_none w a c own v joiners top = (tt, handed_none w a c own top)

  enter_none : (w : World V) (k : ℕ) (c : CallId) (j : ℕ) (b : Bool) → NoLeads (enter_events w k c j b)
  enter_none w k c j false = tt
  enter_none w k c j true = (tt, tt)

  peek_none : (w : World V) (a : ℕ) (c : CallId) (own : Option CallId) (v : V) (x : CallState) → NoLeads (peek_events w a c own v x)
  peek_none w a c own v word.Free = tt
  peek_none w a c own v (word.Open s) = tt
  peek_none w a c own v (word.Forgot s) = settled_none w a c own v (count s.top w.callers w.nexts) s.top
  peek_none w a c own v (word.Done s) = tt
  peek_none w a c own v (word.Listed g) = tt
  peek_none w a c own v (word.Full g) = tt

  close_none : (w : World V) (a : ℕ) (c : CallId) (own : Option CallId) (v : V) (seen : LeaderState) (b : Bool) → NoLeads (close_events w a c own v seen b)
  close_none w a c own v seen false = tt
  close_none w a c own v seen true = settled_none w a c own v (count seen.top w.callers w.nexts) seen.top

  settle_none : (w : World V) (a : ℕ) (c : CallId) (own : Option CallId) (v : V) (step : SettleStep) → NoLeads (settle_events w a c own v step)
  settle_none w a c own v settle.Peek = peek_none w a c own v (w.calls a)
  settle_none w a c own v (settle.Close seen) = close_none w a c own v seen (is_open_with seen (w.calls a))
  settle_none w a c own v (settle.Clear top) = tt
  settle_none w a c own v (settle.Count n m top) = tt
  settle_none w a c own v (settle.Follow joiners m) = tt
  settle_none w a c own v (settle.PeekMember joiners m next) = tt
  settle_none w a c own v (settle.Deliver joiners m next) = handed_none w a c own next
  settle_none w a c own v (settle.PeekOwn joiners) = tt
  settle_none w a c own v (settle.DeliverOwn joiners m) = (tt, tt)

  closes_none : (w : World V) (a k : ℕ) (target : Option CallId) (c : CallId) → NoLead (closes a k target c)
  closes_none w a k None c = tt
  closes_none w a k (Some d) c = tt

  clears_none : (w : World V) (a k : ℕ) (target : Option CallId) (c : CallId) → NoLead (clears a k target c)
  clears_none w a k None c = tt
  clears_none w a k (Some d) c = tt

  one_none : (e : Event ℕ V) (b : Bool) → NoLead e → NoLeads (forget_one e b)
  one_none e false none = tt
  one_none e true none = (none, tt)

  key_look_none : (w : World V) (a k : ℕ) (v : KeyState) → NoLeads (key_look_events a k v)
  key_look_none w a k Never = (tt, tt)
  key_look_none w a k (Names b g true) = (tt, tt)
  key_look_none w a k (Names b g false) = tt

  missed_none : (w : World V) (a k : ℕ) (c : CallId) (b : Bool) → NoLeads (missed_unless a k c b)
  missed_none w a k c false = (tt, tt)
  missed_none w a k c true = tt

  look_none : (w : World V) (a k : ℕ) (target : Option CallId) (v : KeyState) → NoLeads (look_events a k target v)
  look_none w a k None v = key_look_none w a k v
  look_none w a k (Some c) v = missed_none w a k c (same_key v (key_of c))

  forget_none : (w : World V) (a k : ℕ) (target : Option CallId) (step : ForgetStep) → NoLeads (forget_events w a k target step)
  forget_none w a k target (forget.Look failed) = look_none w a k target (w.keys k)
  forget_none w a k target (forget.Peek c) = one_none (ForgetCall a k c Missed) (misses target (is_forgot_in c.generation (w.calls c.caller))) tt
  forget_none w a k target (forget.Close c seen) = one_none (closes a k target c) (is_open_with seen (w.calls c.caller)) (closes_none w a k target c)
  forget_none w a k target (forget.FirstClear c) = one_none (clears a k target c) (same_key (w.keys k) (key_of c)) (clears_none w a k target c)
  forget_none w a k target (forget.LastClear c) = tt

  -- what key words name stays
  abbrev Keeps : World V → World V → Type 0
  Keeps w u = (k : ℕ) (o : Option CallId) → NamesLast o (w.keys k) → NamesLast o (u.keys k)

  clears_keeps : (w : World V) (i : ℕ) (d : CallId) → same_key (w.keys i) (key_of d) ≡ true → (k : ℕ) (o : Option CallId) → NamesLast o (w.keys k) → NamesLast o (put w.keys i (cleared_key_of d) k)
  clears_keeps w i d same k o names = put_cases (λ (u : KeyState). NamesLast o u) w.keys i (cleared_key_of d) k
      (λ here. subst (λ (u : KeyState). NamesLast o u) (ap w.keys here ∙ same_key_is (w.keys i) (key_of d) same) names) (λ other. names)

  cleared_keeps : (w : World V) (i : ℕ) (d : CallId) (b : Bool) → same_key (w.keys i) (key_of d) ≡ b → Keeps w (cleared w i d b)
  cleared_keeps w i d false same k o names = names
  cleared_keeps w i d true same k o names = clears_keeps w i d same k o names

  close_keeps : (w : World V) (a i g : ℕ) (own : Option CallId) (v : V) (seen : LeaderState) (b : Bool) → Keeps w (after_close w a i g own v seen b)
  close_keeps w a i g own v seen false k o names = names
  close_keeps w a i g own v seen true k o names = names

  settle_keeps : (w : World V) (a i g : ℕ) (own : Option CallId) (v : V) (step : SettleStep) → Keeps w (settle_stepped w a i g own v step)
  settle_keeps w a i g own v settle.Peek k o names = names
  settle_keeps w a i g own v (settle.Close seen) k o names = close_keeps w a i g own v seen (is_open_with seen (w.calls a)) k o names
  settle_keeps w a i g own v (settle.Clear top) k o names = cleared_keeps w i (call_of a g) (same_key (w.keys i) (Names a g false)) refl k o names
  settle_keeps w a i g own v (settle.Count n m top) k o names = names
  settle_keeps w a i g own v (settle.Follow joiners m) k o names = names
  settle_keeps w a i g own v (settle.PeekMember joiners m next) k o names = names
  settle_keeps w a i g own v (settle.Deliver joiners m next) k o names = names
  settle_keeps w a i g own v (settle.PeekOwn joiners) k o names = names
  settle_keeps w a i g own v (settle.DeliverOwn joiners m) k o names = names

  forgot_keeps : (w : World V) (a i : ℕ) (target : Option CallId) (d : CallId) (seen : LeaderState) (b : Bool) → Keeps w (forgot w a i target d seen b)
  forgot_keeps w a i target d seen false k o names = names
  forgot_keeps w a i target d seen true k o names = names

  first_keeps : (w : World V) (a i : ℕ) (target : Option CallId) (d : CallId) (b : Bool) → same_key (w.keys i) (key_of d) ≡ b → Keeps w (forget_cleared w a i target d b)
  first_keeps w a i target d false same k o names = names
  first_keeps w a i target d true same k o names = clears_keeps w i d same k o names

  forget_keeps : (w : World V) (a i : ℕ) (target : Option CallId) (step : ForgetStep) → Keeps w (forget_stepped w a i target step)
  forget_keeps w a i target (forget.Look failed) k o names = names
  forget_keeps w a i target (forget.Peek d) k o names = names
  forget_keeps w a i target (forget.Close d seen) k o names = forgot_keeps w a i target d seen (is_open_with seen (w.calls d.caller)) k o names
  forget_keeps w a i target (forget.FirstClear d) k o names = first_keeps w a i target d (same_key (w.keys i) (key_of d)) refl k o names
  forget_keeps w a i target (forget.LastClear d) k o names = cleared_keeps w i d (same_key (w.keys i) (key_of d)) refl k o names

  poll_keeps : (w : World V) (a i g : ℕ) (d : CallId) (b : Bool) → Keeps w (polled w a i g d b)
  poll_keeps w a i g d false k o names = names
  poll_keeps w a i g d true k o names = names

  current_keeps : (w : World V) (a i : ℕ) (d : CallId) (step : CurrentStep) → Keeps w (current_stepped w a i d step)
  current_keeps w a i d current.Peek k o names = names
  current_keeps w a i d current.Look k o names = names

  own_keeps : (w : World V) (a i : ℕ) (s : Option ℕ) (seen : KeyState) (f : Bool) → Keeps w (ready_own w a i s seen f)
  own_keeps w a i None seen f k o names = names
  own_keeps w a i (Some b) seen f k o names = names

  enter_keeps : (w : World V) (a i : ℕ) (s : Option ℕ) (d : CallId) (seen : LeaderState) (b : Bool) → Keeps w (after_enter w a i s d seen b)
  enter_keeps w a i s d seen false k o names = names
  enter_keeps w a i s d seen true k o names = names

  -- each key word names the call that was led last on its place
  abbrev LastNamed : List (Event ℕ V) → World V → Type 0
  LastNamed h w = (k : ℕ) → NamesLast (last h k) (w.keys k)

  after_none : (h es : List (Event ℕ V)) (w u : World V) → NoLeads es → Keeps w u → LastNamed h w → LastNamed (h ++ es) u
  after_none h es w u none keeps names k = subst (λ (o : Option CallId). NamesLast o (u.keys k)) (sym (last_same h es k none)) (keeps k (last h k) (names k))

  led_names : (h : List (Event ℕ V)) (w : World V) (a i : ℕ) (own : Option CallId) → LastNamed h w → (k : ℕ) → NamesLast (last (h ++ Lead a i (next_id w a) own ∷ []) k) (put w.keys i (key_of (next_id w a)) k)
  led_names h w a i own names k =
      let h' : List (Event ℕ V) = h ++ Lead a i (next_id w a) own ∷ [] in
      let more : last h' k ≡ cond (nat_eq i k) (Some (next_id w a)) (last h k) = fold_push (leads_last nat_eq k) None h (Lead a i (next_id w a) own) in
      put_cases (λ (u : KeyState). NamesLast (last h' k) u) w.keys i (key_of (next_id w a)) k
      (λ here. more ∙ cond-true _ _ _ (eq-eqb i k (sym here)))
      (λ other. subst (λ (o : Option CallId). NamesLast o (w.keys k)) (sym (more ∙ cond-false _ _ _ (ne_eqb i k (λ (x : i ≡ k). other (sym x))))) (names k))

  lead_names : (h : List (Event ℕ V)) (w : World V) (a i : ℕ) (s : Option ℕ) (b : Bool) → LastNamed h w → LastNamed (h ++ lead_events w a i s b) (after_lead w a i s b)
  lead_names h w a i s false names = after_none h [] w (after_lead w a i s false) tt (λ k o is. is) names
  lead_names h w a i None true names = led_names h w a i None names
  lead_names h w a i (Some b) true names = led_names h w a i (Some (next_id w b)) names

  ask_names : (h : List (Event ℕ V)) (w : World V) (a i : ℕ) (s : Option ℕ) (step : AskStep) → LastNamed h w → LastNamed (h ++ ask_events w a i s step) (ask_stepped w a i s step)
  ask_names h w a i s (ask.Look failed) names = after_none h [] w (ask_stepped w a i s (ask.Look failed)) tt (λ k o is. is) names
  ask_names h w a i s (ask.Peek d) names = after_none h [] w (ask_stepped w a i s (ask.Peek d)) tt (λ k o is. is) names
  ask_names h w a i s (ask.ReadyOwn seen f) names = after_none h [] w (ready_own w a i s seen f) tt (own_keeps w a i s seen f) names
  ask_names h w a i s (ask.ReadyLead seen f) names = after_none h [] w (ask_stepped w a i s (ask.ReadyLead seen f)) tt (λ k o is. is) names
  ask_names h w a i s (ask.Lead seen f) names = lead_names h w a i s (same_key (w.keys i) seen) names
  ask_names h w a i s (ask.ReadyJoin d seen) names = after_none h [] w (ask_stepped w a i s (ask.ReadyJoin d seen)) tt (λ k o is. is) names
  ask_names h w a i s (ask.Link d seen) names = after_none h [] w (ask_stepped w a i s (ask.Link d seen)) tt (λ k o is. is) names
  ask_names h w a i s (ask.Enter d seen) names =
      let entered : Bool = is_open_with seen (w.calls d.caller) in
      after_none h (enter_events w i d (joiner a s) entered) w (after_enter w a i s d seen entered) (enter_none w i d (joiner a s) entered) (enter_keeps w a i s d seen entered) names

  step_names : (h : List (Event ℕ V)) (w : World V) (a : ℕ) (p : Stage V) → LastNamed h w → LastNamed (h ++ step_events w a p) (stepped w a p)
  step_names h w a Free names = after_none h [] w w tt (λ k o is. is) names
  step_names h w a (Leading i g own) names = after_none h [] w w tt (λ k o is. is) names
  step_names h w a (Holding i g d) names = after_none h [] w w tt (λ k o is. is) names
  step_names h w a (Polling i g d) names = after_none h [] w (stepped w a (Polling i g d)) tt (poll_keeps w a i g d (is_full (w.calls a))) names
  step_names h w a (Seconding one) names = after_none h [] w w tt (λ k o is. is) names
  step_names h w a (Asking i s step) names = ask_names h w a i s step names
  step_names h w a (Settling i g own v step) names = after_none h (settle_events w a (call_of a g) own v step) w (settle_stepped w a i g own v step) (settle_none w a (call_of a g) own v step) (settle_keeps w a i g own v step) names
  step_names h w a (Forgetting i target step) names = after_none h (forget_events w a i target step) w (forget_stepped w a i target step) (forget_none w a i target step) (forget_keeps w a i target step) names
  step_names h w a (Naming i) names = after_none h [] w (stepped w a (Naming i)) tt (λ k o is. is) names
  step_names h w a (Questioning i d step) names = after_none h [] w (current_stepped w a i d step) tt (current_keeps w a i d step) names

  turn_names : (h : List (Event ℕ V)) (w : World V) (t : Turn V) → LastNamed h w → LastNamed (h ++ turn_events w t) (turned w t)
  turn_names h w (turn.Start a op) names = after_none h [] w (started w a op (w.stages a)) tt (λ k o is. subst (λ (u : KeyState). NamesLast o u) (sym (start_keys w a k op (w.stages a))) is) names
  turn_names h w (turn.Step a) names = step_names h w a (w.stages a) names
  turn_names h w (turn.Leave a) names = after_none h [] w (left w a (w.stages a)) tt (λ k o is. subst (λ (u : KeyState). NamesLast o u) (sym (leave_keys w a k (w.stages a))) is) names

  run_names : (ts : List (Turn V)) (h : List (Event ℕ V)) (w : World V) → LastNamed h w → LastNamed (h ++ adds w ts) (run w ts)
  run_names [] h w names = subst (λ (q : List (Event ℕ V)). LastNamed q w) (sym (append-nil h)) names
  run_names (t ∷ ts) h w names = subst (λ (q : List (Event ℕ V)). LastNamed q (run (turned w t) ts)) (append_assoc h (turn_events w t) (adds (turned w t) ts)) (run_names ts (h ++ turn_events w t) (turned w t) (turn_names h w t names))

  is_named : (h : List (Event ℕ V)) (w : World V) (k : ℕ) (v : KeyState) → GoodKey h w k v → NamesLast (last h k) v → IsNamed h k (named_by v)
  is_named h w k Never good names = good
  is_named h w k (Names b g true) good names = good
  is_named h w k (Names b g false) good names = names

  pub names_are_right : NamesAreRight V
  names_are_right z s is k =
      let w : World V = world_after z.callers z.first s in
      is_named (events_of z.callers z.first s) w k (w.keys k) ((always z s is).keys k) (run_names s [] (first_world z.callers z.first) (λ i. refl) k)
