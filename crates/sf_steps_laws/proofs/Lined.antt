-- turns that do not concern a leader leave its list, and whoever waits on it
use Rattle.std.proofs.Common.{◌≡◌, ◌≢◌, ◌≤◌, ◌+◌, ℕ, Bool, true, false, List, [], ◌∷◌, ◌++◌, length, ◌⊎◌, inl, inr, Option, Some, None, refl, sym, ◌∙◌, ap, subst, append_assoc}
use Rattle.std.proofs.lemmas.List.{append-nil}
use Rattle.std.proofs.lemmas.Bool.{cases_eq}
use Rattle.std.specs.Prelude.{cond}
use Rattle.sf_history.specs.declared.call.CallId.{CallId}
use Rattle.sf_history.specs.declared.event.Event.{Event}
use Rattle.sf_words.specs.declared.call_word.CallState.{CallState}
use Rattle.sf_words.specs.declared.call_word.CallState.TheVariants as word
use Rattle.sf_steps_laws.specs.declared.operation.Op.{Op}
use Rattle.sf_steps_laws.specs.declared.operation.Op.TheVariants as op
use Rattle.sf_steps_laws.specs.declared.operation.Stage.{Stage}
use Rattle.sf_steps_laws.specs.declared.operation.Stage.TheVariants.{Free, Leading, Holding, Polling, Seconding, Asking, Settling, Forgetting, Naming, Questioning}
use Rattle.sf_steps_laws.specs.declared.operation.AskStep.TheVariants as ask
use Rattle.sf_steps_laws.specs.declared.turn.Turn.{Turn}
use Rattle.sf_steps_laws.specs.declared.turn.Turn.TheVariants as turn
use Rattle.sf_steps_laws.specs.World.{World, first_world, is_full, is_spent}
use Rattle.sf_lists.specs.Functions.{put}
use Rattle.sf_steps_laws.specs.Turns.{polled, stepped, chan_started, started, left, turned}
use Rattle.sf_steps_laws.specs.Events.{events_of, world_after}
use Rattle.sf_steps_laws.specs.Schedules.{Setting, IsSchedule}
use Rattle.sf_steps_laws.specs.Left.{Concerns, AreOthers, LeadsUnsettled, IsLeft, IsFilled}
use Rattle.sf_steps_laws.specs.declared.operation.SettleStep.TheVariants as settle
use Rattle.sf_steps_laws.specs.Waiting.{IsWaiting, IsListed, ListsStay, list_top, leads_of, OwnWaits, LeadersHaveLists}
use Rattle.sf_steps_laws.proofs.Members.{Chain, line, line_members}
use Rattle.sf_steps_laws.proofs.Callers.{AreCallers, members_few}
use Rattle.sf_history.proofs.Members.{Each, members}
use Rattle.sf_lists.proofs.Functions.{put_here}
use Rattle.sf_steps_laws.proofs.Sound.{call_of, top_in, unsettled, Waits, Leads, Good, Sound}
use Rattle.sf_steps_laws.proofs.Letters.{ticket_is, deliver_right}
use Rattle.sf_steps_laws.proofs.Cells.{Becomes, step_becomes, start_stays, leave_stays}
use Rattle.sf_steps_laws.proofs.Others.{turn_left}
use Rattle.sf_steps_laws.proofs.Apart.{letter_of, ticket_call}
use Rattle.sf_steps_laws.proofs.RightAnswers.{run_append, schedule_parts, always, always_fair}

same_top : (u : CallState) → top_in u ≡ list_top u
same_top word.Free = refl
same_top (word.Open s) = refl
same_top (word.Forgot s) = refl
same_top (word.Done s) = refl
same_top (word.Listed g) = refl
same_top (word.Full g) = refl

same_led : (x y : ℕ × ℕ × Option CallId) → Some x ≡ Some y → x ≡ y
same_led x y is = cc

module _ {V : Type 0} where
  abbrev Ticket : Stage V → ℕ → ℕ → CallId → Type 0
  Ticket p k g c = (p ≡ Holding k g c) ⊎ (p ≡ Polling k g c)

  no_leader : (p : Stage V) (k g : ℕ) (c : CallId) → Ticket p k g c → LeadsUnsettled p → ⊥
  no_leader p k g c (inl is) leads = subst (λ (q : Stage V). LeadsUnsettled q) is leads
  no_leader p k g c (inr is) leads = subst (λ (q : Stage V). LeadsUnsettled q) is leads

  no_second : (p : Stage V) (k g b : ℕ) (c : CallId) → Ticket p k g c → p ≡ Seconding b → ⊥
  no_second p k g b c (inl is) seconds = let clash : Holding k g c ≡ Seconding b = sym is ∙ seconds in cc
  no_second p k g b c (inr is) seconds = let clash : Polling k g c ≡ Seconding b = sym is ∙ seconds in cc

  -- the member's stage, word and next word after a turn
  abbrev StillWaits : World V → World V → ℕ → CallId → CallId → Type 0
  StillWaits w u k c m = IsWaiting u k c m × (u.nexts m.caller ≡ w.nexts m.caller)

  same_waits : (w : World V) (k : ℕ) (c m : CallId) → IsWaiting w k c m → StillWaits w w k c m
  same_waits w k c m waits = (waits, refl)

  -- its letter is not delivered by another's turn than the leader's
  not_filled : (first : ℕ) (h : List (Event ℕ V)) (w : World V) (t : Turn V) (k : ℕ) (c m : CallId) → Sound first h w → (Concerns w t c.caller → ⊥) → IsWaiting w k c m → IsFilled w (turned w t) m.caller → ⊥
  not_filled first h w (turn.Start a o) k c m sound apart waits filled =
      let clash : Some filled.letter ≡ None = sym filled.filled ∙ (start_stays w a m.caller o (w.stages a) ∙ filled.empty) in cc
  not_filled first h w (turn.Leave a) k c m sound apart waits filled =
      let clash : Some filled.letter ≡ None = sym filled.filled ∙ (leave_stays w a m.caller (w.stages a) ∙ filled.empty) in cc
  not_filled first h w (turn.Step a) k c m sound apart waits filled = at (step_becomes w a m.caller (w.stages a))
    where
      at : Becomes w (stepped w a (w.stages a)) a (w.stages a) m.caller → ⊥
      at (inl same) = let clash : Some filled.letter ≡ None = sym filled.filled ∙ (same ∙ filled.empty) in cc
      at (inr (inl none)) = let clash : Some filled.letter ≡ None = sym filled.filled ∙ none in cc
      at (inr (inr made)) =
          let right = (deliver_right first h w a (w.stages a) (made.0, made.1) refl sound made.2).0 in
          let calls : c ≡ made.1.call = ticket_call (w.stages m.caller) k m.generation c made.1.place made.0.generation made.1.call waits.0
          (subst (λ (x : ℕ). Ticket (w.stages x) made.1.place made.0.generation made.1.call) (sym made.3) right.ticket) in
          apart (inl (ap (λ (d : CallId). d.caller) calls ∙ letter_of a (w.stages a) (made.0, made.1) made.2))

  unconcerned_waits : (first : ℕ) (h : List (Event ℕ V)) (w : World V) (t : Turn V) (k : ℕ) (c m : CallId) → Sound first h w → (Concerns w t c.caller → ⊥) → (Concerns w t m.caller → ⊥) → IsWaiting w k c m → StillWaits w (turned w t) k c m
  unconcerned_waits first h w t k c m sound apart free waits =
      let left : IsLeft w (turned w t) m.caller = turn_left first h w t m.caller sound free in
      let stage : Ticket ((turned w t).stages m.caller) k m.generation c = subst (λ (p : Stage V). Ticket p k m.generation c) (sym left.stage) waits.0 in (
        (
          stage,
          elim left.word [
            | inl same ↦ same.0 ∙ waits.1
            | inr changed ↦ elim changed [
              | inl entered ↦ absurd (no_leader (w.stages m.caller) k m.generation c waits.0 entered.leads)
              | inr more ↦ elim more [
                | inl gone ↦ absurd (no_leader (w.stages m.caller) k m.generation c waits.0 gone.leads)
                | inr filled ↦ absurd (not_filled first h w t k c m sound apart waits filled)
              ]
            ]
          ],
        ),
        left.next,
      )

  -- its own turns: it polls, and its word is not full
  put_ticket : (w : World V) (k : ℕ) (c m : CallId) (v : Stage V) → Ticket v k m.generation c → Ticket (put w.stages m.caller v m.caller) k m.generation c
  put_ticket w k c m v is = subst (λ (p : Stage V). Ticket p k m.generation c) (sym (put_here w.stages m.caller v)) is

  own_poll : (w : World V) (k i g : ℕ) (c d m : CallId) → ◌≡◌ {A = Stage V} (Polling i g d) (Polling k m.generation c) → w.calls m.caller ≡ word.Listed m.generation → (b : Bool) → is_full (w.calls m.caller) ≡ b → StillWaits w (polled w m.caller i g d b) k c m
  own_poll w k i g c d m same listed false full =
      let place : i ≡ k = cc in
      let gens : g ≡ m.generation = cc in
      let calls : d ≡ c = cc in
      let holds : ◌≡◌ {A = Stage V} (Holding i g d) (Holding k m.generation c) = ap (λ (x : ℕ). Holding x g d) place ∙ (ap (λ (x : ℕ). Holding k x d) gens ∙ ap (λ (x : CallId). Holding k m.generation x) calls) in
      ((put_ticket w k c m (Holding i g d) (inl holds), listed), refl)
  own_poll w k i g c d m same listed true full = let clash : true ≡ false = sym full ∙ ap is_full listed in cc

  own_step : (w : World V) (k : ℕ) (c m : CallId) (p : Stage V) → Ticket p k m.generation c → IsWaiting w k c m → StillWaits w (stepped w m.caller p) k c m
  own_step w k c m Free is waits = same_waits w k c m waits
  own_step w k c m (Leading i g own) is waits = same_waits w k c m waits
  own_step w k c m (Holding i g d) is waits = same_waits w k c m waits
  own_step w k c m (Polling i g d) (inl is) waits = cc
  own_step w k c m (Polling i g d) (inr is) waits = own_poll w k i g c d m is waits.1 (is_full (w.calls m.caller)) refl
  own_step w k c m (Seconding one) is waits = same_waits w k c m waits
  own_step w k c m (Asking i s step) (inl is) waits = cc
  own_step w k c m (Asking i s step) (inr is) waits = cc
  own_step w k c m (Settling i g own v step) (inl is) waits = cc
  own_step w k c m (Settling i g own v step) (inr is) waits = cc
  own_step w k c m (Forgetting i target step) (inl is) waits = cc
  own_step w k c m (Naming i) (inl is) waits = cc
  own_step w k c m (Forgetting i target step) (inr is) waits = cc
  own_step w k c m (Naming i) (inr is) waits = cc
  own_step w k c m (Questioning i d step) (inl is) waits = cc
  own_step w k c m (Questioning i d step) (inr is) waits = cc

  no_free : (k g : ℕ) (c : CallId) → Ticket Free k g c → ⊥
  no_free k g c (inl is) = let clash : Free ≡ Holding k g c = is in cc
  no_free k g c (inr is) = let clash : Free ≡ Polling k g c = is in cc

  start_poll : (w : World V) (k i g : ℕ) (c d m : CallId) → Ticket (Holding i g d) k m.generation c → IsWaiting w k c m → StillWaits w (started w m.caller op.Poll (Holding i g d)) k c m
  start_poll w k i g c d m (inr is) waits = cc
  start_poll w k i g c d m (inl is) waits =
      let place : i ≡ k = cc in
      let gens : g ≡ m.generation = cc in
      let calls : d ≡ c = cc in
      let polls : ◌≡◌ {A = Stage V} (Polling i g d) (Polling k m.generation c) = ap (λ (x : ℕ). Polling x g d) place ∙ (ap (λ (x : ℕ). Polling k x d) gens ∙ ap (λ (x : CallId). Polling k m.generation x) calls) in
      ((put_ticket w k c m (Polling i g d) (inr polls), waits.1), refl)

  own_start : (w : World V) (k : ℕ) (c m : CallId) (o : Op V) (p : Stage V) → Ticket p k m.generation c → IsWaiting w k c m → StillWaits w (started w m.caller o p) k c m
  own_start w k c m (op.Ask i) Free is waits = absurd (no_free k m.generation c is)
  own_start w k c m (op.Chan j i) Free is waits = absurd (no_free k m.generation c is)
  own_start w k c m (op.Settle v) (Leading i g own) (inl is) waits = cc
  own_start w k c m (op.Settle v) (Leading i g own) (inr is) waits = cc
  own_start w k c m (op.Forget i) Free is waits = absurd (no_free k m.generation c is)
  own_start w k c m (op.ForgetCall i d) Free is waits = absurd (no_free k m.generation c is)
  own_start w k c m (op.Named i) Free is waits = absurd (no_free k m.generation c is)
  own_start w k c m op.Poll (Holding i g d) is waits = start_poll w k i g c d m is waits
  own_start w k c m (op.Current i d) Free is waits = absurd (no_free k m.generation c is)
  own_start w k c m _ _ is waits = same_waits w k c m waits

  own_leave : (w : World V) (k : ℕ) (c m : CallId) (p : Stage V) → Ticket p k m.generation c → IsWaiting w k c m → StillWaits w (left w m.caller p) k c m
  own_leave w k c m (Asking i s (ask.Look true)) (inl is) waits = cc
  own_leave w k c m (Asking i s (ask.Look true)) (inr is) waits = cc
  own_leave w k c m (Forgetting i target step) (inl is) waits = cc
  own_leave w k c m (Forgetting i target step) (inr is) waits = cc
  own_leave w k c m _ is waits = same_waits w k c m waits

  -- a chan is not started with a second that is not free
  chan_waits : (w : World V) (a k i : ℕ) (c m : CallId) (q : Stage V) → Ticket q k m.generation c → IsWaiting w k c m → StillWaits w (chan_started w a m.caller i q) k c m
  chan_waits w a k i c m Free is waits = absurd (no_free k m.generation c is)
  chan_waits w a k i c m _ is waits = same_waits w k c m waits

  second_waits : (w : World V) (a k i : ℕ) (c m : CallId) (p : Stage V) → IsWaiting w k c m → StillWaits w (started w a (op.Chan m.caller i) p) k c m
  second_waits w a k i c m Free waits = at (is_spent w a)
    where
      at : (b : Bool) → StillWaits w (cond b w (chan_started w a m.caller i (w.stages m.caller))) k c m
      at true = same_waits w k c m waits
      at false = chan_waits w a k i c m (w.stages m.caller) waits.0 waits
  second_waits w a k i c m _ waits = same_waits w k c m waits

  turn_waits : (first : ℕ) (h : List (Event ℕ V)) (w : World V) (t : Turn V) (k : ℕ) (c m : CallId) → Sound first h w → (Concerns w t c.caller → ⊥) → IsWaiting w k c m → StillWaits w (turned w t) k c m
  turn_waits first h w (turn.Step a) k c m sound apart waits = elim (cases_eq m.caller a) [
    | inl here ↦ subst (λ (x : ℕ). StillWaits w (stepped w x (w.stages x)) k c m) here (own_step w k c m (w.stages m.caller) waits.0 waits)
    | inr other ↦ unconcerned_waits first h w (turn.Step a) k c m sound apart (λ one. elim one [
      | inl same ↦ other same
      | inr seconds ↦ no_second (w.stages m.caller) k m.generation a c waits.0 seconds
    ]) waits
  ]
  turn_waits first h w (turn.Leave a) k c m sound apart waits = elim (cases_eq m.caller a) [
    | inl here ↦ subst (λ (x : ℕ). StillWaits w (left w x (w.stages x)) k c m) here (own_leave w k c m (w.stages m.caller) waits.0 waits)
    | inr other ↦ unconcerned_waits first h w (turn.Leave a) k c m sound apart (λ one. elim one [
      | inl same ↦ other same
      | inr seconds ↦ no_second (w.stages m.caller) k m.generation a c waits.0 seconds
    ]) waits
  ]
  turn_waits first h w (turn.Start a o) k c m sound apart waits = elim (cases_eq m.caller a) [
    | inl here ↦ subst (λ (x : ℕ). StillWaits w (started w x o (w.stages x)) k c m) here (own_start w k c m o (w.stages m.caller) waits.0 waits)
    | inr other ↦ by_op o apart
  ]
    where
      rest : (o : Op V) → (Concerns w (turn.Start a o) c.caller → ⊥) → (Concerns w (turn.Start a o) m.caller → ⊥) → StillWaits w (turned w (turn.Start a o)) k c m
      rest o apart free = unconcerned_waits first h w (turn.Start a o) k c m sound apart free waits

      by_op : (o : Op V) → (Concerns w (turn.Start a o) c.caller → ⊥) → StillWaits w (turned w (turn.Start a o)) k c m
      by_op o apart = elim (cases_eq m.caller a) [
        | inl here ↦ subst (λ (x : ℕ). StillWaits w (started w x o (w.stages x)) k c m) here (own_start w k c m o (w.stages m.caller) waits.0 waits)
        | inr other ↦ unlike o apart other
      ]
        where
          unlike : (o : Op V) → (Concerns w (turn.Start a o) c.caller → ⊥) → m.caller ≢ a → StillWaits w (turned w (turn.Start a o)) k c m
          unlike (op.Ask i) apart other = rest (op.Ask i) apart other
          unlike (op.Chan j i) apart other = elim (cases_eq m.caller j) [
            | inl there ↦ subst (λ (x : ℕ). StillWaits w (started w a (op.Chan x i) (w.stages a)) k c m) there (second_waits w a k i c m (w.stages a) waits)
            | inr far ↦ rest (op.Chan j i) apart (λ one. elim one [
              | inl same ↦ other same
              | inr second ↦ far second
            ])
          ]
          unlike (op.Settle v) apart other = rest (op.Settle v) apart other
          unlike (op.Forget i) apart other = rest (op.Forget i) apart other
          unlike (op.ForgetCall i d) apart other = rest (op.ForgetCall i d) apart other
          unlike (op.Named i) apart other = rest (op.Named i) apart other
          unlike op.Poll apart other = rest op.Poll apart other
          unlike (op.Current i d) apart other = rest (op.Current i d) apart other

  list_turn : (first : ℕ) (h : List (Event ℕ V)) (w : World V) (t : Turn V) (k : ℕ) (c : CallId) → Sound first h w → (Concerns w t c.caller → ⊥) → (top : Option ℕ) (l : List CallId) → IsListed w k c top l → IsListed (turned w t) k c top l
  list_turn first h w t k c sound apart None [] is = tt
  list_turn first h w t k c sound apart None (m ∷ l) is = absurd is
  list_turn first h w t k c sound apart (Some x) [] is = absurd is
  list_turn first h w t k c sound apart (Some x) (m ∷ l) is =
      let one = turn_waits first h w t k c m sound apart is.1 in
      (is.0, one.0, subst (λ (n : Option ℕ). IsListed (turned w t) k c n l) (sym one.1) (list_turn first h w t k c sound apart (w.nexts m.caller) l is.2))

  pub lists_stay : ListsStay V
  lists_stay z s [] is k c top l others listed = subst (λ (q : List (Turn V)). IsListed (world_after z.callers z.first q) k c top l) (sym (append-nil s)) listed
  lists_stay z s (t ∷ ts) is k c top l others listed =
      let w : World V = world_after z.callers z.first s in
      let parts : IsSchedule z ((s ++ t ∷ []) ++ ts) = subst (λ (q : List (Turn V)). IsSchedule z q) (sym (append_assoc s (t ∷ []) ts)) is in
      let front : IsSchedule z s = (schedule_parts z s (t ∷ ts) [] (first_world z.callers z.first) is).0 in
      let there : world_after z.callers z.first (s ++ t ∷ []) ≡ turned w t = run_append (first_world z.callers z.first) s (t ∷ []) in
      let one : IsListed (world_after z.callers z.first (s ++ t ∷ [])) k c top l = subst (λ (u : World V). IsListed u k c top l) (sym there) (list_turn z.first (events_of z.callers z.first s) w t k c (always z s front) others.0 top l listed) in
      subst (λ (q : List (Turn V)). IsListed (world_after z.callers z.first q) k c top l) (append_assoc s (t ∷ []) ts)
      (lists_stay z (s ++ t ∷ []) ts parts k c top l (subst (λ (u : World V). AreOthers u ts c.caller) (sym there) others.1) one)

  pub waiting : (w : World V) (k : ℕ) (c m : CallId) → Waits w k c m → IsWaiting w k c m
  waiting w k c m waits = (ticket_is (w.stages m.caller) k m.generation c waits.0, waits.1)

  pub chain_listed : (w : World V) (k : ℕ) (c : CallId) (top : Option ℕ) (l : List CallId) → Chain w.nexts top l → Each (Waits w k c) l → IsListed w k c top l
  chain_listed w k c None [] chain waits = tt
  chain_listed w k c None (m ∷ l) chain waits = absurd chain
  chain_listed w k c (Some x) [] chain waits = absurd chain
  chain_listed w k c (Some x) (m ∷ l) chain waits = (chain.0, waiting w k c m waits.0, chain_listed w k c (w.nexts m.caller) l chain.1 waits.1)

  own_waits : (w : World V) (k : ℕ) (c : CallId) (own : Option CallId) (l : List CallId) → Each (Waits w k c) (line own l) → OwnWaits w k c own
  own_waits w k c None l waits = tt
  own_waits w k c (Some m) l waits = waiting w k c m waits.0

  -- what a leader has before its settle
  abbrev HasList : Setting → World V → ℕ → ℕ → ℕ → Option CallId → Type 0
  HasList z w a k g own = (l : List CallId) × IsListed w k (call_of a g) (list_top (w.calls a)) l × OwnWaits w k (call_of a g) own × (length l + 1 ≤ z.callers)

  led_list : (z : Setting) (h : List (Event ℕ V)) (w : World V) (a k g : ℕ) (own : Option CallId) → Sound z.first h w → AreCallers z w → unsettled (w.stages a) ≡ Some (k, g) → Leads h w a k g own → HasList z w a k g own
  led_list z h w a k g own sound are leads is =
      let l : List CallId = members h (call_of a g) in
      let chain : Chain w.nexts (list_top (w.calls a)) l = subst (λ (t : Option ℕ). Chain w.nexts t l) (same_top (w.calls a)) is.chain in
      (l, chain_listed w k (call_of a g) (list_top (w.calls a)) l chain (line_members (Waits w k (call_of a g)) own l is.waits), own_waits w k (call_of a g) own l is.waits, members_few z h w a k g sound are leads)

  stage_list : (z : Setting) (h : List (Event ℕ V)) (w : World V) (a k g : ℕ) (own : Option CallId) (p : Stage V) → w.stages a ≡ p → Sound z.first h w → AreCallers z w → Good h w a p → leads_of p ≡ Some (k, g, own) → HasList z w a k g own
  stage_list z h w a k g own Free at sound are good is = cc
  stage_list z h w a k g own (Leading i n o) at sound are good is =
      subst (λ (y : ℕ × ℕ × Option CallId). HasList z w a y.0 y.1 y.2) (same_led (i, n, o) (k, g, own) is) (led_list z h w a i n o sound are (ap unsettled at) good)
  stage_list z h w a k g own (Holding i n c) at sound are good is = cc
  stage_list z h w a k g own (Polling i n c) at sound are good is = cc
  stage_list z h w a k g own (Seconding one) at sound are good is = cc
  stage_list z h w a k g own (Asking i s step) at sound are good is = cc
  stage_list z h w a k g own (Settling i n o v settle.Peek) at sound are good is =
      subst (λ (y : ℕ × ℕ × Option CallId). HasList z w a y.0 y.1 y.2) (same_led (i, n, o) (k, g, own) is) (led_list z h w a i n o sound are (ap unsettled at) good)
  stage_list z h w a k g own (Settling i n o v (settle.Close seen)) at sound are good is =
      subst (λ (y : ℕ × ℕ × Option CallId). HasList z w a y.0 y.1 y.2) (same_led (i, n, o) (k, g, own) is) (led_list z h w a i n o sound are (ap unsettled at) good.0)
  stage_list z h w a k g own (Settling i n o v (settle.Clear top)) at sound are good is = cc
  stage_list z h w a k g own (Settling i n o v (settle.Count j m top)) at sound are good is = cc
  stage_list z h w a k g own (Settling i n o v (settle.Follow joiners m)) at sound are good is = cc
  stage_list z h w a k g own (Settling i n o v (settle.PeekMember joiners m next)) at sound are good is = cc
  stage_list z h w a k g own (Settling i n o v (settle.Deliver joiners m next)) at sound are good is = cc
  stage_list z h w a k g own (Settling i n o v (settle.PeekOwn joiners)) at sound are good is = cc
  stage_list z h w a k g own (Settling i n o v (settle.DeliverOwn joiners m)) at sound are good is = cc
  stage_list z h w a k g own (Forgetting i target step) at sound are good is = cc
  stage_list z h w a k g own (Naming i) at sound are good is = cc
  stage_list z h w a k g own (Questioning i c step) at sound are good is = cc

  pub leaders_have_lists : LeadersHaveLists V
  leaders_have_lists z s is a k g own leads =
      let w : World V = world_after z.callers z.first s in
      let sound = always z s is in
      let are = (always_fair z s is).are in
      stage_list z (events_of z.callers z.first s) w a k g own (w.stages a) refl sound are (sound.callers a).good leads
