-- the invariant: what each word and each stage of the world promises of the events that have been added
use Rattle.std.proofs.Common.{◌≡◌, ◌≢◌, ◌≤◌, ◌+◌, ℕ, Bool, true, false, List, [], ◌∷◌, ◌++◌, length, ◌⊎◌, Option, Some, None, refl, sym, ap, subst}
use Rattle.std.specs.Prelude.{is_some}
use Rattle.sf_history.specs.declared.call.CallId.{CallId}
use Rattle.sf_history.specs.declared.event.Event.{Event}
use Rattle.sf_history.specs.History.{was_led, is_settled, is_handed}
use Rattle.sf_words.specs.declared.key_word.KeyState.{KeyState}
use Rattle.sf_words.specs.declared.key_word.KeyState.TheVariants.{Never, Names}
use Rattle.sf_words.specs.declared.call_word.LeaderState.{LeaderState}
use Rattle.sf_words.specs.declared.call_word.CallState.{CallState}
use Rattle.sf_words.specs.declared.call_word.CallState.TheVariants as word
use Rattle.sf_steps_laws.specs.declared.letter.Letter.{Letter}
use Rattle.sf_steps_laws.specs.declared.operation.Stage.{Stage}
use Rattle.sf_steps_laws.specs.declared.operation.Stage.TheVariants.{Free, Leading, Holding, Polling, Seconding, Asking, Settling, Forgetting, Naming, Questioning}
use Rattle.sf_steps_laws.specs.declared.operation.AskStep.{AskStep}
use Rattle.sf_steps_laws.specs.declared.operation.AskStep.TheVariants as ask
use Rattle.sf_steps_laws.specs.declared.operation.SettleStep.{SettleStep}
use Rattle.sf_steps_laws.specs.declared.operation.SettleStep.TheVariants as settle
use Rattle.sf_steps_laws.specs.declared.operation.ForgetStep.{ForgetStep}
use Rattle.sf_steps_laws.specs.declared.operation.ForgetStep.TheVariants as forget
use Rattle.sf_steps_laws.specs.World.{World, first_world}
use Rattle.sf_steps_laws.specs.Askings.{joiner}
use Rattle.sf_steps_laws.specs.Schedules.{was_led_on}
use Rattle.sf_steps_laws.proofs.Histories.{opened, now}
use Rattle.sf_steps_laws.proofs.Growing.{Answered}
use Rattle.sf_history.proofs.Members.{Each, Apart, members}
use Rattle.sf_steps_laws.proofs.Members.{Chain, line}
use Rattle.sf_steps_laws.proofs.Past.{Past, past_begins}

-- the call of this caller and generation
abbrev pub call_of : ℕ → ℕ → CallId
call_of a g = record { caller = a; generation = g }

-- a leader's word before its settle: open or forgotten, of this generation
abbrev pub IsLeadersWord : ℕ → CallState → Type 0
IsLeadersWord g (word.Open s) = s.generation ≡ g
IsLeadersWord g (word.Forgot s) = s.generation ≡ g
IsLeadersWord g _ = ⊥

abbrev pub IsForgotWord : ℕ → CallState → Type 0
IsForgotWord g (word.Forgot s) = s.generation ≡ g
IsForgotWord g _ = ⊥

-- the top of a leader's list
abbrev pub top_in : CallState → Option ℕ
top_in (word.Open s) = s.top
top_in (word.Forgot s) = s.top
top_in _ = None

-- letters are owed: there is an own channel, or a member
abbrev pub owes : Option CallId → Option ℕ → Bool
owes None None = false
owes None (Some m) = true
owes (Some o) top = true

module _ {V : Type 0} where
  -- the place and the generation of a leader's call, before its settle
  abbrev pub unsettled : Stage V → Option (ℕ × ℕ)
  unsettled (Leading k g own) = Some (k, g)
  unsettled (Settling k g own v settle.Peek) = Some (k, g)
  unsettled (Settling k g own v (settle.Close seen)) = Some (k, g)
  unsettled _ = None

  -- the same, up to its clear
  abbrev pub uncleared : Stage V → Option (ℕ × ℕ)
  uncleared (Leading k g own) = Some (k, g)
  uncleared (Settling k g own v settle.Peek) = Some (k, g)
  uncleared (Settling k g own v (settle.Close seen)) = Some (k, g)
  uncleared (Settling k g own v (settle.Clear top)) = Some (k, g)
  uncleared _ = None

  pub unsettled_uncleared : (s : Stage V) (x : ℕ × ℕ) → unsettled s ≡ Some x → uncleared s ≡ Some x
  unsettled_uncleared (Leading k g own) x is = is
  unsettled_uncleared (Settling k g own v settle.Peek) x is = is
  unsettled_uncleared (Settling k g own v (settle.Close seen)) x is = is
  unsettled_uncleared _ x is = cc

  -- the ticket that a caller holds: the place, its generation as a member, and the call
  abbrev pub ticket : Stage V → Option (ℕ × ℕ × CallId)
  ticket (Holding k g c) = Some (k, g, c)
  ticket (Polling k g c) = Some (k, g, c)
  ticket _ = None

  -- the member waits for its letter of the call
  abbrev pub Waits : World V → ℕ → CallId → CallId → Type 0
  Waits w k c m = (ticket (w.stages m.caller) ≡ Some (k, m.generation, c)) × (w.calls m.caller ≡ word.Listed m.generation)

  -- a leader before its settle
  pub record Leads (h : List (Event ℕ V)) (w : World V) (a k g : ℕ) (own : Option CallId) : Type 0 where
    pub led : was_led_on h k (call_of a g) ≡ true
    pub mine : was_led h a (call_of a g) ≡ true
    pub not_settled : is_settled h (call_of a g) ≡ false
    pub has_word : IsLeadersWord g (w.calls a)
    pub chain : Chain w.nexts (top_in (w.calls a)) (members h (call_of a g))
    pub waits : Each (Waits w k (call_of a g)) (line own (members h (call_of a g)))
    pub apart : Apart (line own (members h (call_of a g)))

  -- a leader after its settle, which still owes letters to these members from the top on, and to its own channel
  pub record Owes (h : List (Event ℕ V)) (w : World V) (a k g : ℕ) (own : Option CallId) (v : V) (joiners : ℕ) (top : Option ℕ) (rest : List CallId) : Type 0 where
    pub led : was_led_on h k (call_of a g) ≡ true
    pub mine : was_led h a (call_of a g) ≡ true
    pub answered : Answered h (call_of a g) v joiners
    pub chain : Chain w.nexts top rest
    pub waits : Each (Waits w k (call_of a g)) (line own rest)
    pub apart : Apart (line own rest)

  -- not all letters of the call are handed out
  abbrev pub Unhanded : List (Event ℕ V) → ℕ → ℕ → Type 0
  Unhanded h a g = is_handed h (call_of a g) ≡ false

  -- the word and the cell of a caller that holds a ticket: nothing there yet, or the letter with the call's answer
  abbrev pub IsTicket : List (Event ℕ V) → ℕ → ℕ → CallId → CallState → Option (Letter V) → Type 0
  IsTicket h k g c (word.Listed i) cell = (i ≡ g) × (cell ≡ None)
  IsTicket h k g c (word.Full i) cell = (i ≡ g) × ((v : V) × (joiners : ℕ) × (cell ≡ Some (record { place = k; call = c; value = v; joiners = joiners })) × Answered h c v joiners)
  IsTicket h k g c _ cell = ⊥

  abbrev pub Holds : List (Event ℕ V) → World V → ℕ → ℕ → ℕ → CallId → Type 0
  Holds h w a k g c = (was_led_on h k c ≡ true) × IsTicket h k g c (w.calls a) (w.cells a)

  -- what an asking knows that found a word by which it may lead
  abbrev pub SawClosed : List (Event ℕ V) → ℕ → KeyState → Type 0
  SawClosed h k Never = Unit {0}
  SawClosed h k (Names b g true) = Unit {0}
  SawClosed h k (Names b g false) = (was_led_on h k (call_of b g) ≡ true) × (opened h k ≢ Some (call_of b g))

  abbrev pub ready_word : World V → ℕ → Option ℕ → CallState
  ready_word w a s = word.Open (record { generation = w.generations a; own = is_some s; top = None })

  -- the word of one who is to wait is listed, of its next generation
  abbrev pub IsListed : World V → ℕ → Type 0
  IsListed w j = w.calls j ≡ word.Listed (w.generations j)

  -- the second of a chan serves its first
  abbrev pub GoodSecond : World V → ℕ → Option ℕ → Type 0
  GoodSecond w a None = Unit {0}
  GoodSecond w a (Some b) = w.stages b ≡ Seconding a

  abbrev pub ReadySecond : World V → Option ℕ → Type 0
  ReadySecond w None = Unit {0}
  ReadySecond w (Some b) = IsListed w b

  -- what an asking knows that found the call's word open, as it saw it
  abbrev pub SawOpen : List (Event ℕ V) → ℕ → CallId → LeaderState → Type 0
  SawOpen h k c seen = (was_led_on h k c ≡ true) × (seen.generation ≡ c.generation)

  -- what a caller's stage promises
  abbrev pub GoodAsk : List (Event ℕ V) → World V → ℕ → ℕ → Option ℕ → AskStep → Type 0
  GoodAsk h w a k s (ask.Look failed) = Unit {0}
  GoodAsk h w a k s (ask.Peek c) = was_led_on h k c ≡ true
  GoodAsk h w a k s (ask.ReadyOwn seen forgot) = SawClosed h k seen
  GoodAsk h w a k s (ask.ReadyLead seen forgot) = SawClosed h k seen × ReadySecond w s
  GoodAsk h w a k s (ask.Lead seen forgot) = SawClosed h k seen × ReadySecond w s × (w.calls a ≡ ready_word w a s)
  GoodAsk h w a k s (ask.ReadyJoin c seen) = SawOpen h k c seen
  GoodAsk h w a k s (ask.Link c seen) = SawOpen h k c seen × IsListed w (joiner a s)
  GoodAsk h w a k s (ask.Enter c seen) = SawOpen h k c seen × IsListed w (joiner a s) × (w.nexts (joiner a s) ≡ seen.top)

  abbrev pub GoodSettle : List (Event ℕ V) → World V → ℕ → ℕ → ℕ → Option CallId → V → SettleStep → Type 0
  GoodSettle h w a k g own v settle.Peek = Leads h w a k g own
  GoodSettle h w a k g own v (settle.Close seen) = Leads h w a k g own × (seen.generation ≡ g)
  GoodSettle h w a k g own v (settle.Clear top) = (rest : List CallId) × (joiners : ℕ) × Owes h w a k g own v joiners top rest × IsForgotWord g (w.calls a) × (owes own top ≡ true → Unhanded h a g)
      × (length rest ≡ joiners) × (joiners ≤ w.callers)
  GoodSettle h w a k g own v (settle.Count n m top) = (seen left : List CallId) × (joiners : ℕ) × Owes h w a k g own v joiners (Some top) (seen ++ left) × Unhanded h a g
      × Chain w.nexts (Some m) left × (n + length left ≡ joiners) × (joiners ≤ w.callers)
  GoodSettle h w a k g own v (settle.Follow joiners m) = (rest : List CallId) × Owes h w a k g own v joiners (Some m) rest × Unhanded h a g
  GoodSettle h w a k g own v (settle.PeekMember joiners m next) = (rest : List CallId) × Owes h w a k g own v joiners (Some m) rest × Unhanded h a g × (next ≡ w.nexts m)
  GoodSettle h w a k g own v (settle.Deliver joiners m next) = (rest : List CallId) × Owes h w a k g own v joiners (Some m.caller) (m ∷ rest) × Unhanded h a g × (next ≡ w.nexts m.caller)
  GoodSettle h w a k g own v (settle.PeekOwn joiners) = Owes h w a k g own v joiners None [] × Unhanded h a g
  GoodSettle h w a k g own v (settle.DeliverOwn joiners m) = Owes h w a k g own v joiners None [] × Unhanded h a g × (own ≡ Some m)

  abbrev pub GoodForget : List (Event ℕ V) → ℕ → ForgetStep → Type 0
  GoodForget h k (forget.Look failed) = Unit {0}
  GoodForget h k (forget.Peek c) = was_led_on h k c ≡ true
  GoodForget h k (forget.Close c seen) = (was_led_on h k c ≡ true) × (seen.generation ≡ c.generation)
  GoodForget h k (forget.FirstClear c) = (was_led_on h k c ≡ true) × (opened h k ≢ Some c)
  GoodForget h k (forget.LastClear c) = (was_led_on h k c ≡ true) × (now h k ≢ Some c)

  abbrev pub Good : List (Event ℕ V) → World V → ℕ → Stage V → Type 0
  Good h w a Free = Unit {0}
  Good h w a (Leading k g own) = Leads h w a k g own
  Good h w a (Holding k g c) = Holds h w a k g c
  Good h w a (Polling k g c) = Holds h w a k g c
  Good h w a (Seconding first) = Unit {0}
  Good h w a (Asking k s step) = GoodSecond w a s × GoodAsk h w a k s step
  Good h w a (Settling k g own v step) = GoodSettle h w a k g own v step
  Good h w a (Forgetting k target step) = GoodForget h k step
  Good h w a (Naming k) = Unit {0}
  Good h w a (Questioning k c step) = was_led_on h k c ≡ true

  -- what the flag of an asking that is to lead promises of the call that its key word named
  abbrev pub FlagAt : List (Event ℕ V) → World V → ℕ → KeyState → Bool → Type 0
  FlagAt h w k Never f = Unit {0}
  FlagAt h w k (Names b g true) f = Unit {0}
  FlagAt h w k (Names b g false) true = now h k ≢ Some (call_of b g)
  FlagAt h w k (Names b g false) false = IsForgotWord g (w.calls b) → ⊥

  -- a forget of one call that is to clear it saw that call not forgotten
  abbrev pub ForgetFlag : List (Event ℕ V) → World V → ℕ → ForgetStep → Option CallId → Type 0
  ForgetFlag h w k (forget.Look failed) target = Unit {0}
  ForgetFlag h w k (forget.Peek c) target = Unit {0}
  ForgetFlag h w k (forget.Close c seen) target = Unit {0}
  ForgetFlag h w k (forget.FirstClear c) None = Unit {0}
  ForgetFlag h w k (forget.FirstClear c) (Some d) = FlagAt h w k (Names c.caller c.generation false) false
  ForgetFlag h w k (forget.LastClear c) target = Unit {0}

  -- what a caller knows of a word of another that it saw
  abbrev pub GoodFlag : List (Event ℕ V) → World V → Stage V → Type 0
  GoodFlag h w (Asking k s (ask.ReadyOwn seen f)) = FlagAt h w k seen f
  GoodFlag h w (Asking k s (ask.ReadyLead seen f)) = FlagAt h w k seen f
  GoodFlag h w (Asking k s (ask.Lead seen f)) = FlagAt h w k seen f
  GoodFlag h w (Forgetting k target step) = ForgetFlag h w k step target
  GoodFlag h w _ = Unit {0}

  -- what a key word promises: one that names a call uncleared names the current call, unless a Forget closed the call,
  -- whose leader has not passed its own clear
  abbrev pub GoodKey : List (Event ℕ V) → World V → ℕ → KeyState → Type 0
  GoodKey h w k Never = now h k ≡ None
  GoodKey h w k (Names a g true) = now h k ≡ None
  GoodKey h w k (Names a g false) = (was_led_on h k (call_of a g) ≡ true)
      × ((now h k ≡ Some (call_of a g)) ⊎ ((now h k ≡ None) × IsForgotWord g (w.calls a) × (uncleared (w.stages a) ≡ Some (k, g))))

  -- the open call of a key has an open word, and a leader before its settle
  pub record Held (w : World V) (k : ℕ) (c : CallId) : Type 0 where
    pub state : LeaderState
    pub open_word : w.calls c.caller ≡ word.Open state
    pub generation : state.generation ≡ c.generation
    pub stage : unsettled (w.stages c.caller) ≡ Some (k, c.generation)

  -- what a caller's stage, word and cell promise
  pub record Caller (h : List (Event ℕ V)) (w : World V) (a : ℕ) : Type 0 where
    pub good : Good h w a (w.stages a)
    pub live : (k : ℕ) (s : LeaderState) → was_led_on h k (call_of a s.generation) ≡ true → w.calls a ≡ word.Open s → opened h k ≡ Some (call_of a s.generation)
    pub forgot : (k : ℕ) (s : LeaderState) → w.calls a ≡ word.Forgot s → now h k ≢ Some (call_of a s.generation)
    pub empty : ticket (w.stages a) ≡ None → w.cells a ≡ None

  pub record Sound (first : ℕ) (h : List (Event ℕ V)) (w : World V) : Type 0 where
    pub past : Past first h w.generations
    pub keys : (k : ℕ) → GoodKey h w k (w.keys k)
    pub held : (k : ℕ) (c : CallId) → opened h k ≡ Some c → Held w k c
    pub callers : (a : ℕ) → Caller h w a

  pub sound_begins : (callers first : ℕ) → Sound first [] (first_world callers first)
  sound_begins callers first = record {
    past = past_begins first;
    keys = λ k. refl;
    held = λ k c is. cc;
    callers = λ a. record { good = tt; live = λ k s led is. cc; forgot = λ k s is. cc; empty = λ none. refl };
  }

  -- the call of an open word that was led is open
  pub live_open : (first : ℕ) (h : List (Event ℕ V)) (w : World V) (k : ℕ) (c : CallId) (s : LeaderState) → Sound first h w → was_led_on h k c ≡ true → w.calls c.caller ≡ word.Open s → s.generation ≡ c.generation → opened h k ≡ Some c
  live_open first h w k c s sound led is same =
      let alike : call_of c.caller s.generation ≡ c = ap (λ (n : ℕ). call_of c.caller n) same in
      subst (λ (z : CallId). opened h k ≡ Some z) alike ((sound.callers c.caller).live k s (subst (λ (z : CallId). was_led_on h k z ≡ true) (sym alike) led) is)
