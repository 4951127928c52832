-- what a stage tells at once: its place, who asks, and which callers it knows of
use Rattle.std.specs.Prelude.{ℕ, ◌≤◌, Bool, true, false, Option, Some, None, unwrap_or}
use Rattle.sf_history.specs.declared.call.CallId.{CallId}
use Rattle.sf_words.specs.declared.call_word.CallState.{CallState}
use Rattle.sf_words.specs.declared.call_word.CallState.TheVariants as word
use Rattle.sf_steps_laws.specs.declared.operation.Stage.{Stage}
use Rattle.sf_steps_laws.specs.declared.operation.Stage.TheVariants.{Free, Leading, Holding, Polling, Seconding, Asking, Settling, Forgetting, Naming, Questioning}
use Rattle.sf_steps_laws.specs.declared.operation.AskStep.{AskStep}
use Rattle.sf_steps_laws.specs.declared.operation.AskStep.TheVariants as ask
use Rattle.sf_steps_laws.specs.declared.operation.ForgetStep.{ForgetStep}
use Rattle.sf_steps_laws.specs.declared.operation.ForgetStep.TheVariants as forget
use Rattle.sf_steps_laws.specs.declared.operation.SettleStep.{SettleStep}
use Rattle.sf_steps_laws.specs.declared.operation.SettleStep.TheVariants as settle

-- the caller field of an optional caller: 0 for none
abbrev pub field_of : Option ℕ → ℕ
field_of o = unwrap_or o 0

-- the caller on top of the call word's list, 0 for none
abbrev pub top_in : CallState → ℕ
top_in word.Free = 0
top_in (word.Open s) = field_of s.top
top_in (word.Forgot s) = field_of s.top
top_in (word.Done s) = field_of s.top
top_in (word.Listed g) = 0
top_in (word.Full g) = 0

-- the caller of an optional member, 0 for none
abbrev pub caller_of : Option CallId → ℕ
caller_of None = 0
caller_of (Some m) = m.caller

-- the top of a list that the step remembers, 0 for none
abbrev pub ask_top : AskStep → ℕ
ask_top (ask.Look failed) = 0
ask_top (ask.Peek c) = 0
ask_top (ask.ReadyOwn seen forgot) = 0
ask_top (ask.ReadyLead seen forgot) = 0
ask_top (ask.Lead seen forgot) = 0
ask_top (ask.ReadyJoin c seen) = field_of seen.top
ask_top (ask.Link c seen) = field_of seen.top
ask_top (ask.Enter c seen) = field_of seen.top

abbrev pub forget_top : ForgetStep → ℕ
forget_top (forget.Look failed) = 0
forget_top (forget.Peek c) = 0
forget_top (forget.Close c seen) = field_of seen.top
forget_top (forget.FirstClear c) = 0
forget_top (forget.LastClear c) = 0

-- the top of the list, or the next of its members, that the step remembers, 0 for none
abbrev pub settle_top : SettleStep → ℕ
settle_top settle.Peek = 0
settle_top (settle.Close seen) = field_of seen.top
settle_top (settle.Clear top) = field_of top
settle_top (settle.Count joiners m top) = top
settle_top (settle.Follow joiners m) = 0
settle_top (settle.PeekMember joiners m next) = field_of next
settle_top (settle.Deliver joiners m next) = field_of next
settle_top (settle.PeekOwn joiners) = 0
settle_top (settle.DeliverOwn joiners m) = 0

-- the member that the step is about, 0 for none
abbrev pub settle_member : SettleStep → ℕ
settle_member settle.Peek = 0
settle_member (settle.Close seen) = 0
settle_member (settle.Clear top) = 0
settle_member (settle.Count joiners m top) = m
settle_member (settle.Follow joiners m) = m
settle_member (settle.PeekMember joiners m next) = m
settle_member (settle.Deliver joiners m next) = m.caller
settle_member (settle.PeekOwn joiners) = 0
settle_member (settle.DeliverOwn joiners m) = m.caller

-- how many members the step has counted
abbrev pub settle_count : SettleStep → ℕ
settle_count (settle.Count joiners m top) = joiners
settle_count _ = 0

module _ {V : Type 0} where
  -- the place of the caller's operation or call; 1 where it has none
  abbrev pub place_in : Stage V → ℕ
  place_in Free = 1
  place_in (Leading k g own) = k
  place_in (Holding k g c) = k
  place_in (Polling k g c) = k
  place_in (Seconding first) = 1
  place_in (Asking k s step) = k
  place_in (Settling k g own v step) = k
  place_in (Forgetting k target step) = k
  place_in (Naming k) = k
  place_in (Questioning k c step) = k

  -- the caller makes an ask or a chan, or is the second of one
  abbrev pub is_asking : Stage V → Bool
  is_asking (Seconding first) = true
  is_asking (Asking k s step) = true
  is_asking _ = false

  -- the second of the chan that the caller makes
  abbrev pub second_in : Stage V → Option ℕ
  second_in (Asking k s step) = s
  second_in _ = None

  -- the caller that makes the chan of which this one is the second
  abbrev pub first_in : Stage V → Option ℕ
  first_in (Seconding first) = Some first
  first_in _ = None

  -- the callers that the stage knows of: of the own channel, of the member at hand, and on top of what is left of the list
  abbrev pub own_in : Stage V → ℕ
  own_in (Leading k g own) = caller_of own
  own_in (Settling k g own v step) = caller_of own
  own_in _ = 0

  abbrev pub member_in : Stage V → ℕ
  member_in (Settling k g own v step) = settle_member step
  member_in _ = 0

  abbrev pub list_in : Stage V → ℕ
  list_in (Asking k s step) = ask_top step
  list_in (Settling k g own v step) = settle_top step
  list_in (Forgetting k target step) = forget_top step
  list_in _ = 0

  -- how many members of its list the caller has counted
  abbrev pub count_in : Stage V → ℕ
  count_in (Settling k g own v step) = settle_count step
  count_in _ = 0

  -- all of them are among so many callers, and no more than those are counted
  abbrev pub AreWithin : ℕ → Stage V → Type 0
  AreWithin callers s = (own_in s ≤ callers) × (member_in s ≤ callers) × (list_in s ≤ callers) × (count_in s ≤ callers)

  -- the caller settles
  abbrev pub is_settling : Stage V → Bool
  is_settling (Settling k g own v step) = true
  is_settling _ = false
