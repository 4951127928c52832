-- what a step prints: its own line, a line for each event that it adds, and a line for its answer; and what a refused schedule prints
use Rattle.std.specs.Prelude.{ℕ, Bool, true, false, List, [], ◌∷◌, ◌++◌, Option, Some, None, Result, Ok, Err, codes, decimal}
use Rattle.sf_history.specs.declared.call.CallId.{CallId}
use Rattle.sf_history.specs.declared.event.Event.{Event}
use Rattle.sf_history.specs.declared.event.Event.TheVariants as event
use Rattle.sf_history.specs.Calls.{call_text}
use Rattle.sf_history.specs.Hits.{hit_text}
use Rattle.sf_words.specs.declared.key_word.KeyState.{KeyState}
use Rattle.sf_words.specs.declared.key_word.KeyState.TheVariants.{Never, Names}
use Rattle.sf_words.specs.declared.call_word.LeaderState.{LeaderState}
use Rattle.sf_words.specs.declared.call_word.CallState.{CallState}
use Rattle.sf_words.specs.declared.call_word.CallState.TheVariants as word
use Rattle.sf_steps_text.specs.declared.refusal.ScheduleRefusal.{ScheduleRefusal}
use Rattle.sf_steps_text.specs.declared.refusal.ScheduleRefusal.TheVariants.{BadSchedule, Memory}
use Rattle.sf_steps.specs.declared.trace.Act.{Act}
use Rattle.sf_steps.specs.declared.trace.Act.TheVariants.{Look, Peek, Ready, Lead, Link, Enter, Close, Clear, Follow, Deliver, Collect}
use Rattle.sf_steps.specs.declared.trace.Step.{Step}

-- the values of schedules: a text, or the text of an error
abbrev pub Outcome : Type 0
Outcome = Result (List ℕ) (List ℕ)

abbrev pub named_text : ℕ → ℕ → List ℕ
named_text a g = call_text (record { caller = a; generation = g })

abbrev pub key_text : KeyState → List ℕ
key_text Never = codes "0"
key_text (Names a g false) = named_text a g
key_text (Names a g true) = named_text a g ++ codes " cleared"

-- a caller, 0 for none
abbrev pub top_text : Option ℕ → List ℕ
top_text None = codes "0"
top_text (Some a) = decimal a

abbrev pub own_text : Bool → List ℕ
own_text false = []
own_text true = codes " own"

abbrev pub leader_text : ℕ → List ℕ → LeaderState → List ℕ
leader_text a tag s = named_text a s.generation ++ (codes " " ++ (tag ++ (own_text s.own ++ (codes " " ++ top_text s.top))))

abbrev pub word_text : ℕ → CallState → List ℕ
word_text a word.Free = named_text a 0 ++ codes " free 0"
word_text a (word.Open s) = leader_text a (codes "open") s
word_text a (word.Forgot s) = leader_text a (codes "forgot") s
word_text a (word.Done s) = leader_text a (codes "done") s
word_text a (word.Listed g) = named_text a g ++ codes " listed 0"
word_text a (word.Full g) = named_text a g ++ codes " full 0"

abbrev pub done_text : Bool → List ℕ
done_text true = codes "yes"
done_text false = codes "no"

abbrev pub ready_text : Bool → List ℕ
ready_text true = codes "listed"
ready_text false = codes "open"

abbrev pub closing_text : Bool → List ℕ
closing_text true = codes "forgot"
closing_text false = codes "done"

abbrev pub full_text : Bool → List ℕ
full_text true = codes "full"
full_text false = codes "listed"

abbrev pub is_exchange : Act → Bool
is_exchange (Lead k c done) = true
is_exchange (Enter c done) = true
is_exchange (Close c forgot done) = true
is_exchange (Clear k c done) = true
is_exchange _ = false

-- what stands after the caller's number
abbrev pub act_text : Act → List ℕ
act_text (Look k found) = codes "look " ++ (decimal k ++ (codes " " ++ key_text found))
act_text (Peek a found) = codes "peek " ++ word_text a found
act_text (Ready c listed) = codes "ready " ++ (call_text c ++ (codes " " ++ ready_text listed))
act_text (Lead k c done) = codes "lead " ++ (decimal k ++ (codes " " ++ (call_text c ++ (codes " " ++ done_text done))))
act_text (Link top) = codes "link " ++ top_text top
act_text (Enter c done) = codes "enter " ++ (call_text c ++ (codes " " ++ done_text done))
act_text (Close c forgot done) = codes "close " ++ (call_text c ++ (codes " " ++ (closing_text forgot ++ (codes " " ++ done_text done))))
act_text (Clear k c done) = codes "clear " ++ (decimal k ++ (codes " " ++ (call_text c ++ (codes " " ++ done_text done))))
act_text (Follow m next) = codes "follow " ++ (decimal m ++ (codes " " ++ top_text next))
act_text (Deliver m) = codes "deliver " ++ call_text m
act_text (Collect m full) = codes "collect " ++ (call_text m ++ (codes " " ++ full_text full))

abbrev pub joiners_text : ℕ → List ℕ
joiners_text n = codes " joiners=" ++ decimal n

abbrev pub outcome_text : Outcome → List ℕ
outcome_text (Ok t) = t
outcome_text (Err t) = codes "error " ++ t

abbrev pub own_member_text : Option CallId → List ℕ
own_member_text None = []
own_member_text (Some m) = codes " own=" ++ call_text m

abbrev pub closed_text : Option CallId → List ℕ
closed_text None = codes "idle"
closed_text (Some c) = codes "closed " ++ call_text c

abbrev pub event_text : Event ℕ Outcome → List ℕ
event_text (event.Lead a k c own) = codes "= lead " ++ (decimal k ++ (codes " " ++ (call_text c ++ (own_member_text own ++ codes "\n"))))
event_text (event.Enter a k c m) = codes "= enter " ++ (decimal k ++ (codes " " ++ (call_text c ++ (codes " " ++ (call_text m ++ codes "\n")))))
event_text (event.Forget a k closed) = codes "= forget " ++ (decimal k ++ (codes " " ++ (closed_text closed ++ codes "\n")))
event_text (event.ForgetCall a k c hit) = codes "= forgetcall " ++ (decimal k ++ (codes " " ++ (call_text c ++ (codes " " ++ (hit_text hit ++ codes "\n")))))
event_text (event.Settle a c v joiners) = codes "= settle " ++ (call_text c ++ (codes " " ++ (outcome_text v ++ (joiners_text joiners ++ codes "\n"))))
event_text (event.Handed a c) = codes "= handed " ++ (call_text c ++ codes "\n")

abbrev pub events_text : List (Event ℕ Outcome) → List ℕ
events_text [] = []
events_text (e ∷ es) = event_text e ++ events_text es

abbrev pub answer_text : Option Bool → List ℕ
answer_text None = []
answer_text (Some false) = codes "> no\n"
answer_text (Some true) = codes "> yes\n"

abbrev pub step_text : Step Outcome → List ℕ
step_text s = decimal s.caller ++ (codes " " ++ (act_text s.act ++ (codes "\n" ++ (events_text s.events.items ++ answer_text s.answer))))

-- a trace is its steps, one after the other
abbrev pub trace_text : List (Step Outcome) → List ℕ
trace_text [] = []
trace_text (s ∷ ss) = step_text s ++ trace_text ss

-- the one line of a refused schedule
abbrev pub refusal_text : ScheduleRefusal → List ℕ
refusal_text (BadSchedule n) = codes "line " ++ (decimal n ++ codes ": not a turn of this schedule")
refusal_text Memory = codes "out of memory"
