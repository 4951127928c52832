-- The headline over a chain, by names, as laws over what the calls leave.
use Rattle.std.specs.Prelude.{◌≡◌, ◌≢◌, ℕ, ◌≤◌, List, ◌++◌, length, nat_eq, None, Some, slice_get}
use Rattle.sf_history.specs.declared.call.CallId.{CallId}
use Rattle.sf_history.specs.History.{IsNew, open_call}
use Rattle.sf_keyed_tells.specs.Tells.{call_of}
use Rattle.sf_keyed_words.specs.Rule.{slot_of}
use Rattle.sf_keyed_ages.specs.Rule.{Has}
use Rattle.sf_keyed.specs.Headline.{WasClosed}
use Rattle.sf_keyed_chain.specs.declared.chain.Stamp.{Stamp}
use Rattle.sf_keyed_chain.specs.Chains.{Sight, AllGoOn, IsEndedIn, IsGoneBefore, TokenState}
use Rattle.sf_keyed_chain.specs.Notes.{HasLearned, IsNoteOf, ToldState}
use Rattle.sf_keyed_chain.specs.Went.{IsClosedAt, IsCurrent, IsIdleAt, IsJoinedAt, IsLedAt}
use Rattle.sf_keyed_chain.specs.OneHistory.{IsOneHistory, call_at}

-- an asking that leads does so where the name has no open call: none in the table where it leads, and in each before that it is gone; its call is new, and the name's open call then
abbrev pub LeadsTheNewCall : Type 0
LeadsTheNewCall = (cells : List ℕ) (k : ℕ) (f : TokenState) (p : Stamp) (old new : List Sight) (l : IsLedAt cells k f p old new)
    → (open_call nat_eq (l.led.before.front.seen ++ l.led.is.0.others) k ≡ None) × IsNew (l.led.before.front.seen ++ l.led.is.0.others) (call_of f.call.call) × (open_call nat_eq l.led.after.front.seen k ≡ Some (call_of f.call.call)) × IsGoneBefore k f.table new

-- one that joins enters the name's open call
abbrev pub EntersTheOpenCall : Type 0
EntersTheOpenCall = (cells : List ℕ) (k : ℕ) (t : TokenState) (old new : List Sight) (j : IsJoinedAt cells k t old new) → open_call nat_eq (j.joined.before.front.seen ++ j.joined.is.0.adds.others) k ≡ Some (call_of t.call.call)

-- an asking never leads or enters a call that a Forget seen before it had closed
abbrev pub NeverAForgottenCall : Type 0
NeverAForgottenCall = (cells : List ℕ) (k at : ℕ) (c : CallId) (old new : List Sight) (s : Sight) → slice_get old at ≡ Some s → WasClosed s.front.seen k c
    → ((f : TokenState) (p : Stamp) → f.table ≡ at → IsLedAt cells k f p old new → call_of f.call.call ≢ c) × ((t : TokenState) → t.table ≡ at → IsJoinedAt cells k t old new → call_of t.call.call ≢ c)

-- after a Forget of the name that the caller knows of, no stamp of it that the caller knew before the Forget is current
abbrev pub NoStampFromBefore : Type 0
NoStampFromBefore = (k : ℕ) (stamp : Stamp) (old new later : List Sight) (s : Sight) → slice_get old stamp.table ≡ Some s → stamp.slot ≡ slot_of s.front.group.sizes k → Has s.known.facts stamp.slot stamp.age
    → AllGoOn old new → IsEndedIn k stamp.table old new → AllGoOn new later → IsCurrent stamp later → ⊥

-- nor one that a Forget had closed which another caller had seen, whose note was heard before
abbrev pub NeverAForgottenCallOfAnother : Type 0
NeverAForgottenCallOfAnother = (cells : List ℕ) (k at : ℕ) (c : CallId) (note : List ToldState) (told : ToldState) (heard old new : List Sight) → slice_get note at ≡ Some told → WasClosed told.seen.seen k c → HasLearned note heard → AllGoOn heard old
    → ((f : TokenState) (p : Stamp) → f.table ≡ at → IsLedAt cells k f p old new → call_of f.call.call ≢ c) × ((t : TokenState) → t.table ≡ at → IsJoinedAt cells k t old new → call_of t.call.call ≢ c)

-- after a Forget of the name, no stamp of it that its caller knew before is current for another that has heard that caller's note
abbrev pub NoStampFromBeforeAnother : Type 0
NoStampFromBeforeAnother = (k : ℕ) (stamp : Stamp) (old new later : List Sight) (note : List ToldState) (heard now : List Sight) (s : Sight) → slice_get old stamp.table ≡ Some s → stamp.slot ≡ slot_of s.front.group.sizes k → Has s.known.facts stamp.slot stamp.age
    → AllGoOn old new → IsEndedIn k stamp.table old new → AllGoOn new later → IsNoteOf later note → HasLearned note heard → AllGoOn heard now → IsCurrent stamp now → ⊥

-- Whatever an asking or a Forget comes to, the name's history over the tables that its caller knows, one behind the other up to the one where it ended, is legal; its open call at the end is the call that was led or joined, and there is none after a Forget
abbrev pub CallsStandInOneHistory : Type 0
CallsStandInOneHistory = (cells : List ℕ) (k : ℕ) (old new : List Sight) → length new ≤ 24
    → ((f : TokenState) (p : Stamp) → IsLedAt cells k f p old new → IsOneHistory k f.table (Some (call_at f.table (call_of f.call.call))) new)
    × ((t : TokenState) → IsJoinedAt cells k t old new → IsOneHistory k t.table (Some (call_at t.table (call_of t.call.call))) new)
    × ((at call : ℕ) → IsClosedAt k at call old new → IsOneHistory k at None new)
    × ((at : ℕ) → IsIdleAt k at old new → IsOneHistory k at None new)
