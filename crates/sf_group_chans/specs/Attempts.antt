-- how attempts of an asking with a second end
use Rattle.std.specs.Prelude.{◌≡◌, ℕ, ◌<◌, Bool, [], ◌∷◌, Option, Some}
use Rattle.sf_history.specs.declared.call.CallId.{CallId}
use Rattle.sf_history.specs.declared.event.Event.TheVariants as event
use Rattle.sf_words.specs.declared.key_word.KeyState.{KeyState}
use Rattle.sf_words.specs.KeyWord.{key_code}
use Rattle.sf_words.specs.declared.call_word.CallState.{CallState}
use Rattle.sf_words.specs.CallWord.{call_code}
use Rattle.sf_steps_laws.specs.declared.operation.Stage.{Stage}
use Rattle.sf_steps_laws.specs.declared.operation.Stage.TheVariants as stage
use Rattle.sf_group_steps.specs.declared.view.View.{View}
use Rattle.sf_group_steps.specs.declared.asking.AskAttempt.{AskAttempt}
use Rattle.sf_group_steps.specs.declared.asking.AskAttempt.TheVariants.{Led, Joined, Lost}
use Rattle.sf_group_steps.specs.Words.{key, call}
use Rattle.sf_group_steps.specs.Attempts.{IsAfter}
use Rattle.sf_group_chans.specs.declared.askers.Askers.{Askers}
use Rattle.sf_group_chans.specs.Both.{call_of, member_of, GoBoth, MayLook, lost_first, lost_second}
use Rattle.sf_group_chans.specs.Changes.{LoseBoth, TryBoth}

module _ {V : Type 0} where
  -- the caller leads its new call, of which the second's member is the own channel, after this call
  abbrev pub HasLed : Askers → Option CallId → View V → View V → Type 0
  HasLed c after v w = GoBoth c v w (stage.Leading c.place c.generation (Some (member_of c))) (stage.Holding c.place c.second_generation (call_of c)) (event.Lead c.number c.place (call_of c) (Some (member_of c)) ∷ []) [] 1 1
      × IsAfter c.sizes c.place w (event.Lead c.number c.place (call_of c) (Some (member_of c))) after

  -- the second has joined the call, and the caller is free
  abbrev pub HasJoined : Askers → CallId → View V → View V → Type 0
  HasJoined c d v w = GoBoth c v w stage.Free (stage.Holding c.place c.second_generation d) [] (event.Enter c.second c.place d (member_of c) ∷ []) 0 1

  -- how one attempt of an asking ends
  abbrev pub HasAttempted : Askers → Bool → View V → View V → AskAttempt → Type 0
  HasAttempted c last v w (Led after) = HasLed c after v w
  HasAttempted c last v w (Joined d) = HasJoined c d v w
  HasAttempted c last v w Lost = TryBoth c 1 v w (lost_first c last) (lost_second c last)

  -- how the end of an attempt that leads ends, which saw this key word
  abbrev pub HasLedOn : Askers → Bool → KeyState → View V → View V → AskAttempt → Type 0
  HasLedOn c last seen v w (Led after) = HasLed c after v w
  HasLedOn c last seen v w (Joined d) = ⊥
  HasLedOn c last seen v w Lost = LoseBoth c (key c.place) (key_code seen) v w (lost_first c last) (lost_second c last)

  -- how the end of one that joins ends, which saw this call word
  abbrev pub HasJoinedOn : Askers → CallId → Bool → CallState → View V → View V → AskAttempt → Type 0
  HasJoinedOn c called last seen v w (Led after) = ⊥
  HasJoinedOn c called last seen v w (Joined d) = (d ≡ called) × HasJoined c d v w
  HasJoinedOn c called last seen v w Lost = LoseBoth c (call called.caller) (call_code seen) v w (lost_first c last) (lost_second c last)

  -- while an asking tries: so many of its tries failed
  pub record Trying (c : Askers) (tries failed : ℕ) (v w : View V) : Type 0 where
    pub at : Stage V
    pub second_at : Stage V
    pub done : TryBoth c failed v w at second_at
    pub may : failed < tries → MayLook c w
    pub free : failed ≡ tries → at ≡ stage.Free
    pub second_free : failed ≡ tries → second_at ≡ stage.Free

  -- how an asking of so many tries ends
  abbrev pub HasTried : Askers → ℕ → View V → View V → AskAttempt → Type 0
  HasTried c tries v w (Led after) = HasLed c after v w
  HasTried c tries v w (Joined d) = HasJoined c d v w
  HasTried c tries v w Lost = TryBoth c tries v w stage.Free stage.Free
