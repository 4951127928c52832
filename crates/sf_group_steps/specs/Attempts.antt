-- how attempts of an asking end
use Rattle.std.specs.Prelude.{◌≡◌, ℕ, ◌<◌, Bool, true, false, List, [], ◌∷◌, ◌++◌, Option, None, nat_eq}
use Rattle.sf_steps_laws.specs.declared.operation.Stage.{Stage}
use Rattle.sf_steps_laws.specs.declared.operation.Stage.TheVariants as stage
use Rattle.sf_steps_laws.specs.declared.operation.AskStep.TheVariants as ask
use Rattle.sf_group_rows.specs.declared.sizes.Sizes.{Sizes}
use Rattle.sf_group_steps.specs.declared.view.View.{View}
use Rattle.sf_group_steps.specs.Words.{key, call}
use Rattle.sf_group_steps.specs.View.{history_of}
use Rattle.sf_history.specs.declared.call.CallId.{CallId}
use Rattle.sf_history.specs.declared.event.Event.{Event}
use Rattle.sf_history.specs.declared.event.Event.TheVariants as event
use Rattle.sf_history.specs.History.{current_call}
use Rattle.sf_words.specs.declared.key_word.KeyState.{KeyState}
use Rattle.sf_words.specs.KeyWord.{key_code}
use Rattle.sf_words.specs.declared.call_word.CallState.{CallState}
use Rattle.sf_words.specs.CallWord.{call_code}
use Rattle.sf_group_steps.specs.declared.asking.AskAttempt.{AskAttempt}
use Rattle.sf_group_steps.specs.declared.asking.AskAttempt.TheVariants.{Led, Joined, Lost}
use Rattle.sf_group_steps.specs.Stands.{Goes, MayLook}
use Rattle.sf_group_steps.specs.Changes.{Loses, Tries}

module _ {V : Type 0} where
  -- where a caller stands that did not win its exchange: it looks again, or it left
  abbrev pub lost_stage : ℕ → Bool → Stage V
  lost_stage k false = stage.Asking k None (ask.Look true)
  lost_stage k true = stage.Free

  -- the seat knows the event last, and this call was the place's current one before it
  pub record IsAfter (z : Sizes) (k : ℕ) (w : View V) (e : Event ℕ V) (after : Option CallId) : Type 0 where
    pub before : List (Event ℕ V)
    pub last : history_of z w.known.turns ≡ before ++ e ∷ []
    pub current : current_call nat_eq before k ≡ after

  -- the caller leads its new call, after this one
  abbrev pub HasLedAfter : Sizes → ℕ → ℕ → ℕ → View V → View V → Option CallId → Type 0
  HasLedAfter z a k g v w after = Goes z a v w (stage.Leading k g None) (event.Lead a k (record { caller = a; generation = g }) None ∷ []) 1 × IsAfter z k w (event.Lead a k (record { caller = a; generation = g }) None) after

  -- how one attempt of an asking ends
  abbrev pub HasAttempted : Sizes → ℕ → ℕ → ℕ → Bool → View V → View V → AskAttempt → Type 0
  HasAttempted z a g k last v w (Led after) = HasLedAfter z a k g v w after
  HasAttempted z a g k last v w (Joined c) = Goes z a v w (stage.Holding k g c) (event.Enter a k c (record { caller = a; generation = g }) ∷ []) 1
  HasAttempted z a g k last v w Lost = Tries z a k 1 v w (lost_stage k last)

  -- how the end of an attempt that leads ends, which saw this key word: where it lost, the word was changed since it said so
  abbrev pub HasLed : Sizes → ℕ → ℕ → ℕ → Bool → KeyState → View V → View V → AskAttempt → Type 0
  HasLed z a g k last seen v w (Led after) = HasLedAfter z a k g v w after
  HasLed z a g k last seen v w (Joined c) = ⊥
  HasLed z a g k last seen v w Lost = Loses z a (key k) (key_code seen) v w (lost_stage k last)

  -- how the end of one that joins ends, which saw this call word
  abbrev pub HasJoined : Sizes → ℕ → ℕ → ℕ → CallId → Bool → CallState → View V → View V → AskAttempt → Type 0
  HasJoined z a g k c last seen v w (Led after) = ⊥
  HasJoined z a g k c last seen v w (Joined d) = (d ≡ c) × Goes z a v w (stage.Holding k g d) (event.Enter a k d (record { caller = a; generation = g }) ∷ []) 1
  HasJoined z a g k c last seen v w Lost = Loses z a (call c.caller) (call_code seen) v w (lost_stage k last)

  -- while an asking tries: so many of its tries failed
  pub record Trying (z : Sizes) (a k tries failed : ℕ) (v w : View V) : Type 0 where
    pub at : Stage V
    pub done : Tries z a k failed v w at
    pub may : failed < tries → MayLook z a k w
    pub free : failed ≡ tries → at ≡ stage.Free

  -- how an asking of so many tries ends
  abbrev pub HasTried : Sizes → ℕ → ℕ → ℕ → ℕ → View V → View V → AskAttempt → Type 0
  HasTried z a g k tries v w (Led after) = HasLedAfter z a k g v w after
  HasTried z a g k tries v w (Joined c) = Goes z a v w (stage.Holding k g c) (event.Enter a k c (record { caller = a; generation = g }) ∷ []) 1
  HasTried z a g k tries v w Lost = Tries z a k tries v w stage.Free
