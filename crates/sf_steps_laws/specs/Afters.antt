-- what an asking that is to lead knows of the call that was current before its own
use Rattle.std.specs.Prelude.{◌≡◌, ℕ, Bool, true, false, List, Option, Some, None, nat_eq}
use Rattle.sf_history.specs.declared.call.CallId.{CallId}
use Rattle.sf_history.specs.History.{current_call}
use Rattle.sf_words.specs.declared.key_word.KeyState.{KeyState}
use Rattle.sf_words.specs.declared.key_word.KeyState.TheVariants.{Never, Names}
use Rattle.sf_steps_laws.specs.declared.operation.Stage.TheVariants.{Asking}
use Rattle.sf_steps_laws.specs.declared.operation.AskStep.TheVariants.{Lead}
use Rattle.sf_steps_laws.specs.declared.turn.Turn.{Turn}
use Rattle.sf_steps_laws.specs.World.{same_key}
use Rattle.sf_steps_laws.specs.Events.{events_of, world_after}
use Rattle.sf_steps_laws.specs.Schedules.{Setting, IsSchedule}

-- the call that was current before a lead, by what its asking read
abbrev pub after_of : KeyState → Bool → Option CallId
after_of Never forgot = None
after_of (Names b g true) forgot = None
after_of (Names b g false) true = None
after_of (Names b g false) false = Some (record { caller = b; generation = g })

-- an asking whose exchange of the key word is to win knows which call is current
abbrev pub LeadsKnowCurrent : Type 0 → Type 0
LeadsKnowCurrent V = (z : Setting) (s : List (Turn V)) → IsSchedule z s → (a k : ℕ) (x : Option ℕ) (seen : KeyState) (forgot : Bool)
    → (world_after z.callers z.first s).stages a ≡ Asking k x (Lead seen forgot) → same_key ((world_after z.callers z.first s).keys k) seen ≡ true
    → current_call nat_eq (events_of z.callers z.first s) k ≡ after_of seen forgot
