-- letters: what a step puts into a member's cell, and what takes it out
use Rattle.std.specs.Prelude.{◌≡◌, ℕ, ◌⊎◌, true, false, List, Option, Some, None}
use Rattle.sf_history.specs.declared.call.CallId.{CallId}
use Rattle.sf_history.specs.declared.event.Event.{Event}
use Rattle.sf_history.specs.History.{is_handed, answer_of}
use Rattle.sf_steps_laws.specs.declared.letter.Letter.{Letter}
use Rattle.sf_steps_laws.specs.declared.operation.Stage.{Stage}
use Rattle.sf_steps_laws.specs.declared.operation.Stage.TheVariants.{Holding, Polling, Settling}
use Rattle.sf_steps_laws.specs.declared.operation.SettleStep.{SettleStep}
use Rattle.sf_steps_laws.specs.declared.operation.SettleStep.TheVariants as settle
use Rattle.sf_words.specs.declared.call_word.CallState.TheVariants as word
use Rattle.sf_steps_laws.specs.World.{World, is_full}

module _ {V : Type 0} where
  abbrev pub settle_delivers : ℕ → CallId → V → SettleStep → Option (CallId × Letter V)
  settle_delivers k c v (settle.Deliver joiners m next) = Some (m, record { place = k; call = c; value = v; joiners = joiners })
  settle_delivers k c v (settle.DeliverOwn joiners m) = Some (m, record { place = k; call = c; value = v; joiners = joiners })
  settle_delivers k c v _ = None

  -- the letter that the next step of the caller, which is at this stage, delivers, and the member that it is for
  abbrev pub delivers : ℕ → Stage V → Option (CallId × Letter V)
  delivers a (Settling k g own v step) = settle_delivers k (record { caller = a; generation = g }) v step
  delivers a _ = None

  -- a deliver is right: the member holds a ticket of the letter's call and waits, the letter holds that call's answer, and the member's cell is empty
  pub record IsRightDeliver (h : List (Event ℕ V)) (w : World V) (m : CallId) (l : Letter V) : Type 0 where
    pub ticket : (w.stages m.caller ≡ Holding l.place m.generation l.call) ⊎ (w.stages m.caller ≡ Polling l.place m.generation l.call)
    pub waits : w.calls m.caller ≡ word.Listed m.generation
    pub answered : answer_of h l.call ≡ Some (l.value, l.joiners)
    pub empty : w.cells m.caller ≡ None

  -- the next step of the caller takes a letter out of its cell
  pub record Collects (w : World V) (a : ℕ) : Type 0 where
    pub place : ℕ
    pub generation : ℕ
    pub call : CallId
    pub polls : w.stages a ≡ Polling place generation call
    pub full : is_full (w.calls a) ≡ true

  -- one who holds a ticket of the call waits for it, which is not handed out, or has the letter with its answer
  abbrev pub IsServed : List (Event ℕ V) → World V → ℕ → ℕ → ℕ → CallId → Type 0
  IsServed h w a k g c = ((w.calls a ≡ word.Listed g) × (w.cells a ≡ None) × (is_handed h c ≡ false))
      ⊎ ((v : V) × (joiners : ℕ) × (w.calls a ≡ word.Full g) × (w.cells a ≡ Some (record { place = k; call = c; value = v; joiners = joiners })) × (answer_of h c ≡ Some (v, joiners)))
