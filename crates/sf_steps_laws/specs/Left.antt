-- what a turn leaves to callers that it does not concern
use Rattle.std.specs.Prelude.{◌≡◌, ℕ, ◌⊎◌, List, [], ◌∷◌, Some, None}
use Rattle.sf_words.specs.declared.call_word.LeaderState.{LeaderState}
use Rattle.sf_words.specs.declared.call_word.CallState.TheVariants as word
use Rattle.sf_steps_laws.specs.declared.letter.Letter.{Letter}
use Rattle.sf_steps_laws.specs.declared.operation.Op.TheVariants as op
use Rattle.sf_steps_laws.specs.declared.operation.Stage.{Stage}
use Rattle.sf_steps_laws.specs.declared.operation.Stage.TheVariants.{Leading, Holding, Polling, Seconding, Settling}
use Rattle.sf_steps_laws.specs.declared.operation.SettleStep.TheVariants as settle
use Rattle.sf_steps_laws.specs.declared.turn.Turn.{Turn}
use Rattle.sf_steps_laws.specs.declared.turn.Turn.TheVariants as turn
use Rattle.sf_steps_laws.specs.World.{World}
use Rattle.sf_steps_laws.specs.Askings.{with_top}
use Rattle.sf_steps_laws.specs.Turns.{turned}

module _ {V : Type 0} where
  -- a turn concerns the caller that makes it, and the second of its chan
  abbrev pub Concerns : World V → Turn V → ℕ → Type 0
  Concerns w (turn.Start a (op.Ask k)) b = b ≡ a
  Concerns w (turn.Start a (op.Chan second k)) b = (b ≡ a) ⊎ (b ≡ second)
  Concerns w (turn.Start a (op.Settle v)) b = b ≡ a
  Concerns w (turn.Start a (op.Forget k)) b = b ≡ a
  Concerns w (turn.Start a (op.ForgetCall k c)) b = b ≡ a
  Concerns w (turn.Start a (op.Named k)) b = b ≡ a
  Concerns w (turn.Start a op.Poll) b = b ≡ a
  Concerns w (turn.Start a (op.Current k c)) b = b ≡ a
  Concerns w (turn.Step a) b = (b ≡ a) ⊎ (w.stages b ≡ Seconding a)
  Concerns w (turn.Leave a) b = (b ≡ a) ⊎ (w.stages b ≡ Seconding a)

  -- no turn concerns the caller
  abbrev pub AreOthers : World V → List (Turn V) → ℕ → Type 0
  AreOthers w [] b = Unit {0}
  AreOthers w (t ∷ ts) b = (Concerns w t b → ⊥) × AreOthers (turned w t) ts b

  -- the caller leads a call that it has not settled
  abbrev pub LeadsUnsettled : Stage V → Type 0
  LeadsUnsettled (Leading k g own) = Unit {0}
  LeadsUnsettled (Settling k g own v settle.Peek) = Unit {0}
  LeadsUnsettled (Settling k g own v (settle.Close seen)) = Unit {0}
  LeadsUnsettled _ = ⊥

  -- the caller holds a ticket
  abbrev pub HoldsTicket : Stage V → Type 0
  HoldsTicket (Holding k g c) = Unit {0}
  HoldsTicket (Polling k g c) = Unit {0}
  HoldsTicket _ = ⊥

  -- somebody entered the call that the caller leads
  pub record IsEntered (w w' : World V) (b : ℕ) : Type 0 where
    pub leads : LeadsUnsettled (w.stages b)
    pub seen : LeaderState
    pub joiner : ℕ
    pub was : w.calls b ≡ word.Open seen
    pub is : w'.calls b ≡ word.Open (with_top seen joiner)
    pub cell : w'.cells b ≡ w.cells b

  -- a Forget closed the call that it leads
  pub record IsForgotten (w w' : World V) (b : ℕ) : Type 0 where
    pub leads : LeadsUnsettled (w.stages b)
    pub seen : LeaderState
    pub was : w.calls b ≡ word.Open seen
    pub is : w'.calls b ≡ word.Forgot seen
    pub cell : w'.cells b ≡ w.cells b

  -- its letter was delivered
  pub record IsFilled (w w' : World V) (b : ℕ) : Type 0 where
    pub holds : HoldsTicket (w.stages b)
    pub generation : ℕ
    pub letter : Letter V
    pub was : w.calls b ≡ word.Listed generation
    pub is : w'.calls b ≡ word.Full generation
    pub empty : w.cells b ≡ None
    pub filled : w'.cells b ≡ Some letter

  -- its stage, generation and next word stay, and its call word and cell too, but for these three changes
  pub record IsLeft (w w' : World V) (b : ℕ) : Type 0 where
    pub stage : w'.stages b ≡ w.stages b
    pub generation : w'.generations b ≡ w.generations b
    pub next : w'.nexts b ≡ w.nexts b
    pub word : ((w'.calls b ≡ w.calls b) × (w'.cells b ≡ w.cells b)) ⊎ IsEntered w w' b ⊎ IsForgotten w w' b ⊎ IsFilled w w' b
