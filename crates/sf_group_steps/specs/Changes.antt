-- turns of others that changed a word
use Rattle.std.specs.Prelude.{◌≡◌, ℕ, ◌+◌, ◌≤◌, ◌==◌, Bool, false, ◌&&◌, ◌||◌, not, List, [], ◌∷◌, ◌++◌, if◌then◌else◌, ◌⊎◌}
use Rattle.sf_history.specs.declared.event.Event.{Event}
use Rattle.sf_steps_laws.specs.declared.operation.Stage.{Stage}
use Rattle.sf_steps_laws.specs.declared.operation.Stage.TheVariants as stage
use Rattle.sf_steps_laws.specs.declared.operation.AskStep.{AskStep}
use Rattle.sf_steps_laws.specs.declared.operation.AskStep.TheVariants as ask
use Rattle.sf_steps_laws.specs.declared.operation.ForgetStep.{ForgetStep}
use Rattle.sf_steps_laws.specs.declared.operation.ForgetStep.TheVariants as forget
use Rattle.sf_steps_laws.specs.declared.turn.Turn.{Turn}
use Rattle.sf_steps_laws.specs.declared.turn.Turn.TheVariants as turn
use Rattle.sf_steps_laws.specs.World.{World}
use Rattle.sf_steps_laws.specs.Turns.{turned}
use Rattle.sf_group_rows.specs.declared.sizes.Sizes.{Sizes}
use Rattle.sf_group_steps.specs.declared.view.View.{View}
use Rattle.sf_group_steps.specs.Words.{Word, key, call, next, HasWord, IsOthers, code_at}
use Rattle.sf_group_steps.specs.View.{world_of}
use Rattle.sf_group_steps.specs.Stands.{Goes}

-- the call word that the next step of an asking tries to exchange
abbrev pub tries_at : AskStep → List Word
tries_at (ask.Enter c seen) = call c.caller ∷ []
tries_at _ = []

-- the same of a forget
abbrev pub forget_tries : ForgetStep → List Word
forget_tries (forget.Close c seen) = call c.caller ∷ []
forget_tries _ = []

module _ {V : Type 0} where
  -- the turn is the caller's
  abbrev pub is_by : ℕ → Turn V → Bool
  is_by a (turn.Start b o) = b == a
  is_by a (turn.Step b) = b == a
  is_by a (turn.Leave b) = b == a

  -- the turn changes one of the words
  abbrev pub changes_some : World V → Turn V → List Word → Bool
  changes_some w t [] = false
  changes_some w t (x ∷ xs) = not (code_at (turned w t) x == code_at w x) || changes_some w t xs

  -- how many of the turns are others' that change one of the words
  abbrev pub changes : ℕ → List Word → World V → List (Turn V) → ℕ
  changes a xs w [] = 0
  changes a xs w (t ∷ ts) = (if not (is_by a t) && changes_some w t xs then 1 else 0) + changes a xs (turned w t) ts

  abbrev pub tries_in : Stage V → List Word
  tries_in (stage.Asking k s step) = tries_at step
  tries_in (stage.Forgetting k target step) = forget_tries step
  tries_in _ = []

  abbrev pub tries_by : ℕ → World V → Turn V → List Word
  tries_by a w (turn.Start b o) = []
  tries_by a w (turn.Step b) = if b == a then tries_in (w.stages a) else []
  tries_by a w (turn.Leave b) = []

  -- the call words that the caller's exchanges tried in these turns
  abbrev pub tried : ℕ → World V → List (Turn V) → List Word
  tried a w [] = []
  tried a w (t ∷ ts) = tries_by a w t ++ tried a (turned w t) ts

  -- the word is a key word, or a call word that the caller tried
  abbrev pub IsKeyOrTried : ℕ → Word → World V → List (Turn V) → Type 0
  IsKeyOrTried a (key k) w ts = Unit {0}
  IsKeyOrTried a (call b) w ts = HasWord (tried a w ts) (call b)
  IsKeyOrTried a (next b) w ts = ⊥

  -- a step that leaves others' words as they are: a word says after it what it said, or another changed it
  pub record Stays (z : Sizes) (a : ℕ) (v w : View V) (p : Stage V) : Type 0 where
    pub goes : Goes z a v w p [] 0
    pub word : (xs : List Word) (y : Word) → HasWord xs y → IsOthers a y → (code_at (world_of z w.known.turns) y ≡ code_at (world_of z v.known.turns) y) ⊎ (1 ≤ changes a xs (world_of z v.known.turns) goes.turns)

  -- one who lost: another changed the word since it had this number
  pub record Loses (z : Sizes) (a : ℕ) (y : Word) (n : ℕ) (v w : View V) (p : Stage V) : Type 0 where
    pub goes : Goes z a v w p [] 0
    pub changed : (xs : List Word) → HasWord xs y → code_at (world_of z v.known.turns) y ≡ n → 1 ≤ changes a xs (world_of z v.known.turns) goes.turns
    pub tries : IsKeyOrTried a y (world_of z v.known.turns) goes.turns

  -- after so many failed exchanges for a place: each was by a word that another had changed
  pub record Tries (z : Sizes) (a k n : ℕ) (v w : View V) (p : Stage V) : Type 0 where
    pub goes : Goes z a v w p [] 0
    pub count : (xs : List Word) → ((y : Word) → HasWord (key k ∷ tried a (world_of z v.known.turns) goes.turns) y → HasWord xs y) → n ≤ changes a xs (world_of z v.known.turns) goes.turns

  -- the clause of Busy: beyond what was known, so many turns are others' that changed the place's key word, or a call word that an exchange tried
  abbrev pub HasChanged : Sizes → ℕ → ℕ → ℕ → List (Turn V) → List (Turn V) → Type 0
  HasChanged z a k n old new = (more : List (Turn V)) × (new ≡ old ++ more) × (n ≤ changes a (key k ∷ tried a (world_of z old) more) (world_of z old) more)

  -- a step that leaves others' words as they are, and adds these events
  pub record Went (z : Sizes) (a : ℕ) (v w : View V) (p : Stage V) (es : List (Event ℕ V)) : Type 0 where
    pub goes : Goes z a v w p es 0
    pub word : (xs : List Word) (y : Word) → HasWord xs y → IsOthers a y → (code_at (world_of z w.known.turns) y ≡ code_at (world_of z v.known.turns) y) ⊎ (1 ≤ changes a xs (world_of z v.known.turns) goes.turns)
