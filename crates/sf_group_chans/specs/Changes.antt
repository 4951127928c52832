-- turns of others than two askers that changed a word
use Rattle.std.specs.Prelude.{◌≡◌, ℕ, ◌+◌, ◌≤◌, ◌&&◌, ◌||◌, not, List, [], ◌∷◌, ◌++◌, if◌then◌else◌, ◌⊎◌, Some}
use Rattle.sf_steps_laws.specs.declared.operation.Stage.{Stage}
use Rattle.sf_steps_laws.specs.declared.operation.Stage.TheVariants as stage
use Rattle.sf_steps_laws.specs.declared.operation.AskStep.{AskStep}
use Rattle.sf_steps_laws.specs.declared.turn.Turn.{Turn}
use Rattle.sf_steps_laws.specs.World.{World}
use Rattle.sf_steps_laws.specs.Turns.{turned}
use Rattle.sf_group_rows.specs.declared.sizes.Sizes.{Sizes}
use Rattle.sf_group_steps.specs.declared.view.View.{View}
use Rattle.sf_group_steps.specs.Words.{Word, key, HasWord, IsOthers, code_at}
use Rattle.sf_group_steps.specs.View.{world_of}
use Rattle.sf_group_steps.specs.Changes.{is_by, changes_some, tried, IsKeyOrTried}
use Rattle.sf_group_steps.specs.Hears.{BeginsWith}
use Rattle.sf_group_chans.specs.declared.askers.Askers.{Askers}
use Rattle.sf_group_chans.specs.Both.{GoBoth, Ask}

module _ {V : Type 0} where
  -- how many of the turns are by neither of the two, and change one of the words
  abbrev pub changes_apart : ℕ → ℕ → List Word → World V → List (Turn V) → ℕ
  changes_apart a b xs w [] = 0
  changes_apart a b xs w (t ∷ ts) = (if not (is_by a t || is_by b t) && changes_some w t xs then 1 else 0) + changes_apart a b xs (turned w t) ts

  -- a word said after the turns what it said, or one by neither changed it
  abbrev pub IsLeft : Askers → World V → World V → List (Turn V) → Type 0
  IsLeft c u w ts = (xs : List Word) (y : Word) → HasWord xs y → IsOthers c.number y → IsOthers c.second y → (code_at w y ≡ code_at u y) ⊎ (1 ≤ changes_apart c.number c.second xs u ts)

  -- a step that leaves the others' words as they are
  pub record StayBoth (c : Askers) (v w : View V) (p q : Stage V) : Type 0 where
    pub goes : GoBoth c v w p q [] [] 0 0
    pub asks : Ask c w p q
    pub word : IsLeft c (world_of c.sizes v.known.turns) (world_of c.sizes w.known.turns) goes.first.turns

  -- two who lost: another changed the word since it had this number
  pub record LoseBoth (c : Askers) (y : Word) (n : ℕ) (v w : View V) (p q : Stage V) : Type 0 where
    pub goes : GoBoth c v w p q [] [] 0 0
    pub asks : Ask c w p q
    pub changed : (xs : List Word) → HasWord xs y → code_at (world_of c.sizes v.known.turns) y ≡ n → 1 ≤ changes_apart c.number c.second xs (world_of c.sizes v.known.turns) goes.first.turns
    pub tries : IsKeyOrTried c.number y (world_of c.sizes v.known.turns) goes.first.turns

  -- after so many failed exchanges for a place: each was by a word that another had changed
  pub record TryBoth (c : Askers) (n : ℕ) (v w : View V) (p q : Stage V) : Type 0 where
    pub goes : GoBoth c v w p q [] [] 0 0
    pub asks : Ask c w p q
    pub count : (xs : List Word) → ((y : Word) → HasWord (key c.place ∷ tried c.number (world_of c.sizes v.known.turns) goes.first.turns) y → HasWord xs y) → n ≤ changes_apart c.number c.second xs (world_of c.sizes v.known.turns) goes.first.turns

  -- the same, where the caller's next step of the asking is this
  abbrev pub StayAt : Askers → View V → View V → AskStep → Type 0
  StayAt c v w step = StayBoth c v w (stage.Asking c.place (Some c.second) step) (stage.Seconding c.number)

  -- two who knew these turns know those now: beyond what both had known when they were joined, so many are by neither of the two and changed the place's key word, or a call word that the first tried
  pub record HaveChanged (z : Sizes) (a b k n : ℕ) (first second now : List (Turn V)) : Type 0 where
    pub met : List (Turn V)
    pub begins : BeginsWith met first
    pub second_begins : BeginsWith met second
    pub more : List (Turn V)
    pub known : now ≡ met ++ more
    pub changes : n ≤ changes_apart a b (key k ∷ tried a (world_of z met) more) (world_of z met) more
