-- turns that change a key word, or an open call word that was seen
use Rattle.std.specs.Prelude.{◌≡◌, ◌≤◌, ◌+◌, ℕ, true, false, ◌&&◌, not, if◌then◌else◌, List, [], ◌∷◌}
use Rattle.sf_words.specs.declared.call_word.LeaderState.{LeaderState}
use Rattle.sf_steps_laws.specs.declared.turn.Turn.{Turn}
use Rattle.sf_steps_laws.specs.World.{World, same_key, is_open_with}
use Rattle.sf_steps_laws.specs.Turns.{turned, run}

module _ {V : Type 0} where
  -- how many of the turns change the place's key word
  abbrev pub key_changes : World V → ℕ → List (Turn V) → ℕ
  key_changes w k [] = 0
  key_changes w k (t ∷ ts) = (if same_key ((turned w t).keys k) (w.keys k) then 0 else 1) + key_changes (turned w t) k ts

  -- how many of the turns change the caller's call word from what was seen
  abbrev pub word_changes : World V → LeaderState → ℕ → List (Turn V) → ℕ
  word_changes w seen l [] = 0
  word_changes w seen l (t ∷ ts) = (if is_open_with seen (w.calls l) && not (is_open_with seen ((turned w t).calls l)) then 1 else 0) + word_changes (turned w t) seen l ts

-- a key word that differs was changed by one of the turns
abbrev pub KeysChange : Type 0 → Type 0
KeysChange V = (w : World V) (k : ℕ) (ts : List (Turn V)) → same_key ((run w ts).keys k) (w.keys k) ≡ false → 1 ≤ key_changes w k ts

-- a call word that is no longer as it was seen was changed by one of the turns
abbrev pub WordsChange : Type 0 → Type 0
WordsChange V = (w : World V) (seen : LeaderState) (l : ℕ) (ts : List (Turn V)) → is_open_with seen (w.calls l) ≡ true → is_open_with seen ((run w ts).calls l) ≡ false → 1 ≤ word_changes w seen l ts
