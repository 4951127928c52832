-- the world of the step core: how many callers there are, words, cells, next generations, and each caller's stage in its operation.
-- Callers and places are known by their numbers.
use Rattle.std.specs.Prelude.{ℕ, zero, suc, ◌+◌, ◌==◌, Bool, true, false, ◌&&◌, not, nat_lt, if◌then◌else◌, Option, Some, None}
use Rattle.sf_history.specs.declared.call.CallId.{CallId}
use Rattle.sf_words.specs.declared.key_word.KeyState.{KeyState}
use Rattle.sf_words.specs.declared.key_word.KeyState.TheVariants.{Never, Names}
use Rattle.sf_words.specs.declared.call_word.LeaderState.{LeaderState}
use Rattle.sf_words.specs.declared.call_word.CallState.{CallState}
use Rattle.sf_words.specs.declared.call_word.CallState.TheVariants as word
use Rattle.sf_steps_laws.specs.declared.letter.Letter.{Letter}
use Rattle.sf_steps_laws.specs.declared.operation.Stage.{Stage}
use Rattle.sf_steps_laws.specs.declared.operation.Stage.TheVariants as stage
use Rattle.sf_lists.specs.Functions.{put}
use Rattle.sf_words.specs.declared.limits.TheConstants.{LARGEST_GENERATION}

pub record World (V : Type 0) : Type 0 where
  pub callers : ℕ
  pub keys : ℕ → KeyState
  pub calls : ℕ → CallState
  pub nexts : ℕ → Option ℕ
  pub cells : ℕ → Option (Letter V)
  pub generations : ℕ → ℕ
  pub stages : ℕ → Stage V

module _ {V : Type 0} where
  -- the world in which nothing has happened: all words 0, all cells empty, all callers free
  abbrev pub first_world : ℕ → ℕ → World V
  first_world callers first = record {
    callers = callers;
    keys = λ _. Never;
    calls = λ _. word.Free;
    nexts = λ _. None;
    cells = λ _. None;
    generations = λ _. first;
    stages = λ _. stage.Free;
  }

  -- the world after a store of one word, or of one caller's stage
  abbrev pub with_key : World V → ℕ → KeyState → World V
  with_key w k v = record w { keys = put w.keys k v }

  abbrev pub with_call : World V → ℕ → CallState → World V
  with_call w a v = record w { calls = put w.calls a v }

  abbrev pub with_next : World V → ℕ → Option ℕ → World V
  with_next w a v = record w { nexts = put w.nexts a v }

  abbrev pub with_cell : World V → ℕ → Option (Letter V) → World V
  with_cell w a v = record w { cells = put w.cells a v }

  abbrev pub with_stage : World V → ℕ → Stage V → World V
  with_stage w a s = record w { stages = put w.stages a s }

  -- the world in which the caller has used one more generation
  abbrev pub with_used : World V → ℕ → World V
  with_used w a = record w { generations = put w.generations a (w.generations a + 1) }

-- the call that a caller's next generation makes, as a call or as a member
abbrev pub next_id : {V : Type 0} → World V → ℕ → CallId
next_id w a = record { caller = a; generation = w.generations a }

-- a caller is spent that has used its last generation
abbrev pub is_spent : {V : Type 0} → World V → ℕ → Bool
is_spent w a = nat_lt LARGEST_GENERATION (w.generations a)

-- the key word names the call, not cleared
abbrev pub key_of : CallId → KeyState
key_of c = Names c.caller c.generation false

-- the same, cleared
abbrev pub cleared_key_of : CallId → KeyState
cleared_key_of c = Names c.caller c.generation true

-- what an exchange of a key word compares
abbrev pub same_key : KeyState → KeyState → Bool
same_key Never Never = true
same_key Never (Names a g cleared) = false
same_key (Names a g cleared) Never = false
same_key (Names a g true) (Names b i true) = (a == b) && (g == i)
same_key (Names a g true) (Names b i false) = false
same_key (Names a g false) (Names b i true) = false
same_key (Names a g false) (Names b i false) = (a == b) && (g == i)

abbrev pub same_top : Option ℕ → Option ℕ → Bool
same_top None None = true
same_top None (Some b) = false
same_top (Some a) None = false
same_top (Some a) (Some b) = a == b

abbrev pub same_flag : Bool → Bool → Bool
same_flag true b = b
same_flag false b = not b

-- what an exchange of an open call word compares: the whole of it
abbrev pub is_open_with : LeaderState → CallState → Bool
is_open_with seen word.Free = false
is_open_with seen (word.Open s) = (s.generation == seen.generation) && (same_flag s.own seen.own && same_top s.top seen.top)
is_open_with seen (word.Forgot s) = false
is_open_with seen (word.Done s) = false
is_open_with seen (word.Listed g) = false
is_open_with seen (word.Full g) = false

-- what an open call word of this generation says
abbrev pub open_in : ℕ → CallState → Option LeaderState
open_in g word.Free = None
open_in g (word.Open s) = if s.generation == g then Some s else None
open_in g (word.Forgot s) = None
open_in g (word.Done s) = None
open_in g (word.Listed i) = None
open_in g (word.Full i) = None

-- the call word is of this generation, and a Forget closed its call
abbrev pub is_forgot_in : ℕ → CallState → Bool
is_forgot_in g word.Free = false
is_forgot_in g (word.Open s) = false
is_forgot_in g (word.Forgot s) = s.generation == g
is_forgot_in g (word.Done s) = false
is_forgot_in g (word.Listed i) = false
is_forgot_in g (word.Full i) = false

-- the generation of a call word, 0 for one that was never made ready
abbrev pub generation_in : CallState → ℕ
generation_in word.Free = 0
generation_in (word.Open s) = s.generation
generation_in (word.Forgot s) = s.generation
generation_in (word.Done s) = s.generation
generation_in (word.Listed g) = g
generation_in (word.Full g) = g

abbrev pub is_full : CallState → Bool
is_full word.Free = false
is_full (word.Open s) = false
is_full (word.Forgot s) = false
is_full (word.Done s) = false
is_full (word.Listed g) = false
is_full (word.Full g) = true

-- how many callers stand on the list that begins with this top, as next words hold it: at most this many
abbrev pub count : Option ℕ → ℕ → (ℕ → Option ℕ) → ℕ
count None most nexts = 0
count (Some m) zero nexts = 0
count (Some m) (suc most) nexts = count (nexts m) most nexts + 1

-- one more is counted; there are no more members than callers
abbrev pub one_more : ℕ → ℕ → ℕ
one_more callers n = if nat_lt n callers then n + 1 else n
