-- the laws of schedules, for all settings
use Rattle.std.specs.Prelude.{◌≡◌, ◌≤◌, ◌+◌, ℕ, ◌⊎◌, Bool, List, [], ◌∷◌, ◌++◌, Some, nat_eq}
use Rattle.sf_history.specs.declared.call.CallId.{CallId}
use Rattle.sf_history.specs.History.{holds_call, current_call, answer_of}
use Rattle.sf_history.specs.Legal.{IsLegal}
use Rattle.sf_words.specs.declared.call_word.CallState.TheVariants as word
use Rattle.sf_steps_laws.specs.declared.operation.Stage.TheVariants.{Holding, Polling, Questioning}
use Rattle.sf_steps_laws.specs.declared.operation.CurrentStep.TheVariants.{Peek, Look}
use Rattle.sf_steps_laws.specs.declared.turn.Turn.{Turn}
use Rattle.sf_steps_laws.specs.declared.turn.Turn.TheVariants.{Step}
use Rattle.sf_steps_laws.specs.Events.{events_of, world_after, current_answer}
use Rattle.sf_steps_laws.specs.Schedules.{Setting, IsSchedule}
use Rattle.sf_steps_laws.specs.declared.letter.Letter.{Letter}
use Rattle.sf_steps_laws.specs.World.{World, first_world}
use Rattle.sf_steps_laws.specs.Turns.{run}
use Rattle.sf_steps_laws.specs.Closes.{closes, failed_closes}
use Rattle.sf_steps_laws.specs.Left.{Concerns, AreOthers, IsLeft}
use Rattle.sf_steps_laws.specs.Delivered.{delivers, IsRightDeliver, IsServed, Collects}

-- the events of each schedule are a legal history
abbrev pub SchedulesAreLegal : Type 0 → Type 0
SchedulesAreLegal V = (z : Setting) (s : List (Turn V)) → IsSchedule z s → IsLegal nat_eq (events_of z.callers z.first s)

-- whether the call is current on the place after a schedule
abbrev pub is_current_after : {V : Type 0} → ℕ → ℕ → List (Turn V) → ℕ → CallId → Bool
is_current_after callers first s k c = holds_call (current_call nat_eq (events_of callers first s) k) c

-- a question that its peek ends is right at the peek
abbrev pub PeeksAreRight : Type 0 → Type 0
PeeksAreRight V = (z : Setting) (s : List (Turn V)) → IsSchedule z s → (a k : ℕ) (c : CallId) (answer : Bool)
    → (world_after z.callers z.first s).stages a ≡ Questioning k c Peek → current_answer (world_after z.callers z.first s) k c Peek ≡ Some answer
    → answer ≡ is_current_after z.callers z.first s k c

-- one that its look ends is right at its peek, which the schedule p came to, or at the look
abbrev pub LooksAreRight : Type 0 → Type 0
LooksAreRight V = (z : Setting) (p rest : List (Turn V)) (a k : ℕ) (c : CallId) (answer : Bool) → IsSchedule z (p ++ Step a ∷ rest)
    → (world_after z.callers z.first p).stages a ≡ Questioning k c Peek → (world_after z.callers z.first (p ++ Step a ∷ [])).stages a ≡ Questioning k c Look
    → current_answer (world_after z.callers z.first (p ++ Step a ∷ rest)) k c Look ≡ Some answer
    → (answer ≡ is_current_after z.callers z.first p k c) ⊎ (answer ≡ is_current_after z.callers z.first (p ++ Step a ∷ rest) k c)

-- a question that is at its look has made its peek, after a front of the schedule
abbrev pub LooksHavePeeks : Type 0 → Type 0
LooksHavePeeks V = (z : Setting) (s : List (Turn V)) → IsSchedule z s → (a k : ℕ) (c : CallId) → (world_after z.callers z.first s).stages a ≡ Questioning k c Look
    → (p rest : List (Turn V)) × (s ≡ p ++ Step a ∷ rest) × ((world_after z.callers z.first p).stages a ≡ Questioning k c Peek) × ((world_after z.callers z.first (p ++ Step a ∷ [])).stages a ≡ Questioning k c Look)

-- each letter that a step delivers goes to a member that waits for its call, into an empty cell, and holds that call's answer, then and ever after
abbrev pub LettersAreAnswers : Type 0 → Type 0
LettersAreAnswers V = (z : Setting) (p rest : List (Turn V)) (a : ℕ) (m : CallId) (l : Letter V) → IsSchedule z (p ++ Step a ∷ rest)
    → delivers a ((world_after z.callers z.first p).stages a) ≡ Some (m, l)
    → IsRightDeliver (events_of z.callers z.first p) (world_after z.callers z.first p) m l × (answer_of (events_of z.callers z.first (p ++ Step a ∷ rest)) l.call ≡ Some (l.value, l.joiners))

-- such a step puts that letter into the member's cell, and says in its word that it is full
abbrev pub LettersArrive : Type 0 → Type 0
LettersArrive V = (z : Setting) (p : List (Turn V)) (a : ℕ) (m : CallId) (l : Letter V) → delivers a ((world_after z.callers z.first p).stages a) ≡ Some (m, l)
    → ((world_after z.callers z.first (p ++ Step a ∷ [])).cells m.caller ≡ Some l) × ((world_after z.callers z.first (p ++ Step a ∷ [])).calls m.caller ≡ word.Full m.generation)

-- who holds a ticket waits while its call is not handed out, or has the letter with that call's answer
abbrev pub TicketsAreServed : Type 0 → Type 0
TicketsAreServed V = (z : Setting) (s : List (Turn V)) → IsSchedule z s → (a k g : ℕ) (c : CallId)
    → ((world_after z.callers z.first s).stages a ≡ Holding k g c) ⊎ ((world_after z.callers z.first s).stages a ≡ Polling k g c) → IsServed (events_of z.callers z.first s) (world_after z.callers z.first s) a k g c

-- between two delivers into one cell, its owner collected the first
abbrev pub CellsAreCollected : Type 0 → Type 0
CellsAreCollected V = (z : Setting) (p between : List (Turn V)) (a b : ℕ) (m n : CallId) (l k : Letter V) → IsSchedule z (p ++ Step a ∷ (between ++ Step b ∷ [])) → n.caller ≡ m.caller
    → delivers a ((world_after z.callers z.first p).stages a) ≡ Some (m, l) → delivers b ((world_after z.callers z.first (p ++ Step a ∷ between)).stages b) ≡ Some (n, k)
    → (front back : List (Turn V)) × (between ≡ front ++ Step m.caller ∷ back) × Collects (world_after z.callers z.first (p ++ Step a ∷ front)) m.caller

-- between two delivers into one cell its owner collected the letter of the first
abbrev pub FirstLettersAreCollected : Type 0 → Type 0
FirstLettersAreCollected V = (z : Setting) (p between : List (Turn V)) (a b : ℕ) (m n : CallId) (l k : Letter V) → IsSchedule z (p ++ Step a ∷ (between ++ Step b ∷ [])) → n.caller ≡ m.caller
    → delivers a ((world_after z.callers z.first p).stages a) ≡ Some (m, l) → delivers b ((world_after z.callers z.first (p ++ Step a ∷ between)).stages b) ≡ Some (n, k)
    → (front back : List (Turn V)) × (between ≡ front ++ Step m.caller ∷ back) × Collects (world_after z.callers z.first (p ++ Step a ∷ front)) m.caller
    × ((world_after z.callers z.first (p ++ Step a ∷ front)).cells m.caller ≡ Some l)

-- a turn leaves those whom it does not concern alone, but for who enters or forgets the call that they lead and for the letter that they wait for
abbrev pub OthersAreLeft : Type 0 → Type 0
OthersAreLeft V = (z : Setting) (s : List (Turn V)) (t : Turn V) → IsSchedule z (s ++ t ∷ []) → (b : ℕ) → (Concerns (world_after z.callers z.first s) t b → ⊥)
    → IsLeft (world_after z.callers z.first s) (world_after z.callers z.first (s ++ t ∷ [])) b

-- so where a caller stands in its operation, with all that it remembers, is what its own turns made of it
abbrev pub OwnTurnsDecide : Type 0 → Type 0
OwnTurnsDecide V = (z : Setting) (s ts : List (Turn V)) → IsSchedule z (s ++ ts) → (b : ℕ) → AreOthers (world_after z.callers z.first s) ts b
    → ((world_after z.callers z.first (s ++ ts)).stages b ≡ (world_after z.callers z.first s).stages b)
    × ((world_after z.callers z.first (s ++ ts)).generations b ≡ (world_after z.callers z.first s).generations b)
    × ((world_after z.callers z.first (s ++ ts)).nexts b ≡ (world_after z.callers z.first s).nexts b)

-- a leader's exchange to close a call fails at most as often as there are callers
abbrev pub ClosesFailSeldom : Type 0 → Type 0
ClosesFailSeldom V = (z : Setting) (s : List (Turn V)) (a g : ℕ) → IsSchedule z s → failed_closes (first_world z.callers z.first) a g s ≤ z.callers

-- the failed closes of a schedule in two parts add up
abbrev pub FailedClosesAdd : Type 0 → Type 0
FailedClosesAdd V = (w : World V) (a g : ℕ) (p q : List (Turn V)) → failed_closes w a g (p ++ q) ≡ failed_closes w a g p + failed_closes (run w p) a g q

-- so it closes a call by at most one exchange more than there are callers
abbrev pub ClosesAreFew : Type 0 → Type 0
ClosesAreFew V = (z : Setting) (s : List (Turn V)) (a g : ℕ) → IsSchedule z s → closes (first_world z.callers z.first) a g s ≤ z.callers + 1

-- the closes of a schedule in two parts add up
abbrev pub ClosesAdd : Type 0 → Type 0
ClosesAdd V = (w : World V) (a g : ℕ) (p q : List (Turn V)) → closes w a g (p ++ q) ≡ closes w a g p + closes (run w p) a g q
