-- orders of events that are legal and respect their times
use Rattle.std.specs.Prelude.{◌≡◌, ◌≤◌, ℕ, Bool, List, ◌∷◌, ◌++◌, Option, Some, zip, length, Contains, IsPermutation}
use Rattle.sf_history.specs.declared.event.Event.{Event}
use Rattle.sf_history.specs.Legal.{IsLegal}
use Rattle.sf_replay.specs.declared.record.Interval.{Interval}
use Rattle.sf_replay_timed.specs.declared.judging.InTime.{InTime}
use Rattle.sf_replay_timed.specs.declared.judging.InTime.TheVariants.{Legal, NoOrder, Undecided}

-- no event stands before one that had ended when it began: each time ends no sooner than those before it begin
abbrev pub RespectsTime : List (Option Interval) → Type 0
RespectsTime ts = (p q : List (Option Interval)) (a b : Interval) → ts ≡ p ++ Some b ∷ q → Contains p (Some a) → a.from ≤ b.to

-- these events with these times are those events with those times, in an order that is a legal history and respects the times
pub record IsLegalOrderOf {K V : Type 0} (eq : K → K → Bool) (es : List (Event K V)) (ts : List (Option Interval)) (ordered : List (Event K V)) (times : List (Option Interval)) : Type 0 where
  pub once : IsPermutation (zip es ts) (zip ordered times)
  pub even : length ordered ≡ length times
  pub legal : IsLegal eq ordered
  pub in_time : RespectsTime times

-- what is found of events with their times: where it is an order, that is legal and respects the times
abbrev pub IsFoundIn : {K V : Type 0} → (K → K → Bool) → List (Event K V) → List (Option Interval) → InTime K V → Type 0
IsFoundIn eq es ts (Legal history times) = IsLegalOrderOf eq es ts history times.items
IsFoundIn eq es ts (NoOrder witness) = Unit {0}
IsFoundIn eq es ts (Undecided event) = Unit {0}
