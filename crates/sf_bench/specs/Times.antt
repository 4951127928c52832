-- the least and the median of some times
use Rattle.std.specs.Prelude.{ℕ, ◌+◌, ◌<◌, ◌≤◌, List, All, Contains, count_by, nat_lt, length}

-- one of them, and none is below it
pub record IsLeast (times : List ℕ) (least : ℕ) : Type 0 where
  pub found : Contains times least
  pub lowest : All (λ time. least ≤ time) times

-- one of them; fewer than half of them are below it, and fewer than half above
pub record IsMedian (times : List ℕ) (median : ℕ) : Type 0 where
  pub found : Contains times median
  pub below : count_by (λ time. nat_lt time median) times + count_by (λ time. nat_lt time median) times < length times
  pub above : count_by (λ time. nat_lt median time) times + count_by (λ time. nat_lt median time) times < length times
