-- jobs: a flight, and the work that answers what it is settled with
use Rattle.std.specs.Prelude.{◌≡◌, ℕ, ◌≤◌, List, length, All}
use Rattle.sf_group_rows.specs.Tokens.{GroupValue, FlightValue}
use Rattle.sf_group_rows.specs.Fitting.{FitOf}

pub record JobValue (V W : Type 0) : Type 0 where
  pub flight : FlightValue V
  pub work : W

module _ {V W : Type 0} where
  -- the work may be done, and what it answers fits
  pub record IsRunnable (fits : FitOf V) (may_run : W → Type 0) (answers : W → V → Type 0) (j : JobValue V W) : Type 0 where
    pub runs : may_run j.work
    pub fitting : (v : V) → answers j.work v → fits j.flight.place j.flight.call v j.flight.seen

  -- jobs of a group, and room for as many workers, of which none has begun
  pub record HasRoom (g : GroupValue) (jobs : List (JobValue V W)) (number begun room : ℕ) : Type 0 where
    pub own : All (λ j. j.flight.group ≡ g) jobs
    pub counted : number ≡ length jobs
    pub few : number ≤ 64
    pub none : begun ≡ 0
    pub enough : number ≤ room
