-- What contracts see of directories, desks and places.
use Rattle.std.specs.Prelude.{◌≡◌, ℕ, ◌+◌, ◌==◌, List, [], ◌∷◌, cond, Option, Some, unwrap_or, map}
use Rattle.atomic_table.specs.Seated.{TableId}
use Rattle.sf_dir.specs.declared.rule.DirectorySizes.{DirectorySizes}
use Rattle.sf_dir.specs.declared.rule.Entry.{Entry}
use Rattle.sf_dir.specs.declared.rule.View.{View}
use Rattle.sf_dir.specs.Names.{Name, IsNameList, AddsNone, BeginsWith}
use Rattle.sf_dir.specs.Rule.{IsSound, IsNamed, names_of}
use Rattle.sf_dir.specs.Walk.{HoldsSpare}

-- which directory: its table, how many places it has, how long its keys may be, how many desks it has, and the seed of its hash
pub record DirectoryId : Type 0 where
  pub table : TableId
  pub keys : ℕ
  pub key_bytes : ℕ
  pub desks : ℕ
  pub seed0 : ℕ
  pub seed1 : ℕ

pub record DeskState : Type 0 where
  pub directory : DirectoryId
  pub number : ℕ
  pub seen : List Name

pub record PlaceState : Type 0 where
  pub directory : DirectoryId
  pub number : ℕ
  pub key : List ℕ

abbrev pub directory_of : TableId → DirectorySizes → DirectoryId
directory_of t z = record { table = t; keys = z.keys; key_bytes = z.key_bytes; desks = z.desks; seed0 = z.seed0; seed1 = z.seed1 }

abbrev pub sizes_of : View → DirectorySizes
sizes_of v = unwrap_or v.sizes (record { keys = 0; key_bytes = 0; desks = 0; seed0 = 0; seed1 = 0 })

-- a desk's seat between its calls: it stands for that desk alone
pub record IsDesk (number : ℕ) (spare : Option ℕ) (v : View) : Type 0 where
  pub sizes : v.sizes ≡ Some (sizes_of v)
  pub from : v.from ≡ number
  pub to : v.to ≡ number + 1
  pub told : v.told ≡ []
  pub has : HoldsSpare (sizes_of v) v spare
  pub sound : IsSound (sizes_of v) v.seen

-- the key of the first name at a place
abbrev pub key_at : List Entry → ℕ → List ℕ
key_at [] place = []
key_at (e ∷ h) place = cond (e.place == place) e.key (key_at h place)

-- the seat is of this directory
abbrev pub IsSeatOf : DirectoryId → TableId → View → Type 0
IsSeatOf d t v = d ≡ directory_of t (sizes_of v)

-- a place's seat: it stands for no desk, and has seen the place's name
pub record IsPlace (number : ℕ) (v : View) : Type 0 where
  pub sizes : v.sizes ≡ Some (sizes_of v)
  pub told : v.told ≡ []
  pub named : IsNamed v.seen number
  pub sound : IsSound (sizes_of v) v.seen

-- what contracts see of a desk with this number and view, and of a place
abbrev pub desk_state : TableId → View → ℕ → DeskState
desk_state t v number = record { directory = directory_of t (sizes_of v); number = number; seen = names_of v.seen }

abbrev pub place_state : DirectoryId → View → ℕ → PlaceState
place_state d v number = record { directory = d; number = number; key = key_at v.seen number }

-- a desk of this directory with this number that has seen nothing yet, and one with any number
abbrev pub new_desk : DirectoryId → ℕ → DeskState
new_desk d number = record { directory = d; number = number; seen = [] }

abbrev pub IsNewDesk : DirectoryId → DeskState → Type 0
IsNewDesk d desk = (desk.directory ≡ d) × (desk.seen ≡ [])

abbrev pub numbers_of : List DeskState → List ℕ
numbers_of desks = map (λ desk. desk.number) desks

-- it is the same desk
abbrev pub IsSameDesk : DeskState → DeskState → Type 0
IsSameDesk old new = (new.directory ≡ old.directory) × (new.number ≡ old.number)

-- the desk has now seen this too, and has put no name there
pub record Learns (old new : DeskState) (told : List Name) : Type 0 where
  pub names : IsNameList old.directory.keys old.directory.desks new.seen
  pub adds : AddsNone old.number old.seen new.seen
  pub begins : BeginsWith new.seen told
