-- from a turn of the core to what a seat of two may do and what the two then know
use Rattle.std.proofs.Common.{◌≡◌, ℕ, ◌+◌, List, [], ◌∷◌, ◌++◌, refl, sym, ap, ◌∙◌, subst, inl, inr, arith}
use Rattle.std.proofs.lemmas.List.{append-nil}
use mathlib.Core.Logic.{dite}
use native.Mathlib.Decide.{ℕ_discrete}
use Rattle.sf_history.specs.declared.event.Event.{Event}
use Rattle.sf_history.specs.History.{own_events}
use Rattle.sf_steps_laws.specs.declared.operation.Stage.{Stage}
use Rattle.sf_steps_laws.specs.declared.turn.Turn.{Turn}
use Rattle.sf_steps_laws.specs.World.{World, first_world}
use Rattle.sf_steps_laws.specs.Turns.{run}
use Rattle.sf_steps_laws.proofs.Named.{IsAlone}
use Rattle.sf_steps_laws.proofs.RightAnswers.{run_append}
use Rattle.sf_group_rows.specs.declared.sizes.Sizes.{Sizes}
use Rattle.sf_group_steps.specs.declared.view.View.{View}
use Rattle.sf_group_steps.specs.Words.{Word, IsOthers, code_at, Writes}
use Rattle.sf_group_steps.specs.View.{AreBy, setting_of, callers_of, all_of, world_of, history_of}
use Rattle.sf_group_steps.specs.Plays.{Comes, Moves, Made}
use Rattle.sf_group_steps.proofs.Ways.{Ran, Does}
use Rattle.sf_group_chans.specs.declared.askers.Askers.{Askers}
use Rattle.sf_group_chans.specs.Both.{alone, SitBoth, Ask, GoBoth}
use Rattle.sf_group_chans.specs.Changes.{StayBoth}
use Rattle.sf_group_chans.proofs.Alone.{Serves, made_alone, has_first, has_second, first_others, second_others, Stand, stand, goes_from}
use Rattle.sf_group_chans.proofs.Counting.{apart_append, apart_once}

module _ {V : Type 0} where
  pub all_both : (c : Askers) (v : View V) (p q : Stage V) → SitBoth c v p q → all_of v ≡ c.number ∷ c.second ∷ []
  all_both c v p q sit = ap (λ l. v.known.callers ++ callers_of l) sit.told ∙ (append-nil v.known.callers ∙ sit.callers)

  pub moves_both : (c : Askers) (v : View V) (p q : Stage V) (x : Word) (f : ℕ → ℕ) (turns : ℕ → List (Turn V)) → SitBoth c v p q → IsAlone p → Serves q c.number
      → ((s : List (Turn V)) → Comes c.sizes v s → Stand c v p q s → (n : ℕ) → n ≡ code_at (world_of c.sizes s) x → AreBy (c.number ∷ c.second ∷ []) (turns n) × Does c.sizes s x (f n) (turns n))
      → Moves c.sizes v x f turns
  moves_both c v p q x f turns sit free serves does = (
    sit.cells,
    λ s m n found small.
        let d = does s m (stand c v p q s sit free serves m) n found in (
          subst (λ who. AreBy who (turns n)) (sym (all_both c v p q sit)) d.0,
          d.1.ran.allowed,
          subst (λ (u : World V). Writes c.sizes.callers (world_of c.sizes s) u x (f n)) (sym d.1.ran.world) d.1.writes,
          ap (λ (u : World V). u.cells) d.1.ran.world ∙ d.1.cells,
        ),
  )

  -- where turns of the two come to
  pub record Ends (c : Askers) (w u : World V) (p q : Stage V) (m n : ℕ) : Type 0 where
    pub first : u.stages c.number ≡ p
    pub second : u.stages c.second ≡ q
    pub used : u.generations c.number ≡ w.generations c.number + m
    pub second_used : u.generations c.second ≡ w.generations c.second + n

  -- what the two know after these turns
  abbrev pub go_both : (c : Askers) (v w : View V) (p q p' q' : Stage V) (ts : List (Turn V)) (u : World V) (es x y : List (Event ℕ V)) (m n : ℕ) → SitBoth c v p q → IsAlone p → Serves q c.number → (o : Made c.sizes v w ts)
      → Ran (setting_of c.sizes) (history_of c.sizes o.before) (world_of c.sizes o.before) ts u es → own_events c.number es ≡ x → own_events c.second es ≡ y → Ends c (world_of c.sizes o.before) u p' q' m n → GoBoth c v w p' q' x y m n
  go_both c v w p q p' q' ts u es x y m n sit free serves o ran own second_own ends =
      let z : Sizes = c.sizes in record {
        callers = ap (λ (k : View V). k.known.callers) o.view ∙ all_both c v p q sit;
        told = ap (λ (k : View V). k.told) o.view;
        cells = ap (λ (k : View V). k.cells) o.view;
        first = goes_from z c.number (alone c.number v) (alone c.number w) p p' ts u es x m sit.first (made_alone z c.number v w ts (has_first c v p q sit) o) (first_others c v p q o.before sit free o.comes) ran ends.first own ends.used;
        second = goes_from z c.second (alone c.second v) (alone c.second w) q q' ts u es y n sit.second (made_alone z c.second v w ts (has_second c v p q sit) o) (second_others c v p q o.before sit serves o.comes) ran ends.second second_own ends.second_used;
      }

  pub ask_on : (c : Askers) (v w : View V) (p q p' q' : Stage V) → Ask c v p q → GoBoth c v w p' q' [] [] 0 0 → Ask c w p' q'
  ask_on c v w p q p' q' ask goes = record {
    sit = record { callers = goes.callers; told = goes.told; cells = goes.cells; first = goes.first.sits; second = goes.second.sits };
    apart = ask.apart;
    next = let is = ask.next in let used = goes.first.used in omega (arith, is, used);
    second_next = let is = ask.second_next in let used = goes.second.used in omega (arith, is, used);
  }

  -- the world before a step, after others
  pub before_is : (z : Sizes) (v w : View V) (ts : List (Turn V)) → (o : Made z v w ts) → world_of z o.before ≡ run (world_of z v.known.turns) o.comes.later.between
  before_is z v w ts o = ap (world_of z) o.comes.later.turns ∙ run_append (first_world z.callers z.first) v.known.turns o.comes.later.between

  -- a step that leaves the others' words alone
  pub stay_both : (c : Askers) (v w : View V) (p q p' q' : Stage V) (ts : List (Turn V)) (u : World V) → Ask c v p q → IsAlone p → Serves q c.number → (o : Made c.sizes v w ts)
      → Ran (setting_of c.sizes) (history_of c.sizes o.before) (world_of c.sizes o.before) ts u [] → Ends c (world_of c.sizes o.before) u p' q' 0 0
      → ((y : Word) → IsOthers c.number y → IsOthers c.second y → code_at u y ≡ code_at (world_of c.sizes o.before) y) → StayBoth c v w p' q'
  stay_both c v w p q p' q' ts u ask free serves o ran ends alike =
      let z : Sizes = c.sizes in
      let between : List (Turn V) = o.comes.later.between in
      let w₀ : World V = world_of z v.known.turns in
      let mid : World V = run w₀ between in
      let turns_is : w.known.turns ≡ o.before ++ ts = ap (λ (y : View V). y.known.turns) o.view in
      let world_is : world_of z w.known.turns ≡ u = ap (world_of z) turns_is ∙ (run_append (first_world z.callers z.first) o.before ts ∙ ran.world) in
      let goes = go_both c v w p q p' q' ts u [] [] [] 0 0 ask.sit free serves o ran refl refl ends in
      record {
        goes = goes;
        asks = ask_on c v w p q p' q' ask goes;
        word = λ xs y has first second.
            let now_is : code_at (world_of z w.known.turns) y ≡ code_at mid y = ap (λ (x : World V). code_at x y) world_is ∙ (alike y first second ∙ ap (λ (x : World V). code_at x y) (before_is z v w ts o)) in
            dite (ℕ_discrete (code_at mid y) (code_at w₀ y))
            (λ e. inl (now_is ∙ e))
            (λ k. inr (let one = apart_once c.number c.second xs y between w₀ (o.comes.later.others c.number (has_first c v p q ask.sit)) (o.comes.later.others c.second (has_second c v p q ask.sit)) has k in let whole = apart_append c.number c.second xs w₀ between ts in omega (arith, one, whole)));
      }
