-- two seats that are joined into one, and cut apart again
use Rattle.std.proofs.Common.{◌≡◌, ℕ, List, [], ◌∷◌, ◌++◌, inl, refl, sym, ◌∙◌, ap, subst, Option, Some, arith}
use Rattle.sf_history.specs.declared.event.Event.{Event}
use Rattle.sf_history.specs.declared.event.Event.TheVariants as event
use Rattle.sf_steps_laws.specs.declared.operation.Stage.{Stage}
use Rattle.sf_steps_laws.specs.declared.operation.Stage.TheVariants as stage
use Rattle.sf_group_rows.specs.declared.sizes.Sizes.{Sizes}
use Rattle.sf_group_steps.specs.declared.view.Claim.{Claim}
use Rattle.sf_group_steps.specs.declared.view.View.{View}
use Rattle.sf_group_steps.specs.declared.asking.AskAttempt.{AskAttempt}
use Rattle.sf_group_steps.specs.declared.asking.AskAttempt.TheVariants.{Led, Joined, Lost}
use Rattle.sf_group_steps.specs.Words.{key}
use Rattle.sf_group_steps.specs.View.{AreApart, rest_of, first_of_all, claim, all_of, both_of, without_first, first_alone, world_of}
use Rattle.sf_group_steps.specs.Plays.{view_after, Made}
use Rattle.sf_group_steps.specs.Stands.{Sits, next_in, Goes}
use Rattle.sf_group_steps.specs.Changes.{tried}
use Rattle.sf_group_steps.specs.Exchanges.{HasExchanged, HasTriedSo}
use Rattle.sf_group_steps.proofs.Ways.{all_alone, sits_has}
use Rattle.sf_group_steps.proofs.Exchanging.{exchanged_by}
use Rattle.sf_group_steps.proofs.Trying.{goes_after}
use Rattle.sf_group_steps.proofs.LookSteps.{free_alone}
use Rattle.sf_group_steps.proofs.HearSteps.{both_callers, comes_left, comes_right, heard_goes}
use Rattle.sf_group_chans.specs.declared.askers.Askers.{Askers}
use Rattle.sf_group_chans.specs.Both.{call_of, member_of, alone, Ask, GoBoth}
use Rattle.sf_group_chans.specs.Attempts.{HasTried}
use Rattle.sf_group_chans.specs.Together.{GoTogether, HasAsked}
use Rattle.sf_group_chans.specs.Exchanges.{HaveTriedSo, HaveAskedSo}

module _ {V : Type 0} where
  -- what the two know, once joined
  pub record Met (c : Askers) (v w x : View V) : Type 0 where
    pub asks : Ask c x stage.Free stage.Free
    pub first : Goes c.sizes c.number v (alone c.number x) stage.Free [] 0
    pub second : Goes c.sizes c.second w (alone c.second x) stage.Free [] 0
    pub exchanged : HasExchanged c.sizes c.number 0 v x
    pub second_exchanged : HasExchanged c.sizes c.second 0 w x

  alone_made : (z : Sizes) (a : ℕ) (u v x : View V) → Made z u x [] → u.sizes ≡ v.sizes → all_of v ≡ a ∷ [] → ◌≡◌ {A = View V} (alone a x) (view_after v (x.known.turns))
  alone_made z a u v x m sizes callers = ap (λ o. of_sizes o) (ap (λ (y : View V). y.sizes) m.view ∙ sizes) ∙ ap (λ q. of_callers q) (sym callers)
    where
      of_sizes : Option Sizes → View V
      of_sizes o = record { sizes = o; known = claim (a ∷ []) x.known.turns; told = []; cells = [] }

      of_callers : List ℕ → View V
      of_callers q = record { sizes = v.sizes; known = claim q x.known.turns; told = []; cells = [] }

  pub meets : (c : Askers) (v w x : View V) → Sits c.sizes c.number v stage.Free → next_in c.sizes v c.number ≡ c.generation → Sits c.sizes c.second w stage.Free → next_in c.sizes w c.second ≡ c.second_generation → Made c.sizes (both_of v w) x [] → Met c v w x
  meets c v w x sits given second_sits second_given m =
      let z : Sizes = c.sizes in
      let turns_is : x.known.turns ≡ m.before ++ [] = ap (λ (y : View V). y.known.turns) m.view in
      let one : Made z v (alone c.number x) [] = record { before = m.before; comes = comes_left z v w m.before sits.told m.comes; whole = m.whole; view = alone_made z c.number (both_of v w) v x m refl (all_alone z c.number v stage.Free sits) ∙ ap (λ q. view_after v q) turns_is } in
      let two : Made z w (alone c.second x) [] = record { before = m.before; comes = comes_right z v w m.before sits.told m.comes; whole = m.whole; view = alone_made z c.second (both_of v w) w x m (sits.sizes ∙ sym second_sits.sizes) (all_alone z c.second w stage.Free second_sits) ∙ ap (λ q. view_after w q) turns_is } in
      let first = heard_goes z c.number v (alone c.number x) stage.Free sits free_alone one in
      let second = heard_goes z c.second w (alone c.second x) stage.Free second_sits free_alone two in
      let all : all_of (both_of v w) ≡ c.number ∷ c.second ∷ [] = both_callers v w sits.told ∙ (ap (λ q. q ++ all_of w) (all_alone z c.number v stage.Free sits) ∙ ap (λ q. c.number ∷ q) (all_alone z c.second w stage.Free second_sits)) in
      let apart = subst AreApart all m.comes.apart in
      record {
        asks = record {
          sit = record { callers = ap (λ (y : View V). y.known.callers) m.view ∙ all; told = ap (λ (y : View V). y.told) m.view; cells = ap (λ (y : View V). y.cells) m.view; first = first.sits; second = second.sits };
          apart = λ e. apart.0 (inl e);
          next = let used = first.used in omega (arith, used, given);
          second_next = let used = second.used in omega (arith, used, second_given);
        };
        first = first;
        second = second;
        exchanged = exchanged_by z c.number 0 v (alone c.number x) [] (sits_has z c.number v stage.Free sits) one refl;
        second_exchanged = exchanged_by z c.second 0 w (alone c.second x) [] (sits_has z c.second w stage.Free second_sits) two refl;
      }

  -- the two seats after the cut
  pub cut_first : (c : Askers) (y : View V) → y.known.callers ≡ c.number ∷ c.second ∷ [] → first_alone y ≡ alone c.number y
  cut_first c y callers = ap (λ q. of (first_of_all q)) callers
    where
      of : List ℕ → View V
      of q = record { sizes = y.sizes; known = claim q y.known.turns; told = []; cells = [] }

  pub cut_second : (c : Askers) (y : View V) → y.known.callers ≡ c.number ∷ c.second ∷ [] → y.told ≡ [] → without_first y ≡ alone c.second y
  cut_second c y callers told = ap (λ q. of (rest_of q)) callers ∙ ap (λ q. of_told q) told
    where
      of : List ℕ → View V
      of q = record { sizes = y.sizes; known = claim q y.known.turns; told = y.told; cells = [] }

      of_told : List (Claim V) → View V
      of_told q = record { sizes = y.sizes; known = claim (c.second ∷ []) y.known.turns; told = q; cells = [] }

  -- from what each had known
  together : (c : Askers) (v w x y : View V) (p q : Stage V) (es fs : List (Event ℕ V)) (m n : ℕ) → Met c v w x → GoBoth c x y p q es fs m n → GoTogether c v w (alone c.number y) (alone c.second y) p q es fs m n
  together c v w x y p q es fs m n met goes = record {
    first = goes_after c.sizes c.number v (alone c.number x) (alone c.number y) stage.Free p es m met.first goes.first;
    second = goes_after c.sizes c.second w (alone c.second x) (alone c.second y) stage.Free q fs n met.second goes.second;
    turns = refl;
  }

  asked_alone : (c : Askers) (tries : ℕ) (v w x y : View V) (r : AskAttempt) → Met c v w x → HasTried c tries x y r → HasAsked c tries v w (alone c.number y) (alone c.second y) r
  asked_alone c tries v w x y (Led after) met t = (together c v w x y (stage.Leading c.place c.generation (Some (member_of c))) (stage.Holding c.place c.second_generation (call_of c)) (event.Lead c.number c.place (call_of c) (Some (member_of c)) ∷ []) [] 1 1 met t.0, record { before = t.1.before; last = t.1.last; current = t.1.current })
  asked_alone c tries v w x y (Joined d) met t = together c v w x y stage.Free (stage.Holding c.place c.second_generation d) [] (event.Enter c.second c.place d (member_of c) ∷ []) 0 1 met t
  asked_alone c tries v w x y Lost met t = (
    together c v w x y stage.Free stage.Free [] [] 0 0 met t.goes,
    record {
      met = x.known.turns;
      begins = (met.first.turns, met.first.knows);
      second_begins = (met.second.turns, met.second.knows);
      more = t.goes.first.turns;
      known = t.goes.first.knows;
      changes = t.count (key c.place ∷ tried c.number (world_of c.sizes x.known.turns) t.goes.first.turns) (λ u has. has);
    },
  )

  -- what the tries leave of the seat
  pub record Whole (c : Askers) (y : View V) : Type 0 where
    pub callers : y.known.callers ≡ c.number ∷ c.second ∷ []
    pub told : y.told ≡ []
    pub cells : y.cells ≡ []

  pub whole : (c : Askers) (tries : ℕ) (x y : View V) (r : AskAttempt) → HasTried c tries x y r → Whole c y
  whole c tries x y (Led after) t = record { callers = t.0.callers; told = t.0.told; cells = t.0.cells }
  whole c tries x y (Joined d) t = record { callers = t.callers; told = t.told; cells = t.cells }
  whole c tries x y Lost t = record { callers = t.goes.callers; told = t.goes.told; cells = t.goes.cells }

  pub asked : (c : Askers) (tries : ℕ) (v w x y v' w' : View V) (r : AskAttempt) → Met c v w x → HasTried c tries x y r → v' ≡ first_alone y → w' ≡ without_first y → HasAsked c tries v w v' w' r
  asked c tries v w x y v' w' r met t first second =
      let all = whole c tries x y r t in
      subst (λ (u : View V). HasAsked c tries v w v' u r) (sym (second ∙ cut_second c y all.callers all.told))
      (subst (λ (u : View V). HasAsked c tries v w u (alone c.second y) r) (sym (first ∙ cut_first c y all.callers)) (asked_alone c tries v w x y r met t))

  -- how often the two tried, from what each had known
  so_from : (z : Sizes) (a tries : ℕ) (v x y : View V) (r : AskAttempt) → HasExchanged z a 0 v x → HasTriedSo z a tries x y r → HasTriedSo z a tries v y r
  so_from z a tries v x y (Led after) none some = omega (arith, none, some)
  so_from z a tries v x y (Joined d) none some = omega (arith, none, some)
  so_from z a tries v x y Lost none some = omega (arith, none, some)

  pub asked_so : (c : Askers) (tries : ℕ) (v w x y v' w' : View V) (r : AskAttempt) → Met c v w x → HaveTriedSo c tries x y r → v' ≡ first_alone y → w' ≡ without_first y → HaveAskedSo c tries v w v' w' r
  asked_so c tries v w x y v' w' r met so first second =
      let old = met.second_exchanged in
      let none = so.1 in (
        subst (λ (u : View V). HasTriedSo c.sizes c.number tries v u r) (sym first) (so_from c.sizes c.number tries v x y r met.exchanged so.0),
        subst (λ (u : View V). HasExchanged c.sizes c.second 0 w u) (sym second) (omega (arith, old, none)),
      )
