-- the rows of a finish, from what its tries did
use Rattle.std.proofs.Common.{◌≡◌, ◌≢◌, ◌≤◌, ℕ, false, List, [], ◌∷◌, ◌++◌, ◌⊎◌, inl, inr, Option, Some, None, refl, sym, ◌∙◌, ap, subst, arith}
use Rattle.std.specs.Prelude.{is_some}
use Rattle.std.proofs.lemmas.List.{append-nil}
use Rattle.atomic_table.specs.Seated.{TableId}
use Rattle.sf_history.specs.declared.call.CallId.{CallId}
use Rattle.sf_history.specs.declared.event.Event.{Event}
use Rattle.sf_history.specs.declared.event.Event.TheVariants as event
use Rattle.sf_steps_laws.specs.declared.operation.Stage.{Stage}
use Rattle.sf_steps_laws.specs.World.{first_world}
use Rattle.sf_steps_laws.specs.Turns.{at_members}
use Rattle.sf_steps_laws.specs.Events.{settled}
use Rattle.sf_steps_laws.specs.Schedules.{IsSchedule}
use Rattle.sf_steps_laws.proofs.Closings.{closes_are_few, closes_add}
use Rattle.sf_group_rows.specs.declared.sizes.Sizes.{Sizes}
use Rattle.sf_group_rows.specs.Seen.{Stands, Adds}
use Rattle.sf_history.specs.History.{own_events}
use Rattle.sf_group_rows.specs.Fitting.{FitOf}
use Rattle.sf_group_rows.specs.Finishes.{IsDone, IsHeld}
use Rattle.sf_group_steps.specs.declared.view.View.{View}
use Rattle.sf_group_steps.specs.View.{setting_of, sizes_of, history_of}
use Rattle.sf_group_steps.specs.Stands.{Goes}
use Rattle.sf_group_steps.specs.Settles.{IsJoined}
use Rattle.sf_group_steps.specs.Delivers.{IsOwed}
use Rattle.sf_group_rows.proofs.Moments.{stands_own}
use Rattle.sf_group.specs.Known.{caller_of, flight_of, settled_of, letter_of}
use Rattle.sf_group.specs.Calls.{ClosesSeldom}
use Rattle.sf_group.proofs.Rows.{group_is, added}

owed_own : (top : Option ℕ) (n : ℕ) (own : Option CallId) → IsOwed top own → IsJoined top n → (1 ≤ n) ⊎ (own ≢ None)
owed_own (Some m) n own (inl is) joined = inl joined
owed_own None n own (inl is) joined = cc
owed_own top n (Some o) (inr is) joined = inr (λ none. cc)
owed_own top n None (inr is) joined = cc

pub none_is : {A : Type 0} (o : Option A) → is_some o ≡ false → o ≡ None
none_is None isnt = refl
none_is (Some x) isnt = cc

-- the call of this generation is the caller's
pub call_is : (c : CallId) (a : ℕ) → c.caller ≡ a → ◌≡◌ {A = CallId} (record { caller = a; generation = c.generation }) c
call_is c a is = ap (λ b. of b) (sym is)
  where
    of : ℕ → CallId
    of b = record { caller = b; generation = c.generation }

module _ {V : Type 0} where
  owed_events : (a : ℕ) (c : CallId) (own : Option CallId) (x : V) (n : ℕ) (top : Option ℕ) → IsOwed top own → settled a c own x n top ≡ event.Settle a c x n ∷ []
  owed_events a c None x n None (inl is) = cc
  owed_events a c None x n None (inr is) = cc
  owed_events a c None x n (Some m) owed = refl
  owed_events a c (Some o) x n None owed = refl
  owed_events a c (Some o) x n (Some m) owed = refl

  -- what the leader's turns did, by what its token keeps
  pub settled_so : (z y : Sizes) (a k n : ℕ) (c d : CallId) (own o : Option CallId) (x : V) (top : Option ℕ) (v w : View V) → y ≡ z → d ≡ c → o ≡ own
      → Goes z a v w (at_members k d.generation o x n top) (settled a (record { caller = a; generation = d.generation }) o x n top) 0
      → Goes y a v w (at_members k c.generation own x n top) (settled a (record { caller = a; generation = c.generation }) own x n top) 0
  settled_so z y a k n c d own o x top v w sizes same channel goes =
      subst (λ (s : Sizes). Goes s a v w (at_members k c.generation own x n top) (settled a (record { caller = a; generation = c.generation }) own x n top) 0) (sym sizes)
      (subst (λ (e : CallId). Goes z a v w (at_members k e.generation own x n top) (settled a (record { caller = a; generation = e.generation }) own x n top) 0) same
      (subst (λ (q : Option CallId). Goes z a v w (at_members k d.generation q x n top) (settled a (record { caller = a; generation = d.generation }) q x n top) 0) channel goes))

  -- what the leader's turns add, by its call
  settled_adds : (t : TableId) (a k : ℕ) (c : CallId) (own : Option CallId) (x : V) (n : ℕ) (top : Option ℕ) (v w : View V) (p : Stage V) → c.caller ≡ a → Goes (sizes_of v) a v w p (settled a (record { caller = a; generation = c.generation }) own x n top) 0
      → (es : List (Event ℕ V)) → settled a c own x n top ≡ es → Adds (flight_of t v a k c own).group a (history_of (sizes_of v) v.known.turns) (history_of (sizes_of w) w.known.turns) es 0
  settled_adds t a k c own x n top v w p is goes es said = subst (λ ys. Adds (flight_of t v a k c own).group a (history_of (sizes_of v) v.known.turns) (history_of (sizes_of w) w.known.turns) ys 0)
      (ap (λ (d : CallId). settled a d own x n top) (call_is c a is) ∙ said) (added t a 0 v w p (settled a (record { caller = a; generation = c.generation }) own x n top) goes)

  pub held_row : (t t' : TableId) (a k : ℕ) (c : CallId) (own : Option CallId) (x : V) (n : ℕ) (top : Option ℕ) (v w : View V) → t' ≡ t → c.caller ≡ a → IsOwed top own → IsJoined top n
      → Goes (sizes_of v) a v w (at_members k c.generation own x n top) (settled a (record { caller = a; generation = c.generation }) own x n top) 0
      → IsHeld (flight_of t v a k c own) x (settled_of t' w a k c x n)
  held_row t t' a k c own x n top v w table is owed joined goes = record {
    group = group_is t t' v w a (at_members k c.generation own x n top) table goes.sits;
    number = refl;
    place = refl;
    call = refl;
    value = refl;
    adds = settled_adds t a k c own x n top v w (at_members k c.generation own x n top) is goes (event.Settle a c x n ∷ []) (owed_events a c own x n top owed);
    owed = owed_own top n own owed joined;
  }

  done_events : (a : ℕ) (c : CallId) (own : Option CallId) (x : V) (n : ℕ) (top : Option ℕ) → is_some top ≡ false → is_some own ≡ false → settled a c own x n top ≡ event.Settle a c x n ∷ event.Handed a c ∷ []
  done_events a c own x n top bare alone = ap (λ (m : Option ℕ). settled a c own x n m) (none_is top bare) ∙ ap (λ (o : Option CallId). settled a c o x n None) (none_is own alone)

  pub done_row : (fits : FitOf V) (t t' : TableId) (a k : ℕ) (c : CallId) (own : Option CallId) (x : V) (n : ℕ) (top : Option ℕ) (v w : View V) → t' ≡ t → c.caller ≡ a → is_some top ≡ false → is_some own ≡ false
      → Goes (sizes_of v) a v w (at_members k c.generation own x n top) (settled a (record { caller = a; generation = c.generation }) own x n top) 0
      → fits k c x (history_of (sizes_of w) w.known.turns) → IsDone fits (flight_of t v a k c own) x (caller_of t' w a) (letter_of t' w k c x n)
  done_row fits t t' a k c own x n top v w table is bare alone goes fit =
      let p : Stage V = at_members k c.generation own x n top in
      let adds = settled_adds t a k c own x n top v w p is goes (event.Settle a c x n ∷ event.Handed a c ∷ []) (done_events a c own x n top bare alone) in
      record {
        group = group_is t t' v w a p table goes.sits;
        number = refl;
        adds = adds;
        letter = record {
          group = group_is t t' v w a p table goes.sits;
          place = refl;
          call = refl;
          value = refl;
          count = refl;
          settled = subst (λ (b : ℕ). Stands (event.Settle b c x n) (history_of (sizes_of w) w.known.turns)) (sym is)
              (stands_own a (history_of (sizes_of w) w.known.turns) (own_events a (history_of (sizes_of v) v.known.turns)) (event.Handed a c ∷ []) (event.Settle a c x n) adds.grows.own);
        };
        shows = ([], sym (append-nil (history_of (sizes_of w) w.known.turns)));
        fitting = fit;
      }

  -- a leader closes seldom, as the whole schedule that it then knows says
  pub closed_row : (t : TableId) (a k n : ℕ) (c : CallId) (own : Option CallId) (v w : View V) (p : Stage V) (es : List (Event ℕ V)) → Goes (sizes_of v) a v w p es n → ClosesSeldom (flight_of t v a k c own) w.known.turns
  closed_row t a k n c own v w p es goes =
      let z : Sizes = sizes_of v in
      let whole : IsSchedule (setting_of z) (v.known.turns ++ goes.turns) = subst (λ s. IsSchedule (setting_of z) s) goes.knows goes.sits.schedule in
      let few = closes_are_few (setting_of z) (v.known.turns ++ goes.turns) a c.generation whole in
      let parts = closes_add (first_world {V = V} z.callers z.first) a c.generation v.known.turns goes.turns in
      (goes.turns, goes.knows, omega (arith, few, parts))

  -- what fits by what the leader had seen fits by what it has seen since
  pub fits_later : (fits : FitOf V) → ((k : ℕ) (c : CallId) (x : V) (seen more : List (Event ℕ V)) → fits k c x seen → fits k c x (seen ++ more)) → (t : TableId) (a n k : ℕ) (c : CallId) (x : V) (v w : View V) (p : Stage V) (es : List (Event ℕ V))
      → fits k c x (history_of (sizes_of v) v.known.turns) → Goes (sizes_of v) a v w p es n → fits k c x (history_of (sizes_of w) w.known.turns)
  fits_later fits lasts t a n k c x v w p es fit goes =
      let begins = (added t a n v w p es goes).grows.begins in
      subst (λ h. fits k c x h) (sym begins.1) (lasts k c x (history_of (sizes_of v) v.known.turns) begins.0 fit)
