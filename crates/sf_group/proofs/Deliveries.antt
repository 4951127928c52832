-- the rows of go_on and poll, and of a finish that hands letters out
use Rattle.std.proofs.Common.{◌≡◌, ◌≢◌, ◌≤◌, ℕ, false, List, [], ◌∷◌, ◌++◌, ◌⊎◌, inl, inr, Option, Some, None, refl, sym, ◌∙◌, ap, subst, append_assoc, arith}
use Rattle.std.proofs.lemmas.List.{append-nil}
use Rattle.atomic_table.specs.Seated.{TableId}
use Rattle.sf_history.specs.declared.call.CallId.{CallId}
use Rattle.sf_history.specs.declared.event.Event.{Event}
use Rattle.sf_history.specs.declared.event.Event.TheVariants as event
use Rattle.sf_history.specs.History.{is_handed, own_events}
use Rattle.sf_steps_laws.specs.declared.letter.Letter.{Letter}
use Rattle.sf_steps_laws.specs.declared.operation.Stage.{Stage}
use Rattle.sf_steps_laws.specs.declared.operation.Stage.TheVariants as stage
use Rattle.sf_steps_laws.specs.declared.turn.Turn.{Turn}
use Rattle.sf_steps_laws.specs.Turns.{at_members}
use Rattle.sf_steps_laws.specs.World.{first_world}
use Rattle.sf_steps_laws.specs.Schedules.{IsSchedule}
use Rattle.sf_steps_laws.proofs.Closings.{closes_are_few, closes_add}
use Rattle.sf_group_rows.specs.declared.sizes.Sizes.{Sizes}
use Rattle.sf_group_rows.specs.declared.outcomes.Finished.{Finished}
use Rattle.sf_group_rows.specs.declared.outcomes.Finished.TheVariants.{Done, Held}
use Rattle.sf_group_rows.specs.Fitting.{FitOf}
use Rattle.sf_group_rows.specs.Tokens.{GroupValue, CallerValue, FlightValue, SettledValue, LetterValue}
use Rattle.sf_group_rows.specs.Seen.{Stands, Adds}
use Rattle.sf_group_rows.specs.Finishes.{IsDone, IsHeld, IsDoneAtLast, IsHeldStill, IsReady, IsPending, HasFinished, HasGoneOn}
use Rattle.sf_group_steps.specs.declared.view.View.{View}
use Rattle.sf_group_steps.specs.View.{setting_of, sizes_of, history_of}
use Rattle.sf_group_steps.specs.Stands.{Sits, next_in, Goes}
use Rattle.sf_group_steps.specs.Delivers.{IsOwed, handed_later}
use Rattle.sf_group_steps.specs.Collects.{IsAnswer}
use Rattle.sf_group_rows.proofs.Moments.{stands_longer, stands_own}
use Rattle.sf_group_steps.proofs.Trying.{adds_again}
use Rattle.sf_group.specs.Known.{caller_of, settled_of, ticket_of, letter_of}
use Rattle.sf_group.specs.Calls.{ClosesSeldom, HasClosed, KnowsSince, HasKnown}
use Rattle.sf_group.proofs.Finishes.{call_is}
use Rattle.sf_group.proofs.Rows.{group_is, sizes_are, added}

module _ {V : Type 0} where
  later_owed : (a : ℕ) (c : CallId) (own : Option CallId) (top : Option ℕ) → IsOwed top own → handed_later {V = V} a c own top ≡ event.Handed a c ∷ []
  later_owed a c None None (inl is) = cc
  later_owed a c None None (inr is) = cc
  later_owed a c None (Some m) owed = refl
  later_owed a c (Some o) None owed = refl
  later_owed a c (Some o) (Some m) owed = refl

  -- what one who owes letters did, by what its token keeps
  pub owing_so : (z y : Sizes) (a k joiners : ℕ) (c d : CallId) (own o : Option CallId) (x : V) (left : Option ℕ) (v w : View V) → y ≡ z → d ≡ c → o ≡ own
      → Goes z a v w (at_members k d.generation o x joiners left) [] 0 → Goes y a v w (at_members k c.generation own x joiners left) [] 0
  owing_so z y a k joiners c d own o x left v w sizes same channel goes =
      subst (λ (s : Sizes). Goes s a v w (at_members k c.generation own x joiners left) [] 0) (sym sizes)
      (subst (λ (e : CallId). Goes z a v w (at_members k e.generation own x joiners left) [] 0) same
      (subst (λ (q : Option CallId). Goes z a v w (at_members k d.generation q x joiners left) [] 0) channel goes))

  pub handed_so : (z y : Sizes) (a : ℕ) (c d : CallId) (own o : Option CallId) (top list : Option ℕ) (v w : View V) → y ≡ z → d ≡ c → o ≡ own → list ≡ top
      → Goes z a v w stage.Free (handed_later a (record { caller = a; generation = d.generation }) o list) 0 → Goes y a v w stage.Free (handed_later a (record { caller = a; generation = c.generation }) own top) 0
  handed_so z y a c d own o top list v w sizes same channel listed goes =
      subst (λ (s : Sizes). Goes s a v w stage.Free (handed_later a (record { caller = a; generation = c.generation }) own top) 0) (sym sizes)
      (subst (λ (e : CallId). Goes z a v w stage.Free (handed_later a (record { caller = a; generation = e.generation }) own top) 0) same
      (subst (λ (q : Option CallId). Goes z a v w stage.Free (handed_later a (record { caller = a; generation = d.generation }) q top) 0) channel
      (subst (λ (q : Option ℕ). Goes z a v w stage.Free (handed_later a (record { caller = a; generation = d.generation }) o q) 0) listed goes)))

  -- what stands in what a seat knew stands in what it knows since
  pub stands_later : (t : TableId) (a n : ℕ) (e : Event ℕ V) (v w : View V) (p : Stage V) (es : List (Event ℕ V)) → Stands e (history_of (sizes_of v) v.known.turns) → Goes (sizes_of v) a v w p es n → Stands e (history_of (sizes_of w) w.known.turns)
  stands_later t a n e v w p es is goes =
      let begins = (added t a n v w p es goes).grows.begins in
      subst (λ h. Stands e h) (sym begins.1) (stands_longer e (history_of (sizes_of v) v.known.turns) begins.0 is)

  -- all letters are handed out
  pub last_row : (fits : FitOf V) (t t' : TableId) (a k : ℕ) (c : CallId) (own : Option CallId) (x : V) (joiners : ℕ) (top : Option ℕ) (v w : View V) → t' ≡ t → c.caller ≡ a → IsOwed top own
      → Goes (sizes_of v) a v w stage.Free (handed_later a (record { caller = a; generation = c.generation }) own top) 0
      → Stands (event.Settle c.caller c x joiners) (history_of (sizes_of v) v.known.turns) → fits k c x (history_of (sizes_of w) w.known.turns)
      → IsDoneAtLast fits (settled_of t v a k c x joiners) (caller_of t' w a) (letter_of t' w k c x joiners)
  last_row fits t t' a k c own x joiners top v w table is owed goes stands fit =
      let d : CallId = record { caller = a; generation = c.generation } in
      let es : List (Event ℕ V) = handed_later a d own top in
      record {
        group = group_is t t' v w a stage.Free table goes.sits;
        number = refl;
        value = refl;
        adds = subst (λ ys. Adds (settled_of t v a k c x joiners).group a (history_of (sizes_of v) v.known.turns) (history_of (sizes_of w) w.known.turns) ys 0) (later_owed a d own top owed ∙ ap (λ (y : CallId). event.Handed a y ∷ []) (call_is c a is))
            (added t a 0 v w stage.Free es goes);
        letter = record {
          group = group_is t t' v w a stage.Free table goes.sits;
          place = refl;
          call = refl;
          value = refl;
          count = refl;
          settled = stands_later t a 0 (event.Settle c.caller c x joiners) v w stage.Free es stands goes;
        };
        shows = ([], sym (append-nil (history_of (sizes_of w) w.known.turns)));
        fitting = fit;
      }

  -- letters are owed still
  pub still_row : (t t' : TableId) (a k : ℕ) (c : CallId) (x : V) (joiners : ℕ) (v w : View V) (p : Stage V) → t' ≡ t → Goes (sizes_of v) a v w p [] 0 → IsHeldStill (settled_of t v a k c x joiners) (settled_of t' w a k c x joiners)
  still_row t t' a k c x joiners v w p table goes = record {
    group = group_is t t' v w a p table goes.sits;
    number = refl;
    place = refl;
    call = refl;
    value = refl;
    count = refl;
    adds = added t a 0 v w p [] goes;
  }

  pub known_row : (t : TableId) (a k : ℕ) (c : CallId) (x : V) (joiners : ℕ) (v w : View V) (p : Stage V) (es : List (Event ℕ V)) (n : ℕ) → Goes (sizes_of v) a v w p es n → KnowsSince (settled_of t v a k c x joiners) w.known.turns
  known_row t a k c x joiners v w p es n goes = (goes.turns, goes.knows, goes.sits.schedule)

  -- a settle, and then the delivery
  pub done_after : (fits : FitOf V) (f : FlightValue V) (x : V) (s : SettledValue V) (c : CallerValue V) (l : LetterValue V) → IsHeld f x s → IsDoneAtLast fits s c l → IsDone fits f x c l
  done_after fits f x s c l one two =
      let handed : Adds f.group f.number s.seen c.seen (event.Handed f.number f.call ∷ []) 0 = subst (λ d. Adds f.group f.number s.seen c.seen (event.Handed f.number d ∷ []) 0) one.call
      (subst (λ b. Adds f.group b s.seen c.seen (event.Handed b s.call ∷ []) 0) one.number (subst (λ (g : GroupValue). Adds g s.number s.seen c.seen (event.Handed s.number s.call ∷ []) 0) one.group two.adds)) in
      let both = adds_again f.group f.number f.seen s.seen c.seen (event.Settle f.number f.call x s.joiners ∷ []) (event.Handed f.number f.call ∷ []) 0 0 one.adds handed in
      let value : l.value ≡ x = let same : Some l.value ≡ Some x = sym two.value ∙ one.value in cc in
      record {
        group = two.group ∙ one.group;
        number = two.number ∙ one.number;
        adds = subst (λ b. Adds f.group f.number f.seen c.seen (event.Settle f.number f.call x b ∷ event.Handed f.number f.call ∷ []) 0) (sym two.letter.count) both;
        letter = record {
          group = two.letter.group ∙ one.group;
          place = two.letter.place ∙ one.place;
          call = two.letter.call ∙ one.call;
          value = value;
          count = refl;
          settled = subst (λ y. Stands (event.Settle f.call.caller f.call y l.joiners) l.seen) value
              (subst (λ b. Stands (event.Settle f.call.caller f.call l.value b) l.seen) (sym two.letter.count) (subst (λ (d : CallId). Stands (event.Settle d.caller d l.value s.joiners) l.seen) one.call two.letter.settled));
        };
        shows = two.shows;
        fitting = two.fitting;
      }

  pub held_after : (f : FlightValue V) (x : V) (s u : SettledValue V) → IsHeld f x s → IsHeldStill s u → IsHeld f x u
  held_after f x s u one two =
      let nothing : Adds f.group f.number s.seen u.seen [] 0 = subst (λ b. Adds f.group b s.seen u.seen [] 0) one.number (subst (λ (g : GroupValue). Adds g s.number s.seen u.seen [] 0) one.group two.adds) in
      record {
        group = two.group ∙ one.group;
        number = two.number ∙ one.number;
        place = two.place ∙ one.place;
        call = two.call ∙ one.call;
        value = two.value ∙ one.value;
        adds = subst (λ b. Adds f.group f.number f.seen u.seen (event.Settle f.number f.call x b ∷ []) 0) (sym two.count)
            (adds_again f.group f.number f.seen s.seen u.seen (event.Settle f.number f.call x s.joiners ∷ []) [] 0 0 one.adds nothing);
        owed = subst (λ b. (1 ≤ b) ⊎ (f.own ≢ None)) (sym two.count) one.owed;
      }

  -- and the closes are as few as before
  pub closed_after : (f : FlightValue V) (s : SettledValue V) (turns more : List (Turn V)) → s.group ≡ f.group → s.turns ≡ f.turns ++ more → KnowsSince s turns → ClosesSeldom f turns
  closed_after f s turns more group is since =
      let z : Sizes = f.group.sizes in
      let long : turns ≡ f.turns ++ (more ++ since.0) = since.1 ∙ (ap (λ q. q ++ since.0) is ∙ append_assoc f.turns more since.0) in
      let whole : IsSchedule (setting_of z) (f.turns ++ (more ++ since.0)) = subst (λ q. IsSchedule (setting_of z) q) long (subst (λ (g : GroupValue). IsSchedule (setting_of g.sizes) turns) group since.2) in
      let few = closes_are_few (setting_of z) (f.turns ++ (more ++ since.0)) f.number f.call.generation whole in
      let parts = closes_add (first_world {V = V} z.callers z.first) f.number f.call.generation f.turns (more ++ since.0) in
      (more ++ since.0, long, omega (arith, few, parts))

  -- the letter is there
  pub ready_row : (fits : FitOf V) (t t' : TableId) (a k : ℕ) (c m : CallId) (l : Letter V) (v w : View V) → t' ≡ t → Goes (sizes_of v) a v w stage.Free [] 0 → IsAnswer fits k c (history_of (sizes_of v) w.known.turns) l
      → IsReady fits (ticket_of t v a k c m) (caller_of t' w a) (letter_of t' w k c l.value l.joiners)
  ready_row fits t t' a k c m l v w table goes answer =
      let same : sizes_of v ≡ sizes_of w = sym (sizes_are (sizes_of v) a w stage.Free goes.sits) in
      record {
        group = group_is t t' v w a stage.Free table goes.sits;
        number = refl;
        adds = added t a 0 v w stage.Free [] goes;
        letter = record {
          group = group_is t t' v w a stage.Free table goes.sits;
          place = refl;
          call = refl;
          value = refl;
          count = refl;
          settled = subst (λ (z : Sizes). Stands (event.Settle c.caller c l.value l.joiners) (history_of z w.known.turns)) same answer.settled;
        };
        shows = ([], sym (append-nil (history_of (sizes_of w) w.known.turns)));
        fitting = subst (λ (z : Sizes). fits k c l.value (history_of z w.known.turns)) same answer.fitting;
      }

  -- it is not there yet
  pub pending_row : (t t' : TableId) (a k g : ℕ) (c m : CallId) (v w : View V) → t' ≡ t → Goes (sizes_of v) a v w (stage.Holding k g c) [] 0 → is_handed (history_of (sizes_of v) w.known.turns) c ≡ false → IsPending (ticket_of t v a k c m) (ticket_of t' w a k c m)
  pending_row t t' a k g c m v w table goes unhanded = record {
    group = group_is t t' v w a (stage.Holding k g c) table goes.sits;
    number = refl;
    place = refl;
    call = refl;
    member = refl;
    adds = added t a 0 v w (stage.Holding k g c) [] goes;
    unhanded = subst (λ (z : Sizes). is_handed (history_of z w.known.turns) c ≡ false) (sym (sizes_are (sizes_of v) a w (stage.Holding k g c) goes.sits)) unhanded;
  }

  -- what a token's seat is after its caller went on
  pub sits_now : (a n : ℕ) (v w : View V) (p : Stage V) (es : List (Event ℕ V)) → Goes (sizes_of v) a v w p es n → Sits (sizes_of w) a w p
  sits_now a n v w p es goes = subst (λ (z : Sizes). Sits z a w p) (sym (sizes_are (sizes_of v) a w p goes.sits)) goes.sits

  pub next_now : (a given : ℕ) (v w : View V) (p : Stage V) (es : List (Event ℕ V)) → given ≡ next_in (sizes_of v) v a → Goes (sizes_of v) a v w p es 0 → given ≡ next_in (sizes_of w) w a
  next_now a given v w p es is goes = let used = goes.used in let now : given ≡ next_in (sizes_of v) w a = omega (arith, is, used) in
      now ∙ ap (λ (z : Sizes). next_in z w a) (sym (sizes_are (sizes_of v) a w p goes.sits))

  -- the Settle that a leader made stands in what it knows
  pub held_stands : (f : FlightValue V) (x : V) (s : SettledValue V) → f.call.caller ≡ f.number → IsHeld f x s → Stands (event.Settle f.call.caller f.call x s.joiners) s.seen
  held_stands f x s is held = subst (λ b. Stands (event.Settle b f.call x s.joiners) s.seen) (sym is) (stands_own f.number s.seen (own_events f.number f.seen) [] (event.Settle f.number f.call x s.joiners) held.adds.grows.own)

  pub finished_after : (fits : FitOf V) (f : FlightValue V) (x : V) (s : SettledValue V) (r : Finished (CallerValue V) (LetterValue V) (SettledValue V)) → IsHeld f x s → HasGoneOn fits s r → HasFinished fits f x r
  finished_after fits f x s (Done c l) one two = done_after fits f x s c l one two
  finished_after fits f x s (Held u) one two = held_after f x s u one two

  pub closed_known : (f : FlightValue V) (s : SettledValue V) (more : List (Turn V)) (r : Finished (CallerValue V) (LetterValue V) (SettledValue V)) → s.group ≡ f.group → s.turns ≡ f.turns ++ more → HasKnown s r → HasClosed f r
  closed_known f s more (Done c l) group is since = closed_after f s c.turns more group is since
  closed_known f s more (Held u) group is since = closed_after f s u.turns more group is since
