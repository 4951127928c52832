-- steps of two one after another, and tries one after another
use Rattle.std.proofs.Common.{◌≡◌, ◌≢◌, ℕ, ◌+◌, ◌==◌, eq-eqb, ne_eqb, Bool, List, [], ◌∷◌, ◌++◌, inl, inr, Some, refl, sym, ◌∙◌, ap, subst, arith}
use Rattle.sf_history.specs.declared.call.CallId.{CallId}
use Rattle.sf_history.specs.declared.event.Event.{Event}
use Rattle.sf_history.specs.declared.event.Event.TheVariants as event
use Rattle.sf_words.specs.declared.key_word.KeyState.{KeyState}
use Rattle.sf_words.specs.KeyWord.{key_code}
use Rattle.sf_words.specs.declared.call_word.CallState.{CallState}
use Rattle.sf_words.specs.CallWord.{call_code}
use Rattle.sf_steps_laws.specs.declared.operation.Stage.{Stage}
use Rattle.sf_steps_laws.specs.declared.operation.Stage.TheVariants as stage
use Rattle.sf_steps_laws.specs.declared.turn.Turn.{Turn}
use Rattle.sf_steps_laws.specs.World.{World, first_world}
use Rattle.sf_steps_laws.specs.Turns.{run}
use Rattle.sf_steps_laws.proofs.RightAnswers.{run_append}
use Rattle.sf_group_steps.specs.declared.view.View.{View}
use Rattle.sf_group_steps.specs.declared.asking.AskAttempt.{AskAttempt}
use Rattle.sf_group_steps.specs.declared.asking.AskAttempt.TheVariants.{Led, Joined, Lost}
use Rattle.sf_group_steps.specs.Words.{Word, key, call, next, HasWord, IsOthers, code_at}
use Rattle.sf_group_steps.specs.View.{world_of}
use Rattle.sf_group_steps.specs.Changes.{tried, IsKeyOrTried}
use Rattle.sf_group_steps.proofs.Changing.{tried_left, tried_right}
use Rattle.sf_group_steps.proofs.Trying.{key_apart, call_apart, goes_none, goes_after}
use Rattle.sf_group_chans.specs.declared.askers.Askers.{Askers}
use Rattle.sf_group_chans.specs.Both.{call_of, member_of, alone, SitBoth, Ask, GoBoth, lost_first, lost_second}
use Rattle.sf_group_chans.specs.Changes.{changes_apart, StayBoth, LoseBoth, TryBoth}
use Rattle.sf_group_chans.specs.Attempts.{HasAttempted, HasLedOn, HasJoinedOn, Trying, HasTried}
use Rattle.sf_group_chans.proofs.Counting.{apart_append}

module _ {V : Type 0} where
  abbrev pub go_after : (c : Askers) (v w x : View V) (p q p' q' : Stage V) (es fs : List (Event ℕ V)) (m n : ℕ) → GoBoth c v w p q [] [] 0 0 → GoBoth c w x p' q' es fs m n → GoBoth c v x p' q' es fs m n
  go_after c v w x p q p' q' es fs m n one two = record {
    callers = two.callers;
    told = two.told;
    cells = two.cells;
    first = goes_after c.sizes c.number (alone c.number v) (alone c.number w) (alone c.number x) p p' es m one.first two.first;
    second = goes_after c.sizes c.second (alone c.second v) (alone c.second w) (alone c.second x) q q' fs n one.second two.second;
  }

  world_after : (c : Askers) (v w : View V) (p q : Stage V) → (g : GoBoth c v w p q [] [] 0 0) → world_of c.sizes w.known.turns ≡ run (world_of c.sizes v.known.turns) g.first.turns
  world_after c v w p q g = ap (world_of c.sizes) g.first.knows ∙ run_append (first_world c.sizes.callers c.sizes.first) v.known.turns g.first.turns

  -- the counts of a later part, from the world that the first came to
  later_counts : (c : Askers) (xs : List Word) (v w : View V) (p q : Stage V) (us : List (Turn V)) → (g : GoBoth c v w p q [] [] 0 0)
      → changes_apart c.number c.second xs (world_of c.sizes w.known.turns) us ≡ changes_apart c.number c.second xs (run (world_of c.sizes v.known.turns) g.first.turns) us
  later_counts c xs v w p q us g = ap (λ (u : World V). changes_apart c.number c.second xs u us) (world_after c v w p q g)

  pub stay_again : (c : Askers) (v w x : View V) (p q p' q' : Stage V) → StayBoth c v w p q → StayBoth c w x p' q' → StayBoth c v x p' q'
  stay_again c v w x p q p' q' one two = record {
    goes = go_after c v w x p q p' q' [] [] 0 0 one.goes two.goes;
    asks = two.asks;
    word = λ xs y has first second.
        let whole = apart_append c.number c.second xs (world_of c.sizes v.known.turns) one.goes.first.turns two.goes.first.turns in
        let later = later_counts c xs v w p q two.goes.first.turns one.goes in
        elim (one.word xs y has first second) [
          | inl same ↦ elim (two.word xs y has first second) [
            | inl again ↦ inl (again ∙ same)
            | inr some ↦ inr (omega (arith, whole, later, some))
          ]
          | inr some ↦ inr (omega (arith, whole, some))
        ];
  }

  later_tried : (a : ℕ) (y : Word) (w : World V) (ts us : List (Turn V)) → IsKeyOrTried a y (run w ts) us → IsKeyOrTried a y w (ts ++ us)
  later_tried a (key k) w ts us is = tt
  later_tried a (call b) w ts us is = tried_right a w ts us (call b) is
  later_tried a (next b) w ts us is = absurd is

  pub lose_after : (c : Askers) (n : ℕ) (y : Word) (v w x : View V) (p q p' q' : Stage V) → IsOthers c.number y → IsOthers c.second y → StayBoth c v w p q → LoseBoth c y n w x p' q' → LoseBoth c y n v x p' q'
  lose_after c n y v w x p q p' q' first second one two = record {
    goes = go_after c v w x p q p' q' [] [] 0 0 one.goes two.goes;
    asks = two.asks;
    changed = λ xs has was.
        let whole = apart_append c.number c.second xs (world_of c.sizes v.known.turns) one.goes.first.turns two.goes.first.turns in
        let later = later_counts c xs v w p q two.goes.first.turns one.goes in
        elim (one.word xs y has first second) [
          | inl same ↦ let some = two.changed xs has (same ∙ was) in omega (arith, whole, later, some)
          | inr some ↦ omega (arith, whole, some)
        ];
    tries = later_tried c.number y (world_of c.sizes v.known.turns) one.goes.first.turns two.goes.first.turns (subst (λ (u : World V). IsKeyOrTried c.number y u two.goes.first.turns) (world_after c v w p q one.goes) two.tries);
  }

  -- one failed exchange, of the place's key word or of a call word
  pub ask_once : (c : Askers) (n : ℕ) (y : Word) (v w : View V) (p q : Stage V) → ((j : ℕ) → y ≡ key j → j ≡ c.place) → LoseBoth c y n v w p q → code_at (world_of c.sizes v.known.turns) y ≡ n → TryBoth c 1 v w p q
  ask_once c n y v w p q mine l was = record { goes = l.goes; asks = l.asks; count = λ xs sub. l.changed xs (sub y (in_all y mine l.tries)) was }
    where
      in_all : (y : Word) → ((j : ℕ) → y ≡ key j → j ≡ c.place) → IsKeyOrTried c.number y (world_of c.sizes v.known.turns) l.goes.first.turns → HasWord (key c.place ∷ tried c.number (world_of c.sizes v.known.turns) l.goes.first.turns) y
      in_all (key j) is t = inl (ap key (sym (is j refl)))
      in_all (call b) is t = inr t
      in_all (next b) is t = absurd t

  pub go_none : (c : Askers) (v : View V) (p q : Stage V) → SitBoth c v p q → GoBoth c v v p q [] [] 0 0
  go_none c v p q sit = record {
    callers = sit.callers;
    told = sit.told;
    cells = sit.cells;
    first = goes_none c.sizes c.number (alone c.number v) p sit.first;
    second = goes_none c.sizes c.second (alone c.second v) q sit.second;
  }

  pub try_none : (c : Askers) (v w : View V) (p q : Stage V) → Ask c w p q → GoBoth c v w p q [] [] 0 0 → TryBoth c 0 v w p q
  try_none c v w p q asks goes = record { goes = goes; asks = asks; count = λ xs sub. omega arith }

  pub try_again : (c : Askers) (m n : ℕ) (v w x : View V) (p q p' q' : Stage V) → TryBoth c m v w p q → TryBoth c n w x p' q' → TryBoth c (m + n) v x p' q'
  try_again c m n v w x p q p' q' one two = record {
    goes = go_after c v w x p q p' q' [] [] 0 0 one.goes two.goes;
    asks = two.asks;
    count = λ xs sub.
        let whole = apart_append c.number c.second xs (world_of c.sizes v.known.turns) one.goes.first.turns two.goes.first.turns in
        let later = later_counts c xs v w p q two.goes.first.turns one.goes in
        let first = one.count xs (λ y has. sub y (left y has)) in
        let second = two.count xs (λ y has. sub y (right y (subst (λ (u : World V). HasWord (key c.place ∷ tried c.number u two.goes.first.turns) y) (world_after c v w p q one.goes) has))) in
        omega (arith, whole, later, first, second);
  }
    where
      left : (y : Word) → HasWord (key c.place ∷ tried c.number (world_of c.sizes v.known.turns) one.goes.first.turns) y → HasWord (key c.place ∷ tried c.number (world_of c.sizes v.known.turns) (one.goes.first.turns ++ two.goes.first.turns)) y
      left y (inl e) = inl e
      left y (inr h) = inr (tried_left c.number (world_of c.sizes v.known.turns) one.goes.first.turns two.goes.first.turns y h)

      right : (y : Word) → HasWord (key c.place ∷ tried c.number (run (world_of c.sizes v.known.turns) one.goes.first.turns) two.goes.first.turns) y → HasWord (key c.place ∷ tried c.number (world_of c.sizes v.known.turns) (one.goes.first.turns ++ two.goes.first.turns)) y
      right y (inl e) = inl e
      right y (inr h) = inr (tried_right c.number (world_of c.sizes v.known.turns) one.goes.first.turns two.goes.first.turns y h)

  abbrev Leads : Askers → Stage V
  Leads c = stage.Leading c.place c.generation (Some (member_of c))

  abbrev Holds : Askers → CallId → Stage V
  Holds c d = stage.Holding c.place c.second_generation d

  -- what a step before adds to an attempt
  pub attempted_after : (c : Askers) (last : Bool) (v w x : View V) (p q : Stage V) (r : AskAttempt) → StayBoth c v w p q → HasAttempted c last w x r → HasAttempted c last v x r
  attempted_after c last v w x p q (Led after) one two = (go_after c v w x p q (Leads c) (Holds c (call_of c)) (event.Lead c.number c.place (call_of c) (Some (member_of c)) ∷ []) [] 1 1 one.goes two.0, two.1)
  attempted_after c last v w x p q (Joined d) one two = go_after c v w x p q stage.Free (Holds c d) [] (event.Enter c.second c.place d (member_of c) ∷ []) 0 1 one.goes two
  attempted_after c last v w x p q Lost one two = try_again c 0 1 v w x p q (lost_first c last) (lost_second c last) (try_none c v w p q one.asks one.goes) two

  -- an attempt to lead, after its look
  pub led_now : (c : Askers) (last : Bool) (seen : KeyState) (v w x : View V) (p q : Stage V) (r : AskAttempt) → StayBoth c v w p q → (world_of c.sizes w.known.turns).keys c.place ≡ seen → HasLedOn c last seen w x r → HasAttempted c last v x r
  led_now c last seen v w x p q (Led after) one shown two = attempted_after c last v w x p q (Led after) one two
  led_now c last seen v w x p q (Joined d) one shown two = absurd two
  led_now c last seen v w x p q Lost one shown two = attempted_after c last v w x p q Lost one (ask_once c (key_code seen) (key c.place) w x (lost_first c last) (lost_second c last) (λ j e. key_apart c.place j e) two (ap key_code shown))

  -- the same, after a peek
  pub led_later : (c : Askers) (last : Bool) (seen : KeyState) (w x y : View V) (p q : Stage V) (r : AskAttempt) → (world_of c.sizes w.known.turns).keys c.place ≡ seen → StayBoth c w x p q → HasLedOn c last seen x y r → HasAttempted c last w y r
  led_later c last seen w x y p q (Led after) shown stays two = attempted_after c last w x y p q (Led after) stays two
  led_later c last seen w x y p q (Joined d) shown stays two = absurd two
  led_later c last seen w x y p q Lost shown stays two =
      ask_once c (key_code seen) (key c.place) w y (lost_first c last) (lost_second c last) (λ j e. key_apart c.place j e) (lose_after c (key_code seen) (key c.place) w x y p q (lost_first c last) (lost_second c last) tt tt stays two) (ap key_code shown)

  -- an attempt to join, after its peek
  pub joined_later : (c : Askers) (d : CallId) (last : Bool) (seen : CallState) (w x y : View V) (p q : Stage V) (r : AskAttempt) → StayBoth c w x p q → (world_of c.sizes x.known.turns).calls d.caller ≡ seen → HasJoinedOn c d last seen x y r → HasAttempted c last w y r
  joined_later c d last seen w x y p q (Led after) stays shown two = absurd two
  joined_later c d last seen w x y p q (Joined e) stays shown two = attempted_after c last w x y p q (Joined e) stays two.1
  joined_later c d last seen w x y p q Lost stays shown two = attempted_after c last w x y p q Lost stays
      (ask_once c (call_code seen) (call d.caller) x y (lost_first c last) (lost_second c last) (λ j e. call_apart d.caller c.place j e) two (ap call_code shown))

  -- the tries begin, and go on
  pub trying_none : (c : Askers) (tries : ℕ) (v : View V) → Ask c v stage.Free stage.Free → Trying c tries 0 v v
  trying_none c tries v asks = record {
    at = stage.Free;
    second_at = stage.Free;
    done = try_none c v v stage.Free stage.Free asks (go_none c v stage.Free stage.Free asks.sit);
    may = λ some. inl asks;
    free = λ e. refl;
    second_free = λ e. refl;
  }

  pub trying_more : (c : Askers) (tries failed : ℕ) (v w x : View V) → Trying c tries failed v w → TryBoth c 1 w x (lost_first c (failed + 1 == tries)) (lost_second c (failed + 1 == tries)) → Trying c tries (failed + 1) v x
  trying_more c tries failed v w x t one = record {
    at = lost_first c (failed + 1 == tries);
    second_at = lost_second c (failed + 1 == tries);
    done = try_again c failed 1 v w x t.at t.second_at (lost_first c (failed + 1 == tries)) (lost_second c (failed + 1 == tries)) t.done one;
    may = λ some. inr (subst (λ b. Ask c x (lost_first c b) (lost_second c b)) (ne_eqb (failed + 1) tries (λ e. absurd (omega arith))) one.asks);
    free = λ e. ap (λ b. lost_first c b) (eq-eqb (failed + 1) tries e);
    second_free = λ e. ap (λ b. lost_second c b) (eq-eqb (failed + 1) tries e);
  }

  -- an attempt that did not fail ends the asking
  pub tried_now : (c : Askers) (tries failed : ℕ) (v w x : View V) (last : Bool) (r : AskAttempt) → (r ≢ Lost) → Trying c tries failed v w → HasAttempted c last w x r → HasTried c tries v x r
  tried_now c tries failed v w x last (Led after) some t one = (go_after c v w x t.at t.second_at (Leads c) (Holds c (call_of c)) (event.Lead c.number c.place (call_of c) (Some (member_of c)) ∷ []) [] 1 1 t.done.goes one.0, one.1)
  tried_now c tries failed v w x last (Joined d) some t one = go_after c v w x t.at t.second_at stage.Free (Holds c d) [] (event.Enter c.second c.place d (member_of c) ∷ []) 0 1 t.done.goes one
  tried_now c tries failed v w x last Lost some t one = absurd (some refl)

  pub tried_all : (c : Askers) (tries : ℕ) (v w : View V) → Trying c tries tries v w → HasTried c tries v w Lost
  tried_all c tries v w t = subst (λ q. TryBoth c tries v w stage.Free q) (t.second_free refl) (subst (λ p. TryBoth c tries v w p t.second_at) (t.free refl) t.done)
