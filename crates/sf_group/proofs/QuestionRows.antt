-- the rows of questions, from what their callers learnt and what their steps answered
use Rattle.std.proofs.Common.{◌≡◌, ◌≢◌, ℕ, Bool, List, [], Option, Some, None, refl, sym, subst}
use Rattle.std.specs.Prelude.{nat_eq, IsTrue, IsFalse}
use Rattle.atomic_table.specs.Seated.{TableId}
use Rattle.sf_history.specs.declared.call.CallId.{CallId}
use Rattle.sf_history.specs.declared.event.Event.{Event}
use Rattle.sf_history.specs.History.{current_call}
use Rattle.sf_steps_laws.specs.declared.operation.Stage.TheVariants as stage
use Rattle.sf_group_rows.specs.declared.sizes.Sizes.{Sizes}
use Rattle.sf_group_rows.specs.Tokens.{CallerValue, NoteValue, LetterValue}
use Rattle.sf_group_rows.specs.Seen.{StartsWith}
use Rattle.sf_group_rows.specs.Same.{HasNothing, IsStill}
use Rattle.sf_group_rows.specs.Notes.{HasLearnt, HasGrown, HasLent}
use Rattle.sf_group_rows.specs.Currents.{HasQuestioned}
use Rattle.sf_group_rows.specs.Forgets.{IsNamedBy, HasNamed}
use Rattle.sf_group_rows.proofs.AddsAgain.{starts_again, nothing_after}
use Rattle.sf_group_steps.specs.declared.view.View.{View}
use Rattle.sf_group_steps.specs.View.{sizes_of, history_of}
use Rattle.sf_group_steps.specs.Stands.{Goes}
use Rattle.sf_steps_laws.specs.Naming.{IsNamed}
use Rattle.sf_group_steps.specs.Questions.{WasCurrent}
use Rattle.sf_group.specs.Known.{caller_of}
use Rattle.sf_group.proofs.Rows.{sizes_are, nothing_row}
use Rattle.sf_group.proofs.NoteRows.{events_begin}

module _ {V : Type 0} where
  -- a letter whose note was lent
  pub lent_row : (l : LetterValue V) (n : NoteValue V) → HasGrown (record { group = l.group; seen = l.seen }) n → HasLent l (record { group = n.group; seen = n.seen; place = l.place; call = l.call; value = l.value; joiners = l.joiners })
  lent_row l n grown = record { group = grown.0; place = refl; call = refl; value = refl; count = refl; shows = grown.1 }

  pub questioned_row : (c : CallerValue V) (l m : LetterValue V) (t t' : TableId) (a : ℕ) (v w : View V) (answer : Bool) → HasLearnt c l.seen (caller_of t v a) → HasLent l m → t' ≡ t → Goes (sizes_of v) a v w stage.Free [] 0
      → (IsTrue answer → WasCurrent (sizes_of v) l.place l.call v w) → (IsFalse answer → current_call nat_eq (history_of (sizes_of v) w.known.turns) l.place ≢ Some l.call)
      → HasQuestioned c l answer (caller_of t' w a) m
  questioned_row c l m t t' a v w answer learnt lent table goes right outdated = record {
    learnt = (nothing_after c d e still nothing, starts_again l.seen d.seen e.seen learnt.1 nothing.adds.grows.begins);
    lent = lent;
    right = λ so. let was = right so in record {
      moment = history_of z was.moment;
      begins = starts_again c.seen d.seen (history_of z was.moment) learnt.0.adds.grows.begins (events_begin z v.known.turns was.moment was.begins);
      shows = starts_again l.seen d.seen (history_of z was.moment) learnt.1 (events_begin z v.known.turns was.moment was.begins);
      within = subst (λ (y : Sizes). StartsWith (history_of y w.known.turns) (history_of z was.moment)) (sym same) (events_begin z was.moment w.known.turns was.within);
      current = was.is;
    };
    outdated = subst (λ (y : Sizes). IsFalse answer → current_call nat_eq (history_of y w.known.turns) l.place ≢ Some l.call) (sym same) outdated;
  }
    where
      z : Sizes
      z = sizes_of v

      d : CallerValue V
      d = caller_of t v a

      e : CallerValue V
      e = caller_of t' w a

      same : sizes_of w ≡ z
      same = sizes_are z a w stage.Free goes.sits

      nothing : HasNothing d e
      nothing = nothing_row t t' a v w table goes

      still : IsStill c d
      still = record { group = learnt.0.group; number = learnt.0.number; grows = learnt.0.adds.grows }

  -- which call a place names, as the table of calls says it
  named_by : (h : List (Event ℕ V)) (k : ℕ) (found : Option CallId) → IsNamed h k found → IsNamedBy h k found
  named_by h k None is = is
  named_by h k (Some c) is = is

  pub named_row : (t t' : TableId) (a k : ℕ) (found : Option CallId) (v w : View V) → t' ≡ t → Goes (sizes_of v) a v w stage.Free [] 0 → IsNamed (history_of (sizes_of v) w.known.turns) k found → HasNamed (caller_of t v a) k found (caller_of t' w a)
  named_row t t' a k found v w table goes is = record {
    nothing = nothing_row t t' a v w table goes;
    right = named_by (history_of (sizes_of w) w.known.turns) k found (subst (λ (z : Sizes). IsNamed (history_of z w.known.turns) k found) (sym (sizes_are (sizes_of v) a w stage.Free goes.sits)) is);
  }
