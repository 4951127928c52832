-- the rows of notes
use Rattle.std.proofs.Common.{◌≡◌, ℕ, List, [], ◌∷◌, ◌++◌, Option, refl, sym, ◌∙◌, ap, subst, arith}
use Rattle.atomic_table.specs.Seated.{TableId}
use Rattle.sf_history.specs.declared.call.CallId.{CallId}
use Rattle.sf_steps_laws.specs.declared.turn.Turn.{Turn}
use Rattle.sf_steps_laws.specs.declared.operation.Stage.{Stage}
use Rattle.sf_steps_laws.specs.declared.operation.Stage.TheVariants as stage
use Rattle.sf_steps_laws.specs.World.{first_world}
use Rattle.sf_steps_laws.specs.Events.{adds}
use Rattle.sf_steps_laws.proofs.Named.{IsAlone}
use Rattle.sf_steps_laws.proofs.RightAnswers.{adds_append}
use Rattle.sf_group_rows.specs.declared.sizes.Sizes.{Sizes}
use Rattle.sf_group_rows.specs.Seen.{StartsWith}
use Rattle.sf_group_rows.specs.Notes.{HasTold, HasLearnt, HasLearntLeading}
use Rattle.sf_group_steps.specs.declared.view.View.{View}
use Rattle.sf_group_steps.specs.View.{sizes_of, world_of, history_of, note_of}
use Rattle.sf_group_steps.specs.Plays.{Made}
use Rattle.sf_group_steps.specs.Stands.{Sits, next_in, Goes}
use Rattle.sf_group_steps.specs.Hears.{BeginsWith, HasHeard}
use Rattle.sf_group_steps.proofs.Trying.{goes_none}
use Rattle.sf_group_steps.proofs.LookSteps.{free_alone}
use Rattle.sf_group_steps.proofs.HearSteps.{heard_goes}
use Rattle.sf_group_rows.specs.Afters.{FollowsCall}
use Rattle.sf_group_rows.proofs.AddsAgain.{starts_again}
use Rattle.sf_history.specs.declared.event.Event.{Event}
use Rattle.sf_history.specs.declared.event.Event.TheVariants as event
use Rattle.sf_group.specs.Known.{IsPlaceIn, group_of, caller_of, flight_of, note_value}
use Rattle.sf_group.proofs.Rows.{sizes_are, group_is, added, nothing_row}

module _ {V : Type 0} where
  pub leading_alone : (k g : ℕ) (own : Option CallId) → IsAlone {V = V} (stage.Leading k g own)
  leading_alone k g own c is = cc

  -- the events of turns that begin with others begin with theirs
  pub events_begin : (z : Sizes) (ts us : List (Turn V)) → BeginsWith us ts → StartsWith (history_of z us) (history_of z ts)
  events_begin z ts us b = (adds (world_of z ts) (b.0), ap (history_of z) b.1 ∙ adds_append (first_world z.callers z.first) ts (b.0))

  pub told_row : (t t' t'' : TableId) (a : ℕ) (v w n : View V) → t' ≡ t → t'' ≡ t → w ≡ v → n ≡ note_of v → Sits (sizes_of v) a v stage.Free → HasTold (caller_of t v a) (caller_of t' w a) (note_value t'' n)
  told_row t t' t'' a v w n table shown same cut sits = record {
    same = ap (λ (x : TableId). caller_of x w a) table ∙ ap (λ (x : View V). caller_of t x a) same;
    nothing = nothing_row t t' a v w table (subst (λ (x : View V). Goes (sizes_of v) a v x stage.Free [] 0) (sym same) (goes_none (sizes_of v) a v stage.Free sits));
    group = ap (λ (x : TableId). group_of x n) shown ∙ ap (λ (x : View V). group_of t x) cut;
    shown = ap (λ (x : View V). history_of (sizes_of x) x.known.turns) cut ∙ sym (ap (λ (x : View V). history_of (sizes_of x) x.known.turns) same);
  }

  -- what was shown begins what is known then
  pub heard_shown : (z : Sizes) (a : ℕ) (v n w : View V) (p : Stage V) → sizes_of n ≡ z → Sits z a w p → HasHeard z v n.known.turns w → StartsWith (history_of (sizes_of w) w.known.turns) (history_of (sizes_of n) n.known.turns)
  heard_shown z a v n w p noted sits h = subst (λ (y : Sizes). StartsWith (history_of y w.known.turns) (history_of (sizes_of n) n.known.turns)) (sym (sizes_are z a w p sits))
      (subst (λ (y : Sizes). StartsWith (history_of z w.known.turns) (history_of y n.known.turns)) (sym noted) (events_begin z n.known.turns w.known.turns h.begins))

  pub learnt_row : (t t' : TableId) (a : ℕ) (v n w : View V) → t' ≡ t → sizes_of n ≡ sizes_of v → Sits (sizes_of v) a v stage.Free → HasHeard (sizes_of v) v n.known.turns w
      → HasLearnt (caller_of t v a) (history_of (sizes_of n) n.known.turns) (caller_of t' w a)
  learnt_row t t' a v n w table noted sits h =
      let goes = heard_goes (sizes_of v) a v w stage.Free sits free_alone h.made in
      (nothing_row t t' a v w table goes, heard_shown (sizes_of v) a v n w stage.Free noted goes.sits h)

  pub learnt_leading_row : (t t' : TableId) (a g k : ℕ) (c : CallId) (own : Option CallId) (v n w : View V) → t' ≡ t → sizes_of n ≡ sizes_of v → Sits (sizes_of v) a v (stage.Leading k g own) → HasHeard (sizes_of v) v n.known.turns w
      → HasLearntLeading (flight_of t v a k c own) (history_of (sizes_of n) n.known.turns) (flight_of t' w a k c own)
  learnt_leading_row t t' a g k c own v n w table noted sits h =
      let p : Stage V = stage.Leading k g own in
      let goes = heard_goes (sizes_of v) a v w p sits (leading_alone k g own) h.made in (
        record { group = group_is t t' v w a p table goes.sits; number = refl; place = refl; call = refl; own = refl; adds = added t a 0 v w p [] goes },
        heard_shown (sizes_of v) a v n w p noted goes.sits h,
      )

  -- a leader that learnt leads still
  pub leads_still : (a g k n : ℕ) (own : Option CallId) (v w : View V) → n ≡ next_in (sizes_of v) v a → Sits (sizes_of v) a v (stage.Leading k g own) → Made (sizes_of v) v w [] → IsPlaceIn (sizes_of v) k
      → Sits (sizes_of w) a w (stage.Leading k g own) × (n ≡ next_in (sizes_of w) w a) × IsPlaceIn (sizes_of w) k
  leads_still a g k n own v w is sits made placed =
      let p : Stage V = stage.Leading k g own in
      let goes = heard_goes (sizes_of v) a v w p sits (leading_alone k g own) made in
      let same = sizes_are (sizes_of v) a w p goes.sits in (
        subst (λ (z : Sizes). Sits z a w p) (sym same) goes.sits,
        subst (λ (z : Sizes). n ≡ next_in z w a) (sym same) (let used = goes.used in omega (arith, used, is)),
        subst (λ (z : Sizes). IsPlaceIn z k) (sym same) placed,
      )

  -- which call it follows stays
  pub follows_still : (t t' : TableId) (a k n : ℕ) (c : CallId) (own o : Option CallId) (v w : View V) (p : Stage V) (es : List (Event ℕ V)) → Goes (sizes_of v) a v w p es n → FollowsCall (flight_of t v a k c own) o → FollowsCall (flight_of t' w a k c own) o
  follows_still t t' a k n c own o v w p es goes is = record {
    before = is.before;
    led = starts_again (is.before ++ event.Lead a k c own ∷ []) (history_of (sizes_of v) v.known.turns) (history_of (sizes_of w) w.known.turns) is.led (added t a n v w p es goes).grows.begins;
    current = is.current;
  }
