-- the rows of the calls, from what their tries did
use Rattle.std.proofs.Common.{◌≡◌, ℕ, ◌+◌, ◌≤◌, ◌<◌, List, [], ◌∷◌, ◌++◌, Option, None, refl, sym, ◌∙◌, ap, subst, arith}
use Rattle.std.proofs.lemmas.List.{append-nil}
use Rattle.atomic_table.specs.Seated.{TableId}
use Rattle.sf_history.specs.declared.call.CallId.{CallId}
use Rattle.sf_history.specs.declared.event.Event.{Event}
use Rattle.sf_history.specs.declared.event.Event.TheVariants as event
use Rattle.sf_history.specs.declared.event.Hit.{Hit}
use Rattle.sf_history.specs.History.{next_generation}
use Rattle.sf_steps_laws.specs.declared.operation.Stage.{Stage}
use Rattle.sf_steps_laws.specs.declared.operation.Stage.TheVariants as stage
use Rattle.sf_steps_laws.proofs.RightAnswers.{always}
use Rattle.sf_group_rows.specs.declared.sizes.Sizes.{Sizes}
use Rattle.sf_group_steps.specs.declared.view.View.{View}
use Rattle.sf_group_rows.specs.declared.outcomes.NotBegun.TheVariants as not_begun
use Rattle.sf_group_steps.specs.View.{setting_of, sizes_of, history_of}
use Rattle.sf_group_rows.specs.Tokens.{GroupValue}
use Rattle.sf_group_rows.specs.Seen.{Adds}
use Rattle.sf_group_steps.specs.Stands.{Sits, next_in, GoesWith, Goes}
use Rattle.sf_group_steps.specs.Changes.{Tries}
use Rattle.sf_group_steps.specs.Exchanges.{exchanges_of, HasExchanged}
use Rattle.sf_group_steps.specs.Attempts.{IsAfter}
use Rattle.sf_group_rows.specs.Afters.{FollowsCall}
use Rattle.sf_group.specs.Known.{IsPlaceIn, group_of, caller_of, flight_of, ticket_of}
use Rattle.sf_group_rows.specs.Same.{call_of, HasNothing}
use Rattle.sf_group_rows.specs.Begins.{HasLed, HasJoined, IsRefusedSpent}
use Rattle.sf_group_rows.specs.Forgets.{HasForgot, HasForgotCall}
use Rattle.sf_group.specs.Calls.{HasTriedJust, HasTriedAtMost, HasNotBegun, HasNotForgotten}
use Rattle.sf_group_steps.proofs.Trying.{goes_none, busy_after}
use Rattle.sf_group_steps.proofs.Exchanging.{tries_at_most, tries_just}

module _ {V : Type 0} where
  -- the next generation, as the history says it
  pub next_is : (z : Sizes) (a : ℕ) (v : View V) (p : Stage V) → Sits z a v p → next_in z v a ≡ next_generation z.first (history_of z v.known.turns) a
  next_is z a v p sits = (always (setting_of z) v.known.turns sits.schedule).past.counted a

  pub first_least : (z : Sizes) (a : ℕ) (v : View V) (p : Stage V) → Sits z a v p → 1 ≤ z.first → 1 ≤ next_in z v a
  first_least z a v p sits least = let is = next_is z a v p sits in omega (arith, is, least)

  pub sizes_are : (z : Sizes) (a : ℕ) (w : View V) (p : Stage V) → Sits z a w p → sizes_of w ≡ z
  sizes_are z a w p sits = ap (λ o. with_sizes o) sits.sizes
    where
      with_sizes : Option Sizes → Sizes
      with_sizes o = sizes_of (record { sizes = o; known = w.known; told = w.told; cells = w.cells })

  pub group_is : (t t' : TableId) (v w : View V) (a : ℕ) (p : Stage V) → t' ≡ t → Sits (sizes_of v) a w p → group_of t' w ≡ group_of t v
  group_is t t' v w a p table sits = ap (λ (x : TableId). group_of x w) table ∙ ap (λ (s : Sizes). of t s) (sizes_are (sizes_of v) a w p sits)
    where
      of : TableId → Sizes → GroupValue
      of x s = record { table = x; sizes = s }

  -- what a caller's seat goes on to add, as its tokens say it
  pub added : (t : TableId) (a n : ℕ) (v w : View V) (p : Stage V) (es : List (Event ℕ V)) → Goes (sizes_of v) a v w p es n → Adds (group_of t v) a (history_of (sizes_of v) v.known.turns) (history_of (sizes_of w) w.known.turns) es n
  added t a n v w p es goes = subst (λ (s : Sizes). Adds (group_of t v) a (history_of (sizes_of v) v.known.turns) (history_of s w.known.turns) es n) (sym (sizes_are (sizes_of v) a w p goes.sits)) (goes.adds t)

  pub lead_row : (t t' : TableId) (a g k : ℕ) (v w : View V) → t' ≡ t → Sits (sizes_of v) a v stage.Free → next_in (sizes_of v) v a ≡ g → g ≤ 4294967295
      → Goes (sizes_of v) a v w (stage.Leading k g None) (event.Lead a k (record { caller = a; generation = g }) None ∷ []) 1
      → HasLed (caller_of t v a) k (flight_of t' w a k (record { caller = a; generation = g }) None)
  lead_row t t' a g k v w table sits is left goes =
      let named : next_generation (sizes_of v).first (history_of (sizes_of v) v.known.turns) a ≡ g = sym (next_is (sizes_of v) a v stage.Free sits) ∙ is in
      let call_is : ◌≡◌ {A = CallId} (record { caller = a; generation = g }) (call_of (caller_of t v a)) = ap (λ n. id n) (sym named) in
      record {
        unspent = subst (λ n. n ≤ 4294967295) (sym named) left;
        group = group_is t t' v w a (stage.Leading k g None) table goes.sits;
        number = refl;
        place = refl;
        call = call_is;
        own = refl;
        adds = subst (λ (c : CallId). Adds (group_of t v) a (history_of (sizes_of v) v.known.turns) (history_of (sizes_of w) w.known.turns) (event.Lead a k c None ∷ []) 1) call_is (added t a 1 v w (stage.Leading k g None) (event.Lead a k (record { caller = a; generation = g }) None ∷ []) goes);
      }
    where
      id : ℕ → CallId
      id n = record { caller = a; generation = n }

  pub join_row : (t t' : TableId) (a g k : ℕ) (c : CallId) (v w : View V) → t' ≡ t → Sits (sizes_of v) a v stage.Free → next_in (sizes_of v) v a ≡ g → g ≤ 4294967295
      → Goes (sizes_of v) a v w (stage.Holding k g c) (event.Enter a k c (record { caller = a; generation = g }) ∷ []) 1
      → HasJoined (caller_of t v a) k (ticket_of t' w a k c (record { caller = a; generation = g }))
  join_row t t' a g k c v w table sits is left goes =
      let named : next_generation (sizes_of v).first (history_of (sizes_of v) v.known.turns) a ≡ g = sym (next_is (sizes_of v) a v stage.Free sits) ∙ is in
      let member_is : ◌≡◌ {A = CallId} (record { caller = a; generation = g }) (call_of (caller_of t v a)) = ap (λ n. id n) (sym named) in
      record {
        unspent = subst (λ n. n ≤ 4294967295) (sym named) left;
        group = group_is t t' v w a (stage.Holding k g c) table goes.sits;
        number = refl;
        place = refl;
        member = member_is;
        adds = subst (λ (m : CallId). Adds (group_of t v) a (history_of (sizes_of v) v.known.turns) (history_of (sizes_of w) w.known.turns) (event.Enter a k c m ∷ []) 1) member_is (added t a 1 v w (stage.Holding k g c) (event.Enter a k c (record { caller = a; generation = g }) ∷ []) goes);
      }
    where
      id : ℕ → CallId
      id n = record { caller = a; generation = n }

  -- a caller that made nothing
  pub nothing_row : (t t' : TableId) (a : ℕ) (v w : View V) → t' ≡ t → Goes (sizes_of v) a v w stage.Free [] 0 → HasNothing (caller_of t v a) (caller_of t' w a)
  nothing_row t t' a v w table goes = record { group = group_is t t' v w a stage.Free table goes.sits; number = refl; adds = added t a 0 v w stage.Free [] goes }

  -- how often it tried
  pub few_row : {out : List ℕ} (t : TableId) (a n given : ℕ) (v w : View V) (p : Stage V) (es : List (Event ℕ V)) → GoesWith (sizes_of v) a v w p es given out → exchanges_of (sizes_of v) a w.known.turns ≤ exchanges_of (sizes_of v) a v.known.turns + n → HasTriedAtMost (caller_of t v a) n w.known.turns
  few_row t a n given v w p es goes few = tries_at_most (sizes_of v) a n v.known.turns w.known.turns goes.turns goes.knows few

  pub just_row : (t : TableId) (a n : ℕ) (v w : View V) → Goes (sizes_of v) a v w stage.Free [] 0 → HasExchanged (sizes_of v) a n v w → HasTriedJust (caller_of t v a) n w.known.turns
  just_row t a n v w goes all = tries_just (sizes_of v) a n v.known.turns w.known.turns goes.turns goes.knows all

  pub busy_row : (t t' : TableId) (a g k tries : ℕ) (v w : View V) → t' ≡ t → Sits (sizes_of v) a v stage.Free → next_in (sizes_of v) v a ≡ g → g ≤ 4294967295 → Tries (sizes_of v) a k tries v w stage.Free → HasExchanged (sizes_of v) a tries v w
      → HasNotBegun (caller_of t v a) k tries (not_begun.Busy tries (caller_of t' w a))
  busy_row t t' a g k tries v w table sits is left done all = (
    record {
      unspent = subst (λ n. n ≤ 4294967295) (sym (sym (next_is (sizes_of v) a v stage.Free sits) ∙ is)) left;
      nothing = nothing_row t t' a v w table done.goes;
      failed = refl;
    },
    busy_after (sizes_of v) a k tries v w stage.Free done,
    just_row t a tries v w done.goes all,
  )

  pub spent_row : (t : TableId) (a : ℕ) (v : View V) → Sits (sizes_of v) a v stage.Free → 4294967295 < next_in (sizes_of v) v a → IsRefusedSpent (caller_of t v a) (caller_of t v a)
  spent_row t a v sits above = record {
    spent = subst (λ n. 4294967295 < n) (next_is (sizes_of v) a v stage.Free sits) above;
    same = refl;
    nothing = nothing_row t t a v v refl (goes_none (sizes_of v) a v stage.Free sits);
  }

  -- a Forget
  pub forget_row : (t t' : TableId) (a k : ℕ) (o : Option CallId) (v w : View V) → t' ≡ t → Goes (sizes_of v) a v w stage.Free (event.Forget a k o ∷ []) 0 → HasForgot (caller_of t v a) k o (caller_of t' w a)
  forget_row t t' a k o v w table goes = record {
    group = group_is t t' v w a stage.Free table goes.sits;
    number = refl;
    adds = added t a 0 v w stage.Free (event.Forget a k o ∷ []) goes;
  }

  -- a Forget of one call
  pub forget_call_row : (t t' : TableId) (a k : ℕ) (c : CallId) (found : Hit) (v w : View V) → t' ≡ t → Goes (sizes_of v) a v w stage.Free (event.ForgetCall a k c found ∷ []) 0 → HasForgotCall (caller_of t v a) k c found (caller_of t' w a)
  forget_call_row t t' a k c found v w table goes = record {
    group = group_is t t' v w a stage.Free table goes.sits;
    number = refl;
    adds = added t a 0 v w stage.Free (event.ForgetCall a k c found ∷ []) goes;
  }

  -- of a call that is the one that was meant
  pub forget_meant_row : (t t' : TableId) (a k : ℕ) (c d : CallId) (found : Hit) (v w : View V) → t' ≡ t → c ≡ d → Goes (sizes_of v) a v w stage.Free (event.ForgetCall a k d found ∷ []) 0 → HasForgotCall (caller_of t v a) k c found (caller_of t' w a)
  forget_meant_row t t' a k c d found v w table same goes = subst (λ (x : CallId). HasForgotCall (caller_of t v a) k x found (caller_of t' w a)) (sym same) (forget_call_row t t' a k d found v w table goes)

  pub miss_row : (t t' : TableId) (a k tries : ℕ) (v w : View V) → t' ≡ t → Tries (sizes_of v) a k tries v w stage.Free → HasExchanged (sizes_of v) a tries v w → HasNotForgotten (caller_of t v a) k tries (caller_of t' w a) tries
  miss_row t t' a k tries v w table done all = record {
    nothing = nothing_row t t' a v w table done.goes;
    failed = refl;
    changes = busy_after (sizes_of v) a k tries v w stage.Free done;
    tried = just_row t a tries v w done.goes all;
  }

  -- a caller that is free again, with as many generations
  pub free_again : (a n : ℕ) (v w : View V) (es : List (Event ℕ V)) → n ≡ next_in (sizes_of v) v a → Goes (sizes_of v) a v w stage.Free es 0 → Sits (sizes_of w) a w stage.Free × (n ≡ next_in (sizes_of w) w a)
  free_again a n v w es is goes =
      let same = sizes_are (sizes_of v) a w stage.Free goes.sits in (
        subst (λ (z : Sizes). Sits z a w stage.Free) (sym same) goes.sits,
        subst (λ (z : Sizes). n ≡ next_in z w a) (sym same) (let used = goes.used in omega (arith, used, is)),
      )

  -- a caller that leads now
  pub leads_now : (a g k n : ℕ) (v w : View V) (es : List (Event ℕ V)) → n ≡ next_in (sizes_of v) v a → Goes (sizes_of v) a v w (stage.Leading k g None) es 1 → IsPlaceIn (sizes_of v) k
      → Sits (sizes_of w) a w (stage.Leading k g None) × (n + 1 ≡ next_in (sizes_of w) w a) × IsPlaceIn (sizes_of w) k
  leads_now a g k n v w es is goes placed =
      let same = sizes_are (sizes_of v) a w (stage.Leading k g None) goes.sits in (
        subst (λ (z : Sizes). Sits z a w (stage.Leading k g None)) (sym same) goes.sits,
        subst (λ (z : Sizes). n + 1 ≡ next_in z w a) (sym same) (let used = goes.used in omega (arith, used, is)),
        subst (λ (z : Sizes). IsPlaceIn z k) (sym same) placed,
      )

  -- a leader that knows its Lead last knows which call it follows
  pub follows_now : (z : Sizes) (t : TableId) (a k : ℕ) (c : CallId) (own o : Option CallId) (w : View V) → sizes_of w ≡ z → IsAfter z k w (event.Lead a k c own) o → FollowsCall (flight_of t w a k c own) o
  follows_now z t a k c own o w same is = record {
    before = is.before;
    led = ([], ap (λ y. history_of y w.known.turns) same ∙ (is.last ∙ sym (append-nil (is.before ++ event.Lead a k c own ∷ []))));
    current = is.current;
  }
