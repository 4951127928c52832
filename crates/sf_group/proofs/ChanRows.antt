-- the rows of an asking with a second
use Rattle.std.proofs.Common.{◌≡◌, ℕ, ◌+◌, ◌≤◌, ◌<◌, ◌⊎◌, inl, inr, List, [], ◌∷◌, Some, refl, sym, ◌∙◌, ap, subst, arith}
use Rattle.atomic_table.specs.Seated.{TableId}
use Rattle.sf_history.specs.declared.call.CallId.{CallId}
use Rattle.sf_history.specs.declared.event.Event.{Event}
use Rattle.sf_history.specs.declared.event.Event.TheVariants as event
use Rattle.sf_history.specs.History.{next_generation, own_events}
use Rattle.sf_steps_laws.specs.declared.operation.Stage.{Stage}
use Rattle.sf_steps_laws.specs.declared.operation.Stage.TheVariants as stage
use Rattle.sf_group_rows.specs.declared.sizes.Sizes.{Sizes}
use Rattle.sf_group_rows.specs.Seen.{StartsWith, Stands, Adds}
use Rattle.sf_group_rows.specs.Same.{call_of}
use Rattle.sf_group_rows.specs.Begins.{HasLedChan, HasJoinedChan, AreRefusedSpent, AreRefusedBusy}
use Rattle.sf_group_steps.specs.declared.view.View.{View}
use Rattle.sf_group_steps.specs.View.{sizes_of, history_of}
use Rattle.sf_group_steps.specs.Stands.{Sits, next_in, Goes}
use Rattle.sf_group_chans.specs.Changes.{HaveChanged}
use Rattle.sf_group_steps.proofs.Trying.{goes_none}
use Rattle.sf_group.specs.Known.{group_of, caller_of, flight_of, ticket_of}
use Rattle.sf_group_steps.specs.Exchanges.{HasExchanged}
use Rattle.sf_group.specs.Calls.{HaveSeenChanges}
use Rattle.sf_group.proofs.Rows.{next_is, sizes_are, group_is, added, nothing_row, few_row, just_row}
use Rattle.sf_group_rows.proofs.Moments.{stands_own}

-- the call or member of this caller and generation
abbrev id : ℕ → ℕ → CallId
id a n = record { caller = a; generation = n }

module _ {V : Type 0} where
  -- a caller of one's seat went on
  pub stands_now : (a m n : ℕ) (v w : View V) (p : Stage V) (es : List (Event ℕ V)) → n ≡ next_in (sizes_of v) v a → Goes (sizes_of v) a v w p es m → Sits (sizes_of w) a w p × (n + m ≡ next_in (sizes_of w) w a)
  stands_now a m n v w p es is goes =
      let same = sizes_are (sizes_of v) a w p goes.sits in (
        subst (λ (z : Sizes). Sits z a w p) (sym same) goes.sits,
        subst (λ (z : Sizes). n + m ≡ next_in z w a) (sym same) (let used = goes.used in omega (arith, used, is)),
      )

  -- what the two know is one list
  same_seen : (a b m n : ℕ) (v w v' w' : View V) (p q : Stage V) (es fs : List (Event ℕ V)) → sizes_of w ≡ sizes_of v → Goes (sizes_of v) a v v' p es m → Goes (sizes_of w) b w w' q fs n → w'.known.turns ≡ v'.known.turns
      → history_of (sizes_of w') w'.known.turns ≡ history_of (sizes_of v') v'.known.turns
  same_seen a b m n v w v' w' p q es fs same first second turns =
      ap (λ z. history_of z w'.known.turns) (sizes_are (sizes_of w) b w' q second.sits ∙ (same ∙ sym (sizes_are (sizes_of v) a v' p first.sits))) ∙ ap (λ l. history_of (sizes_of v') l) turns

  named : (z : Sizes) (a g : ℕ) (v : View V) → Sits z a v stage.Free → next_in z v a ≡ g → next_generation z.first (history_of z v.known.turns) a ≡ g
  named z a g v sits is = sym (next_is z a v stage.Free sits) ∙ is

  pub led_chan_row : (t t' t₁ t₂ : TableId) (a b g h k : ℕ) (v w v' w' : View V) → t₁ ≡ t → t₂ ≡ t' → sizes_of w ≡ sizes_of v → Sits (sizes_of v) a v stage.Free → next_in (sizes_of v) v a ≡ g → g ≤ 4294967295 → Sits (sizes_of w) b w stage.Free → next_in (sizes_of w) w b ≡ h → h ≤ 4294967295
      → Goes (sizes_of v) a v v' (stage.Leading k g (Some (record { caller = b; generation = h }))) (event.Lead a k (record { caller = a; generation = g }) (Some (record { caller = b; generation = h })) ∷ []) 1
      → Goes (sizes_of w) b w w' (stage.Holding k h (record { caller = a; generation = g })) [] 1 → w'.known.turns ≡ v'.known.turns
      → HasLedChan (caller_of t v a) (caller_of t' w b) k (flight_of t₁ v' a k (record { caller = a; generation = g }) (Some (record { caller = b; generation = h }))) (ticket_of t₂ w' b k (record { caller = a; generation = g }) (record { caller = b; generation = h }))
  led_chan_row t t' t₁ t₂ a b g h k v w v' w' table second_table same sits is left second_sits second_is second_left first second turns =
      let p : Stage V = stage.Leading k g (Some (record { caller = b; generation = h })) in
      let q : Stage V = stage.Holding k h (record { caller = a; generation = g }) in
      let es : List (Event ℕ V) = event.Lead a k (record { caller = a; generation = g }) (Some (record { caller = b; generation = h })) ∷ [] in
      let one = named (sizes_of v) a g v sits is in
      let two = named (sizes_of w) b h w second_sits second_is in
      let call_is : ◌≡◌ {A = CallId} (record { caller = a; generation = g }) (call_of (caller_of t v a)) = ap (λ n. id a n) (sym one) in
      let member_is : ◌≡◌ {A = CallId} (record { caller = b; generation = h }) (call_of (caller_of t' w b)) = ap (λ n. id b n) (sym two) in
      let seen = same_seen a b 1 1 v w v' w' p q es [] same first second turns in
      let adds : Adds (group_of t v) a (history_of (sizes_of v) v.known.turns) (history_of (sizes_of v') v'.known.turns) (event.Lead a k (call_of (caller_of t v a)) (Some (call_of (caller_of t' w b))) ∷ []) 1 =
      subst (λ (x : CallId). Adds (group_of t v) a (history_of (sizes_of v) v.known.turns) (history_of (sizes_of v') v'.known.turns) (event.Lead a k x (Some (call_of (caller_of t' w b))) ∷ []) 1) call_is
      (subst (λ (x : CallId). Adds (group_of t v) a (history_of (sizes_of v) v.known.turns) (history_of (sizes_of v') v'.known.turns) (event.Lead a k (record { caller = a; generation = g }) (Some x) ∷ []) 1) member_is (added t a 1 v v' p es first)) in
      let second_adds = added t' b 1 w w' q [] second in
      record {
        unspent = subst (λ n. n ≤ 4294967295) (sym one) left;
        second_unspent = subst (λ n. n ≤ 4294967295) (sym two) second_left;
        group = group_is t t₁ v v' a p table first.sits;
        number = refl;
        place = refl;
        call = call_is;
        own = ap (λ (x : CallId). Some x) member_is;
        second_group = group_is t' t₂ w w' b q second_table second.sits;
        second_number = refl;
        second_place = refl;
        second_call = refl;
        member = member_is;
        adds = adds;
        second_adds = second_adds;
        stands = subst (λ l. Stands (event.Lead a k (call_of (caller_of t v a)) (Some (call_of (caller_of t' w b)))) l) (sym seen)
            (stands_own a (history_of (sizes_of v') v'.known.turns) (own_events a (history_of (sizes_of v) v.known.turns)) [] (event.Lead a k (call_of (caller_of t v a)) (Some (call_of (caller_of t' w b)))) adds.grows.own);
        begins = subst (λ l. StartsWith l (history_of (sizes_of w) w.known.turns)) seen second_adds.grows.begins;
        second_begins = subst (λ l. StartsWith l (history_of (sizes_of v) v.known.turns)) (sym seen) adds.grows.begins;
      }

  pub joined_chan_row : (t t' t₁ t₂ : TableId) (a b g h k : ℕ) (d : CallId) (v w v' w' : View V) → t₁ ≡ t → t₂ ≡ t' → sizes_of w ≡ sizes_of v → Sits (sizes_of v) a v stage.Free → next_in (sizes_of v) v a ≡ g → g ≤ 4294967295 → Sits (sizes_of w) b w stage.Free → next_in (sizes_of w) w b ≡ h → h ≤ 4294967295
      → Goes (sizes_of v) a v v' stage.Free [] 0
      → Goes (sizes_of w) b w w' (stage.Holding k h d) (event.Enter b k d (record { caller = b; generation = h }) ∷ []) 1 → w'.known.turns ≡ v'.known.turns
      → HasJoinedChan (caller_of t v a) (caller_of t' w b) k (ticket_of t₂ w' b k d (record { caller = b; generation = h })) (caller_of t₁ v' a)
  joined_chan_row t t' t₁ t₂ a b g h k d v w v' w' table second_table same sits is left second_sits second_is second_left first second turns =
      let q : Stage V = stage.Holding k h d in
      let fs : List (Event ℕ V) = event.Enter b k d (record { caller = b; generation = h }) ∷ [] in
      let one = named (sizes_of v) a g v sits is in
      let two = named (sizes_of w) b h w second_sits second_is in
      let member_is : ◌≡◌ {A = CallId} (record { caller = b; generation = h }) (call_of (caller_of t' w b)) = ap (λ n. id b n) (sym two) in
      let seen = same_seen a b 0 1 v w v' w' stage.Free q [] fs same first second turns in
      let adds = added t a 0 v v' stage.Free [] first in
      let second_adds : Adds (group_of t' w) b (history_of (sizes_of w) w.known.turns) (history_of (sizes_of w') w'.known.turns) (event.Enter b k d (call_of (caller_of t' w b)) ∷ []) 1 =
      subst (λ (x : CallId). Adds (group_of t' w) b (history_of (sizes_of w) w.known.turns) (history_of (sizes_of w') w'.known.turns) (event.Enter b k d x ∷ []) 1) member_is (added t' b 1 w w' q fs second) in
      record {
        unspent = subst (λ n. n ≤ 4294967295) (sym one) left;
        second_unspent = subst (λ n. n ≤ 4294967295) (sym two) second_left;
        group = group_is t t₁ v v' a stage.Free table first.sits;
        number = refl;
        second_group = group_is t' t₂ w w' b q second_table second.sits;
        second_number = refl;
        second_place = refl;
        member = member_is;
        adds = adds;
        second_adds = second_adds;
        stands = subst (λ l. Stands (event.Enter b k d (call_of (caller_of t' w b))) l) seen
            (stands_own b (history_of (sizes_of w') w'.known.turns) (own_events b (history_of (sizes_of w) w.known.turns)) [] (event.Enter b k d (call_of (caller_of t' w b))) second_adds.grows.own);
        begins = subst (λ l. StartsWith l (history_of (sizes_of w) w.known.turns)) seen second_adds.grows.begins;
        second_begins = subst (λ l. StartsWith l (history_of (sizes_of v) v.known.turns)) (sym seen) adds.grows.begins;
      }

  pub busy_chan_row : (t t' t₁ t₂ : TableId) (a b g h k tries : ℕ) (v w v' w' : View V) → t₁ ≡ t → t₂ ≡ t' → sizes_of w ≡ sizes_of v → Sits (sizes_of v) a v stage.Free → next_in (sizes_of v) v a ≡ g → g ≤ 4294967295 → Sits (sizes_of w) b w stage.Free → next_in (sizes_of w) w b ≡ h → h ≤ 4294967295
      → Goes (sizes_of v) a v v' stage.Free [] 0 → Goes (sizes_of w) b w w' stage.Free [] 0 → w'.known.turns ≡ v'.known.turns → HaveChanged (sizes_of v) a b k tries v.known.turns w.known.turns v'.known.turns → HasExchanged (sizes_of v) a tries v v' → HasExchanged (sizes_of w) b 0 w w'
      → AreRefusedBusy (caller_of t v a) (caller_of t' w b) tries tries (caller_of t₁ v' a) (caller_of t₂ w' b) × HaveSeenChanges (caller_of t v a) (caller_of t' w b) k tries (caller_of t₁ v' a) (caller_of t₂ w' b)
  busy_chan_row t t' t₁ t₂ a b g h k tries v w v' w' table second_table same sits is left second_sits second_is second_left first second turns changed all none =
      let seen = same_seen a b 0 0 v w v' w' stage.Free stage.Free [] [] same first second turns in
      let adds = added t a 0 v v' stage.Free [] first in
      let second_adds = added t' b 0 w w' stage.Free [] second in (
        record {
          unspent = subst (λ n. n ≤ 4294967295) (sym (named (sizes_of v) a g v sits is)) left;
          second_unspent = subst (λ n. n ≤ 4294967295) (sym (named (sizes_of w) b h w second_sits second_is)) second_left;
          nothing = nothing_row t t₁ a v v' table first;
          second_nothing = nothing_row t' t₂ b w w' second_table second;
          begins = subst (λ l. StartsWith l (history_of (sizes_of w) w.known.turns)) seen second_adds.grows.begins;
          second_begins = subst (λ l. StartsWith l (history_of (sizes_of v) v.known.turns)) (sym seen) adds.grows.begins;
          failed = refl;
        },
        record { together = turns; changes = changed; tried = just_row t a tries v v' first all; second = few_row t' b 0 0 w w' stage.Free [] second (omega (arith, none)) },
      )

  pub spent_chan_row : (t t' : TableId) (a b m n : ℕ) (v w : View V) → Sits (sizes_of v) a v stage.Free → m ≡ next_in (sizes_of v) v a → Sits (sizes_of w) b w stage.Free → n ≡ next_in (sizes_of w) w b → (4294967295 < m) ⊎ (4294967295 < n)
      → AreRefusedSpent (caller_of t v a) (caller_of t' w b) (caller_of t v a) (caller_of t' w b)
  spent_chan_row t t' a b m n v w sits is second_sits second_is above = record {
    spent = at above;
    same = refl;
    second_same = refl;
    nothing = nothing_row t t a v v refl (goes_none (sizes_of v) a v stage.Free sits);
    second_nothing = nothing_row t' t' b w w refl (goes_none (sizes_of w) b w stage.Free second_sits);
  }
    where
      at : (4294967295 < m) ⊎ (4294967295 < n) → (4294967295 < next_generation (sizes_of v).first (history_of (sizes_of v) v.known.turns) a) ⊎ (4294967295 < next_generation (sizes_of w).first (history_of (sizes_of w) w.known.turns) b)
      at (inl over) = inl (subst (λ i. 4294967295 < i) (is ∙ next_is (sizes_of v) a v stage.Free sits) over)
      at (inr over) = inr (subst (λ i. 4294967295 < i) (second_is ∙ next_is (sizes_of w) b w stage.Free second_sits) over)
