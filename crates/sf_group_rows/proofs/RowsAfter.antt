-- a row of a caller that waited first is the row from the start: for the forms above that try again
use Rattle.std.proofs.Common.{◌≡◌, ℕ, ◌≤◌, List, [], ◌∷◌, ap, ◌∙◌, subst, Option, Some, None, zero-add, arith}
use Rattle.sf_history.specs.declared.call.CallId.{CallId}
use Rattle.sf_history.specs.declared.event.Forgotten.{Forgotten}
use Rattle.sf_history.specs.declared.event.Forgotten.TheVariants.{Closed, Idle}
use Rattle.sf_history.specs.declared.event.Event.{Event}
use Rattle.sf_history.specs.declared.event.Hit.{Hit}
use Rattle.sf_history.specs.declared.event.Event.TheVariants as event
use Rattle.sf_group_rows.specs.declared.limits.TheConstants.{GREATEST_GENERATION}
use Rattle.sf_group_rows.specs.declared.outcomes.Begun.{Begun}
use Rattle.sf_group_rows.specs.declared.outcomes.Begun.TheVariants.{Lead, Join}
use Rattle.sf_group_rows.specs.declared.outcomes.ChanBegun.{ChanBegun}
use Rattle.sf_group_rows.specs.declared.outcomes.ChanBegun.TheVariants.{Led, Joined}
use Rattle.sf_group_rows.specs.declared.outcomes.Polled.{Polled}
use Rattle.sf_group_rows.specs.declared.outcomes.Polled.TheVariants.{Ready, Pending}
use Rattle.sf_group_rows.specs.Tokens.{GroupValue, CallerValue, FlightValue, TicketValue, LetterValue}
use Rattle.sf_group_rows.specs.Seen.{Stands, next_of, next_call, Grows, Adds}
use Rattle.sf_group_rows.specs.Fitting.{FitOf}
use Rattle.sf_group_rows.specs.Same.{IsStill, IsStillTicket}
use Rattle.sf_group_rows.specs.Begins.{HasLed, HasJoined, HasBegun, HasLedChan, HasJoinedChan, HasChanBegun}
use Rattle.sf_group_rows.specs.Forgets.{HasForgot, HasForgotten, HasForgotCall}
use Rattle.sf_group_rows.specs.Finishes.{IsReady, IsPending, HasPolled}
use Rattle.sf_group_rows.proofs.AddsAgain.{starts_again, adds_after, same_caller}

module _ {V : Type 0} where
  -- the generation is the one from the start
  next_still : (g : GroupValue) (a : ℕ) (p q : List (Event ℕ V)) → Grows g a p q [] 0 → next_of g a q ≡ next_of g a p
  next_still g a p q s = let next = s.next in omega (arith, next)

  call_still : (g : GroupValue) (a : ℕ) (p q : List (Event ℕ V)) → Grows g a p q [] 0 → next_call g a q ≡ next_call g a p
  call_still g a p q s = ap (λ n. at n) (next_still g a p q s)
    where
      at : ℕ → CallId
      at n = record { caller = a; generation = n }

  unspent_still : (g : GroupValue) (a : ℕ) (p q : List (Event ℕ V)) → Grows g a p q [] 0 → next_of g a q ≤ GREATEST_GENERATION → next_of g a p ≤ GREATEST_GENERATION
  unspent_still g a p q s u = subst (λ n. n ≤ GREATEST_GENERATION) (next_still g a p q s) u

  -- what is added, after a wait
  after : (g : GroupValue) (a : ℕ) (p q r : List (Event ℕ V)) (x : CallId → List (Event ℕ V)) (n : ℕ) → Grows g a p q [] 0 → Adds g a q r (x (next_call g a q)) n → Adds g a p r (x (next_call g a p)) n
  after g a p q r x n s adds = subst (λ c. Adds g a p r (x c) n) (call_still g a p q s) (subst (λ m. Adds g a p r (x (next_call g a q)) m) (zero-add n) (adds_after g a p q r [] (x (next_call g a q)) 0 n s adds))

  -- the caller from the start, with what another saw
  abbrev seeing : CallerValue V → CallerValue V → CallerValue V
  seeing c d = record { group = c.group; number = c.number; seen = d.seen; turns = d.turns }

  -- an asking
  led_after : (c d : CallerValue V) (k : ℕ) (f : FlightValue V) → Grows c.group c.number c.seen d.seen [] 0 → HasLed (seeing c d) k f → HasLed c k f
  led_after c d k f s h = record {
    unspent = unspent_still c.group c.number c.seen d.seen s h.unspent;
    group = h.group;
    number = h.number;
    place = h.place;
    call = h.call ∙ call_still c.group c.number c.seen d.seen s;
    own = h.own;
    adds = after c.group c.number c.seen d.seen f.seen (λ m. event.Lead c.number k m None ∷ []) 1 s h.adds;
  }

  joined_after : (c d : CallerValue V) (k : ℕ) (t : TicketValue V) → Grows c.group c.number c.seen d.seen [] 0 → HasJoined (seeing c d) k t → HasJoined c k t
  joined_after c d k t s h = record {
    unspent = unspent_still c.group c.number c.seen d.seen s h.unspent;
    group = h.group;
    number = h.number;
    place = h.place;
    member = h.member ∙ call_still c.group c.number c.seen d.seen s;
    adds = after c.group c.number c.seen d.seen t.seen (λ m. event.Enter c.number k t.call m ∷ []) 1 s h.adds;
  }

  begun_here : (c d : CallerValue V) (k : ℕ) (r : Begun (FlightValue V) (TicketValue V)) → Grows c.group c.number c.seen d.seen [] 0 → HasBegun (seeing c d) k r → HasBegun c k r
  begun_here c d k (Lead f) s h = led_after c d k f s h
  begun_here c d k (Join t) s h = joined_after c d k t s h

  pub begun_after : (c d : CallerValue V) (k : ℕ) (r : Begun (FlightValue V) (TicketValue V)) → IsStill c d → HasBegun d k r → HasBegun c k r
  begun_after c d k r s h = begun_here c d k r s.grows (subst (λ (x : CallerValue V). HasBegun x k r) (same_caller c d s.group s.number) h)

  -- a Forget
  forgot_after : (c d e : CallerValue V) (k : ℕ) (closed : Option CallId) → Grows c.group c.number c.seen d.seen [] 0 → HasForgot (seeing c d) k closed e → HasForgot c k closed e
  forgot_after c d e k closed s h = record { group = h.group; number = h.number; adds = adds_after c.group c.number c.seen d.seen e.seen [] (event.Forget c.number k closed ∷ []) 0 0 s h.adds }

  forgotten_here : (c d e : CallerValue V) (k : ℕ) (r : Forgotten) → Grows c.group c.number c.seen d.seen [] 0 → HasForgotten (seeing c d) k e r → HasForgotten c k e r
  forgotten_here c d e k (Closed x) s h = forgot_after c d e k (Some x) s h
  forgotten_here c d e k Idle s h = forgot_after c d e k None s h

  pub forgotten_after : (c d e : CallerValue V) (k : ℕ) (r : Forgotten) → IsStill c d → HasForgotten d k e r → HasForgotten c k e r
  forgotten_after c d e k r s h = forgotten_here c d e k r s.grows (subst (λ (x : CallerValue V). HasForgotten x k e r) (same_caller c d s.group s.number) h)

  -- a Forget of one call
  call_forgot_here : (c d e : CallerValue V) (k : ℕ) (x : CallId) (hit : Hit) → Grows c.group c.number c.seen d.seen [] 0 → HasForgotCall (seeing c d) k x hit e → HasForgotCall c k x hit e
  call_forgot_here c d e k x hit s h = record { group = h.group; number = h.number; adds = adds_after c.group c.number c.seen d.seen e.seen [] (event.ForgetCall c.number k x hit ∷ []) 0 0 s h.adds }

  pub call_forgotten_after : (c d e : CallerValue V) (k : ℕ) (x : CallId) (hit : Hit) → IsStill c d → HasForgotCall d k x hit e → HasForgotCall c k x hit e
  call_forgotten_after c d e k x hit s h = call_forgot_here c d e k x hit s.grows (subst (λ (y : CallerValue V). HasForgotCall y k x hit e) (same_caller c d s.group s.number) h)

  -- a poll
  abbrev seeing_ticket : TicketValue V → TicketValue V → TicketValue V
  seeing_ticket t u = record { group = t.group; number = t.number; seen = u.seen; turns = u.turns; place = t.place; call = t.call; member = t.member }

  same_ticket : (t u : TicketValue V) → IsStillTicket t u → u ≡ seeing_ticket t u
  same_ticket t u s =
      ap (λ g. of g u.number u.place u.call u.member) s.group
      ∙ (ap (λ a. of t.group a u.place u.call u.member) s.number
      ∙ (ap (λ k. of t.group t.number k u.call u.member) s.place
      ∙ (ap (λ c. of t.group t.number t.place c u.member) s.call ∙ ap (λ m. of t.group t.number t.place t.call m) s.member)))
    where
      of : GroupValue → ℕ → ℕ → CallId → CallId → TicketValue V
      of g a k c m = record { group = g; number = a; seen = u.seen; turns = u.turns; place = k; call = c; member = m }

  ready_after : (fits : FitOf V) (t u : TicketValue V) (c : CallerValue V) (l : LetterValue V) → Grows t.group t.number t.seen u.seen [] 0 → IsReady fits (seeing_ticket t u) c l → IsReady fits t c l
  ready_after fits t u c l s h = record { group = h.group; number = h.number; adds = adds_after t.group t.number t.seen u.seen c.seen [] [] 0 0 s h.adds; letter = h.letter; shows = h.shows; fitting = h.fitting }

  pending_after : (t u v : TicketValue V) → Grows t.group t.number t.seen u.seen [] 0 → IsPending (seeing_ticket t u) v → IsPending t v
  pending_after t u v s h = record { group = h.group; number = h.number; place = h.place; call = h.call; member = h.member; adds = adds_after t.group t.number t.seen u.seen v.seen [] [] 0 0 s h.adds; unhanded = h.unhanded }

  polled_here : (fits : FitOf V) (t u : TicketValue V) (r : Polled (CallerValue V) (LetterValue V) (TicketValue V)) → Grows t.group t.number t.seen u.seen [] 0 → HasPolled fits (seeing_ticket t u) r → HasPolled fits t r
  polled_here fits t u (Ready c l) s h = ready_after fits t u c l s h
  polled_here fits t u (Pending v) s h = pending_after t u v s h

  pub polled_after : (fits : FitOf V) (t u : TicketValue V) (r : Polled (CallerValue V) (LetterValue V) (TicketValue V)) → IsStillTicket t u → HasPolled fits u r → HasPolled fits t r
  polled_after fits t u r s h = polled_here fits t u r s.grows (subst (λ (x : TicketValue V). HasPolled fits x r) (same_ticket t u s) h)

  -- a poll that is pending leaves the ticket still
  pub pending_still : (t u : TicketValue V) → IsPending t u → IsStillTicket t u
  pending_still t u h = record { group = h.group; number = h.number; place = h.place; call = h.call; member = h.member; grows = h.adds.grows }

  -- an asking with a second
  led_chan_after : (a b c d : CallerValue V) (k : ℕ) (f : FlightValue V) (t : TicketValue V) → Grows a.group a.number a.seen c.seen [] 0 → Grows b.group b.number b.seen d.seen [] 0 → HasLedChan (seeing a c) (seeing b d) k f t → HasLedChan a b k f t
  led_chan_after a b c d k f t s u h =
      let mine = call_still a.group a.number a.seen c.seen s in
      let theirs = call_still b.group b.number b.seen d.seen u in
      record {
        unspent = unspent_still a.group a.number a.seen c.seen s h.unspent;
        second_unspent = unspent_still b.group b.number b.seen d.seen u h.second_unspent;
        group = h.group;
        number = h.number;
        place = h.place;
        call = h.call ∙ mine;
        own = h.own ∙ ap (λ m. Some m) theirs;
        second_group = h.second_group;
        second_number = h.second_number;
        second_place = h.second_place;
        second_call = h.second_call;
        member = h.member ∙ theirs;
        adds = after a.group a.number a.seen c.seen f.seen (λ m. event.Lead a.number k m (Some (next_call b.group b.number b.seen)) ∷ []) 1 s
            (subst (λ n. Adds a.group a.number c.seen f.seen (event.Lead a.number k (next_call a.group a.number c.seen) (Some n) ∷ []) 1) theirs h.adds);
        second_adds = adds_after b.group b.number b.seen d.seen t.seen [] [] 0 1 u h.second_adds;
        stands = subst (λ m. Stands (event.Lead a.number k m (Some (next_call b.group b.number b.seen))) t.seen) mine
            (subst (λ n. Stands (event.Lead a.number k (next_call a.group a.number c.seen) (Some n)) t.seen) theirs h.stands);
        begins = starts_again b.seen d.seen f.seen u.begins h.begins;
        second_begins = starts_again a.seen c.seen t.seen s.begins h.second_begins;
      }

  joined_chan_after : (a b c d : CallerValue V) (k : ℕ) (t : TicketValue V) (e : CallerValue V) → Grows a.group a.number a.seen c.seen [] 0 → Grows b.group b.number b.seen d.seen [] 0 → HasJoinedChan (seeing a c) (seeing b d) k t e → HasJoinedChan a b k t e
  joined_chan_after a b c d k t e s u h =
      let theirs = call_still b.group b.number b.seen d.seen u in
      record {
        unspent = unspent_still a.group a.number a.seen c.seen s h.unspent;
        second_unspent = unspent_still b.group b.number b.seen d.seen u h.second_unspent;
        group = h.group;
        number = h.number;
        second_group = h.second_group;
        second_number = h.second_number;
        second_place = h.second_place;
        member = h.member ∙ theirs;
        adds = adds_after a.group a.number a.seen c.seen e.seen [] [] 0 0 s h.adds;
        second_adds = after b.group b.number b.seen d.seen t.seen (λ m. event.Enter b.number k t.call m ∷ []) 1 u h.second_adds;
        stands = subst (λ m. Stands (event.Enter b.number k t.call m) e.seen) theirs h.stands;
        begins = starts_again b.seen d.seen e.seen u.begins h.begins;
        second_begins = starts_again a.seen c.seen t.seen s.begins h.second_begins;
      }

  chan_here : (a b c d : CallerValue V) (k : ℕ) (r : ChanBegun (FlightValue V) (TicketValue V) (CallerValue V)) → Grows a.group a.number a.seen c.seen [] 0 → Grows b.group b.number b.seen d.seen [] 0 → HasChanBegun (seeing a c) (seeing b d) k r → HasChanBegun a b k r
  chan_here a b c d k (Led f t) s u h = led_chan_after a b c d k f t s u h
  chan_here a b c d k (Joined t e) s u h = joined_chan_after a b c d k t e s u h

  pub chan_begun_after : (a b c d : CallerValue V) (k : ℕ) (r : ChanBegun (FlightValue V) (TicketValue V) (CallerValue V)) → IsStill a c → IsStill b d → HasChanBegun c d k r → HasChanBegun a b k r
  chan_begun_after a b c d k r s u h = chan_here a b c d k r s.grows u.grows
      (subst (λ (y : CallerValue V). HasChanBegun (seeing a c) y k r) (same_caller b d u.group u.number)
      (subst (λ (x : CallerValue V). HasChanBegun x d k r) (same_caller a c s.group s.number) h))
