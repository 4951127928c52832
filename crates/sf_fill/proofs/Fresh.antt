-- what a get and a reload add, and how fresh the answers of gets are, follows from how they end
use Rattle.std.proofs.Common.{◌≡◌, ℕ, ◌+◌, nat_eq, Bool, true, false, cond, List, [], ◌∷◌, ◌++◌, Result, Ok, Err, Some, None, inl, inr, ◌⊎◌, zero, suc, ◌||◌, refl, sym, ap, ◌∙◌, subst, append_assoc, IsOk, arith}
use Rattle.std.proofs.lemmas.List.{append-nil}
use Rattle.std.proofs.lemmas.List.Folds.{list_any-append}
use Rattle.std.proofs.lemmas.List.Sums.{sum_by-append}
use Rattle.std.proofs.lemmas.List.Elements.{All-nil, All-push}
use Rattle.sf_history.specs.declared.call.CallId.{CallId}
use Rattle.sf_history.specs.declared.event.Hit.{Hit}
use Rattle.sf_history.specs.declared.event.Hit.TheVariants as hit
use Rattle.sf_history.specs.declared.event.Event.{Event}
use Rattle.sf_history.specs.declared.event.Event.TheVariants as event
use Rattle.sf_history.specs.History.{current_call}
use Rattle.sf_history.specs.Legal.{IsLegal}
use Rattle.sf_group_rows.specs.declared.outcomes.Finished.{Finished}
use Rattle.sf_group_rows.specs.declared.outcomes.Finished.TheVariants.{Done, Held}
use Rattle.sf_group_rows.specs.Tokens.{GroupValue, CallerValue, FlightValue, SettledValue, TicketValue, LetterValue}
use Rattle.sf_group_rows.specs.Seen.{StartsWith, Stands, Grows, Adds}
use Rattle.sf_group_rows.specs.Same.{HasNothing, IsStill, call_of}
use Rattle.sf_group_rows.specs.Notes.{HasLent}
use Rattle.sf_group_rows.specs.Begins.{HasJoined, IsRefusedSpent}
use Rattle.sf_group_rows.specs.Finishes.{IsReady}
use Rattle.sf_group_rows.proofs.AddsAgain.{starts_again, grows_again, grows_none, adds_again}
use Rattle.sf_dir.specs.Known.{DirectoryId}
use Rattle.sf_dir.specs.declared.refusal.Refusal.{Refusal}
use Rattle.sf_dir.specs.declared.refusal.Refusal.TheVariants as refusal
use Rattle.sf_loaders.specs.LoadPath.{LoadAnswer}
use Rattle.sf_loaders.specs.declared.faults.LocalFault.{LocalFault}
use Rattle.sf_loaders.specs.declared.faults.LocalFault.TheVariants as local
use Rattle.sf_fill_keys.specs.declared.key_space.KeyDesk.{KeyDesk}
use Rattle.sf_fill_keys.specs.declared.spot.Spot.{Spot}
use Rattle.sf_fill_keys.specs.declared.spot.Spot.TheVariants as spot
use Rattle.sf_fill_keys.specs.Spaces.{SpaceId}
use Rattle.sf_fill_keys.specs.Spots.{IsInSpace, IsOther, spot_place}
use Rattle.sf_fill_values.specs.declared.fault.LoadFault.{LoadFault}
use Rattle.sf_fill_values.specs.declared.fault.LoadFault.TheVariants as fault
use Rattle.sf_fill_store.specs.declared.forget.Forgot.{Forgot}
use Rattle.sf_fill_store.specs.declared.forget.Forgot.TheVariants as forgot
use Rattle.sf_fill_store.specs.declared.standing.Standing.{Standing}
use Rattle.sf_fill_store.specs.declared.standing.Standing.TheVariants.{Free, Owing}
use Rattle.sf_fill_counters.specs.declared.totals.GetCounts.{GetCounts}
use Rattle.sf_fill_counters.specs.declared.totals.Totals.{Totals}
use Rattle.sf_fill.specs.Counted.{has_asking, is_asking, askings_in, IsCounted}
use Rattle.sf_fill_values.specs.FillValue.{Filled, FitsFill, fill_lasts}
use Rattle.sf_fill_counters.specs.GetCounts.{get_alone}
use Rattle.sf_fill_store.specs.Found.{Found, FromCache, Uncopied, Unmade, Spent, Joined, Led, HasFound, HasFoundFrom, HasMissed, HasRun, IsMiss, IsSource}
use Rattle.sf_fill.specs.Fresh.{HasAdded, handed_by, delivered_by, IsFresh, IsAsking, IsAnswer, IsMissedEnter, AreMissed, IsUnanswered, IsOutdated, IsFreshGet, ForgetsOnce, IsReloading}
use Rattle.sf_fill_store.specs.Forgets.{forgot_by}
use Rattle.sf_fill_values.specs.Answers.{GetAnswer, refusal_of, answer_by}
use Rattle.sf_fill.specs.Gets.{IsFoundGet, GetsFrom, HasGot}
use Rattle.sf_fill_store.specs.Replies.{Reply, reply_of}
use Rattle.sf_fill.specs.GetterValue.{GetterValue}
use Rattle.sf_fill_store.specs.Standings.{IsOfGroup, number_of, group_of, seen_of, is_owing}
use Rattle.sf_fill_store.specs.Logs.{logged_by}
use Rattle.sf_fill.specs.Owing.{HasDelivered}
use Rattle.sf_fill.specs.Reloads.{ReloadsFrom, HasReloaded}
use Rattle.sf_fill_store.specs.Forgets.{HasForgotNamed, ForgetsNamed}
use Rattle.sf_group_rows.specs.Unforgotten.{IsUnforgotten}
use Rattle.sf_fill_values.specs.Settled.{HasOnlyLooked, IsSettled}
use Rattle.sf_fill_values.proofs.Looks.{looked_again, still_looked}
use Rattle.sf_fill.proofs.Outdated.{outdated}
use Rattle.sf_group_rows.proofs.Moments.{first_added, led_current, entered_current, stands_more}
use Rattle.sf_fill_values.proofs.Rooting.{root_unforgotten}

abbrev Seen : Type 0
Seen = List (Event ℕ Filled)

asking_after : (x y : Seen) → has_asking x ≡ false → has_asking (x ++ y) ≡ has_asking y
asking_after x y none = rw (list_any-append is_asking x y, none) refl

unasked : (x y : Seen) → has_asking (x ++ y) ≡ false → has_asking y ≡ false
unasked x y none = right (has_asking x) (has_asking y) (sym (list_any-append is_asking x y) ∙ none)
  where
    right : (a b : Bool) → (a || b) ≡ false → b ≡ false
    right false b none = none
    right true b none = cc

askings_on : (x y : Seen) → askings_in (x ++ y) ≡ askings_in x + askings_in y
askings_on x y = sum_by-append (λ (e : Event ℕ Filled). cond (is_asking e) 1 0) x y

-- a token of this group and number made these events, and became one of that group and number
pub record Moved (g : GroupValue) (a : ℕ) (p : Seen) (h : GroupValue) (b : ℕ) (q x : Seen) (n : ℕ) : Type 0 where
  pub group : h ≡ g
  pub number : b ≡ a
  pub adds : Adds g a p q x n

moved_again : (g h j : GroupValue) (a b c : ℕ) (p q r x y : Seen) (m n : ℕ) → Moved g a p h b q x m → Moved h b q j c r y n → Moved g a p j c r (x ++ y) (m + n)
moved_again g h j a b c p q r x y m n first second = record {
  group = second.group ∙ first.group;
  number = second.number ∙ first.number;
  adds = adds_again g a p q r x y m n first.adds (subst (λ (i : ℕ). Adds g i q r y n) first.number (subst (λ (i : GroupValue). Adds i b q r y n) first.group second.adds));
}

none_more : (n : ℕ) → 0 + n ≡ n
none_more n = omega arith

-- after a caller that made nothing
still_moved : (c u : CallerValue Filled) (j : GroupValue) (i : ℕ) (r x : Seen) (n : ℕ) → IsStill c u → Moved u.group u.number u.seen j i r x n → Moved c.group c.number c.seen j i r x n
still_moved c u j i r x n still second =
    let adds : Adds c.group c.number u.seen r x n = subst (λ (i : ℕ). Adds c.group i u.seen r x n) still.number (subst (λ (i : GroupValue). Adds i u.number u.seen r x n) still.group second.adds) in
    record {
      group = second.group ∙ still.group;
      number = second.number ∙ still.number;
      adds = record {
        grows = subst (λ (j : ℕ). Grows c.group c.number c.seen r x j) (none_more n) (grows_again c.group c.number c.seen u.seen r [] x 0 n still.grows adds.grows);
        lawful = adds.lawful;
      };
    }

nothing_moved : (c d : CallerValue Filled) → HasNothing c d → Moved c.group c.number c.seen d.group d.number d.seen [] 0
nothing_moved c d h = record { group = h.group; number = h.number; adds = h.adds }

-- what was owed is handed out, or is owed still
pub delivered : (s m : Standing Filled) → HasDelivered s m → HasAdded s m (delivered_by s m)
delivered (Free c) m h = subst (λ (n : Standing Filled). HasAdded (Free c) n (delivered_by (Free c) n)) (sym h)
    (record { group = refl; number = refl; grows = record { begins = ([], sym (append-nil c.seen)); own = sym (append-nil _); next = omega arith }; lawful = inl refl })
delivered (Owing s) (Free d) h = let row = h.1 in record { group = row.group; number = row.number; grows = row.adds.grows; lawful = inr row.adds.lawful }
delivered (Owing s) (Owing t) h = record { group = h.group; number = h.number; grows = h.adds.grows; lawful = inr h.adds.lawful }

none_asked : (s : Standing Filled) (b : Bool) → has_asking (handed_by s b) ≡ false
none_asked (Free c) b = refl
none_asked (Owing s) true = refl
none_asked (Owing s) false = refl

pub added_none : (s m : Standing Filled) (x : Seen) → HasAdded s m x → HasAdded s m (x ++ [])
added_none s m x h = subst (λ (y : Seen). HasAdded s m y) (sym (append-nil x)) h

pub added_more : (s m t : Standing Filled) (x y : Seen) (n : ℕ) → HasAdded s m x → Moved (group_of m) (number_of m) (seen_of m) (group_of t) (number_of t) (seen_of t) y n
    → n ≡ askings_in y → HasAdded s t (x ++ y)
added_more s m t x y n first second count =
    let adds : Adds (group_of s) (number_of s) (seen_of m) (seen_of t) y n =
    subst (λ (i : ℕ). Adds (group_of s) i (seen_of m) (seen_of t) y n) first.number (subst (λ (i : GroupValue). Adds i (number_of m) (seen_of m) (seen_of t) y n) first.group second.adds) in
    let given : askings_in x + n ≡ askings_in (x ++ y) = ap (λ (i : ℕ). askings_in x + i) count ∙ sym (askings_on x y) in
    record {
      group = second.group ∙ first.group;
      number = second.number ∙ first.number;
      grows = subst (λ (j : ℕ). Grows (group_of s) (number_of s) (seen_of s) (seen_of t) (x ++ y) j) given
          (grows_again (group_of s) (number_of s) (seen_of s) (seen_of m) (seen_of t) x y (askings_in x) n first.grows adds.grows);
      lawful = inr adds.lawful;
    }

fits_more : (k : ℕ) (c : CallId) (v : Filled) (p h : Seen) → StartsWith h p → FitsFill k c v p → FitsFill k c v h
fits_more k c v p h w f = subst (λ (l : Seen). FitsFill k c v l) (sym w.1) (fill_lasts k c v p w.0 f)

-- a letter is fresh whose call is current at the moment
fresh_at : (k : ℕ) (old moment h : Seen) (l : LetterValue Filled) → IsLegal nat_eq h → StartsWith h moment → StartsWith moment old → current_call nat_eq moment k ≡ Some l.call
    → l.place ≡ k → FitsFill l.place l.call l.value l.seen → IsSettled l → StartsWith h l.seen → IsFresh k old h l
fresh_at k old moment h l legal within begins current place fits settled shown =
    let fitting : FitsFill k l.call l.value h = subst (λ (i : ℕ). FitsFill i l.call l.value h) place (fits_more l.place l.call l.value l.seen h shown fits) in
    record {
      place = place;
      settled = stands_more _ l.seen h shown settled;
      moment = moment;
      begins = begins;
      within = within;
      current = current;
      rooted = root_unforgotten h moment k l.value.root l.call legal within current fitting.1;
    }

-- so is the same letter, whose note may show more
fresh_lent : (k : ℕ) (old h : Seen) (l m : LetterValue Filled) → HasLent l m → IsFresh k old h l → IsFresh k old h m
fresh_lent k old h l m lent fresh =
    let settled : event.Settle m.call.caller m.call m.value m.joiners ≡ event.Settle l.call.caller l.call l.value l.joiners =
    ap (λ (c : CallId). event.Settle c.caller c m.value m.joiners) lent.call
    ∙ (ap (λ (v : Filled). event.Settle l.call.caller l.call v m.joiners) lent.value ∙ ap (λ (n : ℕ). event.Settle l.call.caller l.call l.value n) lent.count) in
    record {
      place = lent.place ∙ fresh.place;
      settled = subst (λ (e : Event ℕ Filled). Stands e h) (sym settled) fresh.settled;
      moment = fresh.moment;
      begins = fresh.begins;
      within = fresh.within;
      current = fresh.current ∙ ap Some (sym lent.call);
      rooted = subst (λ (v : Filled). IsUnforgotten k v.root fresh.moment) (sym lent.value) fresh.rooted;
    }

-- what a fresh letter answers
answered : (k : ℕ) (call : CallId) (old new added : Seen) (l : LetterValue Filled) (r : Result (List ℕ) LocalFault) → l.value.result ≡ r → l.call ≡ call → IsFresh k old new l → IsAnswer k call old new added (answer_by l r)
answered k call old new added l (Ok bytes) is of fresh = (of, fresh)
answered k call old new added l (Err (local.Failed text)) is of fresh = (l, is, of, fresh)
answered k call old new added l (Err local.Memory) is of fresh = (l, is, of, fresh)

-- an answer after more had been seen is one after less
answer_before : (k : ℕ) (call : CallId) (p old new added : Seen) (answer : GetAnswer) → StartsWith old p → IsAnswer k call old new added answer → IsAnswer k call p new added answer
answer_before k call p old new added (Ok l) w a = (a.0, fresh_before a.1)
  where
    fresh_before : IsFresh k old new l → IsFresh k p new l
    fresh_before f = record { place = f.place; settled = f.settled; moment = f.moment; begins = starts_again p old f.moment w f.begins; within = f.within; current = f.current; rooted = f.rooted }
answer_before k call p old new added (Err (fault.Local text)) w a =
    let f = a.3 in
    (a.0, a.1, a.2, record { place = f.place; settled = f.settled; moment = f.moment; begins = starts_again p old f.moment w f.begins; within = f.within; current = f.current; rooted = f.rooted })
answer_before k call p old new added (Err fault.LeaderMemory) w a =
    let f = a.3 in
    (a.0, a.1, a.2, record { place = f.place; settled = f.settled; moment = f.moment; begins = starts_again p old f.moment w f.begins; within = f.within; current = f.current; rooted = f.rooted })
answer_before k call p old new added (Err (fault.Refused r)) w a = a
answer_before k call p old new added (Err fault.Memory) w a = a

-- the counts suit what was added and answered
record Suits (added : Seen) (counts : GetCounts) (answer : GetAnswer) : Type 0 where
  gets : counts.gets ≡ 1
  loads : has_asking added ≡ true → counts.loads ≡ 1
  hits : has_asking added ≡ false → IsOk answer → (counts.cache_hits ≡ 1) × (counts.loads ≡ 0)

-- what a get added for its caller, once it asked, and what it answers and counts for that
record Once (c : CallerValue Filled) (k : ℕ) (reply : Reply) : Type 0 where
  asking : Seen
  given : ℕ
  moved : Moved c.group c.number c.seen (group_of reply.0) (number_of reply.0) (seen_of reply.0) asking given
  count : given ≡ askings_in asking
  call : CallId
  asked : IsAsking c.number k call (is_owing reply.0) asking
  answer : IsAnswer k call c.seen (seen_of reply.0) asking reply.2
  gets : reply.1.gets ≡ 1
  loads : reply.1.loads ≡ 1
  unhit : has_asking asking ≡ false → IsOk reply.2 → ⊥

-- the same after calls of other keys that it joined
record Asked (space : SpaceId) (key : List ℕ) (c : CallerValue Filled) (k : ℕ) (reply : Reply) : Type 0 where
  added : Seen
  missed : Seen
  others : AreMissed space c.number k key (seen_of reply.0) missed
  asking : Seen
  parts : added ≡ missed ++ asking
  given : ℕ
  moved : Moved c.group c.number c.seen (group_of reply.0) (number_of reply.0) (seen_of reply.0) added given
  count : given ≡ askings_in added
  call : CallId
  asked : IsAsking c.number k call (is_owing reply.0) asking
  answer : IsAnswer k call c.seen (seen_of reply.0) asking reply.2
  suits : Suits added reply.1 reply.2

asked_before : (space : SpaceId) (key : List ℕ) (c u : CallerValue Filled) (k : ℕ) (reply : Reply) → IsStill c u → Asked space key u k reply → Asked space key c k reply
asked_before space key c u k reply still a = record {
  added = a.added;
  missed = a.missed;
  others = subst (λ (i : ℕ). AreMissed space i k key (seen_of reply.0) a.missed) still.number a.others;
  asking = a.asking;
  parts = a.parts;
  given = a.given;
  moved = still_moved c u (group_of reply.0) (number_of reply.0) (seen_of reply.0) a.added a.given still a.moved;
  count = a.count;
  call = a.call;
  asked = subst (λ (i : ℕ). IsAsking i k a.call (is_owing reply.0) a.asking) still.number a.asked;
  answer = answer_before k a.call c.seen u.seen (seen_of reply.0) a.asking reply.2 still.grows.begins a.answer;
  suits = a.suits;
}

-- no key of a directory meets another's call
no_miss : (d : DirectoryId) (key : List ℕ) (s : Spot) → IsInSpace (inl d) s → IsOther s key → ⊥
no_miss d key (spot.Directory p) within other = other
no_miss d key (spot.Hashed h) within other = within

-- an asking that met another key's call
miss_moved : (space : SpaceId) (key : List ℕ) (k : ℕ) (c d : CallerValue Filled) (m : IsMiss space key k c d)
    → Moved c.group c.number c.seen d.group d.number d.seen (event.Enter c.number k m.ticket.call (call_of c) ∷ []) 1
miss_moved space key k c d m =
    let t = m.ticket in
    let in_call : Moved c.group c.number c.seen t.group t.number t.seen (event.Enter c.number k t.call (call_of c) ∷ []) 1 = record { group = m.joined.group; number = m.joined.number; adds = m.joined.adds } in
    let waited : Moved t.group t.number t.seen d.group d.number d.seen [] 0 = record { group = m.ready.group; number = m.ready.number; adds = m.ready.adds } in
    moved_again _ _ _ _ _ _ _ _ _ _ _ _ _ in_call waited

miss_enter : (space : SpaceId) (key : List ℕ) (k : ℕ) (c d : CallerValue Filled) (m : IsMiss space key k c d)
    → IsMissedEnter c.number k key d.seen (event.Enter c.number k m.ticket.call (call_of c))
miss_enter space key k c d m = record {
  call = m.ticket.call;
  member = call_of c;
  is = refl;
  value = m.letter.value;
  joiners = m.letter.joiners;
  settled = stands_more _ m.letter.seen d.seen m.ready.shows m.ready.letter.settled;
  other = m.other;
}

enter_more : (by k : ℕ) (key : List ℕ) (p h : Seen) (e : Event ℕ Filled) → StartsWith h p → IsMissedEnter by k key p e → IsMissedEnter by k key h e
enter_more by k key p h e w m = record { call = m.call; member = m.member; is = m.is; value = m.value; joiners = m.joiners; settled = stands_more _ p h w m.settled; other = m.other }

missed_more : (space : SpaceId) (by k : ℕ) (key : List ℕ) (p h missed : Seen) → StartsWith h p → AreMissed space by k key p missed → AreMissed space by k key h missed
missed_more (inl d) by k key p h missed w m = m
missed_more (inr places) by k key p h missed w m = λ i e within. enter_more by k key p h _ w (m i e within)

-- a caller that has seen more, in which it made these events
record Grew (c u : CallerValue Filled) (x : Seen) (n : ℕ) : Type 0 where
  group : u.group ≡ c.group
  number : u.number ≡ c.number
  grows : Grows c.group c.number c.seen u.seen x n

grew_none : (c u : CallerValue Filled) → u ≡ c → Grew c u [] 0
grew_none c u is = subst (λ (x : CallerValue Filled). Grew c x [] 0) (sym is) (record { group = refl; number = refl; grows = grows_none c.group c.number c.seen })

grew_again : (c u d : CallerValue Filled) (x y : Seen) (m n : ℕ) → Grew c u x m → Grew u d y n → Grew c d (x ++ y) (m + n)
grew_again c u d x y m n first second =
    let on : Grows c.group c.number u.seen d.seen y n = subst (λ (i : ℕ). Grows c.group i u.seen d.seen y n) first.number (subst (λ (g : GroupValue). Grows g u.number u.seen d.seen y n) first.group second.grows) in
    record { group = second.group ∙ first.group; number = second.number ∙ first.number; grows = grows_again c.group c.number c.seen u.seen d.seen x y m n first.grows on }

grew_moved : (c u : CallerValue Filled) (j : GroupValue) (i : ℕ) (r x y : Seen) (m n : ℕ) → Grew c u x m → Moved u.group u.number u.seen j i r y n → Moved c.group c.number c.seen j i r (x ++ y) (m + n)
grew_moved c u j i r x y m n first second =
    let adds : Adds c.group c.number u.seen r y n = subst (λ (i : ℕ). Adds c.group i u.seen r y n) first.number (subst (λ (i : GroupValue). Adds i u.number u.seen r y n) first.group second.adds) in
    record {
      group = second.group ∙ first.group;
      number = second.number ∙ first.number;
      adds = record { grows = grows_again c.group c.number c.seen u.seen r x y m n first.grows adds.grows; lawful = adds.lawful };
    }

-- what askings that met other keys' calls added
record Missed (space : SpaceId) (key : List ℕ) (k : ℕ) (c u : CallerValue Filled) : Type 0 where
  missed : Seen
  given : ℕ
  count : given ≡ askings_in missed
  others : AreMissed space c.number k key u.seen missed
  grew : Grew c u missed given

missed : (space : SpaceId) (key : List ℕ) (k n : ℕ) (c u : CallerValue Filled) → HasMissed space key k n c u → Missed space key k c u
missed (inl d) key k zero c u is = record { missed = []; given = 0; count = refl; others = refl; grew = grew_none c u is }
missed (inl d) key k (suc n) c u (m, before, miss) = absurd (no_miss d key miss.letter.value.spot miss.space miss.other)
missed (inr places) key k zero c u is = record { missed = []; given = 0; count = refl; others = All-nil _; grew = grew_none c u is }
missed (inr places) key k (suc n) c u (m, before, miss) =
    let first = missed (inr places) key k n c m before in
    let moved = miss_moved (inr places) key k m u miss in
    let enter : Event ℕ Filled = event.Enter m.number k miss.ticket.call (call_of m) in
    let grew : Grew m u (enter ∷ []) 1 = record { group = moved.group; number = moved.number; grows = moved.adds.grows } in
    let others : AreMissed (inr places) c.number k key u.seen first.missed = missed_more (inr places) c.number k key m.seen u.seen first.missed moved.adds.grows.begins first.others in
    let one : IsMissedEnter c.number k key u.seen enter = subst (λ (i : ℕ). IsMissedEnter i k key u.seen enter) first.grew.number (miss_enter (inr places) key k m u miss) in
    record {
      missed = first.missed ++ enter ∷ [];
      given = first.given + 1;
      count = ap (λ (i : ℕ). i + 1) first.count ∙ sym (askings_on first.missed (enter ∷ []));
      others = All-push (IsMissedEnter c.number k key u.seen) first.missed enter others one;
      grew = grew_again c m u first.missed (enter ∷ []) first.given 1 first.grew grew;
    }

-- an asking after others that met other keys' calls
after_misses : (space : SpaceId) (key : List ℕ) (k n : ℕ) (c u : CallerValue Filled) (reply : Reply) → HasMissed space key k n c u → Once u k reply → Asked space key c k reply
after_misses space key k n c u reply before once =
    let m = missed space key k n c u before in
    let number : u.number ≡ c.number = m.grew.number in
    let asks : has_asking (m.missed ++ once.asking) ≡ false → has_asking once.asking ≡ false = unasked m.missed once.asking in
    record {
      added = m.missed ++ once.asking;
      missed = m.missed;
      others = missed_more space c.number k key u.seen (seen_of reply.0) m.missed once.moved.adds.grows.begins m.others;
      asking = once.asking;
      parts = refl;
      given = m.given + once.given;
      moved = grew_moved c u (group_of reply.0) (number_of reply.0) (seen_of reply.0) m.missed once.asking m.given once.given m.grew once.moved;
      count = ap (λ (i : ℕ). i + once.given) m.count ∙ ap (λ (i : ℕ). askings_in m.missed + i) once.count ∙ sym (askings_on m.missed once.asking);
      call = once.call;
      asked = subst (λ (i : ℕ). IsAsking i k once.call (is_owing reply.0) once.asking) number once.asked;
      answer = answer_before k once.call c.seen u.seen (seen_of reply.0) once.asking reply.2 m.grew.grows.begins once.answer;
      suits = record { gets = once.gets; loads = λ _. once.loads; hits = λ e ok. absurd (once.unhit (asks e) ok) };
    }

of_group : (g : GroupValue) (s : Standing Filled) → group_of s ≡ g → IsOfGroup g s
of_group g (Free c) is = is
of_group g (Owing s) is = is

forgot_named : (c back : CallerValue Filled) (k : ℕ) (x : CallId) (h : Hit) → HasForgotNamed c k x h back
    → Moved c.group c.number c.seen back.group back.number back.seen (event.ForgetCall c.number k x h ∷ []) 0
forgot_named c back k x h w =
    let m = w.0 in
    let one : Moved m.group m.number m.seen back.group back.number back.seen (event.ForgetCall m.number k x h ∷ []) 0 = record { group = w.2.group; number = w.2.number; adds = w.2.adds } in
    subst (λ (i : ℕ). Moved c.group c.number c.seen back.group back.number back.seen (event.ForgetCall i k x h ∷ []) 0) w.1.nothing.number
    (moved_again _ _ _ _ _ _ _ _ _ _ _ _ _ (nothing_moved c m w.1.nothing) one)

pub forget_moved : (c back : CallerValue Filled) (k : ℕ) (f : Forgot) → ForgetsNamed c k f back → Moved c.group c.number c.seen back.group back.number back.seen (forgot_by c.number k f) 0
forget_moved c back k (forgot.Closed x) w = forgot_named c back k x hit.Closed w
forget_moved c back k (forgot.Cleared x) w = forgot_named c back k x hit.Cleared w
forget_moved c back k (forgot.Missed x) w = forgot_named c back k x hit.Missed w
forget_moved c back k forgot.Idle w = nothing_moved c back w.nothing

-- whatever is added is logged
abbrev pub LogsAll : {L : Type 0} → GetterValue L → GetterValue L → Type 0
LogsAll old new = (x : Seen) → HasAdded old.standing new.standing x → new.log ≡ logged_by old.log x

-- a reload asks for nothing
pub none_forgot : (a k : ℕ) (f : Forgot) → ◌≡◌ {A = ℕ} 0 (askings_in (forgot_by a k f))
none_forgot a k (forgot.Closed x) = refl
none_forgot a k (forgot.Cleared x) = refl
none_forgot a k (forgot.Missed x) = refl
none_forgot a k forgot.Idle = refl

module _ {L : Type 0} (path : CallId → L → LoadAnswer → L → Type 0) (draws : L → L → Type 0) (space : SpaceId) (key : List ℕ) where
  source_counts : (p : Spot) (f : FlightValue Filled) (old new : L) (v : Filled) (n : GetCounts) → IsSource path draws p f old new v n → (n.gets ≡ 1) × (n.loads ≡ 1)
  source_counts p f old new v n (inl r) = (ap (λ (k : GetCounts). k.gets) r.counts, ap (λ (k : GetCounts). k.loads) r.counts)
  source_counts p f old new v n (inr r) = (ap (λ (k : GetCounts). k.gets) r.counts, ap (λ (k : GetCounts). k.loads) r.counts)

  run : (p : Spot) (u : CallerValue Filled) (old new : L) (finished : Finished (CallerValue Filled) (LetterValue Filled) (SettledValue Filled)) (n : GetCounts) → HasRun path draws p u old new finished n → Once u (spot_place p) (reply_of (Led finished n))
  run p u old new (Done c m) n r =
      let f = r.flight in let ran = r.run in let ready = ran.ready in let counts = source_counts p f old new ran.value n ran.source in let e = ran.settled.0 in let l = ran.settled.1 in let done = ran.settled.2 in let nothing = ran.settled.3 in let lent = ran.settled.4 in
      let lead : Event ℕ Filled = event.Lead u.number (spot_place p) (call_of u) None in
      let led : Moved u.group u.number u.seen f.group f.number f.seen (lead ∷ []) 1 = record { group = r.led.group; number = r.led.number; adds = r.led.adds } in
      let same : Moved f.group f.number f.seen ready.group ready.number ready.seen [] 0 = record { group = ran.learnt.group; number = ran.learnt.number; adds = ran.learnt.adds } in
      let over : Moved ready.group ready.number ready.seen e.group e.number e.seen (event.Settle ready.number ready.call ran.value l.joiners ∷ event.Handed ready.number ready.call ∷ []) 0 =
      record { group = done.group; number = done.number; adds = done.adds } in
      let first = moved_again _ _ _ _ _ _ _ _ _ _ _ _ _ led same in
      let second = moved_again _ _ _ _ _ _ _ _ _ _ _ _ _ first over in
      let all = moved_again _ _ _ _ _ _ _ _ _ _ _ _ _ second (nothing_moved e c nothing) in
      let number : ready.number ≡ u.number = ran.learnt.number ∙ r.led.number in
      let call : ready.call ≡ call_of u = ran.learnt.call ∙ r.led.call in
      let place : l.place ≡ (spot_place p) = done.letter.place ∙ (ran.learnt.place ∙ r.led.place) in
      let mine : l.call ≡ call_of u = done.letter.call ∙ call in
      let settled : IsSettled l = subst (λ (i : CallId). Stands (event.Settle i.caller i l.value l.joiners) l.seen) (sym done.letter.call)
      (subst (λ (v : Filled). Stands (event.Settle ready.call.caller ready.call v l.joiners) l.seen) (sym done.letter.value) done.letter.settled) in
      let at = first_added u.number u.seen c.seen lead _ all.adds.grows.begins all.adds.grows.own in
      let fresh = fresh_at (spot_place p) u.seen ((u.seen ++ at.0) ++ lead ∷ []) c.seen l all.adds.lawful.legal at.1 (at.0 ++ lead ∷ [], append_assoc u.seen at.0 (lead ∷ []))
      (led_current (u.seen ++ at.0) u.number (spot_place p) (call_of u) None ∙ ap Some (sym mine)) place done.fitting settled (starts_again l.seen e.seen c.seen done.shows nothing.adds.grows.begins) in
      record {
        asking = _;
        given = 1;
        moved = all;
        count = refl;
        call = call_of u;
        asked = inr (inr (record {
          value = ran.value;
          joiners = l.joiners;
          is = ap (λ (i : ℕ). lead ∷ event.Settle i ready.call ran.value l.joiners ∷ event.Handed i ready.call ∷ []) number
              ∙ ap (λ (i : CallId). lead ∷ event.Settle u.number i ran.value l.joiners ∷ event.Handed u.number i ∷ []) call;
        }));
        answer = answered (spot_place p) (call_of u) u.seen c.seen _ m m.value.result refl (lent.call ∙ mine) (fresh_lent (spot_place p) u.seen c.seen l m lent fresh);
        gets = counts.0;
        loads = counts.1;
        unhit = λ e ok. cc;
      }
  run p u old new (Held s) n r =
      let f = r.flight in let ran = r.run in let ready = ran.ready in let counts = source_counts p f old new ran.value n ran.source in let held = ran.settled in
      let lead : Event ℕ Filled = event.Lead u.number (spot_place p) (call_of u) None in
      let led : Moved u.group u.number u.seen f.group f.number f.seen (lead ∷ []) 1 = record { group = r.led.group; number = r.led.number; adds = r.led.adds } in
      let same : Moved f.group f.number f.seen ready.group ready.number ready.seen [] 0 = record { group = ran.learnt.group; number = ran.learnt.number; adds = ran.learnt.adds } in
      let over : Moved ready.group ready.number ready.seen s.group s.number s.seen (event.Settle ready.number ready.call ran.value s.joiners ∷ []) 0 =
      record { group = held.group; number = held.number; adds = held.adds } in
      let first = moved_again _ _ _ _ _ _ _ _ _ _ _ _ _ led same in
      let all = moved_again _ _ _ _ _ _ _ _ _ _ _ _ _ first over in
      let number : ready.number ≡ u.number = ran.learnt.number ∙ r.led.number in
      let call : ready.call ≡ call_of u = ran.learnt.call ∙ r.led.call in
      record {
        asking = _;
        given = 1;
        moved = all;
        count = refl;
        call = call_of u;
        asked = inr (inr (record {
          value = ran.value;
          joiners = s.joiners;
          is = ap (λ (i : ℕ). lead ∷ event.Settle i ready.call ran.value s.joiners ∷ []) number ∙ ap (λ (i : CallId). lead ∷ event.Settle u.number i ran.value s.joiners ∷ []) call;
        }));
        answer = tt;
        gets = counts.0;
        loads = counts.1;
        unhit = λ e ok. cc;
      }

  joined : (p : Spot) (u e : CallerValue Filled) (l : LetterValue Filled) (t : TicketValue Filled) → HasJoined u (spot_place p) t → IsReady FitsFill t e l → Once u (spot_place p) (reply_of (Joined e l))
  joined p u e l t entered ready =
      let enter : Event ℕ Filled = event.Enter u.number (spot_place p) t.call (call_of u) in
      let in_call : Moved u.group u.number u.seen t.group t.number t.seen (enter ∷ []) 1 = record { group = entered.group; number = entered.number; adds = entered.adds } in
      let waited : Moved t.group t.number t.seen e.group e.number e.seen [] 0 = record { group = ready.group; number = ready.number; adds = ready.adds } in
      let all = moved_again _ _ _ _ _ _ _ _ _ _ _ _ _ in_call waited in
      let settled : IsSettled l = subst (λ (i : CallId). Stands (event.Settle i.caller i l.value l.joiners) l.seen) (sym ready.letter.call) ready.letter.settled in
      let at = first_added u.number u.seen e.seen enter _ all.adds.grows.begins all.adds.grows.own in
      let fresh = fresh_at (spot_place p) u.seen ((u.seen ++ at.0) ++ enter ∷ []) e.seen l all.adds.lawful.legal at.1 (at.0 ++ enter ∷ [], append_assoc u.seen at.0 (enter ∷ []))
      (entered_current e.seen (u.seen ++ at.0) u.number (spot_place p) t.call (call_of u) all.adds.lawful.legal at.1 ∙ ap Some (sym ready.letter.call)) (ready.letter.place ∙ entered.place) ready.fitting settled ready.shows in
      record {
        asking = enter ∷ [];
        given = 1;
        moved = all;
        count = refl;
        call = t.call;
        asked = inr (inl (call_of u, refl));
        answer = answered (spot_place p) t.call u.seen e.seen (enter ∷ []) l l.value.result refl ready.letter.call fresh;
        gets = refl;
        loads = refl;
        unhit = λ e ok. cc;
      }

  spent : (p : Spot) (u e : CallerValue Filled) → IsRefusedSpent u e → Once u (spot_place p) (reply_of (Spent e))
  spent p u e h = record { asking = []; given = 0; moved = nothing_moved u e h.nothing; count = refl; call = call_of u; asked = inl refl; answer = refl; gets = refl; loads = refl; unhit = λ e ok. cc }

  -- a get for which memory for the key was refused
  abbrev Quiet : CallerValue Filled → Reply → Type 0
  Quiet c reply = (d : CallerValue Filled) × HasOnlyLooked c d × (reply ≡ (Free d, get_alone, Err fault.Memory))

  -- a caller that has asked for nothing
  unasking : (p : Spot) (u : CallerValue Filled) (reply : Reply) (call : CallId) → Moved u.group u.number u.seen (group_of reply.0) (number_of reply.0) (seen_of reply.0) [] 0
      → IsAnswer (spot_place p) call u.seen (seen_of reply.0) [] reply.2 → Suits [] reply.1 reply.2 → Asked space key u (spot_place p) reply
  unasking p u reply call moved answer suits = record {
    added = [];
    missed = [];
    others = none space;
    asking = [];
    parts = refl;
    given = 0;
    moved = moved;
    count = refl;
    call = call;
    asked = inl refl;
    answer = answer;
    suits = suits;
  }
    where
      none : (s : SpaceId) → AreMissed s u.number (spot_place p) key (seen_of reply.0) []
      none (inl d) = refl
      none (inr places) = All-nil _

  found_from : (p : Spot) (u : CallerValue Filled) (old new : L) (found : Found) → HasFoundFrom space key path draws p u old new found
      → Asked space key u (spot_place p) (reply_of found) ⊎ Quiet u (reply_of found)
  found_from p u old new (FromCache e m) h =
      let l = h.1.0 in let row = h.1.1 in let lent = h.1.2 in let w = row.current in
      let fresh = fresh_at (spot_place p) u.seen w.moment e.seen l row.nothing.adds.lawful.legal w.within w.begins w.current row.kept.place_is row.kept.fits row.kept.settled (starts_again l.seen w.moment e.seen w.shows w.within) in
      inl (unasking p u (reply_of (FromCache e m)) m.call (nothing_moved u e row.nothing)
      (answered (spot_place p) m.call u.seen e.seen [] m m.value.result refl refl (fresh_lent (spot_place p) u.seen e.seen l m lent fresh))
      (record { gets = refl; loads = λ e. cc; hits = λ _ _. (refl, refl) }))
  found_from p u old new (Uncopied e) h = inl (unasking p u (reply_of (Uncopied e)) (call_of u) (nothing_moved u e h.1.1.nothing) tt (record { gets = refl; loads = λ e. cc; hits = λ _ _. (refl, refl) }))
  found_from p u old new (Unmade e) h = inr (e, inl h.0, refl)
  found_from p u old new (Spent e) h = inl (after_misses space key (spot_place p) h.0 u h.1 (reply_of (Spent e)) h.2 (spent p h.1 e h.3.0))
  found_from p u old new (Joined e l) h = inl (after_misses space key (spot_place p) h.0 u h.1 (reply_of (Joined e l)) h.2 (joined p h.1 e l h.3.1.0 h.3.1.1 h.3.1.2))
  found_from p u old new (Led finished n) h = inl (after_misses space key (spot_place p) h.0 u h.1 (reply_of (Led finished n)) h.2 (run p h.1 old new finished n h.3))

  found_so : (p : Spot) (c : CallerValue Filled) (old new : L) (found : Found) → HasFound space key path draws p c old new found
      → Asked space key c (spot_place p) (reply_of found) ⊎ Quiet c (reply_of found)
  found_so p c old new found h = elim (found_from p h.0 old new found h.2) [
    | inl a ↦ inl (asked_before space key c h.0 (spot_place p) (reply_of found) (still_looked c h.0 h.1) a)
    | inr q ↦ inr (q.0, looked_again c h.0 q.0 h.1 q.1, q.2)
  ]

  unanswered : (r : Refusal) → IsUnanswered [] (Err (refusal_of r))
  unanswered refusal.KeyTooLong = refl
  unanswered refusal.Full = refl

  -- after questions that made nothing
  added_looked : (s : Standing Filled) (c d : CallerValue Filled) (x : Seen) → HasAdded s (Free c) x → HasOnlyLooked c d → HasAdded s (Free d) (x ++ [])
  added_looked s c d x h (inl is) = subst (λ (e : CallerValue Filled). HasAdded s (Free e) (x ++ [])) (sym is) (added_none s (Free c) x h)
  added_looked s c d x h (inr n) = added_more s (Free c) (Free d) x [] 0 h (nothing_moved c d n) refl

  -- the caller's group stays
  pub group_found : (p : Spot) (c : CallerValue Filled) (old new : L) (found : Found) → HasFound space key path draws p c old new found → IsOfGroup c.group (reply_of found).0
  group_found p c old new found h = stays (reply_of found) (found_so p c old new found h)
    where
      stays : (x : Reply) → Asked space key c (spot_place p) x ⊎ Quiet c x → IsOfGroup c.group x.0
      stays x (inl a) = of_group c.group x.0 a.moved.group
      stays x (inr (d, looked, is)) = subst (λ (y : Reply). IsOfGroup c.group y.0) (sym is) (still_looked c d looked).group

  -- a get that settled up first, to stand so
  fresh_from : (old new : GetterValue L) (m : Standing Filled) (loaders : L) (counts : GetCounts) (answer : GetAnswer) → HasDelivered old.standing m → LogsAll old new
      → GetsFrom path draws space key m old.desk new.desk loaders new.loaders (new.standing, counts, answer) → (f : IsFreshGet space key old new answer) × Suits f.added counts answer
  fresh_from old new (Owing s) loaders counts answer owed logs got =
      let answer_is : answer ≡ Err fault.Memory = ap (λ (r : Reply). r.2) got.2 in
      let standing : new.standing ≡ Owing s = ap (λ (r : Reply). r.0) got.2 in (
        record {
          delivered = false;
          added = [];
          adds = subst (λ (n : Standing Filled). HasAdded old.standing n (handed_by old.standing false ++ [])) (sym standing) (added_none old.standing (Owing s) _ (delivered old.standing (Owing s) owed));
          logged = logs _ (subst (λ (n : Standing Filled). HasAdded old.standing n (handed_by old.standing false ++ [])) (sym standing) (added_none old.standing (Owing s) _ (delivered old.standing (Owing s) owed)));
          outcome = inl (subst (λ (a : GetAnswer). IsUnanswered [] a) (sym answer_is) refl);
          undelivered = λ _. (refl, answer_is);
        },
        subst (λ (x : Reply). Suits [] x.1 x.2) (sym got.2) (record { gets = refl; loads = λ e. cc; hits = λ _ no. cc }),
      )
  fresh_from old new (Free c) loaders counts answer owed logs got = elim got.1 [
    | inl r ↦
        let answer_is : answer ≡ Err (refusal_of r.refusal) = ap (λ (x : Reply). x.2) r.reply_is in
        let standing : new.standing ≡ Free c = ap (λ (x : Reply). x.0) r.reply_is in (
          record {
            delivered = true;
            added = [];
            adds = subst (λ (n : Standing Filled). HasAdded old.standing n (handed_by old.standing true ++ [])) (sym standing) (added_none old.standing (Free c) _ (delivered old.standing (Free c) owed));
            logged = logs _ (subst (λ (n : Standing Filled). HasAdded old.standing n (handed_by old.standing true ++ [])) (sym standing) (added_none old.standing (Free c) _ (delivered old.standing (Free c) owed)));
            outcome = inl (subst (λ (a : GetAnswer). IsUnanswered [] a) (sym answer_is) (unanswered r.refusal));
            undelivered = λ e. cc;
          },
          subst (λ (x : Reply). Suits [] x.1 x.2) (sym r.reply_is) (record { gets = refl; loads = λ e. cc; hits = λ _ no. cc }),
        )
    | inr r ↦ answered_from r (found_so r.spot c loaders new.loaders r.found r.found_so)
  ]
    where
      before : HasAdded old.standing (Free c) (handed_by old.standing true)
      before = delivered old.standing (Free c) owed

      answered_from : (r : IsFoundGet path draws space key c old.desk new.desk loaders new.loaders (new.standing, counts, answer))
          → Asked space key c (spot_place r.spot) (reply_of r.found) ⊎ Quiet c (reply_of r.found) → (f : IsFreshGet space key old new answer) × Suits f.added counts answer
      answered_from r (inl found) =
          let a : Asked space key c (spot_place r.spot) (new.standing, counts, answer) = subst (λ (x : Reply). Asked space key c (spot_place r.spot) x) (sym r.reply_is) found in (
            record {
              delivered = true;
              added = a.added;
              adds = added_more old.standing (Free c) new.standing (handed_by old.standing true) a.added a.given before a.moved a.count;
              logged = logs _ (added_more old.standing (Free c) new.standing (handed_by old.standing true) a.added a.given before a.moved a.count);
              outcome = inr (record {
                spot = r.spot;
                resolved = r.resolved;
                missed = a.missed;
                others = subst (λ (i : ℕ). AreMissed space i (spot_place r.spot) key (seen_of new.standing) a.missed) before.number a.others;
                asking = a.asking;
                parts = a.parts;
                call = a.call;
                asked = subst (λ (i : ℕ). IsAsking i (spot_place r.spot) a.call (is_owing new.standing) a.asking) before.number a.asked;
                answered = answer_before (spot_place r.spot) a.call (seen_of old.standing) c.seen (seen_of new.standing) a.asking answer before.grows.begins a.answer;
              });
              undelivered = λ e. cc;
            },
            a.suits,
          )
      answered_from r (inr (d, looked, is)) =
          let reply : (new.standing, counts, answer) ≡ (Free d, get_alone, Err fault.Memory) = r.reply_is ∙ is in
          let standing : new.standing ≡ Free d = ap (λ (x : Reply). x.0) reply in
          let answer_is : answer ≡ Err fault.Memory = ap (λ (x : Reply). x.2) reply in (
            record {
              delivered = true;
              added = [];
              adds = subst (λ (n : Standing Filled). HasAdded old.standing n (handed_by old.standing true ++ [])) (sym standing) (added_looked old.standing c d (handed_by old.standing true) before looked);
              logged = logs _ (subst (λ (n : Standing Filled). HasAdded old.standing n (handed_by old.standing true ++ [])) (sym standing) (added_looked old.standing c d (handed_by old.standing true) before looked));
              outcome = inl (subst (λ (a : GetAnswer). IsUnanswered [] a) (sym answer_is) refl);
              undelivered = λ e. cc;
            },
            subst (λ (x : Reply). Suits [] x.1 x.2) (sym reply) (record { gets = refl; loads = λ e. cc; hits = λ _ no. cc }),
          )

  fresh_got : (old new : GetterValue L) (answer : GetAnswer) (h : HasGot path draws space key old new answer) → LogsAll old new → (f : IsFreshGet space key old new answer) × Suits f.added h.counts answer
  fresh_got old new answer h logs =
      let desk : h.middle.desk ≡ old.desk = ap (λ (g : GetterValue L). g.desk) h.settled.rest in
      fresh_from old new h.middle.standing h.middle.loaders h.counts answer h.settled.delivered logs
      (subst (λ (k : KeyDesk). GetsFrom path draws space key h.middle.standing k new.desk h.middle.loaders new.loaders (new.standing, h.counts, answer)) desk h.got)

  pub fresh : (old new : GetterValue L) (answer : GetAnswer) → HasGot path draws space key old new answer → LogsAll old new → IsFreshGet space key old new answer
  fresh old new answer h logs = (fresh_got old new answer h logs).0

  pub counted : (old new : GetterValue L) (answer : GetAnswer) → HasGot path draws space key old new answer → LogsAll old new → IsCounted old new answer
  counted old new answer h logs =
      let f = (fresh_got old new answer h logs).0 in let suits = (fresh_got old new answer h logs).1 in
      let handed : Seen = handed_by old.standing f.delivered in
      let same : has_asking (handed ++ f.added) ≡ has_asking f.added = asking_after handed f.added (none_asked old.standing f.delivered) in
      let gets : new.counted.gets ≡ old.counted.gets + h.counts.gets = ap (λ (t : Totals). t.gets) h.counted in
      let hits : new.counted.cache_hits ≡ old.counted.cache_hits + h.counts.cache_hits = ap (λ (t : Totals). t.cache_hits) h.counted in
      let loads : new.counted.loads ≡ old.counted.loads + h.counts.loads = ap (λ (t : Totals). t.loads) h.counted in
      let one = suits.gets in
      record {
        added = handed ++ f.added;
        made = record { number = f.adds.number; begins = f.adds.grows.begins; own = f.adds.grows.own };
        gets = omega (arith, gets, one);
        loads = λ e. let load = suits.loads (sym same ∙ e) in omega (arith, loads, load);
        hits = λ e ok. let hit = suits.hits (sym same ∙ e) ok in (omega (arith, hits, hit.0), omega (arith, loads, hit.1));
      }

module _ {L : Type 0} (space : SpaceId) (key : List ℕ) where
  reloads_from : (old new : GetterValue L) (m : Standing Filled) (answer : Result Forgot LoadFault) → HasDelivered old.standing m → LogsAll old new → ReloadsFrom space key m old.desk new.desk new.standing answer → IsReloading space key old new answer
  reloads_from old new (Owing s) answer owed logs r =
      let still : HasAdded old.standing new.standing (handed_by old.standing false) = subst (λ (n : Standing Filled). HasAdded old.standing n (handed_by old.standing false)) (sym r.1) (delivered old.standing (Owing s) owed) in (
        false,
        subst (λ (a : Result Forgot LoadFault). ForgetsOnce space key old new false a) (sym r.2) (still, logs _ still),
      )
  reloads_from old new (Free c) answer owed logs r = elim r.1 [
    | inl w ↦
        let freed : HasAdded old.standing new.standing (handed_by old.standing true) = subst (λ (n : Standing Filled). HasAdded old.standing n (handed_by old.standing true)) (sym w.still) (delivered old.standing (Free c) owed) in (
          true,
          subst (λ (a : Result Forgot LoadFault). ForgetsOnce space key old new true a) (sym w.answer_is) (freed, logs _ freed),
        )
    | inr w ↦
        let before = delivered old.standing (Free c) owed in
        let one : Seen = forgot_by c.number (spot_place w.spot) w.came_to in
        let all = added_more old.standing (Free c) (Free w.back) (handed_by old.standing true) one 0 before (forget_moved c w.back (spot_place w.spot) w.came_to w.forgot)
        (none_forgot c.number (spot_place w.spot) w.came_to) in
        let adds : HasAdded old.standing new.standing (handed_by old.standing true ++ forgot_by (number_of old.standing) (spot_place w.spot) w.came_to) =
        subst (λ (i : ℕ). HasAdded old.standing new.standing (handed_by old.standing true ++ forgot_by i (spot_place w.spot) w.came_to)) before.number
        (subst (λ (n : Standing Filled). HasAdded old.standing n (handed_by old.standing true ++ one)) (sym w.free) all) in (
          true,
          subst (λ (a : Result Forgot LoadFault). ForgetsOnce space key old new true a) (sym w.answer_is) (
            refl,
            record {
              spot = w.spot;
              resolved = w.resolved;
              adds = adds;
              logged = logs _ adds;
              outdated = subst (λ (n : Standing Filled). IsOutdated (spot_place w.spot) (seen_of old.standing) (seen_of n)) (sym w.free)
                  (outdated (seen_of old.standing) c w.back (spot_place w.spot) w.came_to before.grows.begins w.forgot);
            },
          ),
        )
  ]

  pub reloading : (old new : GetterValue L) (answer : Result Forgot LoadFault) → HasReloaded space key old new answer → LogsAll old new → IsReloading space key old new answer
  reloading old new answer h logs =
      let desk : h.middle.desk ≡ old.desk = ap (λ (g : GetterValue L). g.desk) h.settled.rest in
      reloads_from old new h.middle.standing answer h.settled.delivered logs (subst (λ (k : KeyDesk). ReloadsFrom space key h.middle.standing k new.desk new.standing answer) desk h.reloaded)
