-- gets that a letter at hand answers, and what comes of an asking
use Rattle.std.proofs.Common.{◌≡◌, ℕ, List, true, false, Option, Some, None, IfSome, Result, Ok, Err, inl, inr, refl, sym, ap, ◌∙◌, subst}
use Rattle.sf_history.specs.declared.call.CallId.{CallId}
use Rattle.std.specs.declared.alloc.AllocError.{AllocError}
use Rattle.sf_group_rows.specs.Tokens.{GroupValue, CallerValue, LetterValue}
use Rattle.sf_dir.specs.declared.refusal.Refusal.{Refusal}
use Rattle.sf_fill_keys.specs.declared.key_place.KeyPlace.{KeyPlace}
use Rattle.sf_fill_keys.specs.declared.key_space.KeyDesk.{KeyDesk}
use Rattle.sf_fill_keys.specs.declared.spot.Spot.{Spot}
use Rattle.sf_fill_keys.specs.Spaces.{SpaceId}
use Rattle.sf_fill_keys.specs.Spots.{IsRefusedSpot, IsSeeingSpace, IsSpotOfKey, place_at, spot_place}
use Rattle.sf_loaders.specs.LoadPath.{LoadAnswer}
use Rattle.sf_fill_counters.specs.declared.totals.GetCounts.{GetCounts}
use Rattle.sf_fill_counters.specs.declared.totals.Totals.{Totals}
use Rattle.sf_fill_values.specs.declared.fault.LoadFault.{LoadFault}
use Rattle.sf_fill_values.specs.declared.fault.LoadFault.TheVariants as fault
use Rattle.sf_fill_store.specs.declared.standing.Standing.{Standing}
use Rattle.sf_fill_store.specs.declared.standing.Standing.TheVariants.{Free, Owing}
use Rattle.sf_fill_values.specs.FillValue.{Filled}
use Rattle.sf_fill_counters.specs.GetCounts.{get_alone, hit_counts}
use Rattle.sf_fill_store.specs.Found.{Found, HasFoundFrom, FromCache, Uncopied}
use Rattle.sf_fill.specs.Fresh.{IsFreshGet, delivered_by}
use Rattle.sf_fill_values.specs.Answers.{GetAnswer, answer_in, refusal_of}
use Rattle.sf_fill.specs.Gets.{GetsFrom, GetsOnce, HasAsked, HasGot, IsFoundGet, LooksFrom}
use Rattle.sf_fill_store.specs.Replies.{Reply, reply_of}
use Rattle.sf_fill.specs.Hits.{IsAbsent, IsAtHand, IsNoneAtHand, IsPresent, LooksAtHand, hit_answer}
use Rattle.sf_fill.specs.GetterValue.{GetterValue}
use Rattle.sf_fill_store.specs.Standings.{IsOfGroup, is_owing, number_of, seen_of}
use Rattle.sf_fill_store.specs.Logs.{LogValue, HasLogged, logged_by}
use Rattle.sf_fill.specs.Owing.{HasDelivered, HasSettledUp}
use Rattle.sf_fill_values.specs.Settled.{HasLookedOn, HasOnlyLooked}
use Rattle.sf_fill_counters.specs.Totals.{with_counts}
use Rattle.sf_fill.proofs.Fresh.{fresh, group_found}
use Rattle.sf_fill_store.proofs.Logging.{logs_none}
use Rattle.sf_fill.proofs.LogSteps.{logs_once}
use Rattle.sf_fill_store.proofs.LogSteps.{logs_looked}
use Rattle.sf_fill_values.proofs.Looks.{looked_again, looked_on, looked_twice, still_looked}

module _ {E : Type 0} where
  pub only_looked : (c d : CallerValue Filled) (place : ℕ) (found : Option (Result (LetterValue Filled) E)) → HasLookedOn c place found d → HasOnlyLooked c d
  only_looked c d place None h = looked_twice c d h
  only_looked c d place (Some (Ok m)) h = looked_again c h.0 d h.1 (inr h.2.1.nothing)
  only_looked c d place (Some (Err e)) h = looked_again c h.0 d h.1 (inr h.2.1.nothing)

  -- a look leaves the group
  pub looks_group : (g : GroupValue) (s t : Standing Filled) (place : ℕ) (found : Option (Result (LetterValue Filled) E)) → IsOfGroup g s → LooksFrom s place found t → IsOfGroup g t
  looks_group g (Free c) (Free d) place found of h = (still_looked c d (only_looked c d place found h)).group ∙ of
  looks_group g (Free c) (Owing s) place found of h = elim h [ ]
  looks_group g (Owing s) t place found of h = subst (IsOfGroup g) (sym h.1) of

  -- two looks, of which the first found none
  looks_on : (s t u : Standing Filled) (place : ℕ) (found : Option (Result (LetterValue Filled) E)) → LooksFrom {E = E} s place None t → LooksFrom t place found u → LooksFrom s place found u
  looks_on (Free c) (Free d) (Free e) place found first second = looked_on E c d e place found (looked_twice c d first) second
  looks_on (Free c) (Free d) (Owing o) place found first second = elim second [ ]
  looks_on (Free c) (Owing o) u place found first second = elim first [ ]
  looks_on (Owing o) t u place found first second = subst (λ (x : Standing Filled). LooksFrom x place found u) first.1 second

  -- and logs nothing
  pub looks_logged : (s t : Standing Filled) (place : ℕ) (found : Option (Result (LetterValue Filled) E)) (log : LogValue) → LooksFrom s place found t → HasLogged (number_of s) (seen_of s) (seen_of t) log log
  looks_logged (Free c) (Free d) place found log h = logs_looked c d log (only_looked c d place found h)
  looks_logged (Free c) (Owing s) place found log h = elim h [ ]
  looks_logged (Owing s) t place found log h = subst (λ (n : Standing Filled). HasLogged s.number s.seen (seen_of n) log log) (sym h.1) (logs_none s.number s.seen log)

module _ {L : Type 0} (place : ℕ) (a b c : GetterValue L) (first : IsNoneAtHand place a b) where
  -- a letter is at hand at the second of two looks
  pub at_hand_on : (answer : GetAnswer) → IsAtHand place b c answer → IsAtHand place a c answer
  at_hand_on answer second = record {
    found = second.found;
    looked = looks_on a.standing b.standing c.standing place (Some second.found) first.looked second.looked;
    answer_is = second.answer_is;
    rest = second.rest ∙ ap (λ (g : GetterValue L). record g { standing = c.standing; counted = with_counts g.counted hit_counts }) first.rest;
  }

  -- and none at either
  pub none_on : IsNoneAtHand place b c → IsNoneAtHand place a c
  none_on second = record {
    looked = looks_on a.standing b.standing c.standing place None first.looked second.looked;
    rest = second.rest ∙ ap (λ (g : GetterValue L). record g { standing = c.standing }) first.rest;
  }

module _ {L : Type 0} (path : CallId → L → LoadAnswer → L → Type 0) (draws : L → L → Type 0) (space : SpaceId) (key : List ℕ) where
  -- letters are owed still
  pub owing_once : (s : Standing Filled) (desk : KeyDesk) (loaders : L) → is_owing s ≡ true → GetsFrom path draws space key s desk desk loaders loaders (s, get_alone, Err fault.Memory)
  owing_once (Free c) desk loaders owes = cc
  owing_once (Owing s) desk loaders owes = (refl, refl, refl)

  -- the key is refused
  pub refused_once : (s : Standing Filled) (desk after : KeyDesk) (loaders : L) (r : Refusal) → is_owing s ≡ false → IsSeeingSpace space desk after → IsRefusedSpot space key desk after r
      → GetsFrom path draws space key s desk after loaders loaders (s, get_alone, Err (refusal_of r))
  refused_once (Free c) desk after loaders r free seeing cause = (seeing, inl (record { refusal = r; cause = cause; unasked = refl; reply_is = refl }))
  refused_once (Owing s) desk after loaders r free seeing cause = cc

  module _ (E : Type 0) (s t : Standing Filled) (desk after : KeyDesk) (loaders : L) (spot : Spot) (seeing : IsSeeingSpace space desk after) (resolved : IsSpotOfKey space key desk after spot) where
    -- a letter was at hand
    pub hit_once : (m : LetterValue Filled) → LooksFrom {E = E} s (spot_place spot) (Some (Ok m)) t → GetsFrom path draws space key s desk after loaders loaders (t, hit_counts, answer_in m)
    hit_once m h = hits s t h
      where
        hits : (s t : Standing Filled) → LooksFrom {E = E} s (spot_place spot) (Some (Ok m)) t → GetsFrom path draws space key s desk after loaders loaders (t, hit_counts, answer_in m)
        hits (Free c) (Free d) h = (seeing, inr (record { spot = spot; resolved = resolved; found = FromCache d m; found_so = (h.0, h.1, (refl, h.2)); reply_is = refl }))
        hits (Free c) (Owing o) h = elim h [ ]
        hits (Owing o) t h = let no : Some (Ok m) ≡ None = h.0 in cc

    -- a letter was at hand, and memory for its copy was refused
    pub uncopied_once : (e : E) → LooksFrom {E = E} s (spot_place spot) (Some (Err e)) t → GetsFrom path draws space key s desk after loaders loaders (t, hit_counts, Err fault.Memory)
    uncopied_once e h = hits s t h
      where
        hits : (s t : Standing Filled) → LooksFrom {E = E} s (spot_place spot) (Some (Err e)) t → GetsFrom path draws space key s desk after loaders loaders (t, hit_counts, Err fault.Memory)
        hits (Free c) (Free d) h = (seeing, inr (record { spot = spot; resolved = resolved; found = Uncopied d; found_so = (h.0, h.1, (refl, h.2)); reply_is = refl }))
        hits (Free c) (Owing o) h = elim h [ ]
        hits (Owing o) t h = let no : Some (Err e) ≡ None = h.0 in cc

  at_hand_from : (s t : Standing Filled) (desk after : KeyDesk) (loaders : L) (spot : Spot) (found : Result (LetterValue Filled) AllocError) → IsSeeingSpace space desk after → IsSpotOfKey space key desk after spot
      → LooksFrom s (spot_place spot) (Some found) t → GetsFrom path draws space key s desk after loaders loaders (t, hit_counts, hit_answer found)
  at_hand_from s t desk after loaders spot (Ok m) seeing resolved h = hit_once AllocError s t desk after loaders spot seeing resolved m h
  at_hand_from s t desk after loaders spot (Err e) seeing resolved h = uncopied_once AllocError s t desk after loaders spot seeing resolved e h

  -- a letter was at hand for the key's place
  pub present_once : (old new : GetterValue L) (answer : GetAnswer) → IsPresent space key old new answer → GetsOnce path draws space key old new answer
  present_once old new answer h = record {
    counts = hit_counts;
    got =
        subst (λ (l : L). GetsFrom path draws space key old.standing old.desk new.desk old.loaders l (new.standing, hit_counts, answer)) (sym (ap (λ (g : GetterValue L). g.loaders) h.at_hand.rest))
        (subst (λ (a : GetAnswer). GetsFrom path draws space key old.standing old.desk new.desk old.loaders old.loaders (new.standing, hit_counts, a)) (sym h.at_hand.answer_is)
        (at_hand_from old.standing new.standing old.desk new.desk old.loaders h.spot h.at_hand.found h.seeing h.resolved h.at_hand.looked));
    counted = ap (λ (g : GetterValue L). g.counted) h.at_hand.rest;
  }

  -- none was at hand, and the group was asked
  pub asked_once : (E : Type 0) (old middle new : GetterValue L) (answer : GetAnswer) (spot : Spot) → IsSeeingSpace space old.desk middle.desk → IsSpotOfKey space key old.desk middle.desk spot
      → LooksFrom {E = E} old.standing (spot_place spot) None middle.standing → middle.loaders ≡ old.loaders → middle.counted ≡ old.counted
      → HasAsked path draws space key spot middle new answer → GetsOnce path draws space key old new answer
  asked_once E old middle new answer spot seeing resolved looks same stays asked = record {
    counts = asked.counts;
    got = gets old.standing (subst (LooksFrom {E = E} old.standing (spot_place spot) None) asked.free looks);
    counted = asked.counted ∙ ap (λ (t : Totals). with_counts t asked.counts) stays;
  }
    where
      found : (c : CallerValue Filled) → HasOnlyLooked c asked.caller → IsFoundGet path draws space key c old.desk new.desk old.loaders new.loaders (new.standing, asked.counts, answer)
      found c only = record {
        spot = spot;
        resolved = subst (λ (k : KeyDesk). IsSpotOfKey space key old.desk k spot) (sym asked.desk) resolved;
        found = asked.found;
        found_so = (asked.caller, only, subst (λ (l : L). HasFoundFrom space key path draws spot asked.caller l new.loaders asked.found) same asked.found_so);
        reply_is = asked.reply_is;
      }

      gets : (s : Standing Filled) → LooksFrom {E = E} s (spot_place spot) None (Free asked.caller) → GetsFrom path draws space key s old.desk new.desk old.loaders new.loaders (new.standing, asked.counts, answer)
      gets (Free c) h = (subst (IsSeeingSpace space old.desk) (sym asked.desk) seeing, inr (found c (looked_twice c asked.caller h)))
      gets (Owing s) h = let no : Free asked.caller ≡ Owing s = h.1 in cc

  -- who asked is of the group still
  pub asked_group : (g : GroupValue) (p : Spot) (c : CallerValue Filled) (old new : L) (found : Found) (reply : Reply) → c.group ≡ g → HasFoundFrom space key path draws p c old new found
      → reply ≡ reply_of found → IsOfGroup g reply.0
  asked_group g p c old new found reply of h is =
      subst (λ (x : Reply). IsOfGroup g x.0) (sym is) (subst (λ (k : GroupValue). IsOfGroup k (reply_of found).0) of (group_found path draws space key p c old new found (c, inl refl, h)))

  -- the same over the parts of a getter
  module _ (old : GetterValue L) (desk : KeyDesk) (standing : Standing Filled) (loaders : L) (tallies : Totals) (log : LogValue)
      (is : record { desk = desk; standing = standing; loaders = loaders; counted = tallies; log = log } ≡ old) where
    -- where the getter then stands, once it has been counted
    moved : (n : GetterValue L) (counted : Totals) (counts : GetCounts) (answer : GetAnswer) → GetsFrom path draws space key standing desk n.desk loaders n.loaders (n.standing, counts, answer)
        → n.counted ≡ tallies → counted ≡ with_counts n.counted counts
        → GetsOnce path draws space key old (record { desk = n.desk; standing = n.standing; loaders = n.loaders; counted = counted; log = n.log }) answer
    moved n counted counts answer got stays count =
        let new : GetterValue L = record { desk = n.desk; standing = n.standing; loaders = n.loaders; counted = counted; log = n.log } in
        subst (λ (o : GetterValue L). GetsOnce path draws space key o new answer) is
        (record { counts = counts; got = got; counted = count ∙ ap (λ (t : Totals). with_counts t counts) stays })

    pub owing_getter : (counted : Totals) → counted ≡ with_counts tallies get_alone → is_owing old.standing ≡ true
        → GetsOnce path draws space key old (record { desk = desk; standing = standing; loaders = loaders; counted = counted; log = log }) (Err fault.Memory)
    owing_getter counted count owes =
        moved (record { desk = desk; standing = standing; loaders = loaders; counted = tallies; log = log }) counted get_alone (Err fault.Memory)
        (owing_once standing desk loaders (ap (λ (g : GetterValue L). is_owing g.standing) is ∙ owes)) refl count

    pub refused_getter : (after : KeyDesk) (counted : Totals) (r : Refusal) (f : LoadFault) → counted ≡ with_counts tallies get_alone → is_owing old.standing ≡ false → IsSeeingSpace space desk after
        → IsRefusedSpot space key desk after r → f ≡ refusal_of r
        → GetsOnce path draws space key old (record { desk = after; standing = standing; loaders = loaders; counted = counted; log = log }) (Err f)
    refused_getter after counted r f count free seeing cause is_fault =
        let new : GetterValue L = record { desk = after; standing = standing; loaders = loaders; counted = counted; log = log } in
        subst (λ (x : LoadFault). GetsOnce path draws space key old new (Err x)) (sym is_fault)
        (moved (record { desk = after; standing = standing; loaders = loaders; counted = tallies; log = log }) counted get_alone (Err (refusal_of r))
        (refused_once standing desk after loaders r (ap (λ (g : GetterValue L). is_owing g.standing) is ∙ free) seeing cause) refl count)

    -- the getter after it looked, which is taken to its parts again
    module _ (E : Type 0) (after : KeyDesk) (middle : GetterValue L) (spot : Spot) (place : ℕ) (seeing : IsSeeingSpace space desk after) (resolved : IsSpotOfKey space key desk after spot)
        (at : place ≡ spot_place spot) (rest : middle ≡ record { desk = after; standing = middle.standing; loaders = loaders; counted = tallies; log = log }) where
      looked_at : (found : Option (Result (LetterValue Filled) E)) → LooksFrom standing place found middle.standing → LooksFrom standing (spot_place spot) found middle.standing
      looked_at found h = subst (λ (p : ℕ). LooksFrom standing p found middle.standing) at h

      pub asked_getter : (new : GetterValue L) (answer : GetAnswer) → LooksFrom {E = E} standing place None middle.standing → HasAsked path draws space key spot middle new answer
          → GetsOnce path draws space key old new answer
      asked_getter new answer h asked =
          subst (λ (o : GetterValue L). GetsOnce path draws space key o new answer) is
          (asked_once E (record { desk = desk; standing = standing; loaders = loaders; counted = tallies; log = log }) middle new answer spot
          (subst (IsSeeingSpace space desk) (sym (ap (λ (g : GetterValue L). g.desk) rest)) seeing)
          (subst (λ (k : KeyDesk). IsSpotOfKey space key desk k spot) (sym (ap (λ (g : GetterValue L). g.desk) rest)) resolved)
          (looked_at None h) (ap (λ (g : GetterValue L). g.loaders) rest) (ap (λ (g : GetterValue L). g.counted) rest) asked)

  -- what was owed was delivered before
  pub got_once : (old middle new : GetterValue L) (answer : GetAnswer) → HasSettledUp old middle → GetsOnce path draws space key middle new answer → HasGot path draws space key old new answer
  got_once old middle new answer settled once = record {
    middle = middle;
    settled = settled;
    counts = once.counts;
    got = once.got;
    counted = once.counted ∙ ap (λ (g : GetterValue L). with_counts g.counted once.counts) settled.rest;
  }

looks_none : (s : Standing Filled) (place : ℕ) → LooksFrom {E = AllocError} s place None s
looks_none (Free c) place = (c, inl refl, inl refl)
looks_none (Owing s) place = (refl, refl)

pub some_then : {A : Type 0} (P Q : A → Type 0) (r : Option A) → ((a : A) → P a → Q a) → IfSome r P → IfSome r Q
some_then P Q None then h = h
some_then P Q (Some a) then h = then a h

-- what a look of a getter's caller comes to, over the getter
module _ {L : Type 0} (place p : ℕ) (old : GetterValue L) (desk : KeyDesk) (s : Standing Filled) (loaders : L) (tallies : Totals) (log : LogValue) (c d : CallerValue Filled)
    (is : record { desk = desk; standing = s; loaders = loaders; counted = tallies; log = log } ≡ old) (free : s ≡ Free c) (at : p ≡ place) where
  looks_free : (found : Option (Result (LetterValue Filled) AllocError)) → HasLookedOn c p found d → LooksFrom s place found (Free d)
  looks_free found looked = subst (λ (k : ℕ). LooksFrom s k found (Free d)) at (subst (λ (x : Standing Filled). LooksFrom x p found (Free d)) (sym free) looked)

  pub found_at_hand : (counted : Totals) (found : Result (LetterValue Filled) AllocError) (answer : GetAnswer) → HasLookedOn c p (Some found) d → answer ≡ hit_answer found → counted ≡ with_counts tallies hit_counts
      → IsAtHand place old (record { desk = desk; standing = Free d; loaders = loaders; counted = counted; log = log }) answer
  found_at_hand counted found answer looked says counts =
      subst (λ (o : GetterValue L). IsAtHand place o (record { desk = desk; standing = Free d; loaders = loaders; counted = counted; log = log }) answer) is (record {
        found = found;
        looked = looks_free (Some found) looked;
        answer_is = says;
        rest = ap (λ (t : Totals). record { desk = desk; standing = Free d; loaders = loaders; counted = t; log = log }) counts;
      })

-- what a look at a place comes to, over the getter whose key was found at it
module _ {L : Type 0} where
  pub present_logged : (space : SpaceId) (key : List ℕ) (old new : GetterValue L) (answer : GetAnswer) → IsPresent space key old new answer
      → HasLogged (number_of old.standing) (seen_of old.standing) (seen_of new.standing) old.log new.log
  present_logged space key old new answer h =
      subst (λ (l : LogValue). HasLogged (number_of old.standing) (seen_of old.standing) (seen_of new.standing) old.log l) (sym (ap (λ (g : GetterValue L). g.log) h.at_hand.rest))
      (looks_logged old.standing new.standing (spot_place h.spot) (Some h.at_hand.found) old.log h.at_hand.looked)

  -- the same over the parts of a getter whose desk was asked for the key
  module _ (space : SpaceId) (old : GetterValue L) (desk after : KeyDesk) (standing : Standing Filled) (loaders : L) (tallies : Totals) (log : LogValue)
      (is : record { desk = desk; standing = standing; loaders = loaders; counted = tallies; log = log } ≡ old) (seeing : IsSeeingSpace space desk after) where
    abbrev pub asked_desk : GetterValue L
    asked_desk = record { desk = after; standing = standing; loaders = loaders; counted = tallies; log = log }

    seeing_old : IsSeeingSpace space old.desk after
    seeing_old = subst (λ (g : GetterValue L). IsSeeingSpace space g.desk after) is seeing

    same_but : (k : KeyDesk) → k ≡ after → asked_desk ≡ record old { desk = k }
    same_but k at = ap (λ (g : GetterValue L). record g { desk = after }) is ∙ ap (λ (x : KeyDesk). record old { desk = x }) (sym at)

    pub present_getter : (key : List ℕ) (spot : Spot) (place : ℕ) (new : GetterValue L) (answer : GetAnswer) → IsSpotOfKey space key desk after spot → place ≡ spot_place spot
        → IsAtHand place asked_desk new answer → IsPresent space key old new answer
    present_getter key spot place new answer resolved at h =
        let same : new.desk ≡ after = ap (λ (g : GetterValue L). g.desk) h.rest in
        record {
          seeing = subst (λ (k : KeyDesk). IsSeeingSpace space old.desk k) (sym same) seeing_old;
          spot = spot;
          resolved = subst (λ (k : KeyDesk). IsSpotOfKey space key old.desk k spot) (sym same) (subst (λ (g : GetterValue L). IsSpotOfKey space key g.desk after spot) is resolved);
          at_hand = subst (λ (g : GetterValue L). IsAtHand (spot_place spot) g new answer) (same_but new.desk same) (subst (λ (p : ℕ). IsAtHand p asked_desk new answer) at h);
        }

    pub absent_getter : (place : ℕ) (new : GetterValue L) → IsNoneAtHand place asked_desk new → IsAbsent space old new
    absent_getter place new h =
        let same : new.desk ≡ after = ap (λ (g : GetterValue L). g.desk) h.rest in
        record {
          place = place;
          seeing = subst (λ (k : KeyDesk). IsSeeingSpace space old.desk k) (sym same) seeing_old;
          none = subst (λ (g : GetterValue L). IsNoneAtHand place g new) (same_but new.desk same) h;
        }

    -- the key has no place
    pub unplaced_getter : IsAbsent space old asked_desk
    unplaced_getter = absent_getter 0 asked_desk (record { looked = looks_none standing 0; rest = refl })

nothing_owed : (s : Standing Filled) → is_owing s ≡ false → HasDelivered s s
nothing_owed (Free c) free = refl
nothing_owed (Owing s) free = cc

nothing_handed : (s : Standing Filled) (log : LogValue) → is_owing s ≡ false → log ≡ logged_by log (delivered_by s s)
nothing_handed (Free c) log free = refl
nothing_handed (Owing s) log free = cc

-- nothing was owed
module _ {L : Type 0} where
  pub settled_already : (g : GetterValue L) → is_owing g.standing ≡ false → HasSettledUp g g
  settled_already g free = record { delivered = nothing_owed g.standing free; rest = refl }

  pub logged_already : (g : GetterValue L) → is_owing g.standing ≡ false → g.log ≡ logged_by g.log (delivered_by g.standing g.standing)
  logged_already g free = nothing_handed g.standing g.log free

  -- a letter was at hand, and nothing is owed
  pub present_fresh : (space : SpaceId) (key : List ℕ) (old new : GetterValue L) (answer : GetAnswer) → is_owing old.standing ≡ false → IsPresent space key old new answer → IsFreshGet space key old new answer
  present_fresh space key old new answer free h =
      let settled : HasSettledUp old old = settled_already old free in
      let path : CallId → L → LoadAnswer → L → Type 0 = λ call a given b. Unit {0} in
      let draws : L → L → Type 0 = λ a b. Unit {0} in
      fresh path draws space key old new answer (got_once path draws space key old old new answer settled (present_once path draws space key old new answer h))
      (logs_once old old new settled (logged_already old free) (present_logged space key old new answer h))

-- a look after one that found none
pub looks_at_hand_on : {L : Type 0} (stated : List ℕ → CallId → List ℕ → Type 0) (key : List ℕ) (at mid after : KeyPlace) (a b c : GetterValue L) (answer : Option GetAnswer)
    → LooksAtHand stated key at mid a b None → LooksAtHand stated key mid after b c answer → LooksAtHand stated key at after a c answer
looks_at_hand_on stated key at mid after a b c answer first second =
    let none : IsNoneAtHand (place_at at) a b = first.none refl in
    record {
      at_hand = some_then _ _ answer (λ found h. at_hand_on (place_at at) a b c none found (subst (λ (x : KeyPlace). IsAtHand (place_at x) b c found) first.same h)) second.at_hand;
      none = λ is. none_on (place_at at) a b c none (subst (λ (x : KeyPlace). IsNoneAtHand (place_at x) b c) first.same (second.none is));
      keyed = second.keyed;
      loaded = second.loaded;
      same = second.same ∙ first.same;
    }
