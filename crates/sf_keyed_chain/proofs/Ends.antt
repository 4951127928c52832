-- How calls on a chain end, from how they end on one table.
use Rattle.std.proofs.Common.{◌≡◌, ◌≢◌, ℕ, ◌+◌, ◌<◌, ◌≤◌, ◌/◌, ◌%◌, List, length, Some, None, sym, ◌∙◌, ap, subst, arith, get_or, set, Bool, true, false, inr, ◌⊎◌, refl}
use Rattle.std.specs.Bool.{OnTrue, OnFalse}
use Rattle.std.specs.List.{slice_get}
use Rattle.std.specs.Prelude.{nat_eq, Result, Ok, Err, IfOk, IfErr}
use Rattle.sf_history.specs.History.{open_call}
use Rattle.sf_keyed.specs.Known.{FrontState, FlightState, GroupId}
use Rattle.sf_keyed.specs.Calls.{Closes, IsAsked, IsForgotten, IsPassed, Led, Joined, Sees, Stays, WhyRefused, IsEnded}
use Rattle.sf_keyed.specs.declared.group.Asked.{Asked}
use Rattle.sf_keyed.specs.declared.group.Asked.TheVariants as asked
use Rattle.sf_keyed_tells.specs.Tells.{call_of}
use Rattle.sf_keyed.specs.declared.group.Ended.{Ended}
use Rattle.sf_keyed.specs.declared.group.Ended.TheVariants as ended
use Rattle.sf_keyed.specs.declared.group.Forgotten.{Forgotten}
use Rattle.sf_keyed.specs.declared.group.Forgotten.TheVariants as forgotten
use Rattle.sf_keyed.specs.declared.group.Passed.{Passed}
use Rattle.sf_keyed.specs.declared.group.Passed.TheVariants as passed
use Rattle.sf_keyed.specs.declared.group.Refusal.{Refusal}
use Rattle.sf_keyed.specs.declared.group.Refusal.TheVariants as refusal
use mathlib.Core.Logic.{dite}
use native.Mathlib.Decide.{ℕ_discrete}
use Rattle.sf_keyed_words.specs.Rule.{slot_of}
use Rattle.sf_keyed_chain.specs.declared.chain.Stamp.{Stamp}
use Rattle.std.proofs.lemmas.Option.{slice_get-get_or}
use Rattle.sf_keyed_ages.specs.Rule.{Has}
use Rattle.sf_keyed_ages.specs.Stamps.{IsDrawn, KnowsOn, IsStill, IsNotStill}
use Rattle.sf_keyed_chain.proofs.Later.{knows_both, knows_same}
use Rattle.sf_keyed_chain.specs.Chains.{Sight, AllGoOn, AllHeard, Called, IsGoneBefore, IsGoneHere, IsTokenOf, TokenState, EndsAt, IsEndedIn, IsEndedBefore, IsStampOf, IsLater, EndsStamp}
use Rattle.sf_keyed_chain.specs.Went.{HasGoneOn, IsLastFor, IsBusyAt, IsClosedAt, IsGoneInAll, IsIdleAt, IsLedAt, IsJoinedAt, IsRefusedAt, IsCurrent, IsNotCurrent, HasForgottenCall}
use Rattle.sf_keyed_chain.proofs.Sights.{all_both, called_as, called_on, gone_here_on, gone_next, gone_on, heard_called, heard_on, seen_called, some_is, set_here, called_in}

-- how an asking of one table ends, a pass, and a Forget
abbrev pub AskedAt : ℕ → ℕ → ℕ → List Sight → List Sight → Asked → Type 0
AskedAt k at tries xs ys r = Called (λ b a. IsAsked b a k tries r) at xs ys

abbrev pub PassedAt : ℕ → ℕ → ℕ → List Sight → List Sight → Passed → Type 0
PassedAt k at tries xs ys r = Called (λ b a. IsPassed b a k tries r) at xs ys

abbrev pub ForgottenAt : ℕ → ℕ → ℕ → List Sight → List Sight → Forgotten → Type 0
ForgottenAt k at tries xs ys r = Called (λ b a. IsForgotten b a k tries r) at xs ys

-- the group of a call is that of its table
pub led_group : (k at tries : ℕ) (xs ys : List Sight) (r : Asked) (f : FlightState) → r ≡ asked.Led f → AskedAt k at tries xs ys r → (s : Sight) → slice_get ys at ≡ Some s → f.group ≡ s.front.group
led_group k at tries xs ys r f is c s here =
    let d : Called (λ b a. IsAsked b a k tries (asked.Led f)) at xs ys = subst (AskedAt k at tries xs ys) is c in
    let same : d.after ≡ s = some_is d.after s (sym d.at_after ∙ here) in
    d.is.3 ∙ (sym d.later.on.group ∙ ap (λ (t : Sight). t.front.group) same)

pub joined_group : (k at tries : ℕ) (xs ys : List Sight) (r : Asked) (f : FlightState) → r ≡ asked.Joined f → AskedAt k at tries xs ys r → (s : Sight) → slice_get ys at ≡ Some s → f.group ≡ s.front.group
joined_group k at tries xs ys r f is c s here =
    let d : Called (λ b a. IsAsked b a k tries (asked.Joined f)) at xs ys = subst (AskedAt k at tries xs ys) is c in
    let same : d.after ≡ s = some_is d.after s (sym d.at_after ∙ here) in
    d.is.1 ∙ (sym d.later.on.group ∙ ap (λ (t : Sight). t.front.group) same)

pub passed_group : (k at tries : ℕ) (xs ys : List Sight) (r : Passed) (f : FlightState) → r ≡ passed.Joined f → PassedAt k at tries xs ys r → (s : Sight) → slice_get ys at ≡ Some s → f.group ≡ s.front.group
passed_group k at tries xs ys r f is c s here =
    let d : Called (λ b a. IsPassed b a k tries (passed.Joined f)) at xs ys = subst (PassedAt k at tries xs ys) is c in
    let same : d.after ≡ s = some_is d.after s (sym d.at_after ∙ here) in
    d.is.1 ∙ (sym d.later.on.group ∙ ap (λ (t : Sight). t.front.group) same)

-- a new call, by its token and its stamp
pub led_at : (cells : List ℕ) (k at tries : ℕ) (xs ys zs : List Sight) (r : Asked) (f : FlightState) (t : TokenState) (p : Stamp) → r ≡ asked.Led f → at + 1 ≡ length ys → ys ≡ zs → (t.table ≡ at) × (t.call ≡ f) × IsTokenOf cells t
    → p.table ≡ at → IsStampOf k at p.slot p.age xs ys → IsGoneBefore k at xs → AskedAt k at tries xs ys r → IsLedAt cells k t p xs zs
led_at cells k at tries xs ys zs r f t p is last same token table stamped gone c =
    let d : AskedAt k at tries xs ys (asked.Led f) = subst (AskedAt k at tries xs ys) is c in
    let so = λ (b a : FrontState). Led b a k t.call.call × (t.call.call ≡ b.spare) × (t.call.call ≢ 0) × (t.call.group ≡ b.group) × (a.spare ≡ 0) in
    let e : Called so at xs ys = called_as (λ b a. IsAsked b a k tries (asked.Led f)) so at xs ys (λ b a q. subst (λ (u : FlightState). Led b a k u.call × (u.call ≡ b.spare) × (u.call ≢ 0) × (u.group ≡ b.group) × (a.spare ≡ 0)) (sym token.1) q) d in
    subst (λ l. IsLedAt cells k t p xs l) same (record {
      led = subst (λ n. Called so n xs ys) (sym token.0) e;
      token = token.2;
      last = ap (λ n. n + 1) token.0 ∙ last;
      stamp_table = table ∙ sym token.0;
      stamped = subst (λ n. IsStampOf k n p.slot p.age xs ys) (sym table) stamped;
      gone = subst (λ n. IsGoneBefore k n ys) (sym token.0) (gone_on k at xs ys (seen_called (λ b a. IsAsked b a k tries r) at xs ys c) gone);
    })

pub joined_at : (cells : List ℕ) (k at : ℕ) (xs ys zs : List Sight) (f : FlightState) (t : TokenState) → ys ≡ zs → (t.table ≡ at) × (t.call ≡ f) × IsTokenOf cells t → IsGoneBefore k at xs
    → Called (λ b a. Joined b a k f.call × (f.group ≡ b.group) × (a.spare ≡ b.spare)) at xs ys → IsJoinedAt cells k t xs zs
joined_at cells k at xs ys zs f t same token gone c =
    let so = λ (b a : FrontState). Joined b a k t.call.call × (t.call.group ≡ b.group) × (a.spare ≡ b.spare) in
    let was = λ (b a : FrontState). Joined b a k f.call × (f.group ≡ b.group) × (a.spare ≡ b.spare) in
    let e : Called so at xs ys = called_as was so at xs ys (λ b a q. subst (λ (u : FlightState). Joined b a k u.call × (u.group ≡ b.group) × (a.spare ≡ b.spare)) (sym token.1) q) c in
    subst (λ l. IsJoinedAt cells k t xs l) same (record {
      joined = subst (λ n. Called so n xs ys) (sym token.0) e;
      token = token.2;
      gone = subst (λ n. IsGoneBefore k n ys) (sym token.0) (gone_on k at xs ys (seen_called was at xs ys c) gone);
    })

pub refused_at : (k at tries : ℕ) (xs ys : List Sight) (why : Refusal) → IsLastFor why at (length ys) → IsGoneBefore k at xs → Called (λ b a. Stays b a × WhyRefused b a tries why) at xs ys → IsRefusedAt k tries why at xs ys
refused_at k at tries xs ys why last gone c = record { refused = c; last = last; gone = gone_on k at xs ys (seen_called (λ b a. Stays b a × WhyRefused b a tries why) at xs ys c) gone }

pub last_for : (why : Refusal) (at n : ℕ) → at + 1 ≡ n → IsLastFor why at n
last_for refusal.Busy at n last = tt
last_for refusal.Crowded at n last = tt
last_for refusal.Full at n last = last
last_for refusal.Sealed at n last = last
last_for refusal.NoCell at n last = last

-- a refused asking has only heard more
pub refused_heard : (k at tries : ℕ) (xs ys : List Sight) (r : Asked) (why : Refusal) → r ≡ asked.Refused why → AskedAt k at tries xs ys r → AllHeard xs ys
refused_heard k at tries xs ys r why is c =
    let d : AskedAt k at tries xs ys (asked.Refused why) = subst (AskedAt k at tries xs ys) is c in
    heard_called (λ b a. IsAsked b a k tries (asked.Refused why)) at xs ys d d.is.0.spare

-- it goes on at the same table, once the next one is known
pub again_at : (k at tries : ℕ) (xs ys zs : List Sight) (r : Asked) (why : Refusal) → r ≡ asked.Refused why → at < length xs → length ys ≡ length xs → length zs ≡ length ys + 1 → IsGoneBefore k at xs → AskedAt k at tries xs ys r → AllHeard ys zs → HasGoneOn k at at xs zs
again_at k at tries xs ys zs r why is within same more gone c heard =
    let all = all_both xs ys zs (refused_heard k at tries xs ys r why is c) heard in record {
      heard = all;
      within = omega (arith, within, same, more);
      nearer = omega (arith, same, more);
      gone = gone_on k at xs zs (heard_on xs zs all) gone;
    }

-- it goes on at the next table, where the name is gone in this one
pub next_at : (k at : ℕ) (xs ys : List Sight) → AllHeard xs ys → at + 1 < length ys → length xs ≤ length ys → IsGoneBefore k at xs → IsGoneHere k at ys → HasGoneOn k at (at + 1) xs ys
next_at k at xs ys heard within more gone here = record {
  heard = heard;
  within = within;
  nearer = omega (arith, more);
  gone = gone_next k at ys (gone_on k at xs ys (heard_on xs ys heard) gone) here;
}

pub passed_on : (k at tries : ℕ) (xs ys : List Sight) (r : Passed) → r ≡ passed.Gone → at + 1 < length xs → length ys ≡ length xs → IsGoneBefore k at xs → PassedAt k at tries xs ys r → HasGoneOn k at (at + 1) xs ys
passed_on k at tries xs ys r is within same gone c =
    let d : PassedAt k at tries xs ys passed.Gone = subst (PassedAt k at tries xs ys) is c in
    next_at k at xs ys (heard_called (λ b a. IsPassed b a k tries passed.Gone) at xs ys d d.is.2) (omega (arith, within, same)) (omega (arith, same)) gone (record { sight = d.after; here = d.at_after; gone = d.is.1 })

-- what one step came to, after more was heard
pub stamped_from : (k table slot age : ℕ) (xs ys zs : List Sight) → AllHeard xs ys → IsStampOf k table slot age ys zs → IsStampOf k table slot age xs zs
stamped_from k table slot age xs ys zs heard l = record {
  sight = l.sight;
  here = l.here;
  slot_is = l.slot_is;
  has = l.has;
  newest = λ s e known has. let a = heard table s e in l.newest a.0 a.1 known (a.2.later.ages.facts slot known has);
}

pub led_from : (cells : List ℕ) (k : ℕ) (t : TokenState) (p : Stamp) (xs ys zs : List Sight) → AllHeard xs ys → IsLedAt cells k t p ys zs → IsLedAt cells k t p xs zs
led_from cells k t p xs ys zs heard l = record {
  led = called_on (λ b a. Led b a k t.call.call × (t.call.call ≡ b.spare) × (t.call.call ≢ 0) × (t.call.group ≡ b.group) × (a.spare ≡ 0)) t.table xs ys zs heard l.led;
  token = l.token;
  last = l.last;
  stamp_table = l.stamp_table;
  stamped = stamped_from k p.table p.slot p.age xs ys zs heard l.stamped;
  gone = l.gone;
}

-- what a Forget has ended in a table stays so
pub ended_from : (k at : ℕ) (xs ys zs : List Sight) → AllHeard xs ys → IsEndedIn k at ys zs → IsEndedIn k at xs zs
ended_from k at xs ys zs heard l = record {
  sight = l.sight;
  here = l.here;
  before = l.before;
  after = l.after;
  was = λ s e. let a = heard at s e in knows_both s.known a.0.known l.before a.2.later.ages (l.was a.0 a.1);
  ends = l.ends;
  on = l.on;
}

pub ended_on : (k at : ℕ) (xs ys zs : List Sight) → AllGoOn ys zs → IsEndedIn k at xs ys → IsEndedIn k at xs zs
ended_on k at xs ys zs on l =
    let a = on at l.sight l.here in record {
      sight = a.0;
      here = a.1;
      before = l.before;
      after = l.after;
      was = l.was;
      ends = subst (EndsAt l.before l.after) (sym (ap (λ (g : GroupId). slot_of g.sizes k) a.2.on.group)) l.ends;
      on = knows_both l.after l.sight.known a.0.known l.on a.2.ages;
    }

-- and one table more
pub ended_next : (k at : ℕ) (xs ys zs : List Sight) → AllHeard xs ys → AllGoOn ys zs → IsEndedBefore k at xs ys → IsEndedIn k at ys zs → IsEndedBefore k (at + 1) xs zs
ended_next k at xs ys zs heard on before here i below = dite (ℕ_discrete i at)
    (λ same. subst (λ n. IsEndedIn k n xs zs) (sym same) (ended_from k at xs ys zs heard here))
    (λ apart. ended_on k i xs ys zs on (before i (omega (arith, apart))))

pub ended_none : (k : ℕ) (xs ys : List Sight) → IsEndedBefore k 0 xs ys
ended_none k xs ys i below = absurd (omega arith)

pub joined_from : (cells : List ℕ) (k : ℕ) (t : TokenState) (xs ys zs : List Sight) → AllHeard xs ys → IsJoinedAt cells k t ys zs → IsJoinedAt cells k t xs zs
joined_from cells k t xs ys zs heard l = record { joined = called_on (λ b a. Joined b a k t.call.call × (t.call.group ≡ b.group) × (a.spare ≡ b.spare)) t.table xs ys zs heard l.joined; token = l.token; gone = l.gone }

pub refused_from : (k tries : ℕ) (why : Refusal) (at : ℕ) (xs ys zs : List Sight) → AllHeard xs ys → IsRefusedAt k tries why at ys zs → IsRefusedAt k tries why at xs zs
refused_from k tries why at xs ys zs heard l = record { refused = called_on (λ b a. Stays b a × WhyRefused b a tries why) at xs ys zs heard l.refused; last = l.last; gone = l.gone }

-- how a Forget of one table ends
pub closed_at : (k at tries : ℕ) (xs ys : List Sight) (r : Forgotten) (call : ℕ) → r ≡ forgotten.Closed call → IsGoneBefore k at xs → ForgottenAt k at tries xs ys r → IsClosedAt k at call xs ys
closed_at k at tries xs ys r call is gone c = record { closed = subst (ForgottenAt k at tries xs ys) is c; gone = gone_on k at xs ys (seen_called (λ b a. IsForgotten b a k tries r) at xs ys c) gone }

pub idle_at : (k at tries : ℕ) (xs ys : List Sight) (r : Forgotten) → r ≡ forgotten.Nothing → IsGoneBefore k at xs → ForgottenAt k at tries xs ys r → IsIdleAt k at xs ys
idle_at k at tries xs ys r is gone c = record { idle = subst (ForgottenAt k at tries xs ys) is c; gone = gone_on k at xs ys (seen_called (λ b a. IsForgotten b a k tries r) at xs ys c) gone }

pub busy_at : (k at tries : ℕ) (xs ys : List Sight) (r : Forgotten) → r ≡ forgotten.Busy → ForgottenAt k at tries xs ys r → IsBusyAt tries at xs ys
busy_at k at tries xs ys r is c = subst (ForgottenAt k at tries xs ys) is c

pub gone_heard : (k at tries : ℕ) (xs ys : List Sight) (r : Forgotten) → r ≡ forgotten.Gone → ForgottenAt k at tries xs ys r → AllHeard xs ys × IsGoneHere k at ys
gone_heard k at tries xs ys r is c =
    let d : ForgottenAt k at tries xs ys forgotten.Gone = subst (ForgottenAt k at tries xs ys) is c in
    (heard_called (λ b a. IsForgotten b a k tries forgotten.Gone) at xs ys d d.is.2, record { sight = d.after; here = d.at_after; gone = d.is.1 })

pub closed_from : (k at call : ℕ) (xs ys zs : List Sight) → AllHeard xs ys → IsClosedAt k at call ys zs → IsClosedAt k at call xs zs
closed_from k at call xs ys zs heard l = record { closed = called_on (λ b a. Closes b a k call) at xs ys zs heard l.closed; gone = l.gone }

pub idle_from : (k at : ℕ) (xs ys zs : List Sight) → AllHeard xs ys → IsIdleAt k at ys zs → IsIdleAt k at xs zs
idle_from k at xs ys zs heard l = record { idle = called_on (λ b a. Sees b a × (open_call nat_eq a.seen k ≡ None) × (a.met.top / 2 % 2 ≡ 0) × (a.spare ≡ b.spare)) at xs ys zs heard l.idle; gone = l.gone }

pub busy_from : (tries at : ℕ) (xs ys zs : List Sight) → AllHeard xs ys → IsBusyAt tries at ys zs → IsBusyAt tries at xs zs
busy_from tries at xs ys zs heard l = called_on (λ b a. Stays b a × (b.met.lost + tries ≤ a.met.lost)) at xs ys zs heard l

pub all_gone_from : (k : ℕ) (xs ys zs : List Sight) → AllHeard xs ys → IsGoneInAll k ys zs → IsGoneInAll k xs zs
all_gone_from k xs ys zs heard l = record { heard = all_both xs ys zs heard l.heard; gone = l.gone }

-- a Forget goes on at the next table, which was known, or is known then
pub shut_on : (k at tries : ℕ) (xs ys zs : List Sight) (r : Forgotten) → r ≡ forgotten.Gone → at + 1 < length zs → length ys ≡ length xs → length ys ≤ length zs → IsGoneBefore k at xs → ForgottenAt k at tries xs ys r → AllHeard ys zs → HasGoneOn k at (at + 1) xs zs
shut_on k at tries xs ys zs r is within same more gone c heard =
    let g = gone_heard k at tries xs ys r is c in
    next_at k at xs zs (all_both xs ys zs g.0 heard) within (omega (arith, same, more)) gone (gone_here_on k at ys zs heard g.1)

-- or there is none
pub shut_behind : (k at tries : ℕ) (xs ys zs : List Sight) (r : Forgotten) → r ≡ forgotten.Gone → at + 1 ≡ length ys → zs ≡ ys → IsGoneBefore k at xs → ForgottenAt k at tries xs ys r → IsGoneInAll k xs zs × (at + 1 ≡ length zs)
shut_behind k at tries xs ys zs r is last same gone c =
    let g = gone_heard k at tries xs ys r is c in
    subst (λ l. IsGoneInAll k xs l × (at + 1 ≡ length l)) (sym same) (record { heard = g.0; gone = subst (λ n. IsGoneBefore k n ys) last (gone_next k at ys (gone_on k at xs ys (heard_on xs ys g.0) gone) g.1) }, last)

-- what is said of an answer, from what is said of it elsewhere
pub if_ok : {A E : Type 0} (P Q : A → Type 0) (r : Result A E) → ((v : A) → P v → Q v) → IfOk r P → IfOk r Q
if_ok P Q (Ok v) f p = f v p
if_ok P Q (Err e) f p = p

pub if_err : {A E : Type 0} (P Q : E → Type 0) (r : Result A E) → ((e : E) → P e → Q e) → IfErr r P → IfErr r Q
if_err P Q (Ok v) f p = p
if_err P Q (Err e) f p = f e p

-- a stamp that was drawn in one of the tables that are known
pub stamped_in : (k at slot age : ℕ) (old items : List Sight) (s t : Sight) → items ≡ old → at < length old → s ≡ get_or items at s → IsLater s t → slot ≡ slot_of s.front.group.sizes k → IsDrawn s.known t.known slot age → IsStampOf k at slot age old (set items at t)
stamped_in k at slot age old items s t view within value later slot_is drawn =
    let inside = subst (λ l. at < length l) (sym view) within in
    let here = slice_get-get_or items at s inside ∙ ap Some (sym value) in record {
      sight = t;
      here = set_here items at t inside;
      slot_is = slot_is ∙ sym (ap (λ (g : GroupId). slot_of g.sizes k) later.on.group);
      has = drawn.has;
      newest = λ u e known has. drawn.newest known (drawn.on.facts slot known (subst (λ (v : Sight). Has v.known.facts slot known) (some_is u s (sym e ∙ (ap (λ l. slice_get l at) (sym view) ∙ here))) has));
    }

-- what a Forget has ended in one of them
pub ended_in : (k at : ℕ) (old items : List Sight) (s t : Sight) → items ≡ old → at < length old → s ≡ get_or items at s → IsLater s t → EndsAt s.known t.known (slot_of s.front.group.sizes k) → IsEndedIn k at old (set items at t)
ended_in k at old items s t view within value later ends =
    let inside = subst (λ l. at < length l) (sym view) within in
    let here = slice_get-get_or items at s inside ∙ ap Some (sym value) in record {
      sight = t;
      here = set_here items at t inside;
      before = s.known;
      after = t.known;
      was = λ u e. subst (λ (v : Sight). KnowsOn u.known v.known) (some_is u s (sym e ∙ (ap (λ l. slice_get l at) (sym view) ∙ here))) (knows_same u.known);
      ends = subst (EndsAt s.known t.known) (sym (ap (λ (g : GroupId). slot_of g.sizes k) later.on.group)) ends;
      on = knows_same t.known;
    }

-- a stamp that is looked at in one of the tables that are known
pub on_true : (b : Bool) (P Q : Type 0) → (P → Q) → OnTrue b P → OnTrue b Q
on_true true P Q f p = f p
on_true false P Q f p = p

pub on_false : (b : Bool) (P Q : Type 0) → (P → Q) → OnFalse b P → OnFalse b Q
on_false true P Q f p = p
on_false false P Q f p = f p

pub current_in : (stamp : Stamp) (ys items : List Sight) (s t : Sight) → items ≡ ys → stamp.table < length ys → IsStill t.known stamp.slot stamp.age → IsCurrent stamp (set items stamp.table t)
current_in stamp ys items s t view within still =
    record { sight = t; here = set_here items stamp.table t (subst (λ l. stamp.table < length l) (sym view) within); still = still }

pub over_in : (stamp : Stamp) (ys items : List Sight) (s t : Sight) → items ≡ ys → stamp.table < length ys → (t.front.group.sizes.tops ≤ stamp.slot) ⊎ IsNotStill t.known stamp.slot stamp.age → IsNotCurrent stamp (set items stamp.table t)
over_in stamp ys items s t view within other = inr (t, set_here items stamp.table t (subst (λ l. stamp.table < length l) (sym view) within), record { other = other })

-- how a Forget of one call ends, in one of the tables that are known
pub forgotten_call : (k call tries : ℕ) (stamp : Stamp) (xs ys items : List Sight) (s t : Sight) (r : Ended) → AllHeard xs ys → items ≡ ys → stamp.table < length ys → s ≡ get_or items stamp.table s → IsLater s t
    → IsEnded s.front t.front k call tries r → (r ≡ ended.Gone → EndsStamp t stamp.slot stamp.age) → HasForgottenCall k call stamp tries xs (set items stamp.table t) r
forgotten_call k call tries stamp xs ys items s t ended.Closed heard view within value later is ends =
    let so = λ (b a : FrontState). Closes b a k call in
    called_on so stamp.table xs ys (set items stamp.table t) heard (called_in so stamp.table ys items s t view within value later is)
forgotten_call k call tries stamp xs ys items s t ended.Gone heard view within value later is ends =
    let so = λ (b a : FrontState). Sees b a × (open_call nat_eq a.seen k ≢ Some (call_of call)) × (a.spare ≡ b.spare) in
    inr (called_on so stamp.table xs ys (set items stamp.table t) heard (called_in so stamp.table ys items s t view within value later is), (t, set_here items stamp.table t (subst (λ l. stamp.table < length l) (sym view) within), ends refl))
forgotten_call k call tries stamp xs ys items s t ended.Busy heard view within value later is ends =
    let so = λ (b a : FrontState). Stays b a × (b.met.lost + tries ≤ a.met.lost) in
    called_on so stamp.table xs ys (set items stamp.table t) heard (called_in so stamp.table ys items s t view within value later is)
