-- looks at letters, one after another
use Rattle.std.proofs.Common.{◌≡◌, ℕ, Bool, true, List, [], ◌++◌, Option, Some, None, Result, Ok, Err, IfOk, inl, inr, refl, sym, ◌∙◌, subst}
use Rattle.sf_history.specs.declared.call.CallId.{CallId}
use Rattle.sf_history.specs.declared.event.Event.{Event}
use Rattle.sf_group_rows.specs.Tokens.{GroupValue, CallerValue, FlightValue, LetterValue}
use Rattle.sf_group_rows.specs.Seen.{IsLawful, Adds}
use Rattle.sf_group_rows.specs.Same.{HasNothing, IsStill, IsSameFlight, call_of}
use Rattle.sf_group_rows.specs.Begins.{HasLed}
use Rattle.sf_group_rows.specs.Notes.{HasLearnt, HasLent, HasCopied, HasLearntLeading}
use Rattle.sf_group_rows.specs.Currents.{WasCurrent, HasQuestioned, IsStillSaid}
use Rattle.sf_group_rows.proofs.AddsAgain.{starts_again, grows_none, adds_again, still}
use Rattle.sf_fill_values.specs.FillValue.{Filled, FitsFill, fill_lasts}
use Rattle.sf_fill_values.specs.Rooted.{IsRooted}
use Rattle.sf_fill_values.specs.Settled.{HasOnlyLooked, IsKeptLetter, IsCurrentLetter, IsFollowed, HasLooked, HasLookedOn}
use Rattle.sf_group_rows.proofs.Moments.{first_added}
use Rattle.sf_fill_values.proofs.Rooting.{rooted_itself, rooted_after}

pub lent_again : (l m n : LetterValue Filled) → HasLent l m → HasLent m n → HasLent l n
lent_again l m n first second = record {
  group = second.group ∙ first.group;
  place = second.place ∙ first.place;
  call = second.call ∙ first.call;
  value = second.value ∙ first.value;
  count = second.count ∙ first.count;
  shows = starts_again l.seen m.seen n.seen first.shows second.shows;
}

nothing_again : (c d e : CallerValue Filled) → HasNothing c d → HasNothing d e → HasNothing c e
nothing_again c d e first second =
    let on : Adds c.group c.number d.seen e.seen [] 0 = subst (λ (i : ℕ). Adds c.group i d.seen e.seen [] 0) first.number (subst (λ (g : GroupValue). Adds g d.number d.seen e.seen [] 0) first.group second.adds) in
    record { group = second.group ∙ first.group; number = second.number ∙ first.number; adds = adds_again c.group c.number c.seen d.seen e.seen [] [] 0 0 first.adds on }

pub looked_again : (c d e : CallerValue Filled) → HasOnlyLooked c d → HasOnlyLooked d e → HasOnlyLooked c e
looked_again c d e (inl is) (inl also) = inl (also ∙ is)
looked_again c d e (inl is) (inr n) = inr (subst (λ (x : CallerValue Filled). HasNothing x e) is n)
looked_again c d e (inr n) (inl also) = inr (subst (λ (x : CallerValue Filled). HasNothing c x) (sym also) n)
looked_again c d e (inr n) (inr m) = inr (nothing_again c d e n m)

-- two looks that found none
pub looked_twice : (c d : CallerValue Filled) → (u : CallerValue Filled) × HasOnlyLooked c u × HasOnlyLooked u d → HasOnlyLooked c d
looked_twice c d h = looked_again c h.0 d h.1 h.2

-- so the caller is still the same
pub still_looked : (c d : CallerValue Filled) → HasOnlyLooked c d → IsStill c d
still_looked c d (inl is) = subst (λ (x : CallerValue Filled). IsStill c x) (sym is) (still c)
still_looked c d (inr n) = record { group = n.group; number = n.number; grows = n.adds.grows }

-- a letter that was asked about, and is current
pub current_letter : (g : GroupValue) (c d : CallerValue Filled) (place : ℕ) (l m : LetterValue Filled) (told : Bool) → c.group ≡ g → l.place ≡ place → IsKeptLetter g l.place l → HasQuestioned c l told d m → told ≡ true
    → IsCurrentLetter c place l d
current_letter g c d place l m told group at kept asked is = record {
  kept = subst (λ (h : GroupValue). IsKeptLetter h place l) (sym group) (subst (λ (k : ℕ). IsKeptLetter g k l) at kept);
  nothing = asked.learnt.0;
  current = subst (λ (k : ℕ). WasCurrent k l.call c.seen l.seen d.seen) at (asked.right is);
}

pub current_at : (c d : CallerValue Filled) (p q : ℕ) (l : LetterValue Filled) → p ≡ q → IsCurrentLetter c p l d → IsCurrentLetter c q l d
current_at c d p q l is current = subst (λ (k : ℕ). IsCurrentLetter c k l d) is current

-- the same question in two steps: the caller learns what the note shows, and asks then
pub questioned : (c u d : CallerValue Filled) (l m : LetterValue Filled) (told : Bool) → HasLearnt c l.seen u → HasNothing u d → IsStillSaid l.place l.call told u.seen d.seen → HasLent l m → HasQuestioned c l told d m
questioned c u d l m told learnt nothing said lent = record {
  learnt = (nothing_again c u d learnt.0 nothing, starts_again l.seen u.seen d.seen learnt.1 nothing.adds.grows.begins);
  lent = lent;
  right = λ yes.
      let was = said.right yes in
      record { moment = was.moment; begins = starts_again c.seen u.seen was.moment learnt.0.adds.grows.begins was.begins; shows = starts_again l.seen u.seen was.moment learnt.1 was.begins; within = was.within; current = was.current };
  outdated = said.outdated;
}

-- so of a letter that is another's view
pub questioned_view : (v l : LetterValue Filled) → v ≡ l → (c u d : CallerValue Filled) (m : LetterValue Filled) (told : Bool) → HasLearnt c v.seen u → HasNothing u d → IsStillSaid v.place v.call told u.seen d.seen → HasLent v m → HasQuestioned c l told d m
questioned_view v l is c u d m told learnt nothing said lent = subst (λ (x : LetterValue Filled). HasQuestioned c x told d m) is (questioned c u d v m told learnt nothing said lent)

module _ (E : Type 0) where
  -- a letter that was current and lent, and a copy of it
  pub looked_lent_on : (c d : CallerValue Filled) (place : ℕ) (l m : LetterValue Filled) (copy : Result (LetterValue Filled) E) → IsCurrentLetter c place l d → HasLent l m → IfOk copy (HasLent m) → HasLooked c place (Some copy) d
  looked_lent_on c d place l m (Ok n) current lent copied = (l, current, lent_again l m n lent copied)
  looked_lent_on c d place l m (Err e) current lent copied = (l, current)

  pub looked : (c d : CallerValue Filled) (place : ℕ) (l m o : LetterValue Filled) (copy : Result (LetterValue Filled) E) → IsCurrentLetter c place l d → HasLent l m → IfOk copy (λ n. HasCopied FitsFill m o n) → HasLooked c place (Some copy) d
  looked c d place l m o (Ok n) current lent copied = (l, current, lent_again l m n lent copied.1)
  looked c d place l m o (Err e) current lent copied = (l, current)

  -- the note of what a look found may show more
  looked_lent : (c d : CallerValue Filled) (place : ℕ) (m n : LetterValue Filled) → HasLooked {E = E} c place (Some (Ok m)) d → HasLent m n → HasLooked {E = E} c place (Some (Ok n)) d
  looked_lent c d place m n h lent = (h.0, h.1, lent_again h.0 m n h.2 lent)

  -- a look after one that found none; the note of what it found may show more
  pub looked_on_lent : (c u d : CallerValue Filled) (place : ℕ) (r : Result (LetterValue Filled) E) (m n : LetterValue Filled) → r ≡ Ok m → HasOnlyLooked c u → HasLookedOn u place (Some r) d → HasLent m n → HasLookedOn {E = E} c place (Some (Ok n)) d
  looked_on_lent c u d place r m n is only h lent =
      let on : HasLookedOn {E = E} u place (Some (Ok m)) d = subst (λ (x : Result (LetterValue Filled) E). HasLookedOn u place (Some x) d) is h in
      (on.0, looked_again c u on.0 only on.1, looked_lent on.0 d place m n on.2 lent)

  pub looked_on : (c u d : CallerValue Filled) (place : ℕ) (found : Option (Result (LetterValue Filled) E)) → HasOnlyLooked c u → HasLookedOn u place found d → HasLookedOn c place found d
  looked_on c u d place found only on = (on.0, looked_again c u on.0 only on.1, on.2)

-- a flight may be settled with the value of the call that it follows, once it has learnt that call's letter
pub follows_fit : (f h : FlightValue Filled) (l : LetterValue Filled) (v : Filled) → IsFollowed f l → HasLearntLeading f l.seen h → v ≡ l.value → FitsFill h.place h.call v h.seen
follows_fit f h l v follows learnt is =
    let before = follows.follows in
    let shown = learnt.1 in
    let begins = learnt.0.adds.grows.begins in
    let kept : FitsFill f.place l.call l.value l.seen = subst (λ (k : ℕ). FitsFill k l.call l.value l.seen) follows.kept.place_is follows.kept.fits in
    let fits : FitsFill f.place l.call l.value h.seen = subst (λ (s : List (Event ℕ Filled)). FitsFill f.place l.call l.value s) (sym shown.1) (fill_lasts f.place l.call l.value l.seen shown.0 kept) in
    let rooted = rooted_after h.seen before.before f.number f.place l.value.root f.call l.call f.own learnt.0.adds.lawful.legal
    (starts_again _ f.seen h.seen before.led begins) before.current fits.1 in
    let fitting : FitsFill f.place f.call l.value h.seen = (fits.0, rooted) in
    let same : FitsFill h.place h.call l.value h.seen = subst (λ (c : CallId). FitsFill h.place c l.value h.seen) (sym learnt.0.call) (subst (λ (k : ℕ). FitsFill k f.call l.value h.seen) (sym learnt.0.place) fitting) in
    subst (λ (w : Filled). FitsFill h.place h.call w h.seen) (sym is) same

-- a call that was led is rooted in itself
pub led_rooted : (c : CallerValue Filled) (k : ℕ) (f : FlightValue Filled) → HasLed c k f → IsRooted f.place f.call f.call f.seen
led_rooted c k f led =
    let at = first_added c.number c.seen f.seen _ [] led.adds.grows.begins led.adds.grows.own in
    let rooted : IsRooted k (call_of c) (call_of c) f.seen = rooted_itself f.seen (c.seen ++ at.0) c.number k (call_of c) None at.1 in
    subst (λ (d : CallId). IsRooted f.place d d f.seen) (sym led.call) (subst (λ (p : ℕ). IsRooted p (call_of c) (call_of c) f.seen) (sym led.place) rooted)

-- a flight that learnt nothing
pub same_flight : (f : FlightValue Filled) → IsLawful f.group.sizes f.seen → IsSameFlight f f
same_flight f lawful = record { group = refl; number = refl; place = refl; call = refl; own = refl; adds = record { grows = grows_none f.group f.number f.seen; lawful = lawful } }
