-- What a call on one table leaves of what was seen of it.
use Rattle.std.proofs.Common.{◌≡◌, ℕ, Bool, List, [], ◌∷◌, ◌++◌, refl, ◌∙◌, ap, append_assoc, ◌<◌, Option, Some, None, true, false, sym, subst}
use Rattle.std.specs.Bool.{OnTrue}
use Rattle.sf_keyed_tells.specs.Tells.{KeyedEvent}
use Rattle.std.specs.Prelude.{nat_eq, IsSomeAnd}
use Rattle.sf_history.specs.History.{open_call}
use Rattle.sf_history.specs.Legal.{IsLegal}
use Rattle.sf_keyed_words.specs.Rule.{is_gone, slot_of}
use Rattle.sf_keyed.specs.Known.{FlightState, FrontState, GroupId, IsGone}
use Rattle.sf_keyed.specs.Calls.{AddsTo, Sees, Stays, IsAsked, IsEnded, IsForgotten, IsPassed, IsLeft, IsLooked, IsSettled}
use Rattle.sf_keyed.specs.declared.group.Asked.{Asked}
use Rattle.sf_keyed.specs.declared.group.Asked.TheVariants as asked
use Rattle.sf_keyed.specs.declared.group.Ended.{Ended}
use Rattle.sf_keyed.specs.declared.group.Ended.TheVariants as ended
use Rattle.sf_keyed.specs.declared.group.Forgotten.{Forgotten}
use Rattle.sf_keyed.specs.declared.group.Forgotten.TheVariants as forgotten
use Rattle.sf_keyed.specs.declared.group.Passed.{Passed}
use Rattle.sf_keyed.specs.declared.group.Passed.TheVariants as passed
use Rattle.sf_keyed.specs.declared.group.Settled.{Settled}
use Rattle.sf_keyed.specs.declared.group.Settled.TheVariants as settled
use Rattle.sf_keyed_chain.specs.Chains.{GoesOn, IsLater, LevelId}
use Rattle.sf_keyed_ages.specs.Stamps.{AgesState, KnowsOn}

pub knows_same : (k : AgesState) → KnowsOn k k
knows_same k = record { of = refl; facts = λ slot age has. has }

pub knows_both : (a b c : AgesState) → KnowsOn a b → KnowsOn b c → KnowsOn a c
knows_both a b c one two = record { of = two.of ∙ one.of; facts = λ slot age has. two.facts slot age (one.facts slot age has) }

gone_same : (b a : FrontState) → a.group ≡ b.group → a.seen ≡ b.seen → a.gone ≡ b.gone → (k : ℕ) → IsGone b k → IsGone a k
gone_same b a group seen gone k is = record {
  known = ap (λ g. is_gone g.sizes a.gone k) group ∙ (ap (λ l. is_gone b.group.sizes l k) gone ∙ is.known);
  none = ap (λ h. open_call nat_eq h k) seen ∙ is.none;
  legal = subst (IsLegal nat_eq) (sym seen) is.legal;
}

append_none : (l : List KeyedEvent) → l ≡ l ++ []
append_none [] = refl
append_none (x ∷ l) = ap (λ m. x ∷ m) (append_none l)

pub on_same : (b : FrontState) → GoesOn b b
on_same b = record { group = refl; number = refl; seen = ([], append_none b.seen); gone = λ k is. is }

pub on_both : (a b c : FrontState) → GoesOn a b → GoesOn b c → GoesOn a c
on_both a b c one two = record {
  group = two.group ∙ one.group;
  number = two.number ∙ one.number;
  seen = (one.seen.0 ++ two.seen.0, two.seen.1 ∙ (ap (λ l. l ++ two.seen.0) one.seen.1 ∙ append_assoc a.seen one.seen.0 two.seen.0));
  gone = λ k is. two.gone k (one.gone k is);
}

on_adds : (b a : FrontState) (x : KeyedEvent) → AddsTo b a x → GoesOn b a
on_adds b a x s = record { group = s.group; number = s.number; seen = (s.others ++ x ∷ [], s.seen ∙ append_assoc b.seen s.others (x ∷ [])); gone = s.gone }

pub on_sees : (b a : FrontState) → Sees b a → GoesOn b a
on_sees b a s = record { group = s.group; number = s.number; seen = s.seen; gone = s.gone }

pub on_stays : (b a : FrontState) → Stays b a → GoesOn b a
on_stays b a s = record { group = s.group; number = s.number; seen = ([], s.seen ∙ append_none b.seen); gone = gone_same b a s.group s.seen s.gone }

pub on_passed : (b a : FrontState) (k tries : ℕ) (r : Passed) → IsPassed b a k tries r → GoesOn b a
on_passed b a k tries (passed.Joined ticket) is = on_adds b a _ is.0.adds
on_passed b a k tries passed.Gone is = on_sees b a is.0
on_passed b a k tries passed.Busy is = on_stays b a is.0
on_passed b a k tries passed.Crowded is = on_stays b a is.0

pub on_asked : (b a : FrontState) (k tries : ℕ) (r : Asked) → IsAsked b a k tries r → GoesOn b a
on_asked b a k tries (asked.Led flight) is = on_adds b a _ is.0
on_asked b a k tries (asked.Joined ticket) is = on_adds b a _ is.0.adds
on_asked b a k tries (asked.Refused why) is = on_stays b a is.0

pub on_forgotten : (b a : FrontState) (k tries : ℕ) (r : Forgotten) → IsForgotten b a k tries r → GoesOn b a
on_forgotten b a k tries (forgotten.Closed call) is = on_adds b a _ is.0
on_forgotten b a k tries forgotten.Nothing is = on_sees b a is.0
on_forgotten b a k tries forgotten.Gone is = on_sees b a is.0
on_forgotten b a k tries forgotten.Busy is = on_stays b a is.0

pub on_ended : (b a : FrontState) (k call tries : ℕ) (r : Ended) → IsEnded b a k call tries r → GoesOn b a
on_ended b a k call tries ended.Closed is = on_adds b a _ is.0
on_ended b a k call tries ended.Gone is = on_sees b a is.0
on_ended b a k call tries ended.Busy is = on_stays b a is.0

pub on_settled : (b a : FrontState) (f : FlightState) (value : ℕ) (r : Settled) → IsSettled b a f value r → GoesOn b a
on_settled b a f value settled.Alone is = on_adds b a _ is.0.adds
on_settled b a f value (settled.Told ticket on) is = on_adds b a _ is.0.adds

pub on_claimed : (b a : FrontState) → (a.group ≡ b.group) × (a.number ≡ b.number) × (a.seen ≡ b.seen) × (a.gone ≡ b.gone) → GoesOn b a
on_claimed b a s = record { group = s.0; number = s.1; seen = ([], s.2 ∙ append_none b.seen); gone = gone_same b a s.0 s.2 s.3 }

-- the sight lies in the cell where it lay
pub later_at : (c d swept : ℕ) (done : Bool) (k : AgesState) (b a : FrontState) → d ≡ c → GoesOn b a → IsLater (record { cell = c; front = b; known = k; swept = swept; done = done }) (record { cell = d; front = a; known = k; swept = swept; done = done })
later_at c d swept done k b a same on = record { cell = same; on = on; ages = knows_same k }

-- what a part's sight says of its table stays right, where what was seen goes on
some_and : {X : Type 0} (P Q : X → Type 0) (o : Option X) → ((x : X) → P x → Q x) → IsSomeAnd o P → IsSomeAnd o Q
some_and P Q None f p = p
some_and P Q (Some x) f p = f x p

pub part_kept : (o : Option LevelId) (b a : FrontState) (kb ka : AgesState) (swept : ℕ) (done : Bool) → GoesOn b a → KnowsOn kb ka → IsSomeAnd o (λ l. (l.group ≡ b.group) × (l.ages.table ≡ kb.of))
    → ((k : ℕ) → slot_of b.group.sizes k < swept → IsGone b k) → (done ≡ true → (k : ℕ) → IsGone b k)
    → IsSomeAnd o (λ l. (l.group ≡ a.group) × (l.ages.table ≡ ka.of)) × ((k : ℕ) → slot_of a.group.sizes k < swept → IsGone a k) × (done ≡ true → (k : ℕ) → IsGone a k)
part_kept o b a kb ka swept done on ages of gone all = (
  some_and (λ l. (l.group ≡ b.group) × (l.ages.table ≡ kb.of)) (λ l. (l.group ≡ a.group) × (l.ages.table ≡ ka.of)) o (λ l p. (p.0 ∙ sym on.group, p.1 ∙ sym ages.of)) of,
  λ k below. on.gone k (gone k (subst (λ (g : GroupId). slot_of g.sizes k < swept) on.group below)),
  λ is k. on.gone k (all is k),
)

pub on_looked : (b a : FrontState) (t : FlightState) (r : Option ℕ) → IsLooked b a t r → GoesOn b a
on_looked b a t (Some value) is = on_sees b a is.sees
on_looked b a t None is = on_sees b a is.0

pub on_left : (b a : FrontState) (t : FlightState) (r : Option ℕ) → IsLeft b a t r → GoesOn b a
on_left b a t (Some value) is = on_sees b a is.0.sees
on_left b a t None is = on_sees b a is.0

pub on_true : (b : Bool) (P : Type 0) → (b ≡ true → P) → OnTrue b P
on_true true P is = is refl
on_true false P is = tt
