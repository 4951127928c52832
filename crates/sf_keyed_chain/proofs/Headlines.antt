-- The headline over a chain follows from that of its tables.
use Rattle.std.proofs.Common.{◌≡◌, ℕ, ◌+◌, ◌≤◌, ◌∷◌, ◌++◌, List, Some, sym, ◌∙◌, ap, subst, ⊎_elim, append_assoc, arith}
use Rattle.std.specs.List.{slice_get}
use Rattle.sf_history.specs.declared.call.CallId.{CallId}
use Rattle.sf_history.specs.declared.event.Event.TheVariants.{Forget}
use Rattle.sf_keyed_words.specs.Rule.{IsPrefix, slot_of}
use Rattle.sf_keyed_ages.specs.Rule.{Has}
use Rattle.sf_keyed_ages.specs.Stamps.{AgesState, IsEnded, IsEndedAt, IsStill}
use Rattle.sf_keyed_tells.specs.Tells.{KeyedEvent}
use Rattle.sf_keyed.specs.Known.{GroupId}
use Rattle.sf_keyed.specs.Headline.{WasClosed}
use Rattle.sf_keyed.proofs.Headlines as group
use Rattle.sf_keyed_chain.specs.declared.chain.Stamp.{Stamp}
use Rattle.sf_keyed_chain.specs.Chains.{Sight, AllGoOn, AllHeard, IsEndedIn}
use Rattle.sf_keyed_chain.specs.Notes.{told_of}
use Rattle.sf_keyed_chain.specs.Headline.{EntersTheOpenCall, LeadsTheNewCall, NeverAForgottenCall, NeverAForgottenCallOfAnother, NoStampFromBefore, NoStampFromBeforeAnother}
use Rattle.sf_keyed_chain.proofs.Sights.{some_is}

pub leads_the_new_call : LeadsTheNewCall
leads_the_new_call cells k f p old new l =
    let law = group.leads_the_new_call l.led.before.front l.led.after.front k f.call.call l.led.is.0 in
    (law.0, law.1, law.2, l.gone)

pub enters_the_open_call : EntersTheOpenCall
enters_the_open_call cells k t old new j = group.enters_the_open_call j.joined.before.front j.joined.after.front k t.call.call j.joined.is.0

-- what was seen closed is seen closed still
closed_longer : (k : ℕ) (c : CallId) (xs ys : List KeyedEvent) → IsPrefix xs ys → WasClosed xs k c → WasClosed ys k c
closed_longer k c xs ys more w = record {
  first = w.first;
  later = w.later ++ more.0;
  by = w.by;
  stands = more.1 ∙ (ap (λ l. l ++ more.0) w.stands ∙ append_assoc w.first (Forget w.by k (Some c) ∷ w.later) more.0);
}

-- also before the call on the table
closed_on : (k at : ℕ) (c : CallId) (old between : List Sight) (s before : Sight) → slice_get old at ≡ Some s → AllHeard old between → slice_get between at ≡ Some before → WasClosed s.front.seen k c → WasClosed before.front.seen k c
closed_on k at c old between s before is heard here w =
    let a = heard at s is in
    let same : a.0 ≡ before = some_is a.0 before (sym a.1 ∙ here) in
    subst (λ (u : Sight). WasClosed u.front.seen k c) same (closed_longer k c s.front.seen a.0.front.seen a.2.later.on.seen w)

pub never_a_forgotten_call : NeverAForgottenCall
never_a_forgotten_call cells k at c old new s is w = (
  λ f p table l.
      let w2 = closed_on k at c old l.led.between s l.led.before is l.led.heard (ap (slice_get l.led.between) (sym table) ∙ l.led.at_before) w in
      (group.never_a_forgotten_call l.led.before.front l.led.after.front k f.call.call c w2).0 l.led.is.0,
  λ t table j.
      let w2 = closed_on k at c old j.joined.between s j.joined.before is j.joined.heard (ap (slice_get j.joined.between) (sym table) ∙ j.joined.at_before) w in
      (group.never_a_forgotten_call j.joined.before.front j.joined.after.front k t.call.call c w2).1 j.joined.is.0,
)

pub never_a_forgotten_call_of_another : NeverAForgottenCallOfAnother
never_a_forgotten_call_of_another cells k at c note told heard old new is w learned on =
    let a = learned at told is in
    let b = on at a.0 a.1 in
    never_a_forgotten_call cells k at c old new b.0 b.1 (closed_longer k c a.0.front.seen b.0.front.seen b.2.on.seen (closed_longer k c told.seen.seen a.0.front.seen a.2.seen w))

-- a Forget has ended the stamp, as far as somebody knows who knows what its caller did
ended_for : (k : ℕ) (stamp : Stamp) (old new : List Sight) (s : Sight) (now : AgesState) → slice_get old stamp.table ≡ Some s → stamp.slot ≡ slot_of s.front.group.sizes k → Has s.known.facts stamp.slot stamp.age
    → AllGoOn old new → (ended : IsEndedIn k stamp.table old new) → ((x : ℕ) → Has ended.sight.known.facts stamp.slot x → Has now.facts stamp.slot x) → IsStill now stamp.slot stamp.age → ⊥
ended_for k stamp old new s now is slot has one ended knows still =
    let a = one stamp.table s is in
    let same : a.0 ≡ ended.sight = some_is a.0 ended.sight (sym a.1 ∙ ended.here) in
    let there : slot_of ended.sight.front.group.sizes k ≡ stamp.slot = ap (λ (u : Sight). slot_of u.front.group.sizes k) (sym same) ∙ (ap (λ (g : GroupId). slot_of g.sizes k) a.2.on.group ∙ sym slot) in
    let known : Has ended.before.facts stamp.slot stamp.age = (ended.was s is).facts stamp.slot stamp.age has in
    let seen : (x : ℕ) → Has ended.after.facts stamp.slot x → x ≤ stamp.age = λ x h. still.newest x (knows x (ended.on.facts stamp.slot x h)) in
    ⊎_elim
    (λ (e : IsEnded ended.before ended.after (slot_of ended.sight.front.group.sizes k)).
    let f : IsEnded ended.before ended.after stamp.slot = subst (IsEnded ended.before ended.after) there e in
    let older = f.drawn.newest stamp.age (f.drawn.on.facts stamp.slot stamp.age known) in
    let newer = seen (f.age + 1) f.has in
    omega (arith, older, newer))
    (λ (e : IsEndedAt ended.after (slot_of ended.sight.front.group.sizes k) 4611686018427387903).
    let f : IsEndedAt ended.after stamp.slot 4611686018427387903 = subst (λ n. IsEndedAt ended.after n 4611686018427387903) there e in
    let newer = seen f.age f.has in
    let spent = f.older in
    let unspent = still.unspent in
    omega (arith, newer, spent, unspent))
    ended.ends

pub no_stamp_from_before : NoStampFromBefore
no_stamp_from_before k stamp old new later s is slot has one ended two current =
    let b = two stamp.table ended.sight ended.here in
    let now : b.0 ≡ current.sight = some_is b.0 current.sight (sym b.1 ∙ current.here) in
    ended_for k stamp old new s current.sight.known is slot has one ended
    (λ x h. subst (λ (u : Sight). Has u.known.facts stamp.slot x) now (b.2.ages.facts stamp.slot x h))
    current.still

pub no_stamp_from_before_another : NoStampFromBeforeAnother
no_stamp_from_before_another k stamp old new later note heard now s is slot has one ended two tells learned three current =
    let b = two stamp.table ended.sight ended.here in
    let c = learned stamp.table (told_of b.0) (tells.tells stamp.table b.0 b.1) in
    let d = three stamp.table c.0 c.1 in
    let last : d.0 ≡ current.sight = some_is d.0 current.sight (sym d.1 ∙ current.here) in
    ended_for k stamp old new s current.sight.known is slot has one ended
    (λ x h. subst (λ (u : Sight). Has u.known.facts stamp.slot x) last (d.2.ages.facts stamp.slot x (c.2.known.facts stamp.slot x (b.2.ages.facts stamp.slot x h))))
    current.still
