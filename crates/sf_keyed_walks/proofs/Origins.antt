-- What was added since an earlier view, where the steps between changed nothing but the walk.
use Rattle.std.proofs.Common.{◌≡◌, ℕ, ◌+◌, ◌/◌, ◌%◌, None, Bool, true, false, cond, eqb, eq-eqb, ◌++◌, ◌∷◌, [], List, Option, Some, append_assoc, refl, sym, ◌∙◌, ap, subst, arith}
use Rattle.std.proofs.lemmas.Bool.{and_from, not_from_false, or_left, or_right}
use Rattle.std.proofs.lemmas.List.Folds.{find-append}
use Rattle.std.specs.Prelude.{find, option_and_then}
use Rattle.std.specs.Option.{option_or}
use Rattle.sf_history.specs.declared.call.CallId.{CallId}
use Rattle.sf_history.specs.History.{result_in, result_of}
use Rattle.sf_history.specs.History.{settles as settles_of}
use Rattle.sf_history.specs.declared.event.Event.TheVariants.{Enter, Forget}
use Rattle.sf_keyed_tells.specs.Tells.{KeyedEvent, call_of}
use Rattle.sf_keyed_words.specs.declared.rule.View.{View}
use Rattle.sf_keyed_words.specs.Rule.{covers, is_gone, joined_bit, is_forgotten, slot_of, IsPrefix, Unmet}
use Rattle.sf_keyed_words.specs.Plays.{walk_from, walk_on, met_open, met_closed, read_low, read_high, stored_as, settles, Settled, alone_view, with_walk}
use Rattle.sf_keyed_walks.specs.Walk.{GoneLasts, IsGone, MetNone, Stays, HasJoined, HasClosed, HasNone, HasOther, HasRead, HasLeft, HasTaken, HasSealed, HasSettled, HasSwept}

pub stays_top : (v w : View) (p n : ℕ) → w ≡ walk_from v p n → Stays v w
stays_top v w p n is = subst (Stays v) (sym is) (record { sizes = refl; number = refl; own = refl; leads = refl; ticket = refl; last = refl; seen = refl; lost = omega arith; gone = refl })

pub stays_on : (v w : View) (n : ℕ) → w ≡ walk_on v n → Stays v w
stays_on v w n is = subst (Stays v) (sym is) (record { sizes = refl; number = refl; own = refl; leads = refl; ticket = refl; last = refl; seen = refl; lost = omega arith; gone = refl })

pub stays_closed : (v w : View) (n : ℕ) → w ≡ met_closed v n → Stays v w
stays_closed v w n is = subst (Stays v) (sym is) (record { sizes = refl; number = refl; own = refl; leads = refl; ticket = refl; last = refl; seen = refl; lost = omega arith; gone = refl })

pub stays_read : (v w : View) (n low high : ℕ) → w ≡ read_high (read_low (met_open v n) low) high → Stays v w
stays_read v w n low high is = subst (Stays v) (sym is) (record { sizes = refl; number = refl; own = refl; leads = refl; ticket = refl; last = refl; seen = refl; lost = omega arith; gone = refl })

pub stays_both : (u v w : View) → Stays u v → Stays v w → Stays u w
stays_both u v w a b = record {
  sizes = b.sizes ∙ a.sizes;
  number = b.number ∙ a.number;
  own = b.own ∙ a.own;
  leads = b.leads ∙ a.leads;
  ticket = b.ticket ∙ a.ticket;
  last = b.last ∙ a.last;
  seen = b.seen ∙ a.seen;
  lost = let x = a.lost in let y = b.lost in omega (arith, x, y);
  gone = b.gone ∙ a.gone;
}

-- what is gone is so after a walk
pub gone_on : (u v : View) (k : ℕ) → Stays u v → IsGone u k → IsGone v k
gone_on u v k a is = ap (λ z. is_gone z v.gone k) a.sizes ∙ (ap (λ l. is_gone u.sizes l k) a.gone ∙ is)

-- what a walk over a sealed slot shows is added to that
pub gone_more : (v w : View) (n : ℕ) → w.sizes ≡ v.sizes → w.gone ≡ with_walk v n → GoneLasts v w
gone_more v w n sizes is k old = ap (λ z. is_gone z w.gone k) sizes ∙ (ap (λ l. is_gone v.sizes l k) is ∙ either_gone v k (eqb (n / 2 % 2) 1) old)
  where
    either_gone : (v : View) (k : ℕ) (b : Bool) → IsGone v k → is_gone v.sizes (cond b (record { slot = v.slot; names = v.names } ∷ v.gone) v.gone) k ≡ true
    either_gone v k true old = or_right (covers v.sizes k (record { slot = v.slot; names = v.names })) (is_gone v.sizes v.gone k) old
    either_gone v k false old = old

-- the names of the slot that were not met among it
pub gone_now : (v w : View) (n k : ℕ) → w.sizes ≡ v.sizes → w.gone ≡ with_walk v n → n / 2 % 2 ≡ 1 → slot_of v.sizes k ≡ v.slot → Unmet v.names k → IsGone w k
gone_now v w n k sizes is odd slot unmet =
    ap (λ z. is_gone z w.gone k) sizes ∙ (ap (λ l. is_gone v.sizes l k) is ∙ (ap (λ b. is_gone v.sizes (cond b (record { slot = v.slot; names = v.names } ∷ v.gone) v.gone) k) (eq-eqb (n / 2 % 2) 1 odd)
    ∙ or_left (covers v.sizes k (record { slot = v.slot; names = v.names })) (is_gone v.sizes v.gone k) (and_from (eqb (slot_of v.sizes k) v.slot) _ (eq-eqb _ _ slot) (not_from_false _ unmet))))

pub closed_from : (u v w : View) (call name : ℕ) → Stays u v → HasClosed v w call name → HasClosed u w call name
closed_from u v w call name a b = record {
  sizes = b.sizes ∙ a.sizes;
  number = b.number ∙ a.number;
  leads = b.leads ∙ a.leads;
  ticket = b.ticket ∙ a.ticket;
  own_is = b.own_is ∙ a.own;
  adds = record { before = b.adds.before; seen = b.adds.seen ∙ (ap (λ l. (l ++ b.adds.before) ++ Forget v.number name (Some (call_of call)) ∷ []) a.seen ∙ ap (λ n. (u.seen ++ b.adds.before) ++ Forget n name (Some (call_of call)) ∷ []) a.number); legal = b.adds.legal; gone = b.adds.gone };
  gone = b.gone ∙ a.gone;
}

pub joined_from : (u v w : View) (call name : ℕ) → Stays u v → HasJoined v w call name → HasJoined u w call name
joined_from u v w call name a b = record {
  sizes = b.sizes ∙ a.sizes;
  number = b.number ∙ a.number;
  leads = b.leads ∙ a.leads;
  ticket = b.ticket;
  own_is = b.own_is ∙ a.own;
  member = b.member;
  adds = record { before = b.adds.before; seen = b.adds.seen ∙ ap (λ l. (l ++ b.adds.before) ++ Enter b.member.caller name (call_of call) b.member ∷ []) a.seen; legal = b.adds.legal; gone = b.adds.gone };
  gone = b.gone ∙ a.gone;
}

pub none_from : (u v w : View) (name : ℕ) → Stays u v → HasNone v w name → HasNone u w name
none_from u v w name a b = record {
  sizes = b.sizes ∙ a.sizes;
  number = b.number ∙ a.number;
  own_is = b.own_is ∙ a.own;
  leads = b.leads ∙ a.leads;
  ticket = b.ticket ∙ a.ticket;
  grows = record { seen = subst (λ l. IsPrefix l w.seen) a.seen b.grows.seen; legal = b.grows.legal; gone = b.grows.gone };
  none = b.none;
  gone = λ k is. b.gone k (gone_on u v k a is);
}

pub other_from : (u v w : View) (call name : ℕ) (only : Option ℕ) → Stays u v → HasOther v w call name only → HasOther u w call name only
other_from u v w call name only a b = record {
  sizes = b.sizes ∙ a.sizes;
  number = b.number ∙ a.number;
  own_is = b.own_is ∙ a.own;
  leads = b.leads ∙ a.leads;
  ticket = b.ticket ∙ a.ticket;
  grows = record { seen = subst (λ l. IsPrefix l w.seen) a.seen b.grows.seen; legal = b.grows.legal; gone = b.grows.gone };
  other = b.other;
  apart = b.apart;
  gone = b.gone ∙ a.gone;
}

-- a name that the walk did not meet is gone then
pub none_sealed : (u v w : View) (slot name : ℕ) → Stays u v → HasSealed v w slot → slot_of u.sizes name ≡ slot → Unmet v.names name → HasNone u w name × IsGone w name
none_sealed u v w slot name a b is unmet =
    let here : slot_of w.sizes name ≡ slot = ap (λ z. slot_of z name) (b.keeps.sizes ∙ a.sizes) ∙ is in
    (none_from u v w name a (record { sizes = b.keeps.sizes; number = b.keeps.number; own_is = b.keeps.own; leads = b.keeps.leads; ticket = b.keeps.ticket; grows = b.grows; none = b.none name here unmet; gone = b.keeps.gone }), b.all name here unmet)

-- where it met none of the slot's names, all are
pub swept_sealed : (u v w : View) (slot : ℕ) → Stays u v → HasSealed v w slot → MetNone u.sizes slot v → HasSwept u w slot
swept_sealed u v w slot a b none = record {
  keeps = record { sizes = b.keeps.sizes ∙ a.sizes; number = b.keeps.number ∙ a.number; own = b.keeps.own ∙ a.own; leads = b.keeps.leads ∙ a.leads; ticket = b.keeps.ticket ∙ a.ticket; gone = λ k is. b.keeps.gone k (gone_on u v k a is) };
  grows = record { seen = subst (λ l. IsPrefix l w.seen) a.seen b.grows.seen; legal = b.grows.legal; gone = b.grows.gone };
  all = λ k is. b.all k is (none k (ap (λ z. slot_of z k) (sym (b.keeps.sizes ∙ a.sizes)) ∙ is));
}

-- a Settle whose value was stored just before
pub settled_from : (v w : View) (call value n : ℕ) → v.leads ≡ call → settles (stored_as v value) n w
    → (w.ticket ≡ call) × (w.own ≡ v.own) × (w.state ≡ n) × HasSettled v w call (Some value) (joined_bit n) (is_forgotten n)
settled_from v w call value n leads is =
    let view = is.view in
    let s = is.settled in (
      ap (λ (q : View). q.ticket) view ∙ leads,
      ap (λ (q : View). q.own) view,
      ap (λ (q : View). q.state) view,
      subst (λ e. HasSettled v w e (Some value) (joined_bit n) (is_forgotten n)) leads
          (record { sizes = ap (λ (q : View). q.sizes) view; number = ap (λ (q : View). q.number) view; leads = ap (λ (q : View). q.leads) view; joiners = s.joiners; none = s.none; some = s.some; adds = record { before = s.adds.before; seen = s.adds.seen; legal = s.adds.legal; gone = s.adds.gone }; was = s.was; gone = ap (λ (q : View). q.gone) view }),
    )

-- a Settle of a call that nobody has joined
pub alone_from : (v w : View) (call : ℕ) → v.leads ≡ call → v.ticket ≡ 0 → w ≡ alone_view v w.seen → Settled v w None 0 false → (w.own ≡ call + 1048576) × (w.ticket ≡ 0) × HasSettled v w call None 0 false
alone_from v w call leads idle view s = (
  ap (λ (q : View). q.own) view ∙ ap (λ e. e + 1048576) leads,
  ap (λ (q : View). q.ticket) view ∙ idle,
  subst (λ e. HasSettled v w e None 0 false) leads
      (record { sizes = ap (λ (q : View). q.sizes) view; number = ap (λ (q : View). q.number) view; leads = ap (λ (q : View). q.leads) view; joiners = s.joiners; none = s.none; some = s.some; adds = s.adds; was = s.was; gone = ap (λ (q : View). q.gone) view }),
)

-- a result stays
pub result_longer : (h more : List KeyedEvent) (c : CallId) (v : Option ℕ) → result_of h c ≡ Some v → result_of (h ++ more) c ≡ Some v
result_longer h more c v is = ap (option_and_then result_in) (find-append (settles_of c) h more) ∙ at (find (settles_of c) h) (find (settles_of c) more) is
  where
    at : (o p : Option KeyedEvent) → option_and_then result_in o ≡ Some v → option_and_then result_in (option_or o p) ≡ Some v
    at None p is = cc
    at (Some x) p is = is

-- a value that was looked at before its holder left
pub taken_from : (u v w : View) (call value : ℕ) → HasRead u v call value → HasLeft v w → HasTaken u w call value
taken_from u v w call value a b = record {
  sizes = b.sizes ∙ a.sizes;
  number = b.number ∙ a.number;
  own_is = b.own_is ∙ a.own_is;
  leads = b.leads ∙ a.leads;
  ticket = b.ticket;
  grows = record {
    seen = (a.grows.seen.0 ++ b.seen.0, b.seen.1 ∙ (ap (λ l. l ++ b.seen.0) a.grows.seen.1 ∙ append_assoc u.seen a.grows.seen.0 b.seen.0));
    legal = b.legal a.grows.legal;
    gone = b.none a.grows.gone;
  };
  result = ap (λ l. result_of l (call_of call)) b.seen.1 ∙ result_longer v.seen b.seen.0 (call_of call) (Some value) a.result;
  gone = b.gone ∙ a.gone;
}
