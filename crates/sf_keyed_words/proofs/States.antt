-- What a change of a cell's state word leaves of the others.
use Rattle.std.proofs.Common.{◌*◌, ◌≡◌, ◌≢◌, ℕ, ◌+◌, ◌/◌, ◌%◌, ◌<◌, ◌≤◌, Bool, true, false, cond, eqb, eq-eqb, ne_eqb, List, [], ◌∷◌, ◌++◌, Option, Some, set, length, refl, sym, ◌∙◌, ap, subst, arith, append-nil}
use Rattle.std.proofs.lemmas.Bool.{true≢false, and_parts, and_from, eqb-true}
use Rattle.std.proofs.lemmas.List.{length-set, get_or-set_same, get_or-set_other}
use Rattle.std.specs.Prelude.{slice_index}
use mathlib.Core.Option.{some}
use mathlib.Core.Logic.{dite}
use native.Mathlib.Decide.{ℕ_discrete}
use lib.ListN.{get_elem?}
use Rattle.atomic_table.specs.Table.{State}
use Rattle.sf_keyed_tells.specs.Tells.{KeyedEvent}
use Rattle.sf_history.specs.History.{is_settled, joined, result_of}
use Rattle.sf_keyed_laws.specs.Words.{Words}
use Rattle.sf_keyed_tells.specs.Tells.{call_of}
use Rattle.sf_keyed_tells.proofs.Telling.{by_bool}
use Rattle.sf_keyed_words.specs.declared.rule.KeyedSizes.{KeyedSizes}
use Rattle.sf_keyed_words.specs.declared.rule.View.{View}
use Rattle.sf_keyed_words.specs.Rule.{side_at, state_at, name_at, high_at, value_at, word_total, gen_of, tag_of, held_of, is_open_word, is_open_call, ready_word, Shows, IsOwn, IsLast, IsPrefix, held_at, stake, KeyedTable}
use Rattle.sf_keyed_words.proofs.Seats.{name_kept, sum_one, held_here, Away}

-- what an open state word says
pub open_parts : (n e : ℕ) → is_open_word n e ≡ true → (n / 8388608 ≡ e / 1048576) × (n / 2097152 % 4 ≡ 2)
open_parts n e is = let b = and_parts (eqb (n / 8388608) (e / 1048576)) (eqb (n / 2097152 % 4) 2) is in (eqb-true _ _ b.0, eqb-true _ _ b.1)

pub open_from : (n e : ℕ) → n / 8388608 ≡ e / 1048576 → n / 2097152 % 4 ≡ 2 → is_open_word n e ≡ true
open_from n e a b = and_from (eqb (n / 8388608) (e / 1048576)) (eqb (n / 2097152 % 4) 2) (eq-eqb (n / 8388608) (e / 1048576) a) (eq-eqb (n / 2097152 % 4) 2 b)

pub open_call_from : (n e : ℕ) → e ≢ 0 → is_open_word n e ≡ true → is_open_call n e ≡ true
open_call_from n e any is = ap (λ b. cond b false (is_open_word n e)) (ne_eqb e 0 any) ∙ is

pub open_call_parts : (n e : ℕ) → is_open_call n e ≡ true → (e ≢ 0) × (is_open_word n e ≡ true)
open_call_parts n e is = dite (ℕ_discrete e 0)
    (λ none. absurd (true≢false (sym is ∙ ap (λ b. cond b false (is_open_word n e)) (eq-eqb e 0 none))))
    (λ any. (any, sym (ap (λ b. cond b false (is_open_word n e)) (ne_eqb e 0 any)) ∙ is))

pub shut_from : (n e : ℕ) → (n / 8388608 ≡ e / 1048576 → n / 2097152 % 4 ≡ 2 → ⊥) → is_open_word n e ≡ false
shut_from n e never = by_bool (is_open_word n e) (λ is. let b = open_parts n e is in never b.0 b.1)

-- two calls of one cell and generation are one
pub one_call : (e f c g : ℕ) → e % 1048576 ≡ c → f % 1048576 ≡ c → g ≡ e / 1048576 → g ≡ f / 1048576 → e ≡ f
one_call e f c g a b p q = omega arith

-- the words after the state word of the cell c becomes x
pub record StateSet (z : KeyedSizes) (ws ws2 : List ℕ) (c x : ℕ) : Type 0 where
  pub size : length ws2 ≡ length ws
  pub here : slice_index ws2 (z.tops + z.sides + 8 * c) ≡ x
  pub else : (j : ℕ) → j ≢ z.tops + z.sides + 8 * c → slice_index ws2 j ≡ slice_index ws j
  pub at : (e : ℕ) → e % 1048576 ≡ c → slice_index ws2 (state_at z e) ≡ x
  pub apart : (e : ℕ) → e % 1048576 ≢ c → slice_index ws2 (state_at z e) ≡ slice_index ws (state_at z e)
  pub name : (e : ℕ) → slice_index ws2 (name_at z e) ≡ slice_index ws (name_at z e)
  pub high : (e : ℕ) → slice_index ws2 (high_at z e) ≡ slice_index ws (high_at z e)
  pub value : (e : ℕ) → slice_index ws2 (value_at z e) ≡ slice_index ws (value_at z e)

pub state_set : (z : KeyedSizes) (ws : List ℕ) (c x : ℕ) → c < z.cells → length ws ≡ word_total z → StateSet z ws (set ws (z.tops + z.sides + 8 * c) x) c x
state_set z ws c x lt size =
    let i : ℕ = z.tops + z.sides + 8 * c in
    let ws2 : List ℕ = set ws i x in
    let here : slice_index ws2 i ≡ x = get_or-set_same ws i x 0 (omega arith) in
    let else : (j : ℕ) → j ≢ i → slice_index ws2 j ≡ slice_index ws j = λ j d. get_or-set_other ws i j x 0 d in
    record {
      size = length-set ws i x;
      here = here;
      else = else;
      at = λ e is. ap (λ d. slice_index ws2 (z.tops + z.sides + 8 * d)) is ∙ here;
      apart = λ e isnt. else (state_at z e) (λ q. isnt (omega arith));
      name = λ e. else (name_at z e) (λ q. omega arith);
      high = λ e. else (high_at z e) (λ q. omega arith);
      value = λ e. else (value_at z e) (λ q. omega arith);
    }

-- what the table shows after it
pub shows_state : (z : KeyedSizes) (s : Words) (h h2 : List KeyedEvent) (ws ws2 : List ℕ) (c old x : ℕ) (closed2 : ℕ → Bool)
    → c < z.cells → StateSet z ws ws2 c x → Shows z s h ws → slice_index ws (z.tops + z.sides + 8 * c) ≡ old
    → ((e : ℕ) → e % 1048576 ≡ c → s.led e ≡ true → closed2 e ≡ false → (is_open_word x e ≡ true) × (s.closed e ≡ false))
    → ((e : ℕ) → e % 1048576 ≡ c → s.led e ≡ true → closed2 e ≡ true → is_open_word x e ≡ false)
    → ((e : ℕ) → e % 1048576 ≢ c → closed2 e ≡ s.closed e)
    → ((e : ℕ) → closed2 e ≡ true → s.led e ≡ true)
    → gen_of old ≤ gen_of x
    → ((e : ℕ) → e % 1048576 ≡ c → s.led e ≡ true → gen_of x ≡ e / 1048576 → tag_of x % 2 ≡ 1 → result_of h2 (call_of e) ≡ Some (Some (slice_index ws (value_at z e))))
    → ((e : ℕ) (v : Option ℕ) → result_of h (call_of e) ≡ Some v → result_of h2 (call_of e) ≡ Some v)
    → Shows z (record { top = s.top; marked = s.marked; sealed = s.sealed; side = s.side; led = s.led; closed = closed2; key_of = s.key_of }) h2 ws2
shows_state z s h h2 ws ws2 c old x closed2 lt st sh found live shut same only gens values results = record {
  size = st.size ∙ sh.size;
  tops = λ p q. ap (λ n. n / 4) (st.else p (λ e. omega arith)) ∙ sh.tops p q;
  sides = λ w q. ap (λ n. n / 4) (st.else (side_at z w) (λ e. omega arith)) ∙ sh.sides w q;
  within = sh.within;
  live = λ e led opened. dite (ℕ_discrete (e % 1048576) c)
      (λ here. let l = live e here led opened in (ap (λ n. is_open_word n e) (st.at e here) ∙ l.0, name_kept z ws ws2 e (s.key_of e) (st.name e) (st.high e) (sh.live e led l.1).1))
      (λ apart. let l = sh.live e led (sym (same e apart) ∙ opened) in (ap (λ n. is_open_word n e) (st.apart e apart) ∙ l.0, name_kept z ws ws2 e (s.key_of e) (st.name e) (st.high e) l.1));
  shut = λ e led closed. dite (ℕ_discrete (e % 1048576) c)
      (λ here. ap (λ n. is_open_word n e) (st.at e here) ∙ shut e here led closed)
      (λ apart. ap (λ n. is_open_word n e) (st.apart e apart) ∙ sh.shut e led (sym (same e apart) ∙ closed));
  only = only;
  coming = λ e inside later. dite (ℕ_discrete (e % 1048576) c)
      (λ here.
      let new : slice_index ws2 (state_at z e) / 8388608 ≡ x / 8388608 = ap gen_of (st.at e here) in
      let was : slice_index ws (state_at z e) / 8388608 ≡ old / 8388608 = ap (λ d. slice_index ws (z.tops + z.sides + 8 * d) / 8388608) here ∙ ap gen_of found in
      sh.coming e inside (omega (arith, new, was, gens, later)))
      (λ apart. sh.coming e inside (subst (λ n. n / 8388608 < e / 1048576) (st.apart e apart) later));
  seals = λ p q yes. ap (λ n. n / 2 % 2) (st.else p (λ e. omega arith)) ∙ sh.seals p q yes;
  bits = λ p q yes. sh.bits p q (sym (ap (λ n. n / 2 % 2) (st.else p (λ e. omega arith))) ∙ yes);
  marks = λ p q even. sh.marks p q (sym (ap (λ n. n % 2) (st.else p (λ e. omega arith))) ∙ even);
  values = λ e led gen odd. dite (ℕ_discrete (e % 1048576) c)
      (λ here. values e here led (sym (ap gen_of (st.at e here)) ∙ gen) (sym (ap (λ n. n / 2097152 % 4 % 2) (st.at e here)) ∙ odd) ∙ ap (λ n. Some (Some n)) (sym (st.value e)))
      (λ apart. results e _ (sh.values e led (sym (ap gen_of (st.apart e apart)) ∙ gen) (sym (ap (λ n. n / 2097152 % 4 % 2) (st.apart e apart)) ∙ odd)) ∙ ap (λ n. Some (Some n)) (sym (st.value e)));
}

-- no seat holds a cell with no holder
pub none_held : (z : KeyedSizes) (t : State ℕ View) (p : KeyedTable z t) (c k e : ℕ) (u : View) → c < z.cells → held_of (slice_index t.words (z.tops + z.sides + 8 * c)) ≡ 0 → get_elem? t.views k ≡ some u
    → held_at c e ≤ stake c u → e ≢ 0 → e % 1048576 ≡ c → ⊥
none_held z t p c k e u lt none at le any here =
    let a = held_here c e any here in
    let b = sum_one (stake c) t.views k u at in
    let d = p.counts c lt in
    omega (arith, a, b, d, none, le)

-- a ready word
pub ready_gen : (e : ℕ) → ready_word e / 8388608 ≡ e / 1048576
ready_gen e = omega arith

pub ready_tag : (e : ℕ) → ready_word e / 2097152 % 4 ≡ 2
ready_tag e = omega arith

pub ready_bit : (e : ℕ) → ready_word e / 1048576 % 2 ≡ 0
ready_bit e = omega arith

pub ready_held : (e : ℕ) → ready_word e % 1048576 ≡ 1
ready_held e = omega arith

-- where a call that was led has its cell's state, no seat has the cell for its next call
pub own_never : (z : KeyedSizes) (s : Words) (ws : List ℕ) (holder : ℕ → ℕ) (k o : ℕ) (named : Bool) (key old e c : ℕ) → slice_index ws (z.tops + z.sides + 8 * c) ≡ old → gen_of old ≡ e / 1048576 → e % 1048576 ≡ c → s.led e ≡ true
    → o % 1048576 ≡ c → IsOwn z s ws holder k o named key → ⊥
own_never z s ws holder k o named key old e c found gen cell led here own =
    let state : old ≡ ready_word o = sym found ∙ (ap (λ d. slice_index ws (z.tops + z.sides + 8 * d)) (sym here) ∙ own.state) in
    let next : gen_of old ≡ o / 1048576 = ap gen_of state ∙ ready_gen o in
    true≢false (sym led ∙ (ap s.led (one_call e o c (gen_of old) cell here gen next) ∙ own.new))

-- a state word that is not settled is no last holder's
pub last_never : (z : KeyedSizes) (s : Words) (ws : List ℕ) (holder : ℕ → ℕ) (k o old c : ℕ) → slice_index ws (z.tops + z.sides + 8 * c) ≡ old → (old / 2097152 % 4 % 2 ≡ 1 → old % 1048576 ≡ 0 → ⊥) → o % 1048576 ≡ c → IsLast z s ws holder k o → ⊥
last_never z s ws holder k o old c found never here last =
    let state : slice_index ws (state_at z o) ≡ old = ap (λ d. slice_index ws (z.tops + z.sides + 8 * d)) here ∙ found in
    never (sym (ap (λ n. n / 2097152 % 4 % 2) state) ∙ last.settled) (sym (ap (λ n. n % 1048576) state) ∙ last.empty)

-- holders counted
pub moved : (z : KeyedSizes) (ws ws2 : List ℕ) (c old x : ℕ) (v w : View) → StateSet z ws ws2 c x → slice_index ws (z.tops + z.sides + 8 * c) ≡ old → held_of x + stake c v ≡ held_of old + stake c w
    → ((d : ℕ) → d ≢ c → stake d v ≡ stake d w) → (d : ℕ) → d < z.cells → held_of (slice_index ws2 (z.tops + z.sides + 8 * d)) + stake d v ≡ held_of (slice_index ws (z.tops + z.sides + 8 * d)) + stake d w
moved z ws ws2 c old x v w st found here apart d lt = dite (ℕ_discrete d c)
    (λ is. subst (λ k. held_of (slice_index ws2 (z.tops + z.sides + 8 * k)) + stake k v ≡ held_of (slice_index ws (z.tops + z.sides + 8 * k)) + stake k w) (sym is)
    (ap (λ n. held_of n + stake c v) st.here ∙ (here ∙ ap (λ n. held_of n + stake c w) (sym found))))
    (λ isnt.
    let same : slice_index ws2 (z.tops + z.sides + 8 * d) ≡ slice_index ws (z.tops + z.sides + 8 * d) = st.else (z.tops + z.sides + 8 * d) (λ q. isnt (omega arith)) in
    ap (λ n. held_of n + stake d v) same ∙ ap (λ n. held_of (slice_index ws (z.tops + z.sides + 8 * d)) + n) (apart d isnt))

pub away_state : (z : KeyedSizes) (s s2 : Words) (h h2 : List KeyedEvent) (ws ws2 : List ℕ) (holder holder2 : ℕ → ℕ) (c x : ℕ) → StateSet z ws ws2 c x → ((i : ℕ) → i ≢ c → holder2 i ≡ holder i) → ((e : ℕ) → s2.led e ≡ s.led e)
    → ((e : ℕ) → e % 1048576 ≢ c → is_settled h (call_of e) ≡ false → is_settled h2 (call_of e) ≡ false) → ((e : ℕ) → e % 1048576 ≢ c → joined h2 (call_of e) ≡ joined h (call_of e)) → Away z s s2 h h2 ws ws2 holder holder2 c
away_state z s s2 h h2 ws ws2 holder holder2 c x st holders led settled entered = record {
  state = λ e _ apart. st.apart e apart;
  name = λ e _ _. st.name e;
  high = λ e _ _. st.high e;
  value = λ e _ _. st.value e;
  holder_is = holders;
  led = λ e _. led e;
  settled = settled;
  entered = entered;
}

pub whole : (h : List KeyedEvent) → IsPrefix h h
whole h = ([], sym (append-nil h))

pub one_more : (h : List KeyedEvent) (x : KeyedEvent) → IsPrefix h (h ++ x ∷ [])
one_more h x = (x ∷ [], refl)

pub tag_even : (n : ℕ) → n / 2097152 % 4 ≡ 2 → n / 2097152 % 4 % 2 ≡ 0
tag_even n is = ap (λ t. t % 2) is
