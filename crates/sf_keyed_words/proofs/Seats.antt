-- Views of seats after a step, and the holders that they stand for.
use Rattle.std.proofs.Common.{◌*◌, ◌≡◌, ◌≢◌, ℕ, zero, suc, ◌+◌, ◌/◌, ◌%◌, ◌<◌, ◌≤◌, Bool, true, false, cond, eqb, eq-eqb, ne_eqb, List, [], ◌∷◌, ◌++◌, set, length, refl, sym, ◌∙◌, ap, subst, ⊎_elim, arith, append_assoc}
use Rattle.std.proofs.lemmas.List.Sums.{sum_by-cons}
use Rattle.std.specs.Prelude.{slice_index, sum_by}
use mathlib.Core.Option.{some, some-injective, some-ne-none}
use mathlib.Core.Logic.{dite}
use native.Mathlib.Decide.{ℕ_discrete}
use lib.ListN.{get_elem?}
use Rattle.std.proofs.lemmas.List.{set-get_or}
use Rattle.atomic_table.specs.Table.{State, Me, stepped, keeps}
use Rattle.atomic_table.proofs.Lists.{at_set}
use Rattle.sf_keyed_tells.specs.Tells.{KeyedEvent}
use Rattle.sf_history.specs.History.{IsNew, is_settled, joined}
use Rattle.sf_keyed_laws.specs.Words.{Words, Keeps}
use Rattle.sf_keyed_tells.specs.Tells.{call_of, Tells}
use Rattle.sf_keyed_words.specs.declared.rule.KeyedSizes.{KeyedSizes}
use Rattle.sf_keyed_words.specs.declared.rule.View.{View}
use Rattle.sf_keyed_words.proofs.Results.{says_on}
use Rattle.sf_keyed_words.specs.Plays.{loses}
use Rattle.sf_keyed_words.specs.Rule.{state_at, name_at, high_at, value_at, NameIs, layout_of, held_of, Shows, IsOwn, IsLeads, IsTicket, IsLast, IsLook, IsWalk, IsView, IsPrefix, held_at, stake, KeyedTable, Holds}

-- the seats after one has a new view
pub seats_set : (Q : ℕ → View → Type 0) (views : List View) (id : ℕ) (w : View) → ((k : ℕ) (u : View) → k ≢ id → get_elem? views k ≡ some u → Q k u) → Q id w
    → (k : ℕ) (u : View) → get_elem? (set views id w) k ≡ some u → Q k u
seats_set Q views id w others mine k u at = ⊎_elim
    (λ (a : (k ≡ id) × (w ≡ u)). subst (Q k) a.1 (subst (λ n. Q n w) (sym a.0) mine))
    (λ (a : (k ≢ id) × (get_elem? views k ≡ some u)). others k u a.0 a.1)
    (at_set views id k w u at)

cond_none : (b : Bool) (n : ℕ) → n ≡ 0 → cond b 0 n ≡ 0
cond_none true n is = refl
cond_none false n is = is

pub held_here : (i e : ℕ) → e ≢ 0 → e % 1048576 ≡ i → held_at i e ≡ 1
held_here i e any here = ap (λ b. cond b 0 (cond (eqb (e % 1048576) i) 1 0)) (ne_eqb e 0 any) ∙ ap (λ b. cond {A = ℕ} b 1 0) (eq-eqb (e % 1048576) i here)

pub held_else : (i e : ℕ) → e % 1048576 ≢ i → held_at i e ≡ 0
held_else i e apart = cond_none (eqb e 0) (cond (eqb (e % 1048576) i) 1 0) (ap (λ b. cond {A = ℕ} b 1 0) (ne_eqb (e % 1048576) i apart))

-- sums over seats
pub sum_set : (f : View → ℕ) (l : List View) (i : ℕ) (v w : View) → get_elem? l i ≡ some v → sum_by f (set l i w) + f v ≡ sum_by f l + f w
sum_set f [] i v w e = absurd (some-ne-none v (sym e))
sum_set f (x ∷ xs) zero v w e =
    let a = sum_by-cons f w xs in
    let b = sum_by-cons f x xs in
    let k : f x ≡ f v = ap f (some-injective x v e) in
    omega (arith, a, b, k)
sum_set f (x ∷ xs) (suc i) v w e =
    let a = sum_by-cons f x (set xs i w) in
    let b = sum_by-cons f x xs in
    let k = sum_set f xs i v w e in
    omega (arith, a, b, k)

pub sum_one : (f : View → ℕ) (l : List View) (i : ℕ) (v : View) → get_elem? l i ≡ some v → f v ≤ sum_by f l
sum_one f [] i v e = absurd (some-ne-none v (sym e))
sum_one f (x ∷ xs) zero v e = let b = sum_by-cons f x xs in let k : f x ≡ f v = ap f (some-injective x v e) in omega (arith, b, k)
sum_one f (x ∷ xs) (suc i) v e = let b = sum_by-cons f x xs in let k = sum_one f xs i v e in omega (arith, b, k)

pub sum_two : (f : View → ℕ) (l : List View) (i j : ℕ) (v u : View) → i ≢ j → get_elem? l i ≡ some v → get_elem? l j ≡ some u → f v + f u ≤ sum_by f l
sum_two f [] i j v u apart e g = absurd (some-ne-none v (sym e))
sum_two f (x ∷ xs) zero zero v u apart e g = absurd (apart refl)
sum_two f (x ∷ xs) zero (suc j) v u apart e g = let b = sum_by-cons f x xs in let k : f x ≡ f v = ap f (some-injective x v e) in let o = sum_one f xs j u g in omega (arith, b, k, o)
sum_two f (x ∷ xs) (suc i) zero v u apart e g = let b = sum_by-cons f x xs in let k : f x ≡ f u = ap f (some-injective x u g) in let o = sum_one f xs i v e in omega (arith, b, k, o)
sum_two f (x ∷ xs) (suc i) (suc j) v u apart e g = let b = sum_by-cons f x xs in let k = sum_two f xs i j v u (λ is. apart (ap suc is)) e g in omega (arith, b, k)

balance : (a b s t p q : ℕ) → a + p ≡ b + q → b ≡ s → t + p ≡ s + q → a ≡ t
balance a b s t p q x y e = omega arith

-- a seat that has lost an exchange knows what it knew
pub losing : (z : KeyedSizes) (s : Words) (h : List KeyedEvent) (ws : List ℕ) (holder : ℕ → ℕ) (k : ℕ) (v : View) → IsView z s h ws holder k v → IsView z s h ws holder k (loses v)
losing z s h ws holder k v m = record { seen = m.seen; heard = m.heard; look = m.look; walk = m.walk; own = m.own; begun = m.begun; leads = m.leads; ticket = m.ticket; last = m.last }

-- the table after a step that changes no word
pub still : (z : KeyedSizes) (t : State ℕ View) (p : KeyedTable z t) (id i : ℕ) (me : Me ℕ View) (w : View) → get_elem? t.views id ≡ some me.0 → ((c : ℕ) → stake c w ≡ stake c me.0)
    → IsView z p.words p.history t.words p.holder id w → Holds z (stepped t i (slice_index t.words i) id me.1 w keeps)
still z t p id i me w is same view =
    let q : KeyedTable z (record { words = t.words; homes = t.homes; views = set t.views id w }) = record {
      words = p.words;
      history = p.history;
      holder = p.holder;
      keeps = p.keeps;
      tells = p.tells;
      members = p.members;
      shows = p.shows;
      counts = λ c lt.
          let s = same c in
          balance _ _ _ _ (stake c me.0) (stake c w) (ap (λ n. held_of (slice_index t.words (z.tops + z.sides + 8 * c)) + n) (sym s)) (p.counts c lt) (sum_set (stake c) t.views id me.0 w is);
      seats = seats_set (IsView z p.words p.history t.words p.holder) t.views id w (λ k u apart at. p.seats k u at) view;
    } in
    subst (λ ws. KeyedTable z (record { words = ws; homes = t.homes; views = set t.views id w })) (sym (set-get_or t.words i 0)) q

-- the table after a step that changes the word i to x
pub made : (z : KeyedSizes) (t : State ℕ View) (p : KeyedTable z t) (id i x : ℕ) (me : Me ℕ View) (w : View) (s2 : Words) (h2 : List KeyedEvent) (holder2 : ℕ → ℕ)
    → Keeps (layout_of z) s2 → Tells s2 h2 → ((c g : ℕ) → 1048576 ≤ c → length h2 ≤ g → IsNew h2 (record { caller = c; generation = g })) → Shows z s2 h2 (set t.words i x)
    → get_elem? t.views id ≡ some me.0
    → ((c : ℕ) → c < z.cells → held_of (slice_index (set t.words i x) (z.tops + z.sides + 8 * c)) + stake c me.0 ≡ held_of (slice_index t.words (z.tops + z.sides + 8 * c)) + stake c w)
    → ((k : ℕ) (u : View) → k ≢ id → get_elem? t.views k ≡ some u → IsView z s2 h2 (set t.words i x) holder2 k u)
    → IsView z s2 h2 (set t.words i x) holder2 id w
    → Holds z (stepped t i x id me.1 w keeps)
made z t p id i x me w s2 h2 holder2 keep tells members shows is moved others mine = record {
  words = s2;
  history = h2;
  holder = holder2;
  keeps = keep;
  tells = tells;
  members = members;
  shows = shows;
  counts = λ c lt. balance _ _ _ _ (stake c me.0) (stake c w) (moved c lt) (p.counts c lt) (sum_set (stake c) t.views id me.0 w is);
  seats = seats_set (IsView z s2 h2 (set t.words i x) holder2) t.views id w others mine;
}

-- a history that goes on
pub longer : (a b c : List KeyedEvent) → IsPrefix a b → IsPrefix b c → IsPrefix a c
longer a b c x y = (x.0 ++ y.0, y.1 ∙ (ap (λ l. l ++ y.0) x.1 ∙ append_assoc a x.0 y.0))

-- what a step leaves alone away from the cell c
pub record Away (z : KeyedSizes) (s s2 : Words) (h h2 : List KeyedEvent) (ws ws2 : List ℕ) (holder holder2 : ℕ → ℕ) (c : ℕ) : Type 0 where
  pub state : (e : ℕ) → e % 1048576 < z.cells → e % 1048576 ≢ c → slice_index ws2 (state_at z e) ≡ slice_index ws (state_at z e)
  pub name : (e : ℕ) → e % 1048576 < z.cells → e % 1048576 ≢ c → slice_index ws2 (name_at z e) ≡ slice_index ws (name_at z e)
  pub high : (e : ℕ) → e % 1048576 < z.cells → e % 1048576 ≢ c → slice_index ws2 (high_at z e) ≡ slice_index ws (high_at z e)
  pub value : (e : ℕ) → e % 1048576 < z.cells → e % 1048576 ≢ c → slice_index ws2 (value_at z e) ≡ slice_index ws (value_at z e)
  pub holder_is : (i : ℕ) → i ≢ c → holder2 i ≡ holder i
  pub led : (e : ℕ) → e % 1048576 ≢ c → s2.led e ≡ s.led e
  pub settled : (e : ℕ) → e % 1048576 ≢ c → is_settled h (call_of e) ≡ false → is_settled h2 (call_of e) ≡ false
  pub entered : (e : ℕ) → e % 1048576 ≢ c → joined h2 (call_of e) ≡ joined h (call_of e)

-- a cell has a name still
pub name_kept : (z : KeyedSizes) (ws ws2 : List ℕ) (e name : ℕ) → slice_index ws2 (name_at z e) ≡ slice_index ws (name_at z e) → slice_index ws2 (high_at z e) ≡ slice_index ws (high_at z e) → NameIs z ws e name → NameIs z ws2 e name
name_kept z ws ws2 e name low high is = record { low = low ∙ is.low; high = high ∙ is.high }

-- another seat's view
pub view_away : (z : KeyedSizes) (s s2 : Words) (h h2 : List KeyedEvent) (ws ws2 : List ℕ) (holder holder2 : ℕ → ℕ) (c k : ℕ) (u : View)
    → Away z s s2 h h2 ws ws2 holder holder2 c → IsPrefix h h2
    → (IsLook z s u → IsLook z s2 u) → (IsLook z s u → IsWalk z s u → IsWalk z s2 u)
    → (u.own ≢ 0 → u.own % 1048576 ≡ c → IsOwn z s ws holder k u.own u.named u.key → ⊥)
    → (u.leads ≢ 0 → u.leads % 1048576 ≡ c → IsLeads z s h ws holder k u.leads u.stored u.value → IsLeads z s2 h2 ws2 holder2 k u.leads u.stored u.value)
    → (u.ticket ≢ 0 → u.ticket % 1048576 ≡ c → IsTicket z s ws u.ticket u.done → IsTicket z s2 ws2 u.ticket u.done)
    → (u.last ≢ 0 → u.last % 1048576 ≡ c → IsLast z s ws holder k u.last → ⊥)
    → IsView z s h ws holder k u → IsView z s2 h2 ws2 holder2 k u
view_away z s s2 h h2 ws ws2 holder holder2 c k u away more look walk own leads ticket last m = record {
  seen = longer u.seen h h2 m.seen more;
  heard = longer u.heard h h2 m.heard more;
  look = look m.look;
  walk = λ yes. walk m.look (m.walk yes);
  own = λ any. let o = m.own any in dite (ℕ_discrete (u.own % 1048576) c)
      (λ here. absurd (own any here o))
      (λ apart. record {
        new = away.led u.own apart ∙ o.new;
        holder_is = away.holder_is (u.own % 1048576) apart ∙ o.holder_is;
        within = o.within;
        state = away.state u.own o.within apart ∙ o.state;
        name = λ yes. name_kept z ws ws2 u.own u.key (away.name u.own o.within apart) (away.high u.own o.within apart) (o.name yes);
      });
  begun = λ any yes. let o = m.own any in dite (ℕ_discrete (u.own % 1048576) c)
      (λ here. absurd (own any here o))
      (λ apart. let b = m.begun any yes in (away.name u.own o.within apart ∙ b.0, b.1));
  leads = λ any. let o = m.leads any in dite (ℕ_discrete (u.leads % 1048576) c)
      (λ here. leads any here o)
      (λ apart. record {
        led = away.led u.leads apart ∙ o.led;
        holder_is = away.holder_is (u.leads % 1048576) apart ∙ o.holder_is;
        within = o.within;
        generation = ap (λ n. n / 8388608) (away.state u.leads o.within apart) ∙ o.generation;
        runs = ap (λ n. n / 2097152 % 4 % 2) (away.state u.leads o.within apart) ∙ o.runs;
        unsettled = away.settled u.leads apart o.unsettled;
        value_is = λ yes. away.value u.leads o.within apart ∙ o.value_is yes;
        joins = says_on h h2 u.leads _ _ (ap (λ n. n / 1048576 % 2) (away.state u.leads o.within apart)) (away.entered u.leads apart) o.joins;
      });
  ticket = λ any. let o = m.ticket any in dite (ℕ_discrete (u.ticket % 1048576) c)
      (λ here. ticket any here o)
      (λ apart. record {
        led = away.led u.ticket apart ∙ o.led;
        within = o.within;
        generation = ap (λ n. n / 8388608) (away.state u.ticket o.within apart) ∙ o.generation;
        settled = λ yes. ap (λ n. n / 2097152 % 4 % 2) (away.state u.ticket o.within apart) ∙ o.settled yes;
      });
  last = λ any. let o = m.last any in dite (ℕ_discrete (u.last % 1048576) c)
      (λ here. absurd (last any here o))
      (λ apart. record {
        led = away.led u.last apart ∙ o.led;
        holder_is = away.holder_is (u.last % 1048576) apart ∙ o.holder_is;
        within = o.within;
        generation = ap (λ n. n / 8388608) (away.state u.last o.within apart) ∙ o.generation;
        settled = ap (λ n. n / 2097152 % 4 % 2) (away.state u.last o.within apart) ∙ o.settled;
        empty = ap (λ n. n % 1048576) (away.state u.last o.within apart) ∙ o.empty;
      });
}
