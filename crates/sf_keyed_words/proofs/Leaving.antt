-- A holder leaves its call, and the last one has the cell, which it may set free.
use Rattle.std.proofs.Common.{◌≡◌, ◌≢◌, ℕ, ◌+◌, ◌*◌, ◌/◌, ◌%◌, ◌<◌, ◌≤◌, Bool, true, false, cond, eqb, ◌&&◌, List, set, refl, sym, ◌∙◌, ap, subst, arith, ⊎_elim}
use Rattle.std.proofs.lemmas.Bool.{true≢false}
use Rattle.std.specs.Prelude.{slice_index}
use mathlib.Core.Option.{some}
use lib.ListN.{get_elem?}
use Rattle.atomic_table.specs.Table.{Me, stepped, keeps, Allows}
use Rattle.sf_lists.specs.Functions.{put}
use Rattle.sf_lists.proofs.Functions.{put_here, put_else}
use Rattle.sf_keyed_tells.specs.Tells.{KeyedEvent}
use Rattle.sf_keyed_laws.specs.Words.{Words}
use Rattle.sf_keyed_words.specs.declared.rule.KeyedSizes.{KeyedSizes}
use Rattle.sf_keyed_words.specs.declared.rule.View.{View}
use Rattle.sf_keyed_words.specs.Rule.{state_at, is_open_word, IsLeads, IsLast, IsView, held_at, stake, Holds}
use Rattle.sf_keyed_words.proofs.Seats.{made, view_away, held_here, held_else, sum_one}
use Rattle.sf_keyed_words.proofs.Results.{says_on}
use Rattle.sf_keyed_words.proofs.States.{state_set, shows_state, own_never, last_never, moved, away_state, whole, open_parts, open_from, shut_from}
use Rattle.std.proofs.lemmas.Bool.{and_parts, eqb-true, cases_Bool}
use Rattle.sf_keyed_words.specs.Plays.{lets_go, given_back}

-- a view without the call that it holds, or the cell that it has
abbrev unheld : View → View
unheld v = record v { ticket = 0; done = false }

unheld_view : (z : KeyedSizes) (s : Words) (h : List KeyedEvent) (ws : List ℕ) (holder : ℕ → ℕ) (k : ℕ) (v : View) → IsView z s h ws holder k v → IsView z s h ws holder k (unheld v)
unheld_view z s h ws holder k v m = record { seen = m.seen; heard = m.heard; look = m.look; walk = m.walk; own = m.own; begun = m.begun; leads = m.leads; ticket = λ no. absurd (no refl); last = m.last }

abbrev freed : View → View
freed v = record v { last = 0 }

freed_view : (z : KeyedSizes) (s : Words) (h : List KeyedEvent) (ws : List ℕ) (holder : ℕ → ℕ) (k : ℕ) (v : View) → IsView z s h ws holder k v → IsView z s h ws holder k (freed v)
freed_view z s h ws holder k v m = record { seen = m.seen; heard = m.heard; look = m.look; walk = m.walk; own = m.own; begun = m.begun; leads = m.leads; ticket = m.ticket; last = λ no. absurd (no refl) }

abbrev was_last : ℕ → Bool
was_last n = (eqb (n % 1048576) 1) && (eqb (n / 2097152 % 2) 1)

pub lets : (z : KeyedSizes) (slots id : ℕ) (me : Me ℕ View) → me.0.ticket ≢ 0
    → Allows (Holds z) slots id me (state_at z me.0.ticket) (λ n. (n + 18446744073709551615) % 18446744073709551616) (λ n after. after.0 ≡ lets_go me.0 n)
lets z slots id me some_call t p len is fits =
    let v = me.0 in
    let s = p.words in
    let h = p.history in
    let m = p.seats id v is in
    let e : ℕ = v.ticket in
    let c : ℕ = e % 1048576 in
    let i : ℕ = state_at z e in
    let hold = m.ticket some_call in
    let cell = hold.within in
    let old : ℕ = slice_index t.words i in
    let gen : old / 8388608 ≡ e / 1048576 = hold.generation in
    let within : old < 18446744073709551616 = fits in
    let mine_one = held_here c e some_call refl in
    let pos : 1 ≤ old % 1048576 = (let a = p.counts c cell in let b = sum_one (stake c) t.views id v is in omega (arith, a, b, mine_one)) in
    let new : ℕ = (old + 18446744073709551615) % 18446744073709551616 in
    let sum : new + 1 ≡ old = omega (arith, pos, within) in
    let new_gen : new / 8388608 ≡ old / 8388608 = omega (arith, pos, sum) in
    let new_tag : new / 2097152 % 4 ≡ old / 2097152 % 4 = omega (arith, pos, sum) in
    let new_held : new % 1048576 + 1 ≡ old % 1048576 = omega (arith, pos, sum) in
    let new_bit : new / 1048576 % 2 ≡ old / 1048576 % 2 = omega (arith, pos, sum) in
    let ws : List ℕ = set t.words i new in
    let st = state_set z t.words c new cell p.shows.size in
    let was : (d : ℕ) → d % 1048576 ≡ c → slice_index t.words (state_at z d) ≡ old = λ d here. ap (λ q. slice_index t.words (z.tops + z.sides + 8 * q)) here in
    let b : Bool = was_last old in
    let w : View = lets_go v old in
    let far : (holder2 : ℕ → ℕ) → ((j : ℕ) → j ≢ c → holder2 j ≡ p.holder j)
    → ((k : ℕ) (u : View) → u.leads % 1048576 ≡ c → IsLeads z s h t.words p.holder k u.leads u.stored u.value → IsLeads z s h ws holder2 k u.leads u.stored u.value)
    → (k : ℕ) (u : View) → IsView z s h t.words p.holder k u → IsView z s h ws holder2 k u
    = λ holder2 else lead k u view. view_away z s s h h t.words ws p.holder holder2 c k u (away_state z s s h h t.words ws p.holder holder2 c new st else (λ d. refl) (λ d _ before. before) (λ d _. refl)) (whole h) (λ l. l) (λ _ l. l)
    (λ any here o. own_never z s t.words p.holder k u.own u.named u.key old e c refl gen refl hold.led here o)
    (λ any here o. lead k u here o)
    (λ any here o. record {
      led = o.led;
      within = o.within;
      generation = ap (λ n. n / 8388608) (st.at u.ticket here) ∙ (new_gen ∙ (sym (ap (λ n. n / 8388608) (was u.ticket here)) ∙ o.generation));
      settled = λ yes. ap (λ n. n / 2097152 % 4 % 2) (st.at u.ticket here) ∙ (ap (λ n. n % 2) new_tag ∙ (sym (ap (λ n. n / 2097152 % 4 % 2) (was u.ticket here)) ∙ o.settled yes));
    })
    (λ any here o. last_never z p.words t.words p.holder k u.last old c refl (λ odd none. omega (arith, pos, none)) here o)
    view in
    let less : (d : ℕ) → held_at d 0 ≡ 0 = λ d. refl in
    let build : (holder2 : ℕ → ℕ) (all : (k : ℕ) (u : View) → IsView z s h t.words p.holder k u → IsView z s h ws holder2 k u) → (w.last ≢ 0 → IsLast z s ws holder2 id w.last) → Holds z (stepped t i new id me.1 w keeps)
    = λ holder2 all last. let mine = all id (unheld v) (unheld_view z s h t.words p.holder id v m) in
    made z t p id i new me w s h holder2 p.keeps p.tells p.members
    (shows_state z s h h t.words ws c old new s.closed cell st p.shows refl
    (λ d here led live. let o = open_parts _ d (p.shows.live d led live).0 in
    let a : old / 8388608 ≡ d / 1048576 = sym (ap (λ n. n / 8388608) (was d here)) ∙ o.0 in
    let two : old / 2097152 % 4 ≡ 2 = sym (ap (λ n. n / 2097152 % 4) (was d here)) ∙ o.1 in
    (open_from new d (new_gen ∙ a) (new_tag ∙ two), live))
    (λ d here led shut. shut_from new d (λ a two. true≢false (sym (open_from old d (sym new_gen ∙ a) (sym new_tag ∙ two)) ∙ (ap (λ n. is_open_word n d) (sym (was d here)) ∙ p.shows.shut d led shut))))
    (λ d apart. refl)
    p.shows.only
    (omega (arith, new_gen))
    (λ d here led a odd. p.shows.values d led (ap (λ n. n / 8388608) (was d here) ∙ (sym new_gen ∙ a)) (ap (λ n. n / 2097152 % 4 % 2) (was d here) ∙ (ap (λ n. n % 2) (sym new_tag) ∙ odd)))
    (λ d r a. a))
    is
    (moved z t.words ws c old new v w st refl (let a = less c in omega (arith, a, new_held, mine_one)) (λ d apart. let a = held_else d e (λ q. apart (sym q)) in let k = less d in omega (arith, a, k)))
    (λ k u apart at. all k u (p.seats k u at))
    (record {
      seen = mine.seen;
      heard = mine.heard;
      look = mine.look;
      walk = mine.walk;
      own = mine.own;
      begun = mine.begun;
      leads = mine.leads;
      ticket = λ no. absurd (no refl);
      last = last;
    }) in
    let more : b ≡ false → Holds z (stepped t i new id me.1 w keeps) = λ isnt.
    let all = far p.holder (λ j apart. refl) (λ k u here o. record {
      led = o.led;
      holder_is = o.holder_is;
      within = o.within;
      generation = ap (λ n. n / 8388608) (st.at u.leads here) ∙ (new_gen ∙ (sym (ap (λ n. n / 8388608) (was u.leads here)) ∙ o.generation));
      runs = ap (λ n. n / 2097152 % 4 % 2) (st.at u.leads here) ∙ (ap (λ n. n % 2) new_tag ∙ (sym (ap (λ n. n / 2097152 % 4 % 2) (was u.leads here)) ∙ o.runs));
      unsettled = o.unsettled;
      value_is = λ yes. st.value u.leads ∙ o.value_is yes;
      joins = says_on h h u.leads _ _ (ap (λ n. n / 1048576 % 2) (st.at u.leads here) ∙ (new_bit ∙ sym (ap (λ n. n / 1048576 % 2) (was u.leads here)))) refl o.joins;
    }) in
    build p.holder all (subst (λ l. l ≢ 0 → IsLast z s ws p.holder id l) (sym (ap (λ q. cond q v.ticket v.last) isnt)) (all id (unheld v) (unheld_view z s h t.words p.holder id v m)).last) in
    let last : b ≡ true → Holds z (stepped t i new id me.1 w keeps) = λ yes.
    let parts = and_parts (eqb (old % 1048576) 1) (eqb (old / 2097152 % 2) 1) yes in
    let single : old % 1048576 ≡ 1 = eqb-true _ _ parts.0 in
    let odd2 : old / 2097152 % 2 ≡ 1 = eqb-true _ _ parts.1 in
    let odd : old / 2097152 % 4 % 2 ≡ 1 = omega (arith, odd2) in
    let all = far (put p.holder c id) (λ j apart. put_else p.holder c id j apart) (λ k u here o.
    let even : old / 2097152 % 4 % 2 ≡ 0 = sym (ap (λ n. n / 2097152 % 4 % 2) (was u.leads here)) ∙ o.runs in
    absurd (omega (arith, odd, even))) in
    build (put p.holder c id) all (subst (λ l. l ≢ 0 → IsLast z s ws (put p.holder c id) id l) (sym (ap (λ q. cond q v.ticket v.last) yes)) (λ any. record {
      led = hold.led;
      holder_is = put_here p.holder c id;
      within = cell;
      generation = ap (λ n. n / 8388608) (st.at e refl) ∙ (new_gen ∙ gen);
      settled = ap (λ n. n / 2097152 % 4 % 2) (st.at e refl) ∙ (ap (λ n. n % 2) new_tag ∙ odd);
      empty = ap (λ n. n % 1048576) (st.at e refl) ∙ omega (arith, new_held, single);
    })) in
    (w, keeps, tt, ⊎_elim last more (cases_Bool b), refl)

pub record MayGive (z : KeyedSizes) (v : View) (new : ℕ) : Type 0 where
  pub last_one : v.last ≢ 0
  pub new_is : new ≡ v.last / 1048576 * 8388608

pub gives : (z : KeyedSizes) (slots id new : ℕ) (me : Me ℕ View) → MayGive z me.0 new → Allows (Holds z) slots id me (state_at z me.0.last) (λ _. new) (λ _ after. after.0 ≡ given_back me.0 new)
gives z slots id new me may t p len is fits =
    let v = me.0 in
    let s = p.words in
    let h = p.history in
    let m = p.seats id v is in
    let e : ℕ = v.last in
    let c : ℕ = e % 1048576 in
    let i : ℕ = state_at z e in
    let last = m.last may.last_one in
    let cell = last.within in
    let new_is = may.new_is in
    let old : ℕ = slice_index t.words i in
    let gen : old / 8388608 ≡ e / 1048576 = last.generation in
    let odd : old / 2097152 % 4 % 2 ≡ 1 = last.settled in
    let empty : old % 1048576 ≡ 0 = last.empty in
    let new_gen : new / 8388608 ≡ old / 8388608 = omega (arith, new_is, gen) in
    let new_tag : new / 2097152 % 4 ≡ 0 = omega (arith, new_is) in
    let new_held : new % 1048576 ≡ 0 = omega (arith, new_is) in
    let ws : List ℕ = set t.words i new in
    let st = state_set z t.words c new cell p.shows.size in
    let was : (d : ℕ) → d % 1048576 ≡ c → slice_index t.words (state_at z d) ≡ old = λ d here. ap (λ q. slice_index t.words (z.tops + z.sides + 8 * q)) here in
    let away = away_state z s s h h t.words ws p.holder p.holder c new st (λ j apart. refl) (λ d. refl) (λ d _ before. before) (λ d _. refl) in
    let far : (k : ℕ) (u : View) → (held_at c u.own + held_at c u.leads + held_at c u.ticket ≡ 0) → (u.last ≢ 0 → u.last % 1048576 ≡ c → IsLast z s t.words p.holder k u.last → ⊥) → IsView z s h t.words p.holder k u → IsView z s h ws p.holder k u
    = λ k u nothing other view. view_away z s s h h t.words ws p.holder p.holder c k u away (whole h) (λ l. l) (λ _ l. l)
    (λ any here o. let a = held_here c u.own any here in omega (arith, a, nothing))
    (λ any here o. absurd (let a = held_here c u.leads any here in omega (arith, a, nothing)))
    (λ any here o. absurd (let a = held_here c u.ticket any here in omega (arith, a, nothing)))
    other
    view in
    let zero_at : (k : ℕ) (u : View) → get_elem? t.views k ≡ some u → held_at c u.own + held_at c u.leads + held_at c u.ticket ≡ 0 = λ k u at. let a = p.counts c cell in let b = sum_one (stake c) t.views k u at in omega (arith, a, b, empty) in
    let mine = far id (freed v) (zero_at id v is) (λ any here o. any refl) (freed_view z s h t.words p.holder id v m) in
    let w : View = given_back v new in (
      w,
      keeps,
      tt,
      made z t p id i new me w s h p.holder p.keeps p.tells p.members
          (shows_state z s h h t.words ws c old new s.closed cell st p.shows refl
          (λ d here led live. let o = open_parts _ d (p.shows.live d led live).0 in
          let two : old / 2097152 % 4 ≡ 2 = sym (ap (λ n. n / 2097152 % 4) (was d here)) ∙ o.1 in absurd (omega (arith, two, odd)))
          (λ d here led shut. shut_from new d (λ a two. omega (arith, two, new_tag)))
          (λ d apart. refl)
          p.shows.only
          (omega (arith, new_gen))
          (λ d here led a odd. absurd (omega (arith, new_tag, odd)))
          (λ d r a. a))
          is
          (moved z t.words ws c old new v w st refl (ap (λ n. n + stake c v) (new_held ∙ sym empty)) (λ d apart. refl))
          (λ k u apart at. far k u (zero_at k u at) (λ any here o. apart (sym o.holder_is ∙ (ap p.holder here ∙ last.holder_is))) (p.seats k u at))
          (record {
            seen = mine.seen;
            heard = mine.heard;
            look = mine.look;
            walk = mine.walk;
            own = mine.own;
            begun = mine.begun;
            leads = mine.leads;
            ticket = mine.ticket;
            last = λ no. absurd (no refl);
          }),
      refl,
    )
